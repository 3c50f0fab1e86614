-- A line whose first word is that of another form.
use Rattle.std.proofs.Common.{◌≡◌, ◌≢◌, ℕ, zero, suc, ◌≤◌, Bool, true, false, not, eqb, ◌⊎◌, List, [], ◌∷◌, ◌++◌, length, Some, Result, Err, refl, sym, ap, subst, ◌∙◌, append_assoc, arith, length-append, inl, inr}
use Rattle.std.specs.Prelude.{◌&&◌}
use Rattle.std.specs.List.{list_all, slice_get}
use Rattle.std.specs.Str.{bytes_eq}
use Rattle.std.proofs.lemmas.Bool.{and_parts, eqb-true, ne_eqb}
use Rattle.std.proofs.lemmas.Slice.Eq.{bytes_eq-Decides}
use Rattle.term_core.specs.Tree.{Tree}
use Rattle.term_text.specs.Grammar.{begins, is_blank, AreBlanks}
use Rattle.mn_script.specs.declared.forms.Kind.{Kind}
use Rattle.mn_script.specs.Forms.{Shape, is_due, is_word, is_form, is_table}
use Rattle.mn_script.specs.Grammar.{AreArguments, IsBefore}
use Rattle.mn_script.specs.Reading.{◌>>=◌, at_end, argument_at, arguments_at, form_at}
use Rattle.mn_script.proofs.Readers.{behind, behind_gap, lacks_gap, at_end-cons, same_first, other_first, empty_text, no_line}
use Rattle.mn_script.proofs.Lines.{word_first}

-- the end, or a blank
abbrev pub Ends : List ℕ → Type 0
Ends rest = (rest ≡ []) ⊎ (begins is_blank rest ≡ true)

abbrev pub is_free : List ℕ → Bool
is_free = list_all (λ b. not (is_blank b))

pub not_true : (b : Bool) → not b ≡ true → b ≡ false
not_true true h = absurd cc
not_true false h = refl

free_first : (b : ℕ) (word : List ℕ) → is_free (b ∷ word) ≡ true → (is_blank b ≡ false) × (is_free word ≡ true)
free_first b word h = let parts = and_parts (not (is_blank b)) (is_free word) h in (not_true (is_blank b) parts.0, parts.1)

pub word_free : (word : List ℕ) → is_word word ≡ true → is_free word ≡ true
word_free [] is = absurd cc
word_free (b ∷ word) is = (and_parts (not (eqb b 37)) (is_free (b ∷ word)) is).1

-- arguments do not begin at once
no_arguments : (kinds : List Kind) (before : List Tree) (c : ℕ) (line : List ℕ) → is_blank c ≡ false
    → arguments_at kinds before (c ∷ line) ≡ Err (length (c ∷ line))
unfolding arguments_at
no_arguments [] before c line e = behind_gap false (at_end before) [] (c ∷ line) refl (λ never. absurd cc) e ∙ at_end-cons before c line
no_arguments (k ∷ ks) before c line e =
    lacks_gap (λ line. argument_at k line >>= λ x. arguments_at ks (before ++ x.0 ∷ []) x.1) (c ∷ line) e

-- refused, with so many bytes left at least
abbrev pub Refused : {A : Type 0} → Result A ℕ → ℕ → Type 0
Refused r least = (left : ℕ) × (r ≡ Err left) × (least ≤ left)

pub other_word : {Y : Type 0} (read : List ℕ → Result Y ℕ)
    → ((c : ℕ) (line : List ℕ) → is_blank c ≡ false → read (c ∷ line) ≡ Err (length (c ∷ line)))
    → (v w rest : List ℕ) → is_free v ≡ true → is_free w ≡ true → v ≢ w → Ends rest
    → Refused (behind v read (w ++ rest)) (length rest)
other_word read none [] [] rest v_free w_free other ends = absurd (other refl)
other_word read none [] (c ∷ w) rest v_free w_free other ends = (
  length (c ∷ (w ++ rest)),
  empty_text read (c ∷ (w ++ rest))
      ∙ none c (w ++ rest) (free_first c w w_free).0,
  omega (arith, length-append w rest),
)
other_word read none (b ∷ v) [] [] v_free w_free other ends = (0, no_line b v read, omega arith)
other_word read none (b ∷ v) [] (c ∷ rest) v_free w_free other (inl e) = absurd cc
other_word read none (b ∷ v) [] (c ∷ rest) v_free w_free other (inr blank) =
    let differ : eqb b c ≡ false = ne_eqb b c
    (λ same. absurd (let wrong : true ≡ false = sym blank ∙ ap is_blank (sym same) ∙ (free_first b v v_free).0 in cc)) in
    (length (c ∷ rest), other_first b c v rest read differ, omega arith)
other_word read none (b ∷ v) (c ∷ w) rest v_free w_free other ends =
    by (other_word read none v w rest (free_first b v v_free).1 (free_first c w w_free).1) (eqb b c) refl
  where
    by : (v ≢ w → Ends rest → Refused (behind v read (w ++ rest)) (length rest)) → (t : Bool) → eqb b c ≡ t
        → Refused (behind (b ∷ v) read (c ∷ (w ++ rest))) (length rest)
    by again true same =
        let inner = again (λ e. other (λ i. eqb-true b c same i ∷ e i)) ends in
        (inner.0, same_first b c v (w ++ rest) read same ∙ inner.1, inner.2)
    by again false differ = (length (c ∷ (w ++ rest)), other_first b c v (w ++ rest) read differ, omega (arith, length-append w rest))

pub other_form : (f g : Shape) → is_word f.word ≡ true → is_word g.word ≡ true → f.word ≢ g.word → (gap rest : List ℕ)
    → AreBlanks gap → Ends rest
    → Refused (form_at f (gap ++ (g.word ++ rest))) (length rest)
unfolding form_at
other_form f g f_word g_word other gap rest are ends =
    let inner = other_word (arguments_at f.kinds []) (no_arguments f.kinds []) f.word g.word rest (word_free f.word f_word)
    (word_free g.word g_word) other ends in (
      inner.0,
      behind_gap false (behind f.word (arguments_at f.kinds [])) gap (g.word ++ rest) are (λ never. absurd cc)
          (word_first g.word rest g_word) ∙ inner.1,
      inner.2,
    )

-- ---- what follows a word

blank_first : (gap rest : List ℕ) → AreBlanks gap → gap ≢ [] → begins is_blank (gap ++ rest) ≡ true
blank_first [] rest are some = absurd (some refl)
blank_first (b ∷ gap) rest are some = (and_parts (is_blank b) (list_all is_blank gap) are).0

pub arguments_end : (ks : List Kind) (ts : List Tree) (rest : List ℕ) → AreArguments ks ts rest → Ends rest
arguments_end [] [] [] are = inl refl
arguments_end [] [] (b ∷ rest) are = inr (and_parts (is_blank b) (list_all is_blank rest) are).0
arguments_end [] (t ∷ ts) rest are = absurd are
arguments_end (k ∷ ks) [] rest are = absurd are
arguments_end (k ∷ ks) (t ∷ ts) rest (gap, argument, more, are, some, is, others, parts) =
    inr (ap (begins is_blank) parts ∙ blank_first gap (argument ++ more) are some)

pub before_end : (ks : List Kind) (kind : Kind) (front rest : List ℕ) → IsBefore ks kind front → Ends (front ++ rest)
before_end [] kind front rest none = absurd none
before_end (k ∷ ks) kind front rest (inl (are, some, same)) = inr (blank_first front rest are some)
before_end (k ∷ ks) kind front rest (inr (gap, argument, more, t, are, some, is, before, parts)) =
    inr (ap (λ (x : List ℕ). begins is_blank (x ++ rest)) parts ∙ ap (begins is_blank) (append_assoc gap (argument ++ more) rest)
    ∙ blank_first gap ((argument ++ more) ++ rest) are some)

pub before_some : (ks : List Kind) (kind : Kind) (front : List ℕ) → IsBefore ks kind front → front ≢ []
before_some [] kind front none = absurd none
before_some (k ∷ ks) kind front (inl (are, some, same)) = some
before_some (k ∷ ks) kind front (inr ([], argument, more, t, are, some, is, before, parts)) = absurd (some refl)
before_some (k ∷ ks) kind front (inr (b ∷ gap, argument, more, t, are, some, is, before, parts)) =
    λ none. let wrong : [] ≡ b ∷ (gap ++ (argument ++ more)) = sym none ∙ parts in absurd cc

-- ---- the forms of a table

abbrev pub differs : Shape → Shape → Bool
differs form other = not (bytes_eq form.word other.word)

pub record IsTable (form : Shape) (forms : List Shape) : Type 0 where
  pub word : is_word form.word ≡ true
  pub due : list_all is_due form.kinds ≡ true
  pub apart : list_all (differs form) forms ≡ true
  pub others : is_table forms ≡ true

pub table : (form : Shape) (forms : List Shape) → is_table (form ∷ forms) ≡ true → IsTable form forms
table form forms is =
    let a = and_parts (is_form form) (list_all (differs form) forms && is_table forms) is in
    let b = and_parts (is_word form.word) (list_all is_due form.kinds) a.0 in
    let c = and_parts (list_all (differs form) forms) (is_table forms) a.1 in
    record { word = b.0; due = b.1; apart = c.0; others = c.1 }

pub differ : (f g : Shape) → differs f g ≡ true → f.word ≢ g.word
differ f g h same =
    let wrong : true ≡ false = sym ((bytes_eq-Decides f.word g.word).1 same) ∙ not_true (bytes_eq f.word g.word) h in absurd cc

pub all_differ : (f g : Shape) (forms : List Shape) (n : ℕ) → list_all (differs f) forms ≡ true
    → slice_get forms n ≡ Some g → f.word ≢ g.word
all_differ f g [] n all is = absurd cc
all_differ f g (h ∷ forms) zero all is =
    let same : h ≡ g = cc in
    differ f g (subst (λ (x : Shape). differs f x ≡ true) same (and_parts (differs f h) (list_all (differs f) forms) all).0)
all_differ f g (h ∷ forms) (suc n) all is = all_differ f g forms n (and_parts (differs f h) (list_all (differs f) forms) all).1 is

pub same_word : (forms : List Shape) → is_table forms ≡ true → (m n : ℕ) (f g : Shape) → slice_get forms m ≡ Some f
    → slice_get forms n ≡ Some g → f.word ≡ g.word → f ≡ g
same_word [] is m n f g here there same = absurd cc
same_word (form ∷ forms) is zero zero f g here there same = let a : form ≡ f = cc in let b : form ≡ g = cc in sym a ∙ b
same_word (form ∷ forms) is zero (suc n) f g here there same =
    let a : form ≡ f = cc in absurd (all_differ form g forms n (table form forms is).apart there (ap (λ (x : Shape). x.word) a ∙ same))
same_word (form ∷ forms) is (suc m) zero f g here there same =
    let b : form ≡ g = cc in absurd (all_differ form f forms m (table form forms is).apart here (ap (λ (x : Shape). x.word) b ∙ sym same))
same_word (form ∷ forms) is (suc m) (suc n) f g here there same = same_word forms (table form forms is).others m n f g here there same

pub record IsOf (form : Shape) : Type 0 where
  pub word : is_word form.word ≡ true
  pub due : list_all is_due form.kinds ≡ true

pub is_of : (forms : List Shape) → is_table forms ≡ true → (n : ℕ) (form : Shape) → slice_get forms n ≡ Some form
    → IsOf form
is_of [] is n form here = absurd cc
is_of (first ∷ forms) is zero form here =
    let a : first ≡ form = cc in let t = table first forms is in subst IsOf a (record { word = t.word; due = t.due })
is_of (first ∷ forms) is (suc n) form here = is_of forms (table first forms is).others n form here
