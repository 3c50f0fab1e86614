-- The arguments that are read.
use Rattle.std.proofs.Common.{◌≡◌, ℕ, ◌<◌, ◌≤◌, Bool, true, false, cond, List, [], ◌∷◌, ◌++◌, length, Ok, Err, refl, sym, ap, ◌∙◌, arith, codes, pos, lit≤}
use Rattle.std.specs.Prelude.{decimal, nat_le, nat_lt, negsuc}
use Rattle.std.specs.Char.{is_ascii_digit, is_ascii_lowercase}
use Rattle.std.specs.Str.Parse.{IsNumeral}
use Rattle.std.specs.Prelude.{◌||◌}
use Rattle.std.specs.List.{list_all}
use Rattle.std.proofs.lemmas.Bool.{and_parts, and_from, le-leb, ltb-true}
use Rattle.std.proofs.lemmas.Fmt.{decimal_is_IsNumeral_wide}
use Rattle.term_text.proofs.Texts.{text_begins}
use Rattle.std.proofs.lemmas.Bool.Decides.{nat_tests}
use Rattle.term_core.specs.Tree.{Tree, int, atom, tuple, list, bin}
use Rattle.term_text.specs.Grammar.{begins, is_blank, IsText, IsAtom, Stops}
use Rattle.term_text.specs.Reading.{may_begin_term}
use Rattle.term_text.specs.Grammar as grammar
use Rattle.term_text.proofs.Decimals.{digits_pass}
use Rattle.term_text.proofs.Refused.{zero_is}
use Rattle.mn_script.specs.declared.forms.Kind.{Kind}
use Rattle.mn_script.specs.declared.forms.Kind.TheVariants as kind
use Rattle.mn_script.specs.Forms.{fits, may_begin, is_due}
use Rattle.mn_script.specs.Grammar.{IsArgument}
use Rattle.mn_script.specs.Reading.{◌>>=◌, field_at, fitting, argument_at}
use Rattle.mn_script.proofs.Fields.{field_read, field_again, field_within}
use Rattle.mn_script.proofs.Refusals.{bind_ok, BindErr, at_first, at_second, bind_err}

-- ---- what is read

pub record ArgumentRead (k : Kind) (line : List ℕ) (t : Tree) (rest : List ℕ) : Type 0 where
  pub text : List ℕ
  pub is : IsArgument k text t
  pub parts : line ≡ text ++ rest
  pub stops : Stops t text rest

fitting_ok : (k : Kind) (left : ℕ) (x : Tree × List ℕ) (t : Tree) (rest : List ℕ) → fitting k left x ≡ Ok (t, rest)
    → (fits k t ≡ true) × (x ≡ (t, rest))
fitting_ok k left x t rest e = by (fits k x.0) refl e
  where
    by : (b : Bool) → fits k x.0 ≡ b → cond b (Ok x) (Err left) ≡ Ok (t, rest) → (fits k t ≡ true) × (x ≡ (t, rest))
    by true is h = let same : x ≡ (t, rest) = cc in (ap (λ (y : Tree × List ℕ). fits k y.0) (sym same) ∙ is, same)
    by false is h = absurd cc

pub argument_read : (k : Kind) (line : List ℕ) (t : Tree) (rest : List ℕ) → argument_at k line ≡ Ok (t, rest)
    → ArgumentRead k line t rest
unfolding argument_at
argument_read k line t rest e = by (begins (may_begin k) line) e
  where
    by : (b : Bool) → cond b (field_at line >>= fitting k (length line)) (Err (length line)) ≡ Ok (t, rest)
        → ArgumentRead k line t rest
    by false h = absurd cc
    by true h =
        let step = bind_ok (field_at line) (fitting k (length line)) (t, rest) h in
        let fit = fitting_ok k (length line) step.0 t rest step.2 in
        let field = field_read line t rest (step.1 ∙ ap Ok fit.1) in
        record { text = field.text; is = (field.is.0, field.is.1, fit.0); parts = field.parts; stops = field.stops }

pub argument_lacks : (k : Kind) (line : List ℕ) → begins (may_begin k) line ≡ false
    → argument_at k line ≡ Err (length line)
unfolding argument_at
argument_lacks k line e = rw e refl

-- ---- what is read again

no_blank : (b : ℕ) → may_begin_term b ≡ true → is_blank b ≡ false
no_blank b h = grind (arith, nat_tests)

some_term : (t : Tree) (text : List ℕ) → IsText t text → begins (may_begin kind.Term) text ≡ true
some_term t [] is = let begin = text_begins t [] is in absurd cc
some_term t (b ∷ text) is = let other : is_blank b ≡ false = no_blank b (text_begins t (b ∷ text) is) in rw other refl

quote_or : (b : Bool) → b ≡ true → (b || false) ≡ true
quote_or b e = rw e refl

name_begins : (a : List ℕ) → grammar.is_name a ≡ true → begins (may_begin kind.Atom) a ≡ true
name_begins [] is = absurd cc
name_begins (c ∷ a) is = let lower = (and_parts (is_ascii_lowercase c) (list_all grammar.is_name_byte a) is).0 in rw lower refl

atom_begins : (a text : List ℕ) → IsAtom a text → begins (may_begin kind.Atom) text ≡ true
atom_begins a text (grammar.bare is short e) = rw e (name_begins a is)
atom_begins a text (grammar.quoted cs is short e) = rw is.2 refl

digits_begin : (text : List ℕ) → IsNumeral 10 text → begins is_ascii_digit text ≡ true
digits_begin [] is = absurd (omega (arith, is.0))
digits_begin (c ∷ text) is = (and_parts (is_ascii_digit c) (list_all is_ascii_digit text) (digits_pass (c ∷ text) is.1)).0

-- the text of a term of a kind begins as one may
pub kind_begins : (k : Kind) (t : Tree) (text : List ℕ) → IsText t text → fits k t ≡ true
    → begins (may_begin k) text ≡ true
kind_begins kind.Term t text is fit = some_term t text is
kind_begins kind.Atom (atom a) text is fit = atom_begins a text is
kind_begins kind.Atom (int n) text is fit = absurd cc
kind_begins kind.Atom (tuple ts) text is fit = absurd cc
kind_begins kind.Atom (list ts) text is fit = absurd cc
kind_begins kind.Atom (bin b) text is fit = absurd cc
kind_begins kind.Name (atom a) text is fit = atom_begins a text is
kind_begins kind.Name (int n) text is fit = absurd cc
kind_begins kind.Name (tuple ts) text is fit = absurd cc
kind_begins kind.Name (list ts) text is fit = absurd cc
kind_begins kind.Name (bin b) text is fit = absurd cc
kind_begins (kind.Number low high) (int (pos n)) text is fit =
    rw is.1 (digits_begin (decimal n) (decimal_is_IsNumeral_wide n (omega (arith, is.0.sfits))).0)
kind_begins (kind.Number low high) (int (negsuc n)) text is fit = absurd cc
kind_begins (kind.Number low high) (atom a) text is fit = absurd cc
kind_begins (kind.Number low high) (tuple ts) text is fit = absurd cc
kind_begins (kind.Number low high) (list ts) text is fit = absurd cc
kind_begins (kind.Number low high) (bin b) text is fit = absurd cc

begins_front : (p : ℕ → Bool) (text rest : List ℕ) → begins p text ≡ true → begins p (text ++ rest) ≡ true
begins_front p [] rest h = absurd cc
begins_front p (b ∷ text) rest h = h

pub argument_again : (k : Kind) (text rest : List ℕ) (t : Tree) → IsArgument k text t → Stops t text rest
    → argument_at k (text ++ rest) ≡ Ok (t, rest)
unfolding argument_at
argument_again k text rest t is stops =
    rw (begins_front (may_begin k) text rest (kind_begins k t text is.0 is.2), field_again text rest t (is.0, is.1) stops, is.2) refl

-- ---- some argument of each kind

pub some_argument : (k : Kind) → is_due k ≡ true → (text : List ℕ) × (t : Tree) × IsArgument k text t
some_argument kind.Term due = (codes "0", int (pos 0), (zero_is, lit≤ tt, refl))
some_argument kind.Atom due = (codes "a", atom (codes "a"), (grammar.bare refl (lit≤ tt) refl, lit≤ tt, refl))
some_argument kind.Name due = (codes "a", atom (codes "a"), (grammar.bare refl (lit≤ tt) refl, lit≤ tt, refl))
some_argument (kind.Number low high) due =
    let parts = and_parts (nat_le low high) (nat_lt low 18446744073709551616) due in
    let least : nat_le low low ≡ true = le-leb low low (omega arith) in
    let small : low < 18446744073709551616 = ltb-true low 18446744073709551616 parts.1 in (
      decimal low,
      int (pos low),
      ((record { sfits = omega (arith, small) }, refl), lit≤ tt, and_from (nat_le low low) (nat_le low high) least parts.0),
    )

pub argument_within : (k : Kind) (line : List ℕ) (left : ℕ) → argument_at k line ≡ Err left → left ≤ length line
unfolding argument_at
argument_within k line left e = by (begins (may_begin k) line) e
  where
    fit : (b : Bool) (x : Tree × List ℕ) → cond b (Ok x) (Err (length line)) ≡ Err left → left ≤ length line
    fit true x h = absurd cc
    fit false x h = let same : length line ≡ left = cc in omega (arith, same)

    bound : BindErr (field_at line) (fitting k (length line)) left → left ≤ length line
    bound (at_first h) = field_within line left h
    bound (at_second x h f) = fit (fits k x.0) x f

    by : (b : Bool) → cond b (field_at line >>= fitting k (length line)) (Err (length line)) ≡ Err left
        → left ≤ length line
    by true h = bound (bind_err (field_at line) (fitting k (length line)) left h)
    by false h = let same : length line ≡ left = cc in omega (arith, same)
