-- An argument that is wrong makes its line so, at its place.
use Rattle.std.proofs.Common.{◌≡◌, ◌≢◌, ℕ, zero, suc, ◌+◌, ◌-◌, ◌≤◌, Bool, true, false, ◌⊎◌, List, [], ◌∷◌, ◌++◌, length, Some, Result, Ok, Err, refl, sym, ap, ◌∙◌, append_assoc, arith, length-append, inl, inr}
use Rattle.std.specs.Prelude.{min}
use Rattle.std.specs.List.{slice_get}
use Rattle.std.specs.Str.{bytes_eq}
use Rattle.std.proofs.lemmas.Bool.{eq-eqb}
use Rattle.std.proofs.lemmas.Bool.Decides.{nat_tests}
use Rattle.std.proofs.lemmas.Slice.Eq.{bytes_eq-Decides}
use Rattle.term_core.specs.Tree.{Tree}
use Rattle.term_text.specs.Grammar.{begins, is_blank, is_name_byte, AreBlanks, Stops}
use Rattle.term_text.specs.Places.{read}
use Rattle.term_text.proofs.Texts.{stops, text_begins}
use Rattle.mn_script.specs.declared.forms.Kind.{Kind}
use Rattle.mn_script.specs.declared.forms.Kind.TheVariants as kinds
use Rattle.mn_script.specs.Forms.{Shape, fits, may_begin, is_word, is_table}
use Rattle.mn_script.specs.Grammar.{IsBefore, IsUnfit, IsRefusedAt, IsWrongArgument}
use Rattle.mn_script.specs.Reading.{◌>>=◌, behind_blanks, field_at, fitting, argument_at, arguments_at, form_at, further, line_from, line_at}
use Rattle.mn_script.proofs.Fields.{field_again, field_wrong}
use Rattle.mn_script.proofs.Argument.{argument_again, argument_within}
use Rattle.mn_script.proofs.Readers.{behind, behind_gap, same_first, empty_text}
use Rattle.mn_script.proofs.Lines.{word_first, no_blank_first}
use Rattle.mn_script.proofs.Tables.{some_form}
use Rattle.mn_script.proofs.Others.{Ends, is_of, same_word, other_form, before_end}
use Rattle.mn_script.proofs.OverForms.{none_left}

-- ---- the argument

starts_free : (k : Kind) (c : ℕ) → may_begin k c ≡ true → is_blank c ≡ false
starts_free kinds.Term c h = grind (arith, nat_tests)
starts_free kinds.Atom c h = grind (arith, nat_tests)
starts_free kinds.Name c h = grind (arith, nat_tests)
starts_free (kinds.Number low high) c h = grind (arith, nat_tests)

starts_free_all : (k : Kind) (rest : List ℕ) → begins (may_begin k) rest ≡ true → begins is_blank rest ≡ false
starts_free_all k [] h = refl
starts_free_all k (c ∷ rest) h = starts_free k c h

pub record WrongHere (kind : Kind) (line rest : List ℕ) (at : ℕ) : Type 0 where
  pub refused : argument_at kind rest ≡ Err (length line - at)
  pub within : at ≤ length line

wrong_here : (line front rest : List ℕ) (kind : Kind) (at : ℕ) → line ≡ front ++ rest
    → begins (may_begin kind) rest ≡ true
    → (IsRefusedAt (read 100 line (length front)) at ⊎ (IsUnfit kind rest × (at ≡ length front)))
    → WrongHere kind line rest at
unfolding argument_at
wrong_here line front rest kind at parts begin (inl h) =
    let wrong = field_wrong line front rest at parts h in
    record { refused = rw begin (ap (λ r. r >>= fitting kind (length rest)) wrong.refused); within = wrong.within }
wrong_here line front rest kind at parts begin (inr (unfit, place)) =
    let found : field_at rest ≡ Ok (unfit.0, unfit.2) = ap field_at unfit.7
    ∙ field_again unfit.1 unfit.2 unfit.0 (unfit.3, unfit.4) unfit.5 in
    let left : length rest ≡ length line - at = omega (arith, place, ap length parts, length-append front rest) in
    record {
      refused =
          rw begin (ap (λ r. r >>= fitting kind (length rest)) found ∙ unfitting kind unfit.0 unfit.2 (length rest) unfit.6 ∙ ap Err left);
      within = omega (arith, place, ap length parts, length-append front rest);
    }
  where
    unfitting : (kind : Kind) (t : Tree) (more : List ℕ) (left : ℕ) → fits kind t ≡ false
        → fitting kind left (t, more) ≡ Err left
    unfitting kind t more left e = rw e refl

-- ---- the line

blank_is_no_name : (b : ℕ) → is_blank b ≡ true → is_name_byte b ≡ false
blank_is_no_name b h = grind (arith, nat_tests)

delimited : (rest : List ℕ) → Ends rest → begins is_name_byte rest ≡ false
delimited [] ends = refl
delimited (b ∷ rest) (inl none) = absurd cc
delimited (b ∷ rest) (inr blank) = blank_is_no_name b blank

arguments_wrong : (ks : List Kind) (before : List Tree) (kind : Kind) (front rest : List ℕ) (left : ℕ)
    → IsBefore ks kind front → begins is_blank rest ≡ false → argument_at kind rest ≡ Err left
    → arguments_at ks before (front ++ rest) ≡ Err left
unfolding arguments_at
arguments_wrong [] before kind front rest left none free e = absurd none
arguments_wrong (k ∷ ks) before kind front rest left (inl (are, some, same)) free e =
    let next : Tree × List ℕ → Result (List Tree) ℕ = λ x. arguments_at ks (before ++ x.0 ∷ []) x.1 in
    behind_gap true (λ line. argument_at k line >>= next) front rest are (λ due. some) free
    ∙ ap (λ r. r >>= next) (ap (λ (x : Kind). argument_at x rest) same ∙ e)
arguments_wrong (k ∷ ks) before kind front rest left (inr (gap, argument, inner, t, are, some, is, others, parts)) free e =
    let next : Tree × List ℕ → Result (List Tree) ℕ = λ x. arguments_at ks (before ++ x.0 ∷ []) x.1 in
    let whole : front ++ rest ≡ gap ++ (argument ++ (inner ++ rest)) =
    ap (λ (x : List ℕ). x ++ rest) parts ∙ append_assoc gap (argument ++ inner) rest
    ∙ ap (λ (x : List ℕ). gap ++ x) (append_assoc argument inner rest)
    in
    let stop : Stops t argument (inner ++ rest) = stops t argument (inner ++ rest)
    (delimited (inner ++ rest) (before_end ks kind inner rest others)) in
    ap (behind_blanks true (λ line. argument_at k line >>= next)) whole
    ∙ behind_gap true (λ line. argument_at k line >>= next) gap (argument ++ (inner ++ rest)) are (λ due. some)
    (no_blank_first argument (inner ++ rest) (text_begins t argument is.0))
    ∙ ap (λ r. r >>= next) (argument_again k argument (inner ++ rest) t is stop)
    ∙ arguments_wrong ks (before ++ t ∷ []) kind inner rest left others free e

word_read : {Y : Type 0} (word rest : List ℕ) (read : List ℕ → Result Y ℕ) → behind word read (word ++ rest) ≡ read rest
word_read [] rest read = empty_text read rest
word_read (b ∷ word) rest read = same_first b b word (word ++ rest) read (eq-eqb b b refl) ∙ word_read word rest read

form_wrong : (form : Shape) → is_word form.word ≡ true → (gap inner rest : List ℕ) (kind : Kind) (left : ℕ)
    → AreBlanks gap → IsBefore form.kinds kind inner → begins is_blank rest ≡ false → argument_at kind rest ≡ Err left
    → form_at form (gap ++ (form.word ++ (inner ++ rest))) ≡ Err left
unfolding form_at
form_wrong form is gap inner rest kind left are before free e =
    behind_gap false (behind form.word (arguments_at form.kinds [])) gap (form.word ++ (inner ++ rest)) are (λ never. absurd cc)
    (word_first form.word (inner ++ rest) is)
    ∙ word_read form.word (inner ++ rest) (arguments_at form.kinds []) ∙ arguments_wrong form.kinds [] kind inner rest left before free e

-- ---- the table

line_least : (forms : List Shape) (m start : ℕ) (line : List ℕ) (left : ℕ) → left ≤ start
    → ((k : ℕ) (other : Shape) → slice_get forms k ≡ Some other → (a : ℕ) × (form_at other line ≡ Err a) × (left ≤ a))
    → ((start ≡ left) ⊎ ((n : ℕ) × (form : Shape) × (slice_get forms n ≡ Some form) × (form_at form line ≡ Err left)))
    → line_from m start forms line ≡ Err left
line_least [] m start line left le all (inl same) = none_left m start line ∙ ap Err same
line_least [] m start line left le all (inr (n, form, here, e)) = absurd cc
line_least (first ∷ forms) m start line left le all some =
    let a = all 0 first refl in
    some_form m start first forms line ∙ ap (further m start (λ least. line_from (m + 1) least forms line)) a.1
    ∙ line_least forms (m + 1) (min start a.0) line left (omega (arith, le, a.2)) (λ k other there. all (suc k) other there)
    (rest a.0 a.1 a.2 some)
  where
    err_same : {m n : ℕ} → (let r : Result (List Tree) ℕ = Err m in r) ≡ Err n → m ≡ n
    err_same e = cc

    rest : (a : ℕ) → form_at first line ≡ Err a → left ≤ a
        → ((start ≡ left) ⊎ ((n : ℕ) × (form : Shape) × (slice_get (first ∷ forms) n ≡ Some form)
        × (form_at form line ≡ Err left)))
        → (min start a ≡ left)
        ⊎ ((n : ℕ) × (form : Shape) × (slice_get forms n ≡ Some form) × (form_at form line ≡ Err left))
    rest a e above (inl same) = inl (omega (arith, same, above))
    rest a e above (inr (zero, form, here, f)) =
        let same : first ≡ form = cc in
        let equal : a ≡ left = err_same (sym e ∙ ap (λ (x : Shape). form_at x line) same ∙ f) in
        inl (omega (arith, equal, le))
    rest a e above (inr (suc n, form, here, f)) = inr (n, form, here, f)

pub wrong_line : (forms : List Shape) → is_table forms ≡ true → (line : List ℕ) (at : ℕ) → IsWrongArgument forms line at
    → (line_at forms line ≡ Err (length line - at)) × (at ≤ length line)
wrong_line forms is line at w = (line_least forms 0 (length line) line left (omega arith) all (inr (n, form, here, own)), wrong.within)
  where
    left : ℕ
    left = length line - at

    n : ℕ
    n = w.due.before.0

    form : Shape
    form = w.due.before.1

    here : slice_get forms n ≡ Some form
    here = w.due.before.2

    gap : List ℕ
    gap = w.due.before.3

    inner : List ℕ
    inner = w.due.before.4

    wrong : WrongHere w.due.kind line w.due.rest at
    wrong = wrong_here line w.due.front w.due.rest w.due.kind at w.due.parts w.due.begin w.refused

    whole : line ≡ gap ++ (form.word ++ (inner ++ w.due.rest))
    whole =
        w.due.parts ∙ ap (λ (x : List ℕ). x ++ w.due.rest) w.due.before.7 ∙ append_assoc gap (form.word ++ inner) w.due.rest
        ∙ ap (λ (x : List ℕ). gap ++ x) (append_assoc form.word inner w.due.rest)

    own : form_at form line ≡ Err left
    own =
        ap (form_at form) whole
        ∙ form_wrong form (is_of forms is n form here).word gap inner w.due.rest w.due.kind left w.due.before.5 w.due.before.6
        (starts_free_all w.due.kind w.due.rest w.due.begin) wrong.refused

    all : (k : ℕ) (other : Shape) → slice_get forms k ≡ Some other → (a : ℕ) × (form_at other line ≡ Err a) × (left ≤ a)
    all k other there = by (bytes_eq other.word form.word) refl
      where
        by : (b : Bool) → bytes_eq other.word form.word ≡ b → (a : ℕ) × (form_at other line ≡ Err a) × (left ≤ a)
        by true same =
            let e : other ≡ form = same_word forms is k n other form there here ((bytes_eq-Decides other.word form.word).0 same) in
            (left, ap (λ (x : Shape). form_at x line) e ∙ own, omega arith)
        by false differ =
            let apart : other.word ≢ form.word = λ same. let wrong : true ≡ false = sym ((bytes_eq-Decides other.word form.word).1 same)
            ∙ differ in absurd cc in
            let b = other_form other form (is_of forms is k other there).word (is_of forms is n form here).word apart gap
            (inner ++ w.due.rest) w.due.before.5 (before_end form.kinds w.due.kind inner w.due.rest w.due.before.6) in (
              b.0,
              ap (form_at other) whole
                  ∙ b.1,
              omega (arith, b.2, argument_within w.due.kind w.due.rest left wrong.refused, length-append inner w.due.rest),
            )
