-- The reader over a table of forms.
use Rattle.std.proofs.Common.{◌≡◌, ℕ, zero, suc, ◌+◌, ◌<◌, ◌≤◌, true, ◌⊎◌, List, [], ◌∷◌, Some, Result, Ok, Err, refl, sym, ap, subst, ◌∙◌, arith, inl, inr}
use Rattle.std.specs.Prelude.{min}
use Rattle.std.specs.List.{slice_get}
use Rattle.std.proofs.lemmas.Bool.{cases_lt}
use Rattle.term_core.specs.Tree.{Tree}
use Rattle.mn_script.specs.Forms.{Shape, is_table}
use Rattle.mn_script.specs.Grammar.{IsLine}
use Rattle.mn_script.specs.Reading.{form_at, further, line_from}
use Rattle.mn_script.proofs.Lines.{form_reader, form_is_line, line_is_form}
use Rattle.mn_script.proofs.Tables.{some_form, left_least}
use Rattle.mn_script.proofs.Others.{table, is_of, all_differ, other_form, arguments_end}

-- ---- what is read

pub again : (forms : List Shape) → is_table forms ≡ true
    → (n m left : ℕ) (form : Shape) (ts : List Tree) (line : List ℕ)
    → slice_get forms n ≡ Some form → IsLine form ts line → line_from m left forms line ≡ Ok (m + n, ts)
again [] is n m left form ts line here h = absurd cc
again (first ∷ forms) is zero m left form ts line here h =
    let t = table first forms is in
    let same : form ≡ first = cc in
    let e : form_at first line ≡ Ok ts = (form_reader first t.word t.due).again line ts
    (line_is_form first line ts (subst (λ (x : Shape). IsLine x ts line) same h)) in
    some_form m left first forms line ∙ ap (further m left (λ least. line_from (m + 1) least forms line)) e
    ∙ ap (λ (k : ℕ). Ok (k, ts)) (omega arith)
again (first ∷ forms) is (suc n) m left form ts line here (gap, rest, are, arguments, parts) =
    let t = table first forms is in
    let of = is_of forms t.others n form here in
    let other = other_form first form t.word of.word (all_differ first form forms n t.apart here) gap rest are
    (arguments_end form.kinds ts rest arguments) in
    let e : form_at first line ≡ Err other.0 = ap (form_at first) parts ∙ other.1 in
    some_form m left first forms line ∙ ap (further m left (λ least. line_from (m + 1) least forms line)) e
    ∙ again forms t.others n (m + 1) (min left other.0) form ts line here (gap, rest, are, arguments, parts)
    ∙ ap (λ (k : ℕ). Ok (k, ts)) (omega arith)

pub record Found (forms : List Shape) (m : ℕ) (line : List ℕ) (x : ℕ × List Tree) : Type 0 where
  pub n : ℕ
  pub form : Shape
  pub number : x.0 ≡ m + n
  pub is : slice_get forms n ≡ Some form
  pub line_is : IsLine form x.1 line

pub none_left : (m left : ℕ) (line : List ℕ) → line_from m left [] line ≡ Err left
unfolding line_from
none_left m left line = refl

pub found : (forms : List Shape) → is_table forms ≡ true → (m left : ℕ) (line : List ℕ) (x : ℕ × List Tree)
    → line_from m left forms line ≡ Ok x → Found forms m line x
found [] is m left line x e = let none = none_left m left line in absurd cc
found (first ∷ forms) is m left line x e =
    by (form_at first line) refl (λ least h. found forms (table first forms is).others (m + 1) least line x h)
    (sym (some_form m left first forms line) ∙ e)
  where
    by : (r : Result (List Tree) ℕ) → form_at first line ≡ r
        → ((least : ℕ) → line_from (m + 1) least forms line ≡ Ok x → Found forms (m + 1) line x)
        → further m left (λ least. line_from (m + 1) least forms line) r ≡ Ok x → Found (first ∷ forms) m line x
    by (Ok ts) read others h =
        let t = table first forms is in
        let same : (m, ts) ≡ x = cc in
        let line_is : IsLine first ts line = form_is_line first line ts ((form_reader first t.word t.due).found line ts read) in
        subst (Found (first ∷ forms) m line) same (record { n = 0; form = first; number = omega arith; is = refl; line_is = line_is })
    by (Err other) read others h =
        let inner = others (min left other) h in
        record { n = suc inner.n; form = inner.form; number = omega (arith, inner.number); is = inner.is; line_is = inner.line_is }

-- ---- what is refused

-- each form refuses the line, no further than the place
pub all_refused : (forms : List Shape) (m left : ℕ) (line : List ℕ) (place : ℕ)
    → line_from m left forms line ≡ Err place
    → (n : ℕ) (form : Shape) → slice_get forms n ≡ Some form → (a : ℕ) × (form_at form line ≡ Err a) × (place ≤ a)
all_refused [] m left line place e n form here = absurd cc
all_refused (first ∷ forms) m left line place e n form here =
    by (form_at first line) refl n here (λ least h k there. all_refused forms (m + 1) least line place h k form there)
    (sym (some_form m left first forms line) ∙ e)
  where
    by : (r : Result (List Tree) ℕ) → form_at first line ≡ r → (n : ℕ) → slice_get (first ∷ forms) n ≡ Some form
        → ((least : ℕ) → line_from (m + 1) least forms line ≡ Err place → (k : ℕ) → slice_get forms k ≡ Some form
        → (a : ℕ) × (form_at form line ≡ Err a) × (place ≤ a))
        → further m left (λ least. line_from (m + 1) least forms line) r ≡ Err place
        → (a : ℕ) × (form_at form line ≡ Err a) × (place ≤ a)
    by (Ok ts) read n here others h = absurd cc
    by (Err other) read zero here others h =
        let same : first ≡ form = cc in
        (other, ap (λ (x : Shape). form_at x line) (sym same) ∙ read, omega (arith, left_least (m + 1) (min left other) forms line place h))
    by (Err other) read (suc n) here others h = others (min left other) h n here

-- and the place is one form's, unless it was there before
pub some_refused : (forms : List Shape) (m left : ℕ) (line : List ℕ) (place : ℕ)
    → line_from m left forms line ≡ Err place
    → (place ≡ left) ⊎ ((n : ℕ) × (form : Shape) × (slice_get forms n ≡ Some form) × (form_at form line ≡ Err place))
some_refused [] m left line place e = let none = none_left m left line in inl (let same : left ≡ place = cc in sym same)
some_refused (first ∷ forms) m left line place e =
    by (form_at first line) refl (λ least h. some_refused forms (m + 1) least line place h) (sym (some_form m left first forms line) ∙ e)
  where
    Goal : Type 0
    Goal = (place ≡ left) ⊎ ((n : ℕ) × (form : Shape) × (slice_get (first ∷ forms) n ≡ Some form) × (form_at form line ≡ Err place))

    least_is : (other : ℕ) → form_at first line ≡ Err other → place ≡ min left other → (left < other) ⊎ (other ≤ left)
        → Goal
    least_is other read same (inl lt) = inl (omega (arith, same, lt))
    least_is other read same (inr le) = let here : other ≡ place = omega (arith, same, le) in inr (0, first, refl, read ∙ ap Err here)

    go : (other : ℕ) → form_at first line ≡ Err other
        → ((place ≡ min left other)
        ⊎ ((n : ℕ) × (form : Shape) × (slice_get forms n ≡ Some form) × (form_at form line ≡ Err place)))
        → Goal
    go other read (inl same) = least_is other read same (cases_lt left other)
    go other read (inr (n, form, here, refused)) = inr (suc n, form, here, refused)

    by : (r : Result (List Tree) ℕ) → form_at first line ≡ r
        → ((least : ℕ) → line_from (m + 1) least forms line ≡ Err place → (place ≡ least)
        ⊎ ((n : ℕ) × (form : Shape) × (slice_get forms n ≡ Some form) × (form_at form line ≡ Err place)))
        → further m left (λ least. line_from (m + 1) least forms line) r ≡ Err place → Goal
    by (Ok ts) read others h = absurd cc
    by (Err other) read others h = go other read (others (min left other) h)
