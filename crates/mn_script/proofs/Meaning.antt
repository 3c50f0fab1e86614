-- What is said of a line.
use Rattle.std.proofs.Common.{◌≡◌, ◌≢◌, ℕ, ◌+◌, ◌-◌, ◌<◌, ◌≤◌, Bool, true, false, cond, eqb, not, ◌⊎◌, List, [], ◌∷◌, ◌++◌, length, take, drop, Some, Result, Ok, Err, refl, sym, ap, subst, ◌∙◌, append_assoc, arith, inl, inr}
use Rattle.std.specs.Prelude.{◌==◌, ◌||◌}
use Rattle.std.specs.Bool.{MatchBool}
use Rattle.std.specs.List.{slice_get}
use Rattle.std.proofs.lemmas.Bool.{cases_lt, ne_eqb, and_parts}
use Rattle.std.proofs.lemmas.Bool.Decides.{nat_tests}
use Rattle.std.proofs.lemmas.Grind.{common_steps}
use Rattle.std.proofs.lemmas.List.{take-append-drop}
use Rattle.term_core.specs.Tree.{Tree}
use Rattle.term_text.specs.Grammar.{begins, is_blank}
use Rattle.term_text.specs.Reading.{unblanked}
use Rattle.term_text.proofs.Steps.{Blanks, blanks_in, unblanked_again}
use Rattle.mn_script.specs.Forms.{Shape, is_word, is_table}
use Rattle.mn_script.specs.Grammar.{IsLine, IsOfForm, IsFront, IsWrongByte, IsPlace, IsNone, is_later, Said, nothing, of_form, bad, IsMeant}
use Rattle.mn_script.specs.Reading.{line_at, is_none, placed, said}
use Rattle.mn_script.proofs.Lines.{word_first}
use Rattle.mn_script.proofs.Others.{not_true, is_free, is_of}
use Rattle.mn_script.proofs.OverForms.{again, found}
use Rattle.mn_script.proofs.Places.{Place, place_made}
use Rattle.mn_script.proofs.Wrong.{wrong_line}

take_of_take : (m n : ℕ) (line : List ℕ) → m ≤ n → take m (take n line) ≡ take m line
take_of_take m n line le = grind (arith, common_steps)

-- ---- the laws

none_is : (line : List ℕ) → is_none line ≡ true → IsNone line
unfolding is_none
none_is line e = by (unblanked line) (blanks_in line) refl e
  where
    by : (rest : List ℕ) (b : Blanks line) → unblanked line ≡ rest
        → ((length rest == 0) || begins (λ b. b == 37) rest) ≡ true → IsNone line
    by [] b is h = (b.blanks, [], b.are, b.parts ∙ ap (λ (x : List ℕ). b.blanks ++ x) is, inl refl)
    by (c ∷ rest) b is h = (b.blanks, c ∷ rest, b.are, b.parts ∙ ap (λ (x : List ℕ). b.blanks ++ x) is, inr (some c rest h))
      where
        some : (c : ℕ) (rest : List ℕ) → ((length (c ∷ rest) == 0) || (c == 37)) ≡ true → (c == 37) ≡ true
        some c rest h =
            let more : eqb (length (c ∷ rest)) 0 ≡ false = ne_eqb (length (c ∷ rest)) 0 (λ same. absurd (omega arith)) in
            sym (ap (λ (b : Bool). b || (c == 37)) more)
            ∙ h

percent_no_blank : (c : ℕ) → (c == 37) ≡ true → is_blank c ≡ false
percent_no_blank c h = grind (arith, nat_tests)

is_none_again : (line : List ℕ) → IsNone line → is_none line ≡ true
unfolding is_none
is_none_again line (gap, [], are, parts, why) =
    let none : unblanked line ≡ [] = ap unblanked parts ∙ unblanked_again gap [] are refl in rw none refl
is_none_again line (gap, c ∷ rest, are, parts, inl wrong) = absurd cc
is_none_again line (gap, c ∷ rest, are, parts, inr h) =
    let here : unblanked line ≡ c ∷ rest = ap unblanked parts ∙ unblanked_again gap (c ∷ rest) are (percent_no_blank c h) in
    let more : eqb (length (c ∷ rest)) 0 ≡ false = ne_eqb (length (c ∷ rest)) 0 (λ same. absurd (omega arith)) in
    rw (here, more, h) refl

no_percent : (word rest : List ℕ) → is_word word ≡ true
    → ((length (word ++ rest) == 0) || begins (λ b. b == 37) (word ++ rest)) ≡ false
no_percent [] rest is = absurd cc
no_percent (b ∷ word) rest is =
    let first : (b == 37) ≡ false = not_true (eqb b 37) (and_parts (not (eqb b 37)) (is_free (b ∷ word)) is).0 in
    let more : eqb (length (b ∷ (word ++ rest))) 0 ≡ false = ne_eqb (length (b ∷ (word ++ rest))) 0 (λ same. absurd (omega arith)) in
    rw (more, first) refl

form_some : (form : Shape) → is_word form.word ≡ true → (ts : List Tree) (line : List ℕ) → IsLine form ts line
    → is_none line ≡ false
unfolding is_none
form_some form is ts line (gap, rest, are, arguments, parts) =
    let here : unblanked line ≡ form.word ++ rest = ap unblanked parts
    ∙ unblanked_again gap (form.word ++ rest) are (word_first form.word rest is) in
    rw here (no_percent form.word rest is)

pub said_again : (forms : List Shape) (later : List (List ℕ)) → is_table forms ≡ true
    → (n : ℕ) (ts : List Tree) (line : List ℕ) → IsOfForm forms n ts line → said forms later line ≡ of_form n ts
unfolding said
said_again forms later is n ts line (form, here, h) =
    let some = form_some form (is_of forms is n form here).word ts line h in
    rw some (ap (placed later line) (again forms is n 0 (length line) form ts line here h) ∙ ap (λ (k : ℕ). of_form k ts) (omega arith))

err_place : (left other end : ℕ) → (let r : Result (ℕ × List Tree) ℕ = Err left in r) ≡ Err (end - other) → other ≤ end
    → other ≡ end - left
err_place left other end e within = let same : left ≡ end - other = cc in omega (arith, same, within)

pub said_means : (forms : List Shape) (later : List (List ℕ)) → is_table forms ≡ true → forms ≢ [] → (line : List ℕ)
    → IsMeant forms later line (said forms later line)
unfolding said
said_means forms later is some line = go (is_none line) refl
  where
    never_none : is_none line ≡ false → IsNone line → ⊥
    never_none e h = let other = is_none_again line h in absurd cc

    no_form : (left : ℕ) → line_at forms line ≡ Err left → (n : ℕ) (ts : List Tree) → IsOfForm forms n ts line → ⊥
    no_form left e n ts (form, here, h) = let read = again forms is n 0 (length line) form ts line here h in absurd cc

    place_is : (left : ℕ) → line_at forms line ≡ Err left → IsPlace forms line (length line - left)
    place_is left e = (
      λ other wrong. let w = wrong_line forms is line other wrong in
          err_place left other (length line) (sym e ∙ w.0) w.1,
      place_made forms is some line left e,
    )

    refused : (left : ℕ) → line_at forms line ≡ Err left → is_none line ≡ false → (t : Bool) → is_later later line ≡ t
        → IsMeant forms later line (cond t (bad 0) (bad (length line - left)))
    refused left e none true l =
        (never_none none, no_form left e, subst (λ (t : Bool). MatchBool t (◌≡◌ {A = ℕ} 0 0) (IsPlace forms line 0)) (sym l) refl)
    refused left e none false l =
        let at = length line - left in
        (never_none none, no_form left e, subst (λ (t : Bool). MatchBool t (at ≡ 0) (IsPlace forms line at)) (sym l) (place_is left e))

    by : (r : Result (ℕ × List Tree) ℕ) → line_at forms line ≡ r → is_none line ≡ false
        → IsMeant forms later line (placed later line r)
    by (Ok x) e none =
        let f = found forms is 0 (length line) line x e in
        let number : x.0 ≡ f.n = omega (arith, f.number) in
        (f.form, subst (λ (k : ℕ). slice_get forms k ≡ Some f.form) (sym number) f.is, f.line_is)
    by (Err left) e none = refused left e none (is_later later line) refl

    go : (t : Bool) → is_none line ≡ t
        → IsMeant forms later line (cond t nothing (placed later line (line_at forms line)))
    go true e = none_is line e
    go false e = by (line_at forms line) refl e

-- ---- no other is meant

front_shorter : (forms : List Shape) (line : List ℕ) (m n : ℕ) → m ≤ n → IsFront forms (take n line)
    → IsFront forms (take m line)
front_shorter forms line m n le (rest, k, ts, is) =
    let parts : take m line ++ drop m (take n line) ≡ take n line =
    ap (λ (x : List ℕ). x ++ drop m (take n line)) (sym (take_of_take m n line le)) ∙ take-append-drop m (take n line)
    in (
      drop m (take n line) ++ rest,
      k,
      ts,
      subst (λ (x : List ℕ). IsOfForm forms k ts x)
          (sym (sym (append_assoc (take m line) (drop m (take n line)) rest) ∙ ap (λ (x : List ℕ). x ++ rest) parts)) is,
    )

not_later : (forms : List Shape) (line : List ℕ) (at place : ℕ) → at < place → IsWrongByte forms line at
    → IsWrongByte forms line place → ⊥
not_later forms line at place lt here there = by here.refused
  where
    by : (at ≡ length line) ⊎ ((at < length line) × (IsFront forms (take (at + 1) line) → ⊥)) → ⊥
    by (inl e) = absurd (omega (arith, e, lt, there.within))
    by (inr h) = h.1 (front_shorter forms line (at + 1) place (omega (arith, lt)) there.front)

-- the first wrong byte has one place
pub one_byte : (forms : List Shape) (line : List ℕ) (at place : ℕ) → IsWrongByte forms line at
    → IsWrongByte forms line place → at ≡ place
one_byte forms line at place here there = by (cases_lt at place) (cases_lt place at)
  where
    by : (at < place) ⊎ (place ≤ at) → (place < at) ⊎ (at ≤ place) → at ≡ place
    by (inl lt) other = absurd (not_later forms line at place lt here there)
    by (inr le) (inl lt) = absurd (not_later forms line place at lt there here)
    by (inr le) (inr ge) = omega (arith, le, ge)

pub said_only : (forms : List Shape) (later : List (List ℕ)) → is_table forms ≡ true → forms ≢ []
    → (line : List ℕ) (what : Said) → IsMeant forms later line what → said forms later line ≡ what
unfolding said
said_only forms later is some line nothing h = let none = is_none_again line h in rw none refl
said_only forms later is some line (of_form n ts) h = said_again forms later is n ts line h
said_only forms later is some line (bad at) (no_none, no_form, place) = go (is_none line) refl
  where
    at_place : (left : ℕ) → line_at forms line ≡ Err left → IsPlace forms line at → at ≡ length line - left
    at_place left e h = by (place_made forms is some line left e) h.1
      where
        by : Place forms line (length line - left) → Place forms line at → at ≡ length line - left
        by (inl wrong) other = sym (h.0 (length line - left) wrong)
        by (inr byte) (inl wrong) = let w = wrong_line forms is line at wrong in err_place left at (length line) (sym e ∙ w.0) w.1
        by (inr byte) (inr other) = one_byte forms line at (length line - left) other byte

    refused : (left : ℕ) → line_at forms line ≡ Err left → (t : Bool) → is_later later line ≡ t
        → (let b : Said = cond t (bad 0) (bad (length line - left)) in b) ≡ bad at
    refused left e true l = ap bad (sym (subst (λ (t : Bool). MatchBool t (at ≡ 0) (IsPlace forms line at)) l place))
    refused left e false l = ap bad (sym (at_place left e (subst (λ (t : Bool). MatchBool t (at ≡ 0) (IsPlace forms line at)) l place)))

    by : (r : Result (ℕ × List Tree) ℕ) → line_at forms line ≡ r → placed later line r ≡ bad at
    by (Ok x) e =
        let f = found forms is 0 (length line) line x e in
        absurd (no_form f.n x.1 (f.form, f.is, f.line_is))
    by (Err left) e = refused left e (is_later later line) refl

    go : (t : Bool) → is_none line ≡ t
        → (let b : Said = cond t nothing (placed later line (line_at forms line)) in b) ≡ bad at
    go true e = absurd (no_none (none_is line e))
    go false e = by (line_at forms line) refl
