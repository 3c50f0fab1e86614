-- One turn of the reader of a text.
use Rattle.std.proofs.Common.{◌≡◌, ◌≢◌, ℕ, suc, ◌+◌, ◌-◌, ◌<◌, ◌≤◌, List, [], ◌∷◌, length, get_or, drop, Ok, Err, refl, sym, ap, ◌∙◌, arith, add-one, drop-cons, length-drop}
use Rattle.std.proofs.lemmas.Bool.Decides.{nat_tests}
use Rattle.std.proofs.lemmas.Grind.{common_steps}
use Rattle.mn_script.specs.Reading.{text_at}

-- text_at at one byte
same_head : (b c : ℕ) (text line : List ℕ) → b ≡ c → text_at (b ∷ text) (c ∷ line) ≡ text_at text line
unfolding text_at
same_head b c text line e = grind (arith, nat_tests)

other_head : (b c : ℕ) (text line : List ℕ) → b ≢ c → text_at (b ∷ text) (c ∷ line) ≡ Err (length (c ∷ line))
unfolding text_at
other_head b c text line e = grind (arith, nat_tests)

pub text_goes_on : (i : ℕ) (text line : List ℕ) → i < length text → i < length line → get_or line i 0 ≡ get_or text i 0
    → text_at (drop i text) (drop i line) ≡ text_at (drop (i + 1) text) (drop (i + 1) line)
text_goes_on i text line h k e = rw (add-one, drop-cons text i 0, drop-cons line i 0) (same_head _ _ _ _ (sym e))

pub text_differs : (i : ℕ) (text line : List ℕ) → i < length text → i < length line → get_or line i 0 ≢ get_or text i 0
    → text_at (drop i text) (drop i line) ≡ Err (length line - i)
text_differs i text line h k e =
    rw (drop-cons text i 0, drop-cons line i 0)
    (other_head _ _ _ _ (λ same. e (sym same)) ∙ ap Err (omega (arith, length-drop (suc i) line)))

pub text_ends : (i : ℕ) (text line : List ℕ) → i < length text → length line ≤ i
    → text_at (drop i text) (drop i line) ≡ Err 0
unfolding text_at
text_ends i text line h k = let none : drop i line ≡ [] = grind (arith, common_steps) in rw (drop-cons text i 0, none) refl

pub text_done : (i : ℕ) (text line : List ℕ) → length text ≤ i → text_at (drop i text) line ≡ Ok line
unfolding text_at
text_done i text line h = let none : drop i text ≡ [] = grind (arith, common_steps) in rw none refl

pub ruleset turns = (text_goes_on, text_differs, text_ends, text_done)
