-- Bytes added one call after another.
use Rattle.std.proofs.Common.{◌≡◌, ap, ◌∙◌, ℕ, List, [], ◌++◌, Result, Ok, Err, cond, append_assoc, append-nil, sym}
use Rattle.std.specs.Prelude.{is_ok}
use Rattle.term_text.specs.Appends.{Begins, Appends}

pub Begins-then : (old front mid new : List ℕ) → mid ≡ old ++ front → Begins mid new → Begins old new
Begins-then old front mid new p q = (front ++ q.0, q.1 ∙ ap (λ (s : List ℕ). s ++ q.0) p ∙ append_assoc old front q.0)

-- some bytes, and then those of a further call
pub Appends-then : {T E : Type 0} (r : Result T E) (old front mid new more : List ℕ) → mid ≡ old ++ front → Appends r mid new more → Appends r old new (front ++ more)
Appends-then (Ok x) old front mid new more p q = q ∙ ap (λ (s : List ℕ). s ++ more) p ∙ append_assoc old front more
Appends-then (Err e) old front mid new more p q = Begins-then old front mid new p q

-- as a vector says it
pub Appends-from_items : {T E : Type 0} (r : Result T E) (old new more : List ℕ) → new ≡ cond (is_ok r) (old ++ more) old → Appends r old new more
Appends-from_items (Ok x) old new more p = p
Appends-from_items (Err e) old new more p = ([], p ∙ sym (append-nil old))

pub Appends-front : (old front mid new more : List ℕ) → mid ≡ old ++ front → new ≡ mid ++ more → new ≡ old ++ (front ++ more)
Appends-front old front mid new more p q = q ∙ ap (λ (s : List ℕ). s ++ more) p ∙ append_assoc old front more
