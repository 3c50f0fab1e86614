-- What a call that adds bytes at the end leaves.
use Rattle.std.specs.Prelude.{◌≡◌, List, ℕ, ◌++◌, Result, MatchResult}

-- nothing at the front was changed
abbrev pub Begins : List ℕ → List ℕ → Type 0
Begins old new = (more : List ℕ) × (new ≡ old ++ more)

-- the bytes were added, or some where the call failed
abbrev pub Appends : {T E : Type 0} → Result T E → List ℕ → List ℕ → List ℕ → Type 0
Appends result old new bytes = MatchResult result (λ _. new ≡ old ++ bytes) (λ _. Begins old new)
