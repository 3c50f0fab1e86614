-- The moments of a directory of the operating system.
use Rattle.std.specs.Prelude.{◌≡◌, ◌⊎◌, ℕ, ◌+◌, ◌-◌, ◌^◌, false, Result, IsErr, IsTrue}
use Rattle.std.proofs.Common.{true≢false, sym}

-- A call that may change the directory takes one moment, whatever it answers. At the last moment of 64 bits it takes none, and
-- answers an error.
abbrev pub Ticks : {T E : Type 0} → ℕ → ℕ → Result T E → Type 0
Ticks before now result = (now ≡ before + 1) ⊎ ((now ≡ before) × (before ≡ 2 ^ 64 - 1) × IsErr result)

-- anything holds where a disk tells that tells nothing
pub untold : {P : Type 0} → IsTrue false → P
untold told = absurd (true≢false (sym told))
