-- What a table can be called.
use Rattle.std.specs.Prelude.{◌≡◌, ◌≢◌, ◌⊎◌, ℕ, ◌<◌, ◌≤◌, List, length, codes, All}
use Rattle.std.specs.Char.{IsAsciiAlphanumeric}

-- a letter, a digit, `_` or `@`
abbrev pub IsNameByte : ℕ → Type 0
IsNameByte byte = IsAsciiAlphanumeric byte ⊎ (byte ≡ 95) ⊎ (byte ≡ 64)

-- 1 to 64 of these
pub record IsName (name : List ℕ) : Type 0 where
  pub some : 0 < length name
  pub few : length name ≤ 64
  pub bytes : All IsNameByte name

-- any name but `schema`
abbrev pub IsTableName : List ℕ → Type 0
IsTableName name = IsName name × (name ≢ codes "schema")
