-- Which bytes spell a tree, in any of the forms that a term may have. Source: "External Term Format" in the user's guide of
-- Erlang's run-time system.
use Rattle.std.specs.Prelude.{◌≡◌, ℕ, ◌+◌, ◌*◌, ◌^◌, ◌<◌, ◌≤◌, ◌==◌, if◌then◌else◌, ℤ, pos, neg_ℤ, List, [], ◌∷◌, ◌++◌, length, All, ◌⊎◌, IsTrue}
use Rattle.std.specs.Int.{Width, w8, w16, w32, byte_len, cast_signed, to_be_bytes}
use Rattle.std.specs.Str.{encode_utf8_all}
use Rattle.term_core.specs.Tree.{Tree, int, atom, tuple, list, bin, Trees, no_trees, tree, count, depth}
use Rattle.term_core.specs.Written.{all_bytes, bytes_of}
use Rattle.term_core.specs.Kept.{IsKept}

-- behind a tag a number in so many bytes, the highest first, and then the rest
abbrev pub Tagged : ℕ → Width → ℕ → List ℕ → List ℕ → Type 0
Tagged tag w n rest bytes = (n < 256 ^ byte_len w) × (bytes ≡ tag ∷ (to_be_bytes w n ++ rest))

abbrev pub AreBytes : List ℕ → Type 0
AreBytes bytes = All (λ byte. byte < 256) bytes

-- the number of these bytes, the lowest first
abbrev pub low_first : List ℕ → ℕ
low_first [] = 0
low_first (byte ∷ bytes) = byte + 256 * low_first bytes

-- the sign 0 leaves a number as it is, and any other makes it negative
abbrev pub signed : ℕ → ℕ → ℤ
signed sign n = if sign == 0 then pos n else neg_ℤ (pos n)

-- behind tag 110 or 111 the count of the bytes, a sign of 0 or 1, and the bytes, the lowest first
abbrev pub SpellsWide : ℤ → List ℕ → Type 0
SpellsWide n bytes =
    (sign : ℕ) × (digits : List ℕ) × (sign ≤ 1) × AreBytes digits × (n ≡ signed sign (low_first digits))
    × (Tagged 110 w8 (length digits) (sign ∷ digits) bytes ⊎ Tagged 111 w32 (length digits) (sign ∷ digits) bytes)

-- one byte behind tag 97, or four in two's complement behind tag 98
abbrev pub SpellsNumber : ℤ → List ℕ → Type 0
SpellsNumber n bytes =
    ((m : ℕ) × (n ≡ pos m) × Tagged 97 w8 m [] bytes)
    ⊎ (((m : ℕ) × (n ≡ cast_signed w32 m) × Tagged 98 w32 m [] bytes)
    ⊎ SpellsWide n bytes)

-- as Latin-1 behind tag 115 or 100, where each byte is a character
abbrev pub SpellsLatin : List ℕ → List ℕ → Type 0
SpellsLatin a bytes =
    (latin : List ℕ) × AreBytes latin × (a ≡ encode_utf8_all latin)
    × (Tagged 115 w8 (length latin) latin bytes ⊎ Tagged 100 w16 (length latin) latin bytes)

-- as UTF-8 behind tag 119 or 118
abbrev pub SpellsAtom : List ℕ → List ℕ → Type 0
SpellsAtom a bytes = Tagged 119 w8 (length a) a bytes ⊎ (Tagged 118 w16 (length a) a bytes ⊎ SpellsLatin a bytes)

abbrev mutual
  -- Tuples have tag 104 or 105. A list has tag 106 where it is empty, 107 where its elements are numbers of a byte each, and
  -- 108 in front of any elements and byte 106.
  pub Spells : Tree → List ℕ → Type 0
  Spells (int n) bytes = SpellsNumber n bytes
  Spells (atom a) bytes = SpellsAtom a bytes
  Spells (tuple ts) bytes = (inside : List ℕ) × AllSpell ts inside × (Tagged 104 w8 (count ts) inside bytes ⊎ Tagged 105 w32 (count ts) inside bytes)
  Spells (list ts) bytes =
      ((ts ≡ no_trees) × (bytes ≡ 106 ∷ []))
      ⊎ ((IsTrue (all_bytes ts) × Tagged 107 w16 (count ts) (bytes_of ts) bytes)
      ⊎ ((inside : List ℕ) × AllSpell ts inside × Tagged 108 w32 (count ts) (inside ++ 106 ∷ []) bytes))
  Spells (bin b) bytes = Tagged 109 w32 (length b) b bytes

  -- one after another
  pub AllSpell : Trees → List ℕ → Type 0
  AllSpell no_trees bytes = bytes ≡ []
  AllSpell (tree t ts) bytes = (front : List ℕ) × (back : List ℕ) × Spells t front × AllSpell ts back × (bytes ≡ front ++ back)

-- The whole text: byte 131, and a spelling of a tree that a term can stand for, of at most 128 levels.
abbrev pub IsText : List ℕ → Tree → Type 0
IsText bytes t = (spelling : List ℕ) × (bytes ≡ 131 ∷ spelling) × Spells t spelling × IsKept t × (depth t ≤ 128)
