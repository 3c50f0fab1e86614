-- The one text that is written of a tree, in Erlang's external term format. Source: "External Term Format" in the user's
-- guide of Erlang's run-time system.
use Rattle.std.specs.Prelude.{ℕ, zero, ◌+◌, Bool, false, true, ◌&&◌, if◌then◌else◌, nat_le, nat_lt, ℤ, pos, negsuc, List, [], ◌∷◌, ◌++◌, length, unsigned_abs}
use Rattle.std.specs.Int.{w16, w32, w128, cast_unsigned, to_be_bytes, to_le_bytes}
use Rattle.term_core.specs.Tree.{Tree, int, atom, tuple, list, bin, Trees, no_trees, tree, count}

-- a number from 0 to 255
abbrev pub fits_byte : ℤ → Bool
fits_byte (pos n) = nat_lt n 256
fits_byte (negsuc n) = false

-- a number of 32 bits with a sign
abbrev pub fits_word : ℤ → Bool
fits_word (pos n) = nat_lt n 2147483648
fits_word (negsuc n) = nat_lt n 2147483648

abbrev pub is_byte : Tree → Bool
is_byte (int n) = fits_byte n
is_byte t = false

abbrev pub all_bytes : Trees → Bool
all_bytes no_trees = true
all_bytes (tree t ts) = is_byte t && all_bytes ts

-- few enough numbers from 0 to 255
abbrev pub is_byte_list : Trees → Bool
is_byte_list ts = nat_le (count ts) 65535 && all_bytes ts

-- the numbers, a byte each
abbrev pub byte_of : Tree → ℕ
byte_of (int (pos n)) = n
byte_of t = 0

abbrev pub bytes_of : Trees → List ℕ
bytes_of no_trees = []
bytes_of (tree t ts) = byte_of t ∷ bytes_of ts

-- without the noughts at the end
abbrev pub trim_front : ℕ → List ℕ → List ℕ
trim_front zero [] = []
trim_front byte rest = byte ∷ rest

abbrev pub trimmed : List ℕ → List ℕ
trimmed [] = []
trimmed (byte ∷ bytes) = trim_front byte (trimmed bytes)

-- the fewest bytes of a number without its sign, the lowest first
abbrev pub digits_of : ℤ → List ℕ
digits_of n = trimmed (to_le_bytes w128 (unsigned_abs n))

abbrev pub sign_of : ℤ → ℕ
sign_of (pos n) = 0
sign_of (negsuc n) = 1

-- one byte behind tag 97, or four in two's complement behind tag 98, or else as many as the number needs behind tag 110
abbrev pub number_written : ℤ → List ℕ
number_written n =
    if fits_byte n then 97 ∷ unsigned_abs n ∷ []
    else (if fits_word n then 98 ∷ to_be_bytes w32 (cast_unsigned w32 n)
    else 110 ∷ length (digits_of n) ∷ sign_of n ∷ digits_of n)

-- behind tag 119, or with more than 255 bytes behind tag 118
abbrev pub atom_written : List ℕ → List ℕ
atom_written a = if nat_le (length a) 255 then 119 ∷ length a ∷ a else 118 ∷ (to_be_bytes w16 (length a) ++ a)

-- what stands in front of the elements of a tuple: tag 104, or with more than 255 elements tag 105
abbrev pub tuple_front : ℕ → List ℕ
tuple_front n = if nat_le n 255 then 104 ∷ n ∷ [] else 105 ∷ to_be_bytes w32 n

abbrev mutual
  pub written : Tree → List ℕ
  written (int n) = number_written n
  written (atom a) = atom_written a
  written (tuple ts) = tuple_front (count ts) ++ all_written ts
  written (list no_trees) = 106 ∷ []
  written (list (tree t ts)) =
      if is_byte_list (tree t ts) then 107 ∷ (to_be_bytes w16 (count ts + 1) ++ bytes_of (tree t ts))
      else 108 ∷ (to_be_bytes w32 (count ts + 1) ++ (written t ++ all_written ts) ++ 106 ∷ [])
  written (bin b) = 109 ∷ (to_be_bytes w32 (length b) ++ b)

  -- one after another
  pub all_written : Trees → List ℕ
  all_written no_trees = []
  all_written (tree t ts) = written t ++ all_written ts

-- the whole text
abbrev pub canon : Tree → List ℕ
canon t = 131 ∷ written t
