-- How texts of terms begin.
use Rattle.std.specs.Prelude.{◌≡◌, ◌≢◌, ℕ, ◌^◌, ◌<◌, ◌≤◌, ◌⊎◌, Bool, false, List, [], ◌∷◌, ◌++◌, length, drop, codes, slice_index, slice_range}
use Rattle.std.specs.Int.{is_in_range}
use Rattle.std.specs.Str.Parse.{IsNumeral, digits_value}
use Rattle.term_core.specs.Tree.{Tree, depth}
use Rattle.term_text.specs.Grammar.{begins, IsText}

-- an escape up to its digits
abbrev pub IsOpenEscape : List ℕ → Type 0
IsOpenEscape text = (digits : List ℕ) × IsNumeral 16 digits × (text ≡ codes "\\x{" ++ digits)

-- Some text of a tree begins so. Where this ends within the number of an escape, one begins so up to the escape.
abbrev pub MayGoOn : List ℕ → Type 0
MayGoOn front =
    (kept escape more : List ℕ) × (t : Tree) × (front ≡ kept ++ escape) × ((escape ≡ []) ⊎ IsOpenEscape escape) × IsText t (kept ++ more)

-- the place of a refusal lies within the text, and what is before it may go on
pub record IsLate (text : List ℕ) (at place : ℕ) : Type 0 where
  pub order : at ≤ place
  pub within : place ≤ length text
  pub front : MayGoOn (slice_range text at place)

-- a byte that continues a character in UTF-8
abbrev pub continues : ℕ → Bool
continues byte = is_in_range 128 191 byte

-- What stands from this place on is no text of a term of at most so many levels, whatever follows that continues no
-- character.
abbrev pub NoText : ℕ → List ℕ → ℕ → Type 0
NoText levels text at =
    (more : List ℕ) → begins continues more ≡ false → (t : Tree) → depth t ≤ levels → IsText t (drop at text ++ more) → ⊥

-- the text of a number that needs more than 128 bits: digits with no zero in front, and a `-` before them where it is below 0
abbrev pub IsWide : List ℕ → Type 0
IsWide text =
    (digits : List ℕ) × IsNumeral 10 digits × (slice_index digits 0 ≢ 48)
    × (((text ≡ digits) × (2 ^ 127 ≤ digits_value 10 digits)) ⊎ ((text ≡ 45 ∷ digits) × (2 ^ 127 < digits_value 10 digits)))
