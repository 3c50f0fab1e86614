-- Which bytes are a text of a tree.
use Rattle.std.specs.Prelude.{◌≡◌, ◌≢◌, ℕ, ◌<◌, ◌≤◌, ◌==◌, ◌||◌, ◌&&◌, ◌⊎◌, Bool, true, false, if◌then◌else◌, IsTrue, pos, List, [], ◌∷◌, ◌++◌, length, map, codes, decimal, FitsSigned, Option, Some, None}
use Rattle.std.specs.Int.{w128}
use Rattle.std.specs.Char.{IsScalar, encode_utf8, is_ascii_lowercase, is_ascii_alphanumeric, is_ascii_digit}
use Rattle.std.specs.Fmt.{signed_decimal}
use Rattle.std.specs.List.{list_all}
use Rattle.std.specs.Str.{encode_utf8_all}
use Rattle.std.specs.Str.Parse.{IsNumeral, digits_value}
use Rattle.term_core.specs.Tree.{Tree, int, atom, tuple, list, bin, Trees, no_trees, tree}
use Rattle.term_core.specs.View.{trees_of}

-- blanks are space and tab, and may stand between tokens
abbrev pub is_blank : ℕ → Bool
is_blank byte = (byte == 32) || (byte == 9)

abbrev pub AreBlanks : List ℕ → Type 0
AreBlanks text = list_all is_blank text ≡ true

-- a letter, a digit, `_` or `@`
abbrev pub is_name_byte : ℕ → Bool
is_name_byte byte = is_ascii_alphanumeric byte || (byte == 95) || (byte == 64)

-- a small letter, and name bytes behind it
abbrev pub is_name : List ℕ → Bool
is_name [] = false
is_name (first ∷ others) = is_ascii_lowercase first && list_all is_name_byte others

-- the character that a letter behind a `\` stands for: `\n`, `\r` and `\t` are controls, and `\\`, `\'` and `\"` themselves
abbrev pub escaped : ℕ → Option ℕ
escaped letter =
    if letter == 110 then Some 10
    else (if letter == 114 then Some 13
    else (if letter == 116 then Some 9
    else (if (letter == 92) || (letter == 39) || (letter == 34) then Some letter else None)))

-- a character between quotes: itself in UTF-8, or a `\` and a letter, or `\x{`, the digits of its number and `}`
pub data IsCharacter (quote c : ℕ) (text : List ℕ) : Type 0 where
  itself : IsScalar c → 32 ≤ c → c ≢ quote → c ≢ 92 → text ≡ encode_utf8 c → IsCharacter quote c text
  letter : (b : ℕ) → escaped b ≡ Some c → text ≡ 92 ∷ b ∷ [] → IsCharacter quote c text
  numbered : (digits : List ℕ) → IsScalar c → IsNumeral 16 digits → length digits ≤ 6 → digits_value 16 digits ≡ c → text ≡ codes "\\x{" ++ (digits ++ codes "}") → IsCharacter quote c text

-- this, and that behind it
abbrev pub Then : (List ℕ → Type 0) → (List ℕ → Type 0) → List ℕ → Type 0
Then IsFirst IsRest text = (first rest : List ℕ) × IsFirst first × IsRest rest × (text ≡ first ++ rest)

-- texts one after another
abbrev pub Each : {A : Type 0} → (A → List ℕ → Type 0) → List A → List ℕ → Type 0
Each IsOne [] text = text ≡ []
Each IsOne (x ∷ xs) text = Then (IsOne x) (Each IsOne xs) text

-- characters in quotes
abbrev pub IsQuoted : ℕ → (ℕ → List ℕ → Type 0) → List ℕ → List ℕ → Type 0
IsQuoted quote IsOne cs text = (inner : List ℕ) × Each IsOne cs inner × (text ≡ quote ∷ (inner ++ quote ∷ []))

-- an atom of at most 255 characters, bare or in quotes
pub data IsAtom (a text : List ℕ) : Type 0 where
  bare : IsTrue (is_name a) → length a ≤ 255 → text ≡ a → IsAtom a text
  quoted : (cs : List ℕ) → IsQuoted 39 (IsCharacter 39) cs text → length cs ≤ 255 → a ≡ encode_utf8_all cs → IsAtom a text

-- the list of these numbers
abbrev pub numbers : List ℕ → Trees
numbers ns = trees_of (map (λ n. int (pos n)) ns)

-- a string is the list of its characters' code points
abbrev pub IsString : Trees → List ℕ → Type 0
IsString ts text = (cs : List ℕ) × IsQuoted 34 (IsCharacter 34) cs text × (ts ≡ numbers cs)

-- this between brackets
abbrev pub Within : List ℕ → List ℕ → (List ℕ → Type 0) → List ℕ → Type 0
Within before behind IsInner text = (inner : List ℕ) × IsInner inner × (text ≡ before ++ (inner ++ behind))

-- blanks before and behind
abbrev pub Blanked : (List ℕ → Type 0) → List ℕ → Type 0
Blanked IsInner text = (before inner behind : List ℕ) × AreBlanks before × IsInner inner × AreBlanks behind × (text ≡ before ++ (inner ++ behind))

-- a comma before
abbrev pub Comma : (List ℕ → Type 0) → List ℕ → Type 0
Comma IsRest text = (rest : List ℕ) × IsRest rest × (text ≡ 44 ∷ rest)

-- elements with commas between
abbrev pub Elements : {A : Type 0} → (A → List ℕ → Type 0) → List A → List ℕ → Type 0
Elements IsOne [] text = AreBlanks text
Elements IsOne (x ∷ xs) text = Then (Blanked (IsOne x)) (Each (λ y. Comma (Blanked (IsOne y))) xs) text

-- a byte as a number
abbrev pub IsByte : ℕ → List ℕ → Type 0
IsByte n text = (n < 256) × (text ≡ decimal n)

-- a byte as a character
abbrev pub IsNarrow : ℕ → List ℕ → Type 0
IsNarrow c text = (c < 256) × IsCharacter 34 c text

abbrev mutual
  -- these bytes are a text of this tree
  pub IsText : Tree → List ℕ → Type 0
  IsText (int n) text = FitsSigned w128 n × (text ≡ signed_decimal n)
  IsText (atom a) text = IsAtom a text
  IsText (tuple ts) text = Within (codes "{") (codes "}") (AreTexts ts) text
  IsText (list ts) text = Within (codes "[") (codes "]") (AreTexts ts) text ⊎ IsString ts text
  IsText (bin b) text = Within (codes "<<") (codes ">>") (Elements IsByte b) text ⊎ Within (codes "<<") (codes ">>") (Blanked (IsQuoted 34 IsNarrow b)) text

  -- elements with commas between
  pub AreTexts : Trees → List ℕ → Type 0
  AreTexts no_trees text = AreBlanks text
  AreTexts (tree t ts) text = Then (Blanked (IsText t)) (MoreTexts ts) text

  -- elements, each behind a comma
  pub MoreTexts : Trees → List ℕ → Type 0
  MoreTexts no_trees text = text ≡ []
  MoreTexts (tree t ts) text = Then (Comma (Blanked (IsText t))) (MoreTexts ts) text

-- whether a byte of this kind is in front
abbrev pub begins : (ℕ → Bool) → List ℕ → Bool
begins p [] = false
begins p (b ∷ rest) = p b

-- Whether what follows the text of a tree leaves its last token as it is. A bare atom takes each name byte
-- behind it, and a number each digit, but for `0`. Only a bare atom's text begins with a small letter.
abbrev pub Stops : Tree → List ℕ → List ℕ → Type 0
Stops (int n) text rest = n ≢ pos 0 → begins is_ascii_digit rest ≡ false
Stops (atom a) text rest = begins is_ascii_lowercase text ≡ true → begins is_name_byte rest ≡ false
Stops t text rest = Unit {0}
