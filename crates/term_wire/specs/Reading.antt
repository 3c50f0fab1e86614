-- Reading from left to right, with the first fault that is met. A fault says how many bytes are left from its place on.
use Rattle.std.specs.Prelude.{◌≡◌, ℕ, zero, suc, ◌+◌, ◌^◌, ◌==◌, ◌&&◌, Bool, ℤ, pos, negsuc, if◌then◌else◌, nat_lt, nat_le, List, [], ◌∷◌, length, take, drop, Result, Ok, Err}
use Rattle.std.specs.Int.{Width, w8, w16, w32, byte_len, from_be_bytes, cast_signed}
use Rattle.std.specs.List.{list_any}
use Rattle.std.specs.Str.{is_utf8, chars, encode_utf8_all}
use Rattle.term_core.specs.Tree.{Tree, int, atom, tuple, list, bin, Trees, no_trees, tree}
use Rattle.term_wire.specs.Spelling.{low_first, signed}
use Rattle.term_wire.specs.declared.fault.Fault.{Fault}
use Rattle.term_wire.specs.declared.fault.Fault.TheVariants.{Bad, Outside, WideInt, TooDeep}
use Rattle.term_wire.specs.declared.fault.ReadErr.{ReadErr}
use Rattle.term_wire.specs.declared.fault.ReadErr.TheVariants as errors
use Rattle.term_wire.specs.declared.field.CountBytes.{CountBytes}
use Rattle.term_wire.specs.declared.field.CountBytes.TheVariants.{One, Two, Four}

infixl 10 ◌>>=◌
abbrev pub ◌>>=◌ : {A B : Type 0} → Result A Fault → (A → Result B Fault) → Result B Fault
(Ok x) >>= f = f x
(Err e) >>= f = Err e

-- What a function returned, seen by view, is what reading gives, unless memory ran out.
abbrev pub Fails : {Y : Type 0} → ReadErr → Result Y Fault → Type 0
Fails errors.Memory read = Unit {0}
Fails (errors.Fault f) read = read ≡ Err f

abbrev pub Gives : {X Y : Type 0} → (X → Y) → Result X ReadErr → Result Y Fault → Type 0
Gives view (Ok x) read = read ≡ Ok (view x)
Gives view (Err e) read = Fails e read

-- A field is a value and the bytes after it. Where its bytes are not all there, the fault is at the end.
abbrev pub byte_at : List ℕ → Result (ℕ × List ℕ) Fault
byte_at [] = Err (Bad 0)
byte_at (byte ∷ rest) = Ok (byte, rest)

abbrev pub bytes_at : ℕ → List ℕ → Result (List ℕ × List ℕ) Fault
bytes_at n bytes = if nat_lt (length bytes) n then Err (Bad 0) else Ok (take n bytes, drop n bytes)

-- a number in so many bytes, the highest first
unfoldable pub number_at : Width → List ℕ → Result (ℕ × List ℕ) Fault
number_at w bytes = do
  field ← bytes_at (byte_len w) bytes
  Ok (from_be_bytes w field.0, field.1)

abbrev pub width_of : CountBytes → Width
width_of One = w8
width_of Two = w16
width_of Four = w32

-- 0 or 1
abbrev pub sign_at : List ℕ → Result (ℕ × List ℕ) Fault
sign_at [] = Err (Bad 0)
sign_at (sign ∷ rest) = if nat_le sign 1 then Ok (sign, rest) else Err (Bad (length (sign ∷ rest)))

-- Behind each tag. Numbers and names that no term has are a fault at the tag, once their bytes are read.
unfoldable pub small_at : List ℕ → Result (Tree × List ℕ) Fault
small_at bytes = do
  n ← number_at w8 bytes
  Ok (int (pos n.0), n.1)

unfoldable pub integer_at : List ℕ → Result (Tree × List ℕ) Fault
integer_at bytes = do
  n ← number_at w32 bytes
  Ok (int (cast_signed w32 n.0), n.1)

-- a number of 128 bits with a sign
abbrev pub fits_term : ℤ → Bool
fits_term (pos n) = nat_lt n (2 ^ 127)
fits_term (negsuc n) = nat_lt n (2 ^ 127)

unfoldable pub wide_at : Width → List ℕ → Result (Tree × List ℕ) Fault
wide_at w bytes = do
  n ← number_at w bytes
  sign ← sign_at n.1
  digits ← bytes_at n.0 sign.1
  if fits_term (signed sign.0 (low_first digits.0)) then Ok (int (signed sign.0 (low_first digits.0)), digits.1) else Err (WideInt (length bytes + 1))

-- text of at most 255 characters
abbrev pub is_name : List ℕ → Bool
is_name a = is_utf8 a && nat_le (length (chars a)) 255

unfoldable pub atom_at : Width → List ℕ → Result (Tree × List ℕ) Fault
atom_at w bytes = do
  n ← number_at w bytes
  text ← bytes_at n.0 n.1
  if is_name text.0 then Ok (atom text.0, text.1) else Err (Bad (length bytes + 1))

-- a character in each byte
unfoldable pub latin_at : Width → List ℕ → Result (Tree × List ℕ) Fault
latin_at w bytes = do
  n ← number_at w bytes
  text ← bytes_at n.0 n.1
  if nat_le (length text.0) 255 then Ok (atom (encode_utf8_all text.0), text.1) else Err (Bad (length bytes + 1))

unfoldable pub binary_at : List ℕ → Result (Tree × List ℕ) Fault
binary_at bytes = do
  n ← number_at w32 bytes
  content ← bytes_at n.0 n.1
  Ok (bin content.0, content.1)

-- each byte as a number
abbrev pub numbers : List ℕ → Trees
numbers [] = no_trees
numbers (byte ∷ bytes) = tree (int (pos byte)) (numbers bytes)

-- The numbers are one level below the list, and the first of them is too deep where no level is left.
unfoldable pub numbers_at : ℕ → List ℕ → Result (Tree × List ℕ) Fault
numbers_at levels bytes = do
  n ← number_at w16 bytes
  content ← bytes_at n.0 n.1
  if levels == 0 && nat_lt 0 n.0 then Err (TooDeep (length n.1)) else Ok (list (numbers content.0), content.1)

-- so many, one after another
unfoldable pub items_at : (List ℕ → Result (Tree × List ℕ) Fault) → ℕ → List ℕ → Result (Trees × List ℕ) Fault
items_at one zero bytes = Ok (no_trees, bytes)
items_at one (suc n) bytes = do
  first ← one bytes
  others ← items_at one n first.1
  Ok (tree first.0 others.0, others.1)

unfoldable pub tuple_at : (List ℕ → Result (Tree × List ℕ) Fault) → Width → List ℕ → Result (Tree × List ℕ) Fault
tuple_at one w bytes = do
  n ← number_at w bytes
  items ← items_at one n.0 n.1
  Ok (tuple items.0, items.1)

-- byte 106
abbrev pub end_at : List ℕ → Result (List ℕ) Fault
end_at [] = Err (Bad 0)
end_at (byte ∷ rest) = if byte == 106 then Ok rest else Err (Bad (length (byte ∷ rest)))

unfoldable pub list_at : (List ℕ → Result (Tree × List ℕ) Fault) → List ℕ → Result (Tree × List ℕ) Fault
list_at one bytes = do
  n ← number_at w32 bytes
  items ← items_at one n.0 n.1
  rest ← end_at items.1
  Ok (list items.0, rest)

-- the tags of what is no term here: floats, bit strings, references, ports, functions, maps and the like
abbrev pub outside_tags : List ℕ
outside_tags = 70 ∷ 77 ∷ 80 ∷ 82 ∷ 88 ∷ 89 ∷ 90 ∷ 99 ∷ 101 ∷ 102 ∷ 103 ∷ 112 ∷ 113 ∷ 114 ∷ 116 ∷ 117 ∷ 120 ∷ 121 ∷ []

unfoldable pub other_at : ℕ → List ℕ → Result (Tree × List ℕ) Fault
other_at tag bytes = if list_any (λ t. t == tag) outside_tags then Err (Outside tag (length bytes + 1)) else Err (Bad (length bytes + 1))

-- a term with no terms inside
unfoldable pub leaf_at : ℕ → List ℕ → Result (Tree × List ℕ) Fault
leaf_at tag bytes =
    if tag == 97 then small_at bytes
    else (if tag == 98 then integer_at bytes
    else (if tag == 110 then wide_at w8 bytes
    else (if tag == 111 then wide_at w32 bytes
    else (if tag == 119 then atom_at w8 bytes
    else (if tag == 118 then atom_at w16 bytes
    else (if tag == 115 then latin_at w8 bytes
    else (if tag == 100 then latin_at w16 bytes
    else (if tag == 109 then binary_at bytes
    else other_at tag bytes))))))))

unfoldable pub tagged_at : ℕ → (List ℕ → Result (Tree × List ℕ) Fault) → ℕ → List ℕ → Result (Tree × List ℕ) Fault
tagged_at levels one tag bytes =
    if tag == 104 then tuple_at one w8 bytes
    else (if tag == 105 then tuple_at one w32 bytes
    else (if tag == 106 then Ok (list no_trees, bytes)
    else (if tag == 107 then numbers_at levels bytes
    else (if tag == 108 then list_at one bytes
    else leaf_at tag bytes))))

-- a term that may nest over so many levels
unfoldable pub term_at : ℕ → List ℕ → Result (Tree × List ℕ) Fault
term_at zero bytes = do
  tag ← byte_at bytes
  Err (TooDeep (length bytes))
term_at (suc levels) bytes = do
  tag ← byte_at bytes
  tagged_at levels (term_at levels) tag.0 tag.1

-- byte 131
abbrev pub version_at : List ℕ → Result (List ℕ) Fault
version_at [] = Err (Bad 0)
version_at (byte ∷ rest) = if byte == 131 then Ok rest else Err (Bad (length (byte ∷ rest)))

-- all of the bytes
unfoldable pub text_at : List ℕ → Result Tree Fault
text_at bytes = do
  rest ← version_at bytes
  term ← term_at 128 rest
  if length term.1 == 0 then Ok term.0 else Err (Bad (length term.1))
