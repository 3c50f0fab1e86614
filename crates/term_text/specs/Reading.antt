-- Reading from left to right, with the first fault that is met. A fault says how many bytes are left from its place on.
use Rattle.std.specs.Prelude.{◌≡◌, ℕ, zero, suc, ◌+◌, ◌^◌, ◌==◌, ◌&&◌, ◌||◌, not, min, pos, ℤ, negsuc, if◌then◌else◌, nat_lt, nat_le, Bool, true, false, List, [], ◌∷◌, length, take, drop, slice_index, map, Option, Some, None, Result, Ok, Err}
use Rattle.std.specs.Char.{is_ascii_digit, is_ascii_hexdigit, is_ascii_lowercase}
use Rattle.std.specs.Int.{is_in_range}
use Rattle.std.specs.List.{prefix_len}
use Rattle.std.specs.Str.{is_utf8, chars, continuation_len, encode_utf8_all, all_scalars}
use Rattle.std.specs.Str.Parse.{digits_value, signed_digits_value}
use Rattle.term_core.specs.Tree.{Tree, int, atom, tuple, list, bin}
use Rattle.term_core.specs.View.{trees_of}
use Rattle.term_text.specs.Grammar.{begins, is_blank, is_name_byte, escaped}
use Rattle.term_text.specs.declared.fault.Fault.{Fault}
use Rattle.term_text.specs.declared.fault.Fault.TheVariants.{Bad, WideInt, TooDeep}
use Rattle.term_text.specs.declared.fault.ReadErr.{ReadErr}
use Rattle.term_text.specs.declared.fault.ReadErr.TheVariants as errors

infixl 10 ◌>>=◌
abbrev pub ◌>>=◌ : {A B : Type 0} → Result A Fault → (A → Result B Fault) → Result B Fault
(Ok x) >>= f = f x
(Err e) >>= f = Err e

-- What a function returned, seen by view, is what reading gives, unless memory ran out.
abbrev pub Fails : {Y : Type 0} → ReadErr → Result Y Fault → Type 0
Fails errors.Memory read = Unit {0}
Fails (errors.Fault f) read = read ≡ Err f

abbrev pub Gives : {X Y : Type 0} → (X → Y) → Result X ReadErr → Result Y Fault → Type 0
Gives view (Ok x) read = read ≡ Ok (view x)
Gives view (Err e) read = Fails e read

-- what no text has at the front of these bytes
abbrev pub refused : {A : Type 0} → List ℕ → Result A Fault
refused bytes = Err (Bad (length bytes))

-- the bytes behind this one
unfoldable pub byte_at : ℕ → List ℕ → Result (List ℕ) Fault
byte_at byte bytes = if begins (λ b. b == byte) bytes then Ok (drop 1 bytes) else refused bytes

-- the bytes behind the blanks
unfoldable pub unblanked : List ℕ → List ℕ
unblanked bytes = drop (prefix_len is_blank bytes) bytes

-- ---- numbers

abbrev pub is_positive_digit : ℕ → Bool
is_positive_digit byte = is_ascii_digit byte && not (byte == 48)

-- how many bytes a number from 1 on takes: all the digits, of which the first is not 0
unfoldable pub positive_len : List ℕ → Result ℕ Fault
positive_len bytes = if begins is_positive_digit bytes then Ok (prefix_len is_ascii_digit bytes) else refused bytes

-- the same of a number from 0 on, and of any number
unfoldable pub natural_len : List ℕ → Result ℕ Fault
natural_len bytes = if begins (λ b. b == 48) bytes then Ok 1 else positive_len bytes

unfoldable pub number_len : List ℕ → Result ℕ Fault
number_len bytes = if begins (λ b. b == 45) bytes then (positive_len (drop 1 bytes) >>= λ n. Ok (n + 1)) else natural_len bytes

-- a number of 128 bits
abbrev pub fits : ℤ → Bool
fits (pos n) = nat_lt n (2 ^ 127)
fits (negsuc n) = nat_lt n (2 ^ 127)

unfoldable pub number_at : List ℕ → Result (Tree × List ℕ) Fault
number_at bytes = do
  n ← number_len bytes
  if fits (signed_digits_value 10 (take n bytes)) then Ok (int (signed_digits_value 10 (take n bytes)), drop n bytes) else Err (WideInt (length bytes))

-- a number from 0 to 255
unfoldable pub small_at : List ℕ → Result (ℕ × List ℕ) Fault
small_at bytes = do
  n ← natural_len bytes
  if nat_lt (digits_value 10 (take n bytes)) 256 then Ok (digits_value 10 (take n bytes), drop n bytes) else refused bytes

-- ---- characters

-- a character in UTF-8, of as many bytes as its first byte says
unfoldable pub utf8_at : List ℕ → Result (ℕ × List ℕ) Fault
utf8_at [] = refused []
utf8_at (b ∷ rest) =
    let n = min (continuation_len b + 1) (length (b ∷ rest)) in
    if is_utf8 (take n (b ∷ rest)) then Ok (slice_index (chars (take n (b ∷ rest))) 0, drop n (b ∷ rest)) else refused (b ∷ rest)

-- 1 to 6 hexadecimal digits
unfoldable pub hex_digits_at : List ℕ → Result (List ℕ × List ℕ) Fault
hex_digits_at bytes =
    let n = prefix_len is_ascii_hexdigit (take 6 bytes) in
    if n == 0 then refused bytes else Ok (take n bytes, drop n bytes)

abbrev pub is_scalar : ℕ → Bool
is_scalar c = all_scalars (c ∷ [])

-- Behind `\x`. A number that no character has is refused at the `\`.
unfoldable pub hex_at : List ℕ → Result (ℕ × List ℕ) Fault
hex_at bytes = do
  inner ← byte_at 123 bytes
  digits ← hex_digits_at inner
  rest ← byte_at 125 digits.1
  if is_scalar (digits_value 16 digits.0) then Ok (digits_value 16 digits.0, rest) else Err (Bad (length bytes + 2))

abbrev pub letter_at : Option ℕ → List ℕ → Result (ℕ × List ℕ) Fault
letter_at None bytes = refused bytes
letter_at (Some c) bytes = Ok (c, drop 1 bytes)

-- behind `\`
unfoldable pub escape_at : List ℕ → Result (ℕ × List ℕ) Fault
escape_at [] = refused []
escape_at (b ∷ rest) = if b == 120 then hex_at rest else letter_at (escaped b) (b ∷ rest)

-- a character between quotes
unfoldable pub character_at : List ℕ → Result (ℕ × List ℕ) Fault
character_at [] = refused []
character_at (b ∷ rest) =
    if b == 92 then escape_at rest
    else (if nat_lt b 32 then refused (b ∷ rest) else utf8_at (b ∷ rest))

-- a character up to U+00FF
unfoldable pub narrow_at : List ℕ → Result (ℕ × List ℕ) Fault
narrow_at bytes = do
  c ← character_at bytes
  if nat_lt c.0 256 then Ok c else refused bytes

-- at most so many characters, and the quote behind them
unfoldable pub quoted_at : (List ℕ → Result (ℕ × List ℕ) Fault) → ℕ → ℕ → List ℕ → Result (List ℕ × List ℕ) Fault
quoted_at one quote zero bytes = byte_at quote bytes >>= λ rest. Ok ([], rest)
quoted_at one quote (suc n) bytes =
    if begins (λ b. b == quote) bytes then Ok ([], drop 1 bytes)
    else (one bytes >>= λ first. quoted_at one quote n first.1 >>= λ others. Ok (first.0 ∷ others.0, others.1))

-- the characters as the numbers that a string is the list of
abbrev pub as_numbers : Result (List ℕ × List ℕ) Fault → Result (List Tree × List ℕ) Fault
as_numbers read = read >>= λ cs. Ok (map (λ n. int (pos n)) cs.0, cs.1)

-- ---- elements

-- behind an element: whether a comma follows it, or the closing byte
unfoldable pub more_at : ℕ → List ℕ → Result (Bool × List ℕ) Fault
more_at close bytes =
    if begins (λ b. b == 44) bytes then Ok (true, drop 1 bytes) else (byte_at close bytes >>= λ rest. Ok (false, rest))

-- at most so many elements with commas between, at least one, and the closing byte
unfoldable pub elements_at : {A : Type 0} → (List ℕ → Result (A × List ℕ) Fault) → ℕ → ℕ → List ℕ → Result (List A × List ℕ) Fault
elements_at one close zero bytes = refused bytes
elements_at one close (suc n) bytes = do
  first ← one (unblanked bytes)
  more ← more_at close (unblanked first.1)
  if more.0 then (elements_at one close n more.1 >>= λ others. Ok (first.0 ∷ others.0, others.1)) else Ok (first.0 ∷ [], more.1)

-- the elements behind an opening byte; each takes at least one byte, so that they are no more than the bytes
unfoldable pub inner_at : {A : Type 0} → (List ℕ → Result (A × List ℕ) Fault) → ℕ → List ℕ → Result (List A × List ℕ) Fault
inner_at one close bytes =
    if begins (λ b. b == close) (unblanked bytes) then Ok ([], drop 1 (unblanked bytes)) else elements_at one close (length bytes) bytes

-- ---- terms

-- a name of at most 255 bytes
unfoldable pub name_at : List ℕ → Result (Tree × List ℕ) Fault
name_at bytes =
    let n = prefix_len is_name_byte bytes in
    if nat_le n 255 then Ok (atom (take n bytes), drop n bytes) else refused (drop 255 bytes)

-- behind the first `'`
unfoldable pub quoted_atom_at : List ℕ → Result (Tree × List ℕ) Fault
quoted_atom_at bytes = do
  cs ← quoted_at character_at 39 255 bytes
  Ok (atom (encode_utf8_all cs.0), cs.1)

-- a byte that a character may begin with, as Unicode's table 3-7 has them
abbrev pub may_begin_character : ℕ → Bool
may_begin_character b = is_in_range 32 127 b || is_in_range 0xC2 0xF4 b

-- Behind the first `"`, where the characters may nest over so many levels.
unfoldable pub string_at : ℕ → List ℕ → Result (Tree × List ℕ) Fault
string_at levels bytes =
    if (levels == 0) && not (begins (λ b. b == 34) bytes) && begins may_begin_character bytes then Err (TooDeep (length bytes))
    else (as_numbers (quoted_at character_at 34 (length bytes) bytes) >>= λ cs. Ok (list (trees_of cs.0), cs.1))

-- behind the first `"` within a binary, up to the first `>`
unfoldable pub byte_string_at : List ℕ → Result (List ℕ × List ℕ) Fault
byte_string_at bytes = do
  cs ← quoted_at narrow_at 34 (length bytes) bytes
  rest ← byte_at 62 (unblanked cs.1)
  Ok (cs.0, rest)

-- the bytes of a binary, up to the first `>`
unfoldable pub bytes_at : List ℕ → Result (List ℕ × List ℕ) Fault
bytes_at bytes = if begins (λ b. b == 34) (unblanked bytes) then byte_string_at (drop 1 (unblanked bytes)) else inner_at small_at 62 bytes

-- behind the first `<`
unfoldable pub binary_at : List ℕ → Result (Tree × List ℕ) Fault
binary_at bytes = do
  inner ← byte_at 60 bytes
  found ← bytes_at inner
  rest ← byte_at 62 found.1
  Ok (bin found.0, rest)

-- behind `{` and behind `[`
unfoldable pub tuple_at : (List ℕ → Result (Tree × List ℕ) Fault) → List ℕ → Result (Tree × List ℕ) Fault
tuple_at one bytes = do
  items ← inner_at one 125 bytes
  Ok (tuple (trees_of items.0), items.1)

unfoldable pub list_at : (List ℕ → Result (Tree × List ℕ) Fault) → List ℕ → Result (Tree × List ℕ) Fault
list_at one bytes = do
  items ← inner_at one 93 bytes
  Ok (list (trees_of items.0), items.1)

-- by its first byte, where the terms inside may nest over so many levels
unfoldable pub begun_at : (List ℕ → Result (Tree × List ℕ) Fault) → ℕ → List ℕ → Result (Tree × List ℕ) Fault
begun_at one levels bytes =
    if begins is_ascii_lowercase bytes then name_at bytes
    else (if begins (λ b. b == 39) bytes then quoted_atom_at (drop 1 bytes)
    else (if begins (λ b. b == 34) bytes then string_at levels (drop 1 bytes)
    else (if begins (λ b. b == 123) bytes then tuple_at one (drop 1 bytes)
    else (if begins (λ b. b == 91) bytes then list_at one (drop 1 bytes)
    else (if begins (λ b. b == 60) bytes then binary_at (drop 1 bytes)
    else number_at bytes)))))

-- a byte that a term may begin with
abbrev pub may_begin_term : ℕ → Bool
may_begin_term b =
    is_ascii_lowercase b || (b == 39) || (b == 34) || (b == 123) || (b == 91) || (b == 60) || (b == 45) || is_ascii_digit b

-- a term that may nest over so many levels
unfoldable pub term_at : ℕ → List ℕ → Result (Tree × List ℕ) Fault
term_at zero bytes = if begins may_begin_term bytes then Err (TooDeep (length bytes)) else refused bytes
term_at (suc levels) bytes = begun_at (term_at levels) levels bytes
