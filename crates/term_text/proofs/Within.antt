-- What is read, and each fault, lies within the bytes.
use Rattle.std.proofs.Common.{◌≡◌, ℕ, zero, suc, ◌+◌, ◌≤◌, Bool, true, false, cond, eqb, ltb, leb, List, [], ◌∷◌, length, take, drop, Option, Some, None, Result, Ok, Err, subst, arith}
use Rattle.std.specs.Prelude.{min, slice_index, map, pos, nat_lt, ◌==◌, not, ◌&&◌}
use Rattle.std.specs.Char.{is_ascii_digit, is_ascii_hexdigit, is_ascii_lowercase}
use Rattle.std.specs.List.{prefix_len}
use Rattle.std.specs.Str.{is_utf8, chars, continuation_len, encode_utf8_all}
use Rattle.std.specs.Str.Parse.{digits_value, signed_digits_value}
use Rattle.std.proofs.lemmas.List.{length-drop}
use Rattle.term_core.specs.Tree.{Tree, int, atom, tuple, list, bin}
use Rattle.term_core.specs.View.{trees_of}
use Rattle.term_text.specs.declared.fault.Fault.{Fault}
use Rattle.term_text.specs.declared.fault.Fault.TheVariants.{Bad, WideInt, TooDeep}
use Rattle.term_text.specs.Grammar.{begins, is_blank, is_name_byte, escaped}
use Rattle.term_text.specs.Places.{left_of}
use Rattle.term_text.specs.Reading.{◌>>=◌, refused, byte_at, unblanked, is_positive_digit, positive_len, natural_len, number_len, fits, number_at, small_at, utf8_at, hex_digits_at, is_scalar, hex_at, letter_at, escape_at, character_at, narrow_at, quoted_at, as_numbers, more_at, elements_at, inner_at, name_at, quoted_atom_at, may_begin_character, string_at, byte_string_at, bytes_at, binary_at, tuple_at, list_at, begun_at, may_begin_term, term_at}

-- what is left, by a view, is no more than so many bytes, and so is what is left at a fault
abbrev Within : {A : Type 0} → (A → List ℕ) → ℕ → Result A Fault → Type 0
Within rest n (Ok x) = length (rest x) ≤ n
Within rest n (Err f) = left_of f ≤ n

abbrev behind : {A : Type 0} → A × List ℕ → List ℕ
behind x = x.1

abbrev itself : List ℕ → List ℕ
itself rest = rest

weaker : {A : Type 0} (rest : A → List ℕ) (m n : ℕ) (r : Result A Fault) → m ≤ n → Within rest m r → Within rest n r
weaker rest m n (Ok x) le h = omega (arith, h)
weaker rest m n (Err f) le h = omega (arith, h)

then_within : {A B : Type 0} (before : A → List ℕ) (rest : B → List ℕ) (n : ℕ) (r : Result A Fault) (f : A → Result B Fault) → Within before n r → ((x : A) → length (before x) ≤ n → Within rest n (f x)) → Within rest n (r >>= f)
then_within before rest n (Ok x) f h g = g x h
then_within before rest n (Err e) f h g = h

either_within : {A : Type 0} (rest : A → List ℕ) (n : ℕ) (b : Bool) (x y : Result A Fault) → Within rest n x → Within rest n y → Within rest n (cond b x y)
either_within rest n true x y p q = p
either_within rest n false x y p q = q

abbrev Reads : {A : Type 0} → (List ℕ → Result (A × List ℕ) Fault) → Type 0
Reads one = (bytes : List ℕ) → Within behind (length bytes) (one bytes)

-- where more is dropped than what was due
dropped : (k : ℕ) (bytes : List ℕ) → length (drop k bytes) ≤ length bytes
dropped k bytes = omega (arith, length-drop k bytes)

byte_within : (b : ℕ) (bytes : List ℕ) → Within itself (length bytes) (byte_at b bytes)
unfolding byte_at
byte_within b bytes = either_within itself (length bytes) (begins (λ c. c == b) bytes) (Ok (drop 1 bytes)) (refused bytes) (dropped 1 bytes) (omega arith)

unblanked_within : (bytes : List ℕ) → length (unblanked bytes) ≤ length bytes
unfolding unblanked
unblanked_within bytes = dropped (prefix_len is_blank bytes) bytes

-- no bytes are left of a count
abbrev none : ℕ → List ℕ
none n = []

positive_within : (bytes : List ℕ) → Within none (length bytes) (positive_len bytes)
unfolding positive_len
positive_within bytes = either_within none (length bytes) (begins is_positive_digit bytes) (Ok (prefix_len is_ascii_digit bytes)) (refused bytes) (omega arith) (omega arith)

natural_within : (bytes : List ℕ) → Within none (length bytes) (natural_len bytes)
unfolding natural_len
natural_within bytes = either_within none (length bytes) (begins (λ c. c == 48) bytes) (Ok 1) (positive_len bytes) (omega arith) (positive_within bytes)

number_len_within : (bytes : List ℕ) → Within none (length bytes) (number_len bytes)
unfolding number_len
number_len_within bytes =
    either_within none (length bytes) (begins (λ c. c == 45) bytes) (positive_len (drop 1 bytes) >>= λ n. Ok (n + 1)) (natural_len bytes)
    (then_within none none (length bytes) (positive_len (drop 1 bytes)) (λ n. Ok (n + 1)) (weaker none (length (drop 1 bytes)) (length bytes) (positive_len (drop 1 bytes)) (dropped 1 bytes) (positive_within (drop 1 bytes))) (λ n le. omega arith))
    (natural_within bytes)

number_within : Reads number_at
unfolding number_at
number_within bytes =
    then_within none behind (length bytes) (number_len bytes) (λ n. cond (fits (signed_digits_value 10 (take n bytes))) (Ok (int (signed_digits_value 10 (take n bytes)), drop n bytes)) (Err (WideInt (length bytes)))) (number_len_within bytes)
    (λ n le. either_within behind (length bytes) (fits (signed_digits_value 10 (take n bytes))) (Ok (int (signed_digits_value 10 (take n bytes)), drop n bytes)) (Err (WideInt (length bytes))) (dropped n bytes) (omega arith))

small_within : Reads small_at
unfolding small_at
small_within bytes =
    then_within none behind (length bytes) (natural_len bytes) (λ n. cond (nat_lt (digits_value 10 (take n bytes)) 256) (Ok (digits_value 10 (take n bytes), drop n bytes)) (refused bytes)) (natural_within bytes)
    (λ n le. either_within behind (length bytes) (nat_lt (digits_value 10 (take n bytes)) 256) (Ok (digits_value 10 (take n bytes), drop n bytes)) (refused bytes) (dropped n bytes) (omega arith))

utf8_within : Reads utf8_at
unfolding utf8_at
utf8_within [] = omega arith
utf8_within (b ∷ rest) =
    let n = min (continuation_len b + 1) (length (b ∷ rest)) in
    either_within behind (length (b ∷ rest)) (is_utf8 (take n (b ∷ rest))) (Ok (slice_index (chars (take n (b ∷ rest))) 0, drop n (b ∷ rest))) (refused (b ∷ rest)) (dropped n (b ∷ rest)) (omega arith)

hex_digits_within : Reads hex_digits_at
unfolding hex_digits_at
hex_digits_within bytes =
    let n = prefix_len is_ascii_hexdigit (take 6 bytes) in
    either_within behind (length bytes) (eqb n 0) (refused bytes) (Ok (take n bytes, drop n bytes)) (omega arith) (dropped n bytes)

hex_within : (bytes : List ℕ) → Within behind (length bytes + 2) (hex_at bytes)
unfolding hex_at
hex_within bytes =
    let end = λ (digits : List ℕ × List ℕ). byte_at 125 digits.1 >>= λ rest. cond (is_scalar (digits_value 16 digits.0)) (Ok (digits_value 16 digits.0, rest)) (Err (Bad (length bytes + 2))) in
    then_within itself behind (length bytes + 2) (byte_at 123 bytes) (λ inner. hex_digits_at inner >>= end)
    (weaker itself (length bytes) (length bytes + 2) (byte_at 123 bytes) (omega arith) (byte_within 123 bytes))
    (λ inner le. then_within behind behind (length bytes + 2) (hex_digits_at inner) end
    (weaker behind (length inner) (length bytes + 2) (hex_digits_at inner) le (hex_digits_within inner))
    (λ digits le2. then_within itself behind (length bytes + 2) (byte_at 125 digits.1) (λ rest. cond (is_scalar (digits_value 16 digits.0)) (Ok (digits_value 16 digits.0, rest)) (Err (Bad (length bytes + 2))))
    (weaker itself (length digits.1) (length bytes + 2) (byte_at 125 digits.1) le2 (byte_within 125 digits.1))
    (λ rest le3. either_within behind (length bytes + 2) (is_scalar (digits_value 16 digits.0)) (Ok (digits_value 16 digits.0, rest)) (Err (Bad (length bytes + 2))) le3 (omega arith))))

letter_within : (o : Option ℕ) (bytes : List ℕ) → Within behind (length bytes) (letter_at o bytes)
letter_within None bytes = omega arith
letter_within (Some c) bytes = dropped 1 bytes

escape_within : (bytes : List ℕ) → Within behind (length bytes + 1) (escape_at bytes)
unfolding escape_at
escape_within [] = omega arith
escape_within (b ∷ rest) =
    either_within behind (length (b ∷ rest) + 1) (eqb b 120) (hex_at rest) (letter_at (escaped b) (b ∷ rest))
    (weaker behind (length rest + 2) (length (b ∷ rest) + 1) (hex_at rest) (omega arith) (hex_within rest))
    (weaker behind (length (b ∷ rest)) (length (b ∷ rest) + 1) (letter_at (escaped b) (b ∷ rest)) (omega arith) (letter_within (escaped b) (b ∷ rest)))

character_within : Reads character_at
unfolding character_at
character_within [] = omega arith
character_within (b ∷ rest) =
    either_within behind (length (b ∷ rest)) (eqb b 92) (escape_at rest) (cond (ltb b 32) (refused (b ∷ rest)) (utf8_at (b ∷ rest)))
    (weaker behind (length rest + 1) (length (b ∷ rest)) (escape_at rest) (omega arith) (escape_within rest))
    (either_within behind (length (b ∷ rest)) (ltb b 32) (refused (b ∷ rest)) (utf8_at (b ∷ rest)) (omega arith) (utf8_within (b ∷ rest)))

narrow_within : Reads narrow_at
unfolding narrow_at
narrow_within bytes =
    then_within behind behind (length bytes) (character_at bytes) (λ c. cond (ltb c.0 256) (Ok c) (refused bytes)) (character_within bytes)
    (λ c le. either_within behind (length bytes) (ltb c.0 256) (Ok c) (refused bytes) le (omega arith))

quoted_within : (one : List ℕ → Result (ℕ × List ℕ) Fault) → Reads one → (quote most : ℕ) → Reads (quoted_at one quote most)
unfolding quoted_at
quoted_within one reads quote zero bytes =
    then_within itself behind (length bytes) (byte_at quote bytes) (λ rest. Ok ([], rest)) (byte_within quote bytes) (λ rest le. le)
quoted_within one reads quote (suc most) bytes =
    let more = λ (first : ℕ × List ℕ). quoted_at one quote most first.1 >>= λ others. Ok (first.0 ∷ others.0, others.1) in
    either_within behind (length bytes) (begins (λ b. b == quote) bytes) (Ok ([], drop 1 bytes)) (one bytes >>= more) (dropped 1 bytes)
    (then_within behind behind (length bytes) (one bytes) more (reads bytes)
    (λ first le. then_within behind behind (length bytes) (quoted_at one quote most first.1) (λ others. Ok (first.0 ∷ others.0, others.1))
    (weaker behind (length first.1) (length bytes) (quoted_at one quote most first.1) le (quoted_within one reads quote most first.1))
    (λ others le2. le2)))

more_within : (close : ℕ) → Reads (more_at close)
unfolding more_at
more_within close bytes =
    either_within behind (length bytes) (begins (λ b. b == 44) bytes) (Ok (true, drop 1 bytes)) (byte_at close bytes >>= λ rest. Ok (false, rest)) (dropped 1 bytes)
    (then_within itself behind (length bytes) (byte_at close bytes) (λ rest. Ok (false, rest)) (byte_within close bytes) (λ rest le. le))

unblanked_reads : {A : Type 0} (one : List ℕ → Result (A × List ℕ) Fault) → Reads one → (bytes : List ℕ) → Within behind (length bytes) (one (unblanked bytes))
unblanked_reads one reads bytes = weaker behind (length (unblanked bytes)) (length bytes) (one (unblanked bytes)) (unblanked_within bytes) (reads (unblanked bytes))

elements_within : {A : Type 0} (one : List ℕ → Result (A × List ℕ) Fault) → Reads one → (close most : ℕ) → Reads (elements_at one close most)
unfolding elements_at
elements_within one reads close zero bytes = omega arith
elements_within {A} one reads close (suc most) bytes =
    let others = λ (first : A × List ℕ) (more : Bool × List ℕ). elements_at one close most more.1 >>= λ others. Ok (first.0 ∷ others.0, others.1) in
    let next = λ (first : A × List ℕ) (more : Bool × List ℕ). cond more.0 (others first more) (Ok (first.0 ∷ [], more.1)) in
    then_within behind behind (length bytes) (one (unblanked bytes)) (λ first. more_at close (unblanked first.1) >>= next first) (unblanked_reads one reads bytes)
    (λ first le. then_within behind behind (length bytes) (more_at close (unblanked first.1)) (next first)
    (weaker behind (length first.1) (length bytes) (more_at close (unblanked first.1)) le (unblanked_reads (more_at close) (more_within close) first.1))
    (λ more le2. either_within behind (length bytes) more.0 (others first more) (Ok (first.0 ∷ [], more.1))
    (then_within behind behind (length bytes) (elements_at one close most more.1) (λ others. Ok (first.0 ∷ others.0, others.1))
    (weaker behind (length more.1) (length bytes) (elements_at one close most more.1) le2 (elements_within one reads close most more.1))
    (λ others le3. le3)) le2))

inner_within : {A : Type 0} (one : List ℕ → Result (A × List ℕ) Fault) → Reads one → (close : ℕ) → Reads (inner_at one close)
unfolding inner_at
inner_within one reads close bytes =
    either_within behind (length bytes) (begins (λ b. b == close) (unblanked bytes)) (Ok ([], drop 1 (unblanked bytes))) (elements_at one close (length bytes) bytes)
    (omega (arith, dropped 1 (unblanked bytes), unblanked_within bytes)) (elements_within one reads close (length bytes) bytes)

name_within : Reads name_at
unfolding name_at
name_within bytes =
    let n = prefix_len is_name_byte bytes in
    either_within behind (length bytes) (leb n 255) (Ok (atom (take n bytes), drop n bytes)) (refused (drop 255 bytes)) (dropped n bytes) (dropped 255 bytes)

quoted_atom_within : Reads quoted_atom_at
unfolding quoted_atom_at
quoted_atom_within bytes =
    then_within behind behind (length bytes) (quoted_at character_at 39 255 bytes) (λ cs. Ok (atom (encode_utf8_all cs.0), cs.1)) (quoted_within character_at character_within 39 255 bytes) (λ cs le. le)

as_numbers_within : (n : ℕ) (read : Result (List ℕ × List ℕ) Fault) → Within behind n read → Within behind n (as_numbers read)
as_numbers_within n read h = then_within behind behind n read (λ cs. Ok (map (λ k. int (pos k)) cs.0, cs.1)) h (λ cs le. le)

string_within : (levels : ℕ) → Reads (string_at levels)
unfolding string_at
string_within levels bytes =
    let cs = quoted_at character_at 34 (length bytes) bytes in
    either_within behind (length bytes) ((levels == 0) && not (begins (λ b. b == 34) bytes) && begins may_begin_character bytes) (Err (TooDeep (length bytes))) (as_numbers cs >>= λ ts. Ok (list (trees_of ts.0), ts.1)) (omega arith)
    (then_within behind behind (length bytes) (as_numbers cs) (λ ts. Ok (list (trees_of ts.0), ts.1)) (as_numbers_within (length bytes) cs (quoted_within character_at character_within 34 (length bytes) bytes)) (λ ts le. le))

byte_string_within : Reads byte_string_at
unfolding byte_string_at
byte_string_within bytes =
    then_within behind behind (length bytes) (quoted_at narrow_at 34 (length bytes) bytes) (λ cs. byte_at 62 (unblanked cs.1) >>= λ rest. Ok (cs.0, rest)) (quoted_within narrow_at narrow_within 34 (length bytes) bytes)
    (λ cs le. then_within itself behind (length bytes) (byte_at 62 (unblanked cs.1)) (λ rest. Ok (cs.0, rest))
    (weaker itself (length (unblanked cs.1)) (length bytes) (byte_at 62 (unblanked cs.1)) (omega (arith, unblanked_within cs.1, le)) (byte_within 62 (unblanked cs.1))) (λ rest le2. le2))

bytes_within : Reads bytes_at
unfolding bytes_at
bytes_within bytes =
    either_within behind (length bytes) (begins (λ b. b == 34) (unblanked bytes)) (byte_string_at (drop 1 (unblanked bytes))) (inner_at small_at 62 bytes)
    (weaker behind (length (drop 1 (unblanked bytes))) (length bytes) (byte_string_at (drop 1 (unblanked bytes))) (omega (arith, dropped 1 (unblanked bytes), unblanked_within bytes)) (byte_string_within (drop 1 (unblanked bytes))))
    (inner_within small_at small_within 62 bytes)

binary_within : Reads binary_at
unfolding binary_at
binary_within bytes =
    let end = λ (found : List ℕ × List ℕ). byte_at 62 found.1 >>= λ rest. Ok (bin found.0, rest) in
    then_within itself behind (length bytes) (byte_at 60 bytes) (λ inner. bytes_at inner >>= end) (byte_within 60 bytes)
    (λ inner le. then_within behind behind (length bytes) (bytes_at inner) end
    (weaker behind (length inner) (length bytes) (bytes_at inner) le (bytes_within inner))
    (λ found le2. then_within itself behind (length bytes) (byte_at 62 found.1) (λ rest. Ok (bin found.0, rest))
    (weaker itself (length found.1) (length bytes) (byte_at 62 found.1) le2 (byte_within 62 found.1)) (λ rest le3. le3)))

tuple_within : (one : List ℕ → Result (Tree × List ℕ) Fault) → Reads one → Reads (tuple_at one)
unfolding tuple_at
tuple_within one reads bytes =
    then_within behind behind (length bytes) (inner_at one 125 bytes) (λ items. Ok (tuple (trees_of items.0), items.1)) (inner_within one reads 125 bytes) (λ items le. le)

list_within : (one : List ℕ → Result (Tree × List ℕ) Fault) → Reads one → Reads (list_at one)
unfolding list_at
list_within one reads bytes =
    then_within behind behind (length bytes) (inner_at one 93 bytes) (λ items. Ok (list (trees_of items.0), items.1)) (inner_within one reads 93 bytes) (λ items le. le)

after_first : {A : Type 0} (one : List ℕ → Result (A × List ℕ) Fault) → Reads one → (bytes : List ℕ) → Within behind (length bytes) (one (drop 1 bytes))
after_first one reads bytes = weaker behind (length (drop 1 bytes)) (length bytes) (one (drop 1 bytes)) (dropped 1 bytes) (reads (drop 1 bytes))

begun_within : (one : List ℕ → Result (Tree × List ℕ) Fault) → Reads one → (levels : ℕ) → Reads (begun_at one levels)
unfolding begun_at
begun_within one reads levels bytes =
    let n : ℕ = length bytes in
    let from_60 : Result (Tree × List ℕ) Fault = cond (begins (λ b. b == 60) bytes) (binary_at (drop 1 bytes)) (number_at bytes) in
    let from_91 : Result (Tree × List ℕ) Fault = cond (begins (λ b. b == 91) bytes) (list_at one (drop 1 bytes)) from_60 in
    let from_123 : Result (Tree × List ℕ) Fault = cond (begins (λ b. b == 123) bytes) (tuple_at one (drop 1 bytes)) from_91 in
    let from_34 : Result (Tree × List ℕ) Fault = cond (begins (λ b. b == 34) bytes) (string_at levels (drop 1 bytes)) from_123 in
    let from_39 : Result (Tree × List ℕ) Fault = cond (begins (λ b. b == 39) bytes) (quoted_atom_at (drop 1 bytes)) from_34 in
    either_within behind n (begins is_ascii_lowercase bytes) (name_at bytes) from_39 (name_within bytes)
    (either_within behind n (begins (λ b. b == 39) bytes) (quoted_atom_at (drop 1 bytes)) from_34 (after_first quoted_atom_at quoted_atom_within bytes)
    (either_within behind n (begins (λ b. b == 34) bytes) (string_at levels (drop 1 bytes)) from_123 (after_first (string_at levels) (string_within levels) bytes)
    (either_within behind n (begins (λ b. b == 123) bytes) (tuple_at one (drop 1 bytes)) from_91 (after_first (tuple_at one) (tuple_within one reads) bytes)
    (either_within behind n (begins (λ b. b == 91) bytes) (list_at one (drop 1 bytes)) from_60 (after_first (list_at one) (list_within one reads) bytes)
    (either_within behind n (begins (λ b. b == 60) bytes) (binary_at (drop 1 bytes)) (number_at bytes) (after_first binary_at binary_within bytes) (number_within bytes))))))

term_within : (levels : ℕ) → Reads (term_at levels)
unfolding term_at
term_within zero bytes = either_within behind (length bytes) (begins may_begin_term bytes) (Err (TooDeep (length bytes))) (refused bytes) (omega arith) (omega arith)
term_within (suc levels) bytes = begun_within (term_at levels) (term_within levels) levels bytes

pub fault_within : (levels at : ℕ) (text : List ℕ) (f : Fault) → term_at levels (drop at text) ≡ Err f → left_of f ≤ length text
fault_within levels at text f e = let h = subst (Within {A = Tree × List ℕ} behind (length (drop at text))) e (term_within levels (drop at text)) in omega (arith, h, dropped at text)

pub rest_within : (levels at : ℕ) (text : List ℕ) (x : Tree × List ℕ) → term_at levels (drop at text) ≡ Ok x → length x.1 ≤ length text
rest_within levels at text x e = let h = subst (Within {A = Tree × List ℕ} behind (length (drop at text))) e (term_within levels (drop at text)) in omega (arith, h, dropped at text)
