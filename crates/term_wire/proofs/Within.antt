-- A fault lies within the bytes.
use Rattle.std.proofs.Common.{◌≡◌, ℕ, zero, suc, ◌+◌, ◌≤◌, Bool, true, false, cond, eqb, leb, ltb, to_z, List, [], ◌∷◌, length, take, drop, Result, Ok, Err, subst, arith}
use Rattle.std.specs.Prelude.{◌==◌, ◌&&◌, pos}
use Rattle.std.specs.List.{list_any}
use Rattle.std.specs.Int.{Width, w8, w16, w32, byte_len, from_be_bytes}
use Rattle.std.specs.Str.{encode_utf8_all}
use Rattle.std.proofs.lemmas.List.{length-drop}
use Rattle.term_core.specs.Tree.{Tree, int, atom, tuple, list, bin, no_trees, tree}
use Rattle.term_wire.specs.declared.fault.Fault.{Fault}
use Rattle.term_wire.specs.declared.fault.Fault.TheVariants.{Bad, Outside, WideInt, TooDeep}
use Rattle.term_wire.specs.Decoding.{left_of}
use Rattle.term_wire.specs.Spelling.{low_first, signed}
use Rattle.term_wire.specs.Reading.{◌>>=◌, byte_at, bytes_at, number_at, sign_at, small_at, integer_at, fits_term, wide_at, is_name, atom_at, latin_at, binary_at, numbers, numbers_at, items_at, tuple_at, end_at, list_at, outside_tags, other_at, leaf_at, tagged_at, term_at, version_at, text_at}

-- what is left, by a view, is no more than so many bytes, and so is what is left at a fault
abbrev Within : {A : Type 0} → (A → List ℕ) → ℕ → Result A Fault → Type 0
Within rest n (Ok x) = length (rest x) ≤ n
Within rest n (Err f) = left_of f ≤ n

abbrev behind : {A : Type 0} → A × List ℕ → List ℕ
behind x = x.1

weaker : {A : Type 0} (rest : A → List ℕ) (m n : ℕ) (r : Result A Fault) → m ≤ n → Within rest m r → Within rest n r
weaker rest m n (Ok x) le h = omega (arith, h)
weaker rest m n (Err f) le h = omega (arith, h)

-- a step, and then what follows it
then_within : {A B : Type 0} (before : A → List ℕ) (rest : B → List ℕ) (m n : ℕ) (r : Result A Fault) (f : A → Result B Fault) → m ≤ n → Within before m r → ((x : A) → length (before x) ≤ m → Within rest n (f x)) → Within rest n (r >>= f)
then_within before rest m n (Ok x) f le h g = g x h
then_within before rest m n (Err e) f le h g = omega (arith, h)

either_within : {A : Type 0} (rest : A → List ℕ) (n : ℕ) (b : Bool) (x y : Result A Fault) → Within rest n x → Within rest n y → Within rest n (cond b x y)
either_within rest n true x y p q = p
either_within rest n false x y p q = q

byte_within : (bytes : List ℕ) → Within behind (length bytes) (byte_at bytes)
byte_within [] = omega arith
byte_within (b ∷ bytes) = omega arith

bytes_within : (n : ℕ) (bytes : List ℕ) → Within behind (length bytes) (bytes_at n bytes)
bytes_within n bytes = either_within behind (length bytes) (ltb (length bytes) n) (Err (Bad 0)) (Ok (take n bytes, drop n bytes)) (omega arith) (omega (arith, length-drop n bytes))

number_within : (w : Width) (bytes : List ℕ) → Within behind (length bytes) (number_at w bytes)
unfolding number_at
number_within w bytes = then_within behind behind (length bytes) (length bytes) (bytes_at (byte_len w) bytes) (λ field. Ok (from_be_bytes w field.0, field.1)) (omega arith) (bytes_within (byte_len w) bytes) (λ x le. le)

sign_within : (bytes : List ℕ) → Within behind (length bytes) (sign_at bytes)
sign_within [] = omega arith
sign_within (b ∷ bytes) = either_within behind (length (b ∷ bytes)) (leb b 1) (Ok (b, bytes)) (Err (Bad (length (b ∷ bytes)))) (omega arith) (omega arith)

abbrev Reads : (List ℕ → Result (Tree × List ℕ) Fault) → Type 0
Reads one = (bytes : List ℕ) → Within behind (length bytes) (one bytes)

-- a count, and then what it counts
counted_within : {B : Type 0} (rest : B → List ℕ) (w : Width) (bytes : List ℕ) (f : ℕ × List ℕ → Result B Fault) → ((n : ℕ × List ℕ) → length n.1 ≤ length bytes → Within rest (length bytes + 1) (f n)) → Within rest (length bytes + 1) (number_at w bytes >>= f)
counted_within rest w bytes f g = then_within behind rest (length bytes) (length bytes + 1) (number_at w bytes) f (omega arith) (number_within w bytes) g

small_within : (bytes : List ℕ) → Within behind (length bytes + 1) (small_at bytes)
unfolding small_at
small_within bytes = counted_within behind w8 bytes (λ n. Ok (int (pos n.0), n.1)) (λ n le. omega (arith, le))

integer_within : (bytes : List ℕ) → Within behind (length bytes + 1) (integer_at bytes)
unfolding integer_at
integer_within bytes = counted_within behind w32 bytes (λ n. Ok (int (to_z w32 n.0), n.1)) (λ n le. omega (arith, le))

abbrev wide_end : List ℕ → ℕ → List ℕ × List ℕ → Result (Tree × List ℕ) Fault
wide_end bytes sign digits = cond (fits_term (signed sign (low_first digits.0))) (Ok (int (signed sign (low_first digits.0)), digits.1)) (Err (WideInt (length bytes + 1)))

wide_within : (w : Width) (bytes : List ℕ) → Within behind (length bytes + 1) (wide_at w bytes)
unfolding wide_at
wide_within w bytes =
    counted_within behind w bytes (λ n. sign_at n.1 >>= λ sign. bytes_at n.0 sign.1 >>= λ digits. wide_end bytes sign.0 digits)
    (λ n le. then_within behind behind (length n.1) (length bytes + 1) (sign_at n.1) (λ sign. bytes_at n.0 sign.1 >>= λ digits. wide_end bytes sign.0 digits) (omega (arith, le)) (sign_within n.1)
    (λ sign le2. then_within behind behind (length sign.1) (length bytes + 1) (bytes_at n.0 sign.1) (λ digits. wide_end bytes sign.0 digits) (omega (arith, le, le2)) (bytes_within n.0 sign.1)
    (λ digits le3. either_within behind (length bytes + 1) (fits_term (signed sign.0 (low_first digits.0))) (Ok (int (signed sign.0 (low_first digits.0)), digits.1)) (Err (WideInt (length bytes + 1))) (omega (arith, le, le2, le3)) (omega arith))))

-- a count, and as many bytes
text_within_tag : (w : Width) (bytes : List ℕ) (f : ℕ × List ℕ → List ℕ × List ℕ → Result (Tree × List ℕ) Fault)
    → ((n : ℕ × List ℕ) (text : List ℕ × List ℕ) → length n.1 ≤ length bytes → length text.1 ≤ length bytes → Within behind (length bytes + 1) (f n text))
    → Within behind (length bytes + 1) (number_at w bytes >>= λ n. bytes_at n.0 n.1 >>= λ text. f n text)
text_within_tag w bytes f g =
    counted_within behind w bytes (λ n. bytes_at n.0 n.1 >>= λ text. f n text)
    (λ n le. then_within behind behind (length n.1) (length bytes + 1) (bytes_at n.0 n.1) (f n) (omega (arith, le)) (bytes_within n.0 n.1)
    (λ text le2. g n text le (omega (arith, le, le2))))

atom_within : (w : Width) (bytes : List ℕ) → Within behind (length bytes + 1) (atom_at w bytes)
unfolding atom_at
atom_within w bytes =
    text_within_tag w bytes (λ n text. cond (is_name text.0) (Ok (atom text.0, text.1)) (Err (Bad (length bytes + 1))))
    (λ n text le le2. either_within behind (length bytes + 1) (is_name text.0) (Ok (atom text.0, text.1)) (Err (Bad (length bytes + 1))) (omega (arith, le2)) (omega arith))

latin_within : (w : Width) (bytes : List ℕ) → Within behind (length bytes + 1) (latin_at w bytes)
unfolding latin_at
latin_within w bytes =
    text_within_tag w bytes (λ n text. cond (leb (length text.0) 255) (Ok (atom (encode_utf8_all text.0), text.1)) (Err (Bad (length bytes + 1))))
    (λ n text le le2. either_within behind (length bytes + 1) (leb (length text.0) 255) (Ok (atom (encode_utf8_all text.0), text.1)) (Err (Bad (length bytes + 1))) (omega (arith, le2)) (omega arith))

binary_within : (bytes : List ℕ) → Within behind (length bytes + 1) (binary_at bytes)
unfolding binary_at
binary_within bytes = text_within_tag w32 bytes (λ n text. Ok (bin text.0, text.1)) (λ n text le le2. omega (arith, le2))

numbers_within : (levels : ℕ) (bytes : List ℕ) → Within behind (length bytes + 1) (numbers_at levels bytes)
unfolding numbers_at
numbers_within levels bytes =
    text_within_tag w16 bytes (λ n text. cond (eqb levels 0 && ltb 0 n.0) (Err (TooDeep (length n.1))) (Ok (list (numbers text.0), text.1)))
    (λ n text le le2. either_within behind (length bytes + 1) (eqb levels 0 && ltb 0 n.0) (Err (TooDeep (length n.1))) (Ok (list (numbers text.0), text.1)) (omega (arith, le)) (omega (arith, le2)))

items_within : (one : List ℕ → Result (Tree × List ℕ) Fault) → Reads one → (n : ℕ) (bytes : List ℕ) → Within behind (length bytes) (items_at one n bytes)
unfolding items_at
items_within one reads zero bytes = omega arith
items_within one reads (suc n) bytes =
    then_within behind behind (length bytes) (length bytes) (one bytes) (λ first. items_at one n first.1 >>= λ others. Ok (tree first.0 others.0, others.1)) (omega arith) (reads bytes)
    (λ first le. then_within behind behind (length first.1) (length bytes) (items_at one n first.1) (λ others. Ok (tree first.0 others.0, others.1)) le (items_within one reads n first.1)
    (λ others le2. omega (arith, le, le2)))

tuple_within : (one : List ℕ → Result (Tree × List ℕ) Fault) → Reads one → (w : Width) (bytes : List ℕ) → Within behind (length bytes + 1) (tuple_at one w bytes)
unfolding tuple_at
tuple_within one reads w bytes =
    counted_within behind w bytes (λ n. items_at one n.0 n.1 >>= λ items. Ok (tuple items.0, items.1))
    (λ n le. then_within behind behind (length n.1) (length bytes + 1) (items_at one n.0 n.1) (λ items. Ok (tuple items.0, items.1)) (omega (arith, le)) (items_within one reads n.0 n.1)
    (λ items le2. omega (arith, le, le2)))

end_within : (bytes : List ℕ) → Within (λ rest. rest) (length bytes) (end_at bytes)
end_within [] = omega arith
end_within (b ∷ bytes) = either_within (λ rest. rest) (length (b ∷ bytes)) (eqb b 106) (Ok bytes) (Err (Bad (length (b ∷ bytes)))) (omega arith) (omega arith)

list_within : (one : List ℕ → Result (Tree × List ℕ) Fault) → Reads one → (bytes : List ℕ) → Within behind (length bytes + 1) (list_at one bytes)
unfolding list_at
list_within one reads bytes =
    counted_within behind w32 bytes (λ n. items_at one n.0 n.1 >>= λ items. end_at items.1 >>= λ rest. Ok (list items.0, rest))
    (λ n le. then_within behind behind (length n.1) (length bytes + 1) (items_at one n.0 n.1) (λ items. end_at items.1 >>= λ rest. Ok (list items.0, rest)) (omega (arith, le)) (items_within one reads n.0 n.1)
    (λ items le2. then_within (λ rest. rest) behind (length items.1) (length bytes + 1) (end_at items.1) (λ rest. Ok (list items.0, rest)) (omega (arith, le, le2)) (end_within items.1)
    (λ rest le3. omega (arith, le, le2, le3))))

other_within : (tag : ℕ) (bytes : List ℕ) → Within behind (length bytes + 1) (other_at tag bytes)
unfolding other_at
other_within tag bytes = either_within behind (length bytes + 1) (list_any (λ t. t == tag) outside_tags) (Err (Outside tag (length bytes + 1))) (Err (Bad (length bytes + 1))) (omega arith) (omega arith)

leaf_within : (tag : ℕ) (bytes : List ℕ) → Within behind (length bytes + 1) (leaf_at tag bytes)
unfolding leaf_at
leaf_within tag bytes =
    let n : ℕ = length bytes + 1 in
    let from_109 : Result (Tree × List ℕ) Fault = cond (eqb tag 109) (binary_at bytes) (other_at tag bytes) in
    let from_100 : Result (Tree × List ℕ) Fault = cond (eqb tag 100) (latin_at w16 bytes) from_109 in
    let from_115 : Result (Tree × List ℕ) Fault = cond (eqb tag 115) (latin_at w8 bytes) from_100 in
    let from_118 : Result (Tree × List ℕ) Fault = cond (eqb tag 118) (atom_at w16 bytes) from_115 in
    let from_119 : Result (Tree × List ℕ) Fault = cond (eqb tag 119) (atom_at w8 bytes) from_118 in
    let from_111 : Result (Tree × List ℕ) Fault = cond (eqb tag 111) (wide_at w32 bytes) from_119 in
    let from_110 : Result (Tree × List ℕ) Fault = cond (eqb tag 110) (wide_at w8 bytes) from_111 in
    let from_98 : Result (Tree × List ℕ) Fault = cond (eqb tag 98) (integer_at bytes) from_110 in
    either_within behind n (eqb tag 97) (small_at bytes) from_98 (small_within bytes)
    (either_within behind n (eqb tag 98) (integer_at bytes) from_110 (integer_within bytes)
    (either_within behind n (eqb tag 110) (wide_at w8 bytes) from_111 (wide_within w8 bytes)
    (either_within behind n (eqb tag 111) (wide_at w32 bytes) from_119 (wide_within w32 bytes)
    (either_within behind n (eqb tag 119) (atom_at w8 bytes) from_118 (atom_within w8 bytes)
    (either_within behind n (eqb tag 118) (atom_at w16 bytes) from_115 (atom_within w16 bytes)
    (either_within behind n (eqb tag 115) (latin_at w8 bytes) from_100 (latin_within w8 bytes)
    (either_within behind n (eqb tag 100) (latin_at w16 bytes) from_109 (latin_within w16 bytes)
    (either_within behind n (eqb tag 109) (binary_at bytes) (other_at tag bytes) (binary_within bytes) (other_within tag bytes)))))))))

tagged_within : (levels : ℕ) (one : List ℕ → Result (Tree × List ℕ) Fault) → Reads one → (tag : ℕ) (bytes : List ℕ) → Within behind (length bytes + 1) (tagged_at levels one tag bytes)
unfolding tagged_at
tagged_within levels one reads tag bytes =
    let n : ℕ = length bytes + 1 in
    let nil : Result (Tree × List ℕ) Fault = Ok (list no_trees, bytes) in
    let from_108 : Result (Tree × List ℕ) Fault = cond (eqb tag 108) (list_at one bytes) (leaf_at tag bytes) in
    let from_107 : Result (Tree × List ℕ) Fault = cond (eqb tag 107) (numbers_at levels bytes) from_108 in
    let from_106 : Result (Tree × List ℕ) Fault = cond (eqb tag 106) nil from_107 in
    let from_105 : Result (Tree × List ℕ) Fault = cond (eqb tag 105) (tuple_at one w32 bytes) from_106 in
    either_within behind n (eqb tag 104) (tuple_at one w8 bytes) from_105 (tuple_within one reads w8 bytes)
    (either_within behind n (eqb tag 105) (tuple_at one w32 bytes) from_106 (tuple_within one reads w32 bytes)
    (either_within behind n (eqb tag 106) nil from_107 (omega arith)
    (either_within behind n (eqb tag 107) (numbers_at levels bytes) from_108 (numbers_within levels bytes)
    (either_within behind n (eqb tag 108) (list_at one bytes) (leaf_at tag bytes) (list_within one reads bytes) (leaf_within tag bytes)))))

term_within : (levels : ℕ) → Reads (term_at levels)
unfolding term_at
term_within zero [] = omega arith
term_within zero (b ∷ bytes) = omega arith
term_within (suc levels) [] = omega arith
term_within (suc levels) (b ∷ bytes) =
    weaker behind (length bytes + 1) (length (b ∷ bytes)) (tagged_at levels (term_at levels) b bytes) (omega arith) (tagged_within levels (term_at levels) (term_within levels) b bytes)

version_within : (bytes : List ℕ) → Within (λ rest. rest) (length bytes) (version_at bytes)
version_within [] = omega arith
version_within (b ∷ bytes) = either_within (λ rest. rest) (length (b ∷ bytes)) (eqb b 131) (Ok bytes) (Err (Bad (length (b ∷ bytes)))) (omega arith) (omega arith)

-- a tree has no bytes behind it
text_within : (bytes : List ℕ) → Within (λ t. []) (length bytes) (text_at bytes)
unfolding text_at
text_within bytes =
    then_within (λ rest. rest) (λ t. []) (length bytes) (length bytes) (version_at bytes) (λ rest. term_at 128 rest >>= λ x. cond (eqb (length x.1) 0) (Ok x.0) (Err (Bad (length x.1)))) (omega arith) (version_within bytes)
    (λ rest le. then_within behind (λ t. []) (length rest) (length bytes) (term_at 128 rest) (λ x. cond (eqb (length x.1) 0) (Ok x.0) (Err (Bad (length x.1)))) le (term_within 128 rest)
    (λ x le2. either_within (λ t. []) (length bytes) (eqb (length x.1) 0) (Ok x.0) (Err (Bad (length x.1))) (omega arith) (omega (arith, le, le2))))

pub fault_within : (bytes : List ℕ) (f : Fault) → text_at bytes ≡ Err f → left_of f ≤ length bytes
fault_within bytes f e = subst (Within {A = Tree} (λ t. []) (length bytes)) e (text_within bytes)
