-- What is read is a term's tree, and its spelling stands there.
use Rattle.std.proofs.Common.{◌≡◌, ℕ, zero, suc, ◌+◌, ◌^◌, ◌<◌, ◌≤◌, Bool, true, false, cond, eqb, leb, ltb, ℤ, pos, negsuc, List, [], ◌∷◌, ◌++◌, length, Result, Ok, Err, refl, sym, ap, subst, ◌∙◌, append-nil, arith, inl, inr, to_z}
use Rattle.std.specs.Prelude.{IfOk, FitsSigned, ◌==◌, ◌&&◌}
use Rattle.std.specs.List.{list_any}
use Rattle.std.specs.Int.{Width, w8, w16, w32, w128, byte_len, to_be_bytes}
use Rattle.std.specs.Str.{chars, is_utf8, encode_utf8_all}
use Rattle.std.proofs.Math.Facts.{sfits_to_z}
use Rattle.std.proofs.lemmas.Bool.{eqb-true, lt-ltb, ltb-true, leb-true}
use Rattle.std.proofs.lemmas.List.{nil_from_length}
use Rattle.std.proofs.lemmas.Str.{IsUtf8-from_is_utf8}
use Rattle.term_core.specs.Tree.{Tree, int, atom, tuple, list, bin, Trees, no_trees, tree, count, depth, greatest_depth}
use Rattle.term_core.specs.Kept.{IsKept, AreKept}
use Rattle.term_core.specs.Written.{all_bytes, bytes_of}
use Rattle.term_core.specs.declared.term.Term.{Term}
use Rattle.term_core.specs.View.{tree_of}
use Rattle.term_wire.specs.declared.fault.Fault.{Fault}
use Rattle.term_wire.specs.declared.fault.Fault.TheVariants.{Bad, Outside, WideInt, TooDeep}
use Rattle.term_wire.specs.declared.error.WireErr.{WireErr}
use Rattle.term_wire.specs.Spelling.{Tagged, AreBytes, low_first, signed, Spells, AllSpell, IsText}
use Rattle.term_wire.specs.Reading.{◌>>=◌, byte_at, bytes_at, number_at, sign_at, small_at, integer_at, fits_term, wide_at, is_name, atom_at, latin_at, binary_at, numbers, numbers_at, items_at, tuple_at, end_at, list_at, outside_tags, other_at, leaf_at, tagged_at, term_at, version_at, text_at}
use Rattle.term_wire.specs.Decoding.{Answers, read, with_place}
use Rattle.term_wire.proofs.Fields.{IsBytes, IsBytes-rest, AreBytes-from, IsBytes-from, bind_ok, guard_ok, guard_held, chosen, ok_is, Takes, Takes-then, Takes-cons, Takes-alone, byte_takes, sign_takes, bytes_takes, number_takes, counted_takes, IsCount, count_1, count_2, count_4}
use Rattle.term_wire.proofs.Lists.{and_both}
use Rattle.term_wire.proofs.Utf8.{IsUtf8-latin, chars-latin}

-- a tree of so many levels, its spelling, and the bytes behind it
pub record IsRead (levels : ℕ) (bytes : List ℕ) (x : Tree × List ℕ) : Type 0 where
  pub text : List ℕ
  pub takes : Takes bytes text x.1
  pub spelled : Spells x.0 text
  pub kept : IsKept x.0
  pub deep : depth x.0 ≤ levels

pub record AreRead (levels n : ℕ) (bytes : List ℕ) (x : Trees × List ℕ) : Type 0 where
  pub text : List ℕ
  pub takes : Takes bytes text x.1
  pub spelled : AllSpell x.0 text
  pub kept : AreKept x.0
  pub size : count x.0 ≡ n
  pub deep : greatest_depth x.0 ≤ levels

abbrev Reads : ℕ → (List ℕ → Result (Tree × List ℕ) Fault) → Type 0
Reads levels one = (bytes : List ℕ) (x : Tree × List ℕ) → IsBytes bytes → one bytes ≡ Ok x → IsRead levels bytes x

-- ---- numbers

small_read : (levels : ℕ) (bytes : List ℕ) (x : Tree × List ℕ) → IsBytes bytes → small_at bytes ≡ Ok x → IsRead (suc levels) (97 ∷ bytes) x
unfolding small_at
small_read levels bytes x fits e =
    let a = bind_ok (number_at w8 bytes) (λ n. Ok (int (pos n.0), n.1)) x e in
    let n = a.0.0 in
    let t = number_takes w8 count_1 bytes a.0 fits a.1 in
    subst (IsRead (suc levels) (97 ∷ bytes)) (ok_is (int (pos n), a.0.1) x a.2) (record {
      text = 97 ∷ (to_be_bytes w8 n ++ []);
      takes = Takes-cons 97 bytes (to_be_bytes w8 n ++ []) a.0.1 (Takes-alone bytes (to_be_bytes w8 n) a.0.1 t.0);
      spelled = inl (n, refl, (t.1, refl));
      kept = record { sfits = omega (arith, t.1) };
      deep = omega arith;
    })

word_kept : (z : ℤ) → FitsSigned w32 z → FitsSigned w128 z
word_kept (pos n) h = record { sfits = omega (arith, h.sfits) }
word_kept (negsuc n) h = record { sfits = omega (arith, h.sfits) }

integer_read : (levels : ℕ) (bytes : List ℕ) (x : Tree × List ℕ) → IsBytes bytes → integer_at bytes ≡ Ok x → IsRead (suc levels) (98 ∷ bytes) x
unfolding integer_at
integer_read levels bytes x fits e =
    let a = bind_ok (number_at w32 bytes) (λ n. Ok (int (to_z w32 n.0), n.1)) x e in
    let n = a.0.0 in
    let t = number_takes w32 count_4 bytes a.0 fits a.1 in
    subst (IsRead (suc levels) (98 ∷ bytes)) (ok_is (int (to_z w32 n), a.0.1) x a.2) (record {
      text = 98 ∷ (to_be_bytes w32 n ++ []);
      takes = Takes-cons 98 bytes (to_be_bytes w32 n ++ []) a.0.1 (Takes-alone bytes (to_be_bytes w32 n) a.0.1 t.0);
      spelled = inr (inl (n, refl, (t.1, refl)));
      kept = word_kept (to_z w32 n) (sfits_to_z (record { fits = t.1 }));
      deep = omega arith;
    })

wide_kept : (z : ℤ) → fits_term z ≡ true → FitsSigned w128 z
wide_kept (pos n) h = record { sfits = ltb-true n (2 ^ 127) h }
wide_kept (negsuc n) h = record { sfits = ltb-true n (2 ^ 127) h }

-- the bytes of a number, its sign and its bytes
pub record IsWide (w : Width) (bytes : List ℕ) (x : Tree × List ℕ) : Type 0 where
  pub sign : ℕ
  pub digits : List ℕ
  pub takes : Takes bytes (to_be_bytes w (length digits) ++ sign ∷ digits) x.1
  pub size : length digits < 256 ^ byte_len w
  pub known : sign ≤ 1
  pub small : AreBytes digits
  pub is : x.0 ≡ int (signed sign (low_first digits))
  pub kept : FitsSigned w128 (signed sign (low_first digits))

wide_takes : (w : Width) → IsCount w → (bytes : List ℕ) (x : Tree × List ℕ) → IsBytes bytes → wide_at w bytes ≡ Ok x → IsWide w bytes x
unfolding wide_at
wide_takes w is_count bytes x fits e =
    let a = bind_ok (number_at w bytes) (λ n. sign_at n.1 >>= λ sign. bytes_at n.0 sign.1 >>= λ digits. cond (fits_term (signed sign.0 (low_first digits.0))) (Ok (int (signed sign.0 (low_first digits.0)), digits.1)) (Err (WideInt (length bytes + 1)))) x e in
    let b = bind_ok (sign_at a.0.1) (λ sign. bytes_at a.0.0 sign.1 >>= λ digits. cond (fits_term (signed sign.0 (low_first digits.0))) (Ok (int (signed sign.0 (low_first digits.0)), digits.1)) (Err (WideInt (length bytes + 1)))) x a.2 in
    let d = bind_ok (bytes_at a.0.0 b.0.1) (λ digits. cond (fits_term (signed b.0.0 (low_first digits.0))) (Ok (int (signed b.0.0 (low_first digits.0)), digits.1)) (Err (WideInt (length bytes + 1)))) x b.2 in
    let number = signed b.0.0 (low_first d.0.0) in
    let g = guard_held (fits_term number) (WideInt (length bytes + 1)) (int number, d.0.1) x d.2 in
    let first = number_takes w is_count bytes a.0 fits a.1 in
    let second = sign_takes a.0.1 b.0 first.0.rest_fits b.1 in
    let third = bytes_takes a.0.0 b.0.1 d.0 second.0.rest_fits d.1 in
    let behind = Takes-then a.0.1 (b.0.0 ∷ []) b.0.1 d.0.0 d.0.1 second.0 third.0 in
    let all = Takes-then bytes (to_be_bytes w a.0.0) a.0.1 (b.0.0 ∷ d.0.0) d.0.1 first.0 behind in
    subst (IsWide w bytes) g.1 (record {
      sign = b.0.0;
      digits = d.0.0;
      takes = subst (λ (k : ℕ). Takes bytes (to_be_bytes w k ++ b.0.0 ∷ d.0.0) d.0.1) (sym third.1) all;
      size = subst (λ (k : ℕ). k < 256 ^ byte_len w) (sym third.1) first.1;
      known = second.1;
      small = AreBytes-from d.0.0 third.2;
      is = refl;
      kept = wide_kept number g.0;
    })

number_read : (levels tag : ℕ) (bytes text rest : List ℕ) (t : Tree) (z : ℤ) → Takes bytes text rest → t ≡ int z → Spells (int z) (tag ∷ text) → FitsSigned w128 z → IsRead (suc levels) (tag ∷ bytes) (t, rest)
number_read levels tag bytes text rest t z takes is spelled kept =
    subst (λ (u : Tree). IsRead (suc levels) (tag ∷ bytes) (u, rest)) (sym is) (record { text = tag ∷ text; takes = Takes-cons tag bytes text rest takes; spelled = spelled; kept = kept; deep = omega arith })

small_wide_read : (levels : ℕ) (bytes : List ℕ) (x : Tree × List ℕ) → IsBytes bytes → wide_at w8 bytes ≡ Ok x → IsRead (suc levels) (110 ∷ bytes) x
small_wide_read levels bytes x fits e =
    let h = wide_takes w8 count_1 bytes x fits e in
    number_read levels 110 bytes _ x.1 x.0 _ h.takes h.is (inr (inr (h.sign, h.digits, h.known, h.small, refl, inl (h.size, refl)))) h.kept

large_wide_read : (levels : ℕ) (bytes : List ℕ) (x : Tree × List ℕ) → IsBytes bytes → wide_at w32 bytes ≡ Ok x → IsRead (suc levels) (111 ∷ bytes) x
large_wide_read levels bytes x fits e =
    let h = wide_takes w32 count_4 bytes x fits e in
    number_read levels 111 bytes _ x.1 x.0 _ h.takes h.is (inr (inr (h.sign, h.digits, h.known, h.small, refl, inr (h.size, refl)))) h.kept

-- ---- a count, and as many bytes

pub record IsCounted (w : Width) (bytes text rest : List ℕ) : Type 0 where
  pub takes : Takes bytes (to_be_bytes w (length text) ++ text) rest
  pub size : length text < 256 ^ byte_len w
  pub small : IsBytes text

counted : (w : Width) → IsCount w → (bytes : List ℕ) (n : ℕ × List ℕ) (text : List ℕ × List ℕ) → IsBytes bytes → number_at w bytes ≡ Ok n → bytes_at n.0 n.1 ≡ Ok text → IsCounted w bytes text.0 text.1
counted w is_count bytes n text fits p q =
    let first = number_takes w is_count bytes n fits p in
    let second = bytes_takes n.0 n.1 text first.0.rest_fits q in
    record {
      takes = counted_takes w n.0 bytes n.1 text.1 text.0 first.0 second.0 second.1;
      size = subst (λ (k : ℕ). k < 256 ^ byte_len w) (sym second.1) first.1;
      small = second.2;
    }

name_kept : (a : List ℕ) → is_name a ≡ true → IsKept (atom a)
name_kept a h =
    let both = and_both (is_utf8 a) (leb (length (chars a)) 255) h in
    (IsUtf8-from_is_utf8 a both.0, leb-true (length (chars a)) 255 both.1)

atom_read : (levels tag : ℕ) (w : Width) → IsCount w → ((a text : List ℕ) → Tagged tag w (length a) a text → Spells (atom a) text) → (bytes : List ℕ) (x : Tree × List ℕ) → IsBytes bytes → atom_at w bytes ≡ Ok x → IsRead (suc levels) (tag ∷ bytes) x
unfolding atom_at
atom_read levels tag w is_count spells bytes x fits e =
    let a = bind_ok (number_at w bytes) (λ n. bytes_at n.0 n.1 >>= λ text. cond (is_name text.0) (Ok (atom text.0, text.1)) (Err (Bad (length bytes + 1)))) x e in
    let b = bind_ok (bytes_at a.0.0 a.0.1) (λ text. cond (is_name text.0) (Ok (atom text.0, text.1)) (Err (Bad (length bytes + 1)))) x a.2 in
    let g = guard_held (is_name b.0.0) (Bad (length bytes + 1)) (atom b.0.0, b.0.1) x b.2 in
    let h = counted w is_count bytes a.0 b.0 fits a.1 b.1 in
    let text = to_be_bytes w (length b.0.0) ++ b.0.0 in
    subst (IsRead (suc levels) (tag ∷ bytes)) g.1 (record {
      text = tag ∷ text;
      takes = Takes-cons tag bytes text b.0.1 h.takes;
      spelled = spells b.0.0 (tag ∷ text) (h.size, refl);
      kept = name_kept b.0.0 g.0;
      deep = omega arith;
    })

latin_kept : (cs : List ℕ) → AreBytes cs → length cs ≤ 255 → IsKept (atom (encode_utf8_all cs))
latin_kept cs h short = (IsUtf8-latin cs h, omega (arith, short, ap length (chars-latin cs h)))

latin_read : (levels tag : ℕ) (w : Width) → IsCount w → ((a latin text : List ℕ) → AreBytes latin → a ≡ encode_utf8_all latin → Tagged tag w (length latin) latin text → Spells (atom a) text) → (bytes : List ℕ) (x : Tree × List ℕ) → IsBytes bytes → latin_at w bytes ≡ Ok x → IsRead (suc levels) (tag ∷ bytes) x
unfolding latin_at
latin_read levels tag w is_count spells bytes x fits e =
    let a = bind_ok (number_at w bytes) (λ n. bytes_at n.0 n.1 >>= λ text. cond (leb (length text.0) 255) (Ok (atom (encode_utf8_all text.0), text.1)) (Err (Bad (length bytes + 1)))) x e in
    let b = bind_ok (bytes_at a.0.0 a.0.1) (λ text. cond (leb (length text.0) 255) (Ok (atom (encode_utf8_all text.0), text.1)) (Err (Bad (length bytes + 1)))) x a.2 in
    let g = guard_held (leb (length b.0.0) 255) (Bad (length bytes + 1)) (atom (encode_utf8_all b.0.0), b.0.1) x b.2 in
    let h = counted w is_count bytes a.0 b.0 fits a.1 b.1 in
    let small = AreBytes-from b.0.0 h.small in
    let text = to_be_bytes w (length b.0.0) ++ b.0.0 in
    subst (IsRead (suc levels) (tag ∷ bytes)) g.1 (record {
      text = tag ∷ text;
      takes = Takes-cons tag bytes text b.0.1 h.takes;
      spelled = spells (encode_utf8_all b.0.0) b.0.0 (tag ∷ text) small refl (h.size, refl);
      kept = latin_kept b.0.0 small (leb-true (length b.0.0) 255 g.0);
      deep = omega arith;
    })

binary_read : (levels : ℕ) (bytes : List ℕ) (x : Tree × List ℕ) → IsBytes bytes → binary_at bytes ≡ Ok x → IsRead (suc levels) (109 ∷ bytes) x
unfolding binary_at
binary_read levels bytes x fits e =
    let a = bind_ok (number_at w32 bytes) (λ n. bytes_at n.0 n.1 >>= λ content. Ok (bin content.0, content.1)) x e in
    let b = bind_ok (bytes_at a.0.0 a.0.1) (λ content. Ok (bin content.0, content.1)) x a.2 in
    let h = counted w32 count_4 bytes a.0 b.0 fits a.1 b.1 in
    let text = to_be_bytes w32 (length b.0.0) ++ b.0.0 in
    subst (IsRead (suc levels) (109 ∷ bytes)) (ok_is (bin b.0.0, b.0.1) x b.2) (record {
      text = 109 ∷ text;
      takes = Takes-cons 109 bytes text b.0.1 h.takes;
      spelled = (h.size, refl);
      kept = AreBytes-from b.0.0 h.small;
      deep = omega arith;
    })

-- ---- a list of numbers of a byte each

pub count-numbers : (bytes : List ℕ) → count (numbers bytes) ≡ length bytes
count-numbers [] = refl
count-numbers (b ∷ bytes) = omega (arith, count-numbers bytes)

pub bytes_of-numbers : (bytes : List ℕ) → bytes_of (numbers bytes) ≡ bytes
bytes_of-numbers [] = refl
bytes_of-numbers (b ∷ bytes) = ap (λ (rest : List ℕ). b ∷ rest) (bytes_of-numbers bytes)

all_bytes-numbers : (bytes : List ℕ) → IsBytes bytes → all_bytes (numbers bytes) ≡ true
all_bytes-numbers [] h = refl
all_bytes-numbers (b ∷ bytes) h =
    let first : ltb b 256 ≡ true = lt-ltb b 256 (h 0) in
    let others = all_bytes-numbers bytes (IsBytes-rest b bytes h) in
    rw (first, others) refl

numbers_kept : (bytes : List ℕ) → IsBytes bytes → AreKept (numbers bytes)
numbers_kept [] h = tt
numbers_kept (b ∷ bytes) h = let first : b < 256 = h 0 in (record { sfits = omega (arith, first) }, numbers_kept bytes (IsBytes-rest b bytes h))

numbers_deep : (bytes : List ℕ) → greatest_depth (numbers bytes) ≤ 1
numbers_deep [] = omega arith
numbers_deep (b ∷ bytes) = omega (arith, numbers_deep bytes)

-- where no level is left there are no numbers
level_left : (levels n : ℕ) (bytes : List ℕ) → eqb levels 0 && ltb 0 n ≡ false → length bytes ≡ n → greatest_depth (numbers bytes) ≤ levels
level_left zero n [] h e = omega arith
level_left zero n (b ∷ bytes) h e =
    let some : ltb 0 n ≡ true = lt-ltb 0 n (omega (arith, e)) in
    absurd (let wrong : true ≡ false = sym some ∙ h in cc)
level_left (suc levels) n bytes h e = omega (arith, numbers_deep bytes)

numbers_read : (levels : ℕ) (bytes : List ℕ) (x : Tree × List ℕ) → IsBytes bytes → numbers_at levels bytes ≡ Ok x → IsRead (suc levels) (107 ∷ bytes) x
unfolding numbers_at
numbers_read levels bytes x fits e =
    let a = bind_ok (number_at w16 bytes) (λ n. bytes_at n.0 n.1 >>= λ content. cond (eqb levels 0 && ltb 0 n.0) (Err (TooDeep (length n.1))) (Ok (list (numbers content.0), content.1))) x e in
    let b = bind_ok (bytes_at a.0.0 a.0.1) (λ content. cond (eqb levels 0 && ltb 0 a.0.0) (Err (TooDeep (length a.0.1))) (Ok (list (numbers content.0), content.1))) x a.2 in
    let g = guard_ok (eqb levels 0 && ltb 0 a.0.0) (TooDeep (length a.0.1)) (list (numbers b.0.0), b.0.1) x b.2 in
    let h = counted w16 count_2 bytes a.0 b.0 fits a.1 b.1 in
    let text = to_be_bytes w16 (length b.0.0) ++ b.0.0 in
    let content = bytes_takes a.0.0 a.0.1 b.0 (number_takes w16 count_2 bytes a.0 fits a.1).0.rest_fits b.1 in
    let size = count-numbers b.0.0 in
    let same : text ≡ to_be_bytes w16 (count (numbers b.0.0)) ++ bytes_of (numbers b.0.0) = ap (λ (k : ℕ). to_be_bytes w16 k ++ b.0.0) (sym size) ∙ ap (λ (inside : List ℕ). to_be_bytes w16 (count (numbers b.0.0)) ++ inside) (sym (bytes_of-numbers b.0.0)) in
    subst (IsRead (suc levels) (107 ∷ bytes)) g.1 (record {
      text = 107 ∷ text;
      takes = Takes-cons 107 bytes text b.0.1 h.takes;
      spelled = inr (inl (all_bytes-numbers b.0.0 h.small, (subst (λ (k : ℕ). k < 256 ^ byte_len w16) (sym size) h.size, ap (λ (r : List ℕ). 107 ∷ r) same)));
      kept = numbers_kept b.0.0 h.small;
      deep = omega (arith, level_left levels a.0.0 b.0.0 g.0 content.1);
    })

-- ---- terms inside

items_read : (levels : ℕ) (one : List ℕ → Result (Tree × List ℕ) Fault) → Reads levels one → (n : ℕ) (bytes : List ℕ) (x : Trees × List ℕ) → IsBytes bytes → items_at one n bytes ≡ Ok x → AreRead levels n bytes x
unfolding items_at
items_read levels one reads zero bytes x fits e =
    subst (AreRead levels 0 bytes) (ok_is (no_trees, bytes) x e) (record { text = []; takes = record { parts = refl; rest_fits = fits }; spelled = refl; kept = tt; size = refl; deep = omega arith })
items_read levels one reads (suc n) bytes x fits e =
    let a = bind_ok (one bytes) (λ first. items_at one n first.1 >>= λ others. Ok (tree first.0 others.0, others.1)) x e in
    let b = bind_ok (items_at one n a.0.1) (λ others. Ok (tree a.0.0 others.0, others.1)) x a.2 in
    let first = reads bytes a.0 fits a.1 in
    let others = items_read levels one reads n a.0.1 b.0 first.takes.rest_fits b.1 in
    subst (AreRead levels (suc n) bytes) (ok_is (tree a.0.0 b.0.0, b.0.1) x b.2) (record {
      text = first.text ++ others.text;
      takes = Takes-then bytes first.text a.0.1 others.text b.0.1 first.takes others.takes;
      spelled = (first.text, others.text, first.spelled, others.spelled, refl);
      kept = (first.kept, others.kept);
      size = omega (arith, others.size);
      deep = omega (arith, first.deep, others.deep);
    })

tuple_read : (levels tag : ℕ) (w : Width) → IsCount w → ((ts : Trees) (inside text : List ℕ) → AllSpell ts inside → Tagged tag w (count ts) inside text → Spells (tuple ts) text) → (one : List ℕ → Result (Tree × List ℕ) Fault) → Reads levels one → (bytes : List ℕ) (x : Tree × List ℕ) → IsBytes bytes → tuple_at one w bytes ≡ Ok x → IsRead (suc levels) (tag ∷ bytes) x
unfolding tuple_at
tuple_read levels tag w is_count spells one reads bytes x fits e =
    let a = bind_ok (number_at w bytes) (λ n. items_at one n.0 n.1 >>= λ items. Ok (tuple items.0, items.1)) x e in
    let b = bind_ok (items_at one a.0.0 a.0.1) (λ items. Ok (tuple items.0, items.1)) x a.2 in
    let first = number_takes w is_count bytes a.0 fits a.1 in
    let items = items_read levels one reads a.0.0 a.0.1 b.0 first.0.rest_fits b.1 in
    let both = Takes-then bytes (to_be_bytes w a.0.0) a.0.1 items.text b.0.1 first.0 items.takes in
    let text = to_be_bytes w (count b.0.0) ++ items.text in
    subst (IsRead (suc levels) (tag ∷ bytes)) (ok_is (tuple b.0.0, b.0.1) x b.2) (record {
      text = tag ∷ text;
      takes = Takes-cons tag bytes text b.0.1 (subst (λ (k : ℕ). Takes bytes (to_be_bytes w k ++ items.text) b.0.1) (sym items.size) both);
      spelled = spells b.0.0 items.text (tag ∷ text) items.spelled (subst (λ (k : ℕ). k < 256 ^ byte_len w) (sym items.size) first.1, refl);
      kept = items.kept;
      deep = omega (arith, items.deep);
    })

end_takes : (bytes rest : List ℕ) → IsBytes bytes → end_at bytes ≡ Ok rest → Takes bytes (106 ∷ []) rest
end_takes [] rest fits e = absurd cc
end_takes (b ∷ bytes) rest fits e =
    let g = guard_held (eqb b 106) (Bad (length (b ∷ bytes))) bytes rest e in
    record { parts = ap (λ (n : ℕ). n ∷ bytes) (eqb-true b 106 g.0) ∙ ap (λ (r : List ℕ). 106 ∷ r) g.1; rest_fits = subst IsBytes g.1 (IsBytes-rest b bytes fits) }

list_read : (levels : ℕ) (one : List ℕ → Result (Tree × List ℕ) Fault) → Reads levels one → (bytes : List ℕ) (x : Tree × List ℕ) → IsBytes bytes → list_at one bytes ≡ Ok x → IsRead (suc levels) (108 ∷ bytes) x
unfolding list_at
list_read levels one reads bytes x fits e =
    let a = bind_ok (number_at w32 bytes) (λ n. items_at one n.0 n.1 >>= λ items. end_at items.1 >>= λ rest. Ok (list items.0, rest)) x e in
    let b = bind_ok (items_at one a.0.0 a.0.1) (λ items. end_at items.1 >>= λ rest. Ok (list items.0, rest)) x a.2 in
    let d = bind_ok (end_at b.0.1) (λ rest. Ok (list b.0.0, rest)) x b.2 in
    let first = number_takes w32 count_4 bytes a.0 fits a.1 in
    let items = items_read levels one reads a.0.0 a.0.1 b.0 first.0.rest_fits b.1 in
    let end = end_takes b.0.1 d.0 items.takes.rest_fits d.1 in
    let behind = Takes-then a.0.1 items.text b.0.1 (106 ∷ []) d.0 items.takes end in
    let all = Takes-then bytes (to_be_bytes w32 a.0.0) a.0.1 (items.text ++ 106 ∷ []) d.0 first.0 behind in
    let text = to_be_bytes w32 (count b.0.0) ++ (items.text ++ 106 ∷ []) in
    subst (IsRead (suc levels) (108 ∷ bytes)) (ok_is (list b.0.0, d.0) x d.2) (record {
      text = 108 ∷ text;
      takes = Takes-cons 108 bytes text d.0 (subst (λ (k : ℕ). Takes bytes (to_be_bytes w32 k ++ (items.text ++ 106 ∷ [])) d.0) (sym items.size) all);
      spelled = inr (inr (items.text, items.spelled, (subst (λ (k : ℕ). k < 256 ^ byte_len w32) (sym items.size) first.1, refl)));
      kept = items.kept;
      deep = omega (arith, items.deep);
    })

nil_read : (levels : ℕ) (bytes : List ℕ) (x : Tree × List ℕ) (made : Result (Tree × List ℕ) Fault) → IsBytes bytes → made ≡ Ok (list no_trees, bytes) → made ≡ Ok x → IsRead (suc levels) (106 ∷ bytes) x
nil_read levels bytes x made fits p e =
    subst (IsRead (suc levels) (106 ∷ bytes)) (ok_is (list no_trees, bytes) x (sym p ∙ e)) (record { text = 106 ∷ []; takes = record { parts = refl; rest_fits = fits }; spelled = inl (refl, refl); kept = tt; deep = omega arith })

-- ---- one tag, or one of the others

no_other : (tag : ℕ) (bytes : List ℕ) (x : Tree × List ℕ) → other_at tag bytes ≡ Ok x → ⊥
unfolding other_at
no_other tag bytes x e = by (list_any (λ t. t == tag) outside_tags) e
  where
    by : (b : Bool) → cond b (Err (Outside tag (length bytes + 1))) (Err (Bad (length bytes + 1))) ≡ Ok x → ⊥
    by true h = cc
    by false h = cc

by_tag : (tag k levels : ℕ) (bytes : List ℕ) (x : Tree × List ℕ) (here other : Result (Tree × List ℕ) Fault) → cond (eqb tag k) here other ≡ Ok x
    → (here ≡ Ok x → IsRead levels (k ∷ bytes) x) → (other ≡ Ok x → IsRead levels (tag ∷ bytes) x) → IsRead levels (tag ∷ bytes) x
by_tag tag k levels bytes x here other e p q =
    elim (chosen (eqb tag k) here other (Ok x) e) [
      | inl h ↦ subst (λ (n : ℕ). IsRead levels (n ∷ bytes) x) (sym (eqb-true tag k h.0)) (p h.1)
      | inr h ↦ q h.1
    ]

leaf_read : (levels tag : ℕ) (bytes : List ℕ) (x : Tree × List ℕ) → IsBytes bytes → leaf_at tag bytes ≡ Ok x → IsRead (suc levels) (tag ∷ bytes) x
unfolding leaf_at
leaf_read levels tag bytes x fits e =
    let from_109 : Result (Tree × List ℕ) Fault = cond (eqb tag 109) (binary_at bytes) (other_at tag bytes) in
    let from_100 : Result (Tree × List ℕ) Fault = cond (eqb tag 100) (latin_at w16 bytes) from_109 in
    let from_115 : Result (Tree × List ℕ) Fault = cond (eqb tag 115) (latin_at w8 bytes) from_100 in
    let from_118 : Result (Tree × List ℕ) Fault = cond (eqb tag 118) (atom_at w16 bytes) from_115 in
    let from_119 : Result (Tree × List ℕ) Fault = cond (eqb tag 119) (atom_at w8 bytes) from_118 in
    let from_111 : Result (Tree × List ℕ) Fault = cond (eqb tag 111) (wide_at w32 bytes) from_119 in
    let from_110 : Result (Tree × List ℕ) Fault = cond (eqb tag 110) (wide_at w8 bytes) from_111 in
    let from_98 : Result (Tree × List ℕ) Fault = cond (eqb tag 98) (integer_at bytes) from_110 in
    by_tag tag 97 (suc levels) bytes x (small_at bytes) from_98 e (small_read levels bytes x fits) (λ e98.
    by_tag tag 98 (suc levels) bytes x (integer_at bytes) from_110 e98 (integer_read levels bytes x fits) (λ e110.
    by_tag tag 110 (suc levels) bytes x (wide_at w8 bytes) from_111 e110 (small_wide_read levels bytes x fits) (λ e111.
    by_tag tag 111 (suc levels) bytes x (wide_at w32 bytes) from_119 e111 (large_wide_read levels bytes x fits) (λ e119.
    by_tag tag 119 (suc levels) bytes x (atom_at w8 bytes) from_118 e119 (atom_read levels 119 w8 count_1 (λ a text h. inl h) bytes x fits) (λ e118.
    by_tag tag 118 (suc levels) bytes x (atom_at w16 bytes) from_115 e118 (atom_read levels 118 w16 count_2 (λ a text h. inr (inl h)) bytes x fits) (λ e115.
    by_tag tag 115 (suc levels) bytes x (latin_at w8 bytes) from_100 e115 (latin_read levels 115 w8 count_1 (λ a latin text small is h. inr (inr (latin, small, is, inl h))) bytes x fits) (λ e100.
    by_tag tag 100 (suc levels) bytes x (latin_at w16 bytes) from_109 e100 (latin_read levels 100 w16 count_2 (λ a latin text small is h. inr (inr (latin, small, is, inr h))) bytes x fits) (λ e109.
    by_tag tag 109 (suc levels) bytes x (binary_at bytes) (other_at tag bytes) e109 (binary_read levels bytes x fits) (λ other. absurd (no_other tag bytes x other))))))))))

tagged_read : (levels : ℕ) (one : List ℕ → Result (Tree × List ℕ) Fault) → Reads levels one → (tag : ℕ) (bytes : List ℕ) (x : Tree × List ℕ) → IsBytes bytes → tagged_at levels one tag bytes ≡ Ok x → IsRead (suc levels) (tag ∷ bytes) x
unfolding tagged_at
tagged_read levels one reads tag bytes x fits e =
    let nil : Result (Tree × List ℕ) Fault = Ok (list no_trees, bytes) in
    let from_108 : Result (Tree × List ℕ) Fault = cond (eqb tag 108) (list_at one bytes) (leaf_at tag bytes) in
    let from_107 : Result (Tree × List ℕ) Fault = cond (eqb tag 107) (numbers_at levels bytes) from_108 in
    let from_106 : Result (Tree × List ℕ) Fault = cond (eqb tag 106) nil from_107 in
    let from_105 : Result (Tree × List ℕ) Fault = cond (eqb tag 105) (tuple_at one w32 bytes) from_106 in
    by_tag tag 104 (suc levels) bytes x (tuple_at one w8 bytes) from_105 e (tuple_read levels 104 w8 count_1 (λ ts inside text h k. (inside, h, inl k)) one reads bytes x fits) (λ e105.
    by_tag tag 105 (suc levels) bytes x (tuple_at one w32 bytes) from_106 e105 (tuple_read levels 105 w32 count_4 (λ ts inside text h k. (inside, h, inr k)) one reads bytes x fits) (λ e106.
    by_tag tag 106 (suc levels) bytes x nil from_107 e106 (nil_read levels bytes x nil fits refl) (λ e107.
    by_tag tag 107 (suc levels) bytes x (numbers_at levels bytes) from_108 e107 (numbers_read levels bytes x fits) (λ e108.
    by_tag tag 108 (suc levels) bytes x (list_at one bytes) (leaf_at tag bytes) e108 (list_read levels one reads bytes x fits) (leaf_read levels tag bytes x fits)))))

term_read : (levels : ℕ) → Reads levels (term_at levels)
unfolding term_at
term_read zero bytes x fits e =
    let a = bind_ok (byte_at bytes) (λ tag. Err (TooDeep (length bytes))) x e in
    absurd cc
term_read (suc levels) bytes x fits e =
    let a = bind_ok (byte_at bytes) (λ tag. tagged_at levels (term_at levels) tag.0 tag.1) x e in
    let t = byte_takes bytes a.0 fits a.1 in
    subst (λ (w : List ℕ). IsRead (suc levels) w x) (sym t.0.parts) (tagged_read levels (term_at levels) (term_read levels) a.0.0 a.0.1 x t.0.rest_fits a.2)

version_takes : (bytes rest : List ℕ) → IsBytes bytes → version_at bytes ≡ Ok rest → Takes bytes (131 ∷ []) rest
version_takes [] rest fits e = absurd cc
version_takes (b ∷ bytes) rest fits e =
    let g = guard_held (eqb b 131) (Bad (length (b ∷ bytes))) bytes rest e in
    record { parts = ap (λ (n : ℕ). n ∷ bytes) (eqb-true b 131 g.0) ∙ ap (λ (r : List ℕ). 131 ∷ r) g.1; rest_fits = subst IsBytes g.1 (IsBytes-rest b bytes fits) }

pub text_read : (bytes : List ℕ) (t : Tree) → IsBytes bytes → text_at bytes ≡ Ok t → IsText bytes t
unfolding text_at
text_read bytes t fits e =
    let a = bind_ok (version_at bytes) (λ rest. term_at 128 rest >>= λ x. cond (eqb (length x.1) 0) (Ok x.0) (Err (Bad (length x.1)))) t e in
    let b = bind_ok (term_at 128 a.0) (λ x. cond (eqb (length x.1) 0) (Ok x.0) (Err (Bad (length x.1)))) t a.2 in
    let g = guard_held (eqb (length b.0.1) 0) (Bad (length b.0.1)) b.0.0 t b.2 in
    let version = version_takes bytes a.0 fits a.1 in
    let term = term_read 128 a.0 b.0 version.rest_fits b.1 in
    let nothing : b.0.1 ≡ [] = nil_from_length b.0.1 (eqb-true _ _ g.0) in
    let whole : bytes ≡ 131 ∷ term.text = version.parts ∙ ap (λ (r : List ℕ). 131 ∷ r) (term.takes.parts ∙ ap (λ (r : List ℕ). term.text ++ r) nothing ∙ append-nil term.text) in
    subst (IsText bytes) g.1 (term.text, whole, term.spelled, term.kept, term.deep)

with_place-Ok : (end : ℕ) (r : Result Tree Fault) (t : Tree) → with_place end r ≡ Ok t → r ≡ Ok t
with_place-Ok end (Ok u) t e = cc
with_place-Ok end (Err f) t e = absurd cc

pub read_text : (bytes : List ℕ) (t : Tree) → AreBytes bytes → read bytes ≡ Ok t → IsText bytes t
read_text bytes t small e = text_read bytes t (IsBytes-from bytes small) (with_place-Ok (length bytes) (text_at bytes) t e)

pub is_found : (bytes : List ℕ) (r : Result Term WireErr) → IsBytes bytes → Answers tree_of r (read bytes) → IfOk r (λ term. IsText bytes (tree_of term))
is_found bytes (Ok term) fits given = text_read bytes (tree_of term) fits (with_place-Ok (length bytes) (text_at bytes) (tree_of term) given)
is_found bytes (Err e) fits given = tt
