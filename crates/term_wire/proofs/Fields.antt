-- A field that is read is the bytes that stand there, and what was written is read again.
use Rattle.std.proofs.Common.{◌≡◌, ℕ, suc, ◌+◌, ◌^◌, ◌<◌, ◌≤◌, Bool, true, false, cond, ltb, leb, List, [], ◌∷◌, ◌++◌, length, get_or, take, drop, Result, Ok, Err, refl, sym, ap, subst, ◌∙◌, append_assoc, append-nil, arith, inl, inr, ◌⊎◌}
use Rattle.std.specs.Int.{Width, w8, w16, w32, byte_len, from_be_bytes, to_be_bytes}
use Rattle.std.proofs.lemmas.Bool.{cases_lt, ltb-false, le-ltb, le-leb, leb-true}
use Rattle.std.proofs.lemmas.List.{take_at, drop_at, take-append-drop, length-append, length-take, get_or-drop, get_or-take, get_or_past}
use Rattle.std.proofs.lemmas.List.Elements.{All-from_get_or, All-get_or}
use Rattle.std.proofs.lemmas.Nat.{be_bytes_2, be_bytes_4, from_be_bytes-to_be_bytes_2, from_be_bytes-to_be_bytes_4}
use Rattle.std.proofs.Math.Nat.{mod-eq_of_lt}
use Rattle.byteorder.specs.Numbers.{length-bytes_high_first}
use Rattle.term_wire.specs.declared.fault.Fault.{Fault}
use Rattle.term_wire.specs.declared.fault.Fault.TheVariants.{Bad}
use Rattle.term_wire.specs.Spelling.{Tagged, AreBytes}
use Rattle.term_wire.specs.Reading.{◌>>=◌, byte_at, bytes_at, number_at, sign_at}

abbrev pub IsBytes : List ℕ → Type 0
IsBytes bytes = (i : ℕ) → get_or bytes i 0 < 256

IsBytes-drop : (n : ℕ) (bytes : List ℕ) → IsBytes bytes → IsBytes (drop n bytes)
IsBytes-drop n bytes h i = rw get_or-drop (h (n + i))

IsBytes-take : (n : ℕ) (bytes : List ℕ) → IsBytes bytes → IsBytes (take n bytes)
IsBytes-take n bytes h i =
    elim (cases_lt i n) [
      | inl lt ↦ rw (get_or-take n bytes i 0 lt) (h i)
      | inr le ↦ rw (get_or_past (take n bytes) i 0 (omega (arith, length-take n bytes))) (omega arith)
    ]

pub IsBytes-rest : (b : ℕ) (bytes : List ℕ) → IsBytes (b ∷ bytes) → IsBytes bytes
IsBytes-rest b bytes h i = h (suc i)

pub AreBytes-from : (bytes : List ℕ) → IsBytes bytes → AreBytes bytes
AreBytes-from bytes h = All-from_get_or (λ (byte : ℕ). byte < 256) bytes 0 (λ i lt. h i)

pub IsBytes-from : (bytes : List ℕ) → AreBytes bytes → IsBytes bytes
IsBytes-from bytes h i =
    elim (cases_lt i (length bytes)) [
      | inl lt ↦ All-get_or (λ (byte : ℕ). byte < 256) bytes i 0 lt h
      | inr le ↦ rw (get_or_past bytes i 0 le) (omega arith)
    ]

-- the value of a step that did not fail
pub bind_ok : {A B : Type 0} (r : Result A Fault) (f : A → Result B Fault) (y : B) → (r >>= f) ≡ Ok y → (x : A) × (r ≡ Ok x) × (f x ≡ Ok y)
bind_ok (Ok x) f y e = (x, refl, e)
bind_ok (Err d) f y e = absurd cc

-- a test that did not fail
pub guard_ok : {A : Type 0} (b : Bool) (d : Fault) (x y : A) → cond b (Err d) (Ok x) ≡ Ok y → (b ≡ false) × (x ≡ y)
guard_ok true d x y e = absurd cc
guard_ok false d x y e = (refl, cc)

pub guard_held : {A : Type 0} (b : Bool) (d : Fault) (x y : A) → cond b (Ok x) (Err d) ≡ Ok y → (b ≡ true) × (x ≡ y)
guard_held true d x y e = (refl, cc)
guard_held false d x y e = absurd cc

-- one side of a choice
pub chosen : {A : Type 0} (b : Bool) (x y z : A) → cond b x y ≡ z → ((b ≡ true) × (x ≡ z)) ⊎ ((b ≡ false) × (y ≡ z))
chosen true x y z e = inl (refl, e)
chosen false x y z e = inr (refl, e)

abbrev pub done : {A : Type 0} → A → Result A Fault
done x = Ok x

pub ok_is : {A : Type 0} (x y : A) → done x ≡ done y → x ≡ y
ok_is x y e = cc

-- what a reader took from the front
pub record Takes (bytes text rest : List ℕ) : Type 0 where
  pub parts : bytes ≡ text ++ rest
  pub rest_fits : IsBytes rest

pub Takes-then : (a x b y c : List ℕ) → Takes a x b → Takes b y c → Takes a (x ++ y) c
Takes-then a x b y c p q = record { parts = p.parts ∙ ap (λ (t : List ℕ). x ++ t) q.parts ∙ sym (append_assoc x y c); rest_fits = q.rest_fits }

pub Takes-cons : (b : ℕ) (bytes text rest : List ℕ) → Takes bytes text rest → Takes (b ∷ bytes) (b ∷ text) rest
Takes-cons b bytes text rest p = record { parts = ap (λ (t : List ℕ). b ∷ t) p.parts; rest_fits = p.rest_fits }

pub Takes-alone : (bytes text rest : List ℕ) → Takes bytes text rest → Takes bytes (text ++ []) rest
Takes-alone bytes text rest p = subst (λ (t : List ℕ). Takes bytes t rest) (sym (append-nil text)) p

-- ---- a byte

pub byte_takes : (bytes : List ℕ) (x : ℕ × List ℕ) → IsBytes bytes → byte_at bytes ≡ Ok x → Takes bytes (x.0 ∷ []) x.1 × (x.0 < 256)
byte_takes [] x fits e = absurd cc
byte_takes (b ∷ bytes) x fits e =
    subst (λ (y : ℕ × List ℕ). Takes (b ∷ bytes) (y.0 ∷ []) y.1 × (y.0 < 256)) (ok_is (b, bytes) x e) (record { parts = refl; rest_fits = IsBytes-rest b bytes fits }, fits 0)

pub sign_takes : (bytes : List ℕ) (x : ℕ × List ℕ) → IsBytes bytes → sign_at bytes ≡ Ok x → Takes bytes (x.0 ∷ []) x.1 × (x.0 ≤ 1)
sign_takes [] x fits e = absurd cc
sign_takes (b ∷ bytes) x fits e =
    let g = guard_held (leb b 1) (Bad (length (b ∷ bytes))) (b, bytes) x e in
    subst (λ (y : ℕ × List ℕ). Takes (b ∷ bytes) (y.0 ∷ []) y.1 × (y.0 ≤ 1)) g.1 (record { parts = refl; rest_fits = IsBytes-rest b bytes fits }, leb-true b 1 g.0)

pub sign_again : (sign : ℕ) (rest : List ℕ) → sign ≤ 1 → sign_at (sign ∷ rest) ≡ Ok (sign, rest)
sign_again sign rest le = rw (le-leb sign 1 le) refl

-- ---- so many bytes

pub bytes_takes : (n : ℕ) (bytes : List ℕ) (x : List ℕ × List ℕ) → IsBytes bytes → bytes_at n bytes ≡ Ok x → Takes bytes x.0 x.1 × (length x.0 ≡ n) × IsBytes x.0
bytes_takes n bytes x fits e =
    let g = guard_ok (ltb (length bytes) n) (Bad 0) (take n bytes, drop n bytes) x e in
    let long : n ≤ length bytes = ltb-false _ _ g.0 in
    subst (λ (y : List ℕ × List ℕ). Takes bytes y.0 y.1 × (length y.0 ≡ n) × IsBytes y.0) g.1 (
      record { parts = sym (take-append-drop n bytes); rest_fits = IsBytes-drop n bytes fits },
      omega (arith, length-take n bytes),
      IsBytes-take n bytes fits,
    )

pub bytes_again : (n : ℕ) (text rest : List ℕ) → length text ≡ n → bytes_at n (text ++ rest) ≡ Ok (text, rest)
bytes_again n text rest size =
    let long : ltb (length (text ++ rest)) n ≡ false = le-ltb _ _ (omega (arith, length-append text rest, size)) in
    rw (long, take_at text rest n size, drop_at text rest n size) refl

-- ---- a number of one, two or four bytes

pub record IsCount (w : Width) : Type 0 where
  pub back : (field : List ℕ) → length field ≡ byte_len w → IsBytes field → to_be_bytes w (from_be_bytes w field) ≡ field
  pub below : (field : List ℕ) → length field ≡ byte_len w → IsBytes field → from_be_bytes w field < 256 ^ byte_len w
  pub again : (n : ℕ) → n < 256 ^ byte_len w → from_be_bytes w (to_be_bytes w n) ≡ n

pub one_byte : (n : ℕ) → n < 256 → to_be_bytes w8 n ≡ n ∷ []
one_byte n lt = ap (λ (k : ℕ). k ∷ []) (mod-eq_of_lt lt)

one_back : (field : List ℕ) → length field ≡ 1 → IsBytes field → to_be_bytes w8 (from_be_bytes w8 field) ≡ field
one_back [] size fits = absurd cc
one_back (b ∷ []) size fits = one_byte b (fits 0)
one_back (b ∷ c ∷ bytes) size fits = absurd (omega (arith, size))

pub count_1 : IsCount w8
count_1 = record { back = one_back; below = λ field size fits. omega (arith, fits 0); again = λ n lt. ap (λ (bytes : List ℕ). from_be_bytes w8 bytes) (one_byte n lt) }

pub count_2 : IsCount w16
count_2 = record { back = λ field size fits. be_bytes_2 field _ size fits refl; below = λ field size fits. omega (arith, fits 0, fits 1); again = from_be_bytes-to_be_bytes_2 }

pub count_4 : IsCount w32
count_4 = record { back = λ field size fits. be_bytes_4 field _ size fits refl; below = λ field size fits. omega (arith, fits 0, fits 1, fits 2, fits 3); again = from_be_bytes-to_be_bytes_4 }

pub number_takes : (w : Width) → IsCount w → (bytes : List ℕ) (x : ℕ × List ℕ) → IsBytes bytes → number_at w bytes ≡ Ok x → Takes bytes (to_be_bytes w x.0) x.1 × (x.0 < 256 ^ byte_len w)
unfolding number_at
number_takes w count bytes x fits e =
    let a = bind_ok (bytes_at (byte_len w) bytes) (λ field. Ok (from_be_bytes w field.0, field.1)) x e in
    let t = bytes_takes (byte_len w) bytes a.0 fits a.1 in
    let field = a.0.0 in
    let takes : Takes bytes (to_be_bytes w (from_be_bytes w field)) a.0.1 = subst (λ (text : List ℕ). Takes bytes text a.0.1) (sym (count.back field t.1 t.2)) t.0 in
    subst (λ (y : ℕ × List ℕ). Takes bytes (to_be_bytes w y.0) y.1 × (y.0 < 256 ^ byte_len w)) (ok_is (from_be_bytes w field, a.0.1) x a.2) (takes, count.below field t.1 t.2)

pub number_again : (w : Width) → IsCount w → (n : ℕ) (rest : List ℕ) → n < 256 ^ byte_len w → number_at w (to_be_bytes w n ++ rest) ≡ Ok (n, rest)
unfolding number_at
number_again w count n rest lt =
    let field : bytes_at (byte_len w) (to_be_bytes w n ++ rest) ≡ Ok (to_be_bytes w n, rest) = bytes_again (byte_len w) (to_be_bytes w n) rest (length-bytes_high_first (byte_len w) n) in
    rw (field, count.again n lt) refl

-- a count, and as many bytes
pub counted_takes : (w : Width) (n : ℕ) (bytes inside rest text : List ℕ) → Takes bytes (to_be_bytes w n) inside → Takes inside text rest → length text ≡ n → Takes bytes (to_be_bytes w (length text) ++ text) rest
counted_takes w n bytes inside rest text p q size =
    subst (λ (k : ℕ). Takes bytes (to_be_bytes w k ++ text) rest) (sym size) (Takes-then bytes (to_be_bytes w n) inside text rest p q)

-- what stands behind a tag
pub opened : (tag : ℕ) (w : Width) (n : ℕ) (inside text rest : List ℕ) → Tagged tag w n inside text → text ++ rest ≡ tag ∷ (to_be_bytes w n ++ (inside ++ rest))
opened tag w n inside text rest h = ap (λ (bytes : List ℕ). bytes ++ rest) h.1 ∙ ap (λ (bytes : List ℕ). tag ∷ bytes) (append_assoc (to_be_bytes w n) inside rest)
