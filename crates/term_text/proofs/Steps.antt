-- What a step of reading tells.
use Rattle.std.proofs.Common.{◌≡◌, ℕ, suc, ◌+◌, Bool, true, false, cond, List, [], ◌∷◌, ◌++◌, length, take, drop, Result, Ok, Err, refl, sym, ap, ◌∙◌, arith, inl, inr, ◌⊎◌}
use Rattle.std.proofs.lemmas.Bool.{and_parts}
use Rattle.std.proofs.lemmas.List.{take-append-drop, drop_at}
use Rattle.std.specs.Prelude.{◌==◌}
use Rattle.std.specs.List.{prefix_len, list_all}
use Rattle.std.proofs.lemmas.Bool.{eqb-true, eq-eqb}
use Rattle.term_text.specs.declared.fault.Fault.{Fault}
use Rattle.term_text.specs.Grammar.{begins, is_blank, AreBlanks}
use Rattle.term_text.specs.Reading.{◌>>=◌, refused, byte_at, unblanked}
use Rattle.term_text.proofs.Fronts.{front_passes}

-- the value of a step that did not fail
pub bind_ok : {A B : Type 0} (r : Result A Fault) (f : A → Result B Fault) (y : B) → (r >>= f) ≡ Ok y → (x : A) × (r ≡ Ok x) × (f x ≡ Ok y)
bind_ok (Ok x) f y e = (x, refl, e)
bind_ok (Err d) f y e = absurd cc

-- a test that did not fail
pub guard_held : {A : Type 0} (b : Bool) (d : Fault) (x y : A) → cond b (Ok x) (Err d) ≡ Ok y → (b ≡ true) × (x ≡ y)
guard_held true d x y e = (refl, cc)
guard_held false d x y e = absurd cc

pub guard_ok : {A : Type 0} (b : Bool) (d : Fault) (x y : A) → cond b (Err d) (Ok x) ≡ Ok y → (b ≡ false) × (x ≡ y)
guard_ok true d x y e = absurd cc
guard_ok false d x y e = (refl, cc)

-- one side of a choice
pub chosen : {A : Type 0} (b : Bool) (x y z : A) → cond b x y ≡ z → ((b ≡ true) × (x ≡ z)) ⊎ ((b ≡ false) × (y ≡ z))
chosen true x y z e = inl (refl, e)
chosen false x y z e = inr (refl, e)

-- the byte in front
pub begun : (k : ℕ) (bytes : List ℕ) → begins (λ b. b == k) bytes ≡ true → bytes ≡ k ∷ drop 1 bytes
begun k [] e = absurd cc
begun k (b ∷ rest) e = ap (λ (n : ℕ). n ∷ rest) (eqb-true b k e)

pub byte_found : (k : ℕ) (bytes rest : List ℕ) → byte_at k bytes ≡ Ok rest → bytes ≡ k ∷ rest
unfolding byte_at
byte_found k bytes rest e = by (begins (λ b. b == k) bytes) refl e
  where
    by : (t : Bool) → begins (λ b. b == k) bytes ≡ t → cond t (Ok (drop 1 bytes)) (refused bytes) ≡ Ok rest → bytes ≡ k ∷ rest
    by true here e = let same : drop 1 bytes ≡ rest = cc in begun k bytes here ∙ ap (λ (r : List ℕ). k ∷ r) same
    by false here e = absurd cc

eqb_itself : (k : ℕ) → (k == k) ≡ true
eqb_itself k = eq-eqb k k refl

pub byte_again : (k : ℕ) (rest : List ℕ) → byte_at k (k ∷ rest) ≡ Ok rest
unfolding byte_at
byte_again k rest = rw (eqb_itself k) refl

-- ---- fronts that pass a test

pub front_stops : (p : ℕ → Bool) (bytes : List ℕ) → begins p (drop (prefix_len p bytes) bytes) ≡ false
front_stops p [] = refl
front_stops p (b ∷ bytes) = by (p b) refl (front_stops p bytes)
  where
    by : (t : Bool) → p b ≡ t → begins p (drop (prefix_len p bytes) bytes) ≡ false → begins p (drop (cond (p b) (1 + prefix_len p bytes) 0) (b ∷ bytes)) ≡ false
    by true h again = let one : 1 + prefix_len p bytes ≡ suc (prefix_len p bytes) = omega arith in rw (h, one) again
    by false h again = rw h h

pub prefix_whole : (p : ℕ → Bool) (text rest : List ℕ) → list_all p text ≡ true → begins p rest ≡ false → prefix_len p (text ++ rest) ≡ length text
prefix_whole p [] [] all stops = refl
prefix_whole p [] (b ∷ rest) all stops = rw stops refl
prefix_whole p (b ∷ text) rest all stops = let parts = and_parts (p b) (list_all p text) all in rw parts.0 (omega (arith, prefix_whole p text rest parts.1 stops))

-- ---- blanks

pub record Blanks (bytes : List ℕ) : Type 0 where
  pub blanks : List ℕ
  pub are : AreBlanks blanks
  pub parts : bytes ≡ blanks ++ unblanked bytes
  pub stops : begins is_blank (unblanked bytes) ≡ false

pub blanks_in : (bytes : List ℕ) → Blanks bytes
unfolding unblanked
blanks_in bytes = record {
  blanks = take (prefix_len is_blank bytes) bytes;
  are = front_passes is_blank bytes;
  parts = sym (take-append-drop (prefix_len is_blank bytes) bytes);
  stops = front_stops is_blank bytes;
}

pub unblanked_again : (blanks rest : List ℕ) → AreBlanks blanks → begins is_blank rest ≡ false → unblanked (blanks ++ rest) ≡ rest
unfolding unblanked
unblanked_again blanks rest are stops = rw (prefix_whole is_blank blanks rest are stops) (drop_at blanks rest (length blanks) refl)
