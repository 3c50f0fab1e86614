-- What a reader that refuses a line says of it.
use Rattle.std.proofs.Common.{◌≡◌, ℕ, List, [], ◌∷◌, ◌++◌, length, Result, Ok, Err, refl}
use Rattle.std.proofs.Common.{true}
use Rattle.term_text.specs.Grammar.{begins}
use Rattle.mn_script.specs.declared.forms.Kind.{Kind}
use Rattle.mn_script.specs.Forms.{may_begin}
use Rattle.mn_script.specs.Reading.{◌>>=◌, argument_at}

-- why the bytes behind the front are refused
pub data Why (Refuses : List ℕ → ℕ → Type 0) (front rest : List ℕ) : Type 0 where
  more_due : rest ≡ [] → Why Refuses front rest
  other_byte : (c : ℕ) (after : List ℕ) → rest ≡ c ∷ after
      → ((tail : List ℕ) → Refuses (front ++ c ∷ tail) (length (c ∷ tail))) → Why Refuses front rest

-- The front may still become a text that is Done, or it goes up to an argument that cannot be read.
pub data Refusal (Done : List ℕ → Type 0) (Before : Kind → List ℕ → Type 0) (Refuses : List ℕ → ℕ → Type 0)
    (line : List ℕ) (left : ℕ) : Type 0 where
  at_byte : (front rest tail : List ℕ) → line ≡ front ++ rest → left ≡ length rest → Done (front ++ tail)
      → Why Refuses front rest → Refusal Done Before Refuses line left
  in_argument : (kind : Kind) (front rest : List ℕ) → line ≡ front ++ rest → Before kind front
      → begins (may_begin kind) rest ≡ true → argument_at kind rest ≡ Err left → Refusal Done Before Refuses line left

-- ---- results

pub ok_is : {A : Type 0} (x y : A) → (let r : Result A ℕ = Ok x in r) ≡ Ok y → x ≡ y
ok_is x y e = cc

pub bind_ok : {A B : Type 0} (r : Result A ℕ) (f : A → Result B ℕ) (y : B) → (r >>= f) ≡ Ok y
    → (x : A) × (r ≡ Ok x) × (f x ≡ Ok y)
bind_ok (Ok x) f y e = (x, refl, e)
bind_ok (Err d) f y e = absurd cc

-- refused by the first step, or by the second
pub data BindErr {A B : Type 0} (r : Result A ℕ) (f : A → Result B ℕ) (left : ℕ) : Type 0 where
  at_first : r ≡ Err left → BindErr r f left
  at_second : (x : A) → r ≡ Ok x → f x ≡ Err left → BindErr r f left

pub bind_err : {A B : Type 0} (r : Result A ℕ) (f : A → Result B ℕ) (left : ℕ) → (r >>= f) ≡ Err left → BindErr r f left
bind_err (Ok x) f left e = at_second x refl e
bind_err (Err d) f left e = at_first cc
