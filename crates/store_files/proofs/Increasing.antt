-- Lists of which each thing comes before all that stand behind it.
use Rattle.std.proofs.Common.{◌≡◌, true, suc, ◌-◌, List, [], ◌∷◌, ◌++◌, length, Some, refl, ap, subst, arith}
use Rattle.std.specs.Prelude.{slice_get}
use Rattle.std.specs.List.{AllByRecursion}
use Rattle.std.specs.Ordering.{is_lt}
use Rattle.std.specs.declared.cmp.Ordering.{Ordering}
use Rattle.std.specs.declared.cmp.Ordering.TheVariants.{Less, Equal, Greater}
use Rattle.store_files.specs.Forms.{AreIncreasing}
use Rattle.store_files.specs.Inside.Reading.{HasLast}

pub is_less : (o : Ordering) → is_lt o ≡ true → o ≡ Less
is_less Less h = refl
is_less Equal h = absurd (cc)
is_less Greater h = absurd (cc)

pub last_is : {X : Type 0} (xs : List X) (last : X) → slice_get xs (length xs - 1) ≡ Some last → HasLast xs last
last_is [] last is = absurd (cc)
last_is (x ∷ []) last is = let same : x ≡ last = cc in record { front = []; is = ap (λ y. y ∷ []) same }
last_is (x ∷ y ∷ xs) last is =
    let rest = last_is (y ∷ xs) last (step is) in
    record { front = x ∷ rest.front; is = ap (λ ys. x ∷ ys) rest.is }
  where
    step : slice_get (x ∷ y ∷ xs) (length (x ∷ y ∷ xs) - 1) ≡ Some last → slice_get (y ∷ xs) (length (y ∷ xs) - 1) ≡ Some last
    step h =
        let place : length (x ∷ y ∷ xs) - 1 ≡ suc (length (y ∷ xs) - 1) = omega arith in
        subst (λ n. slice_get (x ∷ y ∷ xs) n ≡ Some last) place h

module _ {X : Type 0} (Before : X → X → Type 0) where
  all_more : (z : X) (xs : List X) (x : X) → AllByRecursion (Before z) xs → Before z x → AllByRecursion (Before z) (xs ++ x ∷ [])
  all_more z [] x h before = (before, tt)
  all_more z (y ∷ xs) x h before = (h.0, all_more z xs x h.1 before)

  all_last : (z : X) (xs : List X) (x : X) → AllByRecursion (Before z) (xs ++ x ∷ []) → Before z x
  all_last z [] x h = h.0
  all_last z (y ∷ xs) x h = all_last z xs x h.1

  pub increasing_first : (xs ys : List X) → AreIncreasing Before (xs ++ ys) → AreIncreasing Before xs
  increasing_first [] ys h = tt
  increasing_first (x ∷ xs) ys h = (front xs h.0, increasing_first xs ys h.1)
    where
      front : (zs : List X) → AllByRecursion (Before x) (zs ++ ys) → AllByRecursion (Before x) zs
      front [] all = tt
      front (z ∷ zs) all = (all.0, front zs all.1)

  -- the last one comes before what is added
  pub increasing_last : (front : List X) (last x : X) → AreIncreasing Before ((front ++ last ∷ []) ++ x ∷ []) → Before last x
  increasing_last [] last x h = h.0.0
  increasing_last (z ∷ front) last x h = increasing_last front last x h.1

  pub increasing_more : ((x y z : X) → Before x y → Before y z → Before x z) → (front : List X) (last x : X)
      → AreIncreasing Before (front ++ last ∷ []) → Before last x → AreIncreasing Before ((front ++ last ∷ []) ++ x ∷ [])
  increasing_more trans [] last x h before = ((before, tt), (tt, tt))
  increasing_more trans (z ∷ front) last x h before = (
    all_more z (front ++ last ∷ []) x h.0 (trans z last x (all_last z front last h.0) before),
    increasing_more trans front last x h.1 before,
  )

  -- all come before what is added
  pub increasing_behind : (xs : List X) (x : X) → AreIncreasing Before (xs ++ x ∷ []) → AllByRecursion (λ y. Before y x) xs
  increasing_behind [] x h = tt
  increasing_behind (z ∷ xs) x h = (all_last z xs x h.0, increasing_behind xs x h.1)
