-- What is put at its place.
use Rattle.std.proofs.Common.{◌≡◌, ℕ, suc, ◌+◌, ◌<◌, ◌≤◌, Bool, true, false, not, cond, if◌then◌else◌, List, [], ◌∷◌}
use Rattle.std.proofs.Common.{length, get_or, drop, map, refl, sym, ap, ◌∙◌, arith}
use Rattle.std.specs.List.{position_or_len, insert}
use Rattle.std.specs.Ordering.{nat_cmp, is_lt}
use Rattle.std.specs.Cmp.Lexicographic.{slice_cmp}
use Rattle.std.proofs.lemmas.List.{drop_more, drop_all}
use Rattle.db_model.specs.Database.{Table, with_position, with_table}

-- ---- a count of those before the first that passes

module _ {X : Type 0} (test : X → Bool) where
  counted : (xs : List X) (i : ℕ) (x : X) → i < length xs → x ≡ get_or xs i x
      → position_or_len test (drop i xs) ≡ cond (not (test x)) (1 + position_or_len test (drop (i + 1) xs)) 0
  counted xs i x lt is =
      ap (position_or_len test) (drop_more xs i x lt) ∙ ap (λ (y : X). position_or_len test (y ∷ drop (i + 1) xs)) (sym is)

  pub one_before : (xs : List X) (i : ℕ) (x : X) (n : ℕ) → i < length xs → x ≡ get_or xs i x → test x ≡ false
      → i + position_or_len test (drop i xs) ≡ n → (i + 1) + position_or_len test (drop (i + 1) xs) ≡ n
  one_before xs i x n lt is fails e =
      let count = counted xs i x lt is
      ∙ ap (λ b. cond (not b) (1 + position_or_len test (drop (i + 1) xs)) 0) fails in omega arith

  pub at_first : (xs : List X) (i : ℕ) (x : X) (n : ℕ) → i < length xs → x ≡ get_or xs i x → test x ≡ true
      → i + position_or_len test (drop i xs) ≡ n → i ≡ n
  at_first xs i x n lt is passes e =
      let count = counted xs i x lt is
      ∙ ap (λ b. cond (not b) (1 + position_or_len test (drop (i + 1) xs)) 0) passes in omega arith

  pub all_before : (xs : List X) (i n : ℕ) → length xs ≤ i → i ≤ length xs → i + position_or_len test (drop i xs) ≡ n → length xs ≡ n
  all_before xs i n le ge e = let count = ap (position_or_len test) (drop_all i xs le) in omega arith

-- ---- the place

inserted : {X : Type 0} (new x : X) (xs : List X) (b : Bool) (n : ℕ)
    → (if b then new ∷ x ∷ xs else x ∷ insert xs n new) ≡ insert (x ∷ xs) (cond (not b) (1 + n) 0) new
inserted new x xs true n = refl
inserted new x xs false n =
    let same : suc n ≡ 1 + n = omega arith in ap (λ (k : ℕ). insert (x ∷ xs) k new) same

pub position_placed : (position : ℕ) (positions : List ℕ)
    → with_position position positions ≡ insert positions (position_or_len (λ other. is_lt (nat_cmp position other)) positions) position
position_placed position [] = refl
position_placed position (p ∷ ps) =
    ap (λ rest. if is_lt (nat_cmp position p) then position ∷ p ∷ ps else p ∷ rest) (position_placed position ps)
    ∙ inserted position p ps (is_lt (nat_cmp position p)) (position_or_len (λ other. is_lt (nat_cmp position other)) ps)

-- a table at its place, seen through what stands for it
pub table_placed : {X : Type 0} (f : X → Table) (new : X) (xs : List X)
    → with_table (f new) (map f xs)
    ≡ map f (insert xs (position_or_len (λ x. is_lt (slice_cmp nat_cmp (f new).definition.name (f x).definition.name)) xs) new)
table_placed f new [] = refl
table_placed f new (x ∷ xs) =
    let before = is_lt (slice_cmp nat_cmp (f new).definition.name (f x).definition.name) in
    ap (λ rest. if before then f new ∷ f x ∷ map f xs else f x ∷ rest) (table_placed f new xs)
    ∙ by before (position_or_len (λ y. is_lt (slice_cmp nat_cmp (f new).definition.name (f y).definition.name)) xs)
  where
    by : (b : Bool) (n : ℕ) → (if b then f new ∷ f x ∷ map f xs else f x ∷ map f (insert xs n new))
        ≡ map f (insert (x ∷ xs) (cond (not b) (1 + n) 0) new)
    by true n = refl
    by false n = let same : suc n ≡ 1 + n = omega arith in ap (λ (k : ℕ). map f (insert (x ∷ xs) k new)) same
