-- The names of a table's files, told apart by their last bytes.
use Rattle.std.proofs.Common.{◌≡◌, ◌≢◌, inl, inr, ℕ, List, [], ◌∷◌, ◌++◌, refl, sym, ap, ◌∙◌, arith}
use Rattle.disk_logs.specs.Logs.{draft_name}
use Rattle.store_files.specs.Names.{dcd_of, dcl_of}
use Rattle.store_files.specs.Pairs.{IsFileOf}

-- the last byte
abbrev last : List ℕ → ℕ
last [] = 0
last (x ∷ []) = x
last (x ∷ y ∷ ys) = last (y ∷ ys)

last_append : (a : List ℕ) (x : ℕ) (xs : List ℕ) → last (a ++ x ∷ xs) ≡ last (x ∷ xs)
last_append [] x xs = refl
last_append (a ∷ []) x xs = refl
last_append (a ∷ b ∷ rest) x xs = last_append (b ∷ rest) x xs

last_dcd : (table : List ℕ) → last (dcd_of table) ≡ 68
last_dcd table = last_append table 46 (68 ∷ 67 ∷ 68 ∷ [])

last_dcl : (table : List ℕ) → last (dcl_of table) ≡ 76
last_dcl table = last_append table 46 (68 ∷ 67 ∷ 76 ∷ [])

last_draft : (name : List ℕ) → last (draft_name name) ≡ 80
last_draft name = last_append name 84 (77 ∷ 80 ∷ [])

-- two names with other last bytes
differ : (a b : List ℕ) (m n : ℕ) → last a ≡ m → last b ≡ n → m ≢ n → a ≡ b → ⊥
differ a b m n at also apart is = apart (sym at ∙ ap last is ∙ also)

pub dcl_no_dcd : (table other : List ℕ) → IsFileOf (dcd_of other) (dcl_of table) → ⊥
dcl_no_dcd table other (inl is) = differ _ _ 76 68 (last_dcl table) (last_dcd other) (λ e. omega (arith, e)) is
dcl_no_dcd table other (inr is) = differ _ _ 76 80 (last_dcl table) (last_draft (dcd_of other)) (λ e. omega (arith, e)) is

pub dcd_no_dcl : (table other : List ℕ) → IsFileOf (dcl_of other) (dcd_of table) → ⊥
dcd_no_dcl table other (inl is) = differ _ _ 68 76 (last_dcd table) (last_dcl other) (λ e. omega (arith, e)) is
dcd_no_dcl table other (inr is) = differ _ _ 68 80 (last_dcd table) (last_draft (dcl_of other)) (λ e. omega (arith, e)) is

pub dcd_no_draft : (table other : List ℕ) → dcd_of table ≢ draft_name other
dcd_no_draft table other is = differ _ _ 68 80 (last_dcd table) (last_draft other) (λ e. omega (arith, e)) is

pub dcl_no_draft : (table other : List ℕ) → dcl_of table ≢ draft_name other
dcl_no_draft table other is = differ _ _ 76 80 (last_dcl table) (last_draft other) (λ e. omega (arith, e)) is
