-- The names of a directory's files are told apart: by their last bytes, and those of one kind by what stands before.
use Rattle.std.proofs.Common.{◌≡◌, ◌≢◌, inl, inr, ℕ, List, [], ◌∷◌, ◌++◌, codes, refl, sym, ap, ◌∙◌, arith}
use Rattle.std.proofs.lemmas.List.{append_cancel_right}
use Rattle.db_model.specs.Names.{IsTableName}
use Rattle.disk_logs.specs.Logs.{draft_name}
use Rattle.txn_log.specs.Logs.{latest, previous}
use Rattle.txn_log.specs.TwoLogs.{IsOfLogs}
use Rattle.store_files.specs.Names.{schema_name, dcd_of, dcl_of}
use Rattle.store_files.specs.Pairs.{IsFileOf, IsOfTable}

-- the last byte
abbrev last : List ℕ → ℕ
last [] = 0
last (x ∷ []) = x
last (x ∷ y ∷ ys) = last (y ∷ ys)

last_append : (a : List ℕ) (x : ℕ) (xs : List ℕ) → last (a ++ x ∷ xs) ≡ last (x ∷ xs)
last_append [] x xs = refl
last_append (a ∷ []) x xs = refl
last_append (a ∷ b ∷ rest) x xs = last_append (b ∷ rest) x xs

last_dcd : (table : List ℕ) → last (dcd_of table) ≡ 68
last_dcd table = last_append table 46 (68 ∷ 67 ∷ 68 ∷ [])

last_dcl : (table : List ℕ) → last (dcl_of table) ≡ 76
last_dcl table = last_append table 46 (68 ∷ 67 ∷ 76 ∷ [])

last_draft : (name : List ℕ) → last (draft_name name) ≡ 80
last_draft name = last_append name 84 (77 ∷ 80 ∷ [])

-- two names with other last bytes
differ : (a b : List ℕ) (m n : ℕ) → last a ≡ m → last b ≡ n → m ≢ n → a ≡ b → ⊥
differ a b m n at also apart is = apart (sym at ∙ ap last is ∙ also)

-- ---- a name against a file or its draft

log_no_dcd : (log table : List ℕ) → last log ≡ 71 → IsFileOf (dcd_of table) log → ⊥
log_no_dcd log table at (inl is) = differ _ _ 71 68 at (last_dcd table) (λ e. omega (arith, e)) is
log_no_dcd log table at (inr is) = differ _ _ 71 80 at (last_draft (dcd_of table)) (λ e. omega (arith, e)) is

log_no_dcl : (log table : List ℕ) → last log ≡ 71 → IsFileOf (dcl_of table) log → ⊥
log_no_dcl log table at (inl is) = differ _ _ 71 76 at (last_dcl table) (λ e. omega (arith, e)) is
log_no_dcl log table at (inr is) = differ _ _ 71 80 at (last_draft (dcl_of table)) (λ e. omega (arith, e)) is

log_no_schema : (log : List ℕ) → last log ≡ 71 → IsFileOf schema_name log → ⊥
log_no_schema log at (inl is) = differ _ _ 71 68 at refl (λ e. omega (arith, e)) is
log_no_schema log at (inr is) = differ _ _ 71 80 at (last_draft schema_name) (λ e. omega (arith, e)) is

no_log_name : (name : List ℕ) (n : ℕ) → last name ≡ n → n ≢ 71 → n ≢ 80 → IsOfLogs name → ⊥
no_log_name name n at apart also (inl (inl is)) = differ name latest n 71 at refl apart is
no_log_name name n at apart also (inl (inr is)) = differ name (draft_name latest) n 80 at (last_draft latest) also is
no_log_name name n at apart also (inr is) = differ name previous n 71 at refl apart is

dcd_no_dcd : (table other : List ℕ) → table ≢ other → IsFileOf (dcd_of table) (dcd_of other) → ⊥
dcd_no_dcd table other apart (inl is) = apart (sym (append_cancel_right other table (codes ".DCD") is))
dcd_no_dcd table other apart (inr is) = differ _ _ 68 80 (last_dcd other) (last_draft (dcd_of table)) (λ e. omega (arith, e)) is

dcd_no_dcl : (table other : List ℕ) → IsFileOf (dcl_of table) (dcd_of other) → ⊥
dcd_no_dcl table other (inl is) = differ _ _ 68 76 (last_dcd other) (last_dcl table) (λ e. omega (arith, e)) is
dcd_no_dcl table other (inr is) = differ _ _ 68 80 (last_dcd other) (last_draft (dcl_of table)) (λ e. omega (arith, e)) is

dcl_no_dcd : (table other : List ℕ) → IsFileOf (dcd_of table) (dcl_of other) → ⊥
dcl_no_dcd table other (inl is) = differ _ _ 76 68 (last_dcl other) (last_dcd table) (λ e. omega (arith, e)) is
dcl_no_dcd table other (inr is) = differ _ _ 76 80 (last_dcl other) (last_draft (dcd_of table)) (λ e. omega (arith, e)) is

dcl_no_dcl : (table other : List ℕ) → table ≢ other → IsFileOf (dcl_of table) (dcl_of other) → ⊥
dcl_no_dcl table other apart (inl is) = apart (sym (append_cancel_right other table (codes ".DCL") is))
dcl_no_dcl table other apart (inr is) = differ _ _ 76 80 (last_dcl other) (last_draft (dcl_of table)) (λ e. omega (arith, e)) is

-- ---- what the calls on a part do not touch

pub schema_no_log : IsOfLogs schema_name → ⊥
schema_no_log = no_log_name schema_name 68 refl (λ e. omega (arith, e)) (λ e. omega (arith, e))

pub dcd_no_log : (table : List ℕ) → IsOfLogs (dcd_of table) → ⊥
dcd_no_log table = no_log_name (dcd_of table) 68 (last_dcd table) (λ e. omega (arith, e)) (λ e. omega (arith, e))

pub dcl_no_log : (table : List ℕ) → IsOfLogs (dcl_of table) → ⊥
dcl_no_log table = no_log_name (dcl_of table) 76 (last_dcl table) (λ e. omega (arith, e)) (λ e. omega (arith, e))

pub latest_no_table : (table : List ℕ) → IsOfTable table latest → ⊥
latest_no_table table (inl at) = log_no_dcd latest table refl at
latest_no_table table (inr at) = log_no_dcl latest table refl at

pub previous_no_table : (table : List ℕ) → IsOfTable table previous → ⊥
previous_no_table table (inl at) = log_no_dcd previous table refl at
previous_no_table table (inr at) = log_no_dcl previous table refl at

pub schema_no_table : (table : List ℕ) → IsTableName table → IsOfTable table schema_name → ⊥
schema_no_table table valid (inl (inl is)) = valid.1 (sym (append_cancel_right (codes "schema") table (codes ".DCD") is))
schema_no_table table valid (inl (inr is)) = differ _ _ 68 80 refl (last_draft (dcd_of table)) (λ e. omega (arith, e)) is
schema_no_table table valid (inr (inl is)) = differ _ _ 68 76 refl (last_dcl table) (λ e. omega (arith, e)) is
schema_no_table table valid (inr (inr is)) = differ _ _ 68 80 refl (last_draft (dcl_of table)) (λ e. omega (arith, e)) is

pub dcd_no_table : (table other : List ℕ) → table ≢ other → IsOfTable table (dcd_of other) → ⊥
dcd_no_table table other apart (inl at) = dcd_no_dcd table other apart at
dcd_no_table table other apart (inr at) = dcd_no_dcl table other at

pub dcl_no_table : (table other : List ℕ) → table ≢ other → IsOfTable table (dcl_of other) → ⊥
dcl_no_table table other apart (inl at) = dcl_no_dcd table other at
dcl_no_table table other apart (inr at) = dcl_no_dcl table other apart at

pub latest_no_schema : IsFileOf schema_name latest → ⊥
latest_no_schema = log_no_schema latest refl

pub previous_no_schema : IsFileOf schema_name previous → ⊥
previous_no_schema = log_no_schema previous refl

pub dcd_no_schema : (table : List ℕ) → IsTableName table → IsFileOf schema_name (dcd_of table) → ⊥
dcd_no_schema table valid (inl is) = valid.1 (append_cancel_right table (codes "schema") (codes ".DCD") is)
dcd_no_schema table valid (inr is) = differ _ _ 68 80 (last_dcd table) (last_draft schema_name) (λ e. omega (arith, e)) is

pub dcl_no_schema : (table : List ℕ) → IsFileOf schema_name (dcl_of table) → ⊥
dcl_no_schema table (inl is) = differ _ _ 76 68 (last_dcl table) refl (λ e. omega (arith, e)) is
dcl_no_schema table (inr is) = differ _ _ 76 80 (last_dcl table) (last_draft schema_name) (λ e. omega (arith, e)) is

-- a draft's name is none of these

pub latest_no_draft : (name : List ℕ) → latest ≢ draft_name name
latest_no_draft name is = differ _ _ 71 80 refl (last_draft name) (λ e. omega (arith, e)) is

pub previous_no_draft : (name : List ℕ) → previous ≢ draft_name name
previous_no_draft name is = differ _ _ 71 80 refl (last_draft name) (λ e. omega (arith, e)) is

pub schema_no_draft : (name : List ℕ) → schema_name ≢ draft_name name
schema_no_draft name is = differ _ _ 68 80 refl (last_draft name) (λ e. omega (arith, e)) is

pub dcd_no_draft : (table name : List ℕ) → dcd_of table ≢ draft_name name
dcd_no_draft table name is = differ _ _ 68 80 (last_dcd table) (last_draft name) (λ e. omega (arith, e)) is

pub dcl_no_draft : (table name : List ℕ) → dcl_of table ≢ draft_name name
dcl_no_draft table name is = differ _ _ 76 80 (last_dcl table) (last_draft name) (λ e. omega (arith, e)) is
