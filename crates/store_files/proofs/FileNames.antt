-- The names are files' names, and apart from each other.
use Rattle.std.proofs.Common.{◌≡◌, ℕ, ◌≤◌, [], ◌∷◌, inl, inr, refl, lit<, lit≤, ap, length, arith, codes}
use Rattle.std.specs.Prelude.{All, List, ◌++◌}
use Rattle.std.proofs.lemmas.List.{length-append, append_cancel_right}
use Rattle.std.proofs.lemmas.List.Elements.{All-from_recursion, All-append}
use Rattle.file_trait.specs.Name.{IsName, IsNameByte}
use Rattle.db_model.specs.Names as tables
use Rattle.disk_logs.specs.Logs.{draft_name}
use Rattle.store_files.specs.Names.{schema_name, dcd_of, dcl_of}

capital : (byte : ℕ) → 64 ≤ byte → byte ≤ 90 → IsNameByte byte
capital byte low high = inr (inl (low, high))

small : (byte : ℕ) → 97 ≤ byte → byte ≤ 122 → IsNameByte byte
small byte low high = inr (inr (inl (low, high)))

dot : IsNameByte 46
dot = inr (inr (inr (inr refl)))

-- `schema.DCD`
pub schema_named : IsName schema_name
schema_named = record {
  some = lit< tt;
  short = lit≤ tt;
  bytes = All-from_recursion IsNameByte schema_name (
    small 115 (lit≤ tt) (lit≤ tt),
    (
      small 99 (lit≤ tt) (lit≤ tt),
      (
        small 104 (lit≤ tt) (lit≤ tt),
        (
          small 101 (lit≤ tt) (lit≤ tt),
          (
            small 109 (lit≤ tt) (lit≤ tt),
            (
              small 97 (lit≤ tt) (lit≤ tt),
              (
                dot,
                (capital 68 (lit≤ tt) (lit≤ tt), (capital 67 (lit≤ tt) (lit≤ tt), (capital 68 (lit≤ tt) (lit≤ tt), tt))),
              ),
            ),
          ),
        ),
      ),
    ),
  );
}

-- ---- the names of a table's files

allowed : (byte : ℕ) → tables.IsNameByte byte → IsNameByte byte
allowed byte (inl letter) = elim letter [
  | inl other ↦ elim other [ inl digit ↦ inl digit | inr high ↦ capital byte (omega (arith, high.0)) high.1 ]
  | inr low ↦ small byte low.0 low.1
]
allowed byte (inr (inl underscore)) = inr (inr (inr (inl underscore)))
allowed byte (inr (inr at)) = capital byte (omega (arith, at)) (omega (arith, at))

all_allowed : (name : List ℕ) → All tables.IsNameByte name → All IsNameByte name
all_allowed name h k d lt = allowed _ (h k d lt)

-- a table's name with four bytes behind it
pub ended : (table ending : List ℕ) → tables.IsTableName table → IsName ending → length ending ≡ 4 → IsName (table ++ ending)
ended table ending named is_ending four = record {
  some = omega (arith, length-append table ending, four);
  short = omega (arith, length-append table ending, four, named.0.few);
  bytes = All-append IsNameByte table ending (all_allowed table named.0.bytes) is_ending.bytes;
}

-- ---- apart from each other

abbrev last_byte : List ℕ → ℕ
last_byte [] = 0
last_byte (byte ∷ []) = byte
last_byte (byte ∷ next ∷ others) = last_byte (next ∷ others)

-- what stands behind has the last byte
last_behind : (front : List ℕ) (byte : ℕ) (others : List ℕ) → last_byte (front ++ byte ∷ others) ≡ last_byte (byte ∷ others)
last_behind [] byte others = refl
last_behind (first ∷ []) byte others = refl
last_behind (first ∷ next ∷ front) byte others = last_behind (next ∷ front) byte others

dcd_last : (table : List ℕ) → last_byte (dcd_of table) ≡ 68
dcd_last table = last_behind table 46 (68 ∷ 67 ∷ 68 ∷ [])

dcl_last : (table : List ℕ) → last_byte (dcl_of table) ≡ 76
dcl_last table = last_behind table 46 (68 ∷ 67 ∷ 76 ∷ [])

log_last : (log : List ℕ) → last_byte (log ++ codes ".LOG") ≡ 71
log_last log = last_behind log 46 (76 ∷ 79 ∷ 71 ∷ [])

draft_last : (file : List ℕ) → last_byte (draft_name file) ≡ 80
draft_last file = last_behind file 84 (77 ∷ 80 ∷ [])

module _ (table : List ℕ) where
  pub no_dcl : (other : List ℕ) → dcd_of table ≡ dcl_of other → ⊥
  no_dcl other is = let last = ap last_byte is in omega (arith, last, dcd_last table, dcl_last other)

  pub no_schema : tables.IsTableName table → dcd_of table ≡ schema_name → ⊥
  no_schema named is = named.1 (append_cancel_right table (codes "schema") (codes ".DCD") is)

  pub no_schema_dcl : dcl_of table ≡ schema_name → ⊥
  no_schema_dcl is = let last : last_byte (dcl_of table) ≡ 68 = ap last_byte is in omega (arith, last, dcl_last table)

  pub dcd_no_log : (log : List ℕ) → dcd_of table ≡ log ++ codes ".LOG" → ⊥
  dcd_no_log log is = let last = ap last_byte is in omega (arith, last, dcd_last table, log_last log)

  pub dcl_no_log : (log : List ℕ) → dcl_of table ≡ log ++ codes ".LOG" → ⊥
  dcl_no_log log is = let last = ap last_byte is in omega (arith, last, dcl_last table, log_last log)

  pub dcd_no_draft : (file : List ℕ) → dcd_of table ≡ draft_name file → ⊥
  dcd_no_draft file is = let last = ap last_byte is in omega (arith, last, dcd_last table, draft_last file)

  pub dcl_no_draft : (file : List ℕ) → dcl_of table ≡ draft_name file → ⊥
  dcl_no_draft file is = let last = ap last_byte is in omega (arith, last, dcl_last table, draft_last file)

pub schema_no_log : (log : List ℕ) → schema_name ≡ log ++ codes ".LOG" → ⊥
schema_no_log log is = let last : 68 ≡ last_byte (log ++ codes ".LOG") = ap last_byte is in omega (arith, last, log_last log)

pub schema_no_draft : (file : List ℕ) → schema_name ≡ draft_name file → ⊥
schema_no_draft file is = let last : 68 ≡ last_byte (draft_name file) = ap last_byte is in omega (arith, last, draft_last file)

pub same_front : (front other ending : List ℕ) → front ++ ending ≡ other ++ ending → front ≡ other
same_front front other ending is = append_cancel_right front other ending is
