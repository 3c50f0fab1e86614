-- The database as its parts show it.
use Rattle.std.proofs.Common.{◌≡◌, ℕ, zero, suc, ◌≤◌, false, if◌then◌else◌, List, [], ◌∷◌, length, map, take}
use Rattle.std.proofs.Common.{refl, sym, ap, ◌∙◌, subst, None, Some, ◌+◌, ◌<◌, get_or, add-one, arith}
use Rattle.std.specs.Prelude.{All, slice_get}
use Rattle.std.specs.Option.{option_map}
use Rattle.std.specs.List.{AllByRecursion as Each}
use Rattle.std.proofs.lemmas.List.{take_all}
use Rattle.std.proofs.lemmas.List.Elements.{All-head, All-tail}
use Rattle.db_model.specs.Database.{Contents, Table, empty_table}
use Rattle.db_model.specs.Lawful.{table_in}
use Rattle.db_model.specs.View.{definition}
use Rattle.db_model.specs.declared.definition.Kind.{Kind}
use Rattle.db_model.specs.declared.definition.TableDef.{TableDef}
use Rattle.ram_table.specs.Contents.{TableRecords, contents, IsInOrder}
use Rattle.term_core.specs.View.{tree_of}
use Rattle.term_core.specs.declared.term.Term.{Term}
use Rattle.db_state.specs.Live.{AreInOrder, IsKeyedTable}
use Rattle.db_state.specs.Live.{with_contents, AreTables, HasKey, is_named, definition_of, table_seen, table_shown}
use Rattle.db_state.specs.Inside.Parts.{kind_of}
use Rattle.db_state.proofs.Places.{IsFirst}

abbrev pub shown : List TableDef → List TableRecords → List Table
shown defs tables = with_contents defs (map contents tables)

pub as_many : (defs : List TableDef) (tables : List TableRecords) → AreTables defs tables → length tables ≡ length defs
as_many [] [] a = refl
as_many [] (t ∷ ts) a = absurd a
as_many (d ∷ ds) [] a = absurd a
as_many (d ∷ ds) (t ∷ ts) a = ap suc (as_many ds ts a.1)

pub defs_shown : (defs : List TableDef) (tables : List TableRecords) → AreTables defs tables
    → map definition defs ≡ map definition_of (shown defs tables)
defs_shown [] [] a = refl
defs_shown [] (t ∷ ts) a = absurd a
defs_shown (d ∷ ds) [] a = absurd a
defs_shown (d ∷ ds) (t ∷ ts) a = ap (λ rest. definition d ∷ rest) (defs_shown ds ts a.1)

abbrev pub IsOrderedTable : TableRecords → Type 0
IsOrderedTable table = IsInOrder (contents table)

pub ordered_more : (tables : List TableRecords) (i : ℕ) (table : TableRecords) → i < length tables
    → table ≡ get_or tables i table → IsOrderedTable table → Each IsOrderedTable (take i tables)
    → Each IsOrderedTable (take (i + 1) tables)
ordered_more tables i table lt is new h = rw add-one (by tables i lt is h)
  where
    by : (ts : List TableRecords) (n : ℕ) → n < length ts → table ≡ get_or ts n table
        → Each IsOrderedTable (take n ts) → Each IsOrderedTable (take (suc n) ts)
    by [] n lt is h = absurd (omega arith)
    by (t ∷ ts) zero lt is h = (subst IsOrderedTable is new, tt)
    by (t ∷ ts) (suc n) lt is h = (h.0, by ts n (omega arith) is h.1)

pub order_shown : (defs : List TableDef) (tables : List TableRecords) → Each IsOrderedTable tables
    → AreInOrder (shown defs tables)
order_shown [] tables h = tt
order_shown (d ∷ ds) [] h = tt
order_shown (d ∷ ds) (t ∷ ts) h = (h.0, order_shown ds ts h.1)

as_long : (terms : List Term) → length (map tree_of terms) ≡ length terms
as_long [] = refl
as_long (term ∷ terms) = ap suc (as_long terms)

pub keys_shown : (defs : List TableDef) (tables : List TableRecords) → AreTables defs tables
    → Each IsKeyedTable (shown defs tables)
keys_shown [] [] a = tt
keys_shown [] (t ∷ ts) a = absurd a
keys_shown (d ∷ ds) [] a = absurd a
keys_shown (d ∷ ds) (t ∷ ts) a = (rw (as_long d.attributes) a.0.keyed, keys_shown ds ts a.1)

-- ---- tables without records

abbrev pub empty_of : TableDef → TableRecords
empty_of def = record { kind = def.kind; records = [] }

pub empties_fit : (defs : List TableDef) → All HasKey defs → AreTables defs (map empty_of defs)
empties_fit [] k = tt
empties_fit (d ∷ ds) k =
    (record { kind = refl; keyed = All-head HasKey d ds k }, empties_fit ds (All-tail HasKey d ds k))

pub empties_shown : (defs : List TableDef) → shown defs (map empty_of defs) ≡ map empty_table (map definition defs)
empties_shown [] = refl
empties_shown (d ∷ ds) = ap (λ rest. empty_table (definition d) ∷ rest) (empties_shown ds)

-- ---- the first table of a name

pub no_table : (name : List ℕ) (defs : List TableDef) (rows : List Contents) → Each (λ d. is_named name d ≡ false) defs
    → table_in name (with_contents defs rows) ≡ None
no_table name [] rows e = refl
no_table name (d ∷ ds) [] e = refl
no_table name (d ∷ ds) (r ∷ rs) e =
    ap (λ b. if b then Some (record { definition = definition d; contents = r }) else table_in name (with_contents ds rs)) e.0
    ∙ no_table name ds rs e.1

pub def_found : (name : List ℕ) (defs : List TableDef) (tables : List TableRecords) (i : ℕ) → AreTables defs tables
    → IsFirst (is_named name) defs i
    → option_map definition (slice_get defs i) ≡ option_map definition_of (table_in name (shown defs tables))
def_found name [] tables i a f = absurd f
def_found name (d ∷ ds) [] i a f = absurd a
def_found name (d ∷ ds) (t ∷ ts) zero a f =
    sym (ap (λ b. option_map definition_of (if b then Some (record { definition = definition d; contents = contents t })
    else table_in name (shown ds ts))) f)
def_found name (d ∷ ds) (t ∷ ts) (suc i) a f =
    def_found name ds ts i a.1 f.1
    ∙ sym (ap (λ b. option_map definition_of (if b then Some (record { definition = definition d; contents = contents t })
    else table_in name (shown ds ts))) f.0)

pub table_found : (name : List ℕ) (defs : List TableDef) (tables : List TableRecords) (i : ℕ) → AreTables defs tables
    → IsFirst (is_named name) defs i
    → option_map table_seen (slice_get tables i) ≡ option_map table_shown (table_in name (shown defs tables))
table_found name [] tables i a f = absurd f
table_found name (d ∷ ds) [] i a f = absurd a
table_found name (d ∷ ds) (t ∷ ts) zero a f =
    ap (λ (k : Kind). Some (k, contents t)) a.0.kind
    ∙ sym (ap (λ b. option_map table_shown (if b then Some (record { definition = definition d; contents = contents t })
    else table_in name (shown ds ts))) f)
table_found name (d ∷ ds) (t ∷ ts) (suc i) a f =
    table_found name ds ts i a.1 f.1
    ∙ sym (ap (λ b. option_map table_shown (if b then Some (record { definition = definition d; contents = contents t })
    else table_in name (shown ds ts))) f.0)

-- ---- all definitions read

pub all_empty : (defs read : List TableDef) (i : ℕ) (tables : List TableRecords) → read ≡ defs → length read ≤ i
    → tables ≡ map empty_of (take i read) → tables ≡ map empty_of defs
all_empty defs read i tables is le e = e ∙ ap (map empty_of) (take_all i read le ∙ is)

-- ---- other tables of the same kinds

pub same_kinds : (defs : List TableDef) (tables others : List TableRecords) → map kind_of others ≡ map kind_of tables
    → AreTables defs tables → AreTables defs others
same_kinds [] [] [] e a = tt
same_kinds [] [] (o ∷ os) e a = absurd cc
same_kinds [] (t ∷ ts) others e a = absurd a
same_kinds (d ∷ ds) [] others e a = absurd a
same_kinds (d ∷ ds) (t ∷ ts) [] e a = absurd cc
same_kinds (d ∷ ds) (t ∷ ts) (o ∷ os) e a =
    let first : o.kind ≡ t.kind = cc in
    let rest : map kind_of os ≡ map kind_of ts = cc in
    (record { kind = first ∙ a.0.kind; keyed = a.0.keyed }, same_kinds ds ts os rest a.1)
