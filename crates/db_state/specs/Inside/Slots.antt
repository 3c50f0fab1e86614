-- Schema ops on slots: definitions, each with where its table comes from.
use Rattle.std.specs.Prelude.{◌≡◌, ℕ, suc, ◌<◌, List, [], ◌∷◌, ◌++◌, length, map, Option}
use Rattle.std.specs.List.{AllByRecursion}
use Rattle.std.specs.Option.{option_to_list}
use Rattle.db_model.specs.Commits.{SchemaOperation, create, drop_table, add_index, del_index, remake}
use Rattle.db_model.specs.Database.{Table, do_schema_op, do_schema_ops}
use Rattle.db_model.specs.View.{definition}
use Rattle.db_model.specs.declared.definition.TableDef.{TableDef}
use Rattle.ram_table.specs.Contents.{TableRecords, contents}
use Rattle.db_state.specs.Live.{IsTableOf, with_contents}
use Rattle.db_state.specs.Inside.Sources.{table_from, AreFrom, defs_in, tables_in, IsArranged}
use Rattle.db_state.specs.declared.arrangement.Arrangement.{Arrangement}
use Rattle.db_state.specs.declared.arrangement.Source.{Source}
use Rattle.db_state.specs.declared.arrangement.Source.TheVariants.{Kept}
use Rattle.db_state.specs.declared.slots.Slot.{Slot}

abbrev pub def_of : Slot → TableDef
def_of slot = slot.def

abbrev pub source_of : Slot → Source
source_of slot = slot.source

-- the table in the slot, where these stood before
abbrev pub slot_table : List TableRecords → Slot → Table
slot_table old slot = record { definition = definition slot.def; contents = contents (table_from old slot.source) }

abbrev pub slot_tables : List TableRecords → List Slot → List Table
slot_tables old slots = map (slot_table old) slots

abbrev pub IsSlot : List TableRecords → Slot → Type 0
IsSlot old slot = IsTableOf slot.def (table_from old slot.source)

-- each has a table of its definition, and none that stood before is there twice
pub record AreSlots (old : List TableRecords) (slots : List Slot) : Type 0 where
  pub once : AreFrom (length old) 0 (map source_of slots)
  pub fit : AllByRecursion (IsSlot old) slots

-- each definition with the table that stands at its place, the first of which is this one
abbrev pub slots_from : ℕ → List TableDef → List Slot
slots_from place [] = []
slots_from place (def ∷ defs) = record { def = def; source = Kept place } ∷ slots_from (suc place) defs

-- which table the op is done to
abbrev pub op_name : SchemaOperation → List ℕ
op_name (create definition) = definition.name
op_name (drop_table name) = name
op_name (add_index name position) = name
op_name (del_index name position) = name
op_name (remake definition) = definition.name

-- the op is done to a table that stands
abbrev pub IsChange : SchemaOperation → Type 0
IsChange (create definition) = ⊥
IsChange (drop_table name) = Unit {0}
IsChange (add_index name position) = Unit {0}
IsChange (del_index name position) = Unit {0}
IsChange (remake definition) = Unit {0}

-- what is made or remade has a key
abbrev pub HasKeys : SchemaOperation → Type 0
HasKeys (create definition) = 0 < length definition.attributes
HasKeys (drop_table name) = Unit {0}
HasKeys (add_index name position) = Unit {0}
HasKeys (del_index name position) = Unit {0}
HasKeys (remake definition) = 0 < length definition.attributes

-- what is left of a slot is as the op leaves its table
pub record IsLeft (op : SchemaOperation) (old : List TableRecords) (slot : Slot) (left : Option Slot) : Type 0 where
  pub shown : (rest : List Table) → slot_tables old (option_to_list left) ++ do_schema_op op rest
      ≡ do_schema_op op (slot_table old slot ∷ rest)
  pub fit : IsSlot old slot → AllByRecursion (IsSlot old) (option_to_list left)
  pub once : (count least : ℕ) (sources : List Source) → AreFrom count least (slot.source ∷ sources)
      → AreFrom count least (map source_of (option_to_list left) ++ sources)

-- the slots are as the op leaves their tables
pub record AreLeft (op : SchemaOperation) (old : List TableRecords) (before after : List Slot) : Type 0 where
  pub shown : slot_tables old after ≡ do_schema_op op (slot_tables old before)
  pub still : AreSlots old before → AreSlots old after

-- the tables are arranged as the ops leave them
pub record IsArrangedBy (ops : List SchemaOperation) (defs : List TableDef) (tables : List TableRecords)
    (new : Option Arrangement) : Type 0 where
  pub arranged : IsArranged tables new
  pub shown : with_contents (defs_in defs new) (map contents (tables_in tables new))
      ≡ do_schema_ops ops (with_contents defs (map contents tables))
