-- The file of the schema: the version, and a definition an item.
use Rattle.std.specs.Prelude.{◌≡◌, ◌⊎◌, ℕ, ◌≤◌, List, [], length, map, codes, ⊤, Option, None, Result, Ok, Err, IsTrue}
use Rattle.std.specs.Ordering.{nat_cmp, is_lt}
use Rattle.std.specs.Cmp.Lexicographic.{slice_cmp}
use Rattle.term_core.specs.Tree.{Tree}
use Rattle.term_wire.specs.Spelling.{IsText}
use Rattle.db_model.specs.Definitions.{Definition}
use Rattle.db_model.specs.Options.{create_tree}
use Rattle.db_model.specs.SchemaTerms.{defining_shape, Defines}
use Rattle.db_model.specs.View.{definition}
use Rattle.db_model.specs.declared.definition.Schema.{Schema}
use Rattle.disk_logs.specs.declared.error.LogErr.{LogErr}
use Rattle.disk_logs.specs.declared.error.LogErr.TheVariants.{File, Bad, TooLong, Memory}
use Rattle.store_files.specs.Forms.{Form, AreIncreasing, Gives, IsWrong}

-- the tables, and the version of the last commit that changed them
pub record SchemaRecord : Type 0 where
  pub version : ℕ
  pub tables : List Definition

abbrev pub schema_record : Schema → SchemaRecord
schema_record schema = record { version = schema.version; tables = map definition schema.tables }

-- `{table,Table,Cookie,CreateList}`, the term that is written of a definition
abbrev pub table_tree : Definition → Tree
table_tree table = defining_shape (codes "table") table.name table.cookie (create_tree table)

-- the content is a text of such a term, whose options may come in any order
abbrev pub IsTable : List ℕ → Definition → Type 0
IsTable content table = (term : Tree) × IsText content term × Defines (codes "table") term table

abbrev pub IsNamedBefore : Definition → Definition → Type 0
IsNamedBefore table other = IsTrue (is_lt (slice_cmp nat_cmp table.name other.name))

-- at most 1000 tables, by strictly increasing names
pub record AreTables (tables : List Definition) : Type 0 where
  pub increasing : AreIncreasing IsNamedBefore tables
  pub few : length tables ≤ 1000

-- `{schema,Version}`, and the tables
abbrev pub schema_form : Form Definition
schema_form = record {
  word = codes "schema";
  Counts = λ version. ⊤;
  Says = IsTable;
  Allows = AreTables;
}

-- where there is no file there are no tables yet, and the version is 0
abbrev pub HasSchema : SchemaRecord → Option (List ℕ) → Type 0
HasSchema schema file = Gives schema_form schema.version schema.tables file
    ⊎ ((file ≡ None) × (schema.version ≡ 0) × (schema.tables ≡ []))

-- what is read of the file: its schema, or the first wrong place
abbrev pub HasSchemaRead : Result Schema LogErr → Option (List ℕ) → Type 0
HasSchemaRead (Ok schema) file = HasSchema (schema_record schema) file
HasSchemaRead (Err (Bad name at)) file = IsWrong schema_form at file
HasSchemaRead (Err TooLong) file = ⊥
HasSchemaRead (Err (File name)) file = Unit {0}
HasSchemaRead (Err Memory) file = Unit {0}
