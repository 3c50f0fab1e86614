-- What the files are called.
use Rattle.std.specs.Prelude.{◌≡◌, ◌⊎◌, ℕ, List, ◌++◌, codes}

-- the tables of the database
abbrev pub schema_name : List ℕ
schema_name = codes "schema.DCD"

-- the records of a table
abbrev pub dcd_of : List ℕ → List ℕ
dcd_of table = table ++ codes ".DCD"

-- the ops that are to be done on these records
abbrev pub dcl_of : List ℕ → List ℕ
dcl_of table = table ++ codes ".DCL"

-- the names of the table's two files
abbrev pub IsOfTable : List ℕ → List ℕ → Type 0
IsOfTable table name = (name ≡ dcd_of table) ⊎ (name ≡ dcl_of table)
