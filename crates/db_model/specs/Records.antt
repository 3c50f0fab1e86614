-- Which records a table can have, and which ops may be done on it.
use Rattle.std.specs.Prelude.{◌≡◌, ◌≤◌, ◌^◌, length, ⊤}
use Rattle.term_core.specs.Tree.{Tree, atom, tuple, tree, count, depth}
use Rattle.term_core.specs.Written.{canon}
use Rattle.db_model.specs.Definitions.{Definition}
use Rattle.db_model.specs.Ops.{Operation, write, delete, delete_object, clear}

-- the record's name, and an element for each attribute
abbrev pub HasElements : Definition → Tree → Type 0
HasElements definition (tuple (tree (atom name) elements)) = (name ≡ definition.record_name)
    × (count elements ≡ length definition.attributes)
HasElements definition other = ⊥

-- It nests over at most 100 levels, and the text that is written of it has at most 2^26 bytes.
pub record IsStorable (item : Tree) : Type 0 where
  pub levels : depth item ≤ 100
  pub short : length (canon item) ≤ 2 ^ 26

-- a table of this definition can have this record
abbrev pub Fits : Definition → Tree → Type 0
Fits definition row = HasElements definition row × IsStorable row

-- the op may be done on a table of this definition
abbrev pub Allows : Definition → Operation → Type 0
Allows definition (write table row) = Fits definition row
Allows definition (delete table key) = IsStorable key
Allows definition (delete_object table row) = Fits definition row
Allows definition (clear table) = ⊤
