use Rattle.std.proofs.Common.{map, take}
use Rattle.db_model.specs.View.{definition}
use Rattle.store_files.specs.Forms.{AreItemsOf}
use Rattle.store_files.specs.Schema.{schema_form}
use Rattle.store_files.proofs.schema.schema_in.Given as goal

-- the tables are those of the items that were read
abbrev pub invariant-loop-number : goal.invariant-loop-number
invariant-loop-number l = AreItemsOf schema_form l.found.number (map definition l.tables) (take l.number l.found.file.items)
