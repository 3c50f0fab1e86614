use Rattle.std.proofs.Common.{◌≡◌, take}
use Rattle.db_model.specs.View.{definition}
use Rattle.ram_table.specs.Contents.{contents}
use Rattle.store_files.specs.Forms.{AreItemsOf}
use Rattle.store_files.specs.Tables.{dcd_form}
use Rattle.store_files.specs.Inside.Reading.{IsLast}
use Rattle.store_files.proofs.filling.put_records.Given as goal

-- the table has the records of the items that were read
abbrev pub invariant-loop-number : goal.invariant-loop-number
invariant-loop-number l = (l.table.kind ≡ l.def.kind)
    × AreItemsOf (dcd_form (definition l.def)) l.def.cookie (contents l.table) (take l.number l.file.items)
    × IsLast (contents l.table) l.last
