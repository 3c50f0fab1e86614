use Rattle.std.proofs.Common.{◌≡◌, List, take}
use Rattle.db_model.specs.Ops.{Operation}
use Rattle.db_model.specs.View.{definition}
use Rattle.ram_table.specs.Contents.{contents, put_ops}
use Rattle.store_files.specs.Forms.{AreItemsOf}
use Rattle.store_files.specs.Tables.{dcl_form}
use Rattle.store_files.proofs.filling.do_changes.Given as goal

-- the ops of the items that were read are done
abbrev pub invariant-loop-number : goal.invariant-loop-number
invariant-loop-number l = (l.table.kind ≡ l.def.kind) × ((ops : List Operation)
    × AreItemsOf (dcl_form (definition l.def)) l.def.cookie ops (take l.number l.file.items)
    × (contents l.table ≡ put_ops l.def.kind ops (contents l.fn.table)))
