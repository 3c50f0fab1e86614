-- The tables that a log's commits make are orderly.
use Rattle.std.proofs.Common.{List, arith}
use Rattle.db_model.specs.Commits.{CommitRecord}
use Rattle.db_model.specs.Database.{Table}
use Rattle.db_state.specs.Live.{IsKeyedTable}
use Rattle.ram_table.specs.Contents.{IsInOrder}
use Rattle.txn_core.specs.Machine.{AreOrderly}
use Rattle.txn_core.proofs.KeyOrder.{in_order_op}
use Rattle.mn_node.specs.Durable.{made}
use Rattle.mn_node.specs.Meaning.{AreTaken}
use Rattle.mn_node.proofs.TakenCommits.{Keeps, made_keeps}

abbrev HasOrder : Table → Type 0
HasOrder table = IsInOrder table.contents

keeps_order : Keeps HasOrder
keeps_order = record {
  made = λ definition is. tt;
  indexed = λ position table is. is;
  unindexed = λ position table is. is;
  written = λ op table is. in_order_op table.definition.kind op table.contents is;
}

keeps_keys : Keeps IsKeyedTable
keeps_keys = record {
  made = λ definition is. let some = is.attributes.some in omega (arith, some);
  indexed = λ position table is. is;
  unindexed = λ position table is. is;
  written = λ op table is. is;
}

pub made_orderly : (commits : List CommitRecord) → AreTaken commits → AreOrderly (made commits).database.tables
made_orderly commits can = record {
  ordered = made_keeps HasOrder keeps_order commits can;
  keyed = made_keeps IsKeyedTable keeps_keys commits can;
}
