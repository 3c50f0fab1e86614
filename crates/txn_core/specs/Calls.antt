-- The calls of transactions, and what a call gets and does on the tables of a database.
use Rattle.std.specs.Prelude.{ℕ, List, [], ◌∷◌, filter, Option, None, Some}
use Rattle.term_core.specs.Tree.{Tree}
use Rattle.db_model.specs.Database.{records_of, Table, do_op}
use Rattle.db_model.specs.Lawful.{table_in}
use Rattle.db_model.specs.Ops.{Operation, table_of}
use Rattle.table_query.specs.Values.{is_match}
use Rattle.txn_writes.specs.Seen.{keys}

-- a call acts on one table
pub data Call : Type 0 where
  -- writes a record, or deletes records
  change : (op : Operation) → Call
  read : (table : List ℕ) (key : Tree) → Call
  match_object : (table : List ℕ) (pattern : Tree) → Call
  all_keys : (table : List ℕ) → Call

-- what a call gets
pub data Reply : Type 0 where
  done : Reply
  -- records, or keys
  found : (terms : List Tree) → Reply
  -- its table does not stand
  absent : Reply

abbrev pub table_called : Call → List ℕ
table_called (change op) = table_of op
table_called (read table key) = table
table_called (match_object table pattern) = table
table_called (all_keys table) = table

-- what a call gets where its table is this
abbrev pub got : Call → Option Table → Reply
got call None = absent
got (change op) (Some table) = done
got (read name key) (Some table) = found (records_of key table.contents)
got (match_object name pattern) (Some table) = found (filter (is_match pattern) table.contents)
got (all_keys name) (Some table) = found (keys table.contents)

abbrev pub reply : Call → List Table → Reply
reply call tables = got call (table_in (table_called call) tables)

-- the tables after a call
abbrev pub after : Call → List Table → List Table
after (change op) tables = do_op op tables
after (read table key) tables = tables
after (match_object table pattern) tables = tables
after (all_keys table) tables = tables

-- the tables after the calls, in order: what a transaction sees that made them
abbrev pub view : List Call → List Table → List Table
view [] tables = tables
view (call ∷ calls) tables = view calls (after call tables)

-- what the calls get on the tables, in order and alone
abbrev pub alone : List Call → List Table → List Reply
alone [] tables = []
alone (call ∷ calls) tables = reply call tables ∷ alone calls (after call tables)

abbrev pub with_change : Call → List Operation → List Operation
with_change (change op) ops = op ∷ ops
with_change (read table key) ops = ops
with_change (match_object table pattern) ops = ops
with_change (all_keys table) ops = ops

-- what the calls write, in order
abbrev pub ops_of : List Call → List Operation
ops_of [] = []
ops_of (call ∷ calls) = with_change call (ops_of calls)
