-- What the code's commands and replies are as plain data.
use Rattle.std.specs.Prelude.{map, Result, Ok, Err}
use Rattle.term_core.specs.View.{tree_of}
use Rattle.db_model.specs.Definitions.{Definition}
use Rattle.db_model.specs.Ops as ops
use Rattle.db_model.specs.View.{definition}
use Rattle.db_model.specs.declared.definition.TableDef.{TableDef}
use Rattle.db_model.specs.declared.error.DefErr.{DefErr}
use Rattle.txn_core.specs.Calls as calls
use Rattle.mn_node.specs.Effects.{Command, Answer}
use Rattle.mn_node.specs.Effects as machine
use Rattle.mn_node.specs.declared.command.Command as code
use Rattle.mn_node.specs.declared.command.Command.TheVariants.{Put, Get, CreateTable, DeleteTable, Tables, TableInfo, SyncLog, Stop, Begin, Write, Delete, DeleteObject, Read, MatchObject, AllKeys, Commit, Abort}
use Rattle.mn_node.specs.declared.reply.Reply.{Reply}
use Rattle.mn_node.specs.declared.reply.Reply.TheVariants as replies

abbrev pub read_as : Result TableDef DefErr → Result Definition DefErr
read_as (Ok def) = Ok (definition def)
read_as (Err error) = Err error

abbrev pub asked : code.Command → Command
asked (Put table item) = machine.put table (tree_of item)
asked (Get table key) = machine.get table (tree_of key)
asked (CreateTable name read) = machine.create_table name (read_as read)
asked (DeleteTable name) = machine.delete_table name
asked Tables = machine.tables
asked (TableInfo name) = machine.table_info name
asked SyncLog = machine.sync_log
asked Stop = machine.stop
asked (Begin name) = machine.begin name
asked (Write name table item) = machine.ask name (calls.change (ops.write table (tree_of item)))
asked (Delete name table key) = machine.ask name (calls.change (ops.delete table (tree_of key)))
asked (DeleteObject name table item) = machine.ask name (calls.change (ops.delete_object table (tree_of item)))
asked (Read name table key) = machine.ask name (calls.read table (tree_of key))
asked (MatchObject name table pattern) = machine.ask name (calls.match_object table (tree_of pattern))
asked (AllKeys name table) = machine.ask name (calls.all_keys table)
asked (Commit name) = machine.commit_txn name
asked (Abort name) = machine.abort name

abbrev pub answer : Reply → Answer
answer (replies.Started n) = machine.started n
answer replies.Done = machine.done
answer replies.Ok = machine.ok
answer (replies.Found terms) = machine.found (map tree_of terms)
answer replies.Synced = machine.synced
answer replies.Stopped = machine.stopped
answer (replies.NoTable name) = machine.no_table name
answer (replies.Exists name) = machine.exists name
answer (replies.BadRecord item) = machine.bad_record (tree_of item)
answer (replies.BadName name) = machine.bad_name name
answer (replies.BadOption place) = machine.bad_option place
answer (replies.NoTransaction name) = machine.no_transaction name
answer (replies.Locked by) = machine.locked by
answer replies.TooManyTables = machine.too_many_tables
answer replies.TooManyVersions = machine.too_many_versions
answer replies.TooLong = machine.too_long
answer replies.TooManyTransactions = machine.too_many_transactions
answer replies.TooManyCalls = machine.too_many_calls
answer (replies.Badarg at) = machine.bad_line at
answer replies.Down = machine.is_down
answer replies.Up = machine.is_up
answer replies.Memory = machine.no_memory
answer (replies.Fault name) = machine.fault name
answer (replies.Damaged name at) = machine.damaged name at
