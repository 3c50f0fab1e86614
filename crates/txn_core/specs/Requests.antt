-- Calls in code as plain data.
use Rattle.std.specs.Prelude.{◌≡◌, ℕ, if◌then◌else◌, List, Option, None, Some, IsSome}
use Rattle.term_core.specs.Tree.{Tree}
use Rattle.term_core.specs.View.{tree_of}
use Rattle.db_model.specs.Database.{Contents, Table}
use Rattle.db_model.specs.Definitions.{Definition}
use Rattle.db_model.specs.Ops.{Operation, write, delete, delete_object}
use Rattle.txn_writes.specs.Seen.{key_changed}
use Rattle.txn_core.specs.Calls.{Call, change, read, match_object, all_keys, got, found}
use Rattle.txn_core.specs.Refusals.{Refusal, no_table, bad_record, may_call}
use Rattle.txn_core.specs.declared.request.Request.{Request}
use Rattle.txn_core.specs.declared.request.Request.TheVariants.{Write, Delete, DeleteObject, Read, MatchObject, AllKeys}

-- what is asked of the table of this name
abbrev pub call_of : List ℕ → Request → Call
call_of table (Write row) = change (write table (tree_of row.now))
call_of table (Delete key) = change (delete table (tree_of key.now))
call_of table (DeleteObject row) = change (delete_object table (tree_of row.now))
call_of table (Read key) = read table (tree_of key.now)
call_of table (MatchObject pattern) = match_object table (tree_of pattern.now)
call_of table AllKeys = all_keys table

-- the op that the call does
abbrev pub change_of : Call → Option Operation
change_of (change op) = Some op
change_of (read table key) = None
change_of (match_object table pattern) = None
change_of (all_keys table) = None

abbrev pub IsChange : Call → Type 0
IsChange (change op) = Unit {0}
IsChange (read table key) = ⊥
IsChange (match_object table pattern) = ⊥
IsChange (all_keys table) = ⊥

abbrev pub IsRead : Call → Type 0
IsRead (change op) = ⊥
IsRead (read table key) = Unit {0}
IsRead (match_object table pattern) = Unit {0}
IsRead (all_keys table) = Unit {0}

-- the call finds these terms in a table with these contents
abbrev pub Finds : Call → Contents → List Tree → Type 0
Finds call rows terms = (definition : Definition)
    → got call (Some record { definition = definition; contents = rows }) ≡ found terms

-- the refusal for a table that does not stand, or can have no such record or key
abbrev pub fit_refusal : Call → Option Table → Option Refusal
fit_refusal call None = Some no_table
fit_refusal call (Some table) = if may_call table.definition call then None else Some bad_record

-- a call that changes records changes those of one key
abbrev pub IsKeyed : Call → Type 0
IsKeyed (change op) = IsSome (key_changed op)
IsKeyed (read table key) = Unit {0}
IsKeyed (match_object table pattern) = Unit {0}
IsKeyed (all_keys table) = Unit {0}
