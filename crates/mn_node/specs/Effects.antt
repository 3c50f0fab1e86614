-- What commands do, and what they are answered.
use Rattle.std.specs.Prelude.{◌≡◌, ℕ, pos, ◌+◌, ◌^◌, ◌||◌, nat_le, Bool, true, false, if◌then◌else◌, List, [], ◌∷◌, ◌++◌, length, map, codes, Option, Some, None, is_some, Result, Ok, Err}
use Rattle.term_core.specs.Tree.{Tree, int, atom, list, no_trees}
use Rattle.db_model.specs.Commits.{CommitRecord}
use Rattle.db_model.specs.Database.{Table, Database, records_of}
use Rattle.db_model.specs.Definitions.{Definition, IsDefinition}
use Rattle.db_model.specs.Lawful.{table_in}
use Rattle.db_model.specs.Ops.{Operation, write, delete, delete_object, clear}
use Rattle.db_model.specs.Options.{option_of, option_shape, settings_of}
use Rattle.db_model.specs.declared.error.DefErr.{DefErr}
use Rattle.db_model.specs.declared.error.DefErr.TheVariants.{BadName, BadOption, Memory}
use Rattle.schema_txn.specs.Commands.{with_cookie, create_commit, delete_commit}
use Rattle.txn_core.specs.Calls.{Call, change, match_object, all_keys, Reply, table_called, ops_of}
use Rattle.txn_core.specs.Calls as calls
use Rattle.txn_core.specs.Locks.{lock_of, whole_table}
use Rattle.txn_core.specs.Pending.{Txn, calls_of, named, others, holder, begun, keeping, kept_call}
use Rattle.txn_core.specs.Refusals.{Refusal, fits, begin_refusal, call_refusal}
use Rattle.txn_core.specs.Refusals as refusals
use Rattle.txn_log.specs.Commits.{commit_text}
use Rattle.mn_node.specs.Durable.{Entry, commit, Durable}

-- ---- what is asked and answered

-- what a node that is up is asked
pub data Command : Type 0 where
  put : (table : List ℕ) (item : Tree) → Command
  get : (table : List ℕ) (key : Tree) → Command
  -- make a table of this name, as its options were read
  create_table : (name : List ℕ) (read : Result Definition DefErr) → Command
  delete_table : (name : List ℕ) → Command
  tables : Command
  table_info : (name : List ℕ) → Command
  sync_log : Command
  stop : Command
  -- a pending transaction of this name begins, makes a call, commits, or is dropped
  begin : (name : List ℕ) → Command
  ask : (name : List ℕ) (call : Call) → Command
  commit_txn : (name : List ℕ) → Command
  abort : (name : List ℕ) → Command

-- what the options read as is the definition of a table of the name
abbrev pub IsAskable : Command → Type 0
IsAskable (create_table name (Ok definition)) = (definition.name ≡ name) × IsDefinition (with_cookie 0 definition)
IsAskable other = Unit {0}

pub data Answer : Type 0 where
  -- of the entries since the last good start so many were kept
  started : (n : ℕ) → Answer
  done : Answer
  -- a transaction did what it was asked, and nothing is committed
  ok : Answer
  -- records, keys, or what is told of tables
  found : (terms : List Tree) → Answer
  synced : Answer
  stopped : Answer
  -- Refused, and nothing is done: there is no table of this name, or a table or a transaction already, or the table can
  -- have no such record or key, or no table can be called so, or the option at this place is ill, or no transaction of
  -- this name is pending, or the one of this name has a conflicting lock.
  no_table : (name : List ℕ) → Answer
  exists : (name : List ℕ) → Answer
  bad_record : (item : Tree) → Answer
  bad_name : (name : List ℕ) → Answer
  bad_option : (place : ℕ) → Answer
  no_transaction : (name : List ℕ) → Answer
  locked : (by : List ℕ) → Answer
  -- Refused for a limit: there are as many tables as there may be, no version follows, the commit is too long, or there
  -- are as many transactions, or calls of one, as there may be.
  too_many_tables : Answer
  too_many_versions : Answer
  too_long : Answer
  too_many_transactions : Answer
  too_many_calls : Answer
  bad_line : (at : ℕ) → Answer
  -- a turn is not answered
  silent : Answer
  -- the node is down, and the command is no start
  is_down : Answer
  -- the node is up, and the command is a start
  is_up : Answer
  no_memory : Answer
  -- the disk failed at the file of this name
  fault : (name : List ℕ) → Answer
  -- the file of this name has no meaning, from this place on
  damaged : (name : List ℕ) (at : ℕ) → Answer

abbrev pub is_no_memory : Answer → Bool
is_no_memory no_memory = true
is_no_memory other = false

abbrev pub is_fault : Answer → Bool
is_fault (fault name) = true
is_fault other = false

-- ---- what a command does

pub record Effect : Type 0 where
  pub answer : Answer
  -- what is appended to the log
  pub entry : Option Entry
  -- all is durable behind it
  pub settles : Bool
  -- the machine is down behind it
  pub halts : Bool
  -- it takes memory, and want of it may be answered in its place
  pub takes_memory : Bool

-- it goes to the disk
abbrev pub goes_to_disk : Effect → Bool
goes_to_disk e = is_some e.entry || e.settles

-- only an answer
abbrev pub refuses : Answer → Effect
refuses answer = record { answer = answer; entry = None; settles = false; halts = false; takes_memory = false }

abbrev pub adds : Bool → CommitRecord → Effect
adds settles c =
    record { answer = done; entry = Some (commit c); settles = settles; halts = false; takes_memory = true }

-- it is refused with this answer, though it may take memory
abbrev pub refused_with : Answer → Effect → Effect
refused_with answer e = record e { answer = answer; entry = None; settles = false }

-- the same, where there is a refusal
abbrev pub unless : Option Answer → Effect → Effect
unless None e = e
unless (Some answer) e = refused_with answer e

-- a commit's text has at most 2^28 bytes
abbrev pub length_refusal : CommitRecord → Option Answer
length_refusal c = if nat_le (length (commit_text c)) (2 ^ 28) then None else Some too_long

-- the commit is done, and made durable where it settles
abbrev pub commits : Bool → CommitRecord → Effect
commits settles c = unless (length_refusal c) (adds settles c)

abbrev pub has_terms : List Tree → Bool
has_terms [] = false
has_terms (term ∷ terms) = true

-- the copies of the terms take memory, and no terms take none
abbrev pub finds : List Tree → Effect
finds terms =
    record { answer = found terms; entry = None; settles = false; halts = false; takes_memory = has_terms terms }

-- ---- refusals

-- what stands for an item where a call has none
abbrev pub no_item : Tree
no_item = list no_trees

-- what the call writes, or the key that it deletes
abbrev pub item_of : Call → Tree
item_of (change (write table row)) = row
item_of (change (delete table key)) = key
item_of (change (delete_object table row)) = row
item_of (change (clear table)) = no_item
item_of (calls.read table key) = key
item_of (match_object table pattern) = pattern
item_of (all_keys table) = no_item

-- what a call of the transaction of this name is answered where it is refused
abbrev pub refusal_answer : List ℕ → Call → Refusal → Answer
refusal_answer name call refusals.no_txn = no_transaction name
refusal_answer name call refusals.txn_exists = exists name
refusal_answer name call refusals.too_many = too_many_transactions
refusal_answer name call refusals.no_table = no_table (table_called call)
refusal_answer name call refusals.bad_record = bad_record (item_of call)
refusal_answer name call refusals.too_many_calls = too_many_calls
refusal_answer name call (refusals.locked by) = locked by

-- only this refusal, where memory may be wanting for what is told
abbrev pub bars : List ℕ → Call → Refusal → Effect
bars name call why = record (refuses (refusal_answer name call why)) { takes_memory = true }

abbrev pub unless_barred : List ℕ → Call → Option Refusal → Effect → Effect
unless_barred name call None e = e
unless_barred name call (Some why) e = bars name call why

-- ---- records

-- the commit that writes a record into a table, and does nothing else
abbrev pub write_of : ℕ → List ℕ → Tree → CommitRecord
write_of version table item = record { version = version; schema_operations = []; operations = write table item ∷ [] }

-- where no pending transaction has a conflicting lock, and else a refusal that takes memory for the holder's name
abbrev pub unless_held : Option (List ℕ) → Effect → Effect
unless_held None e = e
unless_held (Some by) e = record (refuses (locked by)) { takes_memory = true }

-- the first of the pending transactions with a lock that bars this call
abbrev pub holder_for : Call → List Txn → Option (List ℕ)
holder_for call pending = holder (lock_of call) pending

-- into the table of this name, where there is one
abbrev pub put_effect : Option Table → ℕ → List Txn → List ℕ → Tree → Effect
put_effect None version pending name item = refuses (no_table name)
put_effect (Some table) version pending name item =
    if fits table.definition item
    then unless_held (holder_for (change (write name item)) pending) (commits false (write_of version name item))
    else refuses (bad_record item)

abbrev pub get_effect : Option Table → List Txn → List ℕ → Tree → Effect
get_effect None pending name key = refuses (no_table name)
get_effect (Some table) pending name key =
    unless_held (holder_for (calls.read name key) pending) (finds (records_of key table.contents))

-- ---- tables

abbrev pub version_refusal : Database → Option Answer
version_refusal database = if nat_le (2 ^ 64) (database.version + 1) then Some too_many_versions else None

-- a table of the name, a thousand tables, and no next version, in this order
abbrev pub create_refusal : List ℕ → Database → Option Answer
create_refusal name database =
    if is_some (table_in name database.tables) then Some (exists name)
    else (if nat_le 1000 (length database.tables) then Some too_many_tables else version_refusal database)

-- the options were read before, and want of memory then is answered now
abbrev pub create_effect : Database → List ℕ → Result Definition DefErr → Effect
create_effect database name (Ok definition) =
    unless (create_refusal name database) (commits true (create_commit definition database))
create_effect database name (Err BadName) = refuses (bad_name name)
create_effect database name (Err (BadOption place)) = refuses (bad_option place)
create_effect database name (Err Memory) = record (refuses no_memory) { takes_memory = true }

-- no table of the name, a lock on it, and no next version, in this order
abbrev pub delete_effect : Option Table → Database → List Txn → List ℕ → Effect
delete_effect None database pending name = refuses (no_table name)
delete_effect (Some table) database pending name =
    unless_held (holder (whole_table name) pending)
    (unless (version_refusal database) (commits true (delete_commit name database)))

-- the table's name
abbrev pub name_tree : Table → Tree
name_tree table = atom table.definition.name

-- all that options say of a table, and `{size,N}` for its records
abbrev pub options_of : Definition → ℕ → List Tree
options_of definition size = map option_of (settings_of definition) ++ option_shape (codes "size") (int (pos size)) ∷ []

abbrev pub info_of : Table → List Tree
info_of table = options_of table.definition (length table.contents)

abbrev pub info_effect : Option Table → List ℕ → Effect
info_effect None name = refuses (no_table name)
info_effect (Some table) name = finds (info_of table)

-- ---- transactions

-- it takes memory, and nothing is committed
abbrev pub keeps : Answer → Effect
keeps answer = record { answer = answer; entry = None; settles = false; halts = false; takes_memory = true }

abbrev pub begin_effect : List Txn → List ℕ → Effect
begin_effect pending name = unless_barred name (all_keys name) (begin_refusal name pending) (keeps ok)

abbrev pub reply_answer : Reply → Answer
reply_answer calls.done = ok
reply_answer (calls.found terms) = found terms
reply_answer calls.absent = ok

abbrev pub reply_to : Option Txn → Call → List Table → Reply
reply_to None call standing = calls.absent
reply_to (Some txn) call standing = (kept_call call txn standing).reply

abbrev pub ask_effect : Database → List Txn → List ℕ → Call → Effect
ask_effect database pending name call =
    unless_barred name call (call_refusal name call database.tables pending)
    (keeps (reply_answer (reply_to (named name pending) call database.tables)))

-- What a transaction wrote, in order. One that wrote nothing appends nothing.
abbrev pub ops_effect : ℕ → List Operation → Effect
ops_effect version [] = refuses done
ops_effect version (op ∷ ops) =
    commits false record { version = version; schema_operations = []; operations = op ∷ ops }

abbrev pub commit_effect : Database → Option Txn → List ℕ → Effect
commit_effect database None name = refuses (no_transaction name)
commit_effect database (Some txn) name = ops_effect database.version (ops_of (calls_of txn.kept))

abbrev pub abort_effect : Option Txn → List ℕ → Effect
abort_effect None name = refuses (no_transaction name)
abort_effect (Some txn) name = refuses ok

-- ---- the effect of each command, where the durable state and the pending transactions are these

abbrev pub effect : Durable → List Txn → Command → Effect
effect w pending (put name item) =
    put_effect (table_in name w.database.tables) w.database.version pending name item
effect w pending (get name key) = get_effect (table_in name w.database.tables) pending name key
effect w pending (create_table name read) = create_effect w.database name read
effect w pending (delete_table name) =
    delete_effect (table_in name w.database.tables) w.database pending name
effect w pending tables = finds (map name_tree w.database.tables)
effect w pending (table_info name) = info_effect (table_in name w.database.tables) name
effect w pending sync_log =
    record { answer = synced; entry = None; settles = true; halts = false; takes_memory = false }
effect w pending stop = record { answer = stopped; entry = None; settles = true; halts = true; takes_memory = true }
effect w pending (begin name) = begin_effect pending name
effect w pending (ask name call) = ask_effect w.database pending name call
effect w pending (commit_txn name) = commit_effect w.database (named name pending) name
effect w pending (abort name) = abort_effect (named name pending) name

-- ---- what is pending behind it, where it is done

abbrev pub pending_if : Bool → List Txn → List Txn → List Txn
pending_if true new old = new
pending_if false new old = old

abbrev pub is_done : Answer → Bool
is_done done = true
is_done other = false

abbrev pub kept_if : Option Refusal → Option Txn → List ℕ → Call → List Table → List Txn → List Txn
kept_if None (Some txn) name call standing pending = keeping name (kept_call call txn standing) pending
kept_if None None name call standing pending = pending
kept_if (Some why) txn name call standing pending = pending

abbrev pub begun_if : Option Refusal → List ℕ → List Txn → List Txn
begun_if None name pending = begun name pending
begun_if (Some why) name pending = pending

abbrev pub others_if : Option Txn → List ℕ → List Txn → List Txn
others_if None name pending = pending
others_if (Some txn) name pending = others name pending

-- a stop leaves none, and a commit that is refused for its length leaves its transaction
abbrev pub pending_after : Durable → List Txn → Command → List Txn
pending_after w pending (begin name) = begun_if (begin_refusal name pending) name pending
pending_after w pending (ask name call) =
    kept_if (call_refusal name call w.database.tables pending) (named name pending) name call w.database.tables pending
pending_after w pending (commit_txn name) =
    pending_if (is_done (effect w pending (commit_txn name)).answer) (others name pending) pending
pending_after w pending (abort name) = others_if (named name pending) name pending
pending_after w pending stop = []
pending_after w pending other = pending
