-- What commands answer, whatever the durable state is.
use Rattle.std.proofs.Common.{◌≡◌, ℕ, ◌+◌, ◌^◌, Bool, true, false, if◌then◌else◌, List, [], ◌∷◌, length, Option, Some, None, is_some, Result, Ok, Err, subst}
use Rattle.std.specs.Prelude.{nat_le, IfSome}
use Rattle.term_core.specs.Tree.{Tree}
use Rattle.db_model.specs.Commits.{CommitRecord}
use Rattle.db_model.specs.Database.{Table, Database, records_of}
use Rattle.db_model.specs.Ops.{Operation, write}
use Rattle.db_model.specs.Definitions.{Definition}
use Rattle.db_model.specs.Lawful.{table_in}
use Rattle.db_model.specs.declared.error.DefErr.{DefErr}
use Rattle.db_model.specs.declared.error.DefErr.TheVariants.{BadName, BadOption, Memory}
use Rattle.schema_txn.specs.Commands.{create_commit, delete_commit}
use Rattle.txn_log.specs.Commits.{commit_text}
use Rattle.mn_node.specs.Durable.{Durable}
use Rattle.txn_core.specs.Calls.{Call, change, read, all_keys, Reply, done, found, absent, ops_of}
use Rattle.txn_core.specs.Locks.{whole_table}
use Rattle.txn_core.specs.Pending.{Txn, calls_of, named, holder}
use Rattle.txn_core.specs.Refusals.{Refusal, no_txn, txn_exists, too_many, fits, begin_refusal, call_refusal}
use Rattle.txn_core.specs.Refusals as refusals
use Rattle.mn_node.specs.Effects.{Command, put, get, create_table, delete_table, tables, table_info, sync_log, stop, begin, ask, commit_txn, abort, Answer, ok, started, damaged, exists, bad_record, too_many_tables, too_many_versions, too_long, Effect, refuses, adds, finds, keeps, unless, unless_held, unless_barred, refusal_answer, holder_for, length_refusal, commits, write_of, put_effect, get_effect, version_refusal, create_refusal, create_effect, delete_effect, info_effect, reply_answer, reply_to, ops_effect, commit_effect, abort_effect, effect}

-- no answer to a start
abbrev pub IsOfCommand : Answer → Type 0
IsOfCommand (started n) = ⊥
IsOfCommand (damaged name at) = ⊥
IsOfCommand other = Unit {0}

abbrev AreOfCommand : Option Answer → Type 0
AreOfCommand refusal = IfSome refusal IsOfCommand

of_unless : (refusal : Option Answer) (e : Effect) → AreOfCommand refusal → IsOfCommand e.answer
    → IsOfCommand (unless refusal e).answer
of_unless None e refused other = other
of_unless (Some answer) e refused other = refused

refusal_if : (b : Bool) (one other : Option Answer) → AreOfCommand one → AreOfCommand other
    → AreOfCommand (if b then one else other)
refusal_if true one other x y = x
refusal_if false one other x y = y

effect_if : (b : Bool) (one other : Effect) → IsOfCommand one.answer → IsOfCommand other.answer
    → IsOfCommand (if b then one else other).answer
effect_if true one other x y = x
effect_if false one other x y = y

of_commits : (settles : Bool) (c : CommitRecord) → IsOfCommand (commits settles c).answer
of_commits settles c =
    of_unless (length_refusal c) (adds settles c)
    (refusal_if (nat_le (length (commit_text c)) (2 ^ 28)) None (Some too_long) tt tt) tt

of_held : (holder : Option (List ℕ)) (e : Effect) → IsOfCommand e.answer → IsOfCommand (unless_held holder e).answer
of_held None e h = h
of_held (Some by) e h = tt

of_put : (found : Option Table) (version : ℕ) (pending : List Txn) (name : List ℕ) (item : Tree)
    → IsOfCommand (put_effect found version pending name item).answer
of_put None version pending name item = tt
of_put (Some table) version pending name item =
    let c : CommitRecord = write_of version name item in
    let e : Effect = unless_held (holder_for (change (write name item)) pending) (commits false c) in
    effect_if (fits table.definition item) e (refuses (bad_record item))
    (of_held (holder_for (change (write name item)) pending) (commits false c) (of_commits false c)) tt

of_get : (found : Option Table) (pending : List Txn) (name : List ℕ) (key : Tree) → IsOfCommand (get_effect found pending name key).answer
of_get None pending name key = tt
of_get (Some table) pending name key = of_held (holder_for (read name key) pending) (finds (records_of key table.contents)) tt

of_versions : (database : Database) → AreOfCommand (version_refusal database)
of_versions database = refusal_if (nat_le (2 ^ 64) (database.version + 1)) (Some too_many_versions) None tt tt

of_create : (database : Database) (name : List ℕ) (read : Result Definition DefErr) → IsOfCommand (create_effect database name read).answer
of_create database name (Ok definition) =
    of_unless (create_refusal name database) (commits true (create_commit definition database))
    (refusal_if (is_some (table_in name database.tables)) (Some (exists name)) _ tt
    (refusal_if (nat_le 1000 (length database.tables)) (Some too_many_tables) (version_refusal database) tt (of_versions database)))
    (of_commits true (create_commit definition database))
of_create database name (Err BadName) = tt
of_create database name (Err (BadOption place)) = tt
of_create database name (Err Memory) = tt

of_delete : (found : Option Table) (database : Database) (pending : List Txn) (name : List ℕ)
    → IsOfCommand (delete_effect found database pending name).answer
of_delete None database pending name = tt
of_delete (Some table) database pending name =
    let e : Effect = commits true (delete_commit name database) in
    of_held (holder (whole_table name) pending) (unless (version_refusal database) e)
    (of_unless (version_refusal database) e (of_versions database) (of_commits true (delete_commit name database)))

of_info : (found : Option Table) (name : List ℕ) → IsOfCommand (info_effect found name).answer
of_info None name = tt
of_info (Some table) name = tt

-- ---- transactions

of_refusal : (name : List ℕ) (call : Call) (why : Refusal) → IsOfCommand (refusal_answer name call why)
of_refusal name call no_txn = tt
of_refusal name call txn_exists = tt
of_refusal name call too_many = tt
of_refusal name call refusals.no_table = tt
of_refusal name call refusals.bad_record = tt
of_refusal name call refusals.too_many_calls = tt
of_refusal name call (refusals.locked by) = tt

of_barred : (name : List ℕ) (call : Call) (why : Option Refusal) (e : Effect) → IsOfCommand e.answer
    → IsOfCommand (unless_barred name call why e).answer
of_barred name call None e h = h
of_barred name call (Some why) e h = of_refusal name call why

of_reply : (reply : Reply) → IsOfCommand (reply_answer reply)
of_reply done = tt
of_reply (found terms) = tt
of_reply absent = tt

of_ops : (version : ℕ) (ops : List Operation) → IsOfCommand (ops_effect version ops).answer
of_ops version [] = tt
of_ops version (op ∷ ops) = of_commits false record { version = version; schema_operations = []; operations = op ∷ ops }

of_commit : (database : Database) (txn : Option Txn) (name : List ℕ) → IsOfCommand (commit_effect database txn name).answer
of_commit database None name = tt
of_commit database (Some txn) name = of_ops database.version (ops_of (calls_of txn.kept))

of_abort : (txn : Option Txn) (name : List ℕ) → IsOfCommand (abort_effect txn name).answer
of_abort None name = tt
of_abort (Some txn) name = tt

of_command : (w : Durable) (pending : List Txn) (c : Command) → IsOfCommand (effect w pending c).answer
of_command w pending (put name item) = of_put (table_in name w.database.tables) w.database.version pending name item
of_command w pending (get name key) = of_get (table_in name w.database.tables) pending name key
of_command w pending (create_table name options) = of_create w.database name options
of_command w pending (delete_table name) = of_delete (table_in name w.database.tables) w.database pending name
of_command w pending tables = tt
of_command w pending (table_info name) = of_info (table_in name w.database.tables) name
of_command w pending sync_log = tt
of_command w pending stop = tt
of_command w pending (begin name) = of_barred name (all_keys name) (begin_refusal name pending) (keeps ok) tt
of_command w pending (ask name call) =
    let reply : Reply = reply_to (named name pending) call w.database.tables in
    of_barred name call (call_refusal name call w.database.tables pending) (keeps (reply_answer reply)) (of_reply reply)
of_command w pending (commit_txn name) = of_commit w.database (named name pending) name
of_command w pending (abort name) = of_abort (named name pending) name

-- no command is answered as a start
pub starts_none : (w : Durable) (pending : List Txn) (c : Command) (n : ℕ) → (effect w pending c).answer ≡ started n → ⊥
starts_none w pending c n is = subst IsOfCommand is (of_command w pending c)

-- no command finds damage
pub answers_undamaged : (w : Durable) (pending : List Txn) (c : Command) (name : List ℕ) (at : ℕ)
    → (effect w pending c).answer ≡ damaged name at → ⊥
answers_undamaged w pending c name at is = subst IsOfCommand is (of_command w pending c)
