-- What a caller cites of the log's file.
use Rattle.std.proofs.Common.{◌≡◌, ◌⊎◌, ℕ, ◌+◌, ◌≤◌, List, [], ◌∷◌, ◌++◌, length, take, Option, Some, Result, refl, inl, inr}
use Rattle.std.specs.Prelude.{slice_get}
use Rattle.term_core.specs.Tree.{depth, greatest_depth}
use Rattle.file_trait.specs.DiskModel.{Past}
use Rattle.file_trait.specs.Touched.{Touches}
use Rattle.file_trait.specs.declared.disk.Disk.{Ghosts}
use Rattle.log_items.specs.Items.{wire}
use Rattle.disk_logs.specs.Calls.{LogCalls}
use Rattle.disk_logs.specs.declared.error.LogErr.{LogErr}
use Rattle.disk_logs.specs.Logs.{FileRead, IsRead}
use Rattle.db_model.specs.Commits.{CommitRecord}
use Rattle.txn_log.specs.Commits.{IsLogged, IsCommit, IsNoCommit, AreItemsOf, commit_tree, op_trees}
use Rattle.txn_log.specs.Logs.{latest, LogState, Reads, TxnStands, IsOther, IsWrongAt, IsWrong, IsNoLog, IsLogName, IsOwn}
use Rattle.txn_log.proofs.Acts.{touches_more, own_log, wider_calls}
use Rattle.txn_log.proofs.CommitLists.{AllowsFirst, TellsNext, log_not_wrong, items_are, reads_as, wrong_read}
use Rattle.txn_log.proofs.CommitsRead.{same_content}
use Rattle.txn_log.proofs.Counts.{wrong_from, items_more}
use Rattle.txn_log.proofs.Decided.{commit_decided, file_decided}
use Rattle.txn_log.proofs.Levels.{commit_depth, read_depth}
use Rattle.txn_log.proofs.OneLog.{one_list_read, one_bad}

-- ---- an item

-- it is a text of one commit at most
pub one_commit : (content : List ℕ) (commit other : CommitRecord)
    → IsCommit content commit → IsCommit content other → commit ≡ other
one_commit = same_content

-- it is a text of a commit, or of none
pub commit_or_not : (content : List ℕ) → ((commit : CommitRecord) × IsCommit content commit) ⊎ IsNoCommit content
commit_or_not = commit_decided

-- what is written of a commit is not too deep where its ops are not
pub written_levels : (commit : CommitRecord) → IsLogged commit → greatest_depth (op_trees commit.operations) ≤ 126
    → depth (commit_tree commit) ≤ 128
written_levels = commit_depth

-- nor where the commit was read
pub read_levels : (content : List ℕ) (commit : CommitRecord) → IsCommit content commit → depth (commit_tree commit) ≤ 128
read_levels = read_depth

-- ---- a file

-- it has one list of commits at most
pub one_list_of_commits : (file : Option (List ℕ)) (commits more : List CommitRecord)
    → Reads commits file → Reads more file → commits ≡ more
one_list_of_commits = one_list_read

-- a log of allowed commits is wrong nowhere
pub reads_not_wrong : (Allowed : List CommitRecord → Type 0) → AllowsFirst Allowed → (file : Option (List ℕ))
    (commits : List CommitRecord) (at : ℕ) → Reads commits file → Allowed commits → IsWrong Allowed at file → ⊥
reads_not_wrong = log_not_wrong

-- it has one first wrong place at most
pub one_wrong_place : (Allowed : List CommitRecord → Type 0) → AllowsFirst Allowed → (file : Option (List ℕ))
    (at other : ℕ) → IsWrong Allowed at file → IsWrong Allowed other file → at ≡ other
one_wrong_place = one_bad

-- where what is allowed next can be told, it is a log of allowed commits or has a first wrong place
pub log_or_wrong : (Allowed : List CommitRecord → Type 0) → TellsNext Allowed → Allowed [] → (file : Option (List ℕ))
    → ((commits : List CommitRecord) × Reads commits file × Allowed commits) ⊎ ((at : ℕ) × IsWrong Allowed at file)
log_or_wrong = file_decided

-- what does not begin as a log is wrong, whatever is allowed
pub no_log_is_wrong : (Allowed : List CommitRecord → Type 0) (at : ℕ) (file : Option (List ℕ))
    → IsNoLog at file → IsWrong Allowed at file
no_log_is_wrong Allowed at file (bytes, there, inl bad) = (bytes, there, inl bad)
no_log_is_wrong Allowed at file (bytes, there, inr (items, listed, lacks, place)) =
    (bytes, there, inr (items, listed, record { number = 0; wrong = inl (refl, lacks); place = place }))

-- ---- its items, one after another

-- one more commit
pub one_commit_more : (items : List (List ℕ)) (commits : List CommitRecord) (n : ℕ)
    (content : List ℕ) (commit : CommitRecord)
    → AreItemsOf commits (take n items) → slice_get items n ≡ Some content → IsCommit content commit
    → AreItemsOf (commits ++ commit ∷ []) (take (n + 1) items)
one_commit_more items commits n content commit are found one = items_more items commits n content are found commit one

-- behind allowed commits, what is none is the first wrong place
pub wrong_behind : (Allowed : List CommitRecord → Type 0) (items : List (List ℕ)) (commits : List CommitRecord)
    (n : ℕ) (content : List ℕ) (at : ℕ)
    → AreItemsOf commits (take n items) → Allowed commits
    → slice_get items n ≡ Some content → IsOther Allowed commits content
    → at ≡ 8 + length (wire (take n items)) → IsWrongAt Allowed items at
wrong_behind Allowed items commits n content at are allowed found other place =
    wrong_from items commits n content are found Allowed at allowed other place

-- ---- a file that was read

-- it reads as the commits of its items
pub reads_of_items : (read : FileRead) (file : Option (List ℕ)) (commits : List CommitRecord)
    → IsRead read → file ≡ Some read.bytes → AreItemsOf commits read.items → Reads commits file
reads_of_items = reads_as

-- and its items are those of the commits that it reads as
pub items_of_reads : (read : FileRead) (file : Option (List ℕ)) (commits : List CommitRecord)
    → IsRead read → file ≡ Some read.bytes → Reads commits file → AreItemsOf commits read.items
items_of_reads = items_are

-- a wrong place among its items is the file's
pub wrong_of_items : (Allowed : List CommitRecord → Type 0) (read : FileRead) (file : Option (List ℕ)) (at : ℕ)
    → IsRead read → file ≡ Some read.bytes → IsWrongAt Allowed read.items at → IsWrong Allowed at file
wrong_of_items = wrong_read

-- ---- the names that a call touches

pub touches_own : (log : LogState) (old new : Past) → Touches (IsOwn log) old new → Touches IsLogName old new
touches_own log old new = touches_more (IsOwn log) IsLogName old new (own_log log)

pub own_calls : {D T : Type 0} {Only : Result T LogErr → Type 0} (g : Ghosts D) (old new : D) (log : LogState) (r : Result T LogErr)
    → LogCalls g old new (λ n. n ≡ latest) Only r → LogCalls g old new (IsOwn log) Only r
own_calls {Only = Only} g old new log r = wider_calls g old new (IsOwn log) Only r (λ name is. inl is) (λ only. only)

-- a log that stands waits for no file
pub own_latest : (past : Past) (log : LogState) (commits : List CommitRecord) (synced : ℕ) → TxnStands past log commits synced
    → (name : List ℕ) → IsOwn log name → name ≡ latest
own_latest past log commits synced h name (inl is) = is
own_latest past log commits synced h name (inr (waits, is)) = absurd (cc (h.made, waits))
