-- The lines of the answers.
use Rattle.std.specs.Prelude.{ℕ, pos, List, [], ◌∷◌, ◌++◌, codes, Option, Some, None}
use Rattle.term_core.specs.Tree.{Tree, int, atom, tuple, list, no_trees, tree}
use Rattle.term_core.specs.View.{trees_of}
use Rattle.term_text.specs.Printing.{printed}
use Rattle.mn_node.specs.Effects.{Answer, started, done, ok, found, synced, stopped, no_table, exists, bad_record, bad_name, bad_option, no_transaction, locked, too_many_tables, too_many_versions, too_long, too_many_transactions, too_many_calls, bad_line, silent, is_down, is_up, no_memory, fault, damaged}

-- `{name,value}`
abbrev pub tagged : List ℕ → Tree → Tree
tagged name value = tuple (tree (atom name) (tree value no_trees))

-- `{error,{file,Name}}`
abbrev pub file_error : List ℕ → Tree
file_error name = tagged (codes "error") (tagged (codes "file") (atom name))

-- `{aborted,{Word,Value}}`
abbrev pub refusal : List ℕ → Tree → Tree
refusal word value = tagged (codes "aborted") (tagged word value)

-- the term of an answer; a turn has none, and damage has none and ends the run
abbrev pub reply_of : Answer → Option Tree
reply_of (started n) = Some (tagged (codes "started") (int (pos n)))
reply_of done = Some (tagged (codes "atomic") (atom (codes "ok")))
reply_of ok = Some (atom (codes "ok"))
reply_of (found terms) = Some (list (trees_of terms))
reply_of synced = Some (atom (codes "ok"))
reply_of stopped = Some (atom (codes "stopped"))
reply_of (no_table name) = Some (refusal (codes "no_exists") (atom name))
reply_of (exists name) = Some (refusal (codes "already_exists") (atom name))
reply_of (bad_record item) = Some (refusal (codes "bad_type") item)
reply_of (bad_name name) = Some (refusal (codes "bad_name") (atom name))
reply_of (bad_option place) = Some (refusal (codes "bad_option") (int (pos place)))
reply_of (no_transaction name) = Some (refusal (codes "no_transaction") (atom name))
reply_of (locked by) = Some (refusal (codes "locked") (atom by))
reply_of too_many_tables = Some (refusal (codes "limit") (atom (codes "tables")))
reply_of too_many_versions = Some (refusal (codes "limit") (atom (codes "versions")))
reply_of too_long = Some (refusal (codes "limit") (atom (codes "commit")))
reply_of too_many_transactions = Some (refusal (codes "limit") (atom (codes "transactions")))
reply_of too_many_calls = Some (refusal (codes "limit") (atom (codes "calls")))
reply_of (bad_line at) = Some (tagged (codes "badarg") (int (pos at)))
reply_of silent = None
reply_of is_down = Some (tagged (codes "error") (atom (codes "down")))
reply_of is_up = Some (tagged (codes "error") (atom (codes "up")))
reply_of no_memory = Some (tagged (codes "error") (atom (codes "memory")))
reply_of (fault name) = Some (file_error name)
reply_of (damaged name at) = None

-- a term as it is printed, and a newline
abbrev pub line_of_reply : Option Tree → List ℕ
line_of_reply (Some t) = printed t ++ 10 ∷ []
line_of_reply None = []

-- the line of an answer
abbrev pub text_of : Answer → List ℕ
text_of answer = line_of_reply (reply_of answer)
