-- What the locks for reading in code stand for: which locks for writing conflict with one of them.
use Rattle.std.specs.Prelude.{◌≡◌, ℕ, Bool, true, false, ◌&&◌, ◌||◌, List, Option, None, Some}
use Rattle.std.specs.List.{list_any}
use Rattle.std.specs.Map.{lookup}
use Rattle.term_core.specs.Tree.{Tree}
use Rattle.term_core.specs.Order.{same_tree}
use Rattle.term_core.specs.View.{tree_of}
use Rattle.db_model.specs.Database.{same_name}
use Rattle.txn_core.specs.Locks.{meet}
use Rattle.txn_core.specs.declared.table_reads.TableReads.{TableReads}
use Rattle.txn_core.specs.declared.read_locks.ReadLocks.{ReadLocks}

-- ---- of one table

-- the key is locked by itself
abbrev pub is_read : Tree → TableReads → Bool
is_read key reads = list_any (λ own. same_tree key (tree_of own)) reads.keys.keys

-- A lock for writing on this key conflicts with one of those held. One on all of the table does, since one at least is
-- held.
abbrev pub bars : TableReads → Option Tree → Bool
bars reads None = true
bars reads (Some key) = reads.whole || is_read key reads

-- one lock more is held, on this key or on all of the table
abbrev pub Reads : TableReads → TableReads → Option Tree → Type 0
Reads old new key = (asked : Option Tree) → bars new asked ≡ (bars old asked || meet asked key)

-- the same locks are held
abbrev pub BarAlike : TableReads → TableReads → Type 0
BarAlike old new = (asked : Option Tree) → bars new asked ≡ bars old asked

-- ---- of all tables

abbrev pub reads_of : List ℕ → ReadLocks → Option TableReads
reads_of name locks = lookup (same_name name) locks.tables.entries

abbrev pub bars_at : Option TableReads → Option Tree → Bool
bars_at None key = false
bars_at (Some reads) key = bars reads key

-- A lock for writing on this key, or on all of the table, conflicts with one of those held.
abbrev pub bars_in : ReadLocks → List ℕ → Option Tree → Bool
bars_in locks name key = bars_at (reads_of name locks) key

abbrev pub ReadsIn : ReadLocks → ReadLocks → List ℕ → Option Tree → Type 0
ReadsIn old new name key = (table : List ℕ) (asked : Option Tree)
    → bars_in new table asked ≡ (bars_in old table asked || (same_name table name && meet asked key))

abbrev pub BarAlikeIn : ReadLocks → ReadLocks → Type 0
BarAlikeIn old new = (table : List ℕ) (asked : Option Tree) → bars_in new table asked ≡ bars_in old table asked
