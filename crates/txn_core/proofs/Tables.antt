-- The locks for reading of a transaction, table by table.
use Rattle.std.proofs.Common.{◌≡◌, ℕ, Bool, true, false, ◌&&◌, ◌||◌, cond, List, Option, None, Some, is_some, IsSome, refl, ap, ◌∙◌}
use Rattle.std.specs.Ordering.{nat_cmp}
use Rattle.std.specs.Cmp.Lexicographic.{slice_cmp, nat_list_cmp_total}
use Rattle.std.specs.FinMap.{nat_cmp-IsAntisymmetric, slice_cmp-IsAntisymmetric}
use Rattle.std.specs.Map.{lookup}
use Rattle.std.specs.BTreeMap.{insert_entry}
use Rattle.term_core.specs.Tree.{Tree}
use Rattle.db_model.specs.Database.{same_name}
use Rattle.txn_core.specs.Locks.{meet}
use Rattle.txn_core.specs.Held.{bars, Reads, BarAlike, reads_of, bars_at, bars_in, ReadsIn, BarAlikeIn}
use Rattle.txn_core.specs.declared.table_reads.TableReads.{TableReads}
use Rattle.txn_core.specs.declared.read_locks.ReadLocks.{ReadLocks}
use Rattle.txn_core.proofs.Entries.{lookup-inserted}
use Rattle.txn_core.proofs.NameFacts.{one_name, same_name_sym}

or_none : (a : Bool) → a ≡ (a || false)
or_none true = refl
or_none false = refl

-- ---- the first lock of a table

pub first_read : (old new : ReadLocks) (name : List ℕ) (reads : TableReads) (key : Option Tree)
    → new.tables.entries ≡ insert_entry (slice_cmp nat_cmp) old.tables.entries name reads
    → is_some (reads_of name old) ≡ false → ((asked : Option Tree) → bars reads asked ≡ meet asked key) → ReadsIn old new name key
first_read old new name reads key made absent own table asked =
    ap (λ o. bars_at o asked) (ap (lookup (same_name table)) made
    ∙ lookup-inserted (λ n. n) (slice_cmp nat_cmp) nat_list_cmp_total (slice_cmp-IsAntisymmetric nat_cmp-IsAntisymmetric)
    old.tables.entries name reads table)
    ∙ by (same_name table name) (reads_of table old)
    (λ same. ap (λ n. is_some (reads_of n old)) (one_name table name same) ∙ absent)
  where
    by : (b : Bool) (was : Option TableReads) → (b ≡ true → is_some was ≡ false)
        → bars_at (cond b (Some reads) was) asked ≡ (bars_at was asked || (b && meet asked key))
    by true None h = own asked
    by true (Some other) h = (let wrong = h refl in absurd (cc))
    by false was h = or_none (bars_at was asked)

-- ---- one table's locks change

module _ (old new : ReadLocks) (name : List ℕ) (was now : TableReads) (there : Some was ≡ reads_of name old)
    (puts : (table : List ℕ) → reads_of table new ≡ cond (same_name name table) (Some now) (reads_of table old)) where
  were : (table : List ℕ) (asked : Option Tree) → same_name name table ≡ true → bars was asked ≡ bars_in old table asked
  were table asked same = ap (λ o. bars_at o asked) (there ∙ ap (λ n. reads_of n old) (one_name name table same))

  pub reads_at : (key : Option Tree) → Reads was now key → ReadsIn old new name key
  reads_at key more table asked =
      ap (λ o. bars_at o asked) (puts table)
      ∙ by (same_name name table) (same_name table name) refl (same_name_sym name table)
    where
      by : (b c : Bool) → same_name name table ≡ b → b ≡ c
          → bars_at (cond b (Some now) (reads_of table old)) asked ≡ (bars_in old table asked || (c && meet asked key))
      by true true same h = more asked ∙ ap (λ b. b || meet asked key) (were table asked same)
      by true false same h = absurd cc
      by false true same h = absurd cc
      by false false same h = or_none (bars_in old table asked)

  pub alike_at : BarAlike was now → BarAlikeIn old new
  alike_at alike table asked = ap (λ o. bars_at o asked) (puts table) ∙ by (same_name name table) refl
    where
      by : (b : Bool) → same_name name table ≡ b
          → bars_at (cond b (Some now) (reads_of table old)) asked ≡ bars_in old table asked
      by true same = alike asked ∙ were table asked same
      by false same = refl

pub some_there : (o : Option TableReads) (x : TableReads) → Some x ≡ o → IsSome o
some_there None x h = absurd (cc)
some_there (Some y) x h = refl
