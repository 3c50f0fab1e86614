-- Each table that a log's commits make has a name that a table can have.
use Rattle.std.proofs.Common.{◌≡◌, ℕ, Bool, true, false, if◌then◌else◌, List, [], ◌∷◌, Option, Some, None, refl, sym, subst}
use Rattle.std.specs.List.{AllByRecursion}
use Rattle.db_model.specs.Commits.{CommitRecord}
use Rattle.db_model.specs.Database.{Table, is_called}
use Rattle.db_model.specs.Lawful.{table_in}
use Rattle.db_model.specs.Names.{IsTableName}
use Rattle.txn_core.proofs.NameFacts.{one_name}
use Rattle.mn_node.specs.Durable.{made}
use Rattle.mn_node.specs.Meaning.{AreTaken}
use Rattle.mn_node.specs.Shown.{IsNamed}
use Rattle.mn_node.proofs.TakenCommits.{Keeps, made_keeps}

abbrev pub AreNamed : List Table → Type 0
AreNamed = AllByRecursion IsNamed

pub keeps_names : Keeps IsNamed
keeps_names = record {
  made = λ definition is. is.named;
  indexed = λ position table is. is;
  unindexed = λ position table is. is;
  written = λ op table is. is;
}

pub taken_named : (commits : List CommitRecord) → AreTaken commits → AreNamed (made commits).database.tables
taken_named = made_keeps IsNamed keeps_names

pub found_named : (name : List ℕ) (tables : List Table) (table : Table) → AreNamed tables → table_in name tables ≡ Some table
    → IsTableName name
found_named name [] table named is = absurd (cc is)
found_named name (t ∷ ts) table named is = by (found_named name ts table named.1) (is_called name t) refl is
  where
    by : (table_in name ts ≡ Some table → IsTableName name) → (b : Bool) → is_called name t ≡ b
        → (if b then Some t else table_in name ts) ≡ Some table → IsTableName name
    by rest true same is = subst IsTableName (sym (one_name name t.definition.name same)) named.0
    by rest false other is = rest is

-- so what no table can be called stands for none
pub unknown : (name : List ℕ) (tables : List Table) → AreNamed tables → (IsTableName name → table_in name tables ≡ None)
    → table_in name tables ≡ None
unknown name tables named h = by (table_in name tables) refl
  where
    by : (found : Option Table) → table_in name tables ≡ found → table_in name tables ≡ None
    by None is = is
    by (Some table) is = h (found_named name tables table named is)
