-- What a start does.
use Rattle.std.specs.Prelude.{◌≡◌, ℕ, List, slice_get, Some}
use Rattle.db_model.specs.Commits.{CommitRecord}
use Rattle.db_model.specs.Database.{Database}
use Rattle.db_model.specs.Taken.{CanTake, taken}
use Rattle.txn_log.specs.Commits.{IsCommit, AreItemsOf}
use Rattle.txn_log.specs.Logs.{Reads}
use Rattle.mn_node.specs.Durable.{made}
use Rattle.mn_node.specs.Effects.{Answer, no_memory, fault, damaged}
use Rattle.mn_node.specs.Meaning.{Files, latest, AreTaken}
use Rattle.mn_node.specs.declared.node.Node.{Node}
use Rattle.mn_node.specs.declared.node.State.TheVariants.{Up, Faulted, Starved, Ruined}
use Rattle.mn_node.specs.declared.open.Open.{Open}
use Rattle.mn_node.specs.declared.starting.StartErr.{StartErr}
use Rattle.mn_node.specs.declared.starting.StartErr.TheVariants as start

-- the items are a log's, and the database is what its commits make
pub record Makes (items : List (List ℕ)) (database : Database) : Type 0 where
  pub commits : List CommitRecord
  pub taken : AreTaken commits
  pub are : AreItemsOf commits items
  pub same : database ≡ (made commits).database

-- the same of what a directory has
pub record Loads (files : Files) (database : Database) : Type 0 where
  pub commits : List CommitRecord
  pub taken : AreTaken commits
  pub reads : Reads commits (files latest)
  pub same : database ≡ (made commits).database

-- item number n is a text of a commit that a start takes of the database before, which is then this one
pub record TakesAt (items : List (List ℕ)) (n : ℕ) (before now : Database) : Type 0 where
  pub content : List ℕ
  pub found : slice_get items n ≡ Some content
  pub commit : CommitRecord
  pub text : IsCommit content commit
  pub can : CanTake commit before
  pub is : now ≡ taken commit before

-- item number n is a text of no commit that a start can take there
pub record CannotTakeAt (items : List (List ℕ)) (n : ℕ) (before : Database) : Type 0 where
  pub content : List ℕ
  pub found : slice_get items n ≡ Some content
  pub none : (commit : CommitRecord) → IsCommit content commit → CanTake commit before → ⊥

-- what a start fails with on a directory that has no meaning from this place on
abbrev pub FailsBroken : ℕ → StartErr → Type 0
FailsBroken at (start.Damaged name place) = (name ≡ latest) × (place ≡ at)
FailsBroken at other = Unit {0}

-- what is answered where a start failed, and what the node is then
abbrev pub start_answer : StartErr → Answer
start_answer (start.File name) = fault name
start_answer start.Memory = no_memory
start_answer (start.Damaged name at) = damaged name at

abbrev pub down_node : Node → StartErr → Node
down_node old (start.File name) = record old { state = Faulted }
down_node old start.Memory = record old { state = Starved }
down_node old (start.Damaged name at) = record old { state = Ruined }

abbrev pub up_node : Open → Node
up_node live = record { state = Up live; base = Some live.log.commits; entries = 0; synced = 0 }
