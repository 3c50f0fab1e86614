-- What every call owes, whatever it answers.
use Rattle.std.specs.Prelude.{◌≡◌, ◌⊎◌, ℕ, ◌+◌, ◌≤◌, Bool, IsTrue, List, [], Contains}
use Rattle.file_trait.specs.Counts.{Rose}
use Rattle.file_trait.specs.DiskModel.{Past}
use Rattle.file_trait.specs.Touched.{Touches}
use Rattle.txn_log.specs.Logs.{IsLogName}
use Rattle.mn_node.specs.Effects.{Answer, fault, damaged}
use Rattle.mn_node.specs.Shown.{HasLogOf, IsFaulted, IsWhole, IsFew}
use Rattle.mn_node.specs.declared.node.Node.{Node}

-- The count of faults never falls. Where a call failed at a file the count rose, and where the call of the disk that
-- last failed was given names the file is one of them. Where it failed at none the count is as before.
pub record Calls (before now : ℕ) (blamed : List (List ℕ)) (Failed : List ℕ → Type 0) : Type 0 where
  pub later : before ≤ now
  pub rose : (name : List ℕ) → Failed name → Rose before now
  pub blames : (name : List ℕ) → Failed name → (blamed ≡ []) ⊎ Contains blamed name
  pub answered : ((name : List ℕ) → Failed name → ⊥) → now ≡ before

-- what a call of the node owes, over a disk that tells or not, and whatever node and disk stand for
pub record Owes (tells : Bool) (before now : ℕ) (blamed : List (List ℕ)) (past_before past : Past) (old new : Node)
    (answer : Answer) : Type 0 where
  pub calls : Calls before now blamed (λ name. answer ≡ fault name)
  -- a fault brings it down
  pub faulted : (name : List ℕ) → answer ≡ fault name → IsFaulted new.state
  -- only a fault of the disk brings it down for one
  pub down : IsFaulted new.state → IsFaulted old.state ⊎ Rose before now
  -- no files but those of the log
  pub touches : IsTrue tells → Touches IsLogName past_before past
  pub log : IsTrue tells → HasLogOf new.state past
  pub few : (n : ℕ) → IsFew old n → IsFew new (n + 1)
  -- only damage ruins it
  pub whole : ((name : List ℕ) (at : ℕ) → answer ≡ damaged name at → ⊥) → IsWhole new.state
