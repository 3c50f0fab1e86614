-- What the steps of a plan make of records, and the room that they bring.
use Rattle.std.specs.Prelude.{◌≡◌, ℕ, ◌+◌, ◌<◌, ◌≤◌, List, [], ◌∷◌, length}
use Rattle.term_core.specs.Tree.{Tree}
use Rattle.term_core.specs.View.{tree_of}
use Rattle.term_core.specs.declared.term.Term.{Term}
use Rattle.db_model.specs.declared.definition.Kind.{Kind}
use Rattle.db_model.specs.declared.definition.Kind.TheVariants.{Bag}
use Rattle.ram_table.specs.Inside.Rows.{row_key, at, put, without, without_row}
use Rattle.ram_table.specs.Inside.Pages.{room_for}
use Rattle.ram_table.specs.declared.step.Step.{Step}
use Rattle.ram_table.specs.declared.step.Step.TheVariants.{Write, Delete, DeleteObject, Clear}

-- the records after a step
abbrev pub done : Kind → List Term → Step → List Term
done kind rows (Write write) = put kind rows write.row
done kind rows (Delete key) = without rows (tree_of key)
done kind rows (DeleteObject row) = without_row rows row
done kind rows Clear = []

-- the records after the steps, the first of which is done first
abbrev pub all_done : Kind → List Term → List Step → List Term
all_done kind rows [] = rows
all_done kind rows (step ∷ steps) = all_done kind (done kind rows step) steps

-- how many records a key has at most after so many steps
abbrev pub most_of_key : Kind → Tree → List Term → ℕ → ℕ
most_of_key Bag k rows n = length (at k rows) + n
most_of_key other k rows n = 1

-- the step brings room for more records of the key than so many steps before it can leave
abbrev pub HasRoomBehind : Kind → List Term → ℕ → Step → Type 0
HasRoomBehind kind rows n (Write write) = most_of_key kind (row_key write.row) rows n < write.room
HasRoomBehind kind rows n (Delete key) = Unit {0}
HasRoomBehind kind rows n (DeleteObject row) = Unit {0}
HasRoomBehind kind rows n Clear = Unit {0}

-- the step brings room for more records of the key than there are
abbrev pub HasRoom : List Term → Step → Type 0
HasRoom rows (Write write) = length (at (row_key write.row) rows) < write.room
HasRoom rows (Delete key) = Unit {0}
HasRoom rows (DeleteObject row) = Unit {0}
HasRoom rows Clear = Unit {0}

-- each step has room on the records that it comes to
abbrev pub HaveRoom : Kind → List Term → List Step → Type 0
HaveRoom kind rows [] = Unit {0}
HaveRoom kind rows (step ∷ steps) = HasRoom rows step × HaveRoom kind (done kind rows step) steps

-- what holds of a plan's parts: a list without pages, which has room where a table of so many records may lack it
pub record IsPlan (list : List (List Term)) (count steps room : ℕ) : Type 0 where
  pub empty : list ≡ []
  pub roomy : room_for count < room_for (count + steps) → room_for (count + steps) ≤ room
