-- What an op does to one record of a table, by itself, and contents between those before ops and those after them.
use Rattle.std.specs.Prelude.{◌≡◌, Bool, true, false, ◌&&◌, if◌then◌else◌, List, [], ◌∷◌, ◌++◌}
use Rattle.term_core.specs.Tree.{Tree, key_of}
use Rattle.term_core.specs.Order.{same_tree}
use Rattle.db_model.specs.Database.{has_key, has_key_of}
use Rattle.db_model.specs.Ops.{Operation, write, delete, delete_object, clear}
use Rattle.db_model.specs.declared.definition.Kind.{Kind}
use Rattle.db_model.specs.declared.definition.Kind.TheVariants.{Bag}

-- an op leaves the presence of a record, or it makes the record present or absent whatever was there
pub data Effect : Type 0 where
  leaves : Effect
  settles : (present : Bool) → Effect

-- a write takes away the other records of its key
abbrev pub has_one_a_key : Kind → Bool
has_one_a_key Bag = false
has_one_a_key other = true

abbrev pub effect : Kind → Operation → Tree → Effect
effect kind (write table written) row =
    if same_tree row written then settles true
    else if has_one_a_key kind && has_key_of (key_of written) row then settles false
    else leaves
effect kind (delete table key) row = if has_key key row then settles false else leaves
effect kind (delete_object table gone) row = if same_tree gone row then settles false else leaves
effect kind (clear table) row = settles false

abbrev pub act : Effect → Bool → Bool
act leaves present = present
act (settles now) present = now

-- contents by presence: whether each record is there
abbrev pub Rows : Type 0
Rows = Tree → Bool

abbrev pub nothing : Rows
nothing row = false

abbrev pub put : Kind → Operation → Rows → Rows
put kind op rows row = act (effect kind op row) (rows row)

-- one op after another, for any kind of contents
abbrev pub after : {X : Type 0} → (Kind → Operation → X → X) → Kind → List Operation → X → X
after put_one kind [] contents = contents
after put_one kind (op ∷ ops) contents = after put_one kind ops (put_one kind op contents)

-- these ops come first
pub record IsFront (front ops : List Operation) : Type 0 where
  pub rest : List Operation
  pub is : front ++ rest ≡ ops

-- after some front of the ops, done over the first contents, the record is present exactly where it is in these
pub record ReachedAt (kind : Kind) (first : Rows) (ops : List Operation) (rows : Rows) (row : Tree) : Type 0 where
  pub front : List Operation
  pub short : IsFront front ops
  pub is : rows row ≡ after put kind front first row

-- for each record there is such a front; it may differ from record to record
abbrev pub Between : Kind → Rows → List Operation → Rows → Type 0
Between kind first ops rows = (row : Tree) → ReachedAt kind first ops rows row

-- the op is one of these
pub record IsAmong (op : Operation) (ops : List Operation) : Type 0 where
  pub before : List Operation
  pub behind : List Operation
  pub is : before ++ op ∷ behind ≡ ops

-- ---- a table while a dump goes on: previous are the ops of PREVIOUS.LOG on it, latest those of LATEST.LOG

-- all of previous is in these, over the first contents
abbrev pub IsCarried : Kind → Rows → List Operation → List Operation → Rows → Type 0
IsCarried kind first previous latest rows = Between kind (after put kind previous first) latest rows

-- leaving out these ops, which come before the others that are left, changes nothing
abbrev pub AreIdle : Kind → List Operation → List Operation → Rows → Type 0
AreIdle kind gone left rows = (row : Tree) → after put kind left rows row ≡ after put kind (gone ++ left) rows row

-- after all of previous and some front of latest, done over rows, the record is present exactly where it is in the
-- draft
pub record DraftAt (kind : Kind) (rows : Rows) (previous latest : List Operation) (draft : Rows) (row : Tree)
    : Type 0 where
  pub more : List Operation
  pub short : IsFront more latest
  pub is : draft row ≡ after put kind (previous ++ more) rows row

-- for each record, as when a walk that wrote each record as it was found has come to its end
abbrev pub IsDraft : Kind → Rows → List Operation → List Operation → Rows → Type 0
IsDraft kind rows previous latest draft = (row : Tree) → DraftAt kind rows previous latest draft row

-- a draft is right up to its place; upto says which records are not above the place
pub record IsRight (kind : Kind) (rows : Rows) (previous latest : List Operation) (draft : Rows) (upto : Tree → Bool)
    : Type 0 where
  pub below : (row : Tree) → upto row ≡ true → DraftAt kind rows previous latest draft row
  pub above : (row : Tree) → upto row ≡ false → draft row ≡ false
