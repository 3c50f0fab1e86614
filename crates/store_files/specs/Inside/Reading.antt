-- What comes of reading the items of a file.
use Rattle.std.specs.Prelude.{◌≡◌, ℕ, List, [], ◌∷◌, ◌++◌, Option, None, Some, Result, Ok, Err}
use Rattle.term_core.specs.View.{tree_of}
use Rattle.term_core.specs.declared.term.Term.{Term}
use Rattle.disk_logs.specs.declared.error.LogErr.{LogErr}
use Rattle.disk_logs.specs.declared.error.LogErr.TheVariants.{File, Bad, TooLong, Memory}
use Rattle.db_model.specs.Database.{Contents}
use Rattle.db_model.specs.Definitions.{Definition}
use Rattle.db_model.specs.Ops.{Operation}
use Rattle.ram_table.specs.Contents.{put_ops}
use Rattle.store_files.specs.Forms.{Form, AreItemsOf, IsWrongAt}
use Rattle.store_files.specs.Tables.{dcl_form}

-- the items say what the value has, or the first that should not be there is named; memory may be wanting
abbrev pub HasItemsRead : {X V : Type 0} → Form X → ℕ → List ℕ → (V → List X) → Result V LogErr → List (List ℕ)
    → Type 0
HasItemsRead form number name view (Ok value) items = AreItemsOf form number (view value) items
HasItemsRead form number name view (Err (Bad other at)) items = (other ≡ name) × IsWrongAt form items at
HasItemsRead form number name view (Err TooLong) items = ⊥
HasItemsRead form number name view (Err (File other)) items = ⊥
HasItemsRead form number name view (Err Memory) items = Unit {0}

-- the last of some things
pub record HasLast {X : Type 0} (xs : List X) (last : X) : Type 0 where
  pub front : List X
  pub is : xs ≡ front ++ last ∷ []

-- the last record, where there are some
abbrev pub IsLast : Contents → Option Term → Type 0
IsLast rows None = rows ≡ []
IsLast rows (Some last) = HasLast rows (tree_of last)

-- the items say ops, which were done on these rows, or the first that should not be there is named
abbrev pub HasOpsDone : {V : Type 0} → Definition → List ℕ → Contents → Contents → Result V LogErr → List (List ℕ)
    → Type 0
HasOpsDone table name rows after (Ok value) items = (ops : List Operation)
    × AreItemsOf (dcl_form table) table.cookie ops items × (after ≡ put_ops table.kind ops rows)
HasOpsDone table name rows after (Err (Bad other at)) items = (other ≡ name) × IsWrongAt (dcl_form table) items at
HasOpsDone table name rows after (Err TooLong) items = ⊥
HasOpsDone table name rows after (Err (File other)) items = ⊥
HasOpsDone table name rows after (Err Memory) items = Unit {0}
