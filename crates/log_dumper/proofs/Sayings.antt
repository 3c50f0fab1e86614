-- What the files say after a step on some of them.
use Rattle.std.proofs.Common.{◌≡◌, inr, inl, ℕ, Bool, true, false, if◌then◌else◌, List, [], ◌∷◌, ◌++◌, Option, Some, refl}
use Rattle.std.specs.List.{AllZip, AllByRecursion}
use Rattle.file_trait.specs.DiskModel.{Past, Crashes}
use Rattle.file_trait.specs.Moments.{Moments}
use Rattle.file_trait.proofs.Moments.{weaker}
use Rattle.db_model.specs.Commits.{CommitRecord}
use Rattle.db_model.specs.Database.{same_name}
use Rattle.db_model.specs.Definitions.{Definition}
use Rattle.db_model.specs.Ops.{Operation}
use Rattle.dump_laws.specs.Contents.{IsKeyed}
use Rattle.dump_laws.specs.Order.{First}
use Rattle.txn_log.specs.TwoLogs.{commits_of}
use Rattle.store_files.specs.Forms.{AreItemsOf}
use Rattle.store_files.specs.Pairs.{Changes, TableFiles}
use Rattle.store_files.specs.Tables.{IsChange}
use Rattle.log_dumper.specs.Directory.{Files, Logs, State, with_logs, with_schema, with_files, DirectoryHas, HasOne}
use Rattle.log_dumper.specs.Ordered.{IsOrdered, Recovers, RecoversOne, AreOrdered}
use Rattle.log_dumper.specs.Says.{changes_form, SaysSchema, SaysChanges, SaysTable, Says}
use Rattle.log_dumper.specs.Stored.{StoredOps, StoredTable, Stored, with_op, with_table}
use Rattle.log_dumper.proofs.LogSteps.{image_stands}
use Rattle.log_dumper.proofs.SaidImages.{image_said}

pub table_says : (s : State) (stored : Stored) (name : List ℕ) (files : TableFiles) (table : StoredTable) → Says s stored
    → SaysTable files table → Says (with_files name files s) (with_table name table stored)
table_says s stored name files table says own = record {
  schema = says.schema;
  before = says.before;
  after = says.after;
  synced = says.synced;
  tables = λ other valid. go other (same_name name other) (says.tables other valid);
}
  where
    go : (other : List ℕ) (b : Bool) → SaysTable (s.tables other) (stored.tables other)
        → SaysTable (if b then files else s.tables other) (if b then table else stored.tables other)
    go other true h = own
    go other false h = h

pub logs_say : (s : State) (stored : Stored) (logs : Logs) (before after : List CommitRecord) → Says s stored
    → commits_of logs.before ≡ before → logs.after ≡ after
    → Says (with_logs logs s) (record stored { before = before; after = after; synced = logs.synced })
logs_say s stored logs before after says first second =
    record { schema = says.schema; before = first; after = second; synced = refl; tables = says.tables }

pub schema_says : (s : State) (stored : Stored) (items : Option (List (List ℕ))) (version : ℕ) (definitions : List Definition)
    → Says s stored → SaysSchema items version definitions
    → Says (with_schema items s) (record stored { version = version; definitions = definitions })
schema_says s stored items version definitions says own =
    record { schema = own; before = says.before; after = says.after; synced = says.synced; tables = says.tables }

-- one op more

zip_push : {A B : Type 0} (R : A → B → Type 0) (xs : List A) (ys : List B) (x : A) (y : B) → AllZip R xs ys → R x y
    → AllZip R (xs ++ x ∷ []) (ys ++ y ∷ [])
zip_push R [] [] x y h r = (r, tt)
zip_push R [] (b ∷ ys) x y h r = absurd h
zip_push R (a ∷ xs) [] x y h r = absurd h
zip_push R (a ∷ xs) (b ∷ ys) x y h r = (h.0, zip_push R xs ys x y h.1 r)

all_push : {X : Type 0} (P : X → Type 0) (xs : List X) (x : X) → AllByRecursion P xs → P x → AllByRecursion P (xs ++ x ∷ [])
all_push P [] x h one = (one, tt)
all_push P (y ∷ xs) x h one = (h.0, all_push P xs x h.1 one)

items_push : (cookie : ℕ) (ops : List Operation) (op : Operation) (items : List (List ℕ)) (item : List ℕ)
    → AreItemsOf changes_form cookie ops items → IsChange item op → IsKeyed op
    → AreItemsOf changes_form cookie (ops ++ op ∷ []) (items ++ item ∷ [])
items_push cookie ops op [] item never says keyed = absurd never
items_push cookie ops op (first ∷ contents) item (head, texts, all) says keyed =
    (head, zip_push changes_form.Says contents ops item op texts says, all_push IsKeyed ops op all keyed)

pub op_says : (file : Changes) (changes : StoredOps) (item : List ℕ) (op : Operation) → SaysChanges (Some file) (Some changes)
    → IsChange item op → IsKeyed op
    → SaysChanges (Some (record file { items = file.items ++ item ∷ [] })) (Some (with_op op changes))
op_says file changes item op says change keyed =
    (items_push changes.cookie changes.ops op file.items item says.0 change keyed, says.1)

-- an image of what is said stands on the first database

pub recovered : (first : First) (s : State) (stored : Stored) (image : Files) → Says s stored → IsOrdered first stored
    → DirectoryHas s image → Recovers first stored image
recovered first s stored image says o has =
    let (directory, of, is) = image_said s stored image says has in
    record { directory = directory; has = is; of = of; stands = image_stands first stored o directory of }

one_recovered : (states : List State) (ones : List (First × Stored)) (image : Files) → AreOrdered states ones → HasOne states image
    → RecoversOne ones image
one_recovered [] [] image are never = never
one_recovered [] (one ∷ ones) image never has = absurd never
one_recovered (s ∷ states) [] image never has = absurd never
one_recovered (s ∷ states) (one ∷ ones) image are (inl has) = inl (recovered one.0 s one.1 image are.0.0 are.0.1 has)
one_recovered (s ∷ states) (one ∷ ones) image are (inr has) = inr (one_recovered states ones image are.1 has)

-- at each moment of a step
pub step_recovered : (states : List State) (ones : List (First × Stored)) (old new : Past) → AreOrdered states ones
    → Moments (Crashes (HasOne states)) old new → Moments (Crashes (RecoversOne ones)) old new
step_recovered states ones old new are h =
    weaker (Crashes (HasOne states)) (Crashes (RecoversOne ones)) old new
    (λ past moment image w. one_recovered states ones image are (moment image w)) h
