-- How a log stands on a disk, and what a crash may leave of it.
use Rattle.std.specs.Prelude.{◌≡◌, ◌⊎◌, ℕ, ◌≤◌, Bool, true, false, List, length, take, Option, Some}
use Rattle.file_trait.specs.DiskModel.{Past, did, to_dir, rename, sync_dir, FileId, named, content, reads, FileLeaves, DirLeaves, IsSure, Stood, IsImage, Crashes}
use Rattle.file_trait.specs.Calls.{IsSureOf}
use Rattle.file_trait.specs.Guard.{IsGuarded, StandsAt}
use Rattle.file_trait.specs.Shown.{ReadsAs}
use Rattle.disk_logs.specs.Logs.{Handle}
use Rattle.log_items.specs.Items.{log_bytes, AreContents, StartsWith, HasItems}

-- the file's items are the first ones of these, and at least so many
abbrev pub HasPrefix : List (List ℕ) → ℕ → List ℕ → Type 0
HasPrefix items least bytes = (n : ℕ) × (least ≤ n) × (n ≤ length items) × HasItems bytes (take n items)

-- What is left of a log's file, whatever stands behind it: of an open log its synced items stand in front, and of a closed one all
-- items, and nothing else, under either mark.
abbrev pub KeepsSynced : Bool → List (List ℕ) → ℕ → List ℕ → Type 0
KeepsSynced false items synced bytes = StartsWith (log_bytes false (take synced items)) bytes
KeepsSynced true items synced bytes = (mark : Bool) × (bytes ≡ log_bytes mark items)

-- all items that ever stood in the file stand there now
abbrev pub OnlyGrew : Past → FileId → Type 0
OnlyGrew past i = (n : ℕ) (item : List ℕ) → 8 ≤ n → IsGuarded item → Stood past i n item → StandsAt (content past i) n item

-- The file reads as these items under this mark. Whatever a crash leaves, the name stands for that file, and so many items are synced.
pub record LogStands (past : Past) (name : List ℕ) (closed : Bool) (items : List (List ℕ)) (synced : ℕ) : Type 0 where
  pub fit : AreContents items
  pub read : reads past name ≡ Some (log_bytes closed items)
  pub within : synced ≤ length items
  pub file : FileId
  pub settled : (names : List ℕ → Option FileId) → DirLeaves past names → names name ≡ Some file
  pub grew : OnlyGrew past file
  pub each : (bytes : List ℕ) → FileLeaves past file bytes → KeepsSynced closed items synced bytes

-- A published log stands so, and while it is open its next sync, if it is answered well, makes all of it durable.
pub record Stands (past : Past) (log : Handle) (items : List (List ℕ)) (synced : ℕ) : Type 0 where
  pub published : log.draft ≡ false
  pub stands : LogStands past log.name log.closed items synced
  pub sure : log.closed ≡ false → IsSureOf past log.name

-- A file that a log is being written to: it reads as these bytes, it was made for them, and its next sync, if it is answered well,
-- makes all of it durable.
pub record DraftStands (past : Past) (draft whole : List ℕ) : Type 0 where
  pub file : FileId
  pub is : named past draft ≡ Some file
  pub bytes : content past file ≡ whole
  pub sure : IsSure past file
  pub grew : OnlyGrew past file

-- Where the file reads as a closed log, a crash leaves of it all its items, and nothing else, under either mark. So a closed log is
-- trusted as it is.
abbrev pub IsSound : Past → List ℕ → Type 0
IsSound past name = (i : FileId) (items : List (List ℕ)) → named past name ≡ Some i → AreContents items → content past i ≡ log_bytes true items
    → OnlyGrew past i × ((bytes : List ℕ) → FileLeaves past i bytes → KeepsSynced true items (length items) bytes)

-- whatever a crash leaves now, the log has the first ones of these items, and at least so many
abbrev pub LogLeaves : List ℕ → List (List ℕ) → ℕ → Past → Type 0
LogLeaves name items synced = Crashes (ReadsAs name (HasPrefix items synced))

-- the same, and a closed log of the name may be trusted
abbrev pub IsSafe : List ℕ → List (List ℕ) → ℕ → Past → Type 0
IsSafe name items synced past = LogLeaves name items synced past × IsSound past name

-- whatever a crash leaves now, the name reads as a crash could leave it at first, or as these bytes
abbrev pub OldOrWhole : Past → List ℕ → List ℕ → Past → Type 0
OldOrWhole old name whole = Crashes (λ image. ((earlier : List ℕ → Option (List ℕ)) × IsImage old earlier × (image name ≡ earlier name)) ⊎ (image name ≡ Some whole))

-- Whatever a crash leaves now, it could leave at first, or it leaves these bytes under the name, in the directory in which the
-- draft has that name.
abbrev pub OldOrPublished : Past → List ℕ → List ℕ → List ℕ → Past → Type 0
OldOrPublished old draft name whole = Crashes (λ image. IsImage old image ⊎ ((image name ≡ Some whole) × IsImage (did sync_dir (did (to_dir (rename draft name)) old)) image))

-- whatever a crash leaves now, the name reads as a crash could leave it at first, or as bytes with exactly these items
abbrev pub OldOrItems : Past → List ℕ → List (List ℕ) → Past → Type 0
OldOrItems old name items = Crashes (λ image. ((earlier : List ℕ → Option (List ℕ)) × IsImage old earlier × (image name ≡ earlier name)) ⊎ ReadsAs name (λ bytes. HasItems bytes items) image)
