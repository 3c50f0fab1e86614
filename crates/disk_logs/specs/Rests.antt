-- Files of items that rest, whatever a crash leaves, and how they are taken away or get another name.
use Rattle.std.specs.Prelude.{◌≡◌, ◌⊎◌, ℕ, true, List, length, Option, None, Some, Result, Ok, Err}
use Rattle.file_trait.specs.DiskModel.{Past, did, to_dir, remove, sync_dir, FileId, named, reads, DirLeaves, IsImage, Crashes}
use Rattle.disk_logs.specs.Crash.{LogStands, IsSound}
use Rattle.disk_logs.specs.declared.error.LogErr.{LogErr}
use Rattle.disk_logs.specs.declared.error.LogErr.TheVariants.{File, Bad, TooLong, Memory}
use Rattle.log_items.specs.Items.{log_bytes, AreContents, HasItems}

-- no directory that a crash may leave has the name
abbrev pub IsGone : Past → List ℕ → Type 0
IsGone past name = (names : List ℕ → Option FileId) → DirLeaves past names → names name ≡ None

-- a file that is not there, or one with exactly these items
abbrev pub FileHas : Option (List (List ℕ)) → Option (List ℕ) → Type 0
FileHas None file = file ≡ None
FileHas (Some items) file = (bytes : List ℕ) × (file ≡ Some bytes) × HasItems bytes items

-- Whatever a crash leaves, the file is not there, or it has exactly these items. It is marked closed.
abbrev pub Rests : Past → List ℕ → Option (List (List ℕ)) → Type 0
Rests past name None = IsGone past name
Rests past name (Some items) = LogStands past name true items (length items)

-- ---- a removal

-- where the file is there
abbrev pub Cleared : List ℕ → Result Unit LogErr → Past → Past → Type 0
Cleared name (Ok done) old new = ((new ≡ old) × (reads old name ≡ None)) ⊎ (new ≡ did (to_dir (remove name)) old)
Cleared name (Err (File other)) old new = (new ≡ old) ⊎ (new ≡ did (to_dir (remove name)) old)
Cleared name (Err (Bad other at)) old new = ⊥
Cleared name (Err TooLong) old new = ⊥
Cleared name (Err Memory) old new = new ≡ old

-- whatever a crash leaves now, it could leave at first, or could once the file is gone
abbrev pub OldOrRemoved : Past → List ℕ → Past → Type 0
OldOrRemoved old name =
    Crashes (λ image. IsImage old image ⊎ IsImage (did sync_dir (did (to_dir (remove name)) old)) image)

-- ---- another name

-- the one name stands for the file, and the other for none
abbrev pub OneOfTwo : Option FileId → List ℕ → List ℕ → (List ℕ → Option FileId) → Type 0
OneOfTwo file from to names = ((names from ≡ file) × (names to ≡ None)) ⊎ ((names to ≡ file) × (names from ≡ None))

-- A closed log got another name, and all of its items are durable. A crash may leave it its old name.
pub record IsRenamed (past : Past) (from to : List ℕ) (items : List (List ℕ)) : Type 0 where
  pub fit : AreContents items
  pub read : reads past to ≡ Some (log_bytes true items)
  pub gone : reads past from ≡ None
  pub sound : IsSound past to
  pub called : (names : List ℕ → Option FileId) → DirLeaves past names → OneOfTwo (named past to) from to names

-- the one name has exactly these items, and the other is not there
abbrev pub UnderOne : List ℕ → List ℕ → List (List ℕ) → (List ℕ → Option (List ℕ)) → Type 0
UnderOne from to items image =
    (FileHas (Some items) (image from) × (image to ≡ None)) ⊎ (FileHas (Some items) (image to) × (image from ≡ None))
