-- The two files of a table, while they are not touched, and what a crash leaves of them.
use Rattle.std.proofs.Common.{ℕ, List, Option, None, Some}
use Rattle.file_trait.specs.DiskModel.{Past, Crashes}
use Rattle.file_trait.specs.Moments.{Moments}
use Rattle.file_trait.specs.Touched.{Touches}
use Rattle.file_trait.proofs.Moments.{weaker, at_end}
use Rattle.disk_logs.specs.Crash.{LogStands, IsSound}
use Rattle.disk_logs.specs.Rests.{Rests}
use Rattle.disk_logs.proofs.Both.{both}
use Rattle.disk_logs.proofs.Frames.{spared_kept}
use Rattle.disk_logs.proofs.Resting.{rests_leaves, rests_sound, rests_kept}
use Rattle.disk_logs.proofs.Sound.{stands_sound}
use Rattle.disk_logs.proofs.Standing.{spared_stands, stands_leaves}
use Rattle.store_files.specs.Names.{dcd_of, dcl_of}
use Rattle.store_files.specs.Pairs.{Changes, TableFiles, ChangesStand, FilesStand, AreSound, ChangesHave, FilesHave}

-- ---- the ops

pub changes_kept : (N : List ℕ → Type 0) (name : List ℕ) (changes : Option Changes) (old new : Past) → (N name → ⊥) → Touches N old new
    → ChangesStand old name changes → Moments (λ past. ChangesStand past name changes) old new
changes_kept N name None old new not touches gone = rests_kept N name None old new not touches gone
changes_kept N name (Some changes) old new not touches (closed, h) =
    weaker (λ past. LogStands past name closed changes.items changes.synced) _ old new (λ past now. (closed, now))
    (spared_kept N (λ past. LogStands past name closed changes.items changes.synced) old new name
    (λ past op spares now. spared_stands past op name closed changes.items changes.synced spares now) not touches h)

pub changes_leave : (past : Past) (name : List ℕ) (changes : Option Changes) → ChangesStand past name changes
    → Crashes (λ image. ChangesHave changes (image name)) past
changes_leave past name None gone = rests_leaves past name None gone
changes_leave past name (Some changes) (closed, h) = stands_leaves past name closed changes.items changes.synced h

pub changes_sound : (past : Past) (name : List ℕ) (changes : Option Changes) → ChangesStand past name changes → IsSound past name
changes_sound past name None gone = rests_sound past name None gone
changes_sound past name (Some changes) (closed, h) = stands_sound past name closed changes.items changes.synced h

-- ---- both files

pub files_kept : (N : List ℕ → Type 0) (table : List ℕ) (files : TableFiles) (old new : Past) → (N (dcd_of table) → ⊥)
    → (N (dcl_of table) → ⊥) → Touches N old new → FilesStand old table files → Moments (λ past. FilesStand past table files) old new
files_kept N table files old new no_dcd no_dcl touches h =
    both (λ past. Rests past (dcd_of table) files.records) (λ past. ChangesStand past (dcl_of table) files.changes) old new
    (rests_kept N (dcd_of table) files.records old new no_dcd touches h.0)
    (changes_kept N (dcl_of table) files.changes old new no_dcl touches h.1)

pub files_untouched : (table : List ℕ) (files : TableFiles) (old new : Past) → Touches (λ n. ⊥) old new → FilesStand old table files
    → FilesStand new table files
files_untouched table files old new nothing h =
    at_end (λ past. FilesStand past table files) old new
    (files_kept (λ n. ⊥) table files old new (λ never. never) (λ never. never) nothing h)

pub files_leave : (past : Past) (table : List ℕ) (files : TableFiles) → FilesStand past table files → Crashes (FilesHave table files) past
files_leave past table files h image w =
    (rests_leaves past (dcd_of table) files.records h.0 image w, changes_leave past (dcl_of table) files.changes h.1 image w)

pub files_sound : (past : Past) (table : List ℕ) (files : TableFiles) → FilesStand past table files → AreSound table past
files_sound past table files h =
    (rests_sound past (dcd_of table) files.records h.0, changes_sound past (dcl_of table) files.changes h.1)
