-- Files that rest, while others are worked on and when they are replaced.
use Rattle.std.proofs.Common.{◌≡◌, ◌≢◌, ◌⊎◌, inl, inr, ℕ, Bool, true, List, length, Option, None, Some, option_map, refl, sym, ap, ◌∙◌, subst}
use Rattle.file_trait.specs.DiskModel.{Past, did, DiskOp, Spares, to_file, to_dir, sync, sync_failed, sync_dir, FileId, named, content, reads, Crashes, IsSettled}
use Rattle.file_trait.specs.Moments.{Moments}
use Rattle.file_trait.specs.Touched.{Touches}
use Rattle.file_trait.proofs.Frames.{named_other}
use Rattle.file_trait.proofs.Images.{dir_reads}
use Rattle.file_trait.proofs.Moments.{weaker, at_end}
use Rattle.log_items.specs.Items.{log_bytes, AreContents, HasItems}
use Rattle.log_items.proofs.Unique.{written}
use Rattle.disk_logs.specs.Crash.{IsSound, OldOrWhole}
use Rattle.disk_logs.specs.Rests.{IsGone, FileHas, Rests}
use Rattle.disk_logs.proofs.Frames.{spared_kept}
use Rattle.disk_logs.proofs.Sound.{absent_sound, stands_sound}
use Rattle.disk_logs.proofs.Standing.{spared_stands}

-- ---- a name that is nowhere

pub gone_now : (past : Past) (name : List ℕ) → IsGone past name → named past name ≡ None
gone_now past name gone = gone (named past) (dir_reads past)

pub gone_reads : (past : Past) (name : List ℕ) → IsGone past name → reads past name ≡ None
gone_reads past name gone = ap (option_map (content past)) (gone_now past name gone)

gone_image : (past : Past) (name : List ℕ) → IsGone past name → Crashes (λ image. image name ≡ None) past
gone_image past name gone image w = w.is name ∙ ap (option_map w.bytes) (gone w.names w.directory)

spared_gone : (past : Past) (op : DiskOp) (name : List ℕ) → Spares op name → IsGone past name → IsGone (did op past) name
spared_gone past (to_file other op) name spares gone names left = gone names left
spared_gone past (to_dir op) name spares gone names (inl before) = gone names before
spared_gone past (to_dir op) name spares gone names (inr now) =
    ap (λ f. f name) now ∙ named_other past (to_dir op) name spares ∙ gone_now past name gone
spared_gone past (sync other) name spares gone names left = gone names left
spared_gone past (sync_failed other) name spares gone names left = gone names left
spared_gone past sync_dir name spares gone names is = ap (λ f. f name) is ∙ gone_now past name gone

pub no_name : (bytes : FileId → List ℕ) (name : Option FileId) → option_map bytes name ≡ None → name ≡ None
no_name bytes None is = refl
no_name bytes (Some file) is = absurd (cc)

-- a settled name that is not there
pub absent_gone : (past : Past) (name : List ℕ) → IsSettled past name → reads past name ≡ None → IsGone past name
absent_gone past name settled absent names left = settled names left ∙ no_name (content past) (named past name) absent

-- ---- what rests

-- all items, under either mark
pub has_marked : (items : List (List ℕ)) (bytes : List ℕ) → AreContents items → (mark : Bool) × (bytes ≡ log_bytes mark items)
    → HasItems bytes items
has_marked items bytes fit (mark, is) = subst (λ b. HasItems b items) (sym is) (mark, written mark items fit)

pub rests_leaves : (past : Past) (name : List ℕ) (file : Option (List (List ℕ))) → Rests past name file
    → Crashes (λ image. FileHas file (image name)) past
rests_leaves past name None gone image w = gone_image past name gone image w
rests_leaves past name (Some items) h image w = (
  w.bytes h.file,
  w.is name ∙ ap (option_map w.bytes) (h.settled w.names w.directory),
  has_marked items (w.bytes h.file) h.fit (h.each (w.bytes h.file) (w.each h.file)),
)

pub rests_sound : (past : Past) (name : List ℕ) (file : Option (List (List ℕ))) → Rests past name file → IsSound past name
rests_sound past name None gone = absent_sound past name (gone_reads past name gone)
rests_sound past name (Some items) h = stands_sound past name true items (length items) h

spared_rests : (past : Past) (op : DiskOp) (name : List ℕ) (file : Option (List (List ℕ))) → Spares op name → Rests past name file
    → Rests (did op past) name file
spared_rests past op name None spares gone = spared_gone past op name spares gone
spared_rests past op name (Some items) spares h = spared_stands past op name true items (length items) spares h

pub rests_kept : (N : List ℕ → Type 0) (name : List ℕ) (file : Option (List (List ℕ))) (old new : Past) → (N name → ⊥)
    → Touches N old new → Rests old name file → Moments (λ past. Rests past name file) old new
rests_kept N name file old new =
    spared_kept N (λ past. Rests past name file) old new name (λ past op spares h. spared_rests past op name file spares h)

pub rests_other : (other name : List ℕ) (file : Option (List (List ℕ))) (old new : Past) → other ≢ name → Touches (λ n. n ≡ other) old new
    → Rests old name file → Moments (λ past. Rests past name file) old new
rests_other other name file old new apart = rests_kept (λ n. n ≡ other) name file old new (λ is. apart (sym is))

pub rests_untouched : (name : List ℕ) (file : Option (List (List ℕ))) (old new : Past) → Touches (λ n. ⊥) old new → Rests old name file
    → Rests new name file
rests_untouched name file old new nothing rests =
    at_end (λ past. Rests past name file) old new (rests_kept (λ n. ⊥) name file old new (λ never. never) nothing rests)

-- ---- a new file in its place

pub rests_replaced : (name : List ℕ) (file : Option (List (List ℕ))) (items : List (List ℕ)) (old new : Past) → AreContents items
    → Rests old name file → Moments (OldOrWhole old name (log_bytes true items)) old new
    → Moments (Crashes (λ image. FileHas file (image name) ⊎ FileHas (Some items) (image name))) old new
rests_replaced name file items old new fit rests h =
    weaker (OldOrWhole old name (log_bytes true items)) _ old new
    (λ past moment image w. elim (moment image w) [
      | inl (earlier, was, same) ↦ inl (subst (FileHas file) (sym same) (rests_leaves old name file rests earlier was))
      | inr now ↦ inr (log_bytes true items, now, (true, written true items fit))
    ])
    h
