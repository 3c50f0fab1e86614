-- Ops are put into their file.
use Rattle.std.proofs.Common.{◌≡◌, ◌⊎◌, inl, inr, ℕ, ◌-◌, ◌&&◌, Bool, true, false, List, ◌++◌, length, take, Option, Some, Result, Ok, Err, OnOk, sym, ap, ◌∙◌, subst}
use Rattle.std.specs.Prelude.{IsErrOf}
use Rattle.file_trait.specs.DiskModel.{Past, reads, Crashes}
use Rattle.file_trait.specs.Moments.{Moments}
use Rattle.file_trait.specs.Touched.{Touches}
use Rattle.file_trait.proofs.Moments.{weaker, at_end}
use Rattle.log_items.specs.Items.{wire, log_bytes}
use Rattle.disk_logs.specs.declared.error.LogErr.{LogErr}
use Rattle.disk_logs.specs.declared.error.LogErr.TheVariants.{Memory}
use Rattle.disk_logs.specs.Crash.{LogStands, Stands, IsSound, LogLeaves}
use Rattle.disk_logs.specs.Logs.{Handle, file_of, opened, with_mark, IsLog, AreItems, HasAppended, HasMarked}
use Rattle.disk_logs.specs.Rests.{Rests}
use Rattle.disk_logs.proofs.Both.{both}
use Rattle.disk_logs.proofs.CallerLemmas.{appended_log}
use Rattle.disk_logs.proofs.Resting.{rests_leaves, rests_sound, rests_kept}
use Rattle.store_files.specs.Names.{dcd_of, dcl_of}
use Rattle.store_files.specs.Pairs.{beside, AreSound, FilesHave}
use Rattle.store_files.specs.Writers.{DclState, dcl_handle, DclStands}
use Rattle.store_files.proofs.PairNames.{dcd_no_dcl}

-- the writer is seen by its file
abbrev pub state_of : Handle → DclState
state_of log = record { table = take (length log.name - 4) log.name; closed = log.closed }

-- it is the same file, whatever its mark
pub same_file : (log now : Handle) (writer : DclState) → log ≡ dcl_handle writer → state_of log ≡ writer → now.name ≡ log.name
    → now.draft ≡ log.draft → now ≡ dcl_handle (state_of now)
same_file log now writer at seen name draft = λ i. record {
  name = (name ∙ ap (λ (l : Handle). l.name) at ∙ sym (ap (λ (w : DclState). dcl_of w.table) seen)
      ∙ sym (ap (λ n. dcl_of (take (length n - 4) n)) name)) i;
  draft = (draft ∙ ap (λ (l : Handle). l.draft) at) i;
  closed = now.closed;
}

-- its mark may have been set
pub marked_file : (log now : Handle) (mark : Bool) (writer : DclState) → log ≡ dcl_handle writer → state_of log ≡ writer
    → now ≡ with_mark mark log → now ≡ dcl_handle (state_of now)
marked_file log now mark writer at seen is =
    same_file log now writer at seen (ap (λ (l : Handle). l.name) is) (ap (λ (l : Handle). l.draft) is)

-- ---- the records stand beside it

module _ (old new : Past) (writer : DclState) (log : Handle) (at : log ≡ dcl_handle writer) (records : Option (List (List ℕ)))
    (all : List (List ℕ)) (synced : ℕ) (h : DclStands old writer records all synced)
    (touches : Touches (λ n. n ≡ file_of log) old new) where
  pub own_touches : Touches (λ n. n ≡ dcl_of writer.table) old new
  own_touches = subst (λ m. Touches (λ n. n ≡ m) old new) (ap file_of at) touches

  pub log_before : Stands old log all synced
  log_before = subst (λ l. Stands old l all synced) (sym at) h.stands

  records_moments : Moments (λ past. Rests past (dcd_of writer.table) records) old new
  records_moments =
      rests_kept (λ n. n ≡ dcl_of writer.table) (dcd_of writer.table) records old new
      (λ is. dcd_no_dcl writer.table writer.table (inl is)) own_touches h.beside

  pub changing : (items : List (List ℕ)) → Moments (LogLeaves log.name items synced) old new
      → Moments (Crashes (FilesHave writer.table (beside records items synced))) old new
  changing items given =
      weaker (λ past. Rests past (dcd_of writer.table) records × LogLeaves (dcl_of writer.table) items synced past) _ old new
      (λ past now image w. (rests_leaves past (dcd_of writer.table) records now.0 image w, now.1 image w))
      (both (λ past. Rests past (dcd_of writer.table) records) (LogLeaves (dcl_of writer.table) items synced) old new records_moments
      (subst (λ n. Moments (LogLeaves n items synced) old new) (ap (λ (l : Handle). l.name) at) given))

  pub changing_sound : Moments (λ past. IsSound past log.name) old new → Moments (AreSound writer.table) old new
  changing_sound given =
      both (λ past. IsSound past (dcd_of writer.table)) (λ past. IsSound past (dcl_of writer.table)) old new
      (weaker (λ past. Rests past (dcd_of writer.table) records) _ old new
      (λ past now. rests_sound past (dcd_of writer.table) records now) records_moments)
      (subst (λ n. Moments (λ past. IsSound past n) old new) (ap (λ (l : Handle). l.name) at) given)

  -- the writer of the file as it is then
  pub changed_stands : (now : Handle) (items : List (List ℕ)) (least : ℕ) → state_of log ≡ writer
      → (now ≡ log) ⊎ ((mark : Bool) × (now ≡ with_mark mark log)) → Stands new now items least
      → DclStands new (state_of now) records items least
  changed_stands now items least seen is stands = elim is [
    | inl same ↦ go (ap (λ (l : Handle). l.name) same) (ap (λ (l : Handle). l.draft) same)
    | inr (mark, marked) ↦ go (ap (λ (l : Handle). l.name) marked) (ap (λ (l : Handle). l.draft) marked)
  ]
    where
      go : now.name ≡ log.name → now.draft ≡ log.draft → DclStands new (state_of now) records items least
      go name draft = record {
        beside = subst (λ t. Rests new (dcd_of t) records)
            (sym (ap (λ n. take (length n - 4) n) name ∙ ap (λ (w : DclState). w.table) seen))
            (at_end (λ past. Rests past (dcd_of writer.table) records) old new records_moments);
        stands = subst (λ l. Stands new l items least) (same_file log now writer at seen name draft) stands;
      }

  pub closed_rests : (now : Handle) (items : List (List ℕ)) → now ≡ with_mark true log → Stands new now items (length items)
      → Rests new (dcl_of writer.table) (Some items)
  closed_rests now items is stands =
      subst (λ (l : Handle). LogStands new l.name l.closed items (length items)) (is ∙ ap (with_mark true) at) stands.stands

-- ---- an append

module _ (old new : Past) (writer : DclState) (log now : Handle) (bytes : List ℕ) (at : log ≡ dcl_handle writer)
    (seen : state_of log ≡ writer) (here : IsLog old (dcl_handle writer)) (items : AreItems bytes) where
  log_here : IsLog old log
  log_here = subst (IsLog old) (sym at) here

  pub added_log : (r : Result Unit LogErr) → OnOk r (now ≡ opened log)
      → ((all more : List (List ℕ)) → bytes ≡ wire more → reads old (file_of log) ≡ Some (log_bytes log.closed all)
      → HasAppended r now.closed (opened log).closed all more (reads new (file_of log))) → OnOk r (IsLog new (dcl_handle (state_of now)))
  added_log (Err e) is given = tt
  added_log (Ok x) is given =
      subst (IsLog new) (marked_file log now (log.draft && log.closed) writer at seen is)
      (appended_log new log now (log_here.0 ++ items.0) is (given log_here.0 items.0 items.2 log_here.1))

  pub wanted_log : (r : Result Unit LogErr) → IsErrOf r Memory → (now ≡ log) ⊎ (now ≡ opened log)
      → ((all more : List (List ℕ)) → bytes ≡ wire more → reads old (file_of log) ≡ Some (log_bytes log.closed all)
      → HasAppended r now.closed (opened log).closed all more (reads new (file_of log))) → IsLog new (dcl_handle (state_of now))
  wanted_log r wanted is given =
      subst (IsLog new) (same_file log now writer at seen (ap (λ (l : Handle). l.name) same) (ap (λ (l : Handle). l.draft) same))
      (log_here.0, ap (λ (l : Handle). reads new (file_of l)) same ∙ read)
    where
      marks : (now ≡ log) ⊎ (now ≡ opened log) → now ≡ with_mark now.closed log
      marks (inl unmarked) = ap (λ (l : Handle). with_mark now.closed l) unmarked
      marks (inr marked) = ap (λ (l : Handle). with_mark now.closed l) marked

      same : now ≡ with_mark now.closed log
      same = marks is

      read : reads new (file_of log) ≡ Some (log_bytes now.closed log_here.0)
      read = subst (λ r. HasAppended r now.closed (opened log).closed log_here.0 items.0 (reads new (file_of log))) wanted
          (given log_here.0 items.0 items.2 log_here.1)

-- whichever it is
pub either_mark : (log now : Handle) → (now ≡ log) ⊎ (now ≡ opened log) → (now ≡ log) ⊎ ((mark : Bool) × (now ≡ with_mark mark log))
either_mark log now (inl same) = inl same
either_mark log now (inr marked) = inr (log.draft && log.closed, marked)
