-- New records take the place of a table's files.
use Rattle.std.proofs.Common.{◌≡◌, inl, inr, ℕ, true, false, List, length, Some, refl, sym, ap, ◌∙◌, subst, if◌then◌else◌}
use Rattle.file_trait.specs.DiskModel.{Past, did, to_dir, rename, remove, sync_dir, Crashes}
use Rattle.file_trait.specs.Moments.{Moments}
use Rattle.file_trait.specs.Touched.{Touches}
use Rattle.file_trait.proofs.Moments.{none_done, then_done, weaker, at_end}
use Rattle.file_trait.proofs.Touched.{touched, then_touched}
use Rattle.log_items.specs.Items.{log_bytes, AreContents}
use Rattle.log_items.proofs.Unique.{written}
use Rattle.disk_logs.specs.Crash.{LogStands, Stands, DraftStands, IsSound, OldOrPublished}
use Rattle.disk_logs.specs.Logs.{Handle, draft_name, IsLog}
use Rattle.disk_logs.specs.Rests.{IsGone, Rests, OldOrRemoved}
use Rattle.disk_logs.proofs.Both.{both}
use Rattle.disk_logs.proofs.Drafts.{others_read}
use Rattle.disk_logs.proofs.Frames.{draft_other}
use Rattle.disk_logs.proofs.Removing.{removed_image}
use Rattle.disk_logs.proofs.Renewing.{touches_more}
use Rattle.disk_logs.proofs.Resting.{rests_leaves, rests_kept, rests_sound}
use Rattle.store_files.specs.Names.{dcd_of, dcl_of}
use Rattle.store_files.specs.Pairs.{TableFiles, with_records, records_alone, ChangesStand, FilesStand, AreSound, OldOrNew, IsSwapped, IsFileOf}
use Rattle.store_files.specs.Writers.{DcdState, dcd_handle, files_now, DcdStands}
use Rattle.store_files.proofs.PairFacts.{changes_kept, changes_leave, changes_sound, files_untouched, files_leave, files_sound}
use Rattle.store_files.proofs.Taking.{taking_changes, taking_changes_sound, without_stands}
use Rattle.store_files.proofs.PairNames.{dcl_no_dcd, dcd_no_dcl, dcd_no_draft}

-- ---- the state of the writer

module _ {past : Past} {writer : DcdState} {files : TableFiles} {items : List (List ℕ)} (h : DcdStands past writer files items) where
  -- the draft is still to be published
  pub old_files : writer.published ≡ false → FilesStand past writer.table files
  old_files draft = subst (λ b. FilesStand past writer.table (if b then with_records items files else files)) draft h.stand

  -- it is published
  pub new_files : writer.published ≡ true → FilesStand past writer.table (with_records items files)
  new_files published = subst (λ b. FilesStand past writer.table (if b then with_records items files else files)) published h.stand

  pub published_moments : writer.published ≡ true → Moments (Crashes (OldOrNew writer.table files items)) past past
  published_moments published =
      none_done _ past past refl (λ image w. inr (files_leave past writer.table (with_records items files) (new_files published) image w))

  pub writer_sound : AreSound writer.table past
  writer_sound = files_sound past writer.table _ h.stand

-- ---- the draft is published

-- once it is
abbrev published_at : List ℕ → Past → Past
published_at table past = did sync_dir (did (to_dir (rename (draft_name (dcd_of table)) (dcd_of table))) past)

to_published : (old : Past) (table : List ℕ) → Touches (IsFileOf (dcd_of table)) old (published_at table old)
to_published old table =
    then_touched (IsFileOf (dcd_of table)) old _ (published_at table old)
    (touched (IsFileOf (dcd_of table)) _ old _ refl (inr refl, inl refl)) (touched (IsFileOf (dcd_of table)) sync_dir _ _ refl tt)

module _ (old : Past) (table : List ℕ) (files : TableFiles) (items : List (List ℕ)) (fit : AreContents items)
    (h : FilesStand old table files) where
  other_moments : (to : Past) → Touches (IsFileOf (dcd_of table)) old to
      → Moments (λ past. ChangesStand past (dcl_of table) files.changes) old to
  other_moments to t =
      changes_kept (IsFileOf (dcd_of table)) (dcl_of table) files.changes old to (dcl_no_dcd table table) t h.1

  other_at : (to : Past) → Touches (IsFileOf (dcd_of table)) old to → ChangesStand to (dcl_of table) files.changes
  other_at to t = at_end (λ past. ChangesStand past (dcl_of table) files.changes) old to (other_moments to t)

  module _ (new : Past) where
    pub publish_moments : Moments (OldOrPublished old (draft_name (dcd_of table)) (dcd_of table) (log_bytes true items)) old new
        → Moments (Crashes (OldOrNew table files items)) old new
    publish_moments =
        weaker (OldOrPublished old (draft_name (dcd_of table)) (dcd_of table) (log_bytes true items))
        (Crashes (OldOrNew table files items)) old new
        (λ past moment image w. elim (moment image w) [
          | inl before ↦ inl (files_leave old table files h image before)
          | inr (now, is) ↦ inr (
            (log_bytes true items, now, (true, written true items fit)),
            changes_leave (published_at table old) (dcl_of table) files.changes
                (other_at (published_at table old) (to_published old table)) image is,
          )
        ])

    module _ (touches : Touches (IsFileOf (dcd_of table)) old new) where
      pub publish_sound : Moments (λ past. IsSound past (dcd_of table)) old new → Moments (AreSound table) old new
      publish_sound first =
          both (λ past. IsSound past (dcd_of table)) (λ past. IsSound past (dcl_of table)) old new first
          (weaker (λ past. ChangesStand past (dcl_of table) files.changes) _ old new
          (λ past now. changes_sound past (dcl_of table) files.changes now) (other_moments new touches))

      pub published_files : LogStands new (dcd_of table) true items (length items) → FilesStand new table (with_records items files)
      published_files stands = (stands, other_at new touches)

-- ---- the log of the writer is published

pub same_state : (a b : DcdState) → a.table ≡ b.table → a.published ≡ b.published → a ≡ b
same_state a b table published = λ i. record { table = table i; published = published i }

-- nothing is touched
pub writer_untouched : {old new : Past} {writer : DcdState} {files : TableFiles} {items : List (List ℕ)} → Touches (λ n. ⊥) old new
    → DcdStands old writer files items → DcdStands new writer files items
writer_untouched {old = old} {new = new} {writer = writer} {files = files} {items = items} nothing h = record {
  fit = h.fit;
  stand = files_untouched writer.table (files_now writer files items) old new nothing h.stand;
  draft = λ unpublished. at_end (λ past. DraftStands past (draft_name (dcd_of writer.table)) (log_bytes true items)) old new
      (draft_other (dcd_of writer.table) (draft_name (dcd_of writer.table)) (log_bytes true items) old new
      (dcd_no_draft writer.table (dcd_of writer.table)) (touches_more _ _ old new (λ n never. absurd never) nothing) (h.draft unpublished));
}

module _ {old : Past} {writer : DcdState} {files : TableFiles} {items : List (List ℕ)} {log : Handle} (at : log ≡ dcd_handle writer)
    (unpublished : writer.published ≡ false) (h : DcdStands old writer files items) where
  its_name : log.name ≡ dcd_of writer.table
  its_name = ap (λ (l : Handle). l.name) at

  pub draft_whole : DraftStands old (draft_name log.name) (log_bytes true items)
  draft_whole = subst (λ m. DraftStands old (draft_name m) (log_bytes true items)) (sym its_name) (h.draft unpublished)

  pub draft_log : DraftStands old (draft_name log.name) (log_bytes log.closed items)
  draft_log =
      subst (λ b. DraftStands old (draft_name log.name) (log_bytes b items)) (sym (ap (λ (l : Handle). l.closed) at)) draft_whole

  module _ {new : Past} (touches : Touches (IsFileOf log.name) old new) where
    own : Touches (IsFileOf (dcd_of writer.table)) old new
    own = subst (λ m. Touches (IsFileOf m) old new) its_name touches

    pub publishing : Moments (OldOrPublished old (draft_name log.name) log.name (log_bytes true items)) old new
        → Moments (Crashes (OldOrNew writer.table files items)) old new
    publishing m = publish_moments old writer.table files items h.fit (old_files h unpublished) new
        (subst (λ m. Moments (OldOrPublished old (draft_name m) m (log_bytes true items)) old new) its_name m)

    pub publishing_sound : (IsSound old log.name → Moments (λ past. IsSound past log.name) old new)
        → Moments (AreSound writer.table) old new
    publishing_sound given =
        publish_sound old writer.table files items h.fit (old_files h unpublished) new own
        (subst (λ m. Moments (λ past. IsSound past m) old new) its_name (given (subst (IsSound old) (sym its_name) (writer_sound h).0)))

    pub publishing_done : (now : Handle) (view : DcdState) → now ≡ record { name = log.name; draft = false; closed = log.closed }
        → view.table ≡ writer.table → view.published ≡ true → Stands new now items (length items) → DcdStands new view files items
    publishing_done now view is table published stands =
        subst (λ v. DcdStands new v files items) (sym (same_state view (record { table = writer.table; published = true }) table published))
        (record {
          fit = h.fit;
          stand = published_files old writer.table files items h.fit (old_files h unpublished) new own
              (subst (λ (l : Handle). LogStands new l.name l.closed items (length items))
              (is ∙ ap (λ (l : Handle). record { name = l.name; draft = false; closed = l.closed }) at)
              stands.stands);
          draft = λ is. cc is;
        })

-- ---- and then the ops are taken away

pub as_published : {past : Past} {now : DcdState} {files : TableFiles} {items : List (List ℕ)} (table : List ℕ)
    → now ≡ record { table = table; published = true } → DcdStands past now files items
    → FilesStand past table (with_records items files)
as_published {past = past} {files = files} {items = items} table is h = new_files (subst (λ w. DcdStands past w files items) is h) refl

-- its file, while the other is taken away
pub still_log : (old new : Past) (now : DcdState) (table name : List ℕ) → now ≡ record { table = table; published = true }
    → name ≡ dcl_of table → Touches (λ n. n ≡ name) old new → IsLog old (dcd_handle now) → IsLog new (dcd_handle now)
still_log old new now table name is name_is touches here =
    subst (λ w. IsLog new (dcd_handle w)) (sym is)
    (let (all, same) = subst (λ w. IsLog old (dcd_handle w)) is here in
    (all, others_read (λ n. n ≡ name) old new touches (dcd_of table) (λ at. dcd_no_dcl table table (inl (at ∙ name_is))) ∙ same))

module _ (old mid new : Past) (table name : List ℕ) (files : TableFiles) (items : List (List ℕ)) (name_is : name ≡ dcl_of table)
    (h : FilesStand mid table (with_records items files)) where
  pub swap_moments : Moments (Crashes (OldOrNew table files items)) old mid → Moments (OldOrRemoved mid name) mid new
      → Moments (Crashes (IsSwapped table files items)) old new
  swap_moments first images =
      then_done (Crashes (IsSwapped table files items)) old mid new
      (weaker (Crashes (OldOrNew table files items)) (Crashes (IsSwapped table files items)) old mid
      (λ past now image w. inl (now image w)) first)
      (taking_changes mid table (with_records items files) h new (IsSwapped table files items) (λ image has. inl (inr has))
      (λ image has. inr has) (subst (λ n. Moments (OldOrRemoved mid n) mid new) name_is images))

  module _ (touches : Touches (λ n. n ≡ name) mid new) where
    dcl_touches : Touches (λ n. n ≡ dcl_of table) mid new
    dcl_touches = subst (λ m. Touches (λ n. n ≡ m) mid new) name_is touches

    pub swap_sound : Moments (AreSound table) old mid → (IsSound mid name → Moments (λ past. IsSound past name) mid new)
        → Moments (AreSound table) old new
    swap_sound first given =
        then_done (AreSound table) old mid new first
        (taking_changes_sound mid new table dcl_touches (files_sound mid table (with_records items files) h)
        (subst (λ m. Moments (λ past. IsSound past m) mid new) name_is
        (given (subst (IsSound mid) (sym name_is) (files_sound mid table (with_records items files) h).1))))

    pub swap_stands : IsGone new name → FilesStand new table (records_alone items)
    swap_stands gone = without_stands mid table (with_records items files) h new dcl_touches (subst (IsGone new) name_is gone)
