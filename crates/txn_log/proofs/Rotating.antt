-- A log makes place for a new one.
use Rattle.std.proofs.Common.{◌≡◌, ◌⊎◌, inl, inr, ℕ, suc, ◌≤◌, Bool, true, false, List, [], ◌∷◌, length, Option, None, Some, Result, Err, OnErr, refl, sym, ap, ◌∙◌, subst, arith}
use Rattle.file_trait.specs.Calls.{IsDirDurable}
use Rattle.file_trait.specs.DiskModel.{Past, did, Spares, to_dir, sync_dir, rename, reads, IsImage, Crashes}
use Rattle.file_trait.specs.Moments.{Moments}
use Rattle.file_trait.specs.Touched.{Touches}
use Rattle.file_trait.proofs.Changes.{sync_dir_settles}
use Rattle.file_trait.proofs.Durable.{durable_settled}
use Rattle.file_trait.proofs.Files.{reads_other}
use Rattle.file_trait.proofs.Moments.{then_done, weaker, at_end}
use Rattle.file_trait.proofs.Touched.{then_touched}
use Rattle.log_items.specs.Items.{log_bytes, AreContents}
use Rattle.log_items.proofs.Unique.{written}
use Rattle.disk_logs.specs.Crash.{LogStands, Stands, DraftStands, IsSound, LogLeaves, OldOrPublished}
use Rattle.disk_logs.specs.Logs.{Handle, draft_name, file_of, with_mark, IsLog, IsMoved, HasMarked}
use Rattle.disk_logs.specs.Rests.{Rests, IsRenamed, UnderOne}
use Rattle.disk_logs.specs.declared.error.LogErr.{LogErr}
use Rattle.disk_logs.proofs.Both.{both}
use Rattle.disk_logs.proofs.Drafts.{others_read}
use Rattle.disk_logs.proofs.Frames.{spared_kept}
use Rattle.disk_logs.proofs.Resting.{gone_reads, rests_leaves, rests_sound, rests_kept}
use Rattle.disk_logs.proofs.Sound.{sound_stands, spared_sound}
use Rattle.disk_logs.proofs.Standing.{fewer_synced}
use Rattle.db_model.specs.Commits.{CommitRecord}
use Rattle.txn_log.specs.Commits.{head_text}
use Rattle.txn_log.specs.Logs.{latest, previous, LogState, at_latest, handle, Reads, Leaves, IsLogName}
use Rattle.txn_log.specs.TwoLogs.{Rotates, AreSound, BothStand, LogWaits}
use Rattle.txn_log.proofs.Acts.{touches_more, txn_stands, log_stands, same_moments, log_sound, close_fails, kept_stands, handle_of, handle_same, handle_marked, waits_handle}
use Rattle.txn_log.proofs.FirstItem.{text_of_head, head_fits}
use Rattle.txn_log.proofs.Held.{state_of}
use Rattle.txn_log.proofs.LogName.{latest_no_draft, latest_no_previous, previous_no_draft}
use Rattle.txn_log.proofs.TwoLogs.{some_synced, alone_first, alone_whole, under_one, moved, waits_leaves, waits_sound, waits_kept, log_no_previous}

-- ---- the new log is published

-- a log without commits
new_reads : (file : Option (List ℕ)) → file ≡ Some (log_bytes true (head_text ∷ [])) → Reads [] file
new_reads file is = inr (
  log_bytes true (head_text ∷ []),
  is,
  (head_text ∷ [], (text_of_head, tt), (true, written true (head_text ∷ []) head_fits)),
)

pub called : {draft : Handle} {name : List ℕ} → draft ≡ record { name = name; draft = true; closed = true } → name ≡ latest
    → draft.name ≡ latest
called is name_is = ap (λ (l : Handle). l.name) is ∙ name_is

module _ {old mid : Past} {name : List ℕ} (name_is : name ≡ latest) (touches : Touches (λ n. n ≡ draft_name name) old mid) where
  no_latest : latest ≡ draft_name name → ⊥
  no_latest is = latest_no_draft (is ∙ ap draft_name name_is)

  no_previous : previous ≡ draft_name name → ⊥
  no_previous is = previous_no_draft (is ∙ ap draft_name name_is)

  pub draft_touches : Touches IsLogName old mid
  draft_touches = touches_more (λ n. n ≡ draft_name name) IsLogName old mid (λ n at. inr (at ∙ ap draft_name name_is)) touches

  module _ {state : LogState} {commits : List CommitRecord} (waits : LogWaits old state commits) where
    drafting : Moments (λ past. LogWaits past state commits) old mid
    drafting = waits_kept (λ n. n ≡ draft_name name) state commits old mid no_latest no_previous touches waits

    pub draft_waits : LogWaits mid state commits
    draft_waits = at_end (λ past. LogWaits past state commits) old mid drafting

    pub draft_moments : Moments (Crashes (Rotates commits (length commits))) old mid
    draft_moments = weaker (λ past. LogWaits past state commits) (Crashes (Rotates commits (length commits))) old mid
        (λ past w. waits_leaves past state commits (length commits) (omega arith) w) drafting

    pub draft_sound : Moments AreSound old mid
    draft_sound = weaker (λ past. LogWaits past state commits) AreSound old mid (λ past w. waits_sound past state commits w) drafting

    module _ {new : Past} {draft : Handle} (draft_is : draft ≡ record { name = name; draft = true; closed = true })
        (drafted : DraftStands mid (draft_name name) (log_bytes true (head_text ∷ [])))
        (touched : Touches (λ n. (n ≡ draft.name) ⊎ (n ≡ draft_name draft.name)) mid new) where
      its_name : draft.name ≡ latest
      its_name = called draft_is name_is

      log_touches : Touches IsLogName mid new
      log_touches = touches_more _ IsLogName mid new
          (λ n at. elim at [ inl is ↦ inl (is ∙ its_name) | inr is ↦ inr (is ∙ ap draft_name its_name) ]) touched

      abbrev whole : List ℕ
      whole = log_bytes true (head_text ∷ [])

      -- the other log, with the draft published
      abbrev named_past : Past
      named_past = did (to_dir (rename (draft_name latest) latest)) mid

      abbrev published_past : Past
      published_past = did sync_dir named_past

      other_rests : Rests published_past previous (Some draft_waits.items)
      other_rests =
          let renamed = draft_waits.renamed in
          let spares : Spares (to_dir (rename (draft_name latest) latest)) previous =
          (λ is. previous_no_draft (sym is), λ is. latest_no_previous is) in
          sound_stands published_past previous draft_waits.items
          (spared_sound named_past sync_dir previous tt (spared_sound mid
          (to_dir (rename (draft_name latest) latest)) previous spares renamed.sound))
          (sync_dir_settles named_past previous) renamed.fit
          (reads_other mid (to_dir (rename (draft_name latest) latest)) previous spares ∙ renamed.read)

      published_image : (image : List ℕ → Option (List ℕ)) → image latest ≡ Some whole → IsImage published_past image
          → Rotates commits (length commits) image
      published_image image now w =
          let (bytes, is, has) = rests_leaves published_past previous (Some draft_waits.items) other_rests image w in
          moved commits (length commits) image (omega arith) (inr (bytes, is, (draft_waits.items, draft_waits.are, has)))
          (new_reads (image latest) now)

      pub publishing : ((whole : List ℕ) → DraftStands mid (draft_name draft.name) whole
          → Moments (OldOrPublished mid (draft_name draft.name) draft.name whole) mid new)
          → Moments (Crashes (Rotates commits (length commits))) mid new
      publishing images =
          weaker (OldOrPublished mid (draft_name latest) latest whole) (Crashes (Rotates commits (length commits))) mid new
          (λ past moment image w. elim (moment image w) [
            | inl before ↦ waits_leaves mid state commits (length commits) (omega arith) draft_waits image before
            | inr now ↦ published_image image now.0 now.1
          ])
          (subst (λ n. Moments (OldOrPublished mid (draft_name n) n whole) mid new) its_name
          (images whole (subst (λ n. DraftStands mid (draft_name n) whole) (sym (ap (λ (l : Handle). l.name) draft_is)) drafted)))

      pub renewed_moments : ((whole : List ℕ) → DraftStands mid (draft_name draft.name) whole
          → Moments (OldOrPublished mid (draft_name draft.name) draft.name whole) mid new)
          → Moments (Crashes (Rotates commits (length commits))) old new
      renewed_moments images = then_done _ old mid new draft_moments (publishing images)

      previous_sound : Moments (λ past. IsSound past previous) mid new
      previous_sound = spared_kept IsLogName (λ past. IsSound past previous) mid new previous
          (λ past op spares h. spared_sound past op previous spares h) log_no_previous log_touches
          (waits_sound mid state commits draft_waits).1

      draft_stands : DraftStands mid (draft_name draft.name) (log_bytes draft.closed (head_text ∷ []))
      draft_stands =
          subst (λ (l : Handle). DraftStands mid (draft_name l.name) (log_bytes l.closed (head_text ∷ []))) (sym draft_is) drafted

      pub renewed_sound : ((items : List (List ℕ)) → AreContents items
          → DraftStands mid (draft_name draft.name) (log_bytes draft.closed items) → IsSound mid draft.name
          → Moments (λ past. IsSound past draft.name) mid new) → Moments AreSound old new
      renewed_sound sound =
          then_done AreSound old mid new draft_sound
          (both (λ past. IsSound past latest) (λ past. IsSound past previous) mid new
          (subst (λ n. Moments (λ past. IsSound past n) mid new) its_name
          (sound (head_text ∷ []) head_fits draft_stands
          (subst (IsSound mid) (sym its_name) (waits_sound mid state commits draft_waits).0)))
          previous_sound)

      pub renewed_wanted : Touches (λ n. ⊥) mid new → LogWaits new state commits
      renewed_wanted nothing = at_end (λ past. LogWaits past state commits) mid new
          (waits_kept (λ n. ⊥) state commits mid new (λ never. never) (λ never. never) nothing draft_waits)

      -- at Ok
      pub renewed_stands : (log : Handle) (count : ℕ) → log ≡ record { name = draft.name; draft = false; closed = draft.closed } → count ≡ 0
          → IsDirDurable new
          → ((items : List (List ℕ)) → AreContents items → DraftStands mid (draft_name draft.name) (log_bytes draft.closed items)
          → Stands new log items (length items))
          → BothStand new (record { commits = count; closed = log.closed; waits = false }) (Some commits) [] 0
      renewed_stands log count is none durable stands = record {
        in_previous = (
          draft_waits.items,
          draft_waits.are,
          sound_stands new previous draft_waits.items (at_end (λ past. IsSound past previous) mid new previous_sound)
              (durable_settled new previous durable) draft_waits.renamed.fit
              (others_read IsLogName mid new log_touches previous log_no_previous ∙ draft_waits.renamed.read),
        );
        in_latest = txn_stands new log (record { commits = count; closed = log.closed; waits = false }) [] (head_text ∷ []) 0 refl
            (handle_of log count (ap (λ (l : Handle). l.name) is ∙ its_name) (ap (λ (l : Handle). l.draft) is)) none (text_of_head, tt)
            (stands (head_text ∷ []) head_fits draft_stands);
      }

-- the names that are touched
pub publish_touches : {old mid new : Past} {name : List ℕ} {draft : Handle} → name ≡ latest
    → draft ≡ record { name = name; draft = true; closed = true } → Touches (λ n. n ≡ draft_name name) old mid
    → Touches (λ n. (n ≡ draft.name) ⊎ (n ≡ draft_name draft.name)) mid new → Touches IsLogName old new
publish_touches is draft_is touches touched =
    then_touched IsLogName _ _ _ (draft_touches is touches)
    (touches_more _ IsLogName _ _
    (λ n at. elim at [ inl a ↦ inl (a ∙ called draft_is is) | inr b ↦ inr (b ∙ ap draft_name (called draft_is is)) ]) touched)

-- the file that it has then
pub renewed_log : (mid new : Past) {name : List ℕ} {draft log : Handle} (count : ℕ) → name ≡ latest
    → draft ≡ record { name = name; draft = true; closed = true } → log ≡ record { name = draft.name; draft = false; closed = draft.closed }
    → reads mid (draft_name name) ≡ Some (log_bytes true (head_text ∷ [])) → IsMoved (draft_name draft.name) draft.name mid new
    → IsLog new (handle (record { commits = count; closed = log.closed; waits = false }))
renewed_log mid new count is draft_is log_is made move = (
  head_text ∷ [],
  ap (reads new) (sym (ap (λ (l : Handle). l.name) draft_is ∙ is)) ∙ move.0
      ∙ ap (λ (l : Handle). reads mid (draft_name l.name)) draft_is ∙ made
      ∙ ap (λ b. Some (log_bytes b (head_text ∷ []))) (sym (ap (λ (l : Handle). l.closed) log_is ∙ ap (λ (l : Handle). l.closed) draft_is)),
)

-- the file that it still has where it was not published
pub still_previous : {old new : Past} (state : LogState) → state.waits ≡ true → Touches IsLogName old new → IsLog old (handle state)
    → IsLog new (handle state)
still_previous {old = old} {new = new} state waits touches here =
    subst (IsLog new) (sym (waits_handle state waits))
    (let (all, is) = subst (IsLog old) (waits_handle state waits) here in
    (all, others_read IsLogName old new touches previous log_no_previous ∙ is))

-- ---- the old log gets its other name

fewer_stands : (past : Past) (log : Handle) (items : List (List ℕ)) (synced less : ℕ) → less ≤ synced → Stands past log items synced
    → Stands past log items less
fewer_stands past log items synced less le h = record {
  published = h.published;
  stands = fewer_synced past log.name log.closed items synced less le h.stands;
  sure = h.sure;
}

pub closed_name : {log now : Handle} (state : LogState) → log ≡ at_latest state → now ≡ with_mark true log → now.name ≡ latest
closed_name state at marked = ap (λ (l : Handle). l.name) (marked ∙ ap (with_mark true) at)

module _ {old mid : Past} {log : Handle} {state : LogState} {commits : List CommitRecord} {synced : ℕ} (at : log ≡ at_latest state)
    (h : BothStand old state None commits synced) (touches : Touches (λ n. n ≡ file_of log) old mid) where
  gone_moments : Moments (λ past. Rests past previous None) old mid
  gone_moments = rests_kept (λ n. n ≡ file_of log) previous None old mid
      (λ is. latest_no_previous (sym (is ∙ ap file_of at))) touches h.in_previous

  still_gone : Rests mid previous None
  still_gone = at_end (λ past. Rests past previous None) old mid gone_moments

  -- it stands as it did before
  as_before : Stands old log h.in_latest.items (suc synced)
  as_before = log_stands old log state commits synced at h.in_latest

  -- it is closed
  pub closing_moments : ((all : List (List ℕ)) (least : ℕ) → Stands old log all least → Moments (LogLeaves log.name all least) old mid)
      → Moments (Crashes (Rotates commits synced)) old mid
  closing_moments given =
      weaker (λ past. Leaves commits synced past × Rests past previous None) (Crashes (Rotates commits synced)) old mid
      (λ past here image w. alone_first commits synced image (rests_leaves past previous None here.1 image w) (here.0 image w))
      (both (Leaves commits synced) (λ past. Rests past previous None) old mid
      (same_moments old mid log log state commits synced at h.in_latest given) gone_moments)

  pub closing_sound : ((all : List (List ℕ)) (least : ℕ) → Stands old log all least → Moments (λ past. IsSound past log.name) old mid)
      → Moments AreSound old mid
  closing_sound given =
      weaker (λ past. IsSound past latest × Rests past previous None) AreSound old mid
      (λ past here. (here.0, rests_sound past previous None here.1))
      (both (λ past. IsSound past latest) (λ past. Rests past previous None) old mid
      (log_sound old mid log log state commits synced at h.in_latest given) gone_moments)

  -- where that failed
  pub closing_reads : (r : Result Unit LogErr) (error : LogErr) → r ≡ Err error
      → ((all : List (List ℕ)) → reads old (file_of log) ≡ Some (log_bytes log.closed all)
      → HasMarked r log.closed true all (reads mid (file_of log))) → Rotates commits (length commits) (reads mid)
  closing_reads r error failed given =
      alone_whole commits (length commits) (reads mid) (omega arith) (gone_reads mid previous still_gone)
      (subst (λ a. OnErr a (Reads commits (reads mid latest))) failed
      (close_fails old mid log log state commits synced at h.in_latest r given))

  pub closing_kept : (now : Handle) (count : ℕ) (waits : Bool) → waits ≡ state.waits → count ≡ state.commits → now ≡ log
      → ((all : List (List ℕ)) (least : ℕ) → Stands old log all least → Stands mid now all least)
      → BothStand mid (state_of count waits now) None commits synced
  closing_kept now count waits still same is given = record {
    in_previous = still_gone;
    in_latest = kept_stands old mid log now state commits synced at h.in_latest (state_of count waits now) (still ∙ h.in_latest.made)
        (handle_same log now state count at is) same given;
  }

  -- and then renamed
  module _ {now : Handle} (marked : now ≡ with_mark true log) {to : List ℕ} (to_is : to ≡ previous)
      (closes : (all : List (List ℕ)) (least : ℕ) → Stands old log all least → Stands mid now all (length all)) where
    its_old_name : now.name ≡ latest
    its_old_name = closed_name state at marked

    closed : Stands mid now h.in_latest.items (length h.in_latest.items)
    closed = closes h.in_latest.items (suc synced) as_before

    pub closed_rests : Rests mid now.name (Some h.in_latest.items)
    closed_rests =
        subst (λ b. LogStands mid now.name b h.in_latest.items (length h.in_latest.items))
        (ap (λ (l : Handle). l.closed) marked) closed.stands

    pub other_gone : Rests mid to None
    other_gone = subst (λ n. Rests mid n None) (sym to_is) still_gone

    under : (least : ℕ) → least ≤ length commits → (image : List ℕ → Option (List ℕ)) → UnderOne now.name to h.in_latest.items image
        → Rotates commits least image
    under least low image one =
        under_one commits h.in_latest.items least image h.in_latest.are low
        (subst (λ n. UnderOne latest n h.in_latest.items image) to_is
        (subst (λ n. UnderOne n to h.in_latest.items image) its_old_name one))

    pub retired_reads : (new : Past) → ((items : List (List ℕ)) → Rests mid now.name (Some items) → Rests mid to None
        → UnderOne now.name to items (reads new)) → Rotates commits (length commits) (reads new)
    retired_reads new later = under (length commits) (omega arith) (reads new) (later h.in_latest.items closed_rests other_gone)

    module _ {new : Past} where
      pub retired_moments : ((all : List (List ℕ)) (least : ℕ) → Stands old log all least → Moments (LogLeaves log.name all least) old mid)
          → ((items : List (List ℕ)) → Rests mid now.name (Some items) → Rests mid to None
          → Moments (Crashes (UnderOne now.name to items)) mid new)
          → Moments (Crashes (Rotates commits synced)) old new
      retired_moments given later =
          then_done _ old mid new (closing_moments given)
          (weaker (Crashes (UnderOne now.name to h.in_latest.items)) (Crashes (Rotates commits synced)) mid new
          (λ past here image w. under synced (some_synced old state commits synced h.in_latest) image (here image w))
          (later h.in_latest.items closed_rests other_gone))

      pub retired_sound : ((all : List (List ℕ)) (least : ℕ) → Stands old log all least → Moments (λ past. IsSound past log.name) old mid)
          → ((items : List (List ℕ)) → Rests mid now.name (Some items) → Rests mid to None
          → Moments (λ past. IsSound past now.name × IsSound past to) mid new) → Moments AreSound old new
      retired_sound given later =
          then_done AreSound old mid new (closing_sound given)
          (subst (λ n. Moments (λ past. IsSound past latest × IsSound past n) mid new) to_is
          (subst (λ n. Moments (λ past. IsSound past n × IsSound past to) mid new) its_old_name
          (later h.in_latest.items closed_rests other_gone)))

      pub retired_waits : (is_closed : Bool) → ((items : List (List ℕ)) → Rests mid now.name (Some items) → Rests mid to None
          → IsRenamed new now.name to items) → LogWaits new (record { commits = 0; closed = is_closed; waits = true }) commits
      retired_waits is_closed later = record {
        waits = refl;
        none = refl;
        items = h.in_latest.items;
        are = h.in_latest.are;
        renamed = subst (λ n. IsRenamed new latest n h.in_latest.items) to_is
            (subst (λ n. IsRenamed new n to h.in_latest.items) its_old_name (later h.in_latest.items closed_rests other_gone));
      }

      -- where memory was wanting for the rename
      pub retired_kept : (left : Handle) (count : ℕ) (waits : Bool) → waits ≡ state.waits → count ≡ state.commits → left ≡ now → new ≡ mid
          → BothStand new (state_of count waits left) None commits synced
      retired_kept left count waits still same is nothing =
          subst (λ past. BothStand past (state_of count waits left) None commits synced) (sym nothing)
          (record {
            in_previous = still_gone;
            in_latest = txn_stands mid left (state_of count waits left) commits h.in_latest.items synced (still ∙ h.in_latest.made)
                (handle_marked log left state count true at (is ∙ marked)) (same ∙ h.in_latest.count) h.in_latest.are
                (subst (λ l. Stands mid l h.in_latest.items (suc synced)) (sym is)
                (fewer_stands mid now h.in_latest.items (length h.in_latest.items) (suc synced) h.in_latest.stands.stands.within closed));
          })
