-- A log without commits is made and published.
use Rattle.std.proofs.Common.{◌≡◌, ◌⊎◌, ℕ, List, [], ◌∷◌, length, true, false, Option, None, Some, option_map, Ok, Err, refl, sym, ap, ◌∙◌, subst, inl, inr}
use Rattle.file_trait.specs.DiskModel.{Past, did, DiskOp, FileId, content, named, reads, Crashes, IsSettled, Spares}
use Rattle.file_trait.specs.Moments.{Moments}
use Rattle.file_trait.specs.Touched.{Touches}
use Rattle.file_trait.proofs.Frames.{named_other, settled_other}
use Rattle.file_trait.proofs.Moments.{then_done, weaker, at_end}
use Rattle.file_trait.proofs.Touched.{concerns_spares, kept, then_touched}
use Rattle.log_items.specs.Items.{log_bytes, AreContents}
use Rattle.log_items.proofs.Unique.{written}
use Rattle.disk_logs.specs.Crash.{Stands, DraftStands, IsSound, OldOrWhole}
use Rattle.disk_logs.specs.Logs.{Handle, draft_name, IsKept, IsMoved}
use Rattle.disk_logs.specs.declared.error.LogErr.{LogErr}
use Rattle.db_model.specs.Commits.{CommitRecord}
use Rattle.txn_log.specs.Commits.{head_text}
use Rattle.txn_log.specs.Logs.{latest, LogState, at_latest, Reads, TxnStands, OldOrCommits, IsLogName}
use Rattle.txn_log.specs.Opens.{Opens}
use Rattle.txn_log.proofs.Acts.{touches_more, txn_synced, handle_of}
use Rattle.txn_log.proofs.FirstItem.{text_of_head, head_fits}
use Rattle.txn_log.proofs.LogName.{latest_no_draft}

-- the log's name stands for no file, whatever a crash leaves
record IsNowhere (past : Past) : Type 0 where
  none : named past latest ≡ None
  settled : IsSettled past latest

no_name : (bytes : FileId → List ℕ) (name : Option FileId) → option_map bytes name ≡ None → name ≡ None
no_name bytes None is = refl
no_name bytes (Some file) is = absurd (cc)

nowhere : (past : Past) → reads past latest ≡ None → IsSettled past latest → IsNowhere past
nowhere past absent settled = record { none = no_name (content past) (named past latest) absent; settled = settled }

spared : (op : DiskOp) (past : Past) → Spares op latest → IsNowhere past → IsNowhere (did op past)
spared op past spares h = record { none = named_other past op latest spares ∙ h.none; settled = settled_other past op latest spares h.settled }

no_image : (past : Past) → IsNowhere past → Crashes (λ image. image latest ≡ None) past
no_image past h image w = w.is latest ∙ ap (option_map w.bytes) (h.settled w.names w.directory ∙ h.none)

-- a file without commits
is_new : (file : Option (List ℕ)) → file ≡ Some (log_bytes true (head_text ∷ [])) → Reads [] file
is_new file is = inr (log_bytes true (head_text ∷ []), is, (head_text ∷ [], (text_of_head, tt), (true, written true (head_text ∷ []) head_fits)))

no_commits : (commits : List CommitRecord) (file : Option (List ℕ)) → file ≡ None → Reads commits file → commits ≡ []
no_commits commits file none (inl (also, is)) = is
no_commits commits file none (inr (bytes, there, has)) = absurd (cc)

abbrev pub new_state : Handle → LogState
new_state log = record { commits = 0; closed = log.closed; waits = false }

-- ---- the draft

module _ (old mid : Past) (name : List ℕ) (name_is : name ≡ latest) (absent : reads old latest ≡ None) (touched : Touches (λ n. n ≡ draft_name name) old mid) where
  other_name : latest ≡ draft_name name → ⊥
  other_name is = latest_no_draft (is ∙ ap draft_name name_is)

  nowhere_moments : IsSettled old latest → Moments IsNowhere old mid
  nowhere_moments settled = kept (λ n. n ≡ draft_name name) IsNowhere old mid (λ op past concerns h. spared op past (concerns_spares (λ n. n ≡ draft_name name) op latest other_name concerns) h) touched
      (nowhere old absent settled)

  draft_moments : IsSettled old latest → Moments (OldOrCommits old []) old mid
  draft_moments settled = weaker IsNowhere (OldOrCommits old []) old mid (λ past h image w. inr (inl (no_image past h image w, refl))) (nowhere_moments settled)

  -- a name that stands for no file is sound
  draft_sound : Moments (λ past. IsSound past latest) old mid
  draft_sound =
      weaker (λ past. named past latest ≡ None) (λ past. IsSound past latest) old mid
      (λ past none file items there. absurd (cc (none, there)))
      (kept (λ n. n ≡ draft_name name) (λ past. named past latest ≡ None) old mid
      (λ op past concerns none. named_other past op latest (concerns_spares (λ n. n ≡ draft_name name) op latest other_name concerns) ∙ none)
      touched (no_name (content old) (named old latest) absent))

  draft_touches : Touches IsLogName old mid
  draft_touches = touches_more (λ n. n ≡ draft_name name) IsLogName old mid (λ n at. inr (at ∙ ap draft_name name_is)) touched

  -- it was not made
  pub no_draft : (error : LogErr) → ((other : List ℕ) → (other ≡ draft_name name → ⊥) → reads mid other ≡ reads old other) → Opens old mid (Err error)
  no_draft error others = record {
    log = tt;
    opened = λ commits has. tt;
    kept = λ commits has. subst (Reads commits) (sym (others latest other_name)) has;
    stands = λ commits has settled sound. tt;
    any_moment = λ commits has settled. subst (λ cs. Moments (OldOrCommits old cs) old mid) (sym (no_commits commits (reads old latest) absent has)) (draft_moments settled);
    sound = λ sound. draft_sound;
    touches = draft_touches;
  }

  -- ---- its publication

  module _ (new : Past) (draft : Handle) (draft_is : draft ≡ record { name = name; draft = true; closed = true })
      (here : reads mid (draft_name name) ≡ Some (log_bytes true (head_text ∷ [])))
      (drafted : DraftStands mid (draft_name name) (log_bytes true (head_text ∷ [])))
      (others : (other : List ℕ) → (other ≡ draft_name name → ⊥) → reads mid other ≡ reads old other)
      (moments : (whole : List ℕ) → DraftStands mid (draft_name draft.name) whole → Moments (OldOrWhole mid draft.name whole) mid new)
      (sound : (items : List (List ℕ)) → AreContents items → DraftStands mid (draft_name draft.name) (log_bytes draft.closed items)
      → IsSound mid draft.name → Moments (λ past. IsSound past draft.name) mid new)
      (touches : Touches (λ n. (n ≡ draft.name) ⊎ (n ≡ draft_name draft.name)) mid new) where
    draft_is_latest : draft.name ≡ latest
    draft_is_latest = ap (λ (l : Handle). l.name) draft_is ∙ name_is

    draft_here : reads mid (draft_name draft.name) ≡ Some (log_bytes true (head_text ∷ []))
    draft_here = ap (λ (l : Handle). reads mid (draft_name l.name)) draft_is ∙ here

    draft_stands : DraftStands mid (draft_name draft.name) (log_bytes draft.closed (head_text ∷ []))
    draft_stands = subst (λ (l : Handle). DraftStands mid (draft_name l.name) (log_bytes l.closed (head_text ∷ []))) (sym draft_is) drafted

    draft_closed : draft.closed ≡ true
    draft_closed = ap (λ (l : Handle). l.closed) draft_is

    publish_moments : IsSettled old latest → Moments (OldOrCommits old []) mid new
    publish_moments settled =
        let none = no_image mid (at_end IsNowhere old mid (nowhere_moments settled)) in
        weaker (OldOrWhole mid latest (log_bytes true (head_text ∷ []))) (OldOrCommits old []) mid new
        (λ past moment image w. elim (moment image w) [
          | inl before ↦ inr (inl (before.2 ∙ none before.0 before.1, refl))
          | inr now ↦ inr (is_new (image latest) now)
        ])
        (subst (λ n. Moments (OldOrWhole mid n (log_bytes true (head_text ∷ []))) mid new) draft_is_latest
        (moments (log_bytes true (head_text ∷ []))
        (subst (λ b. DraftStands mid (draft_name draft.name) (log_bytes b (head_text ∷ []))) draft_closed draft_stands)))

    made_sound : Moments (λ past. IsSound past latest) old new
    made_sound =
        let sound_now = at_end (λ past. IsSound past latest) old mid draft_sound in
        then_done (λ past. IsSound past latest) old mid new draft_sound
        (subst (λ n. Moments (λ past. IsSound past n) mid new) draft_is_latest
        (sound (head_text ∷ []) head_fits draft_stands (subst (IsSound mid) (sym draft_is_latest) sound_now)))

    made_moments : (commits : List CommitRecord) → Reads commits (reads old latest) → IsSettled old latest → Moments (OldOrCommits old commits) old new
    made_moments commits has settled = subst (λ cs. Moments (OldOrCommits old cs) old new) (sym (no_commits commits (reads old latest) absent has))
        (then_done (OldOrCommits old []) old mid new (draft_moments settled) (publish_moments settled))

    made_touches : Touches IsLogName old new
    made_touches = then_touched IsLogName old mid new draft_touches
        (touches_more (λ n. (n ≡ draft.name) ⊎ (n ≡ draft_name draft.name)) IsLogName mid new
        (λ n at. elim at [ inl is ↦ inl (is ∙ draft_is_latest) | inr is ↦ inr (is ∙ ap draft_name draft_is_latest) ]) touches)

    moved_reads : IsMoved (draft_name draft.name) draft.name mid new → reads new latest ≡ Some (log_bytes true (head_text ∷ []))
    moved_reads moved = ap (reads new) (sym draft_is_latest) ∙ moved.0 ∙ draft_here

    pub not_published : (error : LogErr)
        → IsKept (draft_name draft.name) draft.name mid new ⊎ IsMoved (draft_name draft.name) draft.name mid new → Opens old new (Err error)
    not_published error left = record {
      log = tt;
      opened = λ commits has. tt;
      kept = λ commits has. elim left [
        | inl same ↦ subst (Reads commits) (sym (ap (reads new) (sym draft_is_latest) ∙ same.1 ∙ ap (reads mid) draft_is_latest ∙ others latest other_name)) has
        | inr moved ↦ subst (λ cs. Reads cs (reads new latest)) (sym (no_commits commits (reads old latest) absent has)) (is_new (reads new latest) (moved_reads moved))
      ];
      stands = λ commits has settled sound. tt;
      any_moment = made_moments;
      sound = λ sound. made_sound;
      touches = made_touches;
    }

    pub published : (log : Handle) → log ≡ record { name = draft.name; draft = false; closed = draft.closed } → IsMoved (draft_name draft.name) draft.name mid new
        → ((items : List (List ℕ)) → AreContents items → DraftStands mid (draft_name draft.name) (log_bytes draft.closed items)
        → Stands new log items (length items))
        → Opens old new (Ok (new_state log))
    published log is moved stands = record {
      log = (head_text ∷ [], moved_reads moved ∙ ap (λ b. Some (log_bytes b (head_text ∷ []))) (sym is_closed));
      opened = λ commits has.
          let none = no_commits commits (reads old latest) absent has in
          (ap length (sym none), subst (λ cs. Reads cs (reads new latest)) (sym none) (is_new (reads new latest) (moved_reads moved)));
      kept = λ commits has. tt;
      stands = λ commits has settled sound.
          subst (λ cs. TxnStands new (new_state log) cs (length cs)) (sym (no_commits commits (reads old latest) absent has))
          (txn_synced new log (new_state log) [] (head_text ∷ []) refl log_is refl (text_of_head, tt)
          (stands (head_text ∷ []) head_fits draft_stands));
      any_moment = made_moments;
      sound = λ sound. made_sound;
      touches = made_touches;
    }
      where
        is_closed : log.closed ≡ true
        is_closed = ap (λ (l : Handle). l.closed) is ∙ draft_closed

        log_is : log ≡ at_latest (new_state log)
        log_is = handle_of log 0 (ap (λ (l : Handle). l.name) is ∙ draft_is_latest) (ap (λ (l : Handle). l.draft) is)
