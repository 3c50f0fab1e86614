-- A closed log gets another name.
use Rattle.std.proofs.Common.{◌≡◌, ◌≢◌, ◌⊎◌, inl, inr, ℕ, true, if◌then◌else◌, List, [], ◌∷◌, length, Option, None, Some, option_map, Result, Ok, Err, IsTrue, refl, sym, ap, ◌∙◌, subst, arith}
use Rattle.file_trait.specs.declared.disk.Disk.{Ghosts}
use Rattle.file_trait.specs.declared.disk.DiskErr.{DiskErr}
use Rattle.file_trait.specs.declared.disk.DiskErr.TheVariants.{Failed, Memory}
use Rattle.file_trait.specs.Calls.{Cause, Follows, Done}
use Rattle.file_trait.specs.DiskModel.{Past, did, DiskOp, Spares, to_file, to_dir, rename, sync, sync_failed, sync_dir, FileId, same_name, named, content, reads, FileLeaves, DirLeaves, Crashes, IsSettled}
use Rattle.file_trait.specs.Moments.{Moments}
use Rattle.file_trait.specs.Touched.{Touches}
use Rattle.file_trait.proofs.Files.{reads_other}
use Rattle.file_trait.proofs.Frames.{named_other}
use Rattle.file_trait.proofs.Images.{reads_image}
use Rattle.file_trait.proofs.Moments.{none_done, one_done, at_end}
use Rattle.file_trait.proofs.Names.{same_name_refl, if_other}
use Rattle.file_trait.proofs.Touched.{concerns_spares, kept, done_touches}
use Rattle.log_items.specs.Items.{log_bytes}
use Rattle.disk_logs.specs.Crash.{LogStands, IsSound}
use Rattle.disk_logs.specs.Calls.{LogCalls}
use Rattle.disk_logs.specs.Errors.{told, OnlyFileOrMemory}
use Rattle.disk_logs.specs.declared.error.LogErr.{LogErr}
use Rattle.disk_logs.specs.Logs.{IsMoved}
use Rattle.disk_logs.specs.Rests.{IsGone, FileHas, Rests, OneOfTwo, IsRenamed, UnderOne}
use Rattle.disk_logs.proofs.Appends.{renamed}
use Rattle.disk_logs.proofs.Calls.{told_some, told_calls}
use Rattle.disk_logs.proofs.Effects.{done_ok}
use Rattle.disk_logs.proofs.Resting.{no_name, has_marked, rests_leaves, rests_sound}
use Rattle.disk_logs.proofs.Sound.{absent_sound, sound_stands, spared_sound, stands_sound}
use Rattle.disk_logs.proofs.Standing.{file_named, file_content, grew_same}

-- ---- what a crash leaves of a log that was renamed

module _ (past : Past) (from to : List ℕ) (items : List (List ℕ)) (h : IsRenamed past from to items) where
  -- a file that has its name reads as its items
  own_items : (o : Option FileId) → named past to ≡ o → (bytes : FileId → List ℕ) → ((i : FileId) → FileLeaves past i (bytes i))
      → (image : Option (List ℕ)) → image ≡ option_map bytes o → FileHas (Some items) image
  own_items None is bytes each image now =
      let none : None ≡ Some (log_bytes true items) = ap (option_map (content past)) (sym is) ∙ h.read in absurd (cc none)
  own_items (Some i) is bytes each image now =
      let same : Some (content past i) ≡ Some (log_bytes true items) = ap (option_map (content past)) (sym is) ∙ h.read in
      let here : content past i ≡ log_bytes true items = cc same in
      (bytes i, now, has_marked items (bytes i) h.fit ((h.sound i items is h.fit here).1 (bytes i) (each i)))

  pub renamed_leaves : Crashes (UnderOne from to items) past
  renamed_leaves image w = elim (h.called w.names w.directory) [
    | inl old ↦ inl (
      own_items (named past to) refl w.bytes w.each (image from) (w.is from ∙ ap (option_map w.bytes) old.0),
      w.is to ∙ ap (option_map w.bytes) old.1,
    )
    | inr new ↦ inr (
      own_items (named past to) refl w.bytes w.each (image to) (w.is to ∙ ap (option_map w.bytes) new.0),
      w.is from ∙ ap (option_map w.bytes) new.1,
    )
  ]

  pub renamed_sound : IsSound past from × IsSound past to
  renamed_sound = (absent_sound past from h.gone, h.sound)

  -- once a crash leaves it no other name
  pub renamed_rests : IsSettled past to → Rests past to (Some items)
  renamed_rests settled = sound_stands past to items h.sound settled h.fit h.read

  -- while others are worked on
  pub spared_renamed : (op : DiskOp) → Spares op from → Spares op to → IsRenamed (did op past) from to items
  spared_renamed op first second = record {
    fit = h.fit;
    read = reads_other past op to second ∙ h.read;
    gone = reads_other past op from first ∙ h.gone;
    sound = spared_sound past op to second h.sound;
    called = called op first second;
  }
    where
      none : named past from ≡ None
      none = no_name (content past) (named past from) h.gone

      called : (op : DiskOp) → Spares op from → Spares op to → (names : List ℕ → Option FileId) → DirLeaves (did op past) names
          → OneOfTwo (named (did op past) to) from to names
      called (to_file name op) first second names left = h.called names left
      called (to_dir op) first second names (inl before) =
          subst (λ file. OneOfTwo file from to names) (sym (named_other past (to_dir op) to second)) (h.called names before)
      called (to_dir op) first second names (inr now) = inr
          (ap (λ f. f to) now, ap (λ f. f from) now ∙ named_other past (to_dir op) from first ∙ none)
      called (sync name) first second names left = h.called names left
      called (sync_failed name) first second names left = h.called names left
      called sync_dir first second names is = inr (ap (λ f. f to) is, ap (λ f. f from) is ∙ none)

pub renamed_kept : (N : List ℕ → Type 0) (from to : List ℕ) (items : List (List ℕ)) (old new : Past) → (N from → ⊥) → (N to → ⊥)
    → Touches N old new → IsRenamed old from to items → Moments (λ past. IsRenamed past from to items) old new
renamed_kept N from to items old new first second touches h =
    kept N (λ past. IsRenamed past from to items) old new
    (λ op past concerns r. spared_renamed past from to items r op (concerns_spares N op from first concerns)
    (concerns_spares N op to second concerns))
    touches h

pub renamed_other : (other from to : List ℕ) (items : List (List ℕ)) (old new : Past) → other ≢ from → other ≢ to
    → Touches (λ n. n ≡ other) old new → IsRenamed old from to items → Moments (λ past. IsRenamed past from to items) old new
renamed_other other from to items old new first second =
    renamed_kept (λ n. n ≡ other) from to items old new (λ is. first (sym is)) (λ is. second (sym is))

-- ---- the rename itself

module _ (old : Past) (from to : List ℕ) (items : List (List ℕ)) (apart : from ≢ to) (h : LogStands old from true items (length items))
    (gone : IsGone old to) where
  abbrev renamed_past : Past
  renamed_past = did (to_dir (rename from to)) old

  to_file_now : named renamed_past to ≡ Some h.file
  to_file_now =
      ap (λ b. if b then named old from else if same_name from to then None else named old to) (same_name_refl to)
      ∙ file_named old from true items (length items) h

  from_none : named renamed_past from ≡ None
  from_none =
      if_other to from (named old from) (if same_name from from then None else named old from) (λ is. apart (sym is))
      ∙ ap (λ b. if b then None else named old from) (same_name_refl from)

  -- what stood before is what stands under the new name
  sound_now : IsSound renamed_past to
  sound_now i others is fit closed =
      let at : Some h.file ≡ Some i = sym to_file_now ∙ is in
      let here : h.file ≡ i = cc at in
      let s = stands_sound old from true items (length items) h i others
      (file_named old from true items (length items) h ∙ at) fit closed in
      (grew_same old (to_dir (rename from to)) i refl s.0, s.1)

  pub now_renamed : IsRenamed renamed_past from to items
  now_renamed = record {
    fit = h.fit;
    read = ap (option_map (content renamed_past)) to_file_now ∙ ap (λ b. Some b) (file_content old from true items (length items) h);
    gone = ap (option_map (content renamed_past)) from_none;
    sound = sound_now;
    called = λ names left. elim left [
      | inl before ↦ inl (h.settled names before ∙ sym to_file_now, gone names before)
      | inr now ↦ inr (ap (λ f. f to) now, ap (λ f. f from) now ∙ from_none)
    ];
  }

  before_leaves : Crashes (UnderOne from to items) old
  before_leaves image w = inl (rests_leaves old from (Some items) h image w, rests_leaves old to None gone image w)

  before_sound : IsSound old from × IsSound old to
  before_sound = (rests_sound old from (Some items) h, rests_sound old to None gone)

  each_rename : (P : Past → Type 0) → P old → P renamed_past → (r : Result Unit DiskErr) (new : Past)
      → Done (to_dir (rename from to)) r old new → Moments P old new
  each_rename P before after (Ok x) new is = one_done P (to_dir (rename from to)) old new is before after
  each_rename P before after (Err Failed) new (inl is) = none_done P old new is before
  each_rename P before after (Err Failed) new (inr is) = one_done P (to_dir (rename from to)) old new is before after
  each_rename P before after (Err Memory) new is = none_done P old new is before

  pub rename_moments : (r : Result Unit DiskErr) (new : Past) → Done (to_dir (rename from to)) r old new
      → Moments (Crashes (UnderOne from to items)) old new
  rename_moments = each_rename (Crashes (UnderOne from to items)) before_leaves (renamed_leaves renamed_past from to items now_renamed)

  pub rename_reads : (r : Result Unit DiskErr) (new : Past) → Done (to_dir (rename from to)) r old new → UnderOne from to items (reads new)
  rename_reads r new done = at_end (Crashes (UnderOne from to items)) old new (rename_moments r new done) (reads new) (reads_image new)

  pub rename_sound : (r : Result Unit DiskErr) (new : Past) → Done (to_dir (rename from to)) r old new
      → Moments (λ past. IsSound past from × IsSound past to) old new
  rename_sound = each_rename (λ past. IsSound past from × IsSound past to) before_sound
      (renamed_sound renamed_past from to items now_renamed)

  pub rename_ok : (name : List ℕ) (r : Result Unit DiskErr) (t : Result Unit LogErr) (x : Unit {0}) (new : Past) → t ≡ told name r
      → t ≡ Ok x
      → Done (to_dir (rename from to)) r old new → IsRenamed new from to items
  rename_ok name r t x new told_so ok done =
      subst (λ past. IsRenamed past from to items) (sym (done_ok (to_dir (rename from to)) name r t x old new told_so ok done)) now_renamed

pub rename_moved : (old new : Past) (from to name : List ℕ) (r : Result Unit DiskErr) (t : Result Unit LogErr) (x : Unit {0}) → from ≢ to
    → t ≡ told name r → t ≡ Ok x → Done (to_dir (rename from to)) r old new → IsMoved from to old new
rename_moved old new from to name r t x apart told_so ok done =
    subst (IsMoved from to old) (sym (done_ok (to_dir (rename from to)) name r t x old new told_so ok done)) (renamed old from to apart)

-- what was done to the file is done under the log's name
pub under_name : (at from to : List ℕ) (r : Result Unit DiskErr) (old new : Past) → at ≡ from → Done (to_dir (rename at to)) r old new
    → Done (to_dir (rename from to)) r old new
under_name at from to r old new is done = subst (λ n. Done (to_dir (rename n to)) r old new) is done

-- what the call owes
pub rename_calls : {D : Type 0} (g : Ghosts D) (at from to : List ℕ) (old new : D) (r : Result Unit DiskErr) (t : Result Unit LogErr)
    → at ≡ from → t ≡ told at r → (IsTrue g.tells → Done (to_dir (rename at to)) r (g.past old) (g.past new))
    → Follows (g.moment old) (g.moment new) → Cause (at ∷ to ∷ []) (g.faults old) (g.faults new) (g.blamed old) (g.blamed new) r
    → LogCalls g old new (λ n. (n ≡ from) ⊎ (n ≡ to)) OnlyFileOrMemory t
rename_calls g at from to old new r t is told_so done time cause =
    told_calls g (λ n. (n ≡ from) ⊎ (n ≡ to)) old new OnlyFileOrMemory (at ∷ to ∷ []) at r t told_so (inl is) (inr (0, omega arith, refl))
    (λ tells. done_touches (λ n. (n ≡ from) ⊎ (n ≡ to)) (to_dir (rename at to)) r _ _ (done tells) (inl is, inr refl)) time
    (told_some at r) cause
