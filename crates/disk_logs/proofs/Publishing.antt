-- A draft is made, is synced, and gets the name of a log.
use Rattle.std.proofs.Common.{◌≡◌, ◌≢◌, inl, inr, ℕ, ◌≤◌, Bool, true, false, if◌then◌else◌, List, [], ◌++◌, length, Option, None, Some, option_map, Result, Ok, Err, IsErrOf, refl, sym, ap, ◌∙◌, subst, arith, length-append}
use Rattle.file_trait.specs.declared.disk.DiskErr.{DiskErr}
use Rattle.file_trait.specs.declared.disk.DiskErr.TheVariants.{Failed, Memory}
use Rattle.file_trait.specs.Calls.{IsSureOf, IsDurable, IsDirDurable, Done, Synced, SyncedDir}
use Rattle.file_trait.specs.DiskModel.{Past, handed, did, DiskOp, Spares, to_file, to_dir, create, rename, append, sync, sync_failed, sync_dir, FileId, made, clock, same_name, same_file, renamed, named, content, reads, FileLeaves, DirLeaves, IsSure, Stood, IsHonest, IsImage, Crashes, IsSettled}
use Rattle.file_trait.specs.Guard.{IsGuarded, StandsAt}
use Rattle.file_trait.specs.Moments.{Moments}
use Rattle.file_trait.specs.Touched.{Touches}
use Rattle.log_items.specs.Items.{wire, log_bytes, AreContents}
use Rattle.disk_logs.specs.Crash.{KeepsSynced, OnlyGrew, LogStands, Stands, DraftStands, IsSound, OldOrWhole, OldOrPublished}
use Rattle.file_trait.proofs.Changes.{sync_adds_none, sync_failed_adds_none, sync_dir_adds_none, old_or_new}
use Rattle.file_trait.proofs.Durable.{unmade_leaves, synced_dir_durable}
use Rattle.file_trait.proofs.Files.{content_self, unmade}
use Rattle.file_trait.proofs.Frames.{named_other, settled_other, content_spared, leaves_spared}
use Rattle.file_trait.proofs.Images.{file_reads, dir_reads, reads_image, honest_now, honest_same, stood_same, redone_leaves}
use Rattle.file_trait.proofs.Moments.{none_done, one_done, then_done, weaker, at_end}
use Rattle.file_trait.proofs.Names.{same_name_refl, same_file_refl, same_file_true}
use Rattle.file_trait.proofs.Touched.{touched, untouched}
use Rattle.log_items.proofs.ItemLemmas.{length-item_bytes}
use Rattle.log_items.proofs.Unique.{same_closed}
use Rattle.disk_logs.specs.declared.error.LogErr.{LogErr}
use Rattle.disk_logs.specs.declared.error.LogErr.TheVariants.{File}
use Rattle.disk_logs.specs.Errors.{told, LogCause}
use Rattle.disk_logs.proofs.Effects.{done_ok, told_ok}
use Rattle.disk_logs.proofs.Sound.{open_sound, spared_sound}
use Rattle.disk_logs.proofs.Standing.{grew_append, grew_same, exact_stands, sure_changed}

-- whatever a crash leaves now, the name reads as a crash could leave it at first
abbrev pub OldUnder : Past → List ℕ → Past → Type 0
OldUnder old name = Crashes (λ image. (earlier : List ℕ → Option (List ℕ)) × IsImage old earlier × (image name ≡ earlier name))

-- a draft of which a crash leaves only what it reads as
pub record IsReady (past : Past) (draft whole : List ℕ) : Type 0 where
  pub file : FileId
  pub is : named past draft ≡ Some file
  pub bytes : content past file ≡ whole
  pub sure : IsSure past file
  pub grew : OnlyGrew past file
  pub only : (left : List ℕ) → FileLeaves past file left → left ≡ whole

-- ---- while other files are worked on

module _ (past : Past) (op : DiskOp) (name : List ℕ) (settled : IsSettled past name) (spares : Spares op name) (image : List ℕ → Option (List ℕ)) (w : IsImage (did op past) image) where
  same_names : w.names name ≡ named past name
  same_names = settled_other past op name spares settled w.names w.directory ∙ named_other past op name spares

  module _ (file : FileId) (is : named past name ≡ Some file) where
    abbrev alone : FileId → List ℕ
    alone i = if same_file file i then w.bytes file else content past i

    each_alone : (i : FileId) (b : Bool) → same_file file i ≡ b → FileLeaves past i (if b then w.bytes file else content past i)
    each_alone i true same = subst (λ j. FileLeaves past j (w.bytes file)) (same_file_true file i same) (leaves_spared past op name file (w.bytes file) spares is (w.each file))
    each_alone i false apart = file_reads past i

    honest_alone : (i : FileId) (b : Bool) → same_file file i ≡ b → IsHonest past i (if b then w.bytes file else content past i)
    honest_alone i true same = subst (λ j. IsHonest past j (w.bytes file)) (same_file_true file i same) (honest_same past op file (w.bytes file) (content_spared past op name file spares is) (w.honest file))
    honest_alone i false apart = honest_now past i

    there : (earlier : List ℕ → Option (List ℕ)) × IsImage past earlier × (image name ≡ earlier name)
    there = (
      λ other. option_map alone (named past other),
      record {
        names = named past;
        bytes = alone;
        directory = dir_reads past;
        each = λ i. each_alone i (same_file file i) refl;
        honest = λ i. honest_alone i (same_file file i) refl;
        is = λ other. refl;
      },
      w.is name ∙ ap (option_map w.bytes) (same_names ∙ is) ∙ ap (λ b. Some (if b then w.bytes file else content past file)) (sym (same_file_refl file)) ∙ ap (option_map alone) (sym is),
    )

  absent : named past name ≡ None → (earlier : List ℕ → Option (List ℕ)) × IsImage past earlier × (image name ≡ earlier name)
  absent is = (reads past, reads_image past, w.is name ∙ ap (option_map w.bytes) (same_names ∙ is) ∙ ap (option_map (content past)) (sym is))

  pub spared_image : (earlier : List ℕ → Option (List ℕ)) × IsImage past earlier × (image name ≡ earlier name)
  spared_image = go (named past name) refl
    where
      go : (o : Option FileId) → named past name ≡ o → (earlier : List ℕ → Option (List ℕ)) × IsImage past earlier × (image name ≡ earlier name)
      go None is = absent is
      go (Some file) is = there file is

pub old_now : (old : Past) (name : List ℕ) → OldUnder old name old
old_now old name image w = (image, w, refl)

-- the name keeps what a crash could leave under it at first
pub old_kept : (old past : Past) (op : DiskOp) (name : List ℕ) → IsSettled past name → Spares op name → OldUnder old name past → OldUnder old name (did op past)
old_kept old past op name settled spares h image w =
    let before = spared_image past op name settled spares image w in
    let first = h before.0 before.1 in
    (first.0, first.1, before.2 ∙ first.2)

-- ---- a draft

unmade_sure : (past : Past) (m : ℕ) → clock past ≤ m → IsSure past (made m)
unmade_sure past m le bytes redone = unmade_leaves past m bytes le (redone_leaves past (made m) bytes redone) ∙ sym (unmade past m le)

nothing_stands : (n : ℕ) (item : List ℕ) → IsGuarded item → StandsAt [] n item → ⊥
nothing_stands n item (content, fits, is) (before, after, long, whole) =
    omega (arith, ap length whole, length-append before (item ++ after), length-append item after, ap length is, length-item_bytes content)

-- and nothing has stood there
unmade_stood : (past : Past) (m n : ℕ) (item : List ℕ) → clock past ≤ m → IsGuarded item → Stood past (made m) n item → ⊥
unmade_stood (handed files) m n item le guarded at = nothing_stands n item guarded at
unmade_stood (did op past) m n item le guarded (inl now) = nothing_stands n item guarded (subst (λ b. StandsAt b n item) (unmade (did op past) m le) now)
unmade_stood (did op past) m n item le guarded (inr before) = unmade_stood past m n item (omega (arith, le)) guarded before

pub draft_made : (past : Past) (draft : List ℕ) → DraftStands (did (to_dir (create draft)) past) draft []
draft_made past draft = record {
  file = made (clock past);
  is = ap (λ b. if b then Some (made (clock past)) else named past draft) (same_name_refl draft);
  bytes = unmade past (clock past) (omega arith);
  sure = unmade_sure past (clock past) (omega arith);
  grew = λ n item low guarded stood. absurd (go n item guarded stood);
}
  where
    go : (n : ℕ) (item : List ℕ) → IsGuarded item → Stood (did (to_dir (create draft)) past) (made (clock past)) n item → ⊥
    go n item guarded (inl now) = nothing_stands n item guarded (subst (λ b. StandsAt b n item) (unmade past (clock past) (omega arith)) now)
    go n item guarded (inr before) = unmade_stood past (clock past) n item (omega arith) guarded before

pub draft_grows : (past : Past) (draft front bytes : List ℕ) → DraftStands past draft front → DraftStands (did (to_file draft (append bytes)) past) draft (front ++ bytes)
draft_grows past draft front bytes d = record {
  file = d.file;
  is = d.is;
  bytes = content_self past draft (append bytes) d.file d.is ∙ ap (λ b. b ++ bytes) d.bytes;
  sure = λ left redone. sure_changed past draft (append bytes) (λ i is. subst (λ j. IsSure past j) (here i is) d.sure) d.file d.is left redone;
  grew = grew_append past draft d.file bytes d.is d.grew;
}
  where
    here : (i : FileId) → named past draft ≡ Some i → d.file ≡ i
    here i is = let same : Some d.file ≡ Some i = sym d.is ∙ is in cc same

-- ---- it is synced

-- a sync that was answered well adds no name, nothing to what is left of a file, and no item to what stood in it
record AddsNone (old mid : Past) : Type 0 where
  names : named mid ≡ named old
  leaves : (i : FileId) (bytes : List ℕ) → FileLeaves mid i bytes → FileLeaves old i bytes
  stood : (i : FileId) (n : ℕ) (part : List ℕ) → Stood mid i n part → Stood old i n part
  fewer : (image : List ℕ → Option (List ℕ)) → IsImage mid image → IsImage old image

adds_none : (x : Unit {0}) (old mid : Past) (draft : List ℕ) → Synced draft (Ok x) old mid → AddsNone old mid
adds_none x old mid draft (inl is) = subst (AddsNone old) (sym is) record {
  names = refl;
  leaves = λ i bytes left. left.0;
  stood = λ i n part at. stood_same old (sync draft) i n part refl at;
  fewer = λ image w. sync_adds_none old draft image w;
}
adds_none x old mid draft (inr (is, durable)) =
    subst (AddsNone old) (sym is) record { names = refl; leaves = λ i bytes left. left; stood = λ i n part at. at; fewer = λ image w. w }

pub ready : (x : Unit {0}) (past new : Past) (draft whole : List ℕ) → DraftStands past draft whole → Synced draft (Ok x) past new → IsReady new draft whole
ready x past new draft whole d (inl is) = subst (λ p. IsReady p draft whole) (sym is) record {
  file = d.file;
  is = d.is;
  bytes = d.bytes;
  sure = d.sure;
  grew = grew_same past (sync draft) d.file refl d.grew;
  only = λ left leaves. d.sure left (leaves.1 d.is) ∙ d.bytes;
}
ready x past new draft whole d (inr (is, durable)) = subst (λ p. IsReady p draft whole) (sym is) record {
  file = d.file;
  is = d.is;
  bytes = d.bytes;
  sure = d.sure;
  grew = d.grew;
  only = λ left leaves. durable d.file d.is left leaves ∙ d.bytes;
}

-- ---- it gets the name, and the directory is synced

module _ (past : Past) (draft name whole : List ℕ) (d : IsReady past draft whole) where
  abbrev pub moved : Past
  moved = did (to_dir (rename draft name)) past

  pub now_named : named moved name ≡ Some d.file
  now_named = ap (λ b. if b then named past draft else if same_name draft name then None else named past name) (same_name_refl name) ∙ d.is

  now_read : reads moved name ≡ Some whole
  now_read = ap (option_map (content past)) now_named ∙ ap (λ b. Some b) d.bytes

  same_now : (i : FileId) → named moved name ≡ Some i → d.file ≡ i
  same_now i at = let same : Some d.file ≡ Some i = sym now_named ∙ at in cc same

  grew_now : OnlyGrew moved d.file
  grew_now = grew_same past (to_dir (rename draft name)) d.file refl d.grew

  durable_now : IsDurable moved name
  durable_now i at left leaves = d.only left (subst (λ j. FileLeaves past j left) (sym (same_now i at)) leaves) ∙ sym d.bytes ∙ ap (content past) (same_now i at)

  sure_now : IsSureOf moved name
  sure_now i at = subst (λ j. IsSure moved j) (same_now i at) d.sure

  module _ (x : Unit {0}) (new : Past) where
    either_way : (P : Past → Type 0) → P moved → P (did sync_dir moved) → SyncedDir (Ok x) moved new → P new
    either_way P before after (inl is) = subst P (sym is) after
    either_way P before after (inr (is, durable)) = subst P (sym is) before

    settled : SyncedDir (Ok x) moved new → (names : List ℕ → Option FileId) → DirLeaves new names → names name ≡ Some d.file
    settled (inl is) names left = ap (λ f. f name) (subst (λ p. DirLeaves p names) is left) ∙ now_named
    settled (inr (is, durable)) names left = ap (λ f. f name) (durable names (subst (λ p. DirLeaves p names) is left)) ∙ now_named

    pub published_durable : SyncedDir (Ok x) moved new → IsDurable new name
    published_durable = either_way (λ p. IsDurable p name) durable_now durable_now

    pub published_sure : SyncedDir (Ok x) moved new → IsSureOf new name
    published_sure = either_way (λ p. IsSureOf p name) sure_now sure_now

    pub published_stands : (closed : Bool) (items : List (List ℕ)) → AreContents items → whole ≡ log_bytes closed items → SyncedDir (Ok x) moved new → LogStands new name closed items (length items)
    published_stands closed items fit is done =
        exact_stands new name closed items d.file fit
        (either_way (λ p. reads p name ≡ Some whole) now_read now_read done ∙ ap (λ b. Some b) is)
        (settled done)
        (either_way (λ p. OnlyGrew p d.file) grew_now (grew_same moved sync_dir d.file refl grew_now) done)
        (λ left leaves. either_way (λ p. (left : List ℕ) → FileLeaves p d.file left → left ≡ whole) d.only d.only done left leaves ∙ is)

-- a draft that is ready is sound under the name
pub moved_sound : (past : Past) (draft name : List ℕ) (closed : Bool) (items : List (List ℕ)) → AreContents items → IsReady past draft (log_bytes closed items)
    → IsSound (did (to_dir (rename draft name)) past) name
moved_sound past draft name false items fit d i others is also closed =
    open_sound (did (to_dir (rename draft name)) past) name (wire items) (now_read past draft name (log_bytes false items) d) i others is also closed
moved_sound past draft name true items fit d i others is also closed =
    let here : d.file ≡ i = same_now past draft name (log_bytes true items) d i is in
    let same : items ≡ others = same_closed items others fit also (sym d.bytes ∙ ap (content past) here ∙ closed) in (
      subst (OnlyGrew (did (to_dir (rename draft name)) past)) here (grew_now past draft name (log_bytes true items) d),
      λ left leaves. subst (λ xs. KeepsSynced true xs (length xs) left) same (true, d.only left (subst (λ j. FileLeaves past j left) (sym here) leaves)),
    )

-- ---- at each moment

-- all was done
pub record Published (draft name : List ℕ) (old new : Past) : Type 0 where
  pub x : Unit {0}
  pub mid : Past
  pub synced : Synced draft (Ok x) old mid
  pub settled : SyncedDir (Ok x) (did (to_dir (rename draft name)) mid) new

-- what was done so far
pub data Step (draft name : List ℕ) (old new : Past) : Type 0 where
  syncing : (r : Result Unit DiskErr) (synced : Synced draft r old new) → Step draft name old new
  renaming : (x : Unit {0}) (mid : Past) (r : Result Unit DiskErr) (synced : Synced draft (Ok x) old mid) (renamed : Done (to_dir (rename draft name)) r mid new) → Step draft name old new
  settling : (x : Unit {0}) (mid : Past) (r : Result Unit DiskErr) (synced : Synced draft (Ok x) old mid) (settled : SyncedDir r (did (to_dir (rename draft name)) mid) new) → Step draft name old new

module _ (P : Past → Type 0) (draft name : List ℕ) (old : Past) (first : P old) (synced : P (did (sync draft) old)) (failed : P (did (sync_failed draft) old))
    (after : (x : Unit {0}) (mid : Past) → Synced draft (Ok x) old mid → P (did (to_dir (rename draft name)) mid) × P (did sync_dir (did (to_dir (rename draft name)) mid))) where
  at_sync : (r : Result Unit DiskErr) (new : Past) → Synced draft r old new → Moments P old new
  at_sync (Ok x) new (inl is) = one_done P (sync draft) old new is first synced
  at_sync (Ok x) new (inr (is, durable)) = none_done P old new is first
  at_sync (Err Failed) new (inl is) = none_done P old new is first
  at_sync (Err Failed) new (inr (inl is)) = one_done P (sync draft) old new is first synced
  at_sync (Err Failed) new (inr (inr is)) = one_done P (sync_failed draft) old new is first failed
  at_sync (Err Memory) new never = absurd never

  module _ (x : Unit {0}) (mid : Past) (s : Synced draft (Ok x) old mid) where
    abbrev at_name : Past
    at_name = did (to_dir (rename draft name)) mid

    before : P mid
    before = at_end P old mid (at_sync (Ok x) mid s)

    at_rename : (r : Result Unit DiskErr) (new : Past) → Done (to_dir (rename draft name)) r mid new → Moments P mid new
    at_rename (Ok y) new is = one_done P (to_dir (rename draft name)) mid new is before (after x mid s).0
    at_rename (Err Failed) new (inl is) = none_done P mid new is before
    at_rename (Err Failed) new (inr is) = one_done P (to_dir (rename draft name)) mid new is before (after x mid s).0
    at_rename (Err Memory) new is = none_done P mid new is before

    at_sync_dir : (r : Result Unit DiskErr) (new : Past) → SyncedDir r at_name new → Moments P at_name new
    at_sync_dir (Ok y) new (inl is) = one_done P sync_dir at_name new is (after x mid s).0 (after x mid s).1
    at_sync_dir (Ok y) new (inr (is, durable)) = none_done P at_name new is (after x mid s).0
    at_sync_dir (Err Failed) new (inl is) = none_done P at_name new is (after x mid s).0
    at_sync_dir (Err Failed) new (inr is) = one_done P sync_dir at_name new is (after x mid s).0 (after x mid s).1
    at_sync_dir (Err Memory) new never = absurd never

  step_moments : (new : Past) → Step draft name old new → Moments P old new
  step_moments new (syncing r s) = at_sync r new s
  step_moments new (renaming x mid r s d) = then_done P old mid new (at_sync (Ok x) mid s) (at_rename x mid s r new d)
  step_moments new (settling x mid r s d) =
      then_done P old mid new (at_sync (Ok x) mid s) (then_done P mid (at_name x mid s) new (at_rename x mid s (Ok x) (at_name x mid s) refl) (at_sync_dir x mid s r new d))

-- ---- what a crash leaves while it is published

module _ (draft name whole : List ℕ) (old : Past) (d : DraftStands old draft whole) where
  module _ (x : Unit {0}) (mid : Past) (s : Synced draft (Ok x) old mid) where
    r : IsReady mid draft whole
    r = ready x old mid draft whole d s

    n : AddsNone old mid
    n = adds_none x old mid draft s

    honest_old : (i : FileId) (bytes : List ℕ) → IsHonest mid i bytes → IsHonest (did sync_dir (did (to_dir (rename draft name)) old)) i bytes
    honest_old i bytes honest m item low guarded at = inr (inr (n.stood i m item (honest m item low guarded at)))

    moved_image : OldOrPublished old draft name whole (did (to_dir (rename draft name)) mid)
    moved_image image w = elim (old_or_new mid (rename draft name) image w) [
      | inl before ↦ inl (n.fewer image before)
      | inr (bytes, each, honest, is) ↦ inr (
        is name ∙ ap (option_map bytes) (now_named mid draft name whole r) ∙ ap (λ b. Some b) (r.only (bytes r.file) (each r.file)),
        record {
          names = named (did (to_dir (rename draft name)) old);
          bytes = bytes;
          directory = refl;
          each = λ i. n.leaves i (bytes i) (each i);
          honest = λ i. honest_old i (bytes i) (honest i);
          is = λ other. is other ∙ ap (λ (names : List ℕ → Option FileId). option_map bytes (renamed (rename draft name) r.file names other)) n.names;
        },
      )
    ]

    settled_image : OldOrPublished old draft name whole (did sync_dir (did (to_dir (rename draft name)) mid))
    settled_image image w = moved_image image (sync_dir_adds_none (did (to_dir (rename draft name)) mid) image w)

  pub images_step : (new : Past) → Step draft name old new → Moments (OldOrPublished old draft name whole) old new
  images_step new =
      step_moments (OldOrPublished old draft name whole) draft name old (λ image w. inl w) (λ image w. inl (sync_adds_none old draft image w)) (λ image w. inl (sync_failed_adds_none old draft image w))
      (λ x mid s. (moved_image x mid s, settled_image x mid s)) new

  pub name_step : (new : Past) → Step draft name old new → Moments (OldOrWhole old name whole) old new
  name_step new step = weaker (OldOrPublished old draft name whole) (OldOrWhole old name whole) old new
      (λ past h image w. elim (h image w) [ inl before ↦ inl (image, before, refl) | inr now ↦ inr now.0 ]) (images_step new step)

-- ---- the log of the name stays sound

pub sound_step : (draft name : List ℕ) (closed : Bool) (items : List (List ℕ)) (old new : Past) → draft ≢ name → AreContents items → DraftStands old draft (log_bytes closed items) → IsSound old name
    → Step draft name old new → Moments (λ past. IsSound past name) old new
sound_step draft name closed items old new apart fit d sound =
    step_moments (λ past. IsSound past name) draft name old sound (spared_sound old (sync draft) name tt sound) (spared_sound old (sync_failed draft) name apart sound)
    (λ x mid s. let now = moved_sound mid draft name closed items fit (ready x old mid draft (log_bytes closed items) d s) in
    (now, spared_sound (did (to_dir (rename draft name)) mid) sync_dir name tt now)) new

-- ---- the calls, one after another

module _ (at to draft name : List ℕ) (r1 : Result Unit DiskErr) (old mid : Past) (at_is : at ≡ draft) (to_is : to ≡ name) (synced : Synced at r1 old mid) where
  same_sync : Synced draft r1 old mid
  same_sync = subst (λ n. Synced n r1 old mid) at_is synced

  pub first_step : Step draft name old mid
  first_step = syncing r1 same_sync

  module _ (t1 : Result Unit LogErr) (x1 : Unit {0}) (told1 : t1 ≡ told at r1) (ok1 : t1 ≡ Ok x1) (r2 : Result Unit DiskErr) (moved : Past) (renames : Done (to_dir (rename at to)) r2 mid moved) where
    synced_ok : Synced draft (Ok x1) old mid
    synced_ok = subst (λ r. Synced draft r old mid) (told_ok at r1 x1 (sym told1 ∙ ok1)) same_sync

    pub second_step : Step draft name old moved
    second_step = renaming x1 mid r2 synced_ok (subst (λ n. Done (to_dir (rename draft n)) r2 mid moved) to_is (subst (λ n. Done (to_dir (rename n to)) r2 mid moved) at_is renames))

    module _ (t2 : Result Unit LogErr) (x2 : Unit {0}) (told2 : t2 ≡ told at r2) (ok2 : t2 ≡ Ok x2) (r3 : Result Unit DiskErr) (new : Past) (settles : SyncedDir r3 moved new) where
      now_moved : moved ≡ did (to_dir (rename draft name)) mid
      now_moved = done_ok (to_dir (rename at to)) at r2 t2 x2 mid moved told2 ok2 renames ∙ ap (λ n. did (to_dir (rename n to)) mid) at_is ∙ ap (λ n. did (to_dir (rename draft n)) mid) to_is

      same_settles : SyncedDir r3 (did (to_dir (rename draft name)) mid) new
      same_settles = subst (λ past. SyncedDir r3 past new) now_moved settles

      pub third_step : Step draft name old new
      third_step = settling x1 mid r3 synced_ok same_settles

      pub last_step : (t3 : Result Unit LogErr) (x3 : Unit {0}) → t3 ≡ told to r3 → t3 ≡ Ok x3 → Published draft name old new
      last_step t3 x3 told3 ok3 = record { x = x3; mid = mid; synced = synced_ok; settled = subst (λ r. SyncedDir r (did (to_dir (rename draft name)) mid) new) (told_ok to r3 x3 (sym told3 ∙ ok3)) same_settles }

-- ---- once it is published

module _ (draft name whole : List ℕ) (old new : Past) (p : Published draft name old new) (d : DraftStands old draft whole) where
  at_mid : IsReady p.mid draft whole
  at_mid = ready p.x old p.mid draft whole d p.synced

  pub whole_durable : IsDurable new name
  whole_durable = published_durable p.mid draft name whole at_mid p.x new p.settled

  pub whole_stands : (closed : Bool) (items : List (List ℕ)) → AreContents items → whole ≡ log_bytes closed items → Stands new (record { name = name; draft = false; closed = closed }) items (length items)
  whole_stands closed items fit is = record {
    published = refl;
    stands = published_stands p.mid draft name whole at_mid p.x new closed items fit is p.settled;
    sure = λ _. published_sure p.mid draft name whole at_mid p.x new p.settled;
  }

-- the directory is durable once it is synced
pub dir_durable : (file : List ℕ) (r : Result Unit DiskErr) (t : Result Unit LogErr) (x : Unit {0}) (old new : Past) → t ≡ told file r → t ≡ Ok x → SyncedDir r old new → IsDirDurable new
dir_durable file r t x old new told_so ok done = go (subst (λ a. SyncedDir a old new) (told_ok file r x (sym told_so ∙ ok)) done)
  where
    go : SyncedDir (Ok x) old new → IsDirDurable new
    go (inl is) = subst IsDirDurable (sym is) (synced_dir_durable old)
    go (inr (is, durable)) = subst IsDirDurable (sym is) durable

-- an error that is passed on is the same
pub same_error : {S T : Type 0} (r : Result S LogErr) (t : Result T LogErr) (e f : LogErr) (error : LogErr) → t ≡ Err f → f ≡ e → r ≡ Err e → IsErrOf t error → IsErrOf r error
same_error r t e f error is same was wanted =
    let both : Err f ≡ Err error = sym is ∙ wanted in
    let last : f ≡ error = cc both in was ∙ ap (λ x. Err x) (sym same ∙ last)

-- and so is its cause
pub same_cause : {S T : Type 0} (faults faults_now : ℕ) (blamed : List (List ℕ)) (r : Result S LogErr) (t : Result T LogErr) (e f : LogErr)
    → t ≡ Err f → f ≡ e → r ≡ Err e → LogCause faults faults_now blamed r → LogCause faults faults_now blamed t
same_cause faults faults_now blamed r t e f is same was cause = record {
  later = cause.later;
  failed = λ name failed. cause.failed name (same_error r t e f (File name) is same was failed);
  blames = λ name failed. cause.blames name (same_error r t e f (File name) is same was failed);
  uncounted = λ none. cause.uncounted (λ name failed. none name (same_error t r e e (File name) was refl (is ∙ ap (λ x. Err x) same) failed));
}

-- where memory was wanting for the rename, no name was touched
pub wanted_touches : (at to : List ℕ) (r1 r2 : Result Unit DiskErr) (t1 t2 : Result Unit LogErr) (x : Unit {0}) (old mid new : Past) → t1 ≡ told at r1 → t1 ≡ Ok x → Synced at r1 old mid → t2 ≡ told at r2
    → IsErrOf t2 LogErr.Memory → Done (to_dir (rename at to)) r2 mid new → Touches (λ n. ⊥) old new
wanted_touches at to r1 r2 t1 t2 x old mid new told1 is1 synced told2 wanted done = go r1 r2 synced done (sym told2 ∙ wanted) (sym told1 ∙ is1)
  where
    after : (r2 : Result Unit DiskErr) → Done (to_dir (rename at to)) r2 mid new → told at r2 ≡ Err LogErr.Memory → Touches (λ n. ⊥) old mid → Touches (λ n. ⊥) old new
    after (Ok x) done is h = cc is
    after (Err Failed) done is h = cc is
    after (Err Memory) done is h = subst (Touches (λ n. ⊥) old) (sym done) h

    go : (r1 r2 : Result Unit DiskErr) → Synced at r1 old mid → Done (to_dir (rename at to)) r2 mid new → told at r2 ≡ Err LogErr.Memory → told at r1 ≡ Ok x → Touches (λ n. ⊥) old new
    go (Ok x) r2 (inl is) done want ok = after r2 done want (touched (λ n. ⊥) (sync at) old mid is tt)
    go (Ok x) r2 (inr is) done want ok = after r2 done want (untouched (λ n. ⊥) old mid is.0)
    go (Err Failed) r2 synced done want ok = cc ok
    go (Err Memory) r2 never done want ok = absurd never
