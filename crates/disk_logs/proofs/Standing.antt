-- What one thing done to a log's file does to the log.
use Rattle.std.proofs.Common.{◌≡◌, inl, inr, ℕ, ◌≤◌, Bool, true, false, List, [], ◌++◌, length, take, drop, Option, Some, option_map, refl}
use Rattle.std.proofs.Common.{sym, ap, ◌∙◌, subst, arith, append_assoc, length-append}
use Rattle.std.proofs.lemmas.List.{append-nil, take-append-le, take-append-drop, take-take, take_all, length-take-le}
use Rattle.std.proofs.lemmas.List.Elements.{All-append}
use Rattle.file_trait.specs.DiskModel.{Past, did, DiskOp, Spares, to_file, to_dir, sync, sync_failed, sync_dir, FileOp, append, mark}
use Rattle.file_trait.specs.DiskModel.{changed, FileId, named, content, reads, FileLeaves, Redone, DirLeaves, IsSure, IsHonest, Crashes}
use Rattle.file_trait.specs.Calls.{IsDurable}
use Rattle.file_trait.specs.Guard.{StandsAt}
use Rattle.log_items.specs.Items.{IsContent}
use Rattle.disk_logs.specs.Logs.{mark_bytes}
use Rattle.log_items.specs.Items.{wire, head_bytes, log_bytes, AreContents, StartsWith}
use Rattle.file_trait.specs.Calls.{IsSureOf}
use Rattle.file_trait.specs.Shown.{ReadsAs}
use Rattle.disk_logs.specs.Crash.{HasPrefix, KeepsSynced, OnlyGrew, LogStands, LogLeaves}
use Rattle.file_trait.proofs.Files.{content_self, file_changed, reads_other}
use Rattle.file_trait.proofs.Frames.{named_other, content_spared, leaves_spared, file_other}
use Rattle.file_trait.proofs.Images.{dir_reads, stood_same, redone_leaves, whole_is}
use Rattle.log_items.proofs.ItemLemmas.{same_front, log_bytes-append}
use Rattle.file_trait.proofs.Prefixes.{stands_longer}
use Rattle.disk_logs.proofs.Runs.{open_prefix, has_all, has_fewer, log_split}

-- ---- what a crash leaves

-- the name stands for the file whatever a crash leaves, and of its honest bytes P holds
pub crash_leaves : (past : Past) (name : List ℕ) (file : FileId) (P : List ℕ → Type 0)
    → ((names : List ℕ → Option FileId) → DirLeaves past names → names name ≡ Some file)
    → ((bytes : List ℕ) → FileLeaves past file bytes → IsHonest past file bytes → P bytes) → Crashes (ReadsAs name P) past
crash_leaves past name file P settled each image w =
    (w.bytes file, w.is name ∙ ap (option_map w.bytes) (settled w.names w.directory), each (w.bytes file) (w.each file) (w.honest file))

-- of an open log whose bytes are a front of these items' bytes
pub open_leaf : (past : Past) (file : FileId) (items : List (List ℕ)) (synced : ℕ) (bytes : List ℕ) → AreContents items
    → synced ≤ length items → OnlyGrew past file → StartsWith (content past file) (log_bytes false items)
    → StartsWith (log_bytes false (take synced items)) bytes → IsHonest past file bytes → HasPrefix items synced bytes
open_leaf past file items synced bytes fit within grew (more, is) starts honest =
    open_prefix items synced bytes fit within starts
    (λ n item low guarded at. subst (λ b. StandsAt b n item) (sym is)
    (stands_longer (content past file) more n item (grew n item low guarded (honest n item low guarded at))))

-- of a log whose bytes are all items under some mark
whole_leaf : (items : List (List ℕ)) (synced : ℕ) (bytes : List ℕ) → AreContents items → synced ≤ length items
    → (closed : Bool) × (bytes ≡ log_bytes closed items) → HasPrefix items synced bytes
whole_leaf items synced bytes fit within (closed, is) =
    subst (HasPrefix items synced) (sym is)
    (has_fewer items (length items) synced (log_bytes closed items) within (has_all closed items fit))

module _ (past : Past) (name : List ℕ) (closed : Bool) (items : List (List ℕ)) (synced : ℕ) (h : LogStands past name closed items synced)
  where
    pub file_named : named past name ≡ Some h.file
    file_named = h.settled (named past) (dir_reads past)

    pub file_content : content past h.file ≡ log_bytes closed items
    file_content = let same : Some (content past h.file) ≡ Some (log_bytes closed items) =
        sym (ap (option_map (content past)) file_named) ∙ h.read in cc same

each_leaf : (past : Past) (name : List ℕ) (closed : Bool) (items : List (List ℕ)) (synced : ℕ)
    (h : LogStands past name closed items synced) (bytes : List ℕ) → FileLeaves past h.file bytes
    → IsHonest past h.file bytes → HasPrefix items synced bytes
each_leaf past name false items synced h bytes left honest =
    open_leaf past h.file items synced bytes h.fit h.within h.grew
    ([], sym (append-nil (content past h.file) ∙ file_content past name false items synced h)) (h.each bytes left) honest
each_leaf past name true items synced h bytes left honest = whole_leaf items synced bytes h.fit h.within (h.each bytes left)

-- a crash now leaves the first ones of the items, and at least the synced ones
pub stands_leaves : (past : Past) (name : List ℕ) (closed : Bool) (items : List (List ℕ)) (synced : ℕ)
    → LogStands past name closed items synced → LogLeaves name items synced past
stands_leaves past name closed items synced h =
    crash_leaves past name h.file (HasPrefix items synced) h.settled (each_leaf past name closed items synced h)

-- ---- an append

pub grew_append : (past : Past) (name : List ℕ) (file : FileId) (bytes : List ℕ) → named past name ≡ Some file → OnlyGrew past file
    → OnlyGrew (did (to_file name (append bytes)) past) file
grew_append past name file bytes is grew n item low guarded (inl now) = now
grew_append past name file bytes is grew n item low guarded (inr before) =
    subst (λ b. StandsAt b n item) (sym (content_self past name (append bytes) file is))
    (stands_longer (content past file) bytes n item (grew n item low guarded before))

keeps_append : (past : Past) (name : List ℕ) (file : FileId) (front bytes : List ℕ)
    → ((left : List ℕ) → FileLeaves past file left → StartsWith front left)
    → (left : List ℕ) → FileLeaves (did (to_file name (append bytes)) past) file left → StartsWith front left
keeps_append past name file front bytes each left (inl before) = each left before
keeps_append past name file front bytes each left (inr (is, (before, so, (tail, now)))) =
    let old : StartsWith front before = each before so in (old.0 ++ tail, now ∙ ap (λ b. b ++ tail) old.1 ∙ append_assoc front old.0 tail)

module _ (past : Past) (name : List ℕ) (items more : List (List ℕ)) (synced : ℕ) (also : AreContents more)
    (h : LogStands past name false items synced) where
  is_named : named past name ≡ Some h.file
  is_named = file_named past name false items synced h

  both_fit : AreContents (items ++ more)
  both_fit = All-append IsContent items more h.fit also

  still_within : synced ≤ length (items ++ more)
  still_within = omega (arith, h.within, length-append items more)

  front_kept : (bytes left : List ℕ) → FileLeaves (did (to_file name (append bytes)) past) h.file left
      → StartsWith (log_bytes false (take synced (items ++ more))) left
  front_kept bytes left leaves =
      subst (λ xs. StartsWith (log_bytes false xs) left) (sym (take-append-le synced items more h.within))
      (keeps_append past name h.file (log_bytes false (take synced items)) bytes h.each left leaves)

  pub appended : LogStands (did (to_file name (append (wire more))) past) name false (items ++ more) synced
  appended = record {
    fit = both_fit;
    read = file_changed past name (append (wire more)) (log_bytes false items) h.read
        ∙ ap (λ b. Some b) (sym (log_bytes-append false items more));
    within = still_within;
    file = h.file;
    settled = h.settled;
    grew = grew_append past name h.file (wire more) is_named h.grew;
    each = front_kept (wire more);
  }

  -- where a front of the bytes was appended, also a crash leaves the first ones
  pub part_appended : (k : ℕ) → LogLeaves name (items ++ more) synced (did (to_file name (append (take k (wire more)))) past)
  part_appended k = crash_leaves (did (to_file name (append (take k (wire more)))) past) name h.file (HasPrefix (items ++ more) synced)
      h.settled (λ left leaves honest.
      open_leaf (did (to_file name (append (take k (wire more)))) past) h.file (items ++ more) synced left both_fit still_within
      (grew_append past name h.file (take k (wire more)) is_named h.grew)
      (drop k (wire more), all k)
      (front_kept (take k (wire more)) left leaves) honest)
    where
      all : (k : ℕ) → log_bytes false (items ++ more) ≡ content (did (to_file name (append (take k (wire more)))) past) h.file ++ drop k
          (wire more)
      all k =
          log_bytes-append false items more
          ∙ ap (λ b. log_bytes false items ++ b) (sym (take-append-drop k (wire more)))
          ∙ sym (append_assoc (log_bytes false items) (take k (wire more)) (drop k (wire more)))
          ∙ ap (λ b. (b ++ take k (wire more)) ++ drop k (wire more)) (sym (file_content past name false items synced h))
          ∙ ap (λ b. b ++ drop k (wire more)) (sym (content_self past name (append (take k (wire more))) h.file is_named))

-- ---- a sync

keeps_all : (closed : Bool) (items : List (List ℕ)) → KeepsSynced closed items (length items) (log_bytes closed items)
keeps_all true items = (true, refl)
keeps_all false items = (
  [],
  ap (λ xs. log_bytes false xs) (sym (take_all (length items) items (omega arith)))
      ∙ sym (append-nil (log_bytes false (take (length items) items))),
)

pub grew_same : (past : Past) (op : DiskOp) (i : FileId) → content (did op past) i ≡ content past i → OnlyGrew past i
    → OnlyGrew (did op past) i
grew_same past op i same grew n item low guarded stood =
    subst (λ b. StandsAt b n item) (sym same) (grew n item low guarded (stood_same past op i n item same stood))

-- a file of which a crash leaves only what it reads as
pub exact_stands : (past : Past) (name : List ℕ) (closed : Bool) (items : List (List ℕ)) (file : FileId) → AreContents items
    → reads past name ≡ Some (log_bytes closed items)
    → ((names : List ℕ → Option FileId) → DirLeaves past names → names name ≡ Some file) → OnlyGrew past file
    → ((left : List ℕ) → FileLeaves past file left → left ≡ log_bytes closed items) → LogStands past name closed items (length items)
exact_stands past name closed items file fit read settled grew each = record {
  fit = fit;
  read = read;
  within = omega arith;
  file = file;
  settled = settled;
  grew = grew;
  each = λ left leaves. subst (KeepsSynced closed items (length items)) (sym (each left leaves)) (keeps_all closed items);
}

-- a sync of a file that is sure makes it durable
pub synced_durable : (past : Past) (name : List ℕ) → IsSureOf past name → IsDurable (did (sync name) past) name
synced_durable past name sure i is left leaves = sure i is left (leaves.1 is)

module _ (past : Past) (name : List ℕ) (closed : Bool) (items : List (List ℕ)) (synced : ℕ) (h : LogStands past name closed items synced)
  where
    pub all_synced : IsSureOf past name → LogStands (did (sync name) past) name closed items (length items)
    all_synced sure = exact_stands (did (sync name) past) name closed items h.file h.fit h.read h.settled
        (grew_same past (sync name) h.file refl h.grew)
        (λ left leaves. synced_durable past name sure h.file (file_named past name closed items synced h) left leaves
        ∙ file_content past name closed items synced h)

    -- where nothing was pending a sync need not take a moment
    pub was_synced : IsDurable past name → LogStands past name closed items (length items)
    was_synced durable = exact_stands past name closed items h.file h.fit h.read h.settled h.grew
        (λ left leaves. durable h.file (file_named past name closed items synced h) left leaves
        ∙ file_content past name closed items synced h)

    -- a sync that fails leaves the log as it was
    pub not_synced : (other : List ℕ) → LogStands (did (sync_failed other) past) name closed items synced
    not_synced other = record {
      fit = h.fit;
      read = h.read;
      within = h.within;
      file = h.file;
      settled = h.settled;
      grew = grew_same past (sync_failed other) h.file refl h.grew;
      each = h.each;
    }

-- ---- what makes the next sync sure

pub sure_changed : (past : Past) (name : List ℕ) (op : FileOp) → IsSureOf past name → IsSureOf (did (to_file name op) past) name
sure_changed past name op sure i is bytes redone =
    let r = redone.0 is in whole_is op (content past i) r.0 bytes (sure i is r.0 r.1) r.2 ∙ sym (content_self past name op i is)

pub sure_synced : (past : Past) (name : List ℕ) → IsSureOf past name → IsSureOf (did (sync name) past) name
sure_synced past name sure i is bytes redone = sure i is bytes redone

redone_spared : (past : Past) (op : DiskOp) (name : List ℕ) (i : FileId) (bytes : List ℕ) → Spares op name → named past name ≡ Some i
    → Redone (did op past) i bytes → Redone past i bytes
redone_spared past (to_file other op) name i bytes spares is redone = redone.1 (file_other past other name i spares is)
redone_spared past (to_dir op) name i bytes spares is redone = redone
redone_spared past (sync other) name i bytes spares is redone = redone
redone_spared past (sync_failed other) name i bytes spares is redone = redone.1 (file_other past other name i spares is)
redone_spared past sync_dir name i bytes spares is redone = redone

pub sure_spared : (past : Past) (op : DiskOp) (name : List ℕ) (i : FileId) → Spares op name → named past name ≡ Some i → IsSure past i
    → IsSure (did op past) i
sure_spared past op name i spares is sure bytes redone =
    sure bytes (redone_spared past op name i bytes spares is redone) ∙ sym (content_spared past op name i spares is)

-- ---- the mark

pub remarked : (was closed : Bool) (items : List (List ℕ))
    → changed (mark (mark_bytes closed)) (log_bytes was items) ≡ log_bytes closed items
remarked true true items = refl
remarked true false items = refl
remarked false true items = refl
remarked false false items = refl

long_head : (closed : Bool) → length (head_bytes closed) ≡ 8
long_head true = refl
long_head false = refl

-- behind the head the same stands under either mark
stands_remarked : (was closed : Bool) (rest : List ℕ) (n : ℕ) (part : List ℕ) → 8 ≤ n → StandsAt (head_bytes was ++ rest) n part
    → StandsAt (head_bytes closed ++ rest) n part
stands_remarked was closed rest n part low (before, after, len, is) =
    let split : head_bytes was ++ rest ≡ take 8 before ++ (drop 8 before ++ (part ++ after)) =
    is ∙ ap (λ b. b ++ (part ++ after)) (sym (take-append-drop 8 before)) ∙ append_assoc (take 8 before) (drop 8 before) (part ++ after) in
    let front : length (take 8 before) ≡ 8 = length-take-le 8 before (omega (arith, low, len)) in
    let same = same_front (head_bytes was) (take 8 before) rest (drop 8 before ++ (part ++ after)) (long_head was ∙ sym front) split in (
      head_bytes closed ++ drop 8 before,
      after,
      length-append (head_bytes closed) (drop 8 before)
          ∙ omega (
            arith,
            long_head closed,
            front,
            len,
            low,
            length-append (take 8 before) (drop 8 before),
            ap length (take-append-drop 8 before),
          ),
      ap (λ b. head_bytes closed ++ b) same.1 ∙ sym (append_assoc (head_bytes closed) (drop 8 before) (part ++ after)),
    )

-- a crash leaves of the log's file all items, and nothing else, under either mark
abbrev IsEither : Past → FileId → List (List ℕ) → Type 0
IsEither past file items = (left : List ℕ) → FileLeaves past file left → (m : Bool) × (left ≡ log_bytes m items)

module _ (past : Past) (name : List ℕ) (was closed : Bool) (items : List (List ℕ)) (synced : ℕ) (h : LogStands past name was items synced)
    (all : IsEither past h.file items) where
  abbrev pub set : DiskOp
  set = to_file name (mark (mark_bytes closed))

  at_name : named past name ≡ Some h.file
  at_name = file_named past name was items synced h

  old_bytes : content past h.file ≡ log_bytes was items
  old_bytes = file_content past name was items synced h

  pub new_bytes : content (did set past) h.file ≡ log_bytes closed items
  new_bytes = content_self past name (mark (mark_bytes closed)) h.file at_name ∙ ap (changed (mark (mark_bytes closed))) old_bytes
      ∙ remarked was closed items

  pub new_grew : OnlyGrew (did set past) h.file
  new_grew n item low guarded (inl now) = now
  new_grew n item low guarded (inr before) =
      subst (λ b. StandsAt b n item) (sym new_bytes)
      (stands_remarked was closed (wire items) n item low (subst (λ b. StandsAt b n item) old_bytes (h.grew n item low guarded before)))

  pub new_read : reads (did set past) name ≡ Some (log_bytes closed items)
  new_read = file_changed past name (mark (mark_bytes closed)) (log_bytes was items) h.read ∙ ap (λ b. Some b) (remarked was closed items)

  set_on : (before left : List ℕ) → FileLeaves past h.file before → left ≡ changed (mark (mark_bytes closed)) before
      → left ≡ log_bytes closed items
  set_on before left so now = let (m, is) = all before so in now ∙ ap (changed (mark (mark_bytes closed))) is ∙ remarked m closed items

  either : IsEither (did set past) h.file items
  either left (inl before) = all left before
  either left (inr (is, (before, so, now))) = (closed, set_on before left so now)

  -- the mark alone was in doubt, so the next sync is sure
  now_sure : IsSure (did set past) h.file
  now_sure left redone = let r = redone.0 at_name in set_on r.0 left (redone_leaves past h.file r.0 r.1) r.2 ∙ sym new_bytes

  now_leaves : LogLeaves name items (length items) (did set past)
  now_leaves = crash_leaves (did set past) name h.file (HasPrefix items (length items)) h.settled
      (λ left leaves honest. whole_leaf items (length items) left h.fit (omega arith) (either left leaves))

  pub marked_sure : IsSureOf (did set past) name
  marked_sure i is = let same : Some h.file ≡ Some i = sym at_name ∙ is in let here : h.file ≡ i = cc same in
      subst (λ j. IsSure (did set past) j) here now_sure

  now_synced : LogStands (did (sync name) (did set past)) name closed items (length items)
  now_synced = exact_stands (did (sync name) (did set past)) name closed items h.file h.fit new_read h.settled
      (grew_same (did set past) (sync name) h.file refl new_grew)
      (λ left leaves. now_sure left (leaves.1 at_name) ∙ new_bytes)

-- a closed log is marked open, and then synced
module _ (past : Past) (name : List ℕ) (items : List (List ℕ)) (synced : ℕ) (h : LogStands past name true items synced) where
  pub opening_leaves : LogLeaves name items (length items) (did (to_file name (mark (mark_bytes false))) past)
  opening_leaves = now_leaves past name true false items synced h h.each

  pub opening_read : reads (did (to_file name (mark (mark_bytes false))) past) name ≡ Some (log_bytes false items)
  opening_read = new_read past name true false items synced h h.each

  pub opening_sure : IsSureOf (did (to_file name (mark (mark_bytes false))) past) name
  opening_sure = marked_sure past name true false items synced h h.each

  pub opened : LogStands (did (sync name) (did (to_file name (mark (mark_bytes false))) past)) name false items (length items)
  opened = now_synced past name true false items synced h h.each

-- an open log that is durable is marked closed
pub closed : (past : Past) (name : List ℕ) (items : List (List ℕ)) (synced : ℕ) → LogStands past name false items synced
    → IsDurable past name
    → LogStands (did (to_file name (mark (mark_bytes true))) past) name true items (length items)
closed past name items synced h durable = record {
  fit = h.fit;
  read = new_read past name false true items synced h all;
  within = omega arith;
  file = h.file;
  settled = h.settled;
  grew = new_grew past name false true items synced h all;
  each = either past name false true items synced h all;
}
  where
    all : IsEither past h.file items
    all left leaves = (
      false,
      durable h.file (file_named past name false items synced h) left leaves ∙ file_content past name false items
          synced h,
    )

-- ---- whatever is done to others

settled_keeps : (past : Past) (op : DiskOp) (name : List ℕ) (file : FileId) → Spares op name
    → ((names : List ℕ → Option FileId) → DirLeaves past names → names name ≡ Some file)
    → (names : List ℕ → Option FileId) → DirLeaves (did op past) names → names name ≡ Some file
settled_keeps past (to_file other op) name file h settled names left = settled names left
settled_keeps past (to_dir op) name file h settled names left = elim left [
  | inl before ↦ settled names before
  | inr now ↦ ap (λ f. f name) now ∙ named_other past (to_dir op) name h ∙ settled (named past) (dir_reads past)
]
settled_keeps past (sync other) name file h settled names left = settled names left
settled_keeps past (sync_failed other) name file h settled names left = settled names left
settled_keeps past sync_dir name file h settled names is = ap (λ f. f name) is ∙ settled (named past) (dir_reads past)

pub spared_stands : (past : Past) (op : DiskOp) (name : List ℕ) (closed : Bool) (items : List (List ℕ)) (synced : ℕ) → Spares op name
    → LogStands past name closed items synced
    → LogStands (did op past) name closed items synced
spared_stands past op name closed items synced spares h =
    let at : named past name ≡ Some h.file = file_named past name closed items synced h in
    record {
      fit = h.fit;
      read = reads_other past op name spares ∙ h.read;
      within = h.within;
      file = h.file;
      settled = settled_keeps past op name h.file spares h.settled;
      grew = grew_same past op h.file (content_spared past op name h.file spares at) h.grew;
      each = λ left leaves. h.each left (leaves_spared past op name h.file left spares at leaves);
    }

-- ---- a sync that need not be sure

pub at_least : (past : Past) (name other : List ℕ) (closed : Bool) (items : List (List ℕ)) (synced : ℕ)
    → LogStands past name closed items synced → LogStands (did (sync other) past) name closed items synced
at_least past name other closed items synced h = record {
  fit = h.fit;
  read = h.read;
  within = h.within;
  file = h.file;
  settled = h.settled;
  grew = grew_same past (sync other) h.file refl h.grew;
  each = λ left leaves. h.each left leaves.0;
}

-- a log that was marked open, where nothing is pending
pub opened_traceless : (past : Past) (name : List ℕ) (items : List (List ℕ)) (synced : ℕ) → LogStands past name true items synced
    → IsDurable (did (to_file name (mark (mark_bytes false))) past) name
    → LogStands (did (to_file name (mark (mark_bytes false))) past) name false items (length items)
opened_traceless past name items synced h durable =
    exact_stands (did (to_file name (mark (mark_bytes false))) past) name false items h.file h.fit
    (new_read past name true false items synced h h.each) h.settled (new_grew past name true false items synced h h.each)
    (λ left leaves. durable h.file (file_named past name true items synced h) left leaves
    ∙ new_bytes past name true false items synced h h.each)

-- ---- fewer synced items

pub synced_within : (past : Past) (name : List ℕ) (closed : Bool) (items : List (List ℕ)) (synced : ℕ)
    → LogStands past name closed items synced → synced ≤ length items
synced_within past name closed items synced h = h.within

keeps_fewer : (closed : Bool) (items : List (List ℕ)) (synced less : ℕ) (bytes : List ℕ) → less ≤ synced
    → KeepsSynced closed items synced bytes → KeepsSynced closed items less bytes
keeps_fewer true items synced less bytes le kept = kept
keeps_fewer false items synced less bytes le (rest, is) = (
  wire (drop less (take synced items)) ++ rest,
  is ∙ ap (λ b. b ++ rest) (log_split false (take synced items) less)
      ∙ append_assoc (log_bytes false (take less (take synced items))) (wire (drop less (take synced items))) rest
      ∙ ap (λ xs. log_bytes false xs ++ (wire (drop less (take synced items)) ++ rest)) (take-take less synced items le),
)

pub fewer_synced : (past : Past) (name : List ℕ) (closed : Bool) (items : List (List ℕ)) (synced less : ℕ) → less ≤ synced
    → LogStands past name closed items synced → LogStands past name closed items less
fewer_synced past name closed items synced less le h = record {
  fit = h.fit;
  read = h.read;
  within = omega (arith, le, h.within);
  file = h.file;
  settled = h.settled;
  grew = h.grew;
  each = λ left leaves. keeps_fewer closed items synced less left le (h.each left leaves);
}
