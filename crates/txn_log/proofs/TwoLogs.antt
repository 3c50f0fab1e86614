-- The two logs between calls.
use Rattle.std.proofs.Common.{◌≡◌, ◌≢◌, ◌⊎◌, inl, inr, ℕ, suc, ◌≤◌, true, false, List, [], ◌∷◌, ◌++◌, length, take, Option, None, Some, refl, sym, ap, ◌∙◌, subst, arith, append-nil, length-append}
use Rattle.std.proofs.lemmas.List.{take_all, take-append-le}
use Rattle.file_trait.specs.DiskModel.{Past, did, DiskOp, Spares, reads, Crashes, IsSettled}
use Rattle.file_trait.specs.Calls.{IsSureOf}
use Rattle.file_trait.specs.Moments.{Moments}
use Rattle.file_trait.specs.Shown.{ReadsAs}
use Rattle.file_trait.specs.Touched.{Touches}
use Rattle.file_trait.proofs.Frames.{named_other}
use Rattle.file_trait.proofs.Images.{reads_image}
use Rattle.file_trait.proofs.Moments.{weaker, at_end}
use Rattle.file_trait.proofs.Touched.{concerns_spares, kept}
use Rattle.log_items.specs.Items.{log_bytes, AreContents}
use Rattle.disk_logs.specs.Crash.{IsSound}
use Rattle.disk_logs.specs.Rests.{Rests, UnderOne}
use Rattle.disk_logs.proofs.Both.{both}
use Rattle.disk_logs.proofs.Renaming.{renamed_leaves, renamed_sound, renamed_kept}
use Rattle.disk_logs.proofs.Resting.{rests_leaves, rests_sound, rests_kept}
use Rattle.disk_logs.proofs.Sound.{sound_stands, stands_sound}
use Rattle.disk_logs.proofs.Standing.{spared_stands, stands_leaves, sure_spared}
use Rattle.db_model.specs.Commits.{CommitRecord}
use Rattle.txn_log.specs.Commits.{AreItemsOf}
use Rattle.txn_log.specs.Logs.{latest, previous, LogState, Reads, TxnStands, HasFirst, Leaves, IsLogName}
use Rattle.txn_log.specs.TwoLogs.{TwoLogs, Rotates, AreSound, PreviousStands, BothStand, LogWaits, LogsStand, commits_of}
use Rattle.txn_log.proofs.Acts.{leaves_commits, reads_whole}
use Rattle.txn_log.proofs.CommitLists.{count_items}
use Rattle.txn_log.proofs.LogName.{latest_no_previous, previous_no_draft}
use Rattle.txn_log.proofs.OneLog.{one_list_read}

-- ---- PREVIOUS.LOG

pub previous_leaves : (past : Past) (before : Option (List CommitRecord)) → PreviousStands past before
    → Crashes (λ image. Reads (commits_of before) (image previous)) past
previous_leaves past None rests image w = inl (rests_leaves past previous None rests image w, refl)
previous_leaves past (Some commits) (items, are, rests) image w =
    let (bytes, is, has) = rests_leaves past previous (Some items) rests image w in inr (bytes, is, (items, are, has))

previous_sound : (past : Past) (before : Option (List CommitRecord)) → PreviousStands past before → IsSound past previous
previous_sound past None rests = rests_sound past previous None rests
previous_sound past (Some commits) (items, are, rests) = rests_sound past previous (Some items) rests

pub previous_kept : (N : List ℕ → Type 0) (before : Option (List CommitRecord)) (old new : Past) → (N previous → ⊥) → Touches N old new
    → PreviousStands old before → Moments (λ past. PreviousStands past before) old new
previous_kept N None old new not touches rests = rests_kept N previous None old new not touches rests
previous_kept N (Some commits) old new not touches (items, are, rests) =
    weaker (λ past. Rests past previous (Some items)) (λ past. PreviousStands past (Some commits)) old new
    (λ past now. (items, are, now)) (rests_kept N previous (Some items) old new not touches rests)

pub previous_trusted : (past : Past) (commits : List CommitRecord) (items : List (List ℕ)) → IsSound past previous → IsSettled past previous
    → AreItemsOf commits items → AreContents items → reads past previous ≡ Some (log_bytes true items) → PreviousStands past (Some commits)
previous_trusted past commits items sound settled are fit read = (items, are, sound_stands past previous items sound settled fit read)

-- no name of LATEST.LOG
pub log_no_previous : IsLogName previous → ⊥
log_no_previous (inl is) = latest_no_previous (sym is)
log_no_previous (inr is) = previous_no_draft is

pub previous_beside : (before : Option (List CommitRecord)) (old new : Past) → Touches IsLogName old new → PreviousStands old before
    → Moments (λ past. PreviousStands past before) old new
previous_beside before old new = previous_kept IsLogName before old new log_no_previous

-- ---- LATEST.LOG

pub latest_leaves : (past : Past) (log : LogState) (commits : List CommitRecord) (synced : ℕ) → TxnStands past log commits synced
    → Leaves commits synced past
latest_leaves past log commits synced h =
    leaves_commits commits h.items synced past h.are (stands_leaves past latest log.closed h.items (suc synced) h.stands.stands)

pub latest_reads : (past : Past) (log : LogState) (commits : List CommitRecord) (synced : ℕ) → TxnStands past log commits synced
    → Reads commits (reads past latest)
latest_reads past log commits synced h = reads_whole log.closed past commits h.items h.are h.stands.stands.fit h.stands.stands.read

pub latest_sound : (past : Past) (log : LogState) (commits : List CommitRecord) (synced : ℕ) → TxnStands past log commits synced
    → IsSound past latest
latest_sound past log commits synced h = stands_sound past latest log.closed h.items (suc synced) h.stands.stands

still_sure : (past : Past) (op : DiskOp) (name : List ℕ) → Spares op name → IsSureOf past name → IsSureOf (did op past) name
still_sure past op name spares sure i is =
    let was = sym (named_other past op name spares) ∙ is in sure_spared past op name i spares was (sure i was)

pub spared_txn : (past : Past) (op : DiskOp) (log : LogState) (commits : List CommitRecord) (synced : ℕ) → Spares op latest
    → TxnStands past log commits synced → TxnStands (did op past) log commits synced
spared_txn past op log commits synced spares h = record {
  made = h.made;
  count = h.count;
  items = h.items;
  are = h.are;
  stands = record {
    published = refl;
    stands = spared_stands past op latest log.closed h.items (suc synced) spares h.stands.stands;
    sure = λ is_open. still_sure past op latest spares (h.stands.sure is_open);
  };
}

pub txn_kept : (N : List ℕ → Type 0) (log : LogState) (commits : List CommitRecord) (synced : ℕ) (old new : Past) → (N latest → ⊥)
    → Touches N old new → TxnStands old log commits synced → Moments (λ past. TxnStands past log commits synced) old new
txn_kept N log commits synced old new not =
    kept N (λ past. TxnStands past log commits synced) old new
    (λ op past concerns h. spared_txn past op log commits synced (concerns_spares N op latest not concerns) h)

-- ---- both

-- what one image has
pub together : (before after : List CommitRecord) (synced : ℕ) (image : List ℕ → Option (List ℕ)) → Reads before (image previous)
    → ReadsAs latest (HasFirst after synced) image → TwoLogs before after synced image
together before after synced image has (bytes, is, (n, low, high, first)) = record {
  one = before;
  two = take n after;
  in_previous = has;
  in_latest = inr (bytes, is, first);
  n = n;
  enough = low;
  within = high;
  is = refl;
}

-- the same where LATEST.LOG has all of these
pub all_together : (before after : List CommitRecord) (least n : ℕ) (two : List CommitRecord) (files : List ℕ → Option (List ℕ))
    → Reads before (files previous) → Reads two (files latest) → least ≤ n → n ≤ length after → two ≡ take n after
    → TwoLogs before after least files
all_together before after least n two files has also low high is = record {
  one = before;
  two = two;
  in_previous = has;
  in_latest = also;
  n = n;
  enough = low;
  within = high;
  is = ap (λ cs. before ++ cs) is;
}

pub both_leaves : (past : Past) (log : LogState) (before : Option (List CommitRecord)) (after : List CommitRecord) (synced : ℕ)
    → BothStand past log before after synced → Crashes (TwoLogs (commits_of before) after synced) past
both_leaves past log before after synced h image w =
    together (commits_of before) after synced image (previous_leaves past before h.in_previous image w)
    (latest_leaves past log after synced h.in_latest image w)

pub whole_two : (before after : List CommitRecord) (files : List ℕ → Option (List ℕ)) → Reads before (files previous)
    → Reads after (files latest) → TwoLogs before after (length after) files
whole_two before after files has also =
    all_together before after (length after) (length after) after files has also (omega arith) (omega arith)
    (sym (take_all (length after) after (omega arith)))

pub all_read : (past : Past) (before : Option (List CommitRecord)) (after : List CommitRecord) → PreviousStands past before
    → Reads after (reads past latest) → TwoLogs (commits_of before) after (length after) (reads past)
all_read past before after stands has =
    whole_two (commits_of before) after (reads past) (previous_leaves past before stands (reads past) (reads_image past)) has

-- ---- a log that waits for its file

-- a log without the other
alone : (commits : List CommitRecord) (least n : ℕ) (files : List ℕ → Option (List ℕ)) → least ≤ n → n ≤ length commits
    → files previous ≡ None → Reads (take n commits) (files latest) → Rotates commits least files
alone commits least n files low high none has =
    (all_together [] commits least n (take n commits) files (inl (none, refl)) has low high refl, inl none)

pub alone_whole : (commits : List CommitRecord) (least : ℕ) (files : List ℕ → Option (List ℕ)) → least ≤ length commits
    → files previous ≡ None → Reads commits (files latest) → Rotates commits least files
alone_whole commits least files low none has =
    alone commits least (length commits) files low (omega arith) none
    (subst (λ cs. Reads cs (files latest)) (sym (take_all (length commits) commits (omega arith))) has)

pub alone_first : (commits : List CommitRecord) (least : ℕ) (files : List ℕ → Option (List ℕ)) → files previous ≡ None
    → ReadsAs latest (HasFirst commits least) files → Rotates commits least files
alone_first commits least files none (bytes, is, (n, low, high, first)) = alone commits least n files low high none (inr (bytes, is, first))

pub moved : (commits : List CommitRecord) (least : ℕ) (files : List ℕ → Option (List ℕ)) → least ≤ length commits
    → Reads commits (files previous) → Reads [] (files latest) → Rotates commits least files
moved commits least files low has none = (
  record {
    one = commits;
    two = [];
    in_previous = has;
    in_latest = none;
    n = length commits;
    enough = low;
    within = omega arith;
    is = append-nil commits ∙ sym (take_all (length commits) commits (omega arith));
  },
  inr has,
)

pub under_one : (commits : List CommitRecord) (items : List (List ℕ)) (least : ℕ) (files : List ℕ → Option (List ℕ))
    → AreItemsOf commits items → least ≤ length commits → UnderOne latest previous items files → Rotates commits least files
under_one commits items least files are low (inl ((bytes, is, has), none)) =
    alone_whole commits least files low none (inr (bytes, is, (items, are, has)))
under_one commits items least files are low (inr ((bytes, is, has), none)) =
    moved commits least files low (inr (bytes, is, (items, are, has))) (inl (none, refl))

pub waits_leaves : (past : Past) (log : LogState) (commits : List CommitRecord) (least : ℕ) → least ≤ length commits
    → LogWaits past log commits → Crashes (Rotates commits least) past
waits_leaves past log commits least low h image w =
    under_one commits h.items least image h.are low (renamed_leaves past latest previous h.items h.renamed image w)

pub waits_kept : (N : List ℕ → Type 0) (log : LogState) (commits : List CommitRecord) (old new : Past) → (N latest → ⊥) → (N previous → ⊥)
    → Touches N old new → LogWaits old log commits → Moments (λ past. LogWaits past log commits) old new
waits_kept N log commits old new first second touches h =
    weaker _ (λ past. LogWaits past log commits) old new
    (λ past now. record { waits = h.waits; none = h.none; items = h.items; are = h.are; renamed = now })
    (renamed_kept N latest previous h.items old new first second touches h.renamed)

-- seen as two logs it is the front of none
pub as_front : (commits : List CommitRecord) (files : List ℕ → Option (List ℕ)) → Rotates commits (length commits) files
    → TwoLogs commits [] 0 files
as_front commits files (t, whole) = record {
  one = t.one;
  two = t.two;
  in_previous = t.in_previous;
  in_latest = t.in_latest;
  n = 0;
  enough = omega arith;
  within = omega arith;
  is = t.is ∙ take_all t.n commits t.enough ∙ sym (append-nil commits);
}

-- ---- either

-- what holds of the one that waits
pub as_waits : (P : Option (List CommitRecord) → List CommitRecord → ℕ → Type 0) (before : Option (List CommitRecord))
    (after : List CommitRecord) (synced : ℕ) (commits : List CommitRecord) → before ≡ Some commits → after ≡ [] → synced ≡ 0
    → P (Some commits) [] 0 → P before after synced
as_waits P before after synced commits first second third h =
    subst (λ o. P o after synced) (sym first)
    (subst (λ cs. P (Some commits) cs synced) (sym second) (subst (λ n. P (Some commits) [] n) (sym third) h))

pub made_both : (past : Past) (log : LogState) (before : Option (List CommitRecord)) (after : List CommitRecord) (synced : ℕ)
    → log.waits ≡ false → LogsStand past log before after synced → BothStand past log before after synced
made_both past log before after synced made (inl both) = both
made_both past log before after synced made (inr (commits, first, second, third, h)) = absurd (cc (made, h.waits))

pub none_waits : (past : Past) (log : LogState) (after : List CommitRecord) (synced : ℕ) → log.waits ≡ true
    → LogsStand past log None after synced → ⊥
none_waits past log after synced waits (inl both) = cc (both.in_latest.made, waits)
none_waits past log after synced waits (inr (commits, first, second, third, h)) = absurd (cc first)

pub logs_leave : (past : Past) (log : LogState) (before : Option (List CommitRecord)) (after : List CommitRecord) (synced : ℕ)
    → LogsStand past log before after synced → Crashes (TwoLogs (commits_of before) after synced) past
logs_leave past log before after synced (inl h) = both_leaves past log before after synced h
logs_leave past log before after synced (inr (commits, first, second, third, h)) =
    as_waits (λ o cs n. Crashes (TwoLogs (commits_of o) cs n) past) before after synced commits first second third
    (λ image w. as_front commits image (waits_leaves past log commits (length commits) (omega arith) h image w))

pub logs_read : (past : Past) (log : LogState) (before : Option (List CommitRecord)) (after : List CommitRecord) (synced : ℕ)
    → LogsStand past log before after synced → TwoLogs (commits_of before) after (length after) (reads past)
logs_read past log before after synced (inl h) =
    all_read past before after h.in_previous (latest_reads past log after synced h.in_latest)
logs_read past log before after synced (inr (commits, first, second, third, h)) =
    as_waits (λ o cs n. TwoLogs (commits_of o) cs (length cs) (reads past)) before after synced commits first second third
    (as_front commits (reads past) (waits_leaves past log commits (length commits) (omega arith) h (reads past) (reads_image past)))

pub both_sound : (past : Past) (log : LogState) (before : Option (List CommitRecord)) (after : List CommitRecord) (synced : ℕ)
    → BothStand past log before after synced → AreSound past
both_sound past log before after synced h =
    (latest_sound past log after synced h.in_latest, previous_sound past before h.in_previous)

pub waits_sound : (past : Past) (log : LogState) (commits : List CommitRecord) → LogWaits past log commits → AreSound past
waits_sound past log commits h = renamed_sound past latest previous h.items h.renamed

pub logs_sound : (past : Past) (log : LogState) (before : Option (List CommitRecord)) (after : List CommitRecord) (synced : ℕ)
    → LogsStand past log before after synced → AreSound past
logs_sound past log before after synced (inl h) = both_sound past log before after synced h
logs_sound past log before after synced (inr (commits, first, second, third, h)) = waits_sound past log commits h

pub both_kept : (N : List ℕ → Type 0) (log : LogState) (before : Option (List CommitRecord)) (after : List CommitRecord) (synced : ℕ)
    (old new : Past) → (N latest → ⊥) → (N previous → ⊥) → Touches N old new → BothStand old log before after synced
    → Moments (λ past. BothStand past log before after synced) old new
both_kept N log before after synced old new first second touches h =
    weaker (λ past. PreviousStands past before × TxnStands past log after synced) (λ past. BothStand past log before after synced) old new
    (λ past now. record { in_previous = now.0; in_latest = now.1 })
    (both (λ past. PreviousStands past before) (λ past. TxnStands past log after synced) old new
    (previous_kept N before old new second touches h.in_previous) (txn_kept N log after synced old new first touches h.in_latest))

pub logs_kept : (N : List ℕ → Type 0) (log : LogState) (before : Option (List CommitRecord)) (after : List CommitRecord) (synced : ℕ)
    (old new : Past) → (N latest → ⊥) → (N previous → ⊥) → Touches N old new → LogsStand old log before after synced
    → Moments (λ past. LogsStand past log before after synced) old new
logs_kept N log before after synced old new first second touches (inl h) =
    weaker (λ past. BothStand past log before after synced) (λ past. LogsStand past log before after synced) old new (λ past now. inl now)
    (both_kept N log before after synced old new first second touches h)
logs_kept N log before after synced old new first second touches (inr (commits, b, a, z, h)) =
    weaker (λ past. LogWaits past log commits) (λ past. LogsStand past log before after synced) old new
    (λ past now. inr (commits, b, a, z, now)) (waits_kept N log commits old new first second touches h)

pub logs_other : (other : List ℕ) (log : LogState) (before : Option (List CommitRecord)) (after : List CommitRecord) (synced : ℕ)
    (old new : Past) → other ≢ latest → other ≢ previous → Touches (λ n. n ≡ other) old new → LogsStand old log before after synced
    → Moments (λ past. LogsStand past log before after synced) old new
logs_other other log before after synced old new first second =
    logs_kept (λ n. n ≡ other) log before after synced old new (λ is. first (sym is)) (λ is. second (sym is))

-- ---- while LATEST.LOG is worked on

module _ (before : Option (List CommitRecord)) {old new : Past} (touches : Touches IsLogName old new) (stands : PreviousStands old before)
  where
    pub beside_now : PreviousStands new before
    beside_now = at_end (λ past. PreviousStands past before) old new (previous_beside before old new touches stands)

    pub beside_moments : (after : List CommitRecord) (synced : ℕ) → Moments (Leaves after synced) old new
        → Moments (Crashes (TwoLogs (commits_of before) after synced)) old new
    beside_moments after synced h =
        weaker (λ past. PreviousStands past before × Leaves after synced past) (Crashes (TwoLogs (commits_of before) after synced)) old new
        (λ past now image w. together (commits_of before) after synced image (previous_leaves past before now.0 image w) (now.1 image w))
        (both (λ past. PreviousStands past before) (Leaves after synced) old new (previous_beside before old new touches stands) h)

    pub beside_sound : Moments (λ past. IsSound past latest) old new → Moments AreSound old new
    beside_sound h =
        weaker (λ past. IsSound past latest × PreviousStands past before) AreSound old new
        (λ past now. (now.0, previous_sound past before now.1))
        (both (λ past. IsSound past latest) (λ past. PreviousStands past before) old new h (previous_beside before old new touches stands))

    pub beside_stands : (log : LogState) (after : List CommitRecord) (synced : ℕ) → TxnStands new log after synced
        → LogsStand new log before after synced
    beside_stands log after synced h = inl (record { in_previous = beside_now; in_latest = h })

    pub beside_reads : (after : List CommitRecord) → Reads after (reads new latest)
        → TwoLogs (commits_of before) after (length after) (reads new)
    beside_reads after has = all_read new before after beside_now has

    -- or all but the last
    pub beside_either : (after : List CommitRecord) (last : CommitRecord)
        → Reads after (reads new latest) ⊎ Reads (after ++ last ∷ []) (reads new latest)
        → TwoLogs (commits_of before) (after ++ last ∷ []) (length after) (reads new)
    beside_either after last (inl has) =
        all_together (commits_of before) (after ++ last ∷ []) (length after) (length after) after (reads new)
        (previous_leaves new before beside_now (reads new) (reads_image new)) has (omega arith)
        (omega (arith, length-append after (last ∷ [])))
        (sym (take-append-le (length after) after (last ∷ []) (omega arith) ∙ take_all (length after) after (omega arith)))
    beside_either after last (inr has) =
        all_together (commits_of before) (after ++ last ∷ []) (length after) (length (after ++ last ∷ [])) (after ++ last ∷ []) (reads new)
        (previous_leaves new before beside_now (reads new) (reads_image new)) has (omega (arith, length-append after (last ∷ [])))
        (omega arith) (sym (take_all (length (after ++ last ∷ [])) (after ++ last ∷ []) (omega arith)))

-- a log that waits stands without the new one
pub waiting_log : (past : Past) (log : LogState) (before : Option (List CommitRecord)) (after : List CommitRecord) (synced : ℕ)
    → log.waits ≡ true → LogsStand past log before after synced
    → (commits : List CommitRecord) × (before ≡ Some commits) × (after ≡ []) × (synced ≡ 0) × LogWaits past log commits
waiting_log past log before after synced waits (inl both) = absurd (cc (both.in_latest.made, waits))
waiting_log past log before after synced waits (inr all) = all

pub fewer_rotates : (commits : List CommitRecord) (least less : ℕ) (files : List ℕ → Option (List ℕ)) → less ≤ least
    → Rotates commits least files → Rotates commits less files
fewer_rotates commits least less files le (t, whole) = (
  record {
    one = t.one;
    two = t.two;
    in_previous = t.in_previous;
    in_latest = t.in_latest;
    n = t.n;
    enough = omega (arith, le, t.enough);
    within = t.within;
    is = t.is;
  },
  whole,
)

pub some_synced : (past : Past) (log : LogState) (commits : List CommitRecord) (synced : ℕ) → TxnStands past log commits synced
    → synced ≤ length commits
some_synced past log commits synced h = omega (arith, h.stands.stands.within, count_items commits h.items h.are)

-- more commits behind those
pub more_two : (before after more : List CommitRecord) (least : ℕ) (files : List ℕ → Option (List ℕ)) → TwoLogs before after least files
    → TwoLogs before (after ++ more) least files
more_two before after more least files t = record {
  one = t.one;
  two = t.two;
  in_previous = t.in_previous;
  in_latest = t.in_latest;
  n = t.n;
  enough = t.enough;
  within = omega (arith, t.within, length-append after more);
  is = t.is ∙ ap (λ cs. before ++ cs) (sym (take-append-le t.n after more t.within));
}

-- what the two files are read as
pub one_list_of_two : (before after one two : List CommitRecord) (least : ℕ) (files : List ℕ → Option (List ℕ))
    → TwoLogs before after least files → Reads one (files previous) → Reads two (files latest)
    → (n : ℕ) × (least ≤ n) × (n ≤ length after) × (one ++ two ≡ before ++ take n after)
one_list_of_two before after one two least files t first second = (
  t.n,
  t.enough,
  t.within,
  ap (λ cs. cs ++ two) (one_list_read (files previous) one t.one first t.in_previous)
      ∙ ap (λ cs. t.one ++ cs) (one_list_read (files latest) two t.two second t.in_latest) ∙ t.is,
)
