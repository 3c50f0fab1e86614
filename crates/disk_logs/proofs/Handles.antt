-- The calls on a published log.
use Rattle.std.proofs.Common.{◌≡◌, ℕ, Bool, true, false, IsTrue, not, ◌&&◌, if◌then◌else◌, List, ◌++◌, length, Result, Ok, Err, OnOk, refl}
use Rattle.std.proofs.Common.{sym, ap, ◌∙◌, subst, arith}
use Rattle.file_trait.specs.declared.disk.DiskErr.{DiskErr}
use Rattle.file_trait.specs.declared.disk.DiskErr.TheVariants.{Failed, Memory}
use Rattle.file_trait.specs.DiskModel.{Past, did, to_file, append}
use Rattle.file_trait.specs.Calls.{IsDurable, IsSureOf, Appended, Synced}
use Rattle.file_trait.specs.Moments.{Moments}
use Rattle.file_trait.proofs.Moments.{then_done, weaker}
use Rattle.log_items.specs.Items.{wire, log_bytes, AreContents}
use Rattle.log_items.proofs.ItemLemmas.{log_bytes-append}
use Rattle.disk_logs.specs.declared.error.LogErr.{LogErr}
use Rattle.disk_logs.specs.Crash.{LogStands, Stands, DraftStands, IsSound, LogLeaves, IsSafe}
use Rattle.disk_logs.specs.Errors.{told}
use Rattle.disk_logs.specs.Logs.{Handle, draft_name, file_of, with_mark, opened, SetsMark}
use Rattle.disk_logs.proofs.Acts.{safe, safe_more, sync_moments, sync_all, append_ok, append_moments, opening_ok, opening_moments}
use Rattle.disk_logs.proofs.Acts.{closing_ok, closing_moments}
use Rattle.disk_logs.proofs.Standing.{stands_leaves, sure_changed, fewer_synced}
use Rattle.disk_logs.proofs.Publishing.{draft_grows}
use Rattle.disk_logs.proofs.Sound.{stands_sound}

-- the file of a published log has the log's name
file_name : (log : Handle) → log.draft ≡ false → file_of log ≡ log.name
file_name log is = ap (λ d. if d then draft_name log.name else log.name) is

pub at_name : (at : List ℕ) (log : Handle) → at ≡ file_of log → log.draft ≡ false → at ≡ log.name
at_name at log same is = same ∙ file_name log is

-- its mark, where the code has asked for it
pub is_closed : (log : Handle) (b : Bool) → b ≡ (log.closed && not log.draft) → b ≡ true → log.closed ≡ true
is_closed log b asked is = go log.closed (sym asked ∙ is)
  where
    go : (closed : Bool) → (closed && not log.draft) ≡ true → closed ≡ true
    go true h = refl
    go false h = h

pub is_open : (log : Handle) (b : Bool) → b ≡ (log.closed && not log.draft) → b ≡ false → log.draft ≡ false → log.closed ≡ false
is_open log b asked is published = go log.closed (sym (ap (λ d. log.closed && not d) published) ∙ sym asked ∙ is)
  where
    go : (closed : Bool) → (closed && not false) ≡ false → closed ≡ false
    go true h = h
    go false h = refl

under_mark : (past : Past) (log : Handle) (items : List (List ℕ)) (synced : ℕ) (closed : Bool) → log.closed ≡ closed
    → Stands past log items synced → LogStands past log.name closed items synced
under_mark past log items synced closed is s = subst (λ c. LogStands past log.name c items synced) is s.stands

pub stands_safe : (past : Past) (log : Handle) (items : List (List ℕ)) (synced : ℕ) → Stands past log items synced
    → IsSafe log.name items synced past
stands_safe past log items synced s = safe past log.name log.closed items synced synced (omega arith) s.stands

module _ (name : List ℕ) (items : List (List ℕ)) (synced : ℕ) (old new : Past) (h : Moments (IsSafe name items synced) old new) where
  pub leaves_of : Moments (LogLeaves name items synced) old new
  leaves_of = weaker (IsSafe name items synced) (LogLeaves name items synced) old new (λ past safe. safe.0) h

  pub sound_of : Moments (λ past. IsSound past name) old new
  sound_of = weaker (IsSafe name items synced) (λ past. IsSound past name) old new (λ past safe. safe.1) h

  pub more_of : (more : List (List ℕ)) → Moments (IsSafe name (items ++ more) synced) old new
  more_of more = weaker (IsSafe name items synced) (IsSafe name (items ++ more) synced) old new (safe_more name items more synced) h

-- ---- it is opened

module _ (log now : Handle) (items : List (List ℕ)) (synced : ℕ) (old new : Past) (was : log.closed ≡ true)
    (s : Stands old log items synced) where
  its_mark : (r : Result Unit LogErr) → SetsMark (file_of log) false r old new → SetsMark log.name false r old new
  its_mark r done = subst (λ n. SetsMark n false r old new) (file_name log s.published) done

  pub opens_stands : (r : Result Unit LogErr) → OnOk r (now ≡ with_mark false log) → SetsMark (file_of log) false r old new
      → OnOk r (Stands new now items synced)
  opens_stands r set done = go r set
      (opening_ok log.name items synced old new (under_mark old log items synced true was s) r (its_mark r done))
    where
      go : (r : Result Unit LogErr) → OnOk r (now ≡ with_mark false log)
          → OnOk r (LogStands new log.name false items synced × IsSureOf new log.name) → OnOk r (Stands new now items synced)
      go (Ok x) set (stands, sure) = subst (λ l. Stands new l items synced) (sym set)
          (record { published = s.published; stands = stands; sure = λ _. sure })
      go (Err e) set done = tt

  pub opens_moments : (r : Result Unit LogErr) → SetsMark (file_of log) false r old new → Moments (IsSafe log.name items synced) old new
  opens_moments r done = opening_moments log.name items synced old new (under_mark old log items synced true was s) r (its_mark r done)

-- ---- it is synced

module _ (at : List ℕ) (log : Handle) (items : List (List ℕ)) (synced : ℕ) (r : Result Unit DiskErr) (old new : Past)
    (same : at ≡ file_of log) (s : Stands old log items synced) (done : Synced at r old new) where
  its_sync : Synced log.name r old new
  its_sync = subst (λ n. Synced n r old new) (at_name at log same s.published) done

  syncs_standing : Moments (λ past. LogStands past log.name log.closed items synced) old new
  syncs_standing = sync_moments log.name log.closed items synced old new s.stands r its_sync

  pub syncs_moments : Moments (LogLeaves log.name items synced) old new
  syncs_moments = weaker (λ past. LogStands past log.name log.closed items synced) (LogLeaves log.name items synced) old new
      (λ past h. stands_leaves past log.name log.closed items synced h) syncs_standing

  pub syncs_sound : Moments (λ past. IsSound past log.name) old new
  syncs_sound = weaker (λ past. LogStands past log.name log.closed items synced) (λ past. IsSound past log.name) old new
      (λ past h. stands_sound past log.name log.closed items synced h) syncs_standing

  pub syncs_stands : (t : Result Unit LogErr) → t ≡ told at r → log.closed ≡ false → OnOk t (Stands new log items (length items))
  syncs_stands t told_so open_now = subst (λ a. OnOk a (Stands new log items (length items))) (sym told_so) (go r its_sync)
    where
      go : (r : Result Unit DiskErr) → Synced log.name r old new → OnOk (told at r) (Stands new log items (length items))
      go (Ok x) is =
          let all = sync_all log.name log.closed items synced old new s.stands x (s.sure open_now) is in
          record { published = s.published; stands = all.0; sure = λ _. all.1 }
      go (Err Failed) is = tt
      go (Err Memory) is = tt

-- ---- it grows

-- where memory was wanting nothing was appended
pub wanted_same : (at bytes : List ℕ) (r : Result Unit DiskErr) (t : Result Unit LogErr) (mid new : Past) → t ≡ told at r
    → t ≡ Err LogErr.Memory → Appended at bytes r mid new → new ≡ mid
wanted_same at bytes (Ok x) t mid new told_so wanted done = absurd (cc (told_so, wanted))
wanted_same at bytes (Err Failed) t mid new told_so wanted done = absurd (cc (told_so, wanted))
wanted_same at bytes (Err Memory) t mid new told_so wanted same = same

pub wanted_kept : (at bytes : List ℕ) (now : Handle) (items : List (List ℕ)) (synced : ℕ) (r : Result Unit DiskErr)
    (t : Result Unit LogErr) (mid new : Past) → t ≡ told at r → t ≡ Err LogErr.Memory
    → Appended at bytes r mid new → Stands mid now items synced → Stands new now items synced
wanted_kept at bytes now items synced r t mid new told_so wanted done s =
    subst (λ past. Stands past now items synced) (sym (wanted_same at bytes r t mid new told_so wanted done)) s

pub wanted_moments : (at bytes name : List ℕ) (items : List (List ℕ)) (synced : ℕ) (r : Result Unit DiskErr) (t : Result Unit LogErr)
    (old mid new : Past) → t ≡ told at r → t ≡ Err LogErr.Memory
    → Appended at bytes r mid new → Moments (IsSafe name items synced) old mid → Moments (LogLeaves name items synced) old new
wanted_moments at bytes name items synced r t old mid new told_so wanted done h =
    subst (λ past. Moments (LogLeaves name items synced) old past) (sym (wanted_same at bytes r t mid new told_so wanted done))
    (leaves_of name items synced old mid h)

module _ (at bytes : List ℕ) (log now : Handle) (items more : List (List ℕ)) (synced : ℕ) (r : Result Unit DiskErr) (mid new : Past)
    (same : at ≡ file_of now) (are : bytes ≡ wire more) (fit : AreContents more)
    (set : now ≡ opened log) (s : Stands mid now items synced) (done : Appended at bytes r mid new) where
  open_now : now.closed ≡ false
  open_now =
      let published : log.draft ≡ false = sym (ap (λ (l : Handle). l.draft) set) ∙ s.published in
      ap (λ (l : Handle). l.closed) set ∙ ap (λ d. d && log.closed) published

  stands_open : LogStands mid now.name false items synced
  stands_open = under_mark mid now items synced false open_now s

  its_append : Appended now.name (wire more) r mid new
  its_append = subst (λ b. Appended now.name b r mid new) are
      (subst (λ n. Appended n bytes r mid new) (at_name at now same s.published) done)

  pub appends_stands : (t : Result Unit LogErr) → t ≡ told at r → OnOk t (Stands new now (items ++ more) synced)
  appends_stands t told_so = subst (λ a. OnOk a (Stands new now (items ++ more) synced)) (sym told_so) (go r its_append)
    where
      go : (r : Result Unit DiskErr) → Appended now.name (wire more) r mid new → OnOk (told at r) (Stands new now (items ++ more) synced)
      go (Ok x) is = record {
        published = s.published;
        stands = subst (λ c. LogStands new now.name c (items ++ more) synced) (sym open_now)
            (append_ok now.name items more synced mid new fit stands_open x is);
        sure = λ _. subst (λ past. IsSureOf past now.name) (sym is) (sure_changed mid now.name (append (wire more)) (s.sure open_now));
      }
      go (Err Failed) is = tt
      go (Err Memory) is = tt

  pub appends_moments : (old : Past) → Moments (IsSafe log.name items synced) old mid
      → Moments (IsSafe log.name (items ++ more) synced) old new
  appends_moments old before =
      then_done (IsSafe log.name (items ++ more) synced) old mid new (more_of log.name items synced old mid before more)
      (subst (λ n. Moments (IsSafe n (items ++ more) synced) mid new) (ap (λ (l : Handle). l.name) set)
      (append_moments now.name items more synced mid new fit stands_open r its_append))

-- a draft is not opened
pub appends_drafted : (at bytes : List ℕ) (log : Handle) (all more : List (List ℕ)) (r : Result Unit DiskErr) (t : Result Unit LogErr)
    (old mid new : Past) → at ≡ file_of log → IsTrue log.draft → bytes ≡ wire more → mid ≡ old
    → DraftStands old (draft_name log.name) (log_bytes log.closed all) → t ≡ told at r → Appended at bytes r mid new
    → OnOk t (DraftStands new (draft_name log.name) (log_bytes log.closed (all ++ more)))
appends_drafted at bytes log all more r t old mid new same drafted are unopened d told_so done =
    subst (λ a. OnOk a (DraftStands new (draft_name log.name) (log_bytes log.closed (all ++ more)))) (sym told_so)
    (go r (subst (λ past. Appended (draft_name log.name) (wire more) r past new) unopened
    (subst (λ b. Appended (draft_name log.name) b r mid new) are (subst (λ n. Appended n bytes r mid new) at_draft done))))
  where
    at_draft : at ≡ draft_name log.name
    at_draft = same ∙ ap (λ b. if b then draft_name log.name else log.name) drafted

    go : (r : Result Unit DiskErr) → Appended (draft_name log.name) (wire more) r old new
        → OnOk (told at r) (DraftStands new (draft_name log.name) (log_bytes log.closed (all ++ more)))
    go (Ok x) is =
        subst (λ past. DraftStands past (draft_name log.name) (log_bytes log.closed (all ++ more))) (sym is)
        (subst (DraftStands (did (to_file (draft_name log.name) (append (wire more))) old) (draft_name log.name))
        (sym (log_bytes-append log.closed all more))
        (draft_grows old (draft_name log.name) (log_bytes log.closed all) (wire more) d))
    go (Err Failed) is = tt
    go (Err Memory) is = tt

-- ---- it is closed

on_ok : {A B : Type 0} (r : Result Unit LogErr) → (A → B) → OnOk r A → OnOk r B
on_ok (Ok x) f a = f a
on_ok (Err e) f a = tt

module _ (log held : Handle) (items : List (List ℕ)) (synced : ℕ) (old mid new : Past) (same : held ≡ log) (was : log.closed ≡ false)
    (s : Stands old log items synced) (all : Stands mid held items (length items))
    (r : Result Unit LogErr) (done : SetsMark (file_of held) true r mid new) where
  at_mid : Stands mid log items (length items)
  at_mid = subst (λ l. Stands mid l items (length items)) same all

  all_synced : LogStands mid log.name false items (length items)
  all_synced = under_mark mid log items (length items) false was at_mid

  some_synced : LogStands mid log.name false items synced
  some_synced = fewer_synced mid log.name false items (length items) synced s.stands.within all_synced

  closing_mark : SetsMark log.name true r mid new
  closing_mark = subst (λ n. SetsMark n true r mid new) (ap file_of same ∙ file_name log s.published) done

  pub closes_kept : (now : Handle) → now ≡ held → r ≡ Err LogErr.Memory → Stands new now items synced
  closes_kept now unset wanted =
      subst (λ l. Stands new l items synced) (sym (unset ∙ same))
      (subst (λ past. Stands past log items synced) (sym (go r wanted closing_mark))
      (record {
        published = s.published;
        stands = subst (λ c. LogStands mid log.name c items synced) (sym was) some_synced;
        sure =
            at_mid.sure;
      }))
    where
      go : (r : Result Unit LogErr) → r ≡ Err LogErr.Memory → SetsMark log.name true r mid new → new ≡ mid
      go r is = subst (λ a. SetsMark log.name true a mid new → new ≡ mid) (sym is) (λ same. same)

  module _ (durable : IsDurable mid log.name) where
    marks : Moments (IsSafe log.name items synced) mid new
    marks = closing_moments log.name items synced mid new some_synced durable r closing_mark

    pub closes_moments : Moments (LogLeaves log.name items synced) old mid → Moments (LogLeaves log.name items synced) old new
    closes_moments before = then_done (LogLeaves log.name items synced) old mid new before (leaves_of log.name items synced mid new marks)

    pub closes_sound : Moments (λ past. IsSound past log.name) old mid → Moments (λ past. IsSound past log.name) old new
    closes_sound before = then_done (λ past. IsSound past log.name) old mid new before (sound_of log.name items synced mid new marks)

    closed_all : OnOk r (LogStands new log.name true items (length items) × IsDurable new log.name)
    closed_all = closing_ok log.name items (length items) mid new all_synced durable r (at_mid.sure was) closing_mark

    pub closes_durable : OnOk r (IsDurable new log.name)
    closes_durable = on_ok r (λ both. both.1) closed_all

    pub closes_stands : (now : Handle) → OnOk r (now ≡ with_mark true held) → OnOk r (Stands new now items (length items))
    closes_stands now set = go r set closed_all
      where
        go : (r : Result Unit LogErr) → OnOk r (now ≡ with_mark true held)
            → OnOk r (LogStands new log.name true items (length items) × IsDurable new log.name)
            → OnOk r (Stands new now items (length items))
        go (Ok x) set (stands, durable) = subst (λ l. Stands new l items (length items)) (sym (set ∙ ap (with_mark true) same))
            (record { published = s.published; stands = stands; sure = λ is. absurd (cc is) })
        go (Err e) set none = tt
