-- The acts on the log of the commits.
use Rattle.std.proofs.Common.{◌≡◌, ◌⊎◌, ℕ, zero, suc, ◌+◌, ◌<◌, ◌≤◌, Bool, true, false, if◌then◌else◌, List, [], ◌∷◌, ◌++◌, length, take, drop, Some, Result, Ok, Err, OnOk, OnErr, refl, sym, ap, ◌∙◌, subst, inl, inr, append-nil, append_assoc, length-append, length-drop, arith}
use Rattle.std.specs.Prelude.{IsErrOf}
use Rattle.std.proofs.lemmas.List.{take_all, take-append-drop}
use Rattle.std.proofs.lemmas.List.Elements.{All-append, All-cons, All-nil}
use Rattle.file_trait.specs.DiskModel.{Past, reads}
use Rattle.file_trait.specs.Calls.{IsDurable}
use Rattle.file_trait.specs.Moments.{Moments}
use Rattle.file_trait.specs.Touched.{Concerns, AllConcern, Touches}
use Rattle.file_trait.specs.DiskModel.{DiskOp, to_file, to_dir, create, rename, remove, sync, sync_failed, sync_dir}
use Rattle.file_trait.proofs.Moments.{weaker}
use Rattle.log_items.specs.Items.{item_bytes, wire, log_bytes, IsContent, AreContents, StartsNoItem}
use Rattle.log_items.proofs.ItemLemmas.{same_item, log_bytes-append}
use Rattle.log_items.proofs.Unique.{written}
use Rattle.file_trait.specs.declared.disk.Disk.{Ghosts}
use Rattle.disk_logs.specs.Calls.{LogCalls}
use Rattle.disk_logs.specs.Crash.{HasPrefix, Stands, IsSound, LogLeaves}
use Rattle.disk_logs.specs.Logs.{Handle, file_of, opened, with_mark, IsLog, AreItems, HasAppended, HasMarked}
use Rattle.disk_logs.specs.declared.error.LogErr.{LogErr}
use Rattle.disk_logs.specs.declared.error.LogErr.TheVariants.{File, Bad, TooLong, Memory}
use Rattle.db_model.specs.Commits.{CommitRecord}
use Rattle.txn_log.specs.Commits.{IsItemOf, IsCommit, AreItemsOf, commit_text}
use Rattle.txn_log.specs.Logs.{latest, LogState, at_latest, at_previous, handle, Reads, TxnStands, HasFirst, Leaves, IsLogName, IsOwn}
use Rattle.txn_log.proofs.CommitLists.{count_items, take_items, items_one_more}

pub on_ok : {P Q : Type 0} (r : Result Unit LogErr) → (P → Q) → OnOk r P → OnOk r Q
on_ok (Ok done) f h = f h
on_ok (Err error) f h = tt

pub any_ok : {P : Type 0} (r : Result Unit LogErr) → P → OnOk r P
any_ok (Ok done) h = h
any_ok (Err error) h = tt

-- ---- what a crash leaves

first_commits : (commits : List CommitRecord) (items : List (List ℕ)) (synced : ℕ) (bytes : List ℕ) → AreItemsOf commits items → HasPrefix items (suc synced) bytes → HasFirst commits synced bytes
first_commits commits items synced bytes are (zero, low, high, has) = absurd (omega (arith, low))
first_commits commits items synced bytes are (suc n, low, high, has) =
    (n, omega (arith, low), omega (arith, high, count_items commits items are), (take (suc n) items, take_items n commits items are, has))

pub leaves_commits : (commits : List CommitRecord) (items : List (List ℕ)) (synced : ℕ) (past : Past) → AreItemsOf commits items
    → LogLeaves latest items (suc synced) past → Leaves commits synced past
leaves_commits commits items synced past are h image w = let r = h image w in (r.0, r.1, first_commits commits items synced r.0 are r.2)

pub moments_commits : (commits : List CommitRecord) (items : List (List ℕ)) (synced : ℕ) (old new : Past) (name : List ℕ) → name ≡ latest → AreItemsOf commits items
    → Moments (LogLeaves name items (suc synced)) old new → Moments (Leaves commits synced) old new
moments_commits commits items synced old new name is are h =
    weaker (LogLeaves latest items (suc synced)) (Leaves commits synced) old new (λ past. leaves_commits commits items synced past are)
    (subst (λ n. Moments (LogLeaves n items (suc synced)) old new) is h)

-- ---- touched names

concerns_more : (N M : List ℕ → Type 0) (op : DiskOp) → ((name : List ℕ) → N name → M name) → Concerns N op → Concerns M op
concerns_more N M (to_file other op) f h = f other h
concerns_more N M (to_dir (create other)) f h = f other h
concerns_more N M (to_dir (rename from to)) f h = (f from h.0, f to h.1)
concerns_more N M (to_dir (remove other)) f h = f other h
concerns_more N M (sync other) f h = tt
concerns_more N M (sync_failed other) f h = f other h
concerns_more N M sync_dir f h = tt

all_more : (N M : List ℕ → Type 0) (ops : List DiskOp) → ((name : List ℕ) → N name → M name) → AllConcern N ops → AllConcern M ops
all_more N M [] f h = tt
all_more N M (op ∷ ops) f h = (concerns_more N M op f h.0, all_more N M ops f h.1)

pub touches_more : (N M : List ℕ → Type 0) (old new : Past) → ((name : List ℕ) → N name → M name) → Touches N old new → Touches M old new
touches_more N M old new f t = record { ops = t.ops; grown = t.grown; all = all_more N M t.ops f t.all }

pub touches_latest : (old new : Past) (file : List ℕ) → file ≡ latest → Touches (λ n. n ≡ file) old new
    → Touches (λ n. n ≡ latest) old new
touches_latest old new file is t = touches_more (λ n. n ≡ file) (λ n. n ≡ latest) old new (λ name at. at ∙ is) t

-- its file is one of the log's
pub touches_log : (old new : Past) → Touches (λ n. n ≡ latest) old new → Touches IsLogName old new
touches_log old new t = touches_more (λ n. n ≡ latest) IsLogName old new (λ name at. inl at) t

-- the names that a call touches are the log's
pub own_log : (log : LogState) (name : List ℕ) → IsOwn log name → IsLogName name
own_log log name (inl is) = inl is
own_log log name (inr (waits, is)) = inr is

-- a call owes the same of more names
pub wider_calls : {D T : Type 0} {Own : List ℕ → Type 0} {Only : Result T LogErr → Type 0} (g : Ghosts D) (old new : D)
    (Wide : List ℕ → Type 0) (Any : Result T LogErr → Type 0) (r : Result T LogErr) → ((name : List ℕ) → Own name → Wide name)
    → (Only r → Any r) → LogCalls g old new Own Only r → LogCalls g old new Wide Any r
wider_calls {Own = Own} g old new Wide Any r wider only calls = record {
  touches = λ told. touches_more Own Wide _ _ wider (calls.touches told);
  time = calls.time;
  named = λ name failed. wider name (calls.named name failed);
  only = only calls.only;
  cause = calls.cause;
}

-- ---- the handle

-- a log that does not wait has its file under its name
pub made_handle : (state : LogState) → state.waits ≡ false → handle state ≡ at_latest state
made_handle state made = ap (λ b. if b then at_previous else at_latest state) made

pub held_at : {log : Handle} (state : LogState) → log ≡ handle state → state.waits ≡ false → log ≡ at_latest state
held_at state is made = is ∙ made_handle state made

pub waits_handle : (state : LogState) → state.waits ≡ true → handle state ≡ at_previous
waits_handle state waits = ap (λ b. if b then at_previous else at_latest state) waits

-- a log that is the handle of a state, or the open one of it
pub handle_file : (log : Handle) (state : LogState) → log ≡ at_latest state → file_of log ≡ latest
handle_file log state is = ap file_of is

pub handle_name : (log : Handle) (state : LogState) → log ≡ at_latest state → log.name ≡ latest
handle_name log state is = ap (λ (l : Handle). l.name) is

-- it stands with these items
pub txn_stands : (past : Past) (log : Handle) (state : LogState) (commits : List CommitRecord) (items : List (List ℕ)) (synced : ℕ)
    → state.waits ≡ false → log ≡ at_latest state → state.commits ≡ length commits → AreItemsOf commits items
    → Stands past log items (suc synced) → TxnStands past state commits synced
txn_stands past log state commits items synced made is count are stands =
    record { made = made; count = count; items = items; are = are; stands = subst (λ l. Stands past l items (suc synced)) is stands }

pub log_stands : (past : Past) (log : Handle) (state : LogState) (commits : List CommitRecord) (synced : ℕ) → log ≡ at_latest state
    → (h : TxnStands past state commits synced)
    → Stands past log h.items (suc synced)
log_stands past log state commits synced is h = subst (λ l. Stands past l h.items (suc synced)) (sym is) h.stands

-- the same where all is synced
pub txn_synced : (past : Past) (log : Handle) (state : LogState) (commits : List CommitRecord) (items : List (List ℕ))
    → state.waits ≡ false → log ≡ at_latest state → state.commits ≡ length commits → AreItemsOf commits items
    → Stands past log items (length items) → TxnStands past state commits (length commits)
txn_synced past log state commits items made is count are stands =
    txn_stands past log state commits items (length commits) made is count are
    (subst (Stands past log items) (count_items commits items are) stands)

pub handle_of : (log : Handle) (commits : ℕ) → log.name ≡ latest → log.draft ≡ false
    → log ≡ at_latest (record { commits = commits; closed = log.closed; waits = false })
handle_of log commits name draft = λ i. record { name = name i; draft = draft i; closed = log.closed }

-- after an act
pub handle_same : (log now : Handle) (was : LogState) (commits : ℕ) → log ≡ at_latest was → now ≡ log
    → now ≡ at_latest (record { commits = commits; closed = now.closed; waits = false })
handle_same log now was commits is same =
    handle_of now commits (ap (λ (l : Handle). l.name) (same ∙ is)) (ap (λ (l : Handle). l.draft) (same ∙ is))

pub handle_marked : (log now : Handle) (was : LogState) (commits : ℕ) (closed : Bool) → log ≡ at_latest was → now ≡ with_mark closed log
    → now ≡ at_latest (record { commits = commits; closed = now.closed; waits = false })
handle_marked log now was commits closed is marked =
    handle_of now commits (ap (λ (l : Handle). l.name) marked ∙ ap (λ (l : Handle). l.name) is) (ap (λ (l : Handle). l.draft) marked ∙ ap (λ (l : Handle). l.draft) is)

pub handle_either : (log now : Handle) (was : LogState) (commits : ℕ) (closed : Bool) → log ≡ at_latest was
    → (now ≡ log) ⊎ (now ≡ with_mark closed log) → now ≡ at_latest (record { commits = commits; closed = now.closed; waits = false })
handle_either log now was commits closed is (inl same) = handle_same log now was commits is same
handle_either log now was commits closed is (inr marked) = handle_marked log now was commits closed is marked

-- ---- the file

pub reads_whole : (closed : Bool) (past : Past) (commits : List CommitRecord) (items : List (List ℕ)) → AreItemsOf commits items → AreContents items → reads past latest ≡ Some (log_bytes closed items)
    → Reads commits (reads past latest)
reads_whole closed past commits items are fit is = inr (log_bytes closed items, is, (items, are, (closed, written closed items fit)))

pub item_wire : (bytes : List ℕ) (commit : CommitRecord) → IsItemOf commit bytes → bytes ≡ wire (commit_text commit ∷ [])
item_wire bytes commit h = h.is ∙ sym (append-nil (item_bytes (commit_text commit)))

pub one_fits : (content : List ℕ) → IsContent content → AreContents (content ∷ [])
one_fits content fits = All-cons IsContent content [] fits (All-nil IsContent)

pub item_is : (bytes items : List ℕ) → bytes ≡ items → ((commit : CommitRecord) × IsItemOf commit items) → AreItems bytes
item_is bytes items same (commit, h) =
    (commit_text commit ∷ [], one_fits (commit_text commit) h.fits, same ∙ item_wire items commit h)

-- ---- an append that failed

-- a front of an item is no item
part_starts_none : (content : List ℕ) (k : ℕ) → IsContent content → k < length (item_bytes content)
    → StartsNoItem (take k (item_bytes content))
part_starts_none content k fits short other small (more, is) =
    let whole = item_bytes content in
    let all : whole ++ [] ≡ item_bytes other ++ (more ++ drop k whole) =
    append-nil whole ∙ sym (take-append-drop k whole) ∙ ap (λ front. front ++ drop k whole) is
    ∙ append_assoc (item_bytes other) more (drop k whole) in
    let none_left : [] ≡ more ++ drop k whole = (same_item content other [] (more ++ drop k whole) fits small all).1 in
    omega (arith, ap length none_left, length-append more (drop k whole), length-drop k whole, short)

eq_or_lt : (m n : ℕ) → m ≤ n → (m ≡ n) ⊎ (m < n)
eq_or_lt zero zero le = inl refl
eq_or_lt zero (suc n) le = inr (omega arith)
eq_or_lt (suc m) zero le = absurd (omega arith)
eq_or_lt (suc m) (suc n) le = elim (eq_or_lt m n (omega arith)) [ inl same ↦ inl (ap suc same) | inr short ↦ inr (omega arith) ]

log_more : (closed : Bool) (items : List (List ℕ)) (item : List ℕ) → log_bytes closed (items ++ item ∷ []) ≡ log_bytes closed items ++ item_bytes item
log_more closed items item =
    log_bytes-append closed items (item ∷ []) ∙ ap (λ bytes. log_bytes closed items ++ bytes) (append-nil (item_bytes item))

module _ (commits : List CommitRecord) (items : List (List ℕ)) (commit : CommitRecord) (content : List ℕ) (are : AreItemsOf commits items) (fit : AreContents items) (is_commit : IsCommit content commit) (small : IsContent content) where
  -- the front of a new item behind the old ones
  part_left : (mark : Bool) (k : ℕ) (new : Past) → k ≤ length (item_bytes content) → (0 < k → mark ≡ false) → reads new latest ≡ Some (log_bytes mark items ++ take k (item_bytes content))
      → Reads commits (reads new latest) ⊎ Reads (commits ++ commit ∷ []) (reads new latest)
  part_left mark zero new le open_if is = inl (reads_whole mark new commits items are fit (is ∙ ap (λ bytes. Some bytes) (append-nil (log_bytes mark items))))
  part_left mark (suc k) new le open_if is = by (eq_or_lt (suc k) (length (item_bytes content)) le)
    where
      open_reads : reads new latest ≡ Some (log_bytes false items ++ take (suc k) (item_bytes content))
      open_reads = is ∙ ap (λ m. Some (log_bytes m items ++ take (suc k) (item_bytes content))) (open_if (omega arith))

      by : (suc k ≡ length (item_bytes content)) ⊎ (suc k < length (item_bytes content)) → Reads commits (reads new latest) ⊎ Reads (commits ++ commit ∷ []) (reads new latest)
      by (inl all) = inr (reads_whole false new (commits ++ commit ∷ []) (items ++ content ∷ []) (items_one_more commits items commit content are is_commit)
          (All-append IsContent items (content ∷ []) fit (one_fits content small))
          (open_reads ∙ ap (λ bytes. Some (log_bytes false items ++ bytes)) (take_all (suc k) (item_bytes content) (omega (arith, all)))
          ∙ ap (λ bytes. Some bytes) (sym (log_more false items content))))
      by (inr short) = inl (inr (
        log_bytes false items ++ take (suc k) (item_bytes content),
        open_reads,
        (
          items,
          are,
          (
            false,
            record {
              rest = take (suc k) (item_bytes content);
              fit = fit;
              end = part_starts_none content (suc k) small short;
              is = refl;
            },
          ),
        ),
      ))

  append_left : (error : LogErr) (mark : Bool) (new : Past) → HasAppended {T = Unit {0}} (Err error) mark false items (content ∷ []) (reads new latest)
      → Reads commits (reads new latest) ⊎ Reads (commits ++ commit ∷ []) (reads new latest)
  append_left Memory mark new is = inl (reads_whole mark new commits items are fit is)
  append_left (File name) mark new (set, k, le, open_if, is) =
      let one : wire (content ∷ []) ≡ item_bytes content = append-nil (item_bytes content) in
      part_left set k new (omega (arith, le, ap length one)) open_if (is ∙ ap (λ bytes. Some (log_bytes set items ++ take k bytes)) one)
  append_left (Bad name at) mark new is = absurd is
  append_left TooLong mark new is = absurd is

-- the log's file reads as a log after an append
pub append_logs : (r : Result Unit LogErr) (old new : Past) (log now : Handle) (was : LogState) (bytes items : List ℕ)
    → log ≡ at_latest was → bytes ≡ items → ((commit : CommitRecord) × IsItemOf commit items)
    → IsLog old (at_latest was) → ((name : List ℕ) → r ≡ Err (File name) → ⊥)
    → ((all more : List (List ℕ)) → bytes ≡ wire more → reads old (file_of log) ≡ Some (log_bytes log.closed all) → HasAppended r now.closed (opened log).closed all more (reads new (file_of log)))
    → (all : List (List ℕ)) × (reads new latest ≡ Some (log_bytes now.closed all))
append_logs r old new log now was bytes items is same (commit, item) (all, here) no_fault given = by r no_fault
    (subst (λ n. HasAppended r now.closed (opened log).closed all (commit_text commit ∷ []) (reads new n)) (ap file_of is)
    (given all (commit_text commit ∷ []) (same ∙ item_wire items commit item) (subst (λ (l : Handle). reads old (file_of l) ≡ Some (log_bytes l.closed all)) (sym is) here)))
  where
    by : (r : Result Unit LogErr) → ((name : List ℕ) → r ≡ Err (File name) → ⊥) → HasAppended r now.closed (opened log).closed all (commit_text commit ∷ []) (reads new latest)
        → (all : List (List ℕ)) × (reads new latest ≡ Some (log_bytes now.closed all))
    by (Ok done) no_fault so = (all ++ commit_text commit ∷ [], so)
    by (Err Memory) no_fault so = (all, so)
    by (Err (File name)) no_fault so = absurd (no_fault name refl)
    by (Err (Bad name at)) no_fault so = absurd so
    by (Err TooLong) no_fault so = absurd so

-- the same after a close for which memory was wanting
pub close_logs : (r : Result Unit LogErr) (old new : Past) (log now : Handle) (was : LogState) → log ≡ at_latest was
    → IsLog old (at_latest was) → IsErrOf r Memory → (IsErrOf r Memory → now ≡ log)
    → ((all : List (List ℕ)) → reads old (file_of log) ≡ Some (log_bytes log.closed all) → HasMarked r log.closed true all (reads new (file_of log)))
    → (all : List (List ℕ)) × (reads new latest ≡ Some (log_bytes now.closed all))
close_logs r old new log now was is (all, here) wanted same given = (
  all,
  subst (λ (l : Handle). reads new latest ≡ Some (log_bytes l.closed all)) (sym (same wanted))
      (by r wanted (subst (λ n. HasMarked r log.closed true all (reads new n)) (ap file_of is) (given all (subst (λ (l : Handle). reads old (file_of l) ≡ Some (log_bytes l.closed all)) (sym is) here)))),
)
  where
    by : (r : Result Unit LogErr) → IsErrOf r Memory → HasMarked r log.closed true all (reads new latest) → reads new latest ≡ Some (log_bytes log.closed all)
    by (Ok done) wanted so = absurd (cc)
    by (Err Memory) wanted so = so
    by (Err (File name)) wanted so = absurd (cc)
    by (Err (Bad name at)) wanted so = absurd so
    by (Err TooLong) wanted so = absurd so

-- the log itself
module _ (old new : Past) (log now : Handle) (was : LogState) (commits : List CommitRecord) (synced : ℕ) (is : log ≡ at_latest was)
    (h : TxnStands old was commits synced) where
  log_reads : reads old (file_of log) ≡ Some (log_bytes log.closed h.items)
  log_reads = ap (λ (l : Handle). reads old (file_of l)) is ∙ h.stands.stands.read ∙ ap (λ (l : Handle). Some (log_bytes l.closed h.items)) (sym is)

  pub append_fails : (error : LogErr) (bytes : List ℕ) (commit : CommitRecord) → IsItemOf commit bytes
      → ((all more : List (List ℕ)) → bytes ≡ wire more → reads old (file_of log) ≡ Some (log_bytes log.closed all) → HasAppended {T = Unit {0}} (Err error) now.closed (opened log).closed all more (reads new (file_of log)))
      → Reads commits (reads new latest) ⊎ Reads (commits ++ commit ∷ []) (reads new latest)
  append_fails error bytes commit item given =
      let so = given h.items (commit_text commit ∷ []) (item_wire bytes commit item) log_reads in
      let set : (opened log).closed ≡ false = ap (λ (l : Handle). (opened l).closed) is in
      append_left commits h.items commit (commit_text commit) h.are h.stands.stands.fit item.text item.fits error now.closed new
      (subst (λ b. HasAppended {T = Unit {0}} (Err error) now.closed b h.items (commit_text commit ∷ []) (reads new latest)) set
      (subst (λ n. HasAppended {T = Unit {0}} (Err error) now.closed (opened log).closed h.items (commit_text commit ∷ []) (reads new n)) (ap file_of is) so))

  pub close_fails : (r : Result Unit LogErr) → ((all : List (List ℕ)) → reads old (file_of log) ≡ Some (log_bytes log.closed all) → HasMarked r log.closed true all (reads new (file_of log)))
      → OnErr r (Reads commits (reads new latest))
  close_fails r given = by r (subst (λ n. HasMarked r log.closed true h.items (reads new n)) (ap file_of is) (given h.items log_reads))
    where
      by : (r : Result Unit LogErr) → HasMarked r log.closed true h.items (reads new latest) → OnErr r (Reads commits (reads new latest))
      by (Ok done) so = tt
      by (Err (File name)) (mark, reads_so) = reads_whole mark new commits h.items h.are h.stands.stands.fit reads_so
      by (Err (Bad name at)) never = absurd never
      by (Err TooLong) never = absurd never
      by (Err Memory) reads_so = reads_whole log.closed new commits h.items h.are h.stands.stands.fit reads_so

  pub sync_fails : (r : Result Unit LogErr) → ((other : List ℕ) → reads new other ≡ reads old other) → OnErr r (Reads commits (reads new latest))
  sync_fails (Ok done) same = tt
  sync_fails (Err error) same = reads_whole was.closed new commits h.items h.are h.stands.stands.fit (same latest ∙ h.stands.stands.read)

  pub append_moments : (bytes : List ℕ) (commit : CommitRecord) → IsItemOf commit bytes
      → ((all more : List (List ℕ)) (least : ℕ) → AreContents more → bytes ≡ wire more → Stands old log all least → Moments (LogLeaves log.name (all ++ more) least) old new)
      → Moments (Leaves (commits ++ commit ∷ []) synced) old new
  append_moments bytes commit item given =
      moments_commits (commits ++ commit ∷ []) (h.items ++ commit_text commit ∷ []) synced old new log.name (handle_name log was is) (items_one_more commits h.items commit (commit_text commit) h.are item.text)
      (given h.items (commit_text commit ∷ []) (suc synced) (one_fits (commit_text commit) item.fits) (item_wire bytes commit item) (log_stands old log was commits synced is h))

  pub same_moments : ((all : List (List ℕ)) (least : ℕ) → Stands old log all least → Moments (LogLeaves log.name all least) old new) → Moments (Leaves commits synced) old new
  same_moments given = moments_commits commits h.items synced old new log.name (handle_name log was is) h.are (given h.items (suc synced) (log_stands old log was commits synced is h))

  -- it stays sound
  pub log_sound : ((all : List (List ℕ)) (least : ℕ) → Stands old log all least → Moments (λ past. IsSound past log.name) old new)
      → Moments (λ past. IsSound past latest) old new
  log_sound given =
      subst (λ name. Moments (λ past. IsSound past name) old new) (handle_name log was is)
      (given h.items (suc synced) (log_stands old log was commits synced is h))

  pub log_durable : (r : Result Unit LogErr) → was.closed ≡ false
      → ((all : List (List ℕ)) (least : ℕ) → Stands old log all least → log.closed ≡ false → OnOk r (IsDurable new log.name))
      → OnOk r (IsDurable new latest)
  log_durable r is_open given =
      subst (λ name. OnOk r (IsDurable new name)) (handle_name log was is)
      (given h.items (suc synced) (log_stands old log was commits synced is h) (ap (λ (l : Handle). l.closed) is ∙ is_open))

  -- at Ok
  module _ (state : LogState) (made : state.waits ≡ false) (now_is : now ≡ at_latest state) where
    pub appended_stands : (bytes : List ℕ) (commit : CommitRecord) → state.commits ≡ was.commits + 1 → IsItemOf commit bytes
        → ((all more : List (List ℕ)) (least : ℕ) → AreContents more → bytes ≡ wire more → Stands old log all least → Stands new now (all ++ more) least)
        → TxnStands new state (commits ++ commit ∷ []) synced
    appended_stands bytes commit more item given =
        txn_stands new now state (commits ++ commit ∷ []) (h.items ++ commit_text commit ∷ []) synced made now_is
        (omega (arith, more, h.count, length-append commits (commit ∷ [])))
        (items_one_more commits h.items commit (commit_text commit) h.are item.text)
        (given h.items (commit_text commit ∷ []) (suc synced) (one_fits (commit_text commit) item.fits) (item_wire bytes commit item) (log_stands old log was commits synced is h))

    pub kept_stands : state.commits ≡ was.commits → ((all : List (List ℕ)) (least : ℕ) → Stands old log all least → Stands new now all least) → TxnStands new state commits synced
    kept_stands same given = txn_stands new now state commits h.items synced made now_is (same ∙ h.count) h.are
        (given h.items (suc synced) (log_stands old log was commits synced is h))

    pub synced_stands : state.commits ≡ was.commits → ((all : List (List ℕ)) (least : ℕ) → Stands old log all least → Stands new now all (length all)) → TxnStands new state commits (length commits)
    synced_stands same given =
        txn_synced new now state commits h.items made now_is (same ∙ h.count) h.are
        (given h.items (suc synced) (log_stands old log was commits synced is h))

  -- the same where the answer is to be looked at
  pub when_synced : (r : Result Unit LogErr) (state : LogState) → state.waits ≡ false → OnOk r (now ≡ at_latest state)
      → state.commits ≡ was.commits
      → ((all : List (List ℕ)) (least : ℕ) → Stands old log all least → OnOk r (Stands new now all (length all))) → OnOk r (TxnStands new state commits (length commits))
  when_synced (Ok done) state made now_is same given = synced_stands state made now_is same given
  when_synced (Err error) state made now_is same given = tt
