-- What the calls on a log do to its file.
use Rattle.file_trait.specs.Touched.{Touches}
use Rattle.file_trait.proofs.Touched.{kept, untouched, touched, then_touched, sync_touches}
use Rattle.disk_logs.specs.declared.error.LogErr.TheVariants.{File, Bad, TooLong}
use Rattle.std.proofs.Common.{◌≡◌, ◌≢◌, inl, inr, ℕ, ◌≤◌, ◌<◌, Bool, true, false, IsTrue, if◌then◌else◌, List, [], ◌∷◌, ◌++◌, length, take, Option}
use Rattle.std.proofs.Common.{None, Some, Result, Ok, Err, IsErrOf, refl, sym, ap, ◌∙◌, subst, arith, length-append}
use Rattle.std.proofs.lemmas.List.{append-nil}
use Rattle.file_trait.specs.declared.disk.DiskErr.{DiskErr}
use Rattle.file_trait.specs.declared.disk.DiskErr.TheVariants.{Failed, Memory}
use Rattle.file_trait.specs.DiskModel.{Past, did, to_file, to_dir, append, mark, rename, same_name, reads}
use Rattle.file_trait.specs.Calls.{Has, Done, Appended, Synced, SyncedDir}
use Rattle.file_trait.proofs.Names.{other_name, same_name_refl}
use Rattle.file_trait.proofs.Files.{file_changed, reads_rename}
use Rattle.disk_logs.specs.declared.error.LogErr.{LogErr}
use Rattle.disk_logs.specs.Errors.{told}
use Rattle.log_items.specs.Items.{wire, log_bytes}
use Rattle.disk_logs.specs.Logs.{Handle, draft_name, file_of, IsLog, HasAppended, HasMarked, mark_bytes, SetsMark, IsMoved}
use Rattle.log_items.proofs.ItemLemmas.{log_bytes-append}
use Rattle.disk_logs.proofs.Effects.{done_ok, synced_dir_kept}

long : (closed : Bool) (items : List (List ℕ)) → 8 ≤ length (log_bytes closed items)
long true items = omega arith
long false items = omega arith

-- a log's file has a head
pub log_has : (past : Past) (log : Handle) (file : List ℕ) → file ≡ file_of log → IsLog past log → Has past file (λ bytes. 8 ≤ length bytes)
log_has past log file is (all, here) = (log_bytes log.closed all, ap (reads past) is ∙ here, long log.closed all)

-- ---- a mark that is set

pub set_done : (file name four : List ℕ) (closed : Bool) (r r' : Result Unit DiskErr) (t t' : Result Unit LogErr) (x : Unit {0})
    (old mid new : Past) → file ≡ name → four ≡ mark_bytes closed
    → t ≡ told file r → t ≡ Ok x → Done (to_file file (mark four)) r old mid → t' ≡ told file r' → Synced file r' mid new
    → SetsMark name closed t' old new
set_done file name four closed r r' t t' x old mid new same set told_so ok done told_sync synced =
    subst (λ a. SetsMark name closed a old new) (sym told_sync)
    (go r' (subst (λ p. Synced name r' p new) here (subst (λ n. Synced n r' mid new) same synced)))
  where
    here : mid ≡ did (to_file name (mark (mark_bytes closed))) old
    here =
        done_ok (to_file file (mark four)) file r t x old mid told_so ok done ∙ ap (λ n. did (to_file n (mark four)) old) same
        ∙ ap (λ f. did (to_file name (mark f)) old) set

    go : (r' : Result Unit DiskErr) → Synced name r' (did (to_file name (mark (mark_bytes closed))) old) new
        → SetsMark name closed (told file r') old new
    go (Ok x) is = is
    go (Err Failed) is = inr is
    go (Err Memory) never = absurd never

pub set_touches : (N : List ℕ → Type 0) (name : List ℕ) (closed : Bool) (r : Result Unit LogErr) (old new : Past) → N name
    → SetsMark name closed r old new → Touches N old new
set_touches N name closed r old new in_n = go r
  where
    then_synced : (r : Result Unit DiskErr) → Synced name r (did (to_file name (mark (mark_bytes closed))) old) new → Touches N old new
    then_synced r is =
        then_touched N old (did (to_file name (mark (mark_bytes closed))) old) new
        (touched N (to_file name (mark (mark_bytes closed))) old _ refl in_n) (sync_touches N name r _ new is in_n)

    go : (r : Result Unit LogErr) → SetsMark name closed r old new → Touches N old new
    go (Ok x) is = then_synced (Ok tt) is
    go (Err (File at)) (inl is) = untouched N old new is
    go (Err (File at)) (inr is) = then_synced (Err Failed) is
    go (Err (Bad at place)) never = absurd never
    go (Err TooLong) never = absurd never
    go (Err LogErr.Memory) is = untouched N old new is

-- ---- an append

pub appended : (file name bytes : List ℕ) (closed closed_now : Bool) (all more : List (List ℕ)) (r : Result Unit DiskErr)
    (t : Result Unit LogErr) (old new : Past)
    → file ≡ name → bytes ≡ wire more → closed_now ≡ closed → reads old name ≡ Some (log_bytes closed all) → t ≡ told file r
    → Appended file bytes r old new
    → HasAppended t closed_now closed all more (reads new name)
appended file name bytes closed closed_now all more r t old new same is set here told_so done =
    subst (λ a. HasAppended a closed_now closed all more (reads new name)) (sym told_so)
    (subst (λ c. HasAppended (told file r) c closed all more (reads new name)) (sym set)
    (subst (λ n. HasAppended (told file r) closed closed all more (reads new n)) same (go r done)))
  where
    at_file : reads old file ≡ Some (log_bytes closed all)
    at_file = ap (reads old) same ∙ here

    front : (k : ℕ) → k ≤ length bytes → new ≡ did (to_file file (append (take k bytes))) old
        → (b : Bool) × (k : ℕ) × (k ≤ length (wire more)) × (0 < k → b ≡ closed)
        × (reads new file ≡ Some (log_bytes b all ++ take k (wire more)))
    front k le now = (
      closed,
      k,
      omega (arith, le, ap length is),
      λ _. refl,
      ap (λ p. reads p file) now ∙ file_changed old file (append (take k bytes)) (log_bytes closed all) at_file
          ∙ ap (λ b. Some (log_bytes closed all ++ take k b)) is,
    )

    nothing : new ≡ old → (b : Bool) × (k : ℕ) × (k ≤ length (wire more)) × (0 < k → b ≡ closed)
        × (reads new file ≡ Some (log_bytes b all ++ take k (wire more)))
    nothing now = (
      closed,
      0,
      omega arith,
      λ _. refl,
      ap (λ p. reads p file) now ∙ at_file ∙ ap (λ b. Some b) (sym (append-nil (log_bytes closed all))),
    )

    go : (r : Result Unit DiskErr) → Appended file bytes r old new → HasAppended (told file r) closed closed all more (reads new file)
    go (Ok x) now =
        ap (λ p. reads p file) now ∙ file_changed old file (append bytes) (log_bytes closed all) at_file
        ∙ ap (λ b. Some (log_bytes closed all ++ b)) is
        ∙ ap (λ b. Some b) (sym (log_bytes-append closed all more))
    go (Err Failed) (inl now) = nothing now
    go (Err Failed) (inr (k, le, now)) = front k le now
    go (Err Memory) now = ap (λ p. reads p file) now ∙ at_file

-- where the log was not opened nothing was appended
pub not_opened : (r t : Result Unit LogErr) (e f : LogErr) (was closed_now set : Bool) (all more : List (List ℕ)) (file : Option (List ℕ))
    → t ≡ Err f → f ≡ e → r ≡ Err e → (IsErrOf r LogErr.Memory → closed_now ≡ was) → HasMarked r was set all file
    → HasAppended t closed_now set all more file
not_opened r t e f was closed_now set all more file is same failed wanted marked =
    subst (λ a. HasAppended a closed_now set all more file) (sym (is ∙ ap (λ x. Err x) same))
    (go e (λ memory. wanted (failed ∙ ap (λ x. Err x) memory)) (subst (λ a. HasMarked a was set all file) failed marked))
  where
    go : (e : LogErr) → (e ≡ LogErr.Memory → closed_now ≡ was) → HasMarked {T = Unit} (Err e) was set all file
        → HasAppended {T = Unit} (Err e) closed_now set all more file
    go (File name) memory (b, here) =
        (b, 0, omega arith, λ some. absurd (omega (arith, some)), here ∙ ap (λ b. Some b) (sym (append-nil (log_bytes b all))))
    go (Bad name at) memory never = never
    go TooLong memory never = never
    go LogErr.Memory memory here = here ∙ ap (λ b. Some (log_bytes b all)) (sym (memory refl))

-- ---- publishing

pub file_of_draft : (log : Handle) → IsTrue log.draft → file_of log ≡ draft_name log.name
file_of_draft log is = ap (λ d. if d then draft_name log.name else log.name) is

pub renamed : (past : Past) (from to : List ℕ) → from ≢ to → IsMoved from to past (did (to_dir (rename from to)) past)
renamed past from to apart = (
  reads_rename past from to to ∙ ap (λ b. if b then reads past from else if same_name from to then None else reads past to)
      (same_name_refl to),
  reads_rename past from to from
      ∙ ap (λ b. if b then reads past from else if same_name from from then None else reads past from)
      (other_name to from (λ is. apart (sym is)))
      ∙ ap (λ b. if b then None else reads past from) (same_name_refl from),
)

pub published : (file name from to : List ℕ) (r r' : Result Unit DiskErr) (t : Result Unit LogErr) (x : Unit {0})
    (old mid moved new : Past) → from ≢ to → file ≡ from → name ≡ to
    → ((other : List ℕ) → reads mid other ≡ reads old other) → t ≡ told file r → t ≡ Ok x → Done (to_dir (rename file name)) r mid moved
    → SyncedDir r' moved new
    → IsMoved from to old new
published file name from to r r' t x old mid moved new apart same_from same_to kept told_so is done settled =
    subst (λ f. IsMoved f to old new) same_from (subst (λ n. IsMoved file n old new) same_to all)
  where
    move : IsMoved file name mid (did (to_dir (rename file name)) mid)
    move = renamed mid file name (λ same. apart (sym same_from ∙ same ∙ same_to))

    now : moved ≡ did (to_dir (rename file name)) mid
    now = done_ok _ file r t x mid moved told_so is done

    all : IsMoved file name old new
    all = (
      synced_dir_kept r' moved new name settled ∙ ap (λ p. reads p name) now ∙ move.0 ∙ kept file,
      synced_dir_kept r' moved new file settled ∙ ap (λ p. reads p file) now ∙ move.1,
    )

pub draft_apart : (name : List ℕ) → name ++ 84 ∷ 77 ∷ 80 ∷ [] ≢ name
draft_apart name is = omega (arith, ap length is, length-append name (84 ∷ 77 ∷ 80 ∷ []))
