-- The log's commits as the machine's entries: what stands, and what a crash leaves of it.
use Rattle.std.proofs.Common.{◌≡◌, ℕ, zero, suc, ◌+◌, ◌-◌, ◌≤◌, Bool, true, false, List, [], ◌∷◌, ◌++◌, length, take, drop, Some, sym, ap, ◌∙◌, subst, inl, inr, arith, append_assoc, append-nil, length-append}
use Rattle.std.proofs.lemmas.List.{map-append, length-map, take-map, take-append-drop}
use Rattle.std.proofs.Math.Seq.{take-append-add}
use Rattle.file_trait.specs.DiskModel.{Past, reads, Crashes}
use Rattle.file_trait.specs.Shown.{ReadsAs}
use Rattle.log_items.specs.Items.{log_bytes}
use Rattle.log_items.proofs.Unique.{written}
use Rattle.disk_logs.specs.Crash.{HasPrefix, IsSound}
use Rattle.disk_logs.proofs.Sound.{stands_sound}
use Rattle.disk_logs.proofs.Standing.{stands_leaves}
use Rattle.db_model.specs.Commits.{CommitRecord}
use Rattle.txn_log.specs.Commits.{HasCommits}
use Rattle.txn_log.specs.Logs as logs
use Rattle.txn_log.specs.Logs.{LogState, Reads, TxnStands, HasFirst}
use Rattle.txn_log.proofs.CommitLists.{count_items, take_items}
use Rattle.mn_node.specs.Durable.{Entry, Durable, after, made}
use Rattle.mn_node.specs.Machine.{Machine, IsKept, commit_in, commits_of, LeavesAs}
use Rattle.mn_node.specs.Meaning.{Files, latest, Meaning, stands, broken, AreTaken, Stands, StandsClosed, Means, IsPrefixOf}
use Rattle.mn_node.specs.Shown.{IsHistory}
use Rattle.mn_node.proofs.Histories.{made_behind, taken_all, history_first}

-- ---- commits and entries

pub behind_more : (earlier : List CommitRecord) (entries more : List Entry)
    → (earlier ++ commits_of entries) ++ commits_of more ≡ earlier ++ commits_of (entries ++ more)
behind_more earlier entries more =
    append_assoc earlier (commits_of entries) (commits_of more) ∙ ap (λ cs. earlier ++ cs) (sym (map-append commit_in entries more))

pub behind_count : (earlier : List CommitRecord) (entries : List Entry)
    → length (earlier ++ commits_of entries) ≡ length earlier + length entries
behind_count earlier entries = length-append earlier (commits_of entries) ∙ ap (λ n. length earlier + n) (length-map entries commit_in)

first_behind : (earlier : List CommitRecord) (entries : List Entry) (n : ℕ) → length earlier ≤ n
    → take n (earlier ++ commits_of entries) ≡ earlier ++ commits_of (take (n - length earlier) entries)
first_behind earlier entries n low =
    let more : n ≡ length earlier + (n - length earlier) = omega (arith, low) in
    ap (λ m. take m (earlier ++ commits_of entries)) more ∙ take-append-add earlier (commits_of entries) (n - length earlier)
    ∙ ap (λ cs. earlier ++ cs) (take-map commit_in (n - length earlier) entries)

-- what was kept is the first ones of the entries
pub kept_front : (machine : Machine) (kept : List Entry) → IsKept machine kept → (rest : List Entry) × (machine.entries ≡ kept ++ rest)
kept_front machine kept (inl is) = ([], is ∙ sym (append-nil kept))
kept_front machine kept (inr (doubt, last, is)) = (last ∷ [], is)

-- ---- directories

pub stands_behind : (earlier : List CommitRecord) (entries : List Entry) (files : Files) → IsHistory earlier entries
    → Reads (earlier ++ commits_of entries) (files latest) → Stands files (after (made earlier) entries)
stands_behind earlier entries files h has =
    (earlier ++ commits_of entries, has, taken_all earlier entries h, sym (made_behind earlier entries h))

first_history : (earlier : List CommitRecord) (entries : List Entry) (n : ℕ) → IsHistory earlier entries
    → IsHistory earlier (take n entries)
first_history earlier entries n h =
    history_first earlier (take n entries) (drop n entries) (subst (IsHistory earlier) (sym (take-append-drop n entries)) h)

-- the first commits of a log, with all earlier ones, are the first entries
pub prefix_behind : (earlier : List CommitRecord) (entries : List Entry) (least : ℕ) (files : Files) → IsHistory earlier entries
    → ReadsAs latest (HasFirst (earlier ++ commits_of entries) (length earlier + least)) files
    → IsPrefixOf (made earlier) entries least files
prefix_behind earlier entries least files h (bytes, there, (n, low, high, has)) =
    let all : List CommitRecord = earlier ++ commits_of entries in
    let m : ℕ = n - length earlier in
    let first : take n all ≡ earlier ++ commits_of (take m entries) = first_behind earlier entries n (omega (arith, low)) in (
      m,
      omega (arith, low),
      omega (arith, low, high, behind_count earlier entries),
      stands_behind earlier (take m entries) files (first_history earlier entries m h)
          (inr (bytes, there, subst (λ cs. HasCommits cs bytes) first has)),
    )

pub crash_behind : (earlier : List CommitRecord) (entries : List Entry) (least : ℕ) (past : Past) → IsHistory earlier entries
    → logs.Leaves (earlier ++ commits_of entries) (length earlier + least) past → Crashes (IsPrefixOf (made earlier) entries least) past
crash_behind earlier entries least past h leaves image is = prefix_behind earlier entries least image h (leaves image is)

-- ---- a log that stands

module _ (past : Past) (log : LogState) (commits : List CommitRecord) (synced : ℕ) (h : TxnStands past log commits synced) where
  pub standing_reads : Reads commits (reads past latest)
  standing_reads =
      let kept = h.stands.stands in
      inr (log_bytes log.closed h.items, kept.read, (h.items, h.are, (log.closed, written log.closed h.items kept.fit)))

  pub standing_within : synced ≤ length commits
  standing_within = let kept = h.stands.stands in omega (arith, kept.within, count_items commits h.items h.are)

  pub standing_sound : IsSound past latest
  standing_sound = stands_sound past latest log.closed h.items (suc synced) h.stands.stands

  pub standing_closed : log.closed ≡ true → (w : Durable) → AreTaken commits → w ≡ made commits → StandsClosed (reads past) w
  standing_closed closed w can is =
      let kept = h.stands.stands in
      (commits, h.items, h.are, kept.fit, kept.read ∙ ap (λ mark. Some (log_bytes mark h.items)) closed, can, is)

  first_commits : (files : Files) → ReadsAs latest (HasPrefix h.items (suc synced)) files → ReadsAs latest (HasFirst commits synced) files
  first_commits files (bytes, there, (zero, low, high, listed)) = absurd (omega (arith, low))
  first_commits files (bytes, there, (suc m, low, high, listed)) =
      let has : HasCommits (take m commits) bytes = (take (suc m) h.items, take_items m commits h.items h.are, listed) in
      (bytes, there, (m, omega (arith, low), omega (arith, high, count_items commits h.items h.are), has))

  pub standing_leaves : logs.Leaves commits synced past
  standing_leaves image is = first_commits image (stands_leaves past latest log.closed h.items (suc synced) h.stands.stands image is)

-- ---- files whose logs read the same

same_stands : (files other : Files) (w : Durable) → files latest ≡ other latest → Stands other w → Stands files w
same_stands files other w same (commits, has, puts, is) = (commits, subst (Reads commits) (sym same) has, puts, is)

same_means : (files other : Files) (meaning : Meaning) → files latest ≡ other latest → Means other meaning → Means files meaning
same_means files other (stands w) same h = same_stands files other w same h
same_means files other (broken name at) same (named, wrong) = (named, subst (logs.IsWrong AreTaken at) (sym same) wrong)

pub same_leaves : (begun : Bool) (base : Meaning) (first : Past) (entries : List Entry) (least : ℕ) (files other : Files)
    → files latest ≡ other latest
    → LeavesAs begun base first entries least other → LeavesAs begun base first entries least files
same_leaves true (stands w) first entries least files other same (n, low, high, st) =
    (n, low, high, same_stands files other (after w (take n entries)) same st)
same_leaves true (broken name at) first entries least files other same h = h
same_leaves false base first entries least files other same (inl (older, is, read)) = inl (older, is, same ∙ read)
same_leaves false base first entries least files other same (inr means) = inr (same_means files other base same means)
