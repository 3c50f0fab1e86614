-- What a start keeps of a log while it reads and opens it, and how the log makes a database.
use Rattle.std.proofs.Common.{◌≡◌, ◌⊎◌, ℕ, ◌+◌, List, [], ◌∷◌, ◌++◌, length, take, Option, Some, Result, Ok, Err, refl, sym, ap, ◌∙◌, subst, inl, inr, arith}
use Rattle.std.specs.Prelude.{◌↔◌, None, slice_get, OnErr, IsErrOf, MatchOption}
use Rattle.file_trait.specs.Calls.{SyncedDir, Cause}
use Rattle.file_trait.specs.Counts.{Rose}
use Rattle.file_trait.specs.DiskModel.{Past, did, reads, sync_dir, IsImage, Crashes}
use Rattle.file_trait.specs.Moments.{Moments}
use Rattle.file_trait.specs.Touched.{Touches}
use Rattle.file_trait.specs.declared.disk.DiskErr.{DiskErr}
use Rattle.file_trait.specs.declared.disk.DiskErr.TheVariants.{Failed, Memory}
use Rattle.file_trait.proofs.Changes.{sync_dir_adds_none}
use Rattle.file_trait.proofs.Moments.{none_done, one_done, then_done, weaker, at_end}
use Rattle.file_trait.proofs.Touched.{then_touched}
use Rattle.disk_logs.specs.Crash.{IsSound}
use Rattle.disk_logs.specs.Errors.{LogCause}
use Rattle.disk_logs.specs.Logs.{FileRead, IsRead}
use Rattle.disk_logs.specs.declared.error.LogErr.{LogErr}
use Rattle.disk_logs.specs.declared.error.LogErr.TheVariants as log_err
use Rattle.db_model.specs.Commits.{CommitRecord}
use Rattle.db_model.specs.Database.{Database}
use Rattle.db_model.specs.Lawful as databases
use Rattle.db_model.specs.Taken.{CanTake, taken, Takes}
use Rattle.db_model.specs.View.{commit_record}
use Rattle.db_model.specs.declared.commit.Commit.{Commit}
use Rattle.db_state.specs.Live.{database}
use Rattle.log_items.specs.Items.{wire}
use Rattle.txn_log.specs.Commits.{IsCommit, IsNoCommit, AreItemsOf}
use Rattle.txn_log.specs.Logs.{IsLogName, Reads, OldOrCommits, TxnStands, HasFound, IsAsRead, IsWrong, IsWrongAt}
use Rattle.txn_log.proofs.Acts.{touches_more}
use Rattle.txn_log.proofs.CallerLemmas.{one_commit, one_commit_more, wrong_behind, one_list_of_commits, reads_not_wrong, one_wrong_place, no_log_is_wrong, reads_of_items, wrong_of_items}
use Rattle.mn_node.specs.Calls.{Calls}
use Rattle.mn_node.specs.Durable.{made}
use Rattle.mn_node.specs.Inside.Loads.{Loads, Makes, TakesAt, CannotTakeAt, FailsBroken}
use Rattle.mn_node.specs.Meaning.{Files, latest, IsBroken, AreTaken}
use Rattle.mn_node.specs.Shown.{OpenShows, StaysSound}
use Rattle.mn_node.specs.declared.open.Open.{Open}
use Rattle.mn_node.specs.declared.starting.StartErr.{StartErr}
use Rattle.mn_node.specs.declared.starting.StartErr.TheVariants as start
use Rattle.mn_node.proofs.Directories.{first_taken, taken_more, last_taken, made_more}

-- ---- a sync of the directory

-- what a crash leaves it could leave before
abbrev pub IsEarlier : Past → Past → Type 0
IsEarlier old = Crashes (IsImage old)

now_earlier : (old : Past) → IsEarlier old old
now_earlier old = λ image left. left

pub sync_moments : (r : Result Unit DiskErr) (old new : Past) → SyncedDir r old new → Moments (IsEarlier old) old new
sync_moments (Ok x) old new (inl is) = one_done (IsEarlier old) sync_dir old new is (now_earlier old) (sync_dir_adds_none old)
sync_moments (Ok x) old new (inr (is, durable)) = none_done (IsEarlier old) old new is (now_earlier old)
sync_moments (Err Failed) old new (inl is) = none_done (IsEarlier old) old new is (now_earlier old)
sync_moments (Err Failed) old new (inr is) = one_done (IsEarlier old) sync_dir old new is (now_earlier old) (sync_dir_adds_none old)
sync_moments (Err Memory) old new never = absurd never

-- a closed log stays as trusted as it was
sync_sound : (past : Past) → IsSound past latest → IsSound (did sync_dir past) latest
sync_sound past sound i items is fit closed =
    let s = sound i items is fit closed in
    (λ n item low guarded stood. elim stood [ inl now ↦ now | inr before ↦ s.0 n item low guarded before ], s.1)

pub sync_stays : (r : Result Unit DiskErr) (old new : Past) → SyncedDir r old new → StaysSound old new
sync_stays (Ok x) old new (inl is) sound = one_done (λ past. IsSound past latest) sync_dir old new is sound (sync_sound old sound)
sync_stays (Ok x) old new (inr (is, durable)) sound = none_done (λ past. IsSound past latest) old new is sound
sync_stays (Err Failed) old new (inl is) sound = none_done (λ past. IsSound past latest) old new is sound
sync_stays (Err Failed) old new (inr is) sound = one_done (λ past. IsSound past latest) sync_dir old new is sound (sync_sound old sound)
sync_stays (Err Memory) old new never sound = absurd never

pub nothing_stays : (old new : Past) → new ≡ old → StaysSound old new
nothing_stays old new is sound = none_done (λ past. IsSound past latest) old new is sound

-- then the directory was synced, and the log was opened
pub synced_stays : (old read new : Past) → read ≡ old → StaysSound read new → StaysSound old new
synced_stays old read new is stays = subst (λ p. StaysSound p new) is stays

pub sound_now : (old new : Past) → StaysSound old new → IsSound old latest → IsSound new latest
sound_now old new stays sound = at_end (λ past. IsSound past latest) old new (stays sound)

pub opened_stays : (old read mid new : Past) → read ≡ old → StaysSound read mid → StaysSound mid new → StaysSound old new
opened_stays old read mid new is first second sound =
    let begun = synced_stays old read mid is first in
    then_done (λ past. IsSound past latest) old mid new (begun sound) (second (sound_now old mid begun sound))

-- ---- the moments of a start

earlier_or : (old : Past) (commits : List CommitRecord) (past : Past) → IsEarlier old past → OldOrCommits old commits past
earlier_or old commits past h = λ image left. inl (image, h image left, refl)

-- nothing was done but a read
pub read_moments : (old new : Past) (commits : List CommitRecord) → new ≡ old → Moments (OldOrCommits old commits) old new
read_moments old new commits is = none_done (OldOrCommits old commits) old new is (earlier_or old commits old (now_earlier old))

-- then the directory was synced
pub synced_moments : (old read new : Past) (commits : List CommitRecord) → read ≡ old → Moments (IsEarlier read) read new
    → Moments (OldOrCommits old commits) old new
synced_moments old read new commits is h =
    subst (λ p. Moments (OldOrCommits p commits) p new) is
    (weaker (IsEarlier read) (OldOrCommits read commits) read new (earlier_or read commits) h)

-- and the log was opened
pub opened_moments : (old read mid new : Past) (commits : List CommitRecord) → read ≡ old → Moments (IsEarlier read) read mid
    → Moments (OldOrCommits mid commits) mid new
    → Moments (OldOrCommits old commits) old new
opened_moments old read mid new commits is first second =
    then_done (OldOrCommits old commits) old mid new (synced_moments old read mid commits is first)
    (weaker (OldOrCommits mid commits) (OldOrCommits old commits) mid new (λ past h image left. by image (h image left)) second)
  where
    by : (image : Files) → ((earlier : Files) × IsImage mid earlier × (image latest ≡ earlier latest)) ⊎ Reads commits (image latest)
        → ((earlier : Files) × IsImage old earlier × (image latest ≡ earlier latest)) ⊎ Reads commits (image latest)
    by image (inl (earlier, left, same)) =
        inl (earlier, subst (λ p. IsImage p earlier) is (at_end (IsEarlier read) read mid first earlier left), same)
    by image (inr has) = inr has

-- over a closed log nothing is written
pub untouched_log : (old read mid new : Past) → read ≡ old → Touches (λ n. ⊥) read mid → new ≡ mid → Touches (λ n. ⊥) old new
untouched_log old read mid new is synced same =
    subst (λ p. Touches (λ n. ⊥) p new) is (subst (λ p. Touches (λ n. ⊥) read p) (sym same) synced)

-- only the log's names were touched
pub log_touched : (old read mid : Past) → read ≡ old → Touches (λ n. ⊥) read mid → Touches IsLogName old mid
log_touched old read mid is synced =
    touches_more (λ n. ⊥) IsLogName old mid (λ name never. absurd never) (untouched_log old read mid mid is synced refl)

pub opened_touched : (old read mid new : Past) → read ≡ old → Touches (λ n. ⊥) read mid → Touches IsLogName mid new
    → Touches IsLogName old new
opened_touched old read mid new is synced opened = then_touched IsLogName old mid new (log_touched old read mid is synced) opened

-- ---- what was opened

-- the middle disk has the log of the first one
pub same_log : (old read mid : Past) → read ≡ old → reads mid latest ≡ reads read latest → reads mid latest ≡ reads old latest
same_log old read mid is same = same ∙ ap (λ p. reads p latest) is

pub commits_read : (old read mid : Past) (commits : List CommitRecord) → Reads commits (reads old latest) → read ≡ old
    → reads mid latest ≡ reads read latest → Reads commits (reads mid latest)
commits_read old read mid commits has is same = subst (Reads commits) (sym (same_log old read mid is same)) has

pub as_read : (old read mid : Past) (found : Option FileRead) → IsAsRead found (reads old latest) → read ≡ old
    → reads mid latest ≡ reads read latest → IsAsRead found (reads mid latest)
as_read old read mid found has is same = subst (IsAsRead found) (sym (same_log old read mid is same)) has

pub left_as : {T E P : Type 0} (r : Result T E) → P → OnErr r P
left_as (Ok x) h = tt
left_as (Err e) h = h

pub opens : (live : Open) (old new : Past) (commits : List CommitRecord) → AreTaken commits → databases.IsSound (made commits).database
    → Reads commits (reads old latest) → Loads (reads old) (database live.tables)
    → TxnStands new live.log commits (length commits) → OpenShows live new commits (length commits)
opens live old new commits can sound has loads log = record {
  same = loads.same
      ∙ ap (λ cs. (made cs).database) (one_list_of_commits (reads old latest) loads.commits commits loads.reads has);
  log = log;
  taken = can;
  sound = sound;
}

-- ---- what a start owes

-- what the log's call owes for its error, behind calls that left the count, is owed for what a start fails with
pub start_calls : {T U : Type 0} {before old now : ℕ} {blamed : List (List ℕ)} (error : LogErr) (failed : StartErr) → old ≡ before
    → LogCause {T = T} old now blamed (Err error)
    → ((name : List ℕ) → (error ≡ log_err.File name) ↔ (failed ≡ start.File name))
    → Calls before now blamed (λ name. IsErrOf {T = U} (Err failed) (start.File name))
start_calls {T} {U} {before} {old} {now} {blamed} error failed same cause file = record {
  later = omega (arith, same, cause.later);
  rose = λ name is. subst (λ n. Rose n now) same (cause.failed name (at name is));
  blames = λ name is. cause.blames name (at name is);
  answered = λ none. cause.uncounted (λ name is.
      let error_is : error ≡ log_err.File name = cc is in
      none name (ap (λ e. Err e) ((file name).0 error_is))) ∙ same;
}
  where
    at : (name : List ℕ) → IsErrOf {T = U} (Err failed) (start.File name) → IsErrOf {T = T} (Err error) (log_err.File name)
    at name is = let failed_is : failed ≡ start.File name = cc is in ap (λ e. Err e) ((file name).1 failed_is)

-- the same of what the start fails with, behind calls that left the count
pub calls_as : {T U : Type 0} {before old now : ℕ} {blamed : List (List ℕ)} (failed : StartErr) → old ≡ before
    → Calls old now blamed (λ name. IsErrOf {T = T} (Err failed) (start.File name))
    → Calls before now blamed (λ name. IsErrOf {T = U} (Err failed) (start.File name))
calls_as {T} {U} {before} {old} {now} {blamed} failed same calls = record {
  later = omega (arith, same, calls.later);
  rose = λ name is. subst (λ n. Rose n now) same (calls.rose name (at name is));
  blames = λ name is. calls.blames name (at name is);
  answered = λ none. calls.answered (λ name is.
      let failed_is : failed ≡ start.File name = cc is in none name (ap (λ e. Err e) failed_is)) ∙ same;
}
  where
    at : (name : List ℕ) → IsErrOf {T = U} (Err failed) (start.File name) → IsErrOf {T = T} (Err failed) (start.File name)
    at name is = let failed_is : failed ≡ start.File name = cc is in ap (λ e. Err e) failed_is

-- the directory could not be synced
pub sync_calls : {before now : ℕ} {blamed_before blamed : List (List ℕ)} (error : DiskErr) (name : List ℕ)
    → (IsErrOf {T = Unit {0}} (Err error) Memory → ⊥) → Cause {T = Unit {0}} [] before now blamed_before blamed (Err error)
    → Calls before now blamed (λ other. IsErrOf {T = Unit {0}} (Err (start.File name)) (start.File other))
sync_calls Failed name never cause = record {
  later = cause.later;
  rose = λ other is. cause.failed refl;
  blames = λ other is. inl (cause.blames refl);
  answered = λ none. absurd (none name refl);
}
sync_calls Memory name never cause = absurd (never refl)

-- ---- a directory without a meaning

-- what was loaded has a meaning
pub loaded_means : (files : Files) (database : Database) (name : List ℕ) (at : ℕ) → Loads files database → IsBroken files name at → ⊥
loaded_means files database name at loads broken =
    reads_not_wrong AreTaken first_taken (files latest) loads.commits at loads.reads loads.taken broken.1

-- a log that could not be read is wrong from the place that was told
pub found_wrong : (files : Files) (error : LogErr) (name : List ℕ) (at : ℕ) → HasFound (Err error) (files latest)
    → error ≡ log_err.Bad name at → IsWrong AreTaken at (files latest)
found_wrong files error name at found is =
    let here = subst (λ e. HasFound (Err e) (files latest)) is found in no_log_is_wrong AreTaken at (files latest) here.1

-- it fails with the place of the damage, or for another reason
pub fails_broken : (files : Files) (name : List ℕ) (at : ℕ) (error : StartErr)
    → ((other : List ℕ) (place : ℕ) → error ≡ start.Damaged other place → IsBroken files other place)
    → IsBroken files name at → FailsBroken at error
fails_broken files name at (start.File other) h broken = tt
fails_broken files name at (start.Damaged other place) h broken =
    let found = h other place refl in (found.0, one_wrong_place AreTaken first_taken (files latest) place at found.1 broken.1)
fails_broken files name at start.Memory h broken = tt

-- ---- the database of a log

-- what its items make, the directory has
pub database_loads : (files : Files) (read : FileRead) (database : Database) → IsRead read → files latest ≡ Some read.bytes
    → Makes read.items database → Loads files database
database_loads files read database whole there makes = record {
  commits = makes.commits;
  taken = makes.taken;
  reads = reads_of_items read (files latest) makes.commits whole there makes.are;
  same = makes.same;
}

pub items_broken : (files : Files) (read : FileRead) (name : List ℕ) (at : ℕ) → IsRead read → files latest ≡ Some read.bytes
    → (name ≡ latest) × IsWrongAt AreTaken read.items at → IsBroken files name at
items_broken files read name at whole there wrong = (wrong.0, wrong_of_items AreTaken read (files latest) at whole there wrong.1)

-- ---- an item

-- what is read of item number n
abbrev pub Decodes : List ℕ → Option Commit → Type 0
Decodes content found = MatchOption found (IsNoCommit content) (λ commit. IsCommit content (commit_record commit))

abbrev pub Finds : List (List ℕ) → ℕ → Option Commit → Type 0
Finds items n found = (content : List ℕ) × (slice_get items n ≡ Some content) × Decodes content found

-- it is a text of no commit
pub none_at : (items : List (List ℕ)) (n : ℕ) (found : Option Commit) (before : Database) → found ≡ None → Finds items n found
    → CannotTakeAt items n before
none_at items n found before is h =
    let none : IsNoCommit h.0 = subst (Decodes h.0) is h.2 in
    record { content = h.0; found = h.1; none = λ commit text can. none commit text }

text_at : (items : List (List ℕ)) (n : ℕ) (found : Option Commit) (commit : Commit) → found ≡ Some commit → (h : Finds items n found)
    → IsCommit h.0 (commit_record commit)
text_at items n found commit is h = subst (Decodes h.0) is h.2

-- it is a text of a commit that cannot be taken
pub cannot_at : (items : List (List ℕ)) (n : ℕ) (found : Option Commit) (commit : Commit) (before : Database) → found ≡ Some commit
    → Finds items n found → Takes (commit_record commit) before None → CannotTakeAt items n before
cannot_at items n found commit before is h cannot = record {
  content = h.0;
  found = h.1;
  none = λ other text can.
      cannot (subst (λ c. CanTake c before) (one_commit h.0 other (commit_record commit) text (text_at items n found commit is h)) can);
}

-- it is a text of one that was taken
pub taken_at : (items : List (List ℕ)) (n : ℕ) (found : Option Commit) (commit : Commit) (before planned now : Database)
    → found ≡ Some commit → Finds items n found → Takes (commit_record commit) before (Some planned) → now ≡ planned
    → TakesAt items n before now
taken_at items n found commit before planned now is h takes same = record {
  content = h.0;
  found = h.1;
  commit = commit_record commit;
  text = text_at items n found commit is h;
  can = takes.0;
  is = same ∙ takes.1;
}

-- ---- one commit after another

-- so far the items are those of these commits, which make this database
pub record MakesFirst (items : List (List ℕ)) (n : ℕ) (database : Database) : Type 0 where
  pub commits : List CommitRecord
  pub taken : AreTaken commits
  pub are : AreItemsOf commits (take n items)
  pub same : database ≡ (made commits).database

pub makes_more : (items : List (List ℕ)) (n : ℕ) (before now : Database) → MakesFirst items n before → TakesAt items n before now
    → MakesFirst items (n + 1) now
makes_more items n before now h at =
    let can : CanTake at.commit (made h.commits).database = subst (CanTake at.commit) h.same at.can in
    record {
      commits = h.commits ++ at.commit ∷ [];
      taken = taken_more h.commits at.commit h.taken can;
      are = one_commit_more items h.commits n at.content at.commit h.are at.found at.text;
      same = at.is ∙ ap (taken at.commit) h.same ∙ sym (made_more h.commits at.commit);
    }

pub wrong_next : (items : List (List ℕ)) (n : ℕ) (before : Database) (at : ℕ) → MakesFirst items n before → CannotTakeAt items n before
    → at ≡ 8 + length (wire (take n items)) → IsWrongAt AreTaken items at
wrong_next items n before at h cannot place =
    wrong_behind AreTaken items h.commits n cannot.content at h.are h.taken cannot.found
    (λ commit more text. cannot.none commit text
    (subst (CanTake commit) (sym h.same) (last_taken h.commits commit more))) place
