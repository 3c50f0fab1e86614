-- What a command that is tried makes of table and log, by what the log's call says.
use Rattle.std.proofs.Common.{◌≡◌, ◌⊎◌, ℕ, zero, suc, Bool, true, false, if◌then◌else◌, IsTrue, List, [], ◌∷◌, ◌++◌, length, take, map}
use Rattle.std.proofs.Common.{None, Result, Ok, Err, refl, sym, ap, ◌∙◌, subst, inl, append-nil, arith}
use Rattle.std.specs.Prelude.{Option, is_some, IsErr, IsErrOf}
use Rattle.std.specs.Result.{IsErrAnd}
use Rattle.std.proofs.lemmas.Result.{err_from_is_err_and}
use Rattle.term_core.specs.Tree.{Tree}
use Rattle.term_core.specs.View.{tree_of}
use Rattle.term_core.specs.declared.term.Term.{Term}
use Rattle.sqlite_items.specs.declared.items.Items.{Items}
use Rattle.file_trait.specs.DiskModel.{Past, reads}
use Rattle.file_trait.specs.Moments.{Moments}
use Rattle.file_trait.specs.Touched.{Touches}
use Rattle.file_trait.proofs.Moments.{none_done}
use Rattle.disk_logs.specs.Crash.{HasPrefix, IsSound}
use Rattle.disk_logs.specs.Errors.{OnlyFile, OnlyFileOrMemory, LogCause}
use Rattle.disk_logs.specs.Logs.{IsLog}
use Rattle.disk_logs.specs.declared.error.LogErr.{LogErr}
use Rattle.disk_logs.specs.declared.error.LogErr.TheVariants as log
use Rattle.disk_logs.proofs.Sound.{stands_sound}
use Rattle.disk_logs.proofs.Standing.{stands_leaves}
use Rattle.db_model.specs.Commits.{CommitRecord}
use Rattle.db_model.specs.Database.{do_commit}
use Rattle.db_model.specs.Histories.{AreLawful}
use Rattle.db_model.specs.Lawful as databases
use Rattle.db_model.specs.Lawful.{IsLawful}
use Rattle.db_model.proofs.Commitments.{stays_sound, lawful_taken}
use Rattle.db_state.specs.Live.{database}
use Rattle.txn_core.specs.Pending.{Txn}
use Rattle.txn_log.specs.Commits.{AreCommits, AreItemsOf}
use Rattle.txn_log.specs.Logs.{LogState, handle, Reads, TxnStands, HasFirst, Leaves, IsLogName}
use Rattle.mn_node.specs.Calls.{Calls}
use Rattle.mn_node.specs.Durable.{Entry, made}
use Rattle.mn_node.specs.Effects.{Answer, Effect, effect, adds, has_terms, finds, refuses, goes_to_disk}
use Rattle.mn_node.specs.Effects as effects
use Rattle.mn_node.specs.Inside.Tries.{Tries, Appends, StaysLog, appended}
use Rattle.mn_node.specs.Machine.{commits_of, entries_of}
use Rattle.mn_node.specs.Meaning.{latest}
use Rattle.mn_node.specs.Seen.{asked, answer}
use Rattle.mn_node.specs.Shown.{OpenShows}
use Rattle.mn_node.specs.declared.command.Command as code
use Rattle.mn_node.specs.declared.open.Done.{Done}
use Rattle.mn_node.specs.declared.open.Open.{Open}
use Rattle.mn_node.specs.declared.open.Trouble.{Trouble}
use Rattle.mn_node.specs.declared.open.Trouble.TheVariants.{File, Memory}
use Rattle.mn_node.specs.declared.reply.Reply.{Reply}
use Rattle.mn_node.specs.declared.reply.Reply.TheVariants as replies
use Rattle.mn_node.proofs.Directories.{taken_more, made_more}

-- a closed log may be trusted
abbrev pub Sound : Past → Type 0
Sound past = IsSound past latest

-- ---- what a crash leaves where nothing is done

count_commits : (commits : List CommitRecord) (contents : List (List ℕ)) → AreCommits commits contents → length contents ≡ length commits
count_commits [] [] are = refl
count_commits [] (content ∷ contents) are = absurd are
count_commits (c ∷ commits) [] are = absurd are
count_commits (c ∷ commits) (content ∷ contents) are = ap suc (count_commits commits contents are.1)

count_items : (commits : List CommitRecord) (items : List (List ℕ)) → AreItemsOf commits items → length items ≡ suc (length commits)
count_items commits [] are = absurd are
count_items commits (first ∷ contents) are = ap suc (count_commits commits contents are.1)

take_commits : (n : ℕ) (commits : List CommitRecord) (contents : List (List ℕ)) → AreCommits commits contents
    → AreCommits (take n commits) (take n contents)
take_commits zero commits contents are = tt
take_commits (suc n) [] [] are = tt
take_commits (suc n) [] (content ∷ contents) are = absurd are
take_commits (suc n) (c ∷ commits) [] are = absurd are
take_commits (suc n) (c ∷ commits) (content ∷ contents) are = (are.0, take_commits n commits contents are.1)

-- the first items of a log are those of its first commits
take_items : (n : ℕ) (commits : List CommitRecord) (items : List (List ℕ)) → AreItemsOf commits items
    → AreItemsOf (take n commits) (take (suc n) items)
take_items n commits [] are = absurd are
take_items n commits (first ∷ contents) are = (are.0, take_commits n commits contents are.1)

first_commits : (commits : List CommitRecord) (items : List (List ℕ)) (synced : ℕ) (bytes : List ℕ) → AreItemsOf commits items
    → HasPrefix items (suc synced) bytes → HasFirst commits synced bytes
first_commits commits items synced bytes are (zero, low, high, has) = absurd (omega (arith, low))
first_commits commits items synced bytes are (suc n, low, high, has) = (
  n,
  omega (arith, low),
  omega (arith, high, count_items commits items are),
  (take (suc n) items, take_items n commits items are, has),
)

module _ {past : Past} {log : LogState} {commits : List CommitRecord} {synced : ℕ} (stands : TxnStands past log commits synced) where
  pub leaves_commits : Leaves commits synced past
  leaves_commits image is =
      let (bytes, there, has) = stands_leaves past latest log.closed stands.items (suc synced) stands.stands.stands image is in
      (bytes, there, first_commits commits stands.items synced bytes stands.are has)

  pub sound_commits : Sound past
  sound_commits = stands_sound past latest log.closed stands.items (suc synced) stands.stands.stands

-- the result is an error
pub is_err : {T E : Type 0} (result : Result T E) (error : E) → result ≡ Err error → IsErr result
is_err result error is = subst IsErr (sym is) refl

-- ---- nothing is done

-- the effect is this answer and nothing else
pub record IsAnswered (e : Effect) (given : Answer) : Type 0 where
  pub answer : e.answer ≡ given
  pub entry : e.entry ≡ None
  pub settles : e.settles ≡ false
  pub halts : e.halts ≡ false

pub refuses_answered : (e : Effect) (given : Answer) → e ≡ refuses given → IsAnswered e given
refuses_answered e given is = record {
  answer = ap (λ (x : Effect). x.answer) is;
  entry = ap (λ (x : Effect). x.entry) is;
  settles = ap (λ (x : Effect). x.settles) is;
  halts = ap (λ (x : Effect). x.halts) is;
}

pub none_more : (P : List CommitRecord → Type 0) (commits : List CommitRecord) → P commits → P (commits ++ [])
none_more P commits h = subst P (sym (append-nil commits)) h

pub has_some : (terms : List Tree) → (terms ≡ [] → ⊥) → IsTrue (has_terms terms)
has_some [] some = absurd (some refl)
has_some (term ∷ terms) some = refl

module _ {live : Open} {past : Past} {commits : List CommitRecord} {synced : ℕ} (shown : OpenShows live past commits synced) where
  none_touched : Touches IsLogName past past
  none_touched = record { ops = []; grown = refl; all = tt }

  sound_yet : Moments Sound past past
  sound_yet = none_done Sound past past refl (sound_commits shown.log)

  leaves_yet : Moments (Leaves (commits ++ []) synced) past past
  leaves_yet =
      none_more (λ all. Moments (Leaves all synced) past past) commits
      (none_done (Leaves commits synced) past past refl (leaves_commits shown.log))

  -- memory was wanting
  pub wanted_memory : (e : Effect) → IsTrue e.takes_memory → Tries e commits synced (Err Memory) live past past
  wanted_memory e wants =
      record { out = (wants, shown); lawful = tt; during = leaves_yet; sound = sound_yet; touches = none_touched }

  pub none_tried : (e : Effect) (result : Result Done Trouble) → IsTrue e.takes_memory → IsErrAnd result (λ trouble. trouble ≡ Memory)
      → Tries e commits synced result live past past
  none_tried e result wants wanted =
      let (trouble, failed, is) = err_from_is_err_and result wanted in
      subst (λ r. Tries e commits synced r live past past) (sym (failed ∙ ap (λ t. Err t) is)) (wanted_memory e wants)

  -- only a reply, where the effect appends nothing and goes on
  pub only_told : (e : Effect) (reply : Reply) (done : Done) → IsAnswered e (answer reply)
      → done ≡ record { reply = reply; wrote = false; settles = false; halts = false }
      → Tries e commits synced (Ok done) live past past
  only_told e reply done is told =
      let none : [] ≡ appended e = sym (ap (λ (o : Option Entry). commits_of (entries_of o)) is.entry) in
      subst (λ d. Tries e commits synced (Ok d) live past past) (sym told) (record {
        out = (
          record {
            answer = sym is.answer;
            wrote = sym (ap is_some is.entry);
            settles = sym is.settles;
            halts = sym is.halts;
          },
          subst (λ cs. OpenShows live past (commits ++ cs) (if e.settles then length (commits ++ cs) else synced)) none
              (subst (λ b. OpenShows live past (commits ++ []) (if b then length (commits ++ []) else synced)) (sym is.settles)
              (none_more (λ all. OpenShows live past all synced) commits shown)),
          λ halts. let off = is.halts in absurd (cc (halts, off)),
        );
        lawful = subst (λ cs. AreLawful cs (made commits).database) none tt;
        during = subst (λ cs. Moments (Leaves (commits ++ cs) synced) past past) none leaves_yet;
        sound = sound_yet;
        touches = none_touched;
      })

  -- terms were told
  pub found_terms : (terms : List Tree) (e : Effect) (found : Items Term) (done : Done) → e ≡ finds terms
      → done ≡ record { reply = replies.Found found; wrote = false; settles = false; halts = false } → map tree_of found ≡ terms
      → Tries e commits synced (Ok done) live past past
  found_terms terms e found done effect_is is read =
      subst (λ x. Tries x commits synced (Ok done) live past past) (sym effect_is)
      (subst (λ d. Tries (finds terms) commits synced (Ok d) live past past) (sym is) (record {
        out = (
          record { answer = ap effects.found read; wrote = refl; settles = refl; halts = refl },
          none_more (λ all. OpenShows live past all synced) commits shown,
          λ halts. absurd (cc halts),
        );
        lawful = tt;
        during = leaves_yet;
        sound = sound_yet;
        touches = none_touched;
      }))

-- ---- an error of the log's call

-- it is a fault of the log's file, or want of memory, and is told so
pub record IsToldAs (error : LogErr) (doubt : Bool) (trouble : Trouble) : Type 0 where
  pub only : OnlyFileOrMemory {T = Unit {0}} (Err error)
  pub named : (name : List ℕ) → IsErrOf {T = Unit {0}} (Err error) (log.File name) → name ≡ latest
  pub file : (name : List ℕ) → error ≡ log.File name → trouble ≡ File name doubt
  pub memory : error ≡ log.Memory → trouble ≡ Memory

abbrev pub IsWant : LogErr → Type 0
IsWant error = IsErrOf {T = Unit {0}} (Err error) log.Memory

pub only_more : (error : LogErr) → OnlyFile {T = Unit {0}} (Err error) → OnlyFileOrMemory {T = Unit {0}} (Err error)
only_more (log.File name) only = tt
only_more (log.Bad name at) only = absurd only
only_more log.TooLong only = absurd only
only_more log.Memory only = absurd only

-- a call that takes no memory never wants it
pub never_wants : (error : LogErr) → OnlyFile {T = Unit {0}} (Err error) → IsWant error → ⊥
never_wants error only is = subst (λ r. OnlyFile {T = Unit {0}} r) is only

failed : (e : Effect) {commits : List CommitRecord} {synced : ℕ} {live : Open} {before now : Past} (error : LogErr) (trouble : Trouble)
    → IsTrue (goes_to_disk e) → IsToldAs error (is_some e.entry) trouble
    → Reads commits (reads now latest) ⊎ Reads (commits ++ appended e) (reads now latest)
    → Moments (Leaves (commits ++ appended e) synced) before now → Moments Sound before now → Touches IsLogName before now
    → (IsWant error → IsTrue e.takes_memory × OpenShows live now commits synced × Moments (Leaves commits synced) before now)
    → AreLawful (appended e) (made commits).database
    → Tries e commits synced (Err trouble) live before now
failed e {commits} {synced} {live} {before} {now} (log.File name) trouble goes told left during sound touched wanted lawful =
    subst (λ t. Tries e commits synced (Err t) live before now) (sym (told.file name refl))
    (record { out = (goes, told.named name refl, refl, left); lawful = lawful; during = during; sound = sound; touches = touched })
failed e {commits} {synced} {live} {before} {now} log.Memory trouble goes told left during sound touched wanted lawful =
    let (wants, shown, only_old) = wanted refl in
    subst (λ t. Tries e commits synced (Err t) live before now) (sym (told.memory refl)) (record {
      out = (wants, shown);
      lawful = tt;
      during = none_more (λ all. Moments (Leaves all synced) before now) commits only_old;
      sound = sound;
      touches = touched;
    })
failed e (log.Bad name at) trouble goes told left during sound touched wanted lawful = absurd told.only
failed e log.TooLong trouble goes told left during sound touched wanted lawful = absurd told.only

-- what the log's call owes for its error is owed for what is told of it
pub told_calls : {before now : ℕ} {blamed : List (List ℕ)} {in_doubt : Bool} (error : LogErr) (trouble : Trouble)
    → LogCause {T = Unit {0}} before now blamed (Err error)
    → ((name : List ℕ) → error ≡ log.File name → trouble ≡ File name in_doubt)
    → ((name : List ℕ) (doubt : Bool) → trouble ≡ File name doubt → error ≡ log.File name)
    → Calls before now blamed (λ name. (doubt : Bool) × IsErrOf {T = Done} (Err trouble) (File name doubt))
told_calls {before} {now} {blamed} {in_doubt} error trouble cause file only = record {
  later = cause.later;
  rose = λ name at. cause.failed name (is name at.0 at.1);
  blames = λ name at. cause.blames name (is name at.0 at.1);
  answered = λ none. cause.uncounted (λ name at.
      let failed_at : error ≡ log.File name = cc at in
      none name (in_doubt, ap (λ t. Err t) (file name failed_at)));
}
  where
    is : (name : List ℕ) (doubt : Bool) → IsErrOf {T = Done} (Err trouble) (File name doubt)
        → IsErrOf {T = Unit {0}} (Err error) (log.File name)
    is name doubt same = let told : trouble ≡ File name doubt = cc same in ap (λ x. Err x) (only name doubt told)

-- the log stays a file of items where memory was wanting
pub stays_log : (past : Past) (state : LogState) (error : LogErr) (trouble : Trouble) → (trouble ≡ Memory → error ≡ log.Memory)
    → (IsWant error → IsLog past (handle state)) → StaysLog (Err trouble) past state
stays_log past state error Memory only wanted = wanted (ap (λ e. Err e) (only refl))
stays_log past state error (File name doubt) only wanted = tt

-- what makes all durable
abbrev settling : Answer → Bool → Bool → Effect
settling given halts takes_memory = record { answer = given; entry = None; settles = true; halts = halts; takes_memory = takes_memory }

-- ---- the log's call, and what it makes of a log and table that show these commits

module _ {live : Open} {before : Past} {commits : List CommitRecord} {synced : ℕ} (shown : OpenShows live before commits synced) where
  -- the database is the same, and the log has the same commits
  pub shows_same : {new : Open} {now : Past} {durable : ℕ} → new.tables ≡ live.tables
      → TxnStands now new.log commits durable → OpenShows new now commits durable
  shows_same same stands =
      record { same = ap database same ∙ shown.same; log = stands; taken = shown.taken; sound = shown.sound }

  -- a lawful commit was appended and done
  pub shows_more : {new : Open} {now : Past} {durable : ℕ} (c : CommitRecord) → IsLawful c (database live.tables)
      → database new.tables ≡ do_commit c (database live.tables) → TxnStands now new.log (commits ++ c ∷ []) durable
      → OpenShows new now (commits ++ c ∷ []) durable
  shows_more c lawful did stands =
      let here : IsLawful c (made commits).database = subst (IsLawful c) shown.same lawful in
      let takes = lawful_taken c (made commits).database shown.sound here in
      let is : (made (commits ++ c ∷ [])).database ≡ do_commit c (made commits).database = made_more commits c ∙ sym takes.1 in
      record {
        same = did ∙ ap (do_commit c) shown.same ∙ sym is;
        log = stands;
        taken = taken_more commits c shown.taken takes.0;
        sound = subst databases.IsSound (sym is) (stays_sound c (made commits).database shown.sound here);
      }

  -- a commit was to be appended, which was planned, and done where it was
  pub appends_tried : {new : Open} {now : Past} (settles : Bool) (c : CommitRecord) (result : Result Done Trouble)
      → IsLawful c (database live.tables) → Appends settles c commits synced result new.log before now
      → (IsErr result → new.tables ≡ live.tables)
      → ((done : Done) → result ≡ Ok done → database new.tables ≡ do_commit c (database live.tables))
      → Touches IsLogName before now → Tries (adds settles c) commits synced result new before now
  appends_tried {new} {now} settles c result lawful h kept did touched = by result refl h
    where
      alone : AreLawful (c ∷ []) (made commits).database
      alone = (subst (IsLawful c) shown.same lawful, tt)

      by : (r : Result Done Trouble) → result ≡ r → Appends settles c commits synced r new.log before now
          → Tries (adds settles c) commits synced result new before now
      by (Ok done) is a = subst (λ r. Tries (adds settles c) commits synced r new before now) (sym is) (record {
        out = (
          record {
            answer = ap (λ (d : Done). answer d.reply) a.out.0;
            wrote = ap (λ (d : Done). d.wrote) a.out.0;
            settles = ap (λ (d : Done). d.settles) a.out.0;
            halts = ap (λ (d : Done). d.halts) a.out.0;
          },
          shows_more c lawful (did done is) a.out.1,
          λ halts. absurd (cc halts),
        );
        lawful = alone;
        during = a.during;
        sound = a.sound;
        touches = touched;
      })
      by (Err Memory) is a = subst (λ r. Tries (adds settles c) commits synced r new before now) (sym is) (record {
        out = (refl, shows_same (kept (is_err result Memory is)) a.out);
        lawful = tt;
        during = a.during;
        sound = a.sound;
        touches = touched;
      })
      by (Err (File name doubt)) is a = subst (λ r. Tries (adds settles c) commits synced r new before now) (sym is) (record {
        out = (refl, a.out.0, a.out.1, a.out.2);
        lawful = alone;
        during = a.during;
        sound = a.sound;
        touches = touched;
      })

  -- all was made durable
  pub settled : {new : Open} {now : Past} (given : Answer) (halts takes_memory : Bool) (reply : Reply) → answer reply ≡ given
      → new.tables ≡ live.tables → TxnStands now new.log commits (length commits)
      → (IsTrue halts → new.log.closed ≡ true)
      → Moments (Leaves commits synced) before now → Moments Sound before now → Touches IsLogName before now
      → Tries (settling given halts takes_memory) commits synced
      (Ok (record { reply = reply; wrote = false; settles = true; halts = halts })) new before now
  settled {new} {now} given halts takes_memory reply is same stands closed during sound touched = record {
    out = (
      record { answer = is; wrote = refl; settles = refl; halts = refl },
      none_more (λ all. OpenShows new now all (length all)) commits (shows_same same stands),
      closed,
    );
    lawful = tt;
    during = none_more (λ all. Moments (Leaves all synced) before now) commits during;
    sound = sound;
    touches = touched;
  }

  -- it was not
  pub unsettled : {new : Open} {now : Past} (given : Answer) (halts takes_memory : Bool) (error : LogErr) (trouble : Trouble)
      → new.tables ≡ live.tables → IsToldAs error false trouble → Reads commits (reads now latest)
      → Moments (Leaves commits synced) before now → Moments Sound before now → Touches IsLogName before now
      → (IsWant error → IsTrue takes_memory × TxnStands now new.log commits synced)
      → Tries (settling given halts takes_memory) commits synced (Err trouble) new before now
  unsettled {new} {now} given halts takes_memory error trouble same told left during sound touched kept =
      failed (settling given halts takes_memory) error trouble refl told (inl left)
      (none_more (λ all. Moments (Leaves all synced) before now) commits during) sound touched
      (λ wanted. let (may, stands) = kept wanted in (may, shows_same same stands, during)) tt

-- ---- one command

-- what has another effect's name
pub tries_as : {commits : List CommitRecord} {synced : ℕ} {result : Result Done Trouble} {live : Open} {before now : Past}
    (e other : Effect) → e ≡ other → Tries other commits synced result live before now → Tries e commits synced result live before now
tries_as {commits} {synced} {result} {live} {before} {now} e other is tries =
    subst (λ x. Tries x commits synced result live before now) (sym is) tries

-- the command is this one
pub tries_asked : {commits : List CommitRecord} {synced : ℕ} {result : Result Done Trouble} {live : Open} {before now : Past}
    (pending : List Txn) (command one : code.Command) → command ≡ one → Tries (effect (made commits) pending (asked one)) commits synced
    result live before now
    → Tries (effect (made commits) pending (asked command)) commits synced result live before now
tries_asked {commits} {synced} {result} {live} {before} {now} pending command one is tries =
    subst (λ c. Tries (effect (made commits) pending (asked c)) commits synced result live before now) (sym is) tries
