-- What a command that is tried owes, from what the log's call says.
use Rattle.std.proofs.Common.{◌≡◌, ℕ, ◌+◌, ◌≤◌, Bool, IsTrue, List, Result, Ok, Err, refl, sym, ap, ◌∙◌, subst, arith}
use Rattle.std.specs.Prelude.{IfOk, IsErrOf}
use Rattle.std.specs.Result.{IsErrAnd}
use Rattle.std.proofs.lemmas.Result.{err_from_is_err_and}
use Rattle.file_trait.specs.DiskModel.{Past}
use Rattle.file_trait.specs.declared.disk.Disk.{Ghosts}
use Rattle.file_trait.proofs.Touched.{untouched, then_touched}
use Rattle.disk_logs.specs.Calls.{LogCalls}
use Rattle.disk_logs.specs.Logs.{IsLog}
use Rattle.disk_logs.specs.declared.error.LogErr.{LogErr}
use Rattle.disk_logs.specs.declared.error.LogErr.TheVariants as log
use Rattle.txn_log.specs.Logs.{LogState, latest, handle, IsLogName, IsOwn}
use Rattle.txn_log.proofs.Acts.{touches_log}
use Rattle.txn_log.proofs.CallerLemmas.{touches_own}
use Rattle.mn_node.specs.Calls.{Calls}
use Rattle.mn_node.specs.Inside.Tries.{Attempts, StaysLog, IsPlain}
use Rattle.mn_node.specs.Seen.{answer}
use Rattle.mn_node.specs.declared.open.Done.{Done}
use Rattle.mn_node.specs.declared.open.Trouble.{Trouble}
use Rattle.mn_node.specs.declared.open.Trouble.TheVariants.{File, Memory}
use Rattle.mn_node.proofs.Acts.{told_calls}

stays : (past : Past) (state : LogState) (result : Result Done Trouble) → IsLog past (handle state) → StaysLog result past state
stays past state (Ok done) is = λ up. is
stays past state (Err Memory) is = is
stays past state (Err (File name doubt)) is = tt

-- nothing was done to the disk, and the log is as it was
pub untried : {D : Type 0} (g : Ghosts D) (disk : D) (old new : LogState) (result : Result Done Trouble) → new ≡ old
    → (IsTrue g.tells → IsLog (g.past disk) (handle old))
    → ((name : List ℕ) (doubt : Bool) → IsErrOf result (File name doubt) → ⊥)
    → IfOk result (λ done. IsPlain (answer done.reply)) → Attempts g disk disk old new result
untried g disk old new result same is none plain = record {
  calls = record {
    later = omega (arith);
    rose = λ name at. absurd (none name at.0 at.1);
    blames = λ name at. absurd (none name at.0 at.1);
    answered = λ failed. refl;
  };
  touches = λ told. untouched IsLogName _ _ refl;
  log = λ told. stays (g.past disk) new result (rw same (is told));
  few = rw same (omega (arith));
  plain = plain;
}

-- memory was wanting before anything was done
pub wanted_owes : {D : Type 0} (g : Ghosts D) (disk : D) (old new : LogState) (result : Result Done Trouble)
    → new ≡ old → (IsTrue g.tells → IsLog (g.past disk) (handle old))
    → IsErrAnd result (λ trouble. trouble ≡ Memory) → Attempts g disk disk old new result
wanted_owes g disk old new result same is wanted =
    let (trouble, failed, memory) = err_from_is_err_and result wanted in
    subst (λ r. Attempts g disk disk old new r) (sym (failed ∙ ap (λ t. Err t) memory))
    (untried g disk old new (Err Memory) same is (λ name doubt at. absurd (cc at)) tt)

-- the log's call was done
pub done_owes : {D : Type 0} {Only : Result (Unit {0}) LogErr → Type 0} (g : Ghosts D) (disk disk_now : D) (old new : LogState)
    (done : Done) → LogCalls g disk disk_now (IsOwn old) Only (Ok tt)
    → (IsTrue g.tells → StaysLog (Ok done) (g.past disk_now) new) → new.commits ≤ old.commits + 1
    → IsPlain (answer done.reply) → Attempts g disk disk_now old new (Ok done)
done_owes g disk disk_now old new done calls stays few plain = record {
  calls = record {
    later = calls.cause.later;
    rose = λ name at. absurd (cc at.1);
    blames = λ name at. absurd (cc at.1);
    answered = λ none. calls.cause.uncounted (λ name at. absurd (cc at));
  };
  touches = λ told. touches_own old _ _ (calls.touches told);
  log = stays;
  few = few;
  plain = plain;
}

-- the log's call failed
pub undone_owes : {D : Type 0} {Only : Result (Unit {0}) LogErr → Type 0} {in_doubt : Bool} (g : Ghosts D) (disk disk_now : D)
    (old new : LogState) (error : LogErr) (trouble : Trouble)
    → LogCalls g disk disk_now (IsOwn old) Only (Err error)
    → ((name : List ℕ) → error ≡ log.File name → trouble ≡ File name in_doubt)
    → ((name : List ℕ) (doubt : Bool) → trouble ≡ File name doubt → error ≡ log.File name)
    → (IsTrue g.tells → StaysLog (Err trouble) (g.past disk_now) new) → new.commits ≤ old.commits + 1
    → Attempts g disk disk_now old new (Err trouble)
undone_owes g disk disk_now old new error trouble calls file only stays few = record {
  calls = told_calls error trouble calls.cause file only;
  touches = λ told. touches_own old _ _ (calls.touches told);
  log = stays;
  few = few;
  plain = tt;
}

-- ---- a commit that was appended, and then synced

module _ {D : Type 0} {Only OnlySync : Result (Unit {0}) LogErr → Type 0} (g : Ghosts D) (disk mid disk_now : D) (old new : LogState)
    (first : LogCalls g disk mid (IsOwn old) Only (Ok tt)) (same_count : g.faults mid ≡ g.faults disk) where
  -- the sync was done
  pub done_later : (done : Done) → LogCalls g mid disk_now (λ n. n ≡ latest) OnlySync (Ok tt)
      → (IsTrue g.tells → StaysLog (Ok done) (g.past disk_now) new) → new.commits ≤ old.commits + 1 → IsPlain (answer done.reply)
      → Attempts g disk disk_now old new (Ok done)
  done_later done calls stays few plain = record {
    calls = record {
      later = omega (arith, same_count, calls.cause.later);
      rose = λ name at. absurd (cc at.1);
      blames = λ name at. absurd (cc at.1);
      answered = λ none. calls.cause.uncounted (λ name at. absurd (cc at)) ∙ same_count;
    };
    touches = λ told. then_touched IsLogName _ _ _ (touches_own old _ _ (first.touches told)) (touches_log _ _ (calls.touches told));
    log = stays;
    few = few;
    plain = plain;
  }

  -- the sync failed
  pub undone_later : {in_doubt : Bool} (error : LogErr) (trouble : Trouble)
      → LogCalls g mid disk_now (λ n. n ≡ latest) OnlySync (Err error)
      → ((name : List ℕ) → error ≡ log.File name → trouble ≡ File name in_doubt)
      → ((name : List ℕ) (doubt : Bool) → trouble ≡ File name doubt → error ≡ log.File name)
      → (IsTrue g.tells → StaysLog (Err trouble) (g.past disk_now) new) → new.commits ≤ old.commits + 1
      → Attempts g disk disk_now old new (Err trouble)
  undone_later error trouble calls file only stays few = record {
    calls = subst (λ n. Calls n (g.faults disk_now) (g.blamed disk_now)
        (λ name. (doubt : Bool) × IsErrOf {T = Done} (Err trouble) (File name doubt)))
        same_count (told_calls error trouble calls.cause file only);
    touches = λ told. then_touched IsLogName _ _ _ (touches_own old _ _ (first.touches told)) (touches_log _ _ (calls.touches told));
    log = stays;
    few = few;
    plain = tt;
  }

-- over the log and the disk as they were left
pub owes_at : {D : Type 0} (g : Ghosts D) (disk now left : D) (old new state : LogState) (result : Result Done Trouble)
    → new ≡ state → now ≡ left → Attempts g disk left old state result → Attempts g disk now old new result
owes_at g disk now left old new state result same at h =
    subst (λ (s : LogState). Attempts g disk now old s result) (sym same)
    (subst (λ d. Attempts g disk d old state result) (sym at) h)
