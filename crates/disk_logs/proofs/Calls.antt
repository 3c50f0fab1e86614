-- What a call of a log owes, from what the calls of the disk owe.
use Rattle.std.proofs.Common.{◌≡◌, ◌⊎◌, inl, inr, ℕ, List, [], ◌∷◌, Contains, Result, Ok, Err, IsTrue, IsErrOf, refl, sym, ap, ◌∙◌, subst, arith}
use Rattle.file_trait.specs.Calls.{Cause, Follows, Done, Synced, SyncedDir}
use Rattle.file_trait.specs.DiskModel.{to_dir, rename}
use Rattle.file_trait.specs.Touched.{Touches}
use Rattle.file_trait.specs.declared.disk.Disk.{Ghosts}
use Rattle.file_trait.specs.declared.disk.DiskErr.{DiskErr}
use Rattle.file_trait.specs.declared.disk.DiskErr.TheVariants.{Failed, Memory}
use Rattle.file_trait.proofs.Touched.{then_touched, done_touches, sync_touches, sync_dir_touches}
use Rattle.disk_logs.specs.declared.error.LogErr.{LogErr}
use Rattle.disk_logs.specs.declared.error.LogErr.TheVariants.{File, Bad, TooLong}
use Rattle.disk_logs.specs.Calls.{LogCalls}
use Rattle.disk_logs.specs.Errors.{told, OnlyFile, OnlyFileOrMemory, LogCause}
use Rattle.disk_logs.proofs.Publishing.{same_error, same_cause}
use Rattle.disk_logs.proofs.Renewing.{touches_more}

-- ---- which errors there are

pub told_some : {T : Type 0} (name : List ℕ) (r : Result T DiskErr) → OnlyFileOrMemory (told name r)
told_some name (Ok x) = tt
told_some name (Err Failed) = tt
told_some name (Err Memory) = tt

pub told_file : {T : Type 0} (name : List ℕ) (r : Result T DiskErr) → (IsErrOf r Memory → ⊥) → OnlyFile (told name r)
told_file name (Ok x) never = tt
told_file name (Err Failed) never = tt
told_file name (Err Memory) never = never refl

passed_error : (S T : Type 0) (e : LogErr) → OnlyFileOrMemory {T = S} (Err e) → OnlyFileOrMemory {T = T} (Err e)
passed_error S T (File name) only = tt
passed_error S T (Bad name at) only = only
passed_error S T TooLong only = only
passed_error S T LogErr.Memory only = tt

-- ---- a call of the disk

told_cause : {T : Type 0} (names : List (List ℕ)) (name : List ℕ) (faults faults_now : ℕ) (blamed blamed_now : List (List ℕ))
    (r : Result T DiskErr) → (names ≡ []) ⊎ Contains names name → Cause names faults faults_now blamed blamed_now r
    → LogCause faults faults_now blamed_now (told name r)
told_cause names name faults faults_now blamed blamed_now (Ok x) among cause = record {
  later = cause.later;
  failed = λ other is. absurd (cc is);
  blames = λ other is. absurd (cc is);
  uncounted = λ none. cause.uncounted (λ is. absurd (cc is));
}
told_cause names name faults faults_now blamed blamed_now (Err Failed) among cause = record {
  later = cause.later;
  failed = λ other is. cause.failed refl;
  blames = λ other is. let same : name ≡ other = cc is in
      subst (λ n. (blamed_now ≡ []) ⊎ Contains blamed_now n) same (subst (λ b. (b ≡ []) ⊎ Contains b name) (sym (cause.blames refl)) among);
  uncounted = λ none. absurd (none name refl);
}
told_cause names name faults faults_now blamed blamed_now (Err Memory) among cause = record {
  later = cause.later;
  failed = λ other is. absurd (cc is);
  blames = λ other is. absurd (cc is);
  uncounted = λ none. cause.uncounted (λ is. absurd (cc is));
}

told_named : {T : Type 0} (Own : List ℕ → Type 0) (name : List ℕ) (r : Result T DiskErr) → Own name
    → (other : List ℕ) → IsErrOf (told name r) (File other) → Own other
told_named Own name (Ok x) own other is = absurd (cc is)
told_named Own name (Err Failed) own other is = let same : name ≡ other = cc is in subst Own same own
told_named Own name (Err Memory) own other is = absurd (cc is)

module _ {D : Type 0} (g : Ghosts D) (Own : List ℕ → Type 0) where
  pub told_calls : {T : Type 0} (old new : D) (Only : Result T LogErr → Type 0) (names : List (List ℕ)) (name : List ℕ)
      (r : Result T DiskErr) (t : Result T LogErr) → t ≡ told name r → Own name → (names ≡ []) ⊎ Contains names name
      → (IsTrue g.tells → Touches Own (g.past old) (g.past new)) → Follows (g.moment old) (g.moment new) → Only (told name r)
      → Cause names (g.faults old) (g.faults new) (g.blamed old) (g.blamed new) r → LogCalls g old new Own Only t
  told_calls old new Only names name r t is own among touches follows only cause =
      subst (λ a. LogCalls g old new Own Only a) (sym is) (record {
        touches = touches;
        time = follows.0;
        named = told_named Own name r own;
        only = only;
        cause = told_cause names name _ _ _ _ r among cause;
      })

  -- ---- one call after another

  -- the first answered Ok
  pub then_calls : {S T : Type 0} (old mid new : D) (First : Result S LogErr → Type 0) (Only : Result T LogErr → Type 0)
      (r : Result S LogErr) (x : S) (t : Result T LogErr) → r ≡ Ok x → LogCalls g old mid Own First r
      → LogCalls g mid new Own Only t → LogCalls g old new Own Only t
  then_calls old mid new First Only r x t is first last =
      let same : g.faults mid ≡ g.faults old = first.cause.uncounted (λ name failed. cc (sym is ∙ failed)) in
      record {
        touches = λ tells. then_touched Own _ _ _ (first.touches tells) (last.touches tells);
        time = omega (arith, first.time, last.time);
        named = last.named;
        only = last.only;
        cause = subst (λ f. LogCause f (g.faults new) (g.blamed new) t) same last.cause;
      }

  -- the last answered Ok, and so does the whole
  pub done_calls : {S T : Type 0} (old new : D) (First : Result S LogErr → Type 0) (r : Result S LogErr) (x : S) (y : T) → r ≡ Ok x
      → LogCalls g old new Own First r → LogCalls g old new Own OnlyFileOrMemory (Ok y)
  done_calls old new First r x y is calls = record {
    touches = calls.touches;
    time = calls.time;
    named = λ name failed. absurd (cc failed);
    only = tt;
    cause = record {
      later = calls.cause.later;
      failed = λ name failed. absurd (cc failed);
      blames = λ name failed. absurd (cc failed);
      uncounted = λ none. calls.cause.uncounted (λ name failed. cc (sym is ∙ failed));
    };
  }

  -- its error is passed on
  pub passed_calls : {S T : Type 0} (old new : D) (r : Result S LogErr) (t : Result T LogErr) (e f : LogErr) → t ≡ Err f → f ≡ e
      → r ≡ Err e → LogCalls g old new Own OnlyFileOrMemory r → LogCalls g old new Own OnlyFileOrMemory t
  passed_calls {S} {T} old new r t e f is same was calls = record {
    touches = calls.touches;
    time = calls.time;
    named = λ name failed. calls.named name (same_error r t e f (File name) is same was failed);
    only = subst (λ a. OnlyFileOrMemory {T = T} a) (sym (is ∙ ap (λ x. Err x) same))
        (passed_error S T e (subst (λ a. OnlyFileOrMemory {T = S} a) was calls.only));
    cause = same_cause _ _ _ r t e f is same was calls.cause;
  }

-- no other error comes, and so none where something holds
pub at_most : {D T : Type 0} (g : Ghosts D) (old new : D) (Own : List ℕ → Type 0) (P : Type 0) (t : Result T LogErr)
    → LogCalls g old new Own OnlyFileOrMemory t → LogCalls g old new Own (λ r. P → OnlyFileOrMemory r) t
at_most g old new Own P t calls = record {
  touches = calls.touches;
  time = calls.time;
  named = calls.named;
  only = λ p. calls.only;
  cause = calls.cause;
}

-- a call owes the same of more names
pub wider_calls : {D T : Type 0} {Own : List ℕ → Type 0} {Only : Result T LogErr → Type 0} (g : Ghosts D) (old new : D)
    (Wide : List ℕ → Type 0) (Any : Result T LogErr → Type 0) (r : Result T LogErr) → ((name : List ℕ) → Own name → Wide name)
    → (Only r → Any r) → LogCalls g old new Own Only r → LogCalls g old new Wide Any r
wider_calls {Own = Own} g old new Wide Any r wider only calls = record {
  touches = λ told. touches_more Own Wide _ _ wider (calls.touches told);
  time = calls.time;
  named = λ name failed. wider name (calls.named name failed);
  only = only calls.only;
  cause = calls.cause;
}

-- ---- a publishing: its sync, its rename and its sync of the directory

module _ {D : Type 0} (g : Ghosts D) (draft name at to : List ℕ) (at_is : at ≡ draft) (to_is : to ≡ name) where
  abbrev pub Both : List ℕ → Type 0
  Both n = (n ≡ name) ⊎ (n ≡ draft)

  module _ (old mid : D) (r1 : Result Unit DiskErr) (t1 : Result Unit LogErr) (told1 : t1 ≡ told at r1)
      (synced : IsTrue g.tells → Synced at r1 (g.past old) (g.past mid)) (time1 : Follows (g.moment old) (g.moment mid))
      (cause1 : Cause (at ∷ []) (g.faults old) (g.faults mid) (g.blamed old) (g.blamed mid) r1) where
    pub first_calls : LogCalls g old mid Both OnlyFileOrMemory t1
    first_calls =
        told_calls g Both old mid OnlyFileOrMemory (at ∷ []) at r1 t1 told1 (inr at_is) (inr (0, omega arith, refl))
        (λ tells. sync_touches Both at r1 _ _ (synced tells) (inr at_is)) time1 (told_some at r1) cause1

    module _ (x1 : Unit {0}) (ok1 : t1 ≡ Ok x1) (moved : D) (r2 : Result Unit DiskErr) (t2 : Result Unit LogErr) (told2 : t2 ≡ told at r2)
        (renamed : IsTrue g.tells → Done (to_dir (rename at to)) r2 (g.past mid) (g.past moved))
        (time2 : Follows (g.moment mid) (g.moment moved))
        (cause2 : Cause (at ∷ to ∷ []) (g.faults mid) (g.faults moved) (g.blamed mid) (g.blamed moved) r2) where
      pub second_calls : LogCalls g old moved Both OnlyFileOrMemory t2
      second_calls =
          then_calls g Both old mid moved OnlyFileOrMemory OnlyFileOrMemory t1 x1 t2 ok1 first_calls
          (told_calls g Both mid moved OnlyFileOrMemory (at ∷ to ∷ []) at r2 t2 told2 (inr at_is) (inr (0, omega arith, refl))
          (λ tells. done_touches Both _ r2 _ _ (renamed tells) (inr at_is, inl to_is)) time2 (told_some at r2) cause2)

      pub third_calls : (x2 : Unit {0}) → t2 ≡ Ok x2 → (new : D) (r3 : Result Unit DiskErr) (t3 : Result Unit LogErr) → t3 ≡ told to r3
          → (IsTrue g.tells → SyncedDir r3 (g.past moved) (g.past new)) → Follows (g.moment moved) (g.moment new)
          → Cause [] (g.faults moved) (g.faults new) (g.blamed moved) (g.blamed new) r3 → LogCalls g old new Both OnlyFileOrMemory t3
      third_calls x2 ok2 new r3 t3 told3 settled time3 cause3 =
          then_calls g Both old moved new OnlyFileOrMemory OnlyFileOrMemory t2 x2 t3 ok2 second_calls
          (told_calls g Both moved new OnlyFileOrMemory [] to r3 t3 told3 (inl to_is) (inl refl)
          (λ tells. sync_dir_touches Both r3 _ _ (settled tells)) time3 (told_some to r3) cause3)
