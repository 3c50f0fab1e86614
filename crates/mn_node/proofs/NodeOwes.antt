-- What an answer owes, from what the tried command or the start owes.
use Rattle.std.proofs.Common.{◌≡◌, ℕ, ◌+◌, ◌<◌, ◌≤◌, ◌^◌, Bool, true, false, IsTrue, List, [], ◌-◌, Option, None, Some, Result, Err, refl, sym, ap, subst, inl, inr, arith}
use Rattle.std.specs.Prelude.{IsErrOf}
use Rattle.file_trait.specs.DiskModel.{Past}
use Rattle.file_trait.specs.Touched.{Touches}
use Rattle.file_trait.proofs.Touched.{untouched}
use Rattle.disk_logs.specs.Logs.{IsLog}
use Rattle.txn_log.specs.Logs.{handle, IsLogName}
use Rattle.mn_node.specs.Calls.{Calls, Owes}
use Rattle.mn_node.specs.Inside.Loads.{start_answer, down_node, up_node}
use Rattle.mn_node.specs.Inside.Tries.{StaysLog, counted, failed_node, failed_answer}
use Rattle.mn_node.specs.Effects.{Answer, is_fault, fault, no_memory, started, damaged}
use Rattle.mn_node.specs.Seen.{answer}
use Rattle.mn_node.specs.Shown.{HasLogOf, HasPending, IsWhole, CountsFew, IsFew}
use Rattle.mn_node.specs.declared.node.Node.{Node}
use Rattle.mn_node.specs.declared.node.State.{State}
use Rattle.mn_node.specs.declared.node.State.TheVariants.{Up}
use Rattle.mn_node.specs.declared.open.Open.{Open}
use Rattle.mn_node.specs.declared.open.Trouble.{Trouble}
use Rattle.mn_node.specs.declared.open.Trouble.TheVariants.{File, Memory}
use Rattle.mn_node.specs.declared.reply.Reply.{Reply}
use Rattle.mn_node.specs.declared.reply.Reply.TheVariants.{Started}
use Rattle.mn_node.specs.declared.starting.StartErr.{StartErr}
use Rattle.mn_node.specs.declared.starting.StartErr.TheVariants as variants

abbrev file_of : Answer → List ℕ
file_of (fault name) = name
file_of other = []

counted_few : (wrote : Bool) (n most : ℕ) → n ≤ most → counted wrote n ≤ most + 1
counted_few true n most h = omega (arith, h)
counted_few false n most h = omega (arith, h)

-- an answer that is no fault blames no file
none_failed : (before now : ℕ) (blamed : List (List ℕ)) (given : Answer) → is_fault given ≡ false → before ≤ now
    → now ≡ before → Calls before now blamed (λ name. given ≡ fault name)
none_failed before now blamed given plain later same = record {
  later = later;
  rose = λ name is. absurd (cc (plain, ap is_fault is));
  blames = λ name is. absurd (cc (plain, ap is_fault is));
  answered = λ none. same;
}

-- a fault at the file that a call failed at
one_failed : (before now : ℕ) (blamed : List (List ℕ)) (name : List ℕ) (Failed : List ℕ → Type 0) → Failed name
    → Calls before now blamed Failed
    → Calls before now blamed (λ other. fault name ≡ fault other)
one_failed before now blamed name Failed here calls = record {
  later = calls.later;
  rose = λ other is. calls.rose name here;
  blames = λ other is. calls.blames other (subst Failed (ap file_of is) here);
  answered = λ none. absurd (none name refl);
}

-- one command more keeps the numbers small
up_few : (live live_new : Open) (n : ℕ) → live_new.log.commits ≤ live.log.commits + 1 → live.log.commits < 2 ^ 63 + n
    → live_new.log.commits < 2 ^ 63 + (n + 1)
up_few live live_new n more h = omega (arith, more, h)

state_few : (state : State) (n : ℕ) → CountsFew state n → CountsFew state (n + 1)
state_few (Up live) n h = omega (arith, h)
state_few other n h = tt

node_few : (node : Node) (n : ℕ) → IsFew node n → IsFew node (n + 1)
node_few node n few = record { commits = state_few node.state n few.commits; entries = omega (arith, few.entries) }

-- ---- a command

abbrev FailedAt : {T : Type 0} → Result T Trouble → List ℕ → Type 0
FailedAt result name = (doubt : Bool) × IsErrOf result (File name doubt)

module _ (tells : Bool) (before now : ℕ) (blamed : List (List ℕ)) (past_before past : Past) (node : Node) where
  module _ {T : Type 0} (live live_new : Open) (up : node.state ≡ Up live) (more : live_new.log.commits ≤ live.log.commits + 1)
      (touched : IsTrue tells → Touches IsLogName past_before past) where
    by_trouble : (trouble : Trouble) → Calls before now blamed (FailedAt {T = T} (Err trouble))
        → (IsTrue tells → StaysLog (Err trouble) past live_new.log) → (trouble ≡ Memory → HasPending live_new)
        → Owes tells before now blamed past_before past node (failed_node (record node { state = Up live_new }) trouble)
        (failed_answer trouble)
    by_trouble Memory calls log pends = record {
      calls = none_failed before now blamed no_memory refl calls.later (calls.answered (λ name at. absurd (cc at.1)));
      faulted = λ name is. absurd (cc is);
      down = λ faulted. absurd faulted;
      touches = touched;
      log = log;
      few = λ n few. record {
        commits = up_few live live_new n more (subst (λ (s : State). CountsFew s n) up few.commits);
        entries = omega (arith, few.entries);
      };
      whole = λ no_damage. pends refl;
    }
    by_trouble (File name doubt) calls log pends = record {
      calls = one_failed before now blamed name (FailedAt {T = T} (Err (File name doubt))) (doubt, refl) calls;
      faulted = λ other is. tt;
      touches = touched;
      down = λ faulted. inr (calls.rose name (doubt, refl));
      log = λ told. tt;
      few = λ n few. record { commits = tt; entries = counted_few doubt node.entries n few.entries };
      whole = λ no_damage. tt;
    }

    pub failed_owes : (trouble : Trouble) (given : Answer) (left : Node) → given ≡ failed_answer trouble
        → left ≡ failed_node (record node { state = Up live_new }) trouble
        → Calls before now blamed (FailedAt {T = T} (Err trouble)) → (IsTrue tells → StaysLog (Err trouble) past live_new.log)
        → (trouble ≡ Memory → HasPending live_new)
        → Owes tells before now blamed past_before past node left given
    failed_owes trouble given left given_is left_is calls log pends =
        subst (Owes tells before now blamed past_before past node left) (sym given_is)
        (subst (λ n. Owes tells before now blamed past_before past node n (failed_answer trouble)) (sym left_is)
        (by_trouble trouble calls log pends))

  -- ---- a start

  abbrev StartFailedAt : {T : Type 0} → Result T StartErr → List ℕ → Type 0
  StartFailedAt result name = IsErrOf result (variants.File name)

  start_owes : (live : Open) (count : ℕ) (given : Answer) → given ≡ started count → before ≤ now → now ≡ before
      → (IsTrue tells → Touches IsLogName past_before past)
      → (IsTrue tells → IsLog past (handle live.log)) → live.log.commits < 2 ^ 63 → HasPending live
      → Owes tells before now blamed past_before past node (up_node live) given
  start_owes live count given given_is later same touched log commits pends = record {
    calls = none_failed before now blamed given (ap is_fault given_is) later same;
    faulted = λ name is. absurd (cc (given_is, is));
    down = λ faulted. absurd faulted;
    touches = touched;
    log = log;
    few = λ n few. record { commits = omega (arith, commits); entries = omega arith };
    whole = λ no_damage. pends;
  }

  -- as many are told as were kept, or none before the first
  told_count : (reply : Reply) (base : Option ℕ) → node.base ≡ base → (live : Open) → (node.base ≡ None → reply ≡ Started 0)
      → ((n : ℕ) → node.base ≡ Some n → reply ≡ Started (live.log.commits - n))
      → (count : ℕ) × (answer reply ≡ started count)
  told_count reply None is live at_first later = (0, ap answer (at_first is))
  told_count reply (Some n) is live at_first later = (live.log.commits - n, ap answer (later n is))

  pub booted_owes : (live : Open) (reply : Reply) (left : Node) → left ≡ up_node live → (node.base ≡ None → reply ≡ Started 0)
      → ((n : ℕ) → node.base ≡ Some n → reply ≡ Started (live.log.commits - n))
      → before ≤ now → now ≡ before → (IsTrue tells → Touches IsLogName past_before past) → (IsTrue tells → IsLog past (handle live.log))
      → live.log.commits < 2 ^ 63 → HasPending live
      → Owes tells before now blamed past_before past node left (answer reply)
  booted_owes live reply left left_is at_first later since same touched log commits pends =
      let told = told_count reply node.base refl live at_first later in
      subst (λ n. Owes tells before now blamed past_before past node n (answer reply)) (sym left_is)
      (start_owes live told.0 (answer reply) told.1 since same touched log commits pends)

  module _ {T : Type 0} (touched : IsTrue tells → Touches IsLogName past_before past) where
    by_error : (error : StartErr) → Calls before now blamed (StartFailedAt {T = T} (Err error))
        → Owes tells before now blamed past_before past node (down_node node error) (start_answer error)
    by_error (variants.File name) calls = record {
      calls = one_failed before now blamed name (StartFailedAt {T = T} (Err (variants.File name))) refl calls;
      faulted = λ other is. tt;
      touches = touched;
      down = λ faulted. inr (calls.rose name refl);
      log = λ told. tt;
      few = λ n few. record { commits = tt; entries = omega (arith, few.entries) };
      whole = λ no_damage. tt;
    }
    by_error variants.Memory calls = record {
      calls = none_failed before now blamed no_memory refl calls.later (calls.answered (λ name at. absurd (cc at)));
      faulted = λ other is. absurd (cc is);
      down = λ faulted. absurd faulted;
      touches = touched;
      log = λ told. tt;
      few = λ n few. record { commits = tt; entries = omega (arith, few.entries) };
      whole = λ no_damage. tt;
    }
    by_error (variants.Damaged name at) calls = record {
      calls = none_failed before now blamed (damaged name at) refl calls.later
          (calls.answered (λ file failed. absurd (cc failed)));
      faulted = λ other is. absurd (cc is);
      down = λ faulted. absurd faulted;
      touches = touched;
      log = λ told. tt;
      few = λ n few. record { commits = tt; entries = omega (arith, few.entries) };
      whole = λ no_damage. absurd (no_damage name at refl);
    }

    pub remain_owes : (error : StartErr) (given : Answer) (left : Node) → given ≡ start_answer error → left ≡ down_node node error
        → Calls before now blamed (StartFailedAt {T = T} (Err error)) → Owes tells before now blamed past_before past node left given
    remain_owes error given left given_is left_is calls =
        subst (Owes tells before now blamed past_before past node left) (sym given_is)
        (subst (λ n. Owes tells before now blamed past_before past node n (start_answer error)) (sym left_is) (by_error error calls))

-- ---- nothing is done

-- a command to a node that is down, and a start of one that is up
pub same_owes : (tells : Bool) (count : ℕ) (blamed : List (List ℕ)) (past : Past) (node : Node) (given : Answer) → is_fault given ≡ false
    → IsWhole node.state → (IsTrue tells → HasLogOf node.state past)
    → Owes tells count count blamed past past node node given
same_owes tells count blamed past node given plain whole log = record {
  calls = none_failed count count blamed given plain (omega arith) refl;
  faulted = λ name is. absurd (cc (plain, ap is_fault is));
  down = λ faulted. inl faulted;
  touches = λ told. untouched IsLogName past past refl;
  log = log;
  few = node_few node;
  whole = λ no_damage. whole;
}
