-- A run's acts are a run of the machine, so its transactions are serial.
use Rattle.std.proofs.Common.{◌≡◌, ℕ, List, [], ◌∷◌, ◌++◌, map, refl, subst}
use Rattle.file_trait.specs.DiskModel.{Past}
use Rattle.txn_core.specs.Machine as txns
use Rattle.txn_core.specs.Serial.{told, IsSerial, serial}
use Rattle.mn_node.specs.Effects.{Answer, commit_txn, done}
use Rattle.mn_node.specs.Machine.{Event, command, Machine, Step, IsLawfulMachine, unstarted_machine}
use Rattle.mn_node.specs.Meaning.{Files, Meaning, stands, broken, Means}
use Rattle.mn_node.specs.Serial.{Run, tables_of}
use Rattle.mn_node.proofs.TxnRuns.{run_serial, run_in_order}
use Rattle.mn_run.specs.Runs.{World, Act, Follows, IsRun, IsTrusted, unbegun, last_of}
use Rattle.mn_run.specs.Transactions.{act_of, seen_of}

machine_run : (first : Past) (old : World) (acts : List Act) → IsRun first old acts
    → Run old.machine (map act_of acts) (last_of old acts).machine
machine_run first old [] run = refl
machine_run first old (act ∷ acts) (follows, run) = (follows.step, follows.lawful, machine_run first act.after acts run)

run_first : (first : Past) (old : World) (acts : List Act) (act : Act) → IsRun first old (acts ++ act ∷ []) → IsRun first old acts
run_first first old [] act run = tt
run_first first old (next ∷ acts) act (follows, run) = (follows, run_first first next.after acts act run)

run_last : (first : Past) (old : World) (acts : List Act) (act : Act) → IsRun first old (acts ++ act ∷ [])
    → Follows first (last_of old acts) act
run_last first old [] act run = run.0
run_last first old (next ∷ acts) act (follows, run) = run_last first next.after acts act run

lawful_first : (meaning : Meaning) (past : Past) → IsTrusted meaning past → IsLawfulMachine (unstarted_machine meaning)
lawful_first (stands w) past trusted = (trusted.1, tt)
lawful_first (broken name at) past trusted = tt

step_as : {old new : Machine} {event one : Event} {answer given : Answer} → event ≡ one → answer ≡ given → Step old event answer new
    → Step old one given new
step_as {old} {new} {event} {one} {answer} {given} is told step =
    subst (λ a. Step old one a new) told (subst (λ ev. Step old ev answer new) is step)

module _ (files : Files) (meaning : Meaning) (past : Past) (faults : ℕ) where
  pub commit_serial : (acts : List Act) (act : Act) (name : List ℕ) → Means files meaning → IsTrusted meaning past
      → IsRun past (unbegun meaning past faults) (acts ++ act ∷ [])
      → act.event ≡ command (commit_txn name) → act.answer ≡ done
      → IsSerial (told name [] (seen_of meaning acts)) (tables_of (last_of (unbegun meaning past faults) acts).machine)
      (tables_of act.after.machine)
  commit_serial acts act name means trusted run is given =
      let follows = run_last past (unbegun meaning past faults) acts act run in
      run_serial files meaning (map act_of acts) (last_of (unbegun meaning past faults) acts).machine act.after.machine name means
      (lawful_first meaning past trusted)
      (machine_run past (unbegun meaning past faults) acts (run_first past (unbegun meaning past faults) acts act run))
      (step_as is given follows.step) follows.lawful

  pub acts_in_order : (acts : List Act) → Means files meaning → IsTrusted meaning past → IsRun past (unbegun meaning past faults) acts
      → txns.Run (txns.idle (tables_of (unstarted_machine meaning))) (serial [] (seen_of meaning acts))
      (txns.idle (tables_of (last_of (unbegun meaning past faults) acts).machine))
  acts_in_order acts means trusted run =
      run_in_order files meaning (map act_of acts) (last_of (unbegun meaning past faults) acts).machine means
      (lawful_first meaning past trusted) (machine_run past (unbegun meaning past faults) acts run)
