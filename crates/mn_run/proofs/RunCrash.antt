-- What a crash leaves at each moment of a run.
use Rattle.std.proofs.Common.{◌≡◌, ◌<◌, ◌≤◌, Bool, List, [], ◌∷◌, refl, sym, subst, inl, inr, arith}
use Rattle.std.specs.Bool.{MatchBool}
use Rattle.std.proofs.lemmas.Bool.{cases_lt, le-leb, lt-leb}
use Rattle.file_trait.specs.DiskModel.{Past, DiskOp, clock, doing, Crashes}
use Rattle.file_trait.specs.Moments.{EachMoment, Moments}
use Rattle.file_trait.proofs.Moments.{at_end, then_done, none_done, weaker, weaker_within, same_moment, since}
use Rattle.disk_logs.specs.Crash.{IsSound}
use Rattle.mn_node.specs.Machine.{Leaves, added}
use Rattle.mn_node.specs.Meaning.{latest}
use Rattle.mn_run.specs.Runs.{World, Act, Follows, IsRun, last_of, CrashLeaves}

-- what a crash leaves of the disk as it is, in a run of these acts
abbrev pub LeavesNow : Past → World → List Act → Past → Type 0
LeavesNow first old acts past = Crashes (CrashLeaves first (clock past) old acts) past

each_first : (P : Past → Type 0) (ops : List DiskOp) (old : Past) → EachMoment P ops old → P old
each_first P [] old h = h
each_first P (op ∷ ops) old h = each_first P ops old h.1

module _ (first : Past) (old : World) (act : Act) (acts : List Act) where
  -- the act was over
  behind : (past : Past) → clock act.after.past ≤ clock past → LeavesNow first act.after acts past → LeavesNow first old (act ∷ acts) past
  behind past le h image is =
      subst (λ (b : Bool). MatchBool b (CrashLeaves first (clock past) act.after acts image)
      (Leaves first old.machine (added old.machine act.event act.answer) image)) (sym (le-leb (clock act.after.past) (clock past) le))
      (h image is)

  -- it was not
  within : (past : Past) → clock past < clock act.after.past
      → Crashes (Leaves first old.machine (added old.machine act.event act.answer)) past → LeavesNow first old (act ∷ acts) past
  within past lt h image is =
      subst (λ (b : Bool). MatchBool b (CrashLeaves first (clock past) act.after acts image)
      (Leaves first old.machine (added old.machine act.event act.answer) image)) (sym (lt-leb (clock act.after.past) (clock past) lt))
      (h image is)

  -- at each moment of the act
  during : LeavesNow first act.after acts act.after.past → Follows first old act
      → Moments (LeavesNow first old (act ∷ acts)) old.past act.after.past
  during later follows =
      weaker_within (Crashes (Leaves first old.machine (added old.machine act.event act.answer)))
      (LeavesNow first old (act ∷ acts)) old.past act.after.past by follows.during
    where
      by : (past : Past) (rest : List DiskOp) → act.after.past ≡ doing rest past
          → Crashes (Leaves first old.machine (added old.machine act.event act.answer)) past → LeavesNow first old (act ∷ acts) past
      by past rest is h = elim (cases_lt (clock past) (clock act.after.past)) [
        | inl lt ↦ within past lt h
        | inr le ↦ subst (LeavesNow first old (act ∷ acts)) (sym (same_moment past act.after.past rest is le))
            (behind act.after.past (omega arith) later)
      ]

-- at each moment of a run
pub at_moments : (first : Past) (old : World) (acts : List Act) → IsRun first old acts → Crashes (Leaves first old.machine []) old.past
    → Moments (LeavesNow first old acts) old.past (last_of old acts).past
at_moments first old [] run h = none_done (LeavesNow first old []) old.past old.past refl h
at_moments first old (act ∷ acts) run h =
    let later : Moments (LeavesNow first act.after acts) act.after.past (last_of act.after acts).past =
    at_moments first act.after acts run.1 run.0.behind in
    then_done (LeavesNow first old (act ∷ acts)) old.past act.after.past (last_of act.after acts).past
    (during first old act acts (each_first (LeavesNow first act.after acts) later.ops act.after.past later.each) run.0)
    (weaker (λ (past : Past). LeavesNow first act.after acts past × (clock act.after.past ≤ clock past))
    (LeavesNow first old (act ∷ acts)) act.after.past (last_of act.after acts).past
    (λ past g. behind first old act acts past g.1 g.0) (since (LeavesNow first act.after acts) act.after.past
    (last_of act.after acts).past later))

-- a closed log may be trusted at each moment
pub sound_moments : (first : Past) (old : World) (acts : List Act) → IsRun first old acts → IsSound old.past latest
    → Moments (λ past. IsSound past latest) old.past (last_of old acts).past
sound_moments first old [] run sound = none_done (λ past. IsSound past latest) old.past old.past refl sound
sound_moments first old (act ∷ acts) run sound =
    let during = run.0.sound sound in
    then_done (λ past. IsSound past latest) old.past act.after.past (last_of act.after acts).past during
    (sound_moments first act.after acts run.1 (at_end (λ past. IsSound past latest) old.past act.after.past during))
