-- How a run ends over a directory without a meaning, and where nothing was wrong.
use Rattle.std.proofs.Common.{◌≡◌, ◌⊎◌, ℕ, Bool, IsTrue, List, [], ◌∷◌, refl, sym, ap, ◌∙◌, subst, inl, inr}
use Rattle.file_trait.specs.DiskModel.{Past, reads}
use Rattle.mn_node.specs.Durable.{Durable}
use Rattle.mn_node.specs.Effects.{Command, stop, Answer}
use Rattle.mn_node.specs.Machine.{Machine, Event, Life, running, halted, Choice, as_asked, out_of_memory, failed, Change, Does, Boots, ComesUp}
use Rattle.mn_node.specs.Machine as machines
use Rattle.mn_node.specs.Meaning.{Meaning, Means, stands, broken, Stands, IsBroken}
use Rattle.mn_node.proofs.MachineLaws.{same_base, broken_stays}
use Rattle.mn_run.specs.Runs.{World, Act, IsRun, last_of, Ran, IsTrusted, EndsDamaged, unbegun, expected}
use Rattle.mn_run.specs.Script.{plan_of}
use Rattle.mn_run.specs.declared.outcome.Mark.{Mark}
use Rattle.mn_run.specs.declared.outcome.Status.{Status}
use Rattle.mn_run.specs.declared.outcome.Status.TheVariants as status

-- ---- a base that stands goes on standing

abbrev IsStanding : Meaning → Type 0
IsStanding (stands w) = Unit {0}
IsStanding (broken name at) = ⊥

stands_booted : (base : Meaning) (old : Machine) (answer : Answer) (new : Machine) → Boots base old answer new → IsStanding base
    → IsStanding new.base
stands_booted (stands w) old answer new (kept, among, told, is) h = subst (λ (m : Machine). IsStanding m.base) (sym is) tt
stands_booted (broken name at) old answer new comes h = absurd h

stands_up : (choice : Choice) (old : Machine) (answer : Answer) (new : Machine) → ComesUp choice old answer new → IsStanding old.base
    → IsStanding new.base
stands_up as_asked old answer new comes h = stands_booted old.base old answer new comes h
stands_up out_of_memory old answer new (told, is) h = subst (λ (m : Machine). IsStanding m.base) (sym is) h
stands_up (failed name) old answer new (named, told, is) h = subst (λ (m : Machine). IsStanding m.base) (sym is) h

stands_on : (old : Machine) (asked : Event) (answer : Answer) (new : Machine) → Change old asked answer new → IsStanding old.base
    → IsStanding new.base
stands_on old machines.start answer new (inl (up, (told, is))) h = subst (λ (m : Machine). IsStanding m.base) (sym is) h
stands_on old machines.start answer new (inr (down, choice, comes)) h = stands_up choice old answer new comes h
stands_on old (machines.command c) answer new change h =
    subst IsStanding (sym (same_base old (machines.command c) answer new change (λ is. cc is))) h
stands_on old (machines.refused at) answer new change h =
    subst IsStanding (sym (same_base old (machines.refused at) answer new change (λ is. cc is))) h
stands_on old machines.turn answer new change h = subst IsStanding (sym (same_base old machines.turn answer new change (λ is. cc is))) h
stands_on old machines.end answer new change h = subst IsStanding (sym (same_base old machines.end answer new change (λ is. cc is))) h

standing_run : (first : Past) (old : World) (acts : List Act) → IsRun first old acts → IsStanding old.machine.base
    → IsStanding (last_of old acts).machine.base
standing_run first old [] run h = h
standing_run first old (a ∷ acts) (step, run) h =
    standing_run first a.after acts run (stands_on old.machine a.event a.answer a.after.machine step.step.change h)

-- ---- over a directory without a meaning no machine comes up

abbrev IsNeverUp : Life → Type 0
IsNeverUp running = ⊥
IsNeverUp halted = ⊥
IsNeverUp other = Unit {0}

never_does : (c : Command) (old : Machine) (answer : Answer) (new : Machine) → Does c old answer new → IsNeverUp old.life
    → IsNeverUp new.life
never_does c old answer new (inl (up, choice, may, comes)) h = absurd (subst IsNeverUp up h)
never_does c old answer new (inr (down, (told, is))) h = subst (λ (m : Machine). IsNeverUp m.life) (sym is) h

never_comes : (choice : Choice) (old : Machine) (answer : Answer) (new : Machine) (name : List ℕ) (at : ℕ) → old.base ≡ broken name at
    → ComesUp choice old answer new → IsNeverUp new.life
never_comes as_asked old answer new name at is comes =
    let boots : Boots (broken name at) old answer new = subst (λ (m : Meaning). Boots m old answer new) is comes in
    subst (λ (m : Machine). IsNeverUp m.life) (sym boots.1) tt
never_comes out_of_memory old answer new name at is (told, so) = subst (λ (m : Machine). IsNeverUp m.life) (sym so) tt
never_comes (failed file) old answer new name at is (named, told, so) = subst (λ (m : Machine). IsNeverUp m.life) (sym so) tt

never_on : (old : Machine) (asked : Event) (answer : Answer) (new : Machine) (name : List ℕ) (at : ℕ) → old.base ≡ broken name at
    → Change old asked answer new → IsNeverUp old.life → IsNeverUp new.life
never_on old machines.start answer new name at base (inl (up, (told, is))) h = subst (λ (m : Machine). IsNeverUp m.life) (sym is) h
never_on old machines.start answer new name at base (inr (down, choice, comes)) h = never_comes choice old answer new name at base comes
never_on old (machines.command c) answer new name at base does h = never_does c old answer new does h
never_on old (machines.refused place) answer new name at base (told, is) h = subst (λ (m : Machine). IsNeverUp m.life) (sym is) h
never_on old machines.turn answer new name at base (told, is) h = subst (λ (m : Machine). IsNeverUp m.life) (sym is) h
never_on old machines.end answer new name at base does h = never_does stop old answer new does h

broken_run : (first : Past) (old : World) (acts : List Act) (name : List ℕ) (at : ℕ) → IsRun first old acts
    → old.machine.base ≡ broken name at → IsNeverUp old.machine.life
    → ((last_of old acts).machine.base ≡ broken name at) × IsNeverUp (last_of old acts).machine.life
broken_run first old [] name at run base life = (base, life)
broken_run first old (a ∷ acts) name at (step, run) base life =
    broken_run first a.after acts name at run (broken_stays old.machine a.event a.answer a.after.machine name at base step.step.change)
    (never_on old.machine a.event a.answer a.after.machine name at base step.step.change life)

one_file : (name other : List ℕ) (at place : ℕ) → broken name at ≡ broken other place → (name ≡ other) × (at ≡ place)
one_file name other at place is = (cc, cc)

-- ---- the whole run

module _ (script_told sink_told : Bool) (script : List ℕ) (first : Past) (faults : ℕ) (now : Past) (faults_now : ℕ)
    (old_out new_out : List ℕ) (marks : List Mark) where
  abbrev RanAs : Meaning → Status → Type 0
  RanAs meaning end = Ran script_told sink_told script end (unbegun meaning first faults) now faults_now old_out new_out marks

  damage_of : (meaning : Meaning) (name : List ℕ) (at : ℕ) → RanAs meaning (status.Damaged name at) → meaning ≡ broken name at
  damage_of (stands w) name at ran =
      let base = ran.acted.ends.2 in
      absurd (subst IsStanding base (standing_run first (unbegun (stands w) first faults) ran.acts ran.acted.run tt))
  damage_of (broken file place) name at ran =
      let last = broken_run first (unbegun (broken file place) first faults) ran.acts file place ran.acted.run refl tt in
      sym last.0 ∙ ran.acted.ends.2

  module _ (end : Status) (ran : (meaning : Meaning) → Means (reads first) meaning → IsTrusted meaning first → RanAs meaning end) where
    at_end : (meaning : Meaning) (how : Status) → end ≡ how → Means (reads first) meaning → IsTrusted meaning first → RanAs meaning how
    at_end meaning how is means trusted = subst (λ (e : Status). RanAs meaning e) is (ran meaning means trusted)

    pub run_damaged : (meaning : Meaning) → Means (reads first) meaning → IsTrusted meaning first → (name : List ℕ) (at : ℕ)
        → end ≡ status.Damaged name at → IsBroken (reads first) name at
    run_damaged meaning means trusted name at is =
        subst (Means (reads first)) (damage_of meaning name at (at_end meaning (status.Damaged name at) is means trusted)) means

    pub run_meaning : (name : List ℕ) (at : ℕ) → IsBroken (reads first) name at → EndsDamaged name at end
    run_meaning name at means = by end (ran (broken name at) means tt)
      where
        by : (how : Status) → RanAs (broken name at) how → EndsDamaged name at how
        by status.Done h =
            let last = broken_run first (unbegun (broken name at) first faults) h.acts name at h.acted.run refl tt in
            absurd (subst IsNeverUp h.acted.ends.1 last.1)
        by status.Usage h = absurd h.acted.ends
        by (status.Damaged file place) h = one_file file name place at (sym (damage_of (broken name at) file place h))
        by status.ReadFault h = tt
        by status.WriteFault h = tt
        by status.DiskFault h = tt
        by status.Memory h = tt
        by (status.TooLong n) h = tt

    pub run_kept : (name : List ℕ) (at : ℕ) → IsBroken (reads first) name at → now ≡ first
    run_kept name at means =
        let h = ran (broken name at) means tt in
        let last = broken_run first (unbegun (broken name at) first faults) h.acts name at h.acted.run refl tt in
        h.acted.kept name at last.0

    -- nothing was wrong
    pub run_complete : IsTrue script_told → (w : Durable) → Stands (reads first) w → IsTrusted (stands w) first
        → (end ≡ status.ReadFault → ⊥) → (end ≡ status.WriteFault → ⊥) → (end ≡ status.DiskFault → ⊥)
        → (end ≡ expected (plan_of script).over) ⊎ (end ≡ status.Memory)
    run_complete told w means trusted read write disk = by end refl (ran (stands w) means trusted)
      where
        by : (how : Status) → end ≡ how → RanAs (stands w) how → (end ≡ expected (plan_of script).over) ⊎ (end ≡ status.Memory)
        by status.Done is h = inl (is ∙ sym (ap expected (h.asked told).ends.1))
        by status.Memory is h = inr is
        by status.ReadFault is h = absurd (read is)
        by status.WriteFault is h = absurd (write is)
        by status.DiskFault is h = absurd (disk is)
        by status.Usage is h = absurd h.acted.ends
        by (status.Damaged name at) is h = let never : stands w ≡ broken name at = damage_of (stands w) name at h in
            absurd (subst IsStanding never tt)
        by (status.TooLong n) is h = inl (is ∙ sym (ap expected (h.asked told).ends.1))
