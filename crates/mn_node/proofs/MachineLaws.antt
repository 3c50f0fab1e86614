-- Laws over the machine's steps, by choice and not by command.
use Rattle.std.proofs.Common.{◌≡◌, ℕ, ◌≤◌, Bool, true, false, if◌then◌else◌, List, ◌++◌, length, refl, sym, ap, ◌∙◌, subst, inl, inr, arith, length-append}
use Rattle.mn_node.specs.Durable.{Entry}
use Rattle.mn_node.specs.Effects.{Command, stop, Answer, Effect}
use Rattle.txn_core.specs.Pending.{Txn}
use Rattle.mn_node.specs.Machine.{Machine, Event, start, command, refused, turn, end, IsAlive, ruined, Choice, as_asked, out_of_memory, failed, effect_here, pending_behind, entries_of, Comes, ComesUp, Boots, Does, Step, Change}
use Rattle.mn_node.specs.Meaning.{Meaning, stands, broken}

-- ---- what is synced is there

abbrev pub IsSane : Machine → Type 0
IsSane machine = machine.synced ≤ length machine.entries

sane_like : (old new : Machine) → new ≡ old → IsSane old → IsSane new
sane_like old new is h = subst IsSane (sym is) h

sane_least : (settles : Bool) (entries : List Entry) (least : ℕ) → least ≤ length entries
    → (if settles then length entries else least) ≤ length entries
sane_least true entries least h = omega arith
sane_least false entries least h = h

sane_comes : (choice : Choice) (e : Effect) (pending : List Txn) (old : Machine) (answer : Answer) (new : Machine)
    → Comes choice e pending old answer new → IsSane old → IsSane new
sane_comes as_asked e pending old answer new (told, is) h =
    let all : List Entry = old.entries ++ entries_of e.entry in
    subst IsSane (sym is) (sane_least e.settles all old.synced (omega (arith, h, length-append old.entries (entries_of e.entry))))
sane_comes out_of_memory e pending old answer new (told, is) h = sane_like old new is h
sane_comes (failed name) e pending old answer new (told, is) h =
    subst IsSane (sym is) (omega (arith, h, length-append old.entries (entries_of e.entry)))

sane_does : (c : Command) (old : Machine) (answer : Answer) (new : Machine) → Does c old answer new → IsSane old → IsSane new
sane_does c old answer new (inl (up, choice, may, comes)) h =
    sane_comes choice (effect_here old c) (pending_behind old c) old answer new comes h
sane_does c old answer new (inr (down, (told, is))) h = sane_like old new is h

sane_boots : (base : Meaning) (old : Machine) (answer : Answer) (new : Machine) → Boots base old answer new → IsSane old → IsSane new
sane_boots (stands w) old answer new (kept, among, told, is) h = subst IsSane (sym is) (omega arith)
sane_boots (broken name at) old answer new (told, is) h = subst IsSane (sym is) h

sane_up : (choice : Choice) (old : Machine) (answer : Answer) (new : Machine) → ComesUp choice old answer new → IsSane old → IsSane new
sane_up as_asked old answer new comes h = sane_boots old.base old answer new comes h
sane_up out_of_memory old answer new (told, is) h = subst IsSane (sym is) h
sane_up (failed name) old answer new (named, told, is) h = subst IsSane (sym is) h

pub sane : (old : Machine) (event : Event) (answer : Answer) (new : Machine) → Change old event answer new → IsSane old → IsSane new
sane old start answer new (inl (up, (told, is))) h = sane_like old new is h
sane old start answer new (inr (down, choice, comes)) h = sane_up choice old answer new comes h
sane old (command c) answer new does h = sane_does c old answer new does h
sane old (refused at) answer new (told, is) h = sane_like old new is h
sane old turn answer new (told, is) h = sane_like old new is h
sane old end answer new does h = sane_does stop old answer new does h

-- ---- the base changes only at a start

same_comes : (choice : Choice) (e : Effect) (pending : List Txn) (old : Machine) (answer : Answer) (new : Machine)
    → Comes choice e pending old answer new → new.base ≡ old.base
same_comes as_asked e pending old answer new (told, is) = ap (λ (m : Machine). m.base) is
same_comes out_of_memory e pending old answer new (told, is) = ap (λ (m : Machine). m.base) is
same_comes (failed name) e pending old answer new (told, is) = ap (λ (m : Machine). m.base) is

same_does : (c : Command) (old : Machine) (answer : Answer) (new : Machine) → Does c old answer new → new.base ≡ old.base
same_does c old answer new (inl (up, choice, may, comes)) =
    same_comes choice (effect_here old c) (pending_behind old c) old answer new comes
same_does c old answer new (inr (down, (told, is))) = ap (λ (m : Machine). m.base) is

pub same_base : (old : Machine) (event : Event) (answer : Answer) (new : Machine) → Change old event answer new → (event ≡ start → ⊥)
    → new.base ≡ old.base
same_base old start answer new h other = absurd (other refl)
same_base old (command c) answer new does other = same_does c old answer new does
same_base old (refused at) answer new (told, is) other = ap (λ (m : Machine). m.base) is
same_base old turn answer new (told, is) other = ap (λ (m : Machine). m.base) is
same_base old end answer new does other = same_does stop old answer new does

-- ---- damage ends: nothing follows it

pub damage_ends : (old : Machine) (event : Event) (answer : Answer) (new : Machine) → old.life ≡ ruined → Step old event answer new → ⊥
damage_ends old event answer new is step = subst IsAlive is step.alive

-- ---- a directory without a meaning stays one

broken_up : (choice : Choice) (old : Machine) (answer : Answer) (new : Machine) (name : List ℕ) (at : ℕ) → old.base ≡ broken name at
    → ComesUp choice old answer new → new.base ≡ old.base
broken_up as_asked old answer new name at is comes =
    let boots : Boots (broken name at) old answer new = subst (λ (m : Meaning). Boots m old answer new) is comes in
    ap (λ (m : Machine). m.base) boots.1
broken_up out_of_memory old answer new name at is (told, same) = ap (λ (m : Machine). m.base) same
broken_up (failed file) old answer new name at is (named, told, same) = ap (λ (m : Machine). m.base) same

pub broken_stays : (old : Machine) (event : Event) (answer : Answer) (new : Machine) (name : List ℕ) (at : ℕ) → old.base ≡ broken name at
    → Change old event answer new → new.base ≡ broken name at
broken_stays old start answer new name at is (inl (up, (told, same))) = ap (λ (m : Machine). m.base) same ∙ is
broken_stays old start answer new name at is (inr (down, choice, comes)) = broken_up choice old answer new name at is comes ∙ is
broken_stays old (command c) answer new name at is does = same_does c old answer new does ∙ is
broken_stays old (refused place) answer new name at is (told, same) = ap (λ (m : Machine). m.base) same ∙ is
broken_stays old turn answer new name at is (told, same) = ap (λ (m : Machine). m.base) same ∙ is
broken_stays old end answer new name at is does = same_does stop old answer new does ∙ is
