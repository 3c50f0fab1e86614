-- One event answered and told, and the script's end.
use Rattle.std.proofs.Common.{◌≡◌, ◌⊎◌, ℕ, ◌≤◌, List, [], ◌∷◌, ◌++◌, length, Result, Ok, Err, refl, sym, ap, ◌∙◌, subst, inl, inr, append-nil, arith}
use Rattle.std.specs.Prelude.{OnOk}
use Rattle.std.proofs.lemmas.List.{take_all}
use Rattle.file_trait.specs.Counts.{Rose}
use Rattle.file_trait.specs.DiskModel.{Past, clock}
use Rattle.mn_node.specs.Shown.{Shows, ShowsLife, Steps, IsWhole}
use Rattle.mn_node.specs.Effects.{Answer, stopped, is_down, fault, damaged}
use Rattle.mn_node.specs.Machine.{Machine, Event, Life, unstarted, running, halted, faulted, starved, ruined}
use Rattle.mn_node.specs.Machine as machines
use Rattle.mn_node.specs.declared.node.Node.{Node}
use Rattle.mn_node.specs.declared.node.State.{State}
use Rattle.mn_node.specs.declared.node.State.TheVariants.{Unstarted, Up, Stopped, Faulted, Starved, Ruined}
use Rattle.file_trait.specs.Streams.{TookSome}
use Rattle.mn_node.specs.Seen.{answer}
use Rattle.mn_node.specs.declared.reply.Reply.{Reply}
use Rattle.mn_node.specs.declared.reply.Reply.TheVariants as replies
use Rattle.mn_run.specs.Replies.{text_of}
use Rattle.mn_run.specs.Runs.{mark_of, mark_if}
use Rattle.mn_run.specs.Sessions.{Told, Served, Ended, EndsAs, MarksEnd, node_mark}
use Rattle.mn_run.specs.Statuses.{status_of_down}
use Rattle.mn_run.specs.declared.outcome.Mark.{Mark}
use Rattle.mn_run.specs.declared.outcome.Status.{Status}
use Rattle.mn_run.specs.declared.outcome.Status.TheVariants as status
use Rattle.mn_run.specs.declared.session.Session.{Session}
use Rattle.mn_run.proofs.RunActs.{world}

-- the node's counts are the machine's
mark_is : (first : Past) (done : ℕ) (node : Node) (now : Past) (faults : ℕ) (machine : Machine) (mark : Mark) → Shows first node now machine
    → mark ≡ node_mark done node now faults
    → mark ≡ mark_of done (world machine now faults)
mark_is first done node now faults machine mark shows is =
    is ∙ (λ i. record { clock = clock now; done = done; entries = shows.entries i; synced = shows.synced i; faults = faults; wants = 0 })

-- the run goes on only where there was no damage
pub whole_on : (answer : Answer) (mark : Mark) (result : Result Unit Status) (old_text new_text : List ℕ) (old_marks new_marks : List Mark)
    (state : State)
    → Told answer mark result old_text new_text old_marks new_marks
    → (((name : List ℕ) (at : ℕ) → answer ≡ damaged name at → ⊥) → IsWhole state) → OnOk result (IsWhole state)
whole_on answer mark (Ok done) old_text new_text old_marks new_marks state told whole =
    whole (λ name at is. let other = told.sound name at is in cc other)
whole_on answer mark (Err end) old_text new_text old_marks new_marks state told whole = tt

-- a reply that is no damage
pub not_damaged : (reply : Reply) → ((name : List ℕ) (at : ℕ) → reply ≡ replies.Damaged name at → ⊥) → (name : List ℕ) (at : ℕ)
    → answer reply ≡ damaged name at → ⊥
not_damaged (replies.Damaged file place) none name at is = none file place refl
not_damaged other none name at is = cc

-- a reply that is not of a node that was down ends the run for want of memory where its mark found no room
pub wants_reply : (reply : Reply) (new : Machine) → (reply ≡ replies.Down → ⊥) → EndsAs (answer reply) new status.Memory
wants_reply replies.Down new up = absurd (up refl)
wants_reply other new up = tt

module _ (given : Answer) (mark : Mark) (old_text new_text : List ℕ) (old_marks new_marks : List Mark) (sound : (name : List ℕ) (at : ℕ)
    → given ≡ damaged name at → ⊥) (all : new_text ≡ old_text ++ text_of given) where
  line_taken : TookSome (text_of given) old_text new_text
  line_taken = record {
    n = length (text_of given);
    within = omega arith;
    grown =
        all ∙ ap (λ xs. old_text ++ xs) (sym (take_all (length (text_of given)) (text_of given) (omega arith)));
  }

  pub told_all : new_marks ≡ old_marks ++ mark ∷ [] → Told given mark (Ok tt) old_text new_text old_marks new_marks
  told_all more = record {
    some = line_taken;
    ok = λ is. (all, more);
    err = λ end is. cc;
    damage = λ name at is. cc;
    sound =
        λ name at is. absurd (sound name at is);
  }

  pub told_unmarked : new_marks ≡ old_marks → Told given mark (Err status.Memory) old_text new_text old_marks new_marks
  told_unmarked same = record {
    some = line_taken;
    ok = λ is. cc;
    err = λ end is. same;
    damage = λ name at is. cc;
    sound =
        λ name at is. absurd (sound name at is);
  }

-- how a call that takes a mark says it
pub is_marked : (mark : Mark) (end result good : Status) (old_marks new_marks taken : List Mark) → end ≡ result → new_marks ≡ taken
    → (result ≡ good) × (taken ≡ old_marks ++ mark ∷ []) ⊎ ((result ≡ status.Memory) × (taken ≡ old_marks))
    → (end ≡ good) × (new_marks ≡ old_marks ++ mark ∷ []) ⊎ ((end ≡ status.Memory) × (new_marks ≡ old_marks))
is_marked mark end result good old_marks new_marks taken e n (inl (a, b)) = inl (e ∙ a, n ∙ b)
is_marked mark end result good old_marks new_marks taken e n (inr (a, b)) = inr (e ∙ a, n ∙ b)

module _ (first : Past) (machine : Machine) (before : Past) (faults : ℕ) (session new : Session) (node : Node) (same : new.node ≡ node)
    (now : Past) (faults_now : ℕ) (later : faults ≤ faults_now)
    (done : ℕ) (mark : Mark) (is : mark ≡ node_mark done node now faults_now) (answer : Answer)
    (rose : (name : List ℕ) → answer ≡ fault name → Rose faults faults_now)
    (answered : ((name : List ℕ) → answer ≡ fault name → ⊥) → faults_now ≡ faults) where
  module _ (event : Event) (steps : Steps first machine event answer session.node node before now) where
    abbrev pub s : Steps first machine event answer session.node new.node before now
    s = subst (λ (n : Node). Steps first machine event answer session.node n before now) (sym same) steps

    mark_here : mark ≡ mark_of done (world s.new now faults_now)
    mark_here = mark_is first done new.node now faults_now s.new mark s.shows
        (is ∙ ap (λ (n : Node). node_mark done n now faults_now) (sym same))

    pub served : (result : Result Unit Status)
        → Told answer mark result session.text.items new.text.items session.marks.items new.marks.items
        → Served first (world machine before faults) event done result session new now faults_now
    served result told = record {
      answer = answer;
      steps = s;
      later = later;
      rose = rose;
      answered = answered;
      told = subst (λ (m : Mark). Told answer m result session.text.items new.text.items session.marks.items new.marks.items) mark_here
          told;
    }

  module _ (steps : Steps first machine machines.end answer session.node node before now) where
    abbrev pub e : Steps first machine machines.end answer session.node new.node before now
    e = s machines.end steps

    abbrev left : List Mark
    left = mark_if machines.end answer (mark_of done (world e.new now faults_now))

    ended : (end : Status) → EndsAs answer e.new end → MarksEnd end left session.marks.items new.marks.items
        → Ended first (world machine before faults) done end session new now faults_now
    ended end how marked = record { answer = answer; steps = e; later = later; rose = rose; answered = answered; how = how; marked = marked }

    -- the mark was taken, or memory was wanting
    abbrev pub IsMarked : Status → Status → Type 0
    IsMarked good end = (end ≡ good) × (new.marks.items ≡ session.marks.items ++ mark ∷ [])
        ⊎ ((end ≡ status.Memory) × (new.marks.items ≡ session.marks.items))

    -- by another reply, or without its mark
    pub ended_wanting : (end : Status) → end ≡ status.Memory → EndsAs answer e.new status.Memory
        → new.marks.items ≡ session.marks.items
        → Ended first (world machine before faults) done end session new now faults_now
    ended_wanting end is how none =
        ended end (subst (EndsAs answer e.new) (sym is) how)
        (subst (λ (x : Status). MarksEnd x left session.marks.items new.marks.items) (sym is) none)

    -- the stop was answered by a reply that takes a mark
    ended_marked : (good end : Status) → IsMarked good end → EndsAs answer e.new good → EndsAs answer e.new status.Memory
        → left ≡ mark_of done (world e.new now faults_now) ∷ []
        → (new.marks.items ≡ session.marks.items ++ left → MarksEnd good left session.marks.items new.marks.items)
        → Ended first (world machine before faults) done end session new now faults_now
    ended_marked good end (inl (how_ended, more)) how wants one marks =
        let all : new.marks.items ≡ session.marks.items ++ left =
        more ∙ ap (λ (m : Mark). session.marks.items ++ m ∷ []) (mark_here machines.end steps)
        ∙ ap (λ xs. session.marks.items ++ xs) (sym one) in
        ended end (subst (EndsAs answer e.new) (sym how_ended) how)
        (subst (λ (x : Status). MarksEnd x left session.marks.items new.marks.items) (sym how_ended) (marks all))
    ended_marked good end (inr (how_ended, none)) how wants one marks = ended_wanting end how_ended wants none

    pub ended_stopped : (end : Status) → answer ≡ stopped → IsMarked status.Done end
        → Ended first (world machine before faults) done end session new now faults_now
    ended_stopped end stop marked =
        ended_marked status.Done end marked (subst (λ (a : Answer). EndsAs a e.new status.Done) (sym stop) tt)
        (subst (λ (a : Answer). EndsAs a e.new status.Memory) (sym stop) tt)
        (ap (λ (a : Answer). mark_if machines.end a (mark_of done (world e.new now faults_now))) stop) (λ all. all)

    pub ended_fault : (end : Status) (name : List ℕ) → answer ≡ fault name → IsMarked status.DiskFault end
        → Ended first (world machine before faults) done end session new now faults_now
    ended_fault end name failed marked =
        ended_marked status.DiskFault end marked (subst (λ (a : Answer). EndsAs a e.new status.DiskFault) (sym failed) tt)
        (subst (λ (a : Answer). EndsAs a e.new status.Memory) (sym failed) tt)
        (ap (λ (a : Answer). mark_if machines.end a (mark_of done (world e.new now faults_now))) failed) (λ all. all)

    -- the node was down
    pub ended_down : (end : Status) → answer ≡ is_down → end ≡ status_of_down node.state → new.marks.items ≡ session.marks.items
        → Ended first (world machine before faults) done end session new now faults_now
    ended_down end down is_end none = by new.node.state e.shows.life (is_end ∙ ap (λ (n : Node). status_of_down n.state) (sym same))
      where
        all : new.marks.items ≡ session.marks.items ++ left
        all = none ∙ sym (append-nil session.marks.items)
            ∙ ap (λ (a : Answer). session.marks.items ++ mark_if machines.end a (mark_of done (world e.new now faults_now))) (sym down)

        how_down : (why : Status) → EndsAs is_down e.new why → MarksEnd why left session.marks.items new.marks.items → end ≡ why
            → Ended first (world machine before faults) done end session new now faults_now
        how_down why how marks same_end =
            ended end (subst (EndsAs answer e.new) (sym same_end) (subst (λ (a : Answer). EndsAs a e.new why) (sym down) how))
            (subst (λ (x : Status). MarksEnd x left session.marks.items new.marks.items) (sym same_end) marks)

        wanting : (life : Life) → e.new.life ≡ life → (life ≡ halted → ⊥) → (life ≡ faulted → ⊥) → end ≡ status.Memory
            → Ended first (world machine before faults) done end session new now faults_now
        wanting life is no_halt no_fault same_end =
            how_down status.Memory ((λ h. no_halt (sym is ∙ h)), (λ h. no_fault (sym is ∙ h))) none same_end

        by : (state : State) → ShowsLife state now e.new e.shows.earlier → end ≡ status_of_down state
            → Ended first (world machine before faults) done end session new now faults_now
        by Unstarted life same_end = wanting unstarted life (λ h. cc) (λ h. cc) same_end
        by (Up live) life same_end = wanting running life.running (λ h. cc) (λ h. cc) same_end
        by Starved life same_end = wanting starved life (λ h. cc) (λ h. cc) same_end
        by Ruined life same_end = wanting ruined life (λ h. cc) (λ h. cc) same_end
        by Stopped life same_end = how_down status.Done life.0 all same_end
        by Faulted life same_end = how_down status.DiskFault life all same_end
