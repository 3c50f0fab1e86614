-- A run so far, and how it goes on and ends.
use Rattle.std.proofs.Common.{◌≡◌, ℕ, ◌+◌, ◌≤◌, Bool, IsTrue, List, [], ◌∷◌, ◌++◌, length, Option, Err, refl, sym, ap, ◌∙◌, subst, append_assoc, append-nil, length-append, arith}
use Rattle.file_trait.specs.DiskModel.{Past, reads, Crashes}
use Rattle.file_trait.specs.Moments.{Moments}
use Rattle.disk_logs.specs.Crash.{IsSound}
use Rattle.db_model.specs.Lawful as databases
use Rattle.mn_node.specs.Durable.{Durable, after}
use Rattle.mn_node.specs.Shown.{Shows}
use Rattle.mn_node.specs.Machine.{Machine, Event, AreDone, KeepsAs, HoldsAs, Leaves}
use Rattle.mn_node.specs.Machine as machines
use Rattle.mn_node.specs.Meaning.{latest, Meaning, Means, stands, broken}
use Rattle.mn_node.specs.declared.node.Node.{Node}
use Rattle.mn_run.specs.Asks.{Passes, GivesUp}
use Rattle.mn_run.specs.Commands.{Request, IsEventOf, AreEventsOf}
use Rattle.mn_run.specs.Script.{plan_of, requests_of_plan}
use Rattle.mn_run.specs.Runs.{IsTrusted, World, Act, Follows, IsRun, last_of, events_of, line_of, lines_of_acts, last_line, mark_at, marks_of, EndsAt, EndsScript, EndsPrinted, Acted, IsAsked, ArePrinted}
use Rattle.mn_run.specs.Sessions.{Halts, AreUnended}
use Rattle.mn_run.specs.declared.outcome.Mark.{Mark}
use Rattle.mn_run.specs.declared.outcome.Status.{Status}
use Rattle.mn_run.specs.declared.outcome.Status.TheVariants as status
use Rattle.mn_run.specs.declared.session.Session.{Session}
use Rattle.mn_run.specs.declared.session.TheConstants.{MOST_GATHERED}
use Rattle.mn_node.proofs.Directories.{never_both, one_state}
use Rattle.mn_node.proofs.Histories.{done_sound, done_first}
use Rattle.mn_node.proofs.NodeFacts.{shows_holds, shows_lawful, shows_sound, broken_files, broken_untouched}
use Rattle.mn_node.proofs.Prefixes.{kept_front}
use Rattle.mn_run.proofs.Requests.{events_push}
use Rattle.mn_run.proofs.RunActs.{world, world_is, run_more, last_more, events_more, lines_more, last_line_more, if_last_more, done_with, marks_more}
use Rattle.mn_run.proofs.RunCrash.{LeavesNow, at_moments, sound_moments}

-- what the session, the disk and the sink are at one point of the run
pub record Point : Type 0 where
  pub node : Node
  pub past : Past
  pub faults : ℕ
  pub out : List ℕ
  pub text : List ℕ
  pub marks : List Mark

abbrev pub point : Session → Past → ℕ → List ℕ → Point
point session past faults out =
    record { node = session.node; past = past; faults = faults; out = out; text = session.text.items; marks = session.marks.items }

-- all lines of these acts were written or are gathered
pub record Written (acts : List Act) (first out gathered : List ℕ) : Type 0 where
  pub printed : List ℕ
  pub grown : out ≡ first ++ printed
  pub lines : lines_of_acts acts ≡ printed ++ gathered

module _ (acts : List Act) (first out text : List ℕ) (w : Written acts first out text) (GaveUp : Type 0) (out_now text_now : List ℕ)
    (p : Passes GaveUp text text_now out out_now) where
  sent_grown : out_now ≡ first ++ (w.printed ++ p.sent)
  sent_grown = p.grown ∙ ap (λ xs. xs ++ p.sent) w.grown ∙ append_assoc first w.printed p.sent

  sent_lines : lines_of_acts acts ≡ (w.printed ++ p.sent) ++ (text_now ++ p.lost)
  sent_lines = w.lines ∙ ap (λ xs. w.printed ++ xs) p.parts ∙ sym (append_assoc w.printed p.sent (text_now ++ p.lost))

  pub written_on : (GaveUp → ⊥) → Written acts first out_now text_now
  written_on none = record {
    printed = w.printed ++ p.sent;
    grown = sent_grown;
    lines = sent_lines ∙ ap (λ xs. (w.printed ++ p.sent) ++ (text_now ++ xs)) (p.all none)
        ∙ ap (λ xs. (w.printed ++ p.sent) ++ xs) (append-nil text_now);
  }

  pub printed_so : (end : Status) → length text ≤ MOST_GATHERED + length (last_line [] acts) → EndsPrinted end p.lost
      → ArePrinted end acts first out_now text_now
  printed_so end small ends = record {
    printed = w.printed ++ p.sent;
    unprinted = p.lost;
    grown = sent_grown;
    lines = sent_lines;
    few = omega (arith, small, ap length p.parts, length-append p.sent (text_now ++ p.lost));
    ends = ends;
  }

ends_printed : (T : Type 0) (end : Status) (lost : List ℕ) → ((GivesUp {T = T} (Err end) → ⊥) → lost ≡ []) → EndsPrinted end lost
ends_printed T status.WriteFault lost all = tt
ends_printed T status.Memory lost all = tt
ends_printed T status.Done lost all = all (λ x. x)
ends_printed T status.Usage lost all = all (λ x. x)
ends_printed T status.ReadFault lost all = all (λ x. x)
ends_printed T status.DiskFault lost all = all (λ x. x)
ends_printed T (status.Damaged name at) lost all = all (λ x. x)
ends_printed T (status.TooLong n) lost all = all (λ x. x)

-- the acts are of what the script asks for, and this is left of it
pub record ReadTo (script : List ℕ) (acts : List Act) (todo : List Request) (over : Option ℕ) : Type 0 where
  pub asked : List Request
  pub read : requests_of_plan (plan_of script) ≡ asked ++ todo
  pub are : AreEventsOf asked (events_of acts)
  pub over_is : (plan_of script).over ≡ over

asked_to : (script : List ℕ) (acts : List Act) (todo : List Request) (over : Option ℕ) (end : Status) → ReadTo script acts todo over
    → EndsScript end todo over → IsAsked end script acts
asked_to script acts todo over end h ends = record {
  asked = h.asked;
  later = todo;
  read = h.read;
  are = h.are;
  ends = subst (EndsScript end todo) (sym h.over_is) ends;
}

-- what the directory means then is as a run asks
trusted_of : (first now : Past) (node : Node) (machine : Machine) → Shows first node now machine → (meaning : Meaning)
    → Means (reads now) meaning → IsTrusted meaning now
trusted_of first now node machine h (broken name at) means = tt
trusted_of first now node machine h (stands w) means = by machine.base refl
  where
    by : (base : Meaning) → machine.base ≡ base → IsTrusted (stands w) now
    by (stands was) is =
        let lawful : AreDone machine.entries was =
        subst (λ (m : Meaning). KeepsAs m machine.entries) is (shows_lawful first now node machine h) in
        let held : HoldsAs (stands was) machine (reads now) =
        subst (λ (m : Meaning). HoldsAs m machine (reads now)) is (shows_holds first now node machine h).0 in
        let front = kept_front machine held.0 held.1 in
        let done : AreDone held.0 was = done_first was held.0 front.0 (subst (λ es. AreDone es was) front.1 lawful) in
        let same : after was held.0 ≡ w = one_state (reads now) (after was held.0) w held.3 means in (
          shows_sound first now node machine h was is,
          subst (λ (u : Durable). databases.IsSound u.database) same (done_sound was held.0 done),
        )
    by (broken name at) is =
        absurd (never_both (reads now) w name at means (broken_files first now node machine h name at is))

module _ (script_told sink_told : Bool) (script : List ℕ) (old : World) (first : List ℕ) where
  -- Acts that were done and told, with these requests still to come. The next event would be answered with so many commands.
  pub record Front (count : Event → ℕ) (todo : List Request) (over : Option ℕ) (now : Point) : Type 0 where
    pub acts : List Act
    pub run : IsRun old.past old acts
    pub leaves : Crashes (Leaves old.past old.machine []) old.past
    pub counted : (next : Event) → done_with acts next ≡ count next
    pub marked : marks_of acts ≡ now.marks
    pub past : (last_of old acts).past ≡ now.past
    pub faults : (last_of old acts).faults ≡ now.faults
    pub shows : Shows old.past now.node now.past (last_of old acts).machine
    pub read : IsTrue script_told → ReadTo script acts todo over
    pub written : IsTrue sink_told → Written acts first now.out now.text
    pub small : length now.text ≤ MOST_GATHERED + length (last_line [] acts)
    pub unended : AreUnended acts

  -- the same, by what else is known of the script
  abbrev pub front_as : (count : Event → ℕ) (todo later : List Request) (over over_then : Option ℕ) (now : Point)
      → (IsTrue script_told → (todo ≡ later) × (over ≡ over_then)) → Front count todo over now → Front count later over_then now
  front_as count todo later over over_then now same f = record {
    acts = f.acts;
    run = f.run;
    leaves = f.leaves;
    counted = f.counted;
    marked = f.marked;
    past = f.past;
    faults = f.faults;
    shows = f.shows;
    written = f.written;
    small = f.small;
    unended = f.unended;
    read = λ told. record {
      asked = (f.read told).asked;
      read = (f.read told).read ∙ ap (λ rs. (f.read told).asked ++ rs) (same told).0;
      are = (f.read told).are;
      over_is = (f.read told).over_is ∙ (same told).1;
    };
  }

  -- what was gathered was written
  abbrev pub front_on : (count : Event → ℕ) (todo : List Request) (over : Option ℕ) (now : Point) (out text : List ℕ)
      → (IsTrue sink_told → Passes ⊥ now.text text now.out out) → length text ≤ length now.text → Front count todo over now
      → Front count todo over (record now { out = out; text = text })
  front_on count todo over now out text passed less f = record {
    acts = f.acts;
    run = f.run;
    leaves = f.leaves;
    counted = f.counted;
    marked = f.marked;
    past = f.past;
    faults = f.faults;
    shows = f.shows;
    read = f.read;
    small = omega (arith, f.small, less);
    unended = f.unended;
    written = λ told. written_on f.acts first now.out now.text (f.written told) ⊥ out text (passed told) (λ x. x);
  }

  -- the machine's part of a run that ends
  acted : (end : Status) (acts : List Act) (node : Node) (now : Past) (faults : ℕ) (marks unmarked : List Mark) → IsRun old.past old acts
      → Crashes (Leaves old.past old.machine []) old.past
      → (last_of old acts).past ≡ now → (last_of old acts).faults ≡ faults → marks_of acts ≡ marks ++ unmarked → length unmarked ≤ 1
      → Shows old.past node now (last_of old acts).machine
      → EndsAt end unmarked (reads now) (last_of old acts).machine → Acted end old acts now faults marks
  acted end acts node now faults marks unmarked run leaves at count marked few shows ends = record {
    unmarked = unmarked;
    run = run;
    marked = marked;
    few = few;
    past = at;
    faults = count;
    held = shows_holds old.past now node (last_of old acts).machine shows;
    kept = λ name place is. broken_untouched old.past now node (last_of old acts).machine shows name place is;
    crash = subst (λ (p : Past). Moments (LeavesNow old.past old acts) old.past p) at (at_moments old.past old acts run leaves);
    sound = λ sound. subst (λ (p : Past). Moments (λ past. IsSound past latest) old.past p) at (sound_moments old.past old acts run sound);
    trusted = trusted_of old.past now node (last_of old acts).machine shows;
    ends = ends;
  }

  -- ---- a call ends the run that answered nothing

  pub halt_now : (T : Type 0) (count : Event → ℕ) (todo : List Request) (over : Option ℕ) (now : Point) (out text : List ℕ) (end : Status)
      (f : Front count todo over now)
      → EndsAt end [] (reads now.past) (last_of old f.acts).machine → (IsTrue script_told → EndsScript end todo over)
      → (IsTrue sink_told → Passes (GivesUp {T = T} (Err end)) now.text text now.out out)
      → (halts : Halts script_told sink_told script end old now.past now.faults first out text now.marks) × AreUnended halts.acts
  halt_now T count todo over now out text end f ends asks passed = (
    record {
      acts = f.acts;
      acted = acted end f.acts now.node now.past now.faults now.marks [] f.run f.leaves f.past f.faults
          (f.marked ∙ sym (append-nil now.marks)) (omega arith) f.shows ends;
      asked = λ told. asked_to script f.acts todo over end (f.read told) (asks told);
      printed = λ told. printed_so f.acts first now.out now.text (f.written told) (GivesUp {T = T} (Err end)) out text
          (passed told) end f.small (ends_printed T end (passed told).lost (passed told).all);
    },
    f.unended,
  )

  -- ---- one act more

  abbrev pub here : (count : Event → ℕ) (todo : List Request) (over : Option ℕ) (now : Point) → Front count todo over now → World
  here count todo over now f = world (last_of old f.acts).machine now.past now.faults

  module _ (count : Event → ℕ) (todo : List Request) (over : Option ℕ) (now new : Point) (a : Act) (r : Request)
      (meant : IsTrue script_told → IsEventOf r a.event) (f : Front count (r ∷ todo) over now)
      (step : Follows old.past (here count (r ∷ todo) over now f) a)
      (shows : Shows old.past new.node new.past a.after.machine) (past : a.after.past ≡ new.past) (faults : a.after.faults ≡ new.faults)
      (out : new.out ≡ now.out) where
    abbrev acts : List Act
    acts = f.acts ++ a ∷ []

    run : IsRun old.past old acts
    run = run_more old.past old f.acts a f.run (subst (λ (w : World). Follows old.past w a)
        (world_is (last_of old f.acts) now.past now.faults f.past f.faults) step)

    last : last_of old acts ≡ a.after
    last = last_more old f.acts a

    read_more : IsTrue script_told → ReadTo script acts todo over
    read_more told = record {
      asked = (f.read told).asked ++ r ∷ [];
      read = (f.read told).read ∙ sym (append_assoc (f.read told).asked (r ∷ []) todo);
      are = subst (AreEventsOf ((f.read told).asked ++ r ∷ [])) (sym (events_more f.acts a))
          (events_push (f.read told).asked (events_of f.acts) r a.event (f.read told).are (meant told));
      over_is = (f.read told).over_is;
    }

    -- with these bytes of its line, and the rest
    lines_with : (told : IsTrue sink_told) (text : List ℕ) → text ≡ now.text ++ line_of a.event a.answer
        → lines_of_acts acts ≡ (f.written told).printed ++ text
    lines_with told text is =
        lines_more f.acts a ∙ ap (λ xs. xs ++ line_of a.event a.answer) (f.written told).lines
        ∙ append_assoc (f.written told).printed now.text (line_of a.event a.answer)
        ∙ ap (λ xs. (f.written told).printed ++ xs) (sym is)

    pub front_more : (count_now : Event → ℕ) → ((before : List Act) → ((next : Event) → done_with before next ≡ count next) → (next : Event)
        → done_with (before ++ a ∷ []) next ≡ count_now next)
        → length now.text ≤ MOST_GATHERED → new.text ≡ now.text ++ line_of a.event a.answer
        → new.marks ≡ now.marks ++ mark_at (count a.event) a → (a.event ≡ machines.end → ⊥) → Front count_now todo over new
    front_more count_now counts few text marks goes_on = record {
      acts = acts;
      run = run;
      leaves = f.leaves;
      counted = counts f.acts f.counted;
      marked = marks_more f.acts a ∙ ap (λ n. marks_of f.acts ++ mark_at n a) (f.counted a.event)
          ∙ ap (λ xs. xs ++ mark_at (count a.event) a) f.marked ∙ sym marks;
      past = ap (λ (w : World). w.past) last ∙ past;
      faults = ap (λ (w : World). w.faults) last ∙ faults;
      shows = subst (λ (w : World). Shows old.past new.node new.past w.machine) (sym last) shows;
      small = omega (arith, few, ap length text, length-append now.text (line_of a.event a.answer), ap length (last_line_more [] f.acts a));
      unended = if_last_more (λ act. act.event ≡ machines.end → ⊥) f.acts a goes_on;
      read = read_more;
      written = λ told. record {
        printed = (f.written told).printed;
        grown = out ∙ (f.written told).grown;
        lines =
            lines_with told new.text text;
      };
    }

    pub marks_with : (taken unmarked : List Mark) → mark_at (count a.event) a ≡ taken ++ unmarked → new.marks ≡ now.marks ++ taken
        → marks_of acts ≡ new.marks ++ unmarked
    marks_with taken unmarked mark marks =
        marks_more f.acts a ∙ ap (λ n. marks_of f.acts ++ mark_at n a) (f.counted a.event) ∙ ap (λ xs. marks_of f.acts ++ xs) mark
        ∙ sym (append_assoc (marks_of f.acts) taken unmarked)
        ∙ ap (λ xs. (xs ++ taken) ++ unmarked) f.marked ∙ ap (λ xs. xs ++ unmarked) (sym marks)

    -- Behind it the run ends. Of its line this rest was not gathered, and of its mark the rest was not taken.
    pub halt_with : (end : Status) (rest : List ℕ) (taken unmarked : List Mark) → length now.text ≤ MOST_GATHERED
        → new.text ++ rest ≡ now.text ++ line_of a.event a.answer
        → mark_at (count a.event) a ≡ taken ++ unmarked → new.marks ≡ now.marks ++ taken → length unmarked ≤ 1
        → EndsAt end unmarked (reads new.past) a.after.machine → (IsTrue script_told → EndsScript end todo over) → EndsPrinted end rest
        → (halts : Halts script_told sink_told script end old new.past new.faults first new.out new.text new.marks) × (halts.acts ≡ acts)
    halt_with end rest taken unmarked small text mark marks few ends asks prints = (
      record {
        acts = acts;
        acted = acted end acts new.node new.past new.faults new.marks unmarked run f.leaves (ap (λ (w : World). w.past) last ∙ past)
            (ap (λ (w : World). w.faults) last ∙ faults)
            (marks_with taken unmarked mark marks) few (subst (λ (w : World). Shows old.past new.node new.past w.machine) (sym last) shows)
            (subst (λ (w : World). EndsAt end unmarked (reads new.past) w.machine) (sym last) ends);
        asked = λ told. asked_to script acts todo over end (read_more told) (asks told);
        printed = λ told. record {
          printed = (f.written told).printed;
          unprinted = rest;
          grown = out ∙ (f.written told).grown;
          lines = lines_with told (new.text ++ rest) text;
          few = omega (
            arith,
            small,
            ap length text,
            length-append now.text (line_of a.event a.answer),
            ap length
                (last_line_more [] f.acts a),
          );
          ends = prints;
        };
      },
      refl,
    )
