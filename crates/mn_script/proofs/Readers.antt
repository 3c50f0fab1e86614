-- Readers of whole lines, made of one part after the other.
use Rattle.std.proofs.Common.{◌≡◌, ℕ, Bool, true, false, eqb, List, [], ◌∷◌, ◌++◌, length, Result, Ok, Err, refl, sym, ap, subst, ◌∙◌, append_assoc, arith}
use Rattle.std.proofs.Common.{◌≢◌}
use Rattle.std.proofs.lemmas.Bool.{eqb-true, eq-eqb, ne_eqb, and_parts}
use Rattle.term_text.specs.Grammar.{begins, is_blank, AreBlanks, Stops}
use Rattle.term_text.specs.Reading.{unblanked}
use Rattle.term_text.proofs.Steps.{Blanks, blanks_in, unblanked_again}
use Rattle.mn_script.specs.Forms.{may_begin}
use Rattle.mn_script.specs.Grammar.{IsArgument}
use Rattle.mn_script.proofs.Fields.{begins_first, stops_first}
use Rattle.mn_script.proofs.Argument.{argument_read, argument_again, argument_lacks}
use Rattle.term_core.specs.Tree.{Tree}
use Rattle.mn_script.specs.Reading.{◌>>=◌, text_at, at_end, behind_blanks, argument_at}
use Rattle.mn_script.specs.declared.forms.Kind.{Kind}
use Rattle.mn_script.proofs.Refusals.{Why, more_due, other_byte, Refusal, at_byte, in_argument, ok_is, bind_ok, BindErr, at_first, at_second, bind_err}

-- some value is read from the text
abbrev pub Done : {Y : Type 0} → (List ℕ → Y → Type 0) → List ℕ → Type 0
Done {Y} Line text = (y : Y) × Line text y

abbrev pub Refuses : {Y : Type 0} → (List ℕ → Result Y ℕ) → List ℕ → ℕ → Type 0
Refuses read line left = read line ≡ Err left

-- A reader finds a value just in the lines that are its, and says of others where they go wrong.
pub record IsReader {Y : Type 0} (read : List ℕ → Result Y ℕ) (Line : List ℕ → Y → Type 0)
    (Before : Kind → List ℕ → Type 0) : Type 0 where
  pub found : (line : List ℕ) (y : Y) → read line ≡ Ok y → Line line y
  pub again : (line : List ℕ) (y : Y) → Line line y → read line ≡ Ok y
  pub refused : (line : List ℕ) (left : ℕ) → read line ≡ Err left → Refusal (Done Line) Before (Refuses read) line left
  pub sample : (text : List ℕ) × Done Line text

-- ---- the end

abbrev pub AtEnd : {Y : Type 0} → Y → List ℕ → Y → Type 0
AtEnd x line y = (line ≡ []) × (x ≡ y)

-- no argument is to come
abbrev pub NoArgument : Kind → List ℕ → Type 0
NoArgument kind front = ⊥

pub at_end-cons : {Y : Type 0} (x : Y) (c : ℕ) (rest : List ℕ) → at_end x (c ∷ rest) ≡ Err (length (c ∷ rest))
at_end-cons x c rest = let more : eqb (length (c ∷ rest)) 0 ≡ false = ne_eqb _ _ (λ same. absurd (omega arith)) in rw more refl

pub end_reader : {Y : Type 0} (x : Y) → IsReader (at_end x) (AtEnd x) NoArgument
end_reader {Y} x = record { found = found; again = again; refused = refused; sample = ([], (x, (refl, refl))) }
  where
    found : (line : List ℕ) (y : Y) → at_end x line ≡ Ok y → AtEnd x line y
    found [] y e = (refl, ok_is x y e)
    found (c ∷ rest) y e = let other = at_end-cons x c rest in absurd cc

    again : (line : List ℕ) (y : Y) → AtEnd x line y → at_end x line ≡ Ok y
    again line y h = ap (at_end x) h.0 ∙ ap Ok h.1

    refused : (line : List ℕ) (left : ℕ) → at_end x line ≡ Err left
        → Refusal (Done (AtEnd x)) NoArgument (Refuses (at_end x)) line left
    refused [] left e = absurd cc
    refused (c ∷ rest) left e =
        at_byte [] (c ∷ rest) [] refl (let other = at_end-cons x c rest in cc) (x, (refl, refl))
        (other_byte c rest refl (λ tail. at_end-cons x c tail))

-- ---- a text, and what follows it

abbrev pub Behind : {Y : Type 0} → List ℕ → (List ℕ → Y → Type 0) → List ℕ → Y → Type 0
Behind text Line line y = (rest : List ℕ) × (line ≡ text ++ rest) × Line rest y

abbrev pub behind : {Y : Type 0} → List ℕ → (List ℕ → Result Y ℕ) → List ℕ → Result Y ℕ
behind text read line = text_at text line >>= read

-- what stands before an argument, with the text before it
abbrev pub Moves : List ℕ → (Kind → List ℕ → Type 0) → (Kind → List ℕ → Type 0) → Type 0
Moves text Before Before' = (kind : Kind) (front : List ℕ) → Before kind front → Before' kind (text ++ front)

pub same_first : {Y : Type 0} (b c : ℕ) (text line : List ℕ) (read : List ℕ → Result Y ℕ) → eqb b c ≡ true
    → behind (b ∷ text) read (c ∷ line) ≡ behind text read line
unfolding text_at
same_first b c text line read e = rw e refl

pub other_first : {Y : Type 0} (b c : ℕ) (text line : List ℕ) (read : List ℕ → Result Y ℕ) → eqb b c ≡ false
    → behind (b ∷ text) read (c ∷ line) ≡ Err (length (c ∷ line))
unfolding text_at
other_first b c text line read e = rw e refl

pub empty_text : {Y : Type 0} (read : List ℕ → Result Y ℕ) (line : List ℕ) → behind [] read line ≡ read line
unfolding text_at
empty_text read line = refl

pub no_line : {Y : Type 0} (b : ℕ) (text : List ℕ) (read : List ℕ → Result Y ℕ) → behind (b ∷ text) read [] ≡ Err 0
unfolding text_at
no_line b text read = refl

empty_reader : {Y : Type 0} (read : List ℕ → Result Y ℕ) (Line : List ℕ → Y → Type 0)
    (Before Before' : Kind → List ℕ → Type 0)
    → Moves [] Before Before' → IsReader read Line Before → IsReader (behind [] read) (Behind [] Line) Before'
empty_reader {Y} read Line Before Before' moves reader = record {
  found = λ line y e. (line, refl, reader.found line y (sym (empty_text read line) ∙ e));
  again = λ line y h. empty_text read line ∙ reader.again line y (subst (λ (t : List ℕ). Line t y) (sym h.1) h.2);
  refused = λ line left e. refusal line left (reader.refused line left (sym (empty_text read line) ∙ e));
  sample = (reader.sample.0, (reader.sample.1.0, (reader.sample.0, refl, reader.sample.1.1)));
}
  where
    reason : (front rest : List ℕ) → Why (Refuses read) front rest → Why (Refuses (behind [] read)) front rest
    reason front rest (more_due none) = more_due none
    reason front rest (other_byte c after parts refuses) =
        other_byte c after parts (λ tail. empty_text read (front ++ c ∷ tail) ∙ refuses tail)

    refusal : (line : List ℕ) (left : ℕ) → Refusal (Done Line) Before (Refuses read) line left
        → Refusal (Done (Behind [] Line)) Before' (Refuses (behind [] read)) line left
    refusal line left (at_byte front rest tail parts counted completes why) =
        at_byte front rest tail parts counted (completes.0, (front ++ tail, refl, completes.1)) (reason front rest why)
    refusal line left (in_argument kind front rest parts before begin e) =
        in_argument kind front rest parts (moves kind front before) begin e

byte_reader : {Y : Type 0} (b : ℕ) (text : List ℕ) (read : List ℕ → Result Y ℕ) (Line : List ℕ → Y → Type 0)
    (Before : Kind → List ℕ → Type 0)
    → IsReader (behind text read) (Behind text Line) (λ kind front. Before kind (b ∷ front))
    → IsReader (behind (b ∷ text) read) (Behind (b ∷ text) Line) Before
byte_reader {Y} b text read Line Before reader =
    record { found = found; again = again; refused = refused; sample = (b ∷ reader.sample.0, whole reader.sample.0 reader.sample.1) }
  where
    longer : (line : List ℕ) (y : Y) → Behind text Line line y → Behind (b ∷ text) Line (b ∷ line) y
    longer line y h = (h.0, ap (λ (t : List ℕ). b ∷ t) h.1, h.2)

    whole : (line : List ℕ) → Done (Behind text Line) line → Done (Behind (b ∷ text) Line) (b ∷ line)
    whole line h = (h.0, longer line h.0 h.1)

    found : (line : List ℕ) (y : Y) → behind (b ∷ text) read line ≡ Ok y → Behind (b ∷ text) Line line y
    found [] y e = let none = no_line b text read in absurd cc
    found (c ∷ line) y e = by (eqb b c) refl
      where
        by : (t : Bool) → eqb b c ≡ t → Behind (b ∷ text) Line (c ∷ line) y
        by true same =
            subst (λ (x : ℕ). Behind (b ∷ text) Line (x ∷ line) y) (eqb-true b c same)
            (longer line y (reader.found line y (sym (same_first b c text line read same) ∙ e)))
        by false same = let other = other_first b c text line read same in absurd cc

    again : (line : List ℕ) (y : Y) → Behind (b ∷ text) Line line y → behind (b ∷ text) read line ≡ Ok y
    again line y h =
        ap (behind (b ∷ text) read) h.1 ∙ same_first b b text (text ++ h.0) read (eq-eqb b b refl)
        ∙ reader.again (text ++ h.0) y (h.0, refl, h.2)

    reason : (front rest : List ℕ) → Why (Refuses (behind text read)) front rest
        → Why (Refuses (behind (b ∷ text) read)) (b ∷ front) rest
    reason front rest (more_due none) = more_due none
    reason front rest (other_byte c after parts refuses) =
        other_byte c after parts (λ tail. same_first b b text (front ++ c ∷ tail) read (eq-eqb b b refl) ∙ refuses tail)

    refusal : (line : List ℕ) (left : ℕ)
        → Refusal (Done (Behind text Line)) (λ kind front. Before kind (b ∷ front))
        (Refuses (behind text read)) line left
        → Refusal (Done (Behind (b ∷ text) Line)) Before (Refuses (behind (b ∷ text) read)) (b ∷ line) left
    refusal line left (at_byte front rest tail parts counted completes why) =
        at_byte (b ∷ front) rest tail (ap (λ (t : List ℕ). b ∷ t) parts) counted (whole (front ++ tail) completes) (reason front rest why)
    refusal line left (in_argument kind front rest parts before begin e) =
        in_argument kind (b ∷ front) rest (ap (λ (t : List ℕ). b ∷ t) parts) before begin e

    refused : (line : List ℕ) (left : ℕ) → behind (b ∷ text) read line ≡ Err left
        → Refusal (Done (Behind (b ∷ text) Line)) Before (Refuses (behind (b ∷ text) read)) line left
    refused [] left e =
        at_byte [] [] (b ∷ reader.sample.0) refl (let none = no_line b text read in cc) (whole reader.sample.0 reader.sample.1)
        (more_due refl)
    refused (c ∷ line) left e = by (eqb b c) refl
      where
        by : (t : Bool) → eqb b c ≡ t
            → Refusal (Done (Behind (b ∷ text) Line)) Before (Refuses (behind (b ∷ text) read)) (c ∷ line) left
        by true same =
            subst (λ (x : ℕ). Refusal (Done (Behind (b ∷ text) Line)) Before (Refuses (behind (b ∷ text) read)) (x ∷ line) left)
            (eqb-true b c same)
            (refusal line left (reader.refused line left (sym (same_first b c text line read same) ∙ e)))
        by false same =
            at_byte [] (c ∷ line) (b ∷ reader.sample.0) refl (let other = other_first b c text line read same in cc)
            (whole reader.sample.0 reader.sample.1)
            (other_byte c line refl (λ tail. other_first b c text tail read same))

pub text_reader : {Y : Type 0} (text : List ℕ) (read : List ℕ → Result Y ℕ) (Line : List ℕ → Y → Type 0)
    (Before Before' : Kind → List ℕ → Type 0)
    → Moves text Before Before' → IsReader read Line Before → IsReader (behind text read) (Behind text Line) Before'
text_reader [] read Line Before Before' moves reader = empty_reader read Line Before Before' moves reader
text_reader (b ∷ text) read Line Before Before' moves reader =
    byte_reader b text read Line Before' (text_reader text read Line Before (λ kind front. Before' kind (b ∷ front)) moves reader)

-- ---- blanks, and what follows them

abbrev pub BehindBlanks : {Y : Type 0} → Bool → (List ℕ → Y → Type 0) → List ℕ → Y → Type 0
BehindBlanks due Line line y =
    (gap rest : List ℕ) × AreBlanks gap × (due ≡ true → gap ≢ []) × (line ≡ gap ++ rest) × Line rest y

-- what stands before an argument, with the blanks before it
abbrev pub MovesBlanks : Bool → (Kind → List ℕ → Type 0) → (Kind → List ℕ → Type 0) → Type 0
MovesBlanks due Before Before' =
    (kind : Kind) (gap front : List ℕ) → AreBlanks gap → (due ≡ true → gap ≢ []) → Before kind front
    → Before' kind (gap ++ front)

-- no line begins with a blank
abbrev pub Starts : {Y : Type 0} → (List ℕ → Y → Type 0) → Type 0
Starts {Y} Line = (text : List ℕ) (y : Y) → Line text y → begins is_blank text ≡ false

pub behind_gap : {Y : Type 0} (due : Bool) (read : List ℕ → Result Y ℕ) (gap rest : List ℕ) → AreBlanks gap
    → (due ≡ true → gap ≢ []) → begins is_blank rest ≡ false
    → behind_blanks due read (gap ++ rest) ≡ read rest
unfolding behind_blanks
behind_gap false read gap rest are some stops = ap read (unblanked_again gap rest are stops)
behind_gap true read [] rest are some stops = absurd (some refl refl)
behind_gap true read (b ∷ gap) rest are some stops =
    let blank : is_blank b ≡ true = (and_parts (is_blank b) _ are).0 in rw blank (ap read (unblanked_again (b ∷ gap) rest are stops))

pub lacks_gap : {Y : Type 0} (read : List ℕ → Result Y ℕ) (line : List ℕ) → begins is_blank line ≡ false
    → behind_blanks true read line ≡ Err (length line)
unfolding behind_blanks
lacks_gap read line e = rw e refl

pub data Gap (due : Bool) (line : List ℕ) : Type 0 where
  lacks : due ≡ true → begins is_blank line ≡ false → Gap due line
  has : (gap rest : List ℕ) → AreBlanks gap → (due ≡ true → gap ≢ []) → line ≡ gap ++ rest
      → begins is_blank rest ≡ false → Gap due line

gap_in : (due : Bool) (line : List ℕ) → Gap due line
gap_in due line = by due (begins is_blank line) refl (blanks_in line)
  where
    some : begins is_blank line ≡ true → (b : Blanks line) → b.blanks ≢ []
    some begin b none =
        let whole : line ≡ unblanked line = b.parts
        ∙ ap (λ (x : List ℕ). x ++ unblanked line) none in
        absurd (let wrong : true ≡ false = sym begin ∙ ap (begins is_blank) whole ∙ b.stops in cc)

    by : (due t : Bool) → begins is_blank line ≡ t → Blanks line → Gap due line
    by false t e b = has b.blanks (unblanked line) b.are (λ never. absurd cc) b.parts b.stops
    by true true e b = has b.blanks (unblanked line) b.are (λ is. some e b) b.parts b.stops
    by true false e b = lacks refl e

first_stays : (p : ℕ → Bool) (front : List ℕ) (c : ℕ) (after tail : List ℕ) → begins p (front ++ c ∷ after) ≡ false
    → begins p (front ++ c ∷ tail) ≡ false
first_stays p front c after tail h = begins_first p front c tail after ∙ h

pub blanks_reader : {Y : Type 0} (due : Bool) (read : List ℕ → Result Y ℕ) (Line : List ℕ → Y → Type 0)
    (Before Before' : Kind → List ℕ → Type 0)
    → MovesBlanks due Before Before' → Starts Line
    → IsReader read Line Before → IsReader (behind_blanks due read) (BehindBlanks due Line) Before'
blanks_reader {Y} due read Line Before Before' moves starts reader =
    record { found = found; again = again; refused = refused; sample = (32 ∷ reader.sample.0, done) }
  where
    one_blank : due ≡ true → ◌≢◌ {A = List ℕ} (32 ∷ []) []
    one_blank is none = absurd cc

    done : Done (BehindBlanks due Line) (32 ∷ reader.sample.0)
    done = (reader.sample.1.0, (32 ∷ [], reader.sample.0, refl, one_blank, refl, reader.sample.1.1))

    found : (line : List ℕ) (y : Y) → behind_blanks due read line ≡ Ok y → BehindBlanks due Line line y
    found line y e = by (gap_in due line)
      where
        by : Gap due line → BehindBlanks due Line line y
        by (lacks is none) =
            let other : behind_blanks due read line ≡ Err (length line) = ap (λ d. behind_blanks d read line) is
            ∙ lacks_gap read line none in absurd cc
        by (has gap rest are some parts stops) = (
          gap,
          rest,
          are,
          some,
          parts,
          reader.found rest y (sym (ap (behind_blanks due read) parts ∙ behind_gap due read gap rest are some stops) ∙ e),
        )

    again : (line : List ℕ) (y : Y) → BehindBlanks due Line line y → behind_blanks due read line ≡ Ok y
    again line y (gap, rest, are, some, parts, h) =
        ap (behind_blanks due read) parts ∙ behind_gap due read gap rest are some (starts rest y h) ∙ reader.again rest y h

    reason : (gap rest : List ℕ) → AreBlanks gap → (due ≡ true → gap ≢ []) → begins is_blank rest ≡ false
        → (front others : List ℕ) → rest ≡ front ++ others → Why (Refuses read) front others
        → Why (Refuses (behind_blanks due read)) (gap ++ front) others
    reason gap rest are some stops front others inner (more_due none) = more_due none
    reason gap rest are some stops front others inner (other_byte c after parts refuses) =
        let stops_here : begins is_blank (front ++ c ∷ after) ≡ false = ap (begins is_blank)
        (sym (inner ∙ ap (λ (x : List ℕ). front ++ x) parts))
        ∙ stops in
        other_byte c after parts
        (λ tail. ap (behind_blanks due read) (append_assoc gap front (c ∷ tail))
        ∙ behind_gap due read gap (front ++ c ∷ tail) are some (first_stays is_blank front c after tail stops_here) ∙ refuses tail)

    refusal : (line gap rest : List ℕ) (left : ℕ) → AreBlanks gap → (due ≡ true → gap ≢ []) → line ≡ gap ++ rest
        → begins is_blank rest ≡ false → Refusal (Done Line) Before (Refuses read) rest left
        → Refusal (Done (BehindBlanks due Line)) Before' (Refuses (behind_blanks due read)) line left
    refusal line gap rest left are some parts stops (at_byte front others tail inner counted completes why) =
        at_byte (gap ++ front) others tail (parts ∙ ap (λ (x : List ℕ). gap ++ x) inner ∙ sym (append_assoc gap front others)) counted
        (completes.0, (gap, front ++ tail, are, some, append_assoc gap front tail, completes.1))
        (reason gap rest are some stops front others inner why)
    refusal line gap rest left are some parts stops (in_argument kind front others inner before begin e) =
        in_argument kind (gap ++ front) others (parts ∙ ap (λ (x : List ℕ). gap ++ x) inner ∙ sym (append_assoc gap front others))
        (moves kind gap front are some before) begin e

    lacking : (line : List ℕ) (left : ℕ) → due ≡ true → begins is_blank line ≡ false
        → behind_blanks due read line ≡ Err left
        → Refusal (Done (BehindBlanks due Line)) Before' (Refuses (behind_blanks due read)) line left
    lacking [] left is none e =
        at_byte [] [] (32 ∷ reader.sample.0) refl
        (let other : behind_blanks due read [] ≡ Err 0 = ap (λ d. behind_blanks d read []) is ∙ lacks_gap read [] refl in cc) done
        (more_due refl)
    lacking (c ∷ after) left is none e =
        at_byte [] (c ∷ after) (32 ∷ reader.sample.0) refl
        (let other : behind_blanks due read (c ∷ after) ≡ Err (length (c ∷ after)) = ap (λ d. behind_blanks d read (c ∷ after)) is
        ∙ lacks_gap read (c ∷ after) none in cc) done
        (other_byte c after refl (λ tail. ap (λ d. behind_blanks d read (c ∷ tail)) is ∙ lacks_gap read (c ∷ tail) none))

    refused : (line : List ℕ) (left : ℕ) → behind_blanks due read line ≡ Err left
        → Refusal (Done (BehindBlanks due Line)) Before' (Refuses (behind_blanks due read)) line left
    refused line left e = by (gap_in due line)
      where
        by : Gap due line → Refusal (Done (BehindBlanks due Line)) Before' (Refuses (behind_blanks due read)) line left
        by (lacks is none) = lacking line left is none e
        by (has gap rest are some parts stops) =
            refusal line gap rest left are some parts stops
            (reader.refused rest left (sym (ap (behind_blanks due read) parts ∙ behind_gap due read gap rest are some stops) ∙ e))

-- ---- an argument, and what follows it

abbrev pub BehindArgument : {Y : Type 0} → Kind → (Tree → List ℕ → Y → Type 0) → List ℕ → Y → Type 0
BehindArgument k Line line y =
    (text : List ℕ) × (t : Tree) × IsArgument k text t × (rest : List ℕ) × (line ≡ text ++ rest) × Line t rest y

abbrev pub behind_argument : {Y : Type 0} → Kind → (Tree → List ℕ → Result Y ℕ) → List ℕ → Result Y ℕ
behind_argument k read line = argument_at k line >>= λ x. read x.0 x.1

-- what stands before an argument that begins the line, and before one behind it
pub record MovesArgument (k : Kind) (Before : Kind → List ℕ → Type 0) (Before' : Kind → List ℕ → Type 0) : Type 0 where
  pub here : Before' k []
  pub there : (text : List ℕ) (t : Tree) (kind : Kind) (front : List ℕ) → IsArgument k text t → Before kind front
      → Before' kind (text ++ front)

-- what follows an argument ends its text
abbrev pub Follows : {Y : Type 0} → (Tree → List ℕ → Y → Type 0) → Type 0
Follows {Y} Line = (t : Tree) (text rest : List ℕ) (y : Y) → Line t rest y → Stops t text rest

pub argument_reader : {Y : Type 0} (k : Kind) (read : Tree → List ℕ → Result Y ℕ) (Line : Tree → List ℕ → Y → Type 0)
    (Before Before' : Kind → List ℕ → Type 0)
    → ((t : Tree) → IsReader (read t) (Line t) Before) → Follows Line → MovesArgument k Before Before'
    → (text : List ℕ) (t : Tree) → IsArgument k text t
    → IsReader (behind_argument k read) (BehindArgument k Line) Before'
argument_reader {Y} k read Line Before Before' reader follows moves some_text some_tree some_argument =
    record {
      found = found;
      again = again;
      refused = refused;
      sample = (some_text ++ (reader some_tree).sample.0, whole some_text some_tree some_argument);
    }
  where
    whole : (text : List ℕ) (t : Tree) → IsArgument k text t
        → Done (BehindArgument k Line) (text ++ (reader t).sample.0)
    whole text t is = ((reader t).sample.1.0, (text, t, is, (reader t).sample.0, refl, (reader t).sample.1.1))

    found : (line : List ℕ) (y : Y) → behind_argument k read line ≡ Ok y → BehindArgument k Line line y
    found line y e =
        let step = bind_ok (argument_at k line) (λ x. read x.0 x.1) y e in
        let argument = argument_read k line step.0.0 step.0.1 step.1 in
        (argument.text, step.0.0, argument.is, step.0.1, argument.parts, (reader step.0.0).found step.0.1 y step.2)

    again_at : (text : List ℕ) (t : Tree) (rest : List ℕ) → IsArgument k text t → Stops t text rest
        → behind_argument k read (text ++ rest) ≡ read t rest
    again_at text t rest is stops = ap (λ (r : Result (Tree × List ℕ) ℕ). r >>= λ x. read x.0 x.1) (argument_again k text rest t is stops)

    again : (line : List ℕ) (y : Y) → BehindArgument k Line line y → behind_argument k read line ≡ Ok y
    again line y (text, t, is, rest, parts, h) =
        ap (behind_argument k read) parts ∙ again_at text t rest is (follows t text rest y h) ∙ (reader t).again rest y h

    reason : (text : List ℕ) (t : Tree) (front rest : List ℕ) → IsArgument k text t → Stops t text (front ++ rest)
        → Why (Refuses (read t)) front rest → Why (Refuses (behind_argument k read)) (text ++ front) rest
    reason text t front rest is stops (more_due none) = more_due none
    reason text t front rest is stops (other_byte c after parts refuses) =
        let stops_at : Stops t text (front ++ c ∷ after) = subst (λ (x : List ℕ). Stops t text (front ++ x)) parts stops in
        other_byte c after parts
        (λ tail. ap (behind_argument k read) (append_assoc text front (c ∷ tail))
        ∙ again_at text t (front ++ c ∷ tail) is (stops_first t text front c after tail stops_at) ∙ refuses tail)

    refusal : (line text : List ℕ) (t : Tree) (rest : List ℕ) (left : ℕ) → IsArgument k text t → line ≡ text ++ rest
        → Stops t text rest → Refusal (Done (Line t)) Before (Refuses (read t)) rest left
        → Refusal (Done (BehindArgument k Line)) Before' (Refuses (behind_argument k read)) line left
    refusal line text t rest left is parts stops (at_byte front others tail inner counted completes why) =
        at_byte (text ++ front) others tail (parts ∙ ap (λ (x : List ℕ). text ++ x) inner ∙ sym (append_assoc text front others)) counted
        (completes.0, (text, t, is, front ++ tail, append_assoc text front tail, completes.1))
        (reason text t front others is (subst (λ (x : List ℕ). Stops t text x) inner stops) why)
    refusal line text t rest left is parts stops (in_argument kind front others inner before begin e) =
        in_argument kind (text ++ front) others (parts ∙ ap (λ (x : List ℕ). text ++ x) inner ∙ sym (append_assoc text front others))
        (moves.there text t kind front is before) begin e

    lacking : (line : List ℕ) (left : ℕ) → begins (may_begin k) line ≡ false → behind_argument k read line ≡ Err left
        → Refusal (Done (BehindArgument k Line)) Before' (Refuses (behind_argument k read)) line left
    lacking [] left none e =
        at_byte [] [] (some_text ++ (reader some_tree).sample.0) refl
        (let other : behind_argument k read [] ≡ Err 0 = ap (λ r. r >>= λ x. read x.0 x.1) (argument_lacks k [] none) in cc)
        (whole some_text some_tree some_argument) (more_due refl)
    lacking (c ∷ after) left none e =
        at_byte [] (c ∷ after) (some_text ++ (reader some_tree).sample.0) refl
        (let other : behind_argument k read (c ∷ after) ≡ Err (length (c ∷ after)) = ap (λ r. r >>= λ x. read x.0 x.1)
        (argument_lacks k (c ∷ after) none) in cc)
        (whole some_text some_tree some_argument)
        (other_byte c after refl (λ tail. ap (λ r. r >>= λ x. read x.0 x.1) (argument_lacks k (c ∷ tail) none)))

    refused : (line : List ℕ) (left : ℕ) → behind_argument k read line ≡ Err left
        → Refusal (Done (BehindArgument k Line)) Before' (Refuses (behind_argument k read)) line left
    refused line left e = begun (begins (may_begin k) line) refl
      where
        by : begins (may_begin k) line ≡ true → BindErr (argument_at k line) (λ x. read x.0 x.1) left
            → Refusal (Done (BehindArgument k Line)) Before' (Refuses (behind_argument k read)) line left
        by begin (at_first e) = in_argument k [] line refl moves.here begin e
        by begin (at_second x e f) =
            let argument = argument_read k line x.0 x.1 e in
            refusal line argument.text x.0 x.1 left argument.is argument.parts argument.stops ((reader x.0).refused x.1 left f)

        begun : (t : Bool) → begins (may_begin k) line ≡ t
            → Refusal (Done (BehindArgument k Line)) Before' (Refuses (behind_argument k read)) line left
        begun true begin = by begin (bind_err (argument_at k line) (λ x. read x.0 x.1) left e)
        begun false none = lacking line left none e
