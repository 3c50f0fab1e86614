-- What reading a line gives.
use Rattle.std.specs.Prelude.{◌≡◌, ℕ, ◌+◌, ◌<◌, ◌≤◌, ◌==◌, Bool, true, false, if◌then◌else◌, List, [], ◌∷◌, ◌++◌, length, take, drop, Result, Ok, Err}
use Rattle.mn_run.specs.declared.lines.LineErr.{LineErr}
use Rattle.mn_run.specs.declared.lines.LineErr.TheVariants.{TooLong, Memory}
use Rattle.mn_run.specs.declared.lines.TheConstants.{MOST_LINE}
use Rattle.mn_run.specs.Lines.{lines_of}

-- no line ends within these bytes
abbrev pub has_no_end : List ℕ → Bool
has_no_end [] = true
has_no_end (byte ∷ bytes) = if byte == 10 then false else has_no_end bytes

-- the first line's end is at n
pub record EndsAt (bytes : List ℕ) (n : ℕ) : Type 0 where
  pub within : n < length bytes
  pub front : has_no_end (take n bytes) ≡ true
  pub whole : bytes ≡ take n bytes ++ 10 ∷ drop (n + 1) bytes

-- a part was added, up to the limit
abbrev pub Added : Result Unit LineErr → List ℕ → List ℕ → List ℕ → Type 0
Added (Ok done) old new part = (new ≡ old ++ part) × (length new ≤ MOST_LINE)
Added (Err TooLong) old new part = MOST_LINE < length (old ++ part)
Added (Err Memory) old new part = Unit {0}
Added (Err other) old new part = ⊥

-- a line that was begun goes on by a part of what was read, up to its end or to the end of what was read
pub record Ended (old_line new_line old new : List ℕ) : Type 0 where
  pub part : List ℕ
  pub line : new_line ≡ old_line ++ part
  pub none : has_no_end part ≡ true
  pub rest : old ≡ part ++ 10 ∷ new
  pub short : length new_line ≤ MOST_LINE

pub record Open (old_line new_line old new : List ℕ) : Type 0 where
  pub line : new_line ≡ old_line ++ old
  pub none : has_no_end old ≡ true
  pub rest : new ≡ []
  pub short : length new_line ≤ MOST_LINE

pub record Over (old_line old : List ℕ) : Type 0 where
  pub part : List ℕ
  pub rest : List ℕ
  pub none : has_no_end part ≡ true
  pub whole : old ≡ part ++ rest
  pub long : MOST_LINE < length (old_line ++ part)

abbrev pub Grows : Result Bool LineErr → List ℕ → List ℕ → List ℕ → List ℕ → Type 0
Grows (Ok true) old_line new_line old new = Ended old_line new_line old new
Grows (Ok false) old_line new_line old new = Open old_line new_line old new
Grows (Err TooLong) old_line new_line old new = Over old_line old
Grows (Err Memory) old_line new_line old new = Unit {0}
Grows (Err other) old_line new_line old new = ⊥

-- what is read next, of what the source has left
abbrev pub Refills : Result Bool LineErr → List ℕ → List ℕ → List ℕ → Type 0
Refills (Ok true) new left now = left ≡ new ++ now
Refills (Ok false) new left now = (left ≡ []) × (now ≡ [])
Refills (Err e) new left now = Unit {0}

abbrev pub IsFilled : Result Bool LineErr → List ℕ → Type 0
IsFilled (Ok true) new = 0 < length new
IsFilled (Ok false) new = new ≡ []
IsFilled (Err TooLong) new = ⊥
IsFilled (Err other) new = Unit {0}

-- the first line of what was to come, none at the end, or one over the limit
abbrev pub FirstLine : Result Bool LineErr → List ℕ → List ℕ → List ℕ → Type 0
FirstLine (Ok true) line old new = lines_of old ≡ line ∷ lines_of new
FirstLine (Ok false) line old new = lines_of old ≡ []
FirstLine (Err TooLong) line old new =
    (first : List ℕ) × (later : List (List ℕ)) × (lines_of old ≡ first ∷ later) × (MOST_LINE < length first)
FirstLine (Err other) line old new = Unit {0}
