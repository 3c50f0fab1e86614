-- What the bytes from a place on read as, with each fault at its place.
use Rattle.std.specs.Prelude.{◌≡◌, ℕ, ◌-◌, ◌≤◌, List, length, drop, slice_range, Result, Ok, Err}
use Rattle.term_core.specs.Tree.{Tree, depth}
use Rattle.term_core.specs.View.{tree_of}
use Rattle.term_core.specs.declared.term.Term.{Term}
use Rattle.term_text.specs.Grammar.{IsText, Stops}
use Rattle.term_text.specs.Reading.{term_at}
use Rattle.term_text.specs.declared.fault.Fault.{Fault}
use Rattle.term_text.specs.declared.fault.Fault.TheVariants as fault
use Rattle.term_text.specs.declared.error.TextErr.{TextErr}
use Rattle.term_text.specs.declared.error.TextErr.TheVariants.{Bad, WideInt, TooDeep, Memory}

-- Between these two places stands a text of the tree, which has at most so many levels. What follows is no part of it.
pub record Stands (levels : ℕ) (text : List ℕ) (at behind : ℕ) (t : Tree) : Type 0 where
  pub order : at ≤ behind
  pub within : behind ≤ length text
  pub is : IsText t (slice_range text at behind)
  pub deep : depth t ≤ levels
  pub whole : Stops t (slice_range text at behind) (drop behind text)

-- how many bytes are left where a fault is
abbrev pub left_of : Fault → ℕ
left_of (fault.Bad left) = left
left_of (fault.WideInt left) = left
left_of (fault.TooDeep left) = left

-- the refusal at so many bytes before the end
abbrev pub placed : ℕ → Fault → TextErr
placed end (fault.Bad left) = Bad (end - left)
placed end (fault.WideInt left) = WideInt (end - left)
placed end (fault.TooDeep left) = TooDeep (end - left)

abbrev pub with_places : ℕ → Result (Tree × List ℕ) Fault → Result (Tree × ℕ) TextErr
with_places end (Ok x) = Ok (x.0, end - length x.1)
with_places end (Err f) = Err (placed end f)

-- the tree of at most so many levels at this place and the place behind it, or the first refusal
abbrev pub read : ℕ → List ℕ → ℕ → Result (Tree × ℕ) TextErr
read levels text at = with_places (length text) (term_at levels (drop at text))

-- What a function returned is what reading gives, unless memory ran out.
abbrev pub Refuses : TextErr → Result (Tree × ℕ) TextErr → Type 0
Refuses Memory read = Unit {0}
Refuses e read = read ≡ Err e

abbrev pub Answers : Result (Term × ℕ) TextErr → Result (Tree × ℕ) TextErr → Type 0
Answers (Ok x) read = read ≡ Ok (tree_of x.0, x.1)
Answers (Err e) read = Refuses e read
