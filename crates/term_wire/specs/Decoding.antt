-- What all of a text reads as, with each fault at its place from the left.
use Rattle.std.specs.Prelude.{◌≡◌, ℕ, ◌-◌, List, length, Result, Ok, Err}
use Rattle.term_core.specs.Tree.{Tree}
use Rattle.term_wire.specs.Reading.{text_at}
use Rattle.term_wire.specs.declared.fault.Fault.{Fault}
use Rattle.term_wire.specs.declared.fault.Fault.TheVariants as fault
use Rattle.term_wire.specs.declared.error.WireErr.{WireErr}
use Rattle.term_wire.specs.declared.error.WireErr.TheVariants.{Bad, Outside, WideInt, TooDeep, Memory}

-- how many bytes are left where a fault is
abbrev pub left_of : Fault → ℕ
left_of (fault.Bad left) = left
left_of (fault.Outside tag left) = left
left_of (fault.WideInt left) = left
left_of (fault.TooDeep left) = left

-- the refusal at so many bytes before the end
abbrev pub placed : ℕ → Fault → WireErr
placed end (fault.Bad left) = Bad (end - left)
placed end (fault.Outside tag left) = Outside tag (end - left)
placed end (fault.WideInt left) = WideInt (end - left)
placed end (fault.TooDeep left) = TooDeep (end - left)

abbrev pub with_place : ℕ → Result Tree Fault → Result Tree WireErr
with_place end (Ok t) = Ok t
with_place end (Err f) = Err (placed end f)

-- the tree, or the first refusal
abbrev pub read : List ℕ → Result Tree WireErr
read bytes = with_place (length bytes) (text_at bytes)

-- What a function returned, seen by view, is what reading gives, unless memory ran out.
abbrev pub Refuses : {Y : Type 0} → WireErr → Result Y WireErr → Type 0
Refuses Memory read = Unit {0}
Refuses e read = read ≡ Err e

abbrev pub Answers : {X Y : Type 0} → (X → Y) → Result X WireErr → Result Y WireErr → Type 0
Answers view (Ok x) read = read ≡ Ok (view x)
Answers view (Err e) read = Refuses e read
