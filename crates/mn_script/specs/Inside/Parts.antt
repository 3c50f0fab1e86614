-- What the readers of a line's parts answer, and where they take memory.
use Rattle.std.specs.Prelude.{◌≡◌, ℕ, true, List, [], ◌∷◌, Result, Ok, Err, Some}
use Rattle.std.specs.List.{slice_get}
use Rattle.term_text.specs.Grammar.{begins, is_blank}
use Rattle.term_text.specs.Reading.{unblanked}
use Rattle.mn_script.specs.declared.forms.Kind.{Kind}
use Rattle.mn_script.specs.declared.reading.PartErr.{PartErr}
use Rattle.mn_script.specs.declared.reading.PartErr.TheVariants as part
use Rattle.mn_script.specs.Forms.{Shape, may_begin}
use Rattle.mn_script.specs.Reading.{text_at}

-- What a part is read as is what reading on lists gives, unless memory is wanting.
abbrev pub Refuses : {Y : Type 0} → PartErr → Result Y ℕ → Type 0
Refuses (part.Bad left) read = read ≡ Err left
Refuses part.Memory read = Unit {0}

abbrev pub Gives : {X Y : Type 0} → (X → Y) → Result X PartErr → Result Y ℕ → Type 0
Gives view (Ok x) read = read ≡ Ok (view x)
Gives view (Err e) read = Refuses e read

-- a blank is in front, and what stands behind the blanks begins as an argument of this kind may
abbrev pub BeginsNext : Kind → List ℕ → Type 0
BeginsNext kind line = (begins is_blank line ≡ true) × (begins (may_begin kind) (unblanked line) ≡ true)

-- an argument is due, and may begin behind the blanks in front
abbrev pub BeginsFirst : List Kind → List ℕ → Type 0
BeginsFirst [] line = ⊥
BeginsFirst (kind ∷ kinds) line = BeginsNext kind line

-- the same behind a form's word
abbrev pub BeginsFormed : Shape → List ℕ → Type 0
BeginsFormed form line = (rest : List ℕ) × (text_at form.word line ≡ Ok rest) × BeginsFirst form.kinds rest

-- the same behind the blanks in front
abbrev pub BeginsForm : Shape → List ℕ → Type 0
BeginsForm form line = BeginsFormed form (unblanked line)

-- the same behind the word of one of these forms
abbrev pub BeginsSome : List Shape → List ℕ → Type 0
BeginsSome forms line = (n : ℕ) × (form : Shape) × (slice_get forms n ≡ Some form) × BeginsForm form line
