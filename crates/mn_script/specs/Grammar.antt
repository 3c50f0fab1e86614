-- Which lines a table of forms has, and where the others are refused.
use Rattle.std.specs.Prelude.{◌≡◌, ◌≢◌, ℕ, ◌+◌, ◌<◌, ◌≤◌, ◌⊎◌, ◌==◌, Bool, true, false, List, [], ◌∷◌, ◌++◌, length, take, Some, Result, Ok, Err}
use Rattle.std.specs.Bool.{MatchBool}
use Rattle.std.specs.List.{slice_get, list_any, before_first}
use Rattle.std.specs.Str.{bytes_eq}
use Rattle.term_core.specs.Tree.{Tree, depth}
use Rattle.term_text.specs.Grammar.{begins, is_blank, AreBlanks, IsText, Stops}
use Rattle.term_text.specs.Places.{read}
use Rattle.term_text.specs.Reading.{unblanked}
use Rattle.term_text.specs.declared.error.TextErr.{TextErr}
use Rattle.term_text.specs.declared.error.TextErr.TheVariants.{Bad, WideInt, TooDeep, Memory}
use Rattle.mn_script.specs.declared.forms.Kind.{Kind}
use Rattle.mn_script.specs.Forms.{Shape, fits, may_begin}

-- ---- lines

-- the text of a term of at most 100 levels, of this kind
abbrev pub IsArgument : Kind → List ℕ → Tree → Type 0
IsArgument k text t = IsText t text × (depth t ≤ 100) × (fits k t ≡ true)

-- arguments of these kinds, each behind blanks, and blanks at the end
abbrev pub AreArguments : List Kind → List Tree → List ℕ → Type 0
AreArguments [] [] text = AreBlanks text
AreArguments (k ∷ ks) (t ∷ ts) text =
    (gap argument rest : List ℕ) × AreBlanks gap × (gap ≢ []) × IsArgument k argument t × AreArguments ks ts rest
    × (text ≡ gap ++ (argument ++ rest))
AreArguments ks ts text = ⊥

-- a line of this form with these arguments
abbrev pub IsLine : Shape → List Tree → List ℕ → Type 0
IsLine form ts line =
    (gap rest : List ℕ) × AreBlanks gap × AreArguments form.kinds ts rest × (line ≡ gap ++ (form.word ++ rest))

-- a line of the n-th form with these arguments
abbrev pub IsOfForm : List Shape → ℕ → List Tree → List ℕ → Type 0
IsOfForm forms n ts line = (form : Shape) × (slice_get forms n ≡ Some form) × IsLine form ts line

-- blanks alone, or `%` behind them
abbrev pub IsNone : List ℕ → Type 0
IsNone line =
    (gap rest : List ℕ) × AreBlanks gap × (line ≡ gap ++ rest) × ((rest ≡ []) ⊎ (begins (λ b. b == 37) rest ≡ true))

-- ---- arguments that are due

-- what stands before an argument of this kind
abbrev pub IsBefore : List Kind → Kind → List ℕ → Type 0
IsBefore [] kind front = ⊥
IsBefore (k ∷ ks) kind front =
    (AreBlanks front × (front ≢ []) × (k ≡ kind))
    ⊎ ((gap argument rest : List ℕ) × (t : Tree) × AreBlanks gap × (gap ≢ []) × IsArgument k argument t
    × IsBefore ks kind rest × (front ≡ gap ++ (argument ++ rest)))

-- what stands before an argument of this kind in a form's line
abbrev pub IsBeforeArgument : List Shape → Kind → List ℕ → Type 0
IsBeforeArgument forms kind front =
    (n : ℕ) × (form : Shape) × (slice_get forms n ≡ Some form) × (gap inner : List ℕ) × AreBlanks gap
    × IsBefore form.kinds kind inner × (front ≡ gap ++ (form.word ++ inner))

-- an argument is due in the line, and what stands there begins as one may
pub record HasArgument (forms : List Shape) (line : List ℕ) : Type 0 where
  pub kind : Kind
  pub front : List ℕ
  pub rest : List ℕ
  pub before : IsBeforeArgument forms kind front
  pub parts : line ≡ front ++ rest
  pub begin : begins (may_begin kind) rest ≡ true

-- ---- places

-- a term is refused at this place
abbrev pub IsRefusedAt : Result (Tree × ℕ) TextErr → ℕ → Type 0
IsRefusedAt (Ok x) at = ⊥
IsRefusedAt (Err (Bad place)) at = place ≡ at
IsRefusedAt (Err (WideInt place)) at = place ≡ at
IsRefusedAt (Err (TooDeep place)) at = place ≡ at
IsRefusedAt (Err Memory) at = ⊥

-- a whole term that is not of this kind stands in front
abbrev pub IsUnfit : Kind → List ℕ → Type 0
IsUnfit kind rest =
    (t : Tree) × (text more : List ℕ) × IsText t text × (depth t ≤ 100) × Stops t text more × (fits kind t ≡ false)
    × (rest ≡ text ++ more)

-- it is no term, and is refused where its reading is, or a term of another kind, and is refused where it begins
pub record IsWrongArgument (forms : List Shape) (line : List ℕ) (at : ℕ) : Type 0 where
  pub due : HasArgument forms line
  pub refused :
      IsRefusedAt (read 100 line (length due.front)) at ⊎ (IsUnfit due.kind due.rest × (at ≡ length due.front))

-- how a form's line may begin
abbrev pub IsFront : List Shape → List ℕ → Type 0
IsFront forms front = (rest : List ℕ) × (n : ℕ) × (ts : List Tree) × IsOfForm forms n ts (front ++ rest)

-- up to this place the line may become a form's, and with the byte there it may not, or it ends there
pub record IsWrongByte (forms : List Shape) (line : List ℕ) (at : ℕ) : Type 0 where
  pub within : at ≤ length line
  pub front : IsFront forms (take at line)
  pub refused : (at ≡ length line) ⊎ ((at < length line) × (IsFront forms (take (at + 1) line) → ⊥))

-- the place of a line that is no form's: that of an argument that is wrong, and else of the first wrong byte
abbrev pub IsPlace : List Shape → List ℕ → ℕ → Type 0
IsPlace forms line at =
    ((other : ℕ) → IsWrongArgument forms line other → other ≡ at)
    × (IsWrongArgument forms line at ⊎ IsWrongByte forms line at)

-- ---- what is said

-- the bytes from the first that is no blank up to the next blank
abbrev pub first_word : List ℕ → List ℕ
first_word line = before_first is_blank (unblanked line)

-- whether the line's first word is one of these
unfoldable pub is_later : List (List ℕ) → List ℕ → Bool
is_later later line = list_any (λ word. bytes_eq word (first_word line)) later

-- that it says nothing, is a line of the form of this number with these arguments, or is refused at this place
pub data Said : Type 0 where
  nothing : Said
  of_form : (n : ℕ) (arguments : List Tree) → Said
  bad : (at : ℕ) → Said

-- What is said of a line. A line that is no form's is refused at once where its first word is one of those to come.
abbrev pub IsMeant : List Shape → List (List ℕ) → List ℕ → Said → Type 0
IsMeant forms later line nothing = IsNone line
IsMeant forms later line (of_form n ts) = IsOfForm forms n ts line
IsMeant forms later line (bad at) =
    (IsNone line → ⊥) × ((n : ℕ) (ts : List Tree) → IsOfForm forms n ts line → ⊥)
    × MatchBool (is_later later line) (at ≡ 0) (IsPlace forms line at)
