-- Reading a line from the left.
use Rattle.std.specs.Prelude.{◌≡◌, ℕ, ◌-◌, ◌+◌, ◌&&◌, ◌||◌, ◌==◌, not, if◌then◌else◌, min, Bool, true, false, List, [], ◌∷◌, ◌++◌, length, drop, map, Option, Some, None, Result, Ok, Err}
use Rattle.term_core.specs.Tree.{Tree}
use Rattle.term_text.specs.Grammar.{begins, is_blank}
use Rattle.term_text.specs.Places.{read}
use Rattle.term_text.specs.Reading.{unblanked}
use Rattle.term_text.specs.declared.error.TextErr.{TextErr}
use Rattle.term_text.specs.declared.error.TextErr.TheVariants.{Bad, WideInt, TooDeep, Memory}
use Rattle.mn_script.specs.declared.forms.Kind.{Kind}
use Rattle.mn_script.specs.declared.reading.LineErr.{LineErr}
use Rattle.mn_script.specs.declared.reading.LineErr.TheVariants as line_err
use Rattle.term_core.specs.View.{tree_of}
use Rattle.term_core.specs.declared.term.Term.{Term}
use Rattle.mn_script.specs.Forms.{Shape, fits, may_begin}
use Rattle.mn_script.specs.Grammar.{Said, nothing, of_form, bad, is_later}

infixl 10 ◌>>=◌
abbrev pub ◌>>=◌ : {A B : Type 0} → Result A ℕ → (A → Result B ℕ) → Result B ℕ
(Ok x) >>= f = f x
(Err left) >>= f = Err left

-- Each reader answers what it read, or how many bytes there are from the first that it refuses.

-- this text, and the bytes behind it
unfoldable pub text_at : List ℕ → List ℕ → Result (List ℕ) ℕ
text_at [] line = Ok line
text_at (b ∷ text) [] = Err 0
text_at (b ∷ text) (c ∷ line) = if b == c then text_at text line else Err (length (c ∷ line))

-- x where no byte is left
abbrev pub at_end : {A : Type 0} → A → List ℕ → Result A ℕ
at_end x rest = if length rest == 0 then Ok x else Err (length rest)

-- what is behind the blanks, of which one may be due
unfoldable pub behind_blanks : {A : Type 0} → Bool → (List ℕ → Result A ℕ) → List ℕ → Result A ℕ
behind_blanks due read line = if due && not (begins is_blank line) then Err (length line) else read (unblanked line)

-- how many bytes there are from the place on at which a term is refused
abbrev pub left_at : ℕ → TextErr → ℕ
left_at end (Bad at) = end - at
left_at end (WideInt at) = end - at
left_at end (TooDeep at) = end - at
left_at end Memory = end

abbrev pub behind_term : List ℕ → Result (Tree × ℕ) TextErr → Result (Tree × List ℕ) ℕ
behind_term line (Ok x) = Ok (x.0, drop x.1 line)
behind_term line (Err e) = Err (left_at (length line) e)

-- any term
unfoldable pub field_at : List ℕ → Result (Tree × List ℕ) ℕ
field_at line = behind_term line (read 100 line 0)

-- what was read, where it is of this kind
abbrev pub fitting : Kind → ℕ → Tree × List ℕ → Result (Tree × List ℕ) ℕ
fitting k left x = if fits k x.0 then Ok x else Err left

-- an argument of this kind
unfoldable pub argument_at : Kind → List ℕ → Result (Tree × List ℕ) ℕ
argument_at k line =
    if begins (may_begin k) line then (field_at line >>= fitting k (length line)) else Err (length line)

-- arguments of these kinds to the line's end, behind those that were read before
unfoldable pub arguments_at : List Kind → List Tree → List ℕ → Result (List Tree) ℕ
arguments_at [] before = behind_blanks false (at_end before)
arguments_at (k ∷ ks) before =
    behind_blanks true (λ line. argument_at k line >>= λ x. arguments_at ks (before ++ x.0 ∷ []) x.1)

-- the arguments of a line of this form, without the blanks in front
abbrev pub formed_at : Shape → List ℕ → Result (List Tree) ℕ
formed_at form line = text_at form.word line >>= arguments_at form.kinds []

-- the arguments of a line of this form
unfoldable pub form_at : Shape → List ℕ → Result (List Tree) ℕ
form_at form = behind_blanks false (formed_at form)

-- what a form reads, or what the others do, with the place of the one that got furthest
abbrev pub further : ℕ → ℕ → (ℕ → Result (ℕ × List Tree) ℕ) → Result (List Tree) ℕ → Result (ℕ × List Tree) ℕ
further n left others (Ok ts) = Ok (n, ts)
further n left others (Err other) = others (min left other)

-- The first form that reads the line, where n forms before these left so many bytes.
unfoldable pub line_from : ℕ → ℕ → List Shape → List ℕ → Result (ℕ × List Tree) ℕ
line_from n left [] line = Err left
line_from n left (form ∷ forms) line = further n left (λ least. line_from (n + 1) least forms line) (form_at form line)

abbrev pub line_at : List Shape → List ℕ → Result (ℕ × List Tree) ℕ
line_at forms line = line_from 0 (length line) forms line

-- a line of blanks alone, or whose first byte after blanks is %
unfoldable pub is_none : List ℕ → Bool
is_none line = (length (unblanked line) == 0) || begins (λ b. b == 37) (unblanked line)

-- what is said of a line that was read so
abbrev pub placed : List (List ℕ) → List ℕ → Result (ℕ × List Tree) ℕ → Said
placed later line (Ok x) = of_form x.0 x.1
placed later line (Err left) = if is_later later line then bad 0 else bad (length line - left)

-- what is said of a line
unfoldable pub said : List Shape → List (List ℕ) → List ℕ → Said
said forms later line = if is_none line then nothing else placed later line (line_at forms line)

abbrev pub SaysErr : LineErr → Said → Type 0
SaysErr (line_err.Badarg at) what = what ≡ bad at
SaysErr line_err.Memory what = Unit {0}

-- What is answered of a line is what is said of it, unless memory is wanting.
abbrev pub Says : Result (Option (ℕ × List Term)) LineErr → Said → Type 0
Says (Ok None) what = what ≡ nothing
Says (Ok (Some x)) what = what ≡ of_form x.0 (map tree_of x.1)
Says (Err e) what = SaysErr e what
