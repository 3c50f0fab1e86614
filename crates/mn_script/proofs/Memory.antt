-- Where memory is taken, an argument is due and may begin.
use Rattle.std.proofs.Common.{◌≡◌, ◌≢◌, ℕ, ◌<◌, Bool, true, false, eqb, cond, not, ◌⊎◌, List, [], ◌∷◌, ◌++◌, length, map, get_or, Some, Ok, Err, refl, sym, ap, subst, ◌∙◌, append_assoc, arith, inl, inr}
use Rattle.std.specs.List.{slice_get}
use Rattle.std.proofs.lemmas.Bool.{eqb-true}
use Rattle.std.proofs.lemmas.Option.{slice_get-map, slice_get-get_or}
use Rattle.std.specs.Option.{option_map}
use Rattle.term_core.specs.Tree.{Tree}
use Rattle.term_text.specs.Grammar.{begins, is_blank}
use Rattle.term_text.specs.Reading.{unblanked}
use Rattle.term_text.proofs.Steps.{Blanks, blanks_in}
use Rattle.mn_script.specs.declared.forms.Form.{Form}
use Rattle.mn_script.specs.declared.forms.Kind.{Kind}
use Rattle.mn_script.specs.Forms.{Shape, shape_of, may_begin}
use Rattle.mn_script.specs.Grammar.{IsBefore, HasArgument}
use Rattle.mn_script.specs.Inside.Parts.{BeginsFirst, BeginsFormed, BeginsNext, BeginsSome}
use Rattle.mn_script.proofs.Tables.{next_err, all_read, left_least}
use Rattle.mn_script.specs.Reading.{◌>>=◌, text_at, behind_blanks, field_at, fitting, argument_at}

-- ---- one argument

argument_begins : (k : Kind) (line : List ℕ) (x : Tree × List ℕ) → argument_at k line ≡ Ok x
    → begins (may_begin k) line ≡ true
unfolding argument_at
argument_begins k line x e = by (begins (may_begin k) line) e
  where
    by : (t : Bool) → cond t (field_at line >>= fitting k (length line)) (Err (length line)) ≡ Ok x → t ≡ true
    by true h = refl
    by false h = absurd cc

-- what was read began so
pub next_begins : (k : Kind) (line : List ℕ) (x : Tree × List ℕ) → behind_blanks true (argument_at k) line ≡ Ok x
    → BeginsNext k line
unfolding behind_blanks
next_begins k line x e = by (begins is_blank line) refl e
  where
    by : (t : Bool) → begins is_blank line ≡ t
        → cond (not t) (Err (length line)) (argument_at k (unblanked line)) ≡ Ok x → BeginsNext k line
    by true blank h = (blank, argument_begins k (unblanked line) x h)
    by false blank h = absurd cc

-- an argument is the first, or one began before it
pub first_begins : (i : ℕ) (kinds : List Kind) (k : Kind) (line rest : List ℕ) → i < length kinds
    → ((i ≡ 0) × (rest ≡ line)) ⊎ BeginsFirst kinds line → BeginsNext (get_or kinds i k) rest
    → BeginsFirst kinds line
first_begins i [] k line rest lt before next = absurd (omega (arith, lt))
first_begins i (kind ∷ kinds) k line rest lt (inr before) next = before
first_begins i (kind ∷ kinds) k line rest lt (inl (first, same)) next =
    let now : BeginsNext (get_or (kind ∷ kinds) 0 k) line =
    subst (λ (n : ℕ). BeginsNext (get_or (kind ∷ kinds) n k) line) first
    (subst (λ (x : List ℕ). BeginsNext (get_or (kind ∷ kinds) i k) x) same next)
    in
    now

-- ---- a form

pub form_begins : (i : ℕ) (forms : List Form) (form : Form) (line rest : List ℕ) → i < length forms
    → rest ≡ unblanked line → BeginsFormed (shape_of (get_or forms i form)) rest → BeginsSome (map shape_of forms) line
form_begins i forms form line rest lt behind begin =
    let here : slice_get (map shape_of forms) i ≡ Some (shape_of (get_or forms i form)) =
    slice_get-map shape_of forms i ∙ ap (option_map shape_of) (slice_get-get_or forms i form lt)
    in
    (i, shape_of (get_or forms i form), here, subst (BeginsFormed (shape_of (get_or forms i form))) behind begin)

-- a text that is found stands in front
text_found : (text line rest : List ℕ) → text_at text line ≡ Ok rest → line ≡ text ++ rest
unfolding text_at
text_found [] line rest e = cc
text_found (b ∷ text) [] rest e = absurd cc
text_found (b ∷ text) (c ∷ line) rest e = by (eqb b c) refl e (text_found text line rest)
  where
    by : (t : Bool) → eqb b c ≡ t → cond t (text_at text line) (Err (length (c ∷ line))) ≡ Ok rest
        → (text_at text line ≡ Ok rest → line ≡ text ++ rest) → c ∷ line ≡ b ∷ (text ++ rest)
    by true same h found = λ i. sym (eqb-true b c same) i ∷ found h i
    by false same h found = absurd cc

some_blank : (line : List ℕ) → begins is_blank line ≡ true → (b : Blanks line) → b.blanks ≢ []
some_blank line begin b none =
    let whole : line ≡ unblanked line = b.parts ∙ ap (λ (x : List ℕ). x ++ unblanked line) none in
    absurd (let wrong : true ≡ false = sym begin ∙ ap (begins is_blank) whole ∙ b.stops in cc)

pub begins_argument : (forms : List Shape) (line : List ℕ) → BeginsSome forms line → HasArgument forms line
begins_argument forms line (n, form, here, (rest, found, next)) = by form.kinds refl next
  where
    gap : Blanks line
    gap = blanks_in line

    inner : Blanks rest
    inner = blanks_in rest

    front : List ℕ
    front = gap.blanks ++ (form.word ++ inner.blanks)

    parts : line ≡ front ++ unblanked rest
    parts =
        gap.parts
        ∙ ap (λ (x : List ℕ). gap.blanks ++ x)
        (text_found form.word (unblanked line) rest found ∙ ap (λ (x : List ℕ). form.word ++ x) inner.parts
        ∙ sym (append_assoc form.word inner.blanks (unblanked rest)))
        ∙ sym (append_assoc gap.blanks (form.word ++ inner.blanks) (unblanked rest))

    by : (kinds : List Kind) → form.kinds ≡ kinds → BeginsFirst kinds rest → HasArgument forms line
    by [] e next = absurd next
    by (kind ∷ kinds) e (blank, begin) =
        let first : IsBefore (kind ∷ kinds) kind inner.blanks = inl (inner.are, some_blank rest blank inner, refl) in
        let before : IsBefore form.kinds kind inner.blanks =
        subst (λ (ks : List Kind). IsBefore ks kind inner.blanks) (sym e) first
        in
        record {
          kind = kind;
          front = front;
          rest = unblanked rest;
          before = (n, form, here, gap.blanks, inner.blanks, gap.are, before, refl);
          parts = parts;
          begin = begin;
        }

-- what the readers of arguments and of a line go by
pub ruleset arguments = (next_err, all_read, first_begins)

pub ruleset lines = (left_least, begins_argument)
