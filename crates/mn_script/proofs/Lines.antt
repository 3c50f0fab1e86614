-- The reader of one form's lines.
use Rattle.std.proofs.Common.{◌≡◌, ◌≢◌, ℕ, Bool, true, false, not, eqb, ◌⊎◌, arith, List, [], ◌∷◌, ◌++◌, refl, sym, ap, subst, ◌∙◌, append_assoc, append-nil, inl, inr}
use Rattle.std.specs.List.{list_all}
use Rattle.std.proofs.lemmas.Bool.{and_parts}
use Rattle.std.proofs.lemmas.Bool.Decides.{nat_tests}
use Rattle.term_core.specs.Tree.{Tree}
use Rattle.term_text.specs.Grammar.{begins, is_blank, is_name_byte, AreBlanks}
use Rattle.term_text.proofs.Texts.{text_begins, stops}
use Rattle.term_text.specs.Reading.{may_begin_term}
use Rattle.mn_script.specs.declared.forms.Kind.{Kind}
use Rattle.mn_script.specs.Forms.{Shape, is_due, is_word}
use Rattle.mn_script.specs.Grammar.{IsArgument, AreArguments, IsLine, IsBefore}
use Rattle.mn_script.specs.Reading.{at_end, arguments_at, form_at}
use Rattle.mn_script.proofs.Argument.{some_argument}
use Rattle.mn_script.proofs.Readers.{IsReader, AtEnd, NoArgument, end_reader, Behind, behind, text_reader, BehindBlanks, MovesBlanks, Starts, blanks_reader, BehindArgument, behind_argument, MovesArgument, Follows, argument_reader}

-- ---- how texts begin

no_blank : (b : ℕ) → may_begin_term b ≡ true → is_blank b ≡ false
no_blank b h = grind (arith, nat_tests)

pub no_blank_first : (text rest : List ℕ) → begins may_begin_term text ≡ true → begins is_blank (text ++ rest) ≡ false
no_blank_first [] rest h = absurd cc
no_blank_first (b ∷ text) rest h = no_blank b h

blank_is_no_name : (b : ℕ) → is_blank b ≡ true → is_name_byte b ≡ false
blank_is_no_name b h = grind (arith, nat_tests)

-- blanks, or the end, end the text before them
blank_delimits : (gap : List ℕ) → AreBlanks gap → begins is_name_byte gap ≡ false
blank_delimits [] are = refl
blank_delimits (b ∷ gap) are = blank_is_no_name b (and_parts (is_blank b) (list_all is_blank gap) are).0

gap_delimits : (gap rest : List ℕ) → AreBlanks gap → gap ≢ [] → begins is_name_byte (gap ++ rest) ≡ false
gap_delimits [] rest are some = absurd (some refl)
gap_delimits (b ∷ gap) rest are some = blank_is_no_name b (and_parts (is_blank b) (list_all is_blank gap) are).0

-- ---- arguments

-- the rest of a line, where these arguments were read before
abbrev pub Rest : List Kind → List Tree → List ℕ → List Tree → Type 0
Rest [] before = BehindBlanks false (AtEnd before)
Rest (k ∷ ks) before = BehindBlanks true (BehindArgument k (λ t. Rest ks (before ++ t ∷ [])))

rest_delimits : (ks : List Kind) (before : List Tree) (line : List ℕ) (y : List Tree) → Rest ks before line y
    → begins is_name_byte line ≡ false
rest_delimits [] before line y (gap, rest, are, some, parts, h) =
    ap (begins is_name_byte) (parts ∙ ap (λ (x : List ℕ). gap ++ x) h.0 ∙ append-nil gap) ∙ blank_delimits gap are
rest_delimits (k ∷ ks) before line y (gap, rest, are, some, parts, h) =
    ap (begins is_name_byte) parts ∙ gap_delimits gap rest are (some refl)

follows : (ks : List Kind) (before : List Tree) → Follows (λ t. Rest ks (before ++ t ∷ []))
follows ks before t text rest y h = stops t text rest (rest_delimits ks (before ++ t ∷ []) rest y h)

argument_starts : (k : Kind) (ks : List Kind) (before : List Tree)
    → Starts (BehindArgument k (λ t. Rest ks (before ++ t ∷ [])))
argument_starts k ks before line y (text, t, is, rest, parts, h) =
    ap (begins is_blank) parts ∙ no_blank_first text rest (text_begins t text is.0)

end_starts : (before : List Tree) → Starts (AtEnd before)
end_starts before line y h = ap (begins is_blank) h.0

-- what stands before an argument, behind the first blanks
abbrev Within : Kind → List Kind → Kind → List ℕ → Type 0
Within k ks kind front =
    ((front ≡ []) × (k ≡ kind))
    ⊎ ((argument rest : List ℕ) × (t : Tree) × IsArgument k argument t × IsBefore ks kind rest
    × (front ≡ argument ++ rest))

abbrev Before : List Kind → Kind → List ℕ → Type 0
Before ks kind front = IsBefore ks kind front

moves_blanks : (k : Kind) (ks : List Kind) → MovesBlanks true (Within k ks) (Before (k ∷ ks))
moves_blanks k ks kind gap front are some (inl h) =
    let all : gap ++ front ≡ gap = ap (λ (x : List ℕ). gap ++ x) h.0 ∙ append-nil gap in
    inl (subst AreBlanks (sym all) are, λ none. some refl (sym all ∙ none), h.1)
moves_blanks k ks kind gap front are some (inr (argument, rest, t, is, before, parts)) =
    inr (gap, argument, rest, t, are, some refl, is, before, ap (λ (x : List ℕ). gap ++ x) parts)

moves_argument : (k : Kind) (ks : List Kind) → MovesArgument k (Before ks) (Within k ks)
moves_argument k ks = record { here = inl (refl, refl); there = λ text t kind front is before. inr (text, front, t, is, before, refl) }

pub arguments_reader : (ks : List Kind) (before : List Tree) → list_all is_due ks ≡ true
    → IsReader (arguments_at ks before) (Rest ks before) (Before ks)
unfolding arguments_at
arguments_reader [] before due =
    blanks_reader false (at_end before) (AtEnd before) NoArgument (Before []) (λ kind gap front are some none. absurd none)
    (end_starts before) (end_reader before)
arguments_reader (k ∷ ks) before due =
    let parts = and_parts (is_due k) (list_all is_due ks) due in
    let some = some_argument k parts.0 in
    blanks_reader true (behind_argument k (λ t. arguments_at ks (before ++ t ∷ []))) (BehindArgument k (λ t. Rest ks (before ++ t ∷ [])))
    (Within k ks) (Before (k ∷ ks)) (moves_blanks k ks) (argument_starts k ks before)
    (argument_reader k (λ t. arguments_at ks (before ++ t ∷ [])) (λ t. Rest ks (before ++ t ∷ [])) (Before ks) (Within k ks)
    (λ t. arguments_reader ks (before ++ t ∷ []) parts.1) (follows ks before) (moves_argument k ks) some.0 some.1 some.2)

-- ---- a form's line

abbrev pub FormLine : Shape → List ℕ → List Tree → Type 0
FormLine form = BehindBlanks false (Behind form.word (Rest form.kinds []))

abbrev WordBefore : Shape → Kind → List ℕ → Type 0
WordBefore form kind front = (inner : List ℕ) × IsBefore form.kinds kind inner × (front ≡ form.word ++ inner)

abbrev pub LineBefore : Shape → Kind → List ℕ → Type 0
LineBefore form kind front =
    (gap inner : List ℕ) × AreBlanks gap × IsBefore form.kinds kind inner × (front ≡ gap ++ (form.word ++ inner))

not_true : (b : Bool) → not b ≡ true → b ≡ false
not_true true h = absurd cc
not_true false h = refl

pub word_first : (word rest : List ℕ) → is_word word ≡ true → begins is_blank (word ++ rest) ≡ false
word_first [] rest is = absurd cc
word_first (b ∷ word) rest is =
    let free = and_parts (not (eqb b 37)) (list_all (λ c. not (is_blank c)) (b ∷ word)) is in
    not_true (is_blank b) (and_parts (not (is_blank b)) (list_all (λ c. not (is_blank c)) word) free.1).0

pub form_reader : (form : Shape) → is_word form.word ≡ true → list_all is_due form.kinds ≡ true
    → IsReader (form_at form) (FormLine form) (LineBefore form)
unfolding form_at
form_reader form is due =
    blanks_reader false (behind form.word (arguments_at form.kinds [])) (Behind form.word (Rest form.kinds [])) (WordBefore form)
    (LineBefore form)
    (λ kind gap front are some before. (gap, before.0, are, before.1, ap (λ (x : List ℕ). gap ++ x) before.2))
    (λ line y h. ap (begins is_blank) h.1 ∙ word_first form.word h.0 is)
    (text_reader form.word (arguments_at form.kinds []) (Rest form.kinds []) (Before form.kinds) (WordBefore form)
    (λ kind front before. (front, before, refl)) (arguments_reader form.kinds [] due))

-- ---- as the grammar says it

rest_is : (ks : List Kind) (before : List Tree) (line : List ℕ) (y : List Tree) → Rest ks before line y
    → (ts : List Tree) × AreArguments ks ts line × (y ≡ before ++ ts)
rest_is [] before line y (gap, rest, are, some, parts, (none, same)) =
    let all : line ≡ gap = parts ∙ ap (λ (x : List ℕ). gap ++ x) none ∙ append-nil gap in
    ([], subst AreBlanks (sym all) are, sym same ∙ sym (append-nil before))
rest_is (k ∷ ks) before line y (gap, inner, are, some, parts, (text, t, is, rest, inner_parts, h)) =
    let others = rest_is ks (before ++ t ∷ []) rest y h in (
      t ∷ others.0,
      (gap, text, rest, are, some refl, is, others.1, parts ∙ ap (λ (x : List ℕ). gap ++ x) inner_parts),
      others.2
          ∙ append_assoc before (t ∷ []) others.0,
    )

is_rest : (ks : List Kind) (before ts : List Tree) (line : List ℕ) → AreArguments ks ts line
    → Rest ks before line (before ++ ts)
is_rest [] before [] line are = (line, [], are, λ never. absurd cc, sym (append-nil line), (refl, sym (append-nil before)))
is_rest [] before (t ∷ ts) line are = absurd are
is_rest (k ∷ ks) before [] line are = absurd are
is_rest (k ∷ ks) before (t ∷ ts) line (gap, argument, rest, are, some, is, others, parts) =
    let h : Rest ks (before ++ t ∷ []) rest (before ++ t ∷ ts) = subst (λ (y : List Tree). Rest ks (before ++ t ∷ []) rest y)
    (append_assoc before (t ∷ []) ts) (is_rest ks (before ++ t ∷ []) ts rest others) in
    (gap, argument ++ rest, are, λ due. some, parts, (argument, t, is, rest, refl, h))

pub form_is_line : (form : Shape) (line : List ℕ) (ts : List Tree) → FormLine form line ts → IsLine form ts line
form_is_line form line ts (gap, inner, are, some, parts, (rest, inner_parts, h)) =
    let arguments = rest_is form.kinds [] rest ts h in (
      gap,
      rest,
      are,
      subst (λ (x : List Tree). AreArguments form.kinds x rest) (sym arguments.2) arguments.1,
      parts
          ∙ ap (λ (x : List ℕ). gap ++ x) inner_parts,
    )

pub line_is_form : (form : Shape) (line : List ℕ) (ts : List Tree) → IsLine form ts line → FormLine form line ts
line_is_form form line ts (gap, rest, are, arguments, parts) =
    (gap, form.word ++ rest, are, λ never. absurd cc, parts, (rest, refl, is_rest form.kinds [] ts rest arguments))
