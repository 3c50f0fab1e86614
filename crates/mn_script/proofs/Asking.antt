-- What lines ask for.
use Rattle.std.proofs.Common.{◌≡◌, ◌≢◌, ℕ, true, List, [], ◌∷◌, map, pos, Option, Some, None, Ok, Err, refl, sym, ap, subst, ◌∙◌}
use Rattle.std.specs.Prelude.{negsuc}
use Rattle.std.specs.List.{slice_get}
use Rattle.std.specs.Option.{option_map, option_and_then}
use Rattle.std.proofs.lemmas.Option.{slice_get-map}
use Rattle.term_core.specs.Tree.{Tree, int, atom, tuple, list, bin}
use Rattle.mn_script.specs.declared.forms.Kind.{Kind}
use Rattle.mn_script.specs.declared.forms.Kind.TheVariants as kind
use Rattle.mn_script.specs.declared.commands.Command as code
use Rattle.mn_script.specs.declared.reading.LineErr.{LineErr}
use Rattle.mn_script.specs.declared.reading.LineErr.TheVariants.{Badarg, Memory}
use Rattle.mn_script.specs.Forms.{Shape, fits, is_table}
use Rattle.mn_script.specs.Grammar.{AreArguments, IsOfForm, Said}
use Rattle.mn_script.specs.Grammar as grammar
use Rattle.mn_script.specs.Reading.{said, SaysErr}
use Rattle.mn_script.specs.Commands.{Command, seen, Makes, Row, rows, form_of, forms, later, made_of, made_by, made, Asked, nothing, asks, refused, IsMeant, asked_for, asked_by, asked, Answers}
use Rattle.mn_script.proofs.Meaning.{said_means, said_only}

-- ---- the arguments of a form's line make a command

abbrev Made : (kinds : List Kind) → Makes kinds → List Tree → Type 0
Made kinds make trees = (command : Command) × (made_of kinds make trees ≡ Some command)

next_made : (k : Kind) (kinds : List Kind) (make : Makes (k ∷ kinds)) (t : Tree) (trees : List Tree) → fits k t ≡ true
    → ((inner : Makes kinds) → Made kinds inner trees) → Made (k ∷ kinds) make (t ∷ trees)
unfolding made_of
next_made kind.Term kinds make t trees fit others = others (make t)
next_made kind.Atom kinds make (atom a) trees fit others = others (make a)
next_made kind.Atom kinds make (int n) trees fit others = absurd cc
next_made kind.Atom kinds make (tuple ts) trees fit others = absurd cc
next_made kind.Atom kinds make (list ts) trees fit others = absurd cc
next_made kind.Atom kinds make (bin b) trees fit others = absurd cc
next_made kind.Name kinds make (atom a) trees fit others = others (make a)
next_made kind.Name kinds make (int n) trees fit others = absurd cc
next_made kind.Name kinds make (tuple ts) trees fit others = absurd cc
next_made kind.Name kinds make (list ts) trees fit others = absurd cc
next_made kind.Name kinds make (bin b) trees fit others = absurd cc
next_made (kind.Number low high) kinds make (int (pos n)) trees fit others = others (make n)
next_made (kind.Number low high) kinds make (int (negsuc n)) trees fit others = absurd cc
next_made (kind.Number low high) kinds make (atom a) trees fit others = absurd cc
next_made (kind.Number low high) kinds make (tuple ts) trees fit others = absurd cc
next_made (kind.Number low high) kinds make (list ts) trees fit others = absurd cc
next_made (kind.Number low high) kinds make (bin b) trees fit others = absurd cc

all_made : (kinds : List Kind) (make : Makes kinds) (trees : List Tree) (text : List ℕ) → AreArguments kinds trees text
    → Made kinds make trees
unfolding made_of
all_made [] command [] text are = (command, refl)
all_made [] command (t ∷ trees) text are = absurd are
all_made (k ∷ kinds) make [] text are = absurd are
all_made (k ∷ kinds) make (t ∷ trees) text (gap, argument, rest, blanks, some, is, others, parts) =
    next_made k kinds make t trees is.2 (λ inner. all_made kinds inner trees rest others)

row_made : (table : List Row) (n : ℕ) (trees : List Tree) (line : List ℕ) → IsOfForm (map form_of table) n trees line
    → (command : Command) × (option_and_then (made_by trees) (slice_get table n) ≡ Some command)
row_made table n trees line (form, here, (gap, rest, are, arguments, parts)) =
    by (slice_get table n) refl (sym (slice_get-map form_of table n) ∙ here)
  where
    by : (found : Option Row) → slice_get table n ≡ found → option_map form_of found ≡ Some form
        → (command : Command) × (option_and_then (made_by trees) (slice_get table n) ≡ Some command)
    by None e h = absurd cc
    by (Some row) e h =
        let same : form_of row ≡ form = cc in
        let here = subst (λ (f : Shape). AreArguments f.kinds trees rest) (sym same) arguments in
        let command = all_made row.kinds row.make trees rest here in
        (command.0, ap (option_and_then (made_by trees)) e ∙ command.1)

form_made : (n : ℕ) (trees : List Tree) (line : List ℕ) → IsOfForm forms n trees line
    → (command : Command) × (made n trees ≡ Some command)
form_made n trees line is = row_made rows n trees line is

-- ---- the laws

are_table : is_table forms ≡ true
are_table = refl

are_some : forms ≢ []
are_some none = absurd cc

pub asked_means : (line : List ℕ) → IsMeant line (asked line)
unfolding asked
asked_means line = by (said forms later line) (said_means forms later are_table are_some line)
  where
    by : (what : Said) → grammar.IsMeant forms later line what → IsMeant line (asked_by what)
    by grammar.nothing h = h
    by (grammar.of_form n trees) h =
        let command = form_made n trees line h in
        subst (λ (found : Option Command). IsMeant line (asked_for found)) (sym command.1) (n, trees, h, command.1)
    by (grammar.bad at) (no_none, no_form, place) = (no_none, λ command is. no_form is.0 is.1 is.2, place)

said_is : (line : List ℕ) (what : Said) → grammar.IsMeant forms later line what → asked line ≡ asked_by what
unfolding asked
said_is line what h = ap asked_by (said_only forms later are_table are_some line what h)

pub asked_only : (line : List ℕ) (what : Asked) → IsMeant line what → asked line ≡ what
asked_only line nothing h = said_is line grammar.nothing h
asked_only line (asks command) (n, trees, is, made_is) = said_is line (grammar.of_form n trees) is ∙ ap asked_for made_is
asked_only line (refused at) (no_none, no_command, place) = said_is line (grammar.bad at) (no_none, no_form, place)
  where
    no_form : (n : ℕ) (trees : List Tree) → IsOfForm forms n trees line → ⊥
    no_form n trees is = let command = form_made n trees line is in no_command command.0 (n, trees, is, command.1)

-- ---- what is answered

asked_is : (fs : List Shape) (words : List (List ℕ)) (line : List ℕ) (what : Said) → fs ≡ forms → words ≡ later
    → said fs words line ≡ what → asked line ≡ asked_by what
unfolding asked
asked_is fs words line what same_forms same_words e = ap asked_by ((λ i. said (sym same_forms i) (sym same_words i) line) ∙ e)

pub nothing_answered : (fs : List Shape) (words : List (List ℕ)) (line : List ℕ) → fs ≡ forms → words ≡ later
    → said fs words line ≡ grammar.nothing → Answers (Ok None) (asked line)
nothing_answered fs words line same_forms same_words e = asked_is fs words line grammar.nothing same_forms same_words e

pub command_answered : (fs : List Shape) (words : List (List ℕ)) (line : List ℕ) (n : ℕ) (trees : List Tree)
    (found : Option code.Command) → fs ≡ forms → words ≡ later → said fs words line ≡ grammar.of_form n trees
    → option_map seen found ≡ made n trees → Answers (Ok found) (asked line)
command_answered fs words line n trees found same_forms same_words e is =
    by found (asked_is fs words line (grammar.of_form n trees) same_forms same_words e ∙ ap asked_for (sym is))
  where
    by : (found : Option code.Command) → asked line ≡ asked_for (option_map seen found)
        → Answers (Ok found) (asked line)
    by None h = h
    by (Some command) h = h

pub error_answered : (fs : List Shape) (words : List (List ℕ)) (line : List ℕ) (error : LineErr) → fs ≡ forms
    → words ≡ later → SaysErr error (said fs words line) → Answers (Err error) (asked line)
error_answered fs words line (Badarg at) same_forms same_words e = asked_is fs words line (grammar.bad at) same_forms same_words e
error_answered fs words line Memory same_forms same_words e = tt
