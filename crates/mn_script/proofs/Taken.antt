-- Arguments that are taken apart.
use Rattle.std.proofs.Common.{◌≡◌, ◌≢◌, ℕ, List, [], ◌∷◌, map, Option, Some, None, refl, sym, ap}
use Rattle.std.specs.Option.{option_and_then}
use Rattle.term_core.specs.Tree.{Tree}
use Rattle.term_core.specs.View.{tree_of}
use Rattle.term_core.specs.declared.term.Term.{Term}
use Rattle.mn_script.specs.declared.forms.Kind.{Kind}
use Rattle.mn_script.specs.declared.forms.Kind.TheVariants as kind
use Rattle.mn_script.specs.Commands.{Command, Makes, first_atom, first_tree, made_of}

pub none_left : (command : Command) (arguments : List Term) → arguments ≡ []
    → made_of [] command (map tree_of arguments) ≡ Some command
unfolding made_of
none_left command [] e = refl
none_left command (argument ∷ arguments) e = absurd cc

pub some_left : (command : Command) (arguments : List Term) → arguments ≢ []
    → made_of [] command (map tree_of arguments) ≡ None
unfolding made_of
some_left command [] some = absurd (some refl)
some_left command (argument ∷ arguments) some = refl

-- by the first argument, where an atom is due
pub atom_made : (kinds : List Kind) (make : List ℕ → Makes kinds) (trees : List Tree)
    (first : Option (List ℕ × List Tree))
    → first ≡ first_atom trees
    → made_of (kind.Atom ∷ kinds) make trees ≡ option_and_then (λ x. made_of kinds (make x.0) x.1) first
unfolding made_of
atom_made kinds make trees first e = ap (option_and_then (λ x. made_of kinds (make x.0) x.1)) (sym e)

-- and where a term is due
pub tree_made : (kinds : List Kind) (make : Tree → Makes kinds) (trees : List Tree) (first : Option (Tree × List Tree))
    → first ≡ first_tree trees
    → made_of (kind.Term ∷ kinds) make trees ≡ option_and_then (λ x. made_of kinds (make x.0) x.1) first
unfolding made_of
tree_made kinds make trees first e = ap (option_and_then (λ x. made_of kinds (make x.0) x.1)) (sym e)
