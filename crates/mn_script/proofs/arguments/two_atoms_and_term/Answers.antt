use Rattle.std.proofs.Common.{◌≡◌, ℕ, List, [], ◌∷◌, map, Some, None, sym, ap, ◌∙◌}
use Rattle.std.specs.Option.{option_map}
use Rattle.term_core.specs.Tree.{Tree}
use Rattle.term_core.specs.View.{tree_of}
use Rattle.term_core.specs.declared.term.Term.{Term}
use Rattle.mn_script.specs.declared.forms.Kind.TheVariants as kind
use Rattle.mn_script.specs.Commands.{Command, first_atom, made_of}
use Rattle.mn_script.proofs.Taken.{atom_made}
use Rattle.mn_script.proofs.arguments.two_atoms_and_term.Goals as goal

-- where an atom is the first argument, it is a matter of the others
behind_atom : (make : List ℕ → List ℕ → Tree → Command) (arguments others : List Term) (a : List ℕ)
    → Some (a, map tree_of others) ≡ first_atom (map tree_of arguments)
    → made_of (kind.Atom ∷ kind.Atom ∷ kind.Term ∷ []) make (map tree_of arguments)
    ≡ made_of (kind.Atom ∷ kind.Term ∷ []) (make a) (map tree_of others)
behind_atom make arguments others a first =
    atom_made (kind.Atom ∷ kind.Term ∷ []) make (map tree_of arguments) (Some (a, map tree_of others)) first

pub returns-in_err-first : goal.returns-in_err-first
returns-in_err-first c =
    λ make. ap (option_map (λ x. make x.0 x.1 (tree_of x.2))) c.from_residual.ensures
    ∙ sym (atom_made (kind.Atom ∷ kind.Term ∷ []) make (map tree_of c.args.arguments) None c.in_err-first.ensures)

pub returns-in_err-second : goal.returns-in_err-second
returns-in_err-second c =
    λ make. ap (option_map (λ x. make x.0 x.1 (tree_of x.2))) c.from_residual-in_err-second.ensures
    ∙ c.in_err-second.ensures (make c.in_ok-first.first)
    ∙ sym (behind_atom make c.args.arguments c.next_atom.new.arguments c.in_ok-first.first c.in_ok-first.ensures)

pub returns : goal.returns
returns c =
    λ make. c.in_ok-second.ensures (make c.in_ok-first.first)
    ∙ sym (behind_atom make c.args.arguments c.next_atom.new.arguments c.in_ok-first.first c.in_ok-first.ensures)
