use Rattle.std.proofs.Common.{◌≡◌, ℕ, List, [], ◌∷◌, map, Option, Some, None, refl, sym, ap, ◌∙◌}
use Rattle.std.specs.Option.{option_map, option_and_then}
use Rattle.term_core.specs.Tree.{Tree}
use Rattle.term_core.specs.View.{tree_of}
use Rattle.term_core.specs.declared.term.Term.{Term}
use Rattle.mn_script.specs.declared.forms.Kind.TheVariants as kind
use Rattle.mn_script.specs.Commands.{Command, first_atom, first_tree, made_of}
use Rattle.mn_script.proofs.Taken.{none_left, some_left, atom_made, tree_made}
use Rattle.mn_script.proofs.arguments.atom_and_term.Goals as goal

-- where an atom is the first argument, it is a matter of the others
behind_atom : (make : List ℕ → Tree → Command) (arguments others : List Term) (a : List ℕ)
    (second : Option (Tree × List Tree)) → Some (a, map tree_of others) ≡ first_atom (map tree_of arguments)
    → second ≡ first_tree (map tree_of others)
    → made_of (kind.Atom ∷ kind.Term ∷ []) make (map tree_of arguments)
    ≡ option_and_then (λ x. made_of [] (make a x.0) x.1) second
behind_atom make arguments others a second first next =
    atom_made (kind.Term ∷ []) make (map tree_of arguments) (Some (a, map tree_of others)) first
    ∙ tree_made [] (make a) (map tree_of others) second next

pub returns-in_err-atom : goal.returns-in_err-atom
returns-in_err-atom c =
    λ make. ap (option_map (λ x. make x.0 (tree_of x.1))) c.from_residual.ensures
    ∙ sym (atom_made (kind.Term ∷ []) make (map tree_of c.args.arguments) None c.in_err-atom.ensures)

pub returns-in_err-term : goal.returns-in_err-term
returns-in_err-term c =
    λ make. ap (option_map (λ x. make x.0 (tree_of x.1))) c.from_residual-in_err-term.ensures
    ∙ sym (behind_atom make c.args.arguments c.next_atom.new.arguments c.in_ok-atom.atom None c.in_ok-atom.ensures c.in_err-term.ensures)

pub returns-then-not-is_empty : goal.returns-then-not-is_empty
returns-then-not-is_empty c =
    λ make. sym
    (behind_atom make c.args.arguments c.next_atom.new.arguments c.in_ok-atom.atom
    (Some (tree_of c.in_ok-term.term, map tree_of c.next_term.new.arguments)) c.in_ok-atom.ensures c.in_ok-term.ensures
    ∙ some_left (make c.in_ok-atom.atom (tree_of c.in_ok-term.term)) c.next_term.new.arguments
    (λ none. absurd (let wrong = c.if-not-is_empty.ensures.1 none in cc)))

pub returns : goal.returns
returns c =
    λ make. sym
    (behind_atom make c.args.arguments c.next_atom.new.arguments c.in_ok-atom.atom
    (Some (tree_of c.in_ok-term.term, map tree_of c.next_term.new.arguments)) c.in_ok-atom.ensures c.in_ok-term.ensures
    ∙ none_left (make c.in_ok-atom.atom (tree_of c.in_ok-term.term)) c.next_term.new.arguments (c.if-not-is_empty.ensures.0 refl))
