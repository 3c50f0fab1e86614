use Rattle.std.proofs.Common.{◌≡◌, ℕ, List, [], ◌∷◌, map, Option, Some, None, refl, sym, ap, ◌∙◌}
use Rattle.std.specs.Option.{option_map, option_and_then}
use Rattle.term_core.specs.Tree.{Tree}
use Rattle.term_core.specs.View.{tree_of}
use Rattle.term_core.specs.declared.term.Term.{Term}
use Rattle.mn_script.specs.declared.forms.Kind.TheVariants as kind
use Rattle.mn_script.specs.Commands.{Command, first_atom, made_of}
use Rattle.mn_script.proofs.Taken.{none_left, some_left, atom_made}
use Rattle.mn_script.proofs.arguments.two_atoms.Goals as goal

-- where an atom is the first argument, it is a matter of the others
behind_atom : (make : List ℕ → List ℕ → Command) (arguments others : List Term) (a : List ℕ)
    (second : Option (List ℕ × List Tree)) → Some (a, map tree_of others) ≡ first_atom (map tree_of arguments)
    → second ≡ first_atom (map tree_of others)
    → made_of (kind.Atom ∷ kind.Atom ∷ []) make (map tree_of arguments)
    ≡ option_and_then (λ x. made_of [] (make a x.0) x.1) second
behind_atom make arguments others a second first next =
    atom_made (kind.Atom ∷ []) make (map tree_of arguments) (Some (a, map tree_of others)) first
    ∙ atom_made [] (make a) (map tree_of others) second next

pub returns-in_err-first : goal.returns-in_err-first
returns-in_err-first c =
    λ make. ap (option_map (λ x. make x.0 x.1)) c.from_residual.ensures
    ∙ sym (atom_made (kind.Atom ∷ []) make (map tree_of c.args.arguments) None c.in_err-first.ensures)

pub returns-in_err-second : goal.returns-in_err-second
returns-in_err-second c =
    λ make. ap (option_map (λ x. make x.0 x.1)) c.from_residual-in_err-second.ensures
    ∙ sym
    (behind_atom make c.args.arguments c.next_atom.new.arguments c.in_ok-first.first None c.in_ok-first.ensures
    c.in_err-second.ensures)

pub returns-then-not-is_empty : goal.returns-then-not-is_empty
returns-then-not-is_empty c =
    λ make. sym
    (behind_atom make c.args.arguments c.next_atom.new.arguments c.in_ok-first.first
    (Some (c.in_ok-second.second, map tree_of c.next_atom-2.new.arguments)) c.in_ok-first.ensures c.in_ok-second.ensures
    ∙ some_left (make c.in_ok-first.first c.in_ok-second.second) c.next_atom-2.new.arguments
    (λ none. absurd (let wrong = c.if-not-is_empty.ensures.1 none in cc)))

pub returns : goal.returns
returns c =
    λ make. sym
    (behind_atom make c.args.arguments c.next_atom.new.arguments c.in_ok-first.first
    (Some (c.in_ok-second.second, map tree_of c.next_atom-2.new.arguments)) c.in_ok-first.ensures c.in_ok-second.ensures
    ∙ none_left (make c.in_ok-first.first c.in_ok-second.second) c.next_atom-2.new.arguments (c.if-not-is_empty.ensures.0 refl))
