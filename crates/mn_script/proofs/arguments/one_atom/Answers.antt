use Rattle.std.proofs.Common.{[], map, Some, None, refl, sym, ap, ◌∙◌}
use Rattle.std.specs.Option.{option_map}
use Rattle.term_core.specs.View.{tree_of}
use Rattle.mn_script.proofs.Taken.{none_left, some_left, atom_made}
use Rattle.mn_script.proofs.arguments.one_atom.Goals as goal

pub returns-in_err-atom : goal.returns-in_err-atom
returns-in_err-atom c =
    λ make. ap (option_map (λ a. make a)) c.from_residual.ensures
    ∙ sym (atom_made [] make (map tree_of c.args.arguments) None c.in_err-atom.ensures)

pub returns-then-not-is_empty : goal.returns-then-not-is_empty
returns-then-not-is_empty c =
    λ make. sym
    (atom_made [] make (map tree_of c.args.arguments) (Some (c.in_ok-atom.atom, map tree_of c.next_atom.new.arguments)) c.in_ok-atom.ensures
    ∙ some_left (make c.in_ok-atom.atom) c.next_atom.new.arguments (λ none. absurd (let wrong = c.if-not-is_empty.ensures.1 none in cc)))

pub returns : goal.returns
returns c =
    λ make. sym
    (atom_made [] make (map tree_of c.args.arguments) (Some (c.in_ok-atom.atom, map tree_of c.next_atom.new.arguments)) c.in_ok-atom.ensures
    ∙ none_left (make c.in_ok-atom.atom) c.next_atom.new.arguments (c.if-not-is_empty.ensures.0 refl))
