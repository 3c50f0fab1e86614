use Rattle.std.proofs.lemmas.List.Elements.{All-map}
use Rattle.term_core.specs.View.{tree_of}
use Rattle.term_core.specs.declared.term.Term.{Term}
use Rattle.db_model.specs.Definitions.{IsAtom}
use Rattle.db_model.proofs.Forests.{more_all, all_done, all_at, all_from_map}
use Rattle.db_model.proofs.setting.are_atoms.Goals as goal

pub returns-then-not-is_atom : goal.returns-then-not-is_atom
returns-then-not-is_atom c = (
  λ no. absurd cc,
  λ all.
      let yes = c.is_atom.ensures.1 (all_at (λ (term : Term). IsAtom (tree_of term)) _ _ _ c.loop-term-test.true c.term-item.is
      (all_from_map IsAtom tree_of c.args.terms.now all)) in cc,
)

pub loop-term-preserved : goal.loop-term-preserved
loop-term-preserved c =
    more_all (λ (term : Term). IsAtom (tree_of term)) _ _ _ c.loop-term-test.true c.term-item.is c.loop-term.invariant
    (c.is_atom.ensures.0 c.if-not-is_atom.false)

pub returns : goal.returns
returns c = (
  λ yes. All-map IsAtom tree_of _ (all_done (λ (term : Term). IsAtom (tree_of term)) _ _ c.loop-term-test.false c.loop-term.invariant),
  λ all. cc,
)
