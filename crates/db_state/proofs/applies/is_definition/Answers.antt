use Rattle.std.proofs.Common.{sym, ap, ◌∙◌, subst, arith}
use Rattle.term_core.specs.Tree.{Tree}
use Rattle.db_model.specs.Definitions.{Definition}
use Rattle.db_model.specs.Options.{IsDefinedBy, IsRefusal, create_tree}
use Rattle.db_model.specs.View.{definition}
use Rattle.db_state.proofs.Redefined.{defined_again}
use Rattle.db_state.proofs.applies.is_definition.Goals as goal

pub returns-in-Ok : goal.returns-in-Ok
returns-in-Ok c =
    let def = c.args.def.now in
    let read = c.in-Ok.read in
    let law = c.definition_law.ensures in
    let found = c.in-Ok.ensures.defined in
    let cookie = found.1 in
    let own = c.in_ok-list.ensures in
    let again = c.in_ok-create_list-in-Ok.ensures in
    let by = subst (λ (t : Tree). IsDefinedBy t (definition read)) own found.2 in
    let zero : Definition = record (definition def) { cookie = 0 } in (
      λ same. defined_again def read (omega arith) (c.is_empty.ensures.0 c.if-not-is_empty.false) found.0
          (law.lawful (create_tree (definition def)) (definition read) (omega arith) by)
          (sym again ∙ c.eq.ensures.same.0 same ∙ own),
      λ good. c.eq.ensures.same.1 (again
          ∙ ap create_tree (law.one (create_tree (definition def)) (definition read) zero found.0 found.1 by (law.read_back (definition def) 0 good))
          ∙ sym own),
    )

pub returns : goal.returns
returns c =
    let def = c.args.def.now in
    let law = c.definition_law.ensures in
    let own = c.in_ok-list.ensures in
    let zero : Definition = record (definition def) { cookie = 0 } in (
      λ holds. absurd cc,
      λ good. absurd (law.not_refused (create_tree (definition def)) zero c.in-Err-BadOption.field-0
          (subst (λ (t : Tree). IsRefusal def.name t c.in-Err-BadOption.field-0) own c.in-Err-BadOption.ensures.refused)
          (λ e. absurd cc) (law.read_back (definition def) 0 good)),
    )
