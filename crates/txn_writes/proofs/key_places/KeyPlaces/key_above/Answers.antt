use Rattle.std.proofs.Common.{Some, sym, ◌∙◌}
use Rattle.std.specs.Ordering.{is_lt}
use Rattle.term_core.specs.Tree.{tree_cmp}
use Rattle.term_core.specs.View.{tree_of}
use Rattle.txn_writes.proofs.Nexts.{first_is, none_is, and_true}
use Rattle.txn_writes.proofs.key_places.KeyPlaces.key_above.Goals as goal

pub returns-in-Some-clause-next : goal.returns-in-Some-clause-next
returns-in-Some-clause-next c =
    (first_is _ (Some (tree_of c.args.last.now)) (λ entry. and_true (is_lt (tree_cmp (tree_of c.args.last.now) (tree_of entry.0))))
    c.args.self.now.keys.entries c.range.ensures.ordered c.in-Some.key.now _ _
    (sym (c.range.ensures.between tt) ∙ c.in-Some.ensures.steps)).next

pub returns-in-Some-clause-one_of : goal.returns-in-Some-clause-one_of
returns-in-Some-clause-one_of c =
    (first_is _ (Some (tree_of c.args.last.now)) (λ entry. and_true (is_lt (tree_cmp (tree_of c.args.last.now) (tree_of entry.0))))
    c.args.self.now.keys.entries c.range.ensures.ordered c.in-Some.key.now _ _
    (sym (c.range.ensures.between tt) ∙ c.in-Some.ensures.steps)).one_of

pub returns-in-None-clause-next : goal.returns-in-None-clause-next
returns-in-None-clause-next c =
    none_is _ (Some (tree_of c.args.last.now)) (λ entry. and_true (is_lt (tree_cmp (tree_of c.args.last.now) (tree_of entry.0))))
    c.args.self.now.keys.entries (sym (c.range.ensures.between tt) ∙ c.in-None.ensures.steps.0)
