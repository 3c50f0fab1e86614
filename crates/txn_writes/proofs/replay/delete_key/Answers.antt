use Rattle.std.proofs.Common.{rules, ◌≡◌, map, filter, not, ap, ◌∙◌}
use Rattle.std.proofs.lemmas.Fn.{filter_same}
use Rattle.term_core.specs.View.{tree_of}
use Rattle.db_model.specs.Database.{has_key}
use Rattle.txn_writes.proofs.Rows.{filter_trees}
use Rattle.txn_writes.proofs.replay.delete_key.Goals as goal

pub returns : goal.returns
returns c =
    let kept : c.retain.new.self.items ≡ filter (λ x. not (has_key (tree_of c.args.key.now) (tree_of x))) c.args.rows.now.items =
    filter_same _ _ _ (λ x b f' k. search rules) _ _ c.retain.ensures.filtered in
    ap (map tree_of) kept ∙ filter_trees (λ x. not (has_key (tree_of c.args.key.now) x)) c.args.rows.now.items
