use Rattle.std.proofs.Common.{not, length, sym, ap, ◌∙◌}
use Rattle.std.specs.List.{list_any}
use Rattle.std.specs.Prelude.{◌==◌}
use Rattle.term_core.specs.View.{tree_of}
use Rattle.txn_writes.specs.Seen.{changes}
use Rattle.txn_writes.specs.Places.{places_at}
use Rattle.txn_writes.proofs.Placed.{any_placed}
use Rattle.txn_writes.proofs.writes.Writes.changes_key.Goals as goal

pub returns : goal.returns
returns c =
    let name = c.args.name.now in
    let key = tree_of c.args.key.now in
    let inside = c.self.inside in
    ap not (c.is_empty.ensures ∙ ap (λ places. length places == 0) c.at.ensures)
    ∙ sym (any_placed (changes name key) inside.ops (places_at name key inside.places) (c.self.invariant.placed name key))
    ∙ ap (list_any (changes name key)) c.self.view_is
