use Rattle.std.proofs.Common.{◌∙◌, map, sym, ap}
use Rattle.term_core.specs.View.{tree_of}
use Rattle.db_model.specs.Database.{records_of}
use Rattle.ram_table.specs.Contents.{contents, put_ops}
use Rattle.txn_writes.specs.Seen.{seen}
use Rattle.txn_writes.proofs.Records.{live_has_key, own_ops, own_change, records_of_seen}
use Rattle.txn_writes.proofs.writes.Writes.read.Goals as goal

pub rows_after-requires-clause-rows : goal.rows_after-requires-clause-rows
rows_after-requires-clause-rows c = live_has_key (tree_of c.args.key.now) (contents c.args.table.now) _ c.read.ensures

pub rows_after-requires-clause-ops : goal.rows_after-requires-clause-ops
rows_after-requires-clause-ops c =
    own_change c.self.inside.ops c.as_slice.result.now c.self.inside.places c.at.result.now c.args.name.now
    (tree_of c.args.key.now) c.self.invariant c.as_slice.ensures c.at.ensures

pub returns : goal.returns
returns c =
    let name = c.args.name.now in
    let key = tree_of c.args.key.now in
    let table = c.args.table.now in
    let ops = c.self.inside.ops in
    let found = own_ops ops c.as_slice.result.now c.self.inside.places c.at.result.now name key c.self.invariant
    c.as_slice.ensures c.at.ensures in
    ap (map tree_of) c.from_vec.ensures ∙ c.in_ok-rows.ensures
    ∙ (λ i. put_ops (c.kind.ensures i) (found i) (c.read.ensures i))
    ∙ sym (records_of_seen key table.kind name ops (contents table) c.self.invariant.keyed c.order_law.ensures)
    ∙ ap (λ now. records_of key (seen name now table)) c.self.view_is
