use Rattle.std.proofs.Common.{◌∙◌, map}
use Rattle.std.proofs.lemmas.Result.{IfOk-weaker}
use Rattle.term_core.specs.View.{tree_of}
use Rattle.ram_table.specs.Contents.{put_ops}
use Rattle.txn_writes.specs.Replays.{ops_of}
use Rattle.txn_writes.proofs.Records.{from_fresh}
use Rattle.txn_writes.proofs.replay.rows_after.Goals as goal

pub returns-in-Some : goal.returns-in-Some
returns-in-Some c =
    let kind = c.args.kind in
    let ops = c.args.ops.now in
    let same = from_fresh (tree_of c.args.key.now) kind ops c.in-Some.start c.args.places.now (map tree_of c.args.live.now)
    c.requires.rows c.requires.ops c.in-Some.ensures.fresh in
    IfOk-weaker c.replayed.result _ _
    (λ rows is. is ∙ (λ i. put_ops kind (ops_of ops (c.split_at.ensures.back i)) (map tree_of (c.new.ensures.items i))) ∙ same)
    c.replayed.ensures
