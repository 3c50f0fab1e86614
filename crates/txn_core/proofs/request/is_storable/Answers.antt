use Rattle.std.proofs.lemmas.Bool.Decides.{same_from_decides}
use Rattle.term_core.specs.View.{tree_of}
use Rattle.txn_core.specs.Refusals.{is_storable}
use Rattle.txn_core.proofs.Fitting.{storable_is}
use Rattle.txn_core.proofs.request.is_storable.Goals as goal

pub returns : goal.returns
returns c =
    let key = tree_of c.args.key.now in
    same_from_decides c.is_small.result (is_storable key) c.is_small.ensures (storable_is key)
