use Rattle.std.proofs.lemmas.Bool.Decides.{same_from_decides}
use Rattle.term_core.specs.View.{tree_of}
use Rattle.db_model.specs.View.{definition}
use Rattle.txn_core.specs.Refusals.{fits}
use Rattle.txn_core.proofs.Fitting.{fits_is}
use Rattle.txn_core.proofs.request.is_record.Goals as goal

pub returns : goal.returns
returns c =
    let def = definition c.args.def.now in
    let row = tree_of c.args.row.now in
    same_from_decides c.fits.result (fits def row) c.fits.ensures (fits_is def row)
