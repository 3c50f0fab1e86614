use Rattle.term_core.specs.View.{tree_of}
use Rattle.db_model.specs.View.{definition}
use Rattle.store_files.proofs.TableForms.{stands, last_fits}
use Rattle.store_files.proofs.filling.may_stand.Goals as goal

pub returns-then-fits : goal.returns-then-fits
returns-then-fits c rows are last =
    stands (definition c.args.def.now) rows _ (tree_of c.args.row.now) c.follows.result are last (c.fits.ensures.0 c.if-fits.true)
    c.follows.ensures

pub returns-else-fits : goal.returns-else-fits
returns-else-fits c rows are last = (
  λ yes. let fails = c.if-fits.false in absurd (cc (yes, fails)),
  λ all. c.fits.ensures.1 (last_fits (definition c.args.def.now) rows (tree_of c.args.row.now) all),
)
