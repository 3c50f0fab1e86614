use Rattle.std.proofs.Common.{◌∙◌, ap}
use Rattle.db_model.specs.Lawful.{table_in}
use Rattle.db_state.specs.Live.{database}
use Rattle.txn_core.specs.Requests.{call_of}
use Rattle.txn_core.proofs.Found.{found_answers}
use Rattle.txn_core.proofs.Lent.{called}
use Rattle.txn_core.proofs.txns.Txns.look.Goals as goal

pub returns : goal.returns
returns c =
    let table = c.args.table.now in
    let tables = (database c.args.live.now).tables in
    found_answers c.args.name.now (call_of table c.args.request) tables
    c.args.self.now c.keep.new.self c.in_ok-terms.terms c.in_ok-check.ensures.refusal
    (λ pending txn own h named there. c.in_ok-terms.ensures pending txn own h named
    (ap (λ n. table_in n tables) (called table c.args.request) ∙ there))
    c.in_ok-keep.ensures.ok
