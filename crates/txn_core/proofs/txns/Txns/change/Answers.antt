use Rattle.db_state.specs.Live.{database}
use Rattle.txn_core.specs.Requests.{call_of}
use Rattle.txn_core.proofs.Changed.{change_answers}
use Rattle.txn_core.proofs.txns.Txns.change.Goals as goal

pub returns : goal.returns
returns c =
    change_answers c.args.name.now (call_of c.args.table.now c.args.request) (database c.args.live.now).tables
    c.args.self.now c.keep.new.self c.keep.result c.requires c.in_ok-check.ensures.refusal
    c.keep.ensures.ok c.keep.ensures.err c.keep.ensures.only_memory
