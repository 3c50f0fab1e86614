use Rattle.std.proofs.Common.{map, [], ◌∷◌, refl, ap, ◌∙◌}
use Rattle.std.proofs.lemmas.List.{map-append}
use Rattle.std.proofs.lemmas.Result.{on_ok_weaker}
use Rattle.db_model.specs.View.{operation}
use Rattle.txn_core.proofs.OwnLocks.{op_taken}
use Rattle.txn_core.proofs.pending.Pending.write.Goals as goal

pub returns-clause-ok : goal.returns-clause-ok
returns-clause-ok c =
    let old = c.args.self.now in
    let new = record old { writes = c.push.new.self } in
    on_ok_weaker c.push.result
    (λ pushed. record {
      locks = op_taken old new c.args.op refl pushed c.requires.keyed;
      calls = refl;
      writes = ap (map operation) pushed ∙ map-append operation old.writes (c.args.op ∷ []);
    })
    c.push.ensures.ok
