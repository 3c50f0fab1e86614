use Rattle.std.proofs.Common.{map, drop}
use Rattle.std.specs.Prelude.{◌↔◌}
use Rattle.std.specs.List.{AllByRecursion}
use Rattle.db_model.specs.View.{operation}
use Rattle.db_state.specs.Inside.Taking.{MayTakeBy}
use Rattle.db_state.proofs.taking.may_take_all.Given as goal

-- all may be taken where the rest may
abbrev pub invariant-loop-op : goal.invariant-loop-op
invariant-loop-op l = AllByRecursion (MayTakeBy l.version l.defs) (map operation (drop l.op-index l.op-items))
    ↔ AllByRecursion (MayTakeBy l.version l.defs) (map operation l.op-items)
