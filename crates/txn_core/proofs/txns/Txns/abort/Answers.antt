use Rattle.std.proofs.Common.{◌≡◌, true, false, is_some, sym, subst, rules, ◌∙◌}
use Rattle.std.specs.Map.{lookup}
use Rattle.db_model.specs.Database.{same_name}
use Rattle.txn_core.specs.Pending.{others}
use Rattle.txn_core.specs.Shown.{AreShown}
use Rattle.txn_core.proofs.Answered.{there_shown, abort_absent, abort_done}
use Rattle.txn_core.proofs.Shown.{others_shown}
use Rattle.txn_core.proofs.txns.Txns.abort.Goals as goal

pub returns-then-is_none-clause-answers : goal.returns-then-is_none-clause-answers
returns-then-is_none-clause-answers c =
    let name = c.args.name.now in
    let entries = c.args.self.now.pending.entries in
    let absent : is_some (lookup (same_name name) entries) ≡ false = search rules in
    λ tables pending h. (pending, abort_absent name tables pending (there_shown name entries pending h ∙ absent), h)

pub returns-clause-answers : goal.returns-clause-answers
returns-clause-answers c =
    let name = c.args.name.now in
    let entries = c.args.self.now.pending.entries in
    let found : is_some (lookup (same_name name) entries) ≡ true = search rules in
    λ tables pending h. (
      others name pending,
      abort_done name tables pending (there_shown name entries pending h ∙ found),
      subst (λ es. AreShown es (others name pending)) (sym c.shift_remove.ensures.entries)
          (others_shown name entries pending c.get_index_of.ensures.unique h),
    )
