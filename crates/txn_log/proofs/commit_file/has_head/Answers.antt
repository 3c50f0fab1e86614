use Rattle.std.proofs.Common.{sym, ◌∙◌}
use Rattle.txn_log.proofs.FirstItem.{head_first, no_first}
use Rattle.txn_log.proofs.commit_file.has_head.Goals as goal

pub returns-then-len-eq0-clause-head : goal.returns-then-len-eq0-clause-head
returns-then-len-eq0-clause-head c =
    (λ yes. absurd (cc), λ other. no_first c.args.file.now.items (sym c.len.ensures.len ∙ c.if-len-eq0.true))

pub returns-clause-head : goal.returns-clause-head
returns-clause-head c = head_first c.args.file.now.items _ _ c.content.ensures c.is_head.ensures
