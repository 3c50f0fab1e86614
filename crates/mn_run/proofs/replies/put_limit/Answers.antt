use Rattle.std.proofs.Common.{Some, codes, subst}
use Rattle.term_core.specs.Tree.{Tree}
use Rattle.term_text.specs.Appends.{Appends}
use Rattle.mn_run.specs.Replies.{refusal, line_of_reply}
use Rattle.mn_run.proofs.replies.put_limit.Goals as goal

pub returns : goal.returns
returns c =
    subst (λ (t : Tree). Appends c.put_refusal.result c.args.out.now.items c.put_refusal.new.out.items
    (line_of_reply (Some (refusal (codes "limit") t)))) c.in_ok-what.ensures c.put_refusal.ensures
