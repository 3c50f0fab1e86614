use Rattle.mn_node.specs.Seen.{answer}
use Rattle.mn_run.proofs.RunServes.{not_damaged, told_all, told_unmarked}
use Rattle.mn_run.proofs.session.Session.tell.Goals as goal

pub returns-in-Ok-push-clause-told : goal.returns-in-Ok-push-clause-told
returns-in-Ok-push-clause-told c =
    told_all (answer c.args.reply.now) c.args.mark c.args.self.now.text.items c.print_reply.new.out.items c.args.self.now.marks.items
    c.push.new.self.items
    (not_damaged c.args.reply.now c.in_default.not-Damaged) c.in-Ok.ensures.ok c.in-Ok-push.ensures.ok

pub returns-in-Err-clause-told : goal.returns-in-Err-clause-told
returns-in-Err-clause-told c =
    told_unmarked (answer c.args.reply.now) c.args.mark c.args.self.now.text.items c.print_reply.new.out.items c.args.self.now.marks.items
    c.push.new.self.items
    (not_damaged c.args.reply.now c.in_default.not-Damaged) c.in-Ok.ensures.ok c.in-Err.ensures.err
