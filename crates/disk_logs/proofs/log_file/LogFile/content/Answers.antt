use Rattle.std.proofs.Common.{arith, ap, length}
use Rattle.disk_logs.proofs.ReadLemmas.{content_within, content_is}
use Rattle.disk_logs.proofs.log_file.LogFile.content.Goals as goal

pub overflow_add-result : goal.overflow_add-result
overflow_add-result c = omega (arith, content_within _ _ c.self.invariant _ c.self.view_is c.args.number c.requires _ c.index-span.ensures, c.deref.ensures.len)

pub slice_bounds-result-end : goal.slice_bounds-result-end
slice_bounds-result-end c = omega (arith, content_within _ _ c.self.invariant _ c.self.view_is c.args.number c.requires _ c.index-span.ensures, ap length c.deref.ensures.value)

pub returns : goal.returns
returns c = content_is _ _ c.self.invariant _ c.self.view_is c.args.number c.requires _ c.index-span.ensures _ c.deref.ensures.value
