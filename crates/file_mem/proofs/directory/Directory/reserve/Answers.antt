use Rattle.std.proofs.Common.{arith}
use Rattle.std.proofs.lemmas.Result.{on_ok_weaker}
use Rattle.file_mem.proofs.Kept.{one_at_most, few_unsynced}
use Rattle.file_mem.proofs.directory.Directory.reserve.Goals as goal

pub returns-clause-room : goal.returns-clause-room
returns-clause-room c = on_ok_weaker c.try_reserve.result (λ room. omega (arith, room, c.len.ensures, c.args.self.now.files.ok.0, few_unsynced c.args.self.now.files.items, one_at_most c.args.self.now.unsynced)) c.try_reserve.ensures.ok
