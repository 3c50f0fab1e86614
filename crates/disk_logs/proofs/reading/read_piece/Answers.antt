use Rattle.std.proofs.Common.{length, ap, arith}
use Rattle.disk_logs.proofs.ReadLemmas.{read_part}
use Rattle.disk_logs.proofs.reading.read_piece.Goals as goal

pub returns-clause-part : goal.returns-clause-part
returns-clause-part g c file told here starts =
    read_part (g.D.Disk.past c.args.disk.now) c.args.name file _ _ _ c.deref_mut.result.now _ _ _ _ _ _ _ here (omega (arith, c.len-at.ensures, c.args.bytes.now.ok.0)) c.told.ensures c.in_ok-count.was
    (c.read.ensures.bytes told) c.read.auto.into (omega (arith, c.in_ok-piece.piece.ok.0, ap length c.deref_mut.ensures.value)) c.deref.ensures.value c.in_ok-extend_from_slice.ensures.items starts
