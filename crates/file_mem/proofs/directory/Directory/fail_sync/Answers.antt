use Rattle.std.proofs.Common.{if◌then◌else◌, sym, ap, ◌∙◌, arith}
use Rattle.file_trait.specs.DiskModel.{did, sync_failed}
use Rattle.file_mem.specs.Directory.{past_of}
use Rattle.file_mem.specs.declared.operation.Operation.TheVariants.{SyncFailed}
use Rattle.file_mem.proofs.Kept.{grown, kept, counted, after_lost, some_losing}
use Rattle.file_mem.proofs.directory.Directory.fail_sync.Goals as goal

pub invariant_of-self : goal.invariant_of-self
invariant_of-self c =
    let d = c.args.self.now in
    record {
      shown = kept d.first.items d.done.items c.push_reserved.new.self.items (SyncFailed c.args.name) c.push_reserved.ensures.items c.set_doubtful.new.files.items
          (after_lost (past_of d) d.files.items d.shown c.args.name c.set_doubtful.new.files.items c.set_doubtful.ensures.stored);
      pending = counted d.first.items d.done.items c.push_reserved.new.self.items (SyncFailed c.args.name) c.push_reserved.ensures.items d.unsynced d.pending;
      room = omega (arith, some_losing d.losing c.args.call (sym c.eq.ensures ∙ c.if-eq.true), d.room, c.set_doubtful.ensures.count, c.push_reserved.ensures.len, c.push_reserved.ensures.capacity);
    }

pub returns-then-eq-clause-lost : goal.returns-then-eq-clause-lost
returns-then-eq-clause-lost c =
    let d = c.args.self.now in
    grown d.first.items d.done.items c.push_reserved.new.self.items (SyncFailed c.args.name) c.push_reserved.ensures.items
    ∙ sym (ap (λ b. if b then did (sync_failed c.args.name) (past_of d) else past_of d) (sym c.eq.ensures ∙ c.if-eq.true))
