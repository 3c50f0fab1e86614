use Rattle.std.proofs.Common.{is_some, [], ◌∷◌, ◌++◌, inl, inr, refl, sym, ap, ◌∙◌, arith}
use Rattle.file_mem.specs.Directory.{past_of}
use Rattle.file_mem.specs.declared.operation.Operation.TheVariants.{Sync}
use Rattle.file_mem.proofs.Kept.{grown, kept, counted, after_sync, is_durable, one_at_most, few_unsynced}
use Rattle.file_mem.proofs.directory.Directory.sync.Goals.{then-is_doubtful, else-is_doubtful}
use Rattle.file_mem.proofs.directory.Directory.sync.Goals as goal

pub returns-then-not-has_pending-clause-ok : goal.returns-then-not-has_pending-clause-ok
returns-then-not-has_pending-clause-ok c =
    inr (refl, is_durable (past_of c.args.self.now) c.args.self.now.files.items c.args.self.now.shown c.args.name (sym c.has_pending.ensures ∙ c.if-not-has_pending.true))

pub invariant_of-self-2 : goal.invariant_of-self-2
invariant_of-self-2 c =
    let d = c.args.self.now in
    let is = c.push_reserved.ensures.items ∙ ap (λ done. done ++ Sync c.args.name ∷ []) c.try_reserve.ensures.items in
    record {
      shown = kept d.first.items d.done.items c.push_reserved.new.self.items (Sync c.args.name) is c.set_synced.new.files.items
          (after_sync (past_of d) d.files.items d.shown c.args.name c.set_synced.new.files.items c.set_synced.ensures.stored);
      pending = counted d.first.items d.done.items c.push_reserved.new.self.items (Sync c.args.name) is d.unsynced d.pending;
      room = elim c.if-is_doubtful.branch [
        | then-is_doubtful w ↦ omega (
          arith,
          w.more-is,
          w.len.ensures,
          one_at_most d.unsynced,
          one_at_most (is_some d.losing),
          few_unsynced c.set_synced.new.files.items,
          c.set_synced.new.files.ok.0,
          c.set_synced.ensures.len,
          c.try_reserve.ensures.len,
          c.in_ok-try_reserve.ensures.ok,
          c.push_reserved.ensures.len,
          c.push_reserved.ensures.capacity,
        )
        | else-is_doubtful w ↦ omega (
          arith,
          d.room,
          c.set_synced.ensures.count (sym c.has_pending.ensures ∙ c.if-not-has_pending.false) (sym c.is_doubtful.ensures ∙ w.if-is_doubtful.false),
          c.try_reserve.ensures.len,
          c.try_reserve.ensures.capacity,
          c.push_reserved.ensures.len,
          c.push_reserved.ensures.capacity,
        )
      ];
    }

pub returns-clause-ok : goal.returns-clause-ok
returns-clause-ok c = inl (grown c.args.self.now.first.items c.args.self.now.done.items c.push_reserved.new.self.items (Sync c.args.name)
    (c.push_reserved.ensures.items ∙ ap (λ done. done ++ Sync c.args.name ∷ []) c.try_reserve.ensures.items))
