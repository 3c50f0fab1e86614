use Rattle.std.proofs.Common.{◌++◌, [], ◌∷◌, Ok, refl, ap, arith}
use Rattle.txn_log.proofs.CallerLemmas.{own_latest}
use Rattle.mn_node.proofs.Acts.{only_more, never_wants, stays_log}
use Rattle.mn_node.proofs.Appending.{append_failed, append_unsynced, appended_only, appended_synced, appends_at, appended_done}
use Rattle.mn_node.proofs.Owed.{done_owes, undone_owes, undone_later, done_later, owes_at}
use Rattle.mn_node.proofs.open.append.Goals as goal
use Rattle.mn_node.proofs.open.append.Goals.{then-settles+in_default-sync, else-settles}

pub returns-in-Err-clause-appends : goal.returns-in-Err-clause-appends
returns-in-Err-clause-appends g c told commits synced commit item stands =
    append_failed commit commits synced c.in-Err.error c.why.result
    (record {
      only = c.in-Err.ensures.calls.only;
      named = λ name is. own_latest (g.D.Disk.past c.args.disk.now) c.args.log.now commits synced stands name
          (c.in-Err.ensures.calls.named name is);
      file = c.why.ensures.file;
      memory = c.why.ensures.memory;
    })
    (c.in-Err.ensures.left commits synced commit told item stands) (c.append.ensures.any_moment commits synced commit told item stands)
    (c.append.ensures.sound commits synced told stands)
    (λ wanted. (c.in-Err.ensures.kept commits synced told stands wanted, c.in-Err.ensures.only_old commits synced told stands wanted))

pub returns-in-Err-clause-owes : goal.returns-in-Err-clause-owes
returns-in-Err-clause-owes g c =
    undone_owes g.D.Disk c.args.disk.now c.append.new.disk c.args.log.now _ c.in-Err.error c.why.result
    c.in-Err.ensures.calls c.why.ensures.file c.why.ensures.only
    (λ told. stays_log _ _ c.in-Err.error c.why.result c.why.ensures.only_memory (c.in-Err.ensures.wanted told))
    (omega (arith, c.in-Err.ensures.err))

pub returns-in-Err-sync-clause-appends : goal.returns-in-Err-sync-clause-appends
returns-in-Err-sync-clause-appends g c told commits synced commit item stands =
    let all = commits ++ commit ∷ [] in
    let appended = c.in_default.ensures.stands commits synced commit told item stands in
    let failed = c.in-Err-sync.ensures in
    append_unsynced commit commits synced (g.D.Disk.past c.append.new.disk) c.in-Err-sync.error c.why-in-Err-sync.result
    (record {
      only = only_more c.in-Err-sync.error failed.calls.only;
      named = failed.calls.named;
      file = c.why-in-Err-sync.ensures.file;
      memory = c.why-in-Err-sync.ensures.memory;
    }) (never_wants c.in-Err-sync.error failed.calls.only) (failed.left all synced told appended)
    (c.append.ensures.any_moment commits synced commit told item stands) (c.sync.ensures.any_moment all synced told appended)
    (c.append.ensures.sound commits synced told stands) (c.sync.ensures.sound all synced told appended)

pub returns-in-Err-sync-clause-owes : goal.returns-in-Err-sync-clause-owes
returns-in-Err-sync-clause-owes g c =
    undone_later g.D.Disk c.args.disk.now c.append.new.disk c.sync.new.disk c.args.log.now _ c.in_default.ensures.calls
    (c.in_default.ensures.calls.cause.uncounted (λ name at. absurd (cc at))) c.in-Err-sync.error
    c.why-in-Err-sync.result c.in-Err-sync.ensures.calls c.why-in-Err-sync.ensures.file c.why-in-Err-sync.ensures.only
    (λ told. stays_log _ _ c.in-Err-sync.error c.why-in-Err-sync.result c.why-in-Err-sync.ensures.only_memory
    (λ wanted. c.sync.ensures.log told)) (rw c.sync.ensures.same (omega (arith, c.in_default.ensures.ok)))

pub returns-clause-appends : goal.returns-clause-appends
returns-clause-appends g c told commits synced commit item stands =
    let all = commits ++ commit ∷ [] in
    let before = g.D.Disk.past c.args.disk.now in
    let mid = g.D.Disk.past c.append.new.disk in
    let appended = c.in_default.ensures.stands commits synced commit told item stands in
    elim c.if-settles.branch [
      | then-settles+in_default-sync w ↦
          appends_at c.args.settles commit commits synced (Ok (appended_done c.args.settles)) c.if-settles.log w.sync.new.self before
          (g.D.Disk.past c.if-settles.disk) (g.D.Disk.past w.sync.new.disk) w.log-is (ap g.D.Disk.past w.disk-is)
          (appended_synced commit commits synced mid w.if-settles.true (w.in_default-sync.ensures.stands all synced told appended)
          (c.append.ensures.any_moment commits synced commit told item stands) (w.sync.ensures.any_moment all synced told appended)
          (c.append.ensures.sound commits synced told stands) (w.sync.ensures.sound all synced told appended))
      | else-settles w ↦
          appends_at c.args.settles commit commits synced (Ok (appended_done c.args.settles)) c.if-settles.log c.append.new.self before
          (g.D.Disk.past c.if-settles.disk) mid w.log-is (ap g.D.Disk.past w.disk-is)
          (appended_only commit commits synced w.if-settles.false appended
          (c.append.ensures.any_moment commits synced commit told item stands) (c.append.ensures.sound commits synced told stands))
    ]

pub returns-clause-owes : goal.returns-clause-owes
returns-clause-owes g c =
    elim c.if-settles.branch [
      | then-settles+in_default-sync w ↦
          owes_at g.D.Disk c.args.disk.now c.if-settles.disk w.sync.new.disk c.args.log.now c.if-settles.log w.sync.new.self
          (Ok (appended_done c.args.settles)) w.log-is w.disk-is
          (done_later g.D.Disk c.args.disk.now c.append.new.disk w.sync.new.disk c.args.log.now w.sync.new.self c.in_default.ensures.calls
          (c.in_default.ensures.calls.cause.uncounted (λ name at. absurd (cc at))) (appended_done c.args.settles)
          w.in_default-sync.ensures.calls (λ told up. w.sync.ensures.log told)
          (rw w.sync.ensures.same (omega (arith, c.in_default.ensures.ok)))
          (record { fault = refl; memory = refl; up = λ is. absurd (cc is) }))
      | else-settles w ↦
          owes_at g.D.Disk c.args.disk.now c.if-settles.disk c.append.new.disk c.args.log.now c.if-settles.log c.append.new.self
          (Ok (appended_done c.args.settles)) w.log-is w.disk-is
          (done_owes g.D.Disk c.args.disk.now c.append.new.disk c.args.log.now c.append.new.self (appended_done c.args.settles)
          c.in_default.ensures.calls (λ told up. c.in_default.ensures.log told) (omega (arith, c.in_default.ensures.ok))
          (record { fault = refl; memory = refl; up = λ is. absurd (cc is) }))
    ]
