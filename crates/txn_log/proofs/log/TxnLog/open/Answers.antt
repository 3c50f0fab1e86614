use Rattle.txn_log.proofs.log.TxnLog.open.Goals as goal

pub returns-in-Some-clause-opened : goal.returns-in-Some-clause-opened
returns-in-Some-clause-opened g c commits told has = (c.resumed.ensures.opens told).opened commits has

pub returns-in-Some-clause-kept : goal.returns-in-Some-clause-kept
returns-in-Some-clause-kept g c commits told has = (c.resumed.ensures.opens told).kept commits has

pub returns-in-None-clause-opened : goal.returns-in-None-clause-opened
returns-in-None-clause-opened g c commits told has = (c.made.ensures.opens told).opened commits has

pub returns-in-None-clause-kept : goal.returns-in-None-clause-kept
returns-in-None-clause-kept g c commits told has = (c.made.ensures.opens told).kept commits has

pub returns-in-Some-clause-calls : goal.returns-in-Some-clause-calls
returns-in-Some-clause-calls g c =
    let done = c.resumed.ensures in
    record {
      touches = λ told. (done.opens told).touches;
      time = done.time;
      named = done.named;
      only = done.only;
      cause = done.cause;
    }

pub returns-in-None-clause-calls : goal.returns-in-None-clause-calls
returns-in-None-clause-calls g c =
    let done = c.made.ensures in
    record {
      touches = λ told. (done.opens told).touches;
      time = done.time;
      named = done.named;
      only = done.only;
      cause = done.cause;
    }
