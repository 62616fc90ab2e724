use Rattle.attrs.proofs.gather.GatherTextOut.put.Goals as goal

pub returns-in_err-send-clause-kept : goal.returns-in_err-send-clause-kept
returns-in_err-send-clause-kept g c = λ first so_far.
    c.send.ensures.kept first (record { same = so_far.same; kept = so_far.kept })

pub returns-clause-kept : goal.returns-clause-kept
returns-clause-kept g c = λ first so_far.
    let sent = c.send.ensures.kept first (record { same = so_far.same; kept = so_far.kept }) in
    record { same = sent.same; kept = λ f k. c.put.ensures.kept f (sent.kept f k) }
