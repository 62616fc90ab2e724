use Rattle.room_run.proofs.dealing.Dealt.push_seats.Goals as goal

pub returns-clause-deals : goal.returns-clause-deals
returns-clause-deals c = record { hands_are = c.in_ok-push_each.ensures; passes_are = c.in_ok-push.ensures.items }
