use Rattle.room_run.proofs.dealing.Dealt.deal_one.Goals as goal

pub returns : goal.returns
returns c = (c.in_ok-check_done.ensures, c.in_ok-deal_actor.ensures)
