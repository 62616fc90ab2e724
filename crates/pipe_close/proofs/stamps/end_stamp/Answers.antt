use Rattle.std.proofs.Common.{◌∙◌}
use Rattle.pipe_close.proofs.stamps.end_stamp.Goals as goal

pub returns-clause-told : goal.returns-clause-told
returns-clause-told c =
    let m = c.tell_maker.ensures in
    record { told = c.tell_maker.new.maker; number = m.maker.1; marked = m.receipts; seen = m.maker.0 ∙ m.list }
