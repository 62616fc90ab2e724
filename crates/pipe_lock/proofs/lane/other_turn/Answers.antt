use Rattle.std.proofs.Common.{◌∙◌, sym}
use Rattle.core_setup.specs.Protocols.{signal_of}
use Rattle.pipe_lock.proofs.Passing.{may_mark}
use Rattle.pipe_lock.proofs.lane.other_turn.Goals as goal

pub take_mark-requires : goal.take_mark-requires
take_mark-requires g c =
    let key = c.requires.may.0 in
    let some = c.requires.may.1 in
    record {
      may = record {
        may = may_mark g.J.Judge.verdict some.0 key c.args.lane.now c.args.reads.now (signal_of c.args.mark) c.args.stamp.now some.1 c.requires.may.2 c.requires.may.3 c.requires.may.4;
        withdrawn = λ fall. absurd (c.requires.other fall);
        running = λ _. sym c.is_flushing.ensures ∙ c.if-is_flushing.false;
      };
    }

pub returns-in-Ok-clause-kept : goal.returns-in-Ok-clause-kept
returns-in-Ok-clause-kept g c = λ key some. c.take_mark.ensures.kept key some.0 some.1

pub returns-in-Err-clause-kept : goal.returns-in-Err-clause-kept
returns-in-Err-clause-kept g c = λ key some. c.take_mark.ensures.kept key some.0 some.1
