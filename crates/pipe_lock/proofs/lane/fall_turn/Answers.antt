use Rattle.std.proofs.Common.{◌∙◌, ap, sym, subst}
use Rattle.std.specs.declared.result.Result.TheVariants.{Ok}
use Rattle.export_lock.specs.LaneTurns.{FlushesLane}
use Rattle.pipe_lock.proofs.Passing.{flush_keeps, flushed_may}
use Rattle.pipe_lock.proofs.lane.fall_turn.Goals as goal

pub end_flush-requires : goal.end_flush-requires
end_flush-requires g c =
    let key = c.requires.may.0 in
    let some = c.requires.may.1 in
    let door = c.requires.may.2 in
    record {
      may = λ nothing. flushed_may g.J.Judge.verdict c.args.lane c.flush_turn-lane.result.0 some.0 key c.args.reads.now c.args.stamp.now
          (subst (λ r. FlushesLane g.J.Judge.verdict c.args.sources.now some.0 key c.args.lane c.flush_turn-lane.result.0 r) (c.in-Ok.is ∙ ap Ok nothing)
          (c.flush_turn-lane.ensures.flushes (sym c.is_started.ensures ∙ c.if-not-is_started.false) key some.0 door.sources_are some.1))
          door.reads_is door.start c.requires.may.3;
    }

pub returns-in-Ok-clause-kept : goal.returns-in-Ok-clause-kept
returns-in-Ok-clause-kept g c = λ key are some. c.end_flush.ensures.kept key
    (flush_keeps g.J.Judge.verdict c.args.lane c.flush_turn-lane.result.0 c.args.sources.now some.0 key c.flush_turn-lane.result.1
    (c.flush_turn-lane.ensures.flushes (sym c.is_started.ensures ∙ c.if-not-is_started.false) key some.0 are some.1))

pub returns-in-Err-clause-kept : goal.returns-in-Err-clause-kept
returns-in-Err-clause-kept g c = λ key are some.
    flush_keeps g.J.Judge.verdict c.args.lane c.flush_turn-lane.result.0 c.args.sources.now some.0 key c.flush_turn-lane.result.1
    (c.flush_turn-lane.ensures.flushes (sym c.is_started.ensures ∙ c.if-not-is_started.false) key some.0 are some.1)
