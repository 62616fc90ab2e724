use Rattle.std.proofs.Common.{◌∙◌, refl, length}
use Rattle.std.proofs.lemmas.Option.{slice_get_read}
use Rattle.room_members.specs.Members.{room_seen}
use Rattle.phase_actors.proofs.Walking.{ends, goes_on, line_here}
use Rattle.room_actors.proofs.acting.act.Goals as goal

pub loop-index-init : goal.loop-index-init
loop-index-init g c = (
  refl,
  record { hands_are = c.requires.new.acting.hands_are; passes_are = c.requires.new.acting.passes_are },
  c.requires.new,
)

pub act_line-requires-clause-line : goal.act_line-requires-clause-line
act_line-requires-clause-line g c =
    let at = slice_get_read c.args.lines.now (length c.args.lines.now) c.loop-index.index c.index-lines-index.result refl c.loop-index-test.true c.index-lines-index.is in
    line_here c.args.queries.now c.args.lines.now (g.P.Phase.terms c.args.room.now.played.value).lines c.requires.script.lines_are c.loop-index.index c.index-lines-index.result at

pub act_line-requires-clause-can : goal.act_line-requires-clause-can
act_line-requires-clause-can g c =
    c.requires.script.can c.loop-index.index c.index-lines-index.result
    (slice_get_read c.args.lines.now (length c.args.lines.now) c.loop-index.index c.index-lines-index.result refl c.loop-index-test.true c.index-lines-index.is)

pub act_line-requires-clause-seats : goal.act_line-requires-clause-seats
act_line-requires-clause-seats g c = c.loop-index.invariant.1

pub returns-in_err-act_line-clause-number : goal.returns-in_err-act_line-clause-number
returns-in_err-act_line-clause-number g c = c.act_line.ensures.number ∙ c.loop-index.invariant.0

pub loop-index-preserved : goal.loop-index-preserved
loop-index-preserved g c =
    let phase = g.P.Phase.terms c.args.room.now.played.value in
    let at = slice_get_read c.args.lines.now (length c.args.lines.now) c.loop-index.index c.index-lines-index.result refl c.loop-index-test.true c.index-lines-index.is in (
      c.act_line.ensures.number ∙ c.loop-index.invariant.0,
      c.act_line.ensures.seats,
      goes_on c.args.queries.now c.args.lines.now phase.lines c.requires.script.lines_are phase.setup (room_seen g.P.Phase.terms c.args.room.now) c.loop-index.index c.index-lines-index.result c.loop-index.actor c.act_line.new.actor at c.in_ok-act_line.ensures.does c.loop-index.invariant.2,
    )

pub returns-clause-number : goal.returns-clause-number
returns-clause-number g c = c.loop-index.invariant.0

pub returns-clause-seats : goal.returns-clause-seats
returns-clause-seats g c = c.loop-index.invariant.1

pub returns-clause-done : goal.returns-clause-done
returns-clause-done g c =
    let phase = g.P.Phase.terms c.args.room.now.played.value in
    ends c.args.queries.now c.args.lines.now phase.lines c.requires.script.lines_are phase.setup (room_seen g.P.Phase.terms c.args.room.now) c.loop-index.index c.loop-index.actor c.loop-index-test.false c.loop-index.invariant.2
