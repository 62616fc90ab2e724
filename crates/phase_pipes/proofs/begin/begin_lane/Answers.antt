use Rattle.phase_pipes.proofs.Beginning.{part_begins, seats_are}
use Rattle.phase_pipes.proofs.begin.begin_lane.Goals as goal

pub lock_lane-requires : goal.lock_lane-requires
lock_lane-requires g c =
    let r = c.requires.part in
    part_begins g.J.Judge.verdict (g.P.Phase.terms c.args.played.now) (g.P.Sends.exports c.args.played.now) r.0 r.1 r.2 r.3 r.4 c.args.part r.8 r.7 (c.setups_are_as_asked.ensures (g.P.Phase.terms c.args.played.now).setup r.6) c.in_ok-marks.marks
    (g.P.Sends.rules c.args.played.now) c.args.before.now.items c.requires.rules r.5 c.in_ok-marks.ensures.terms c.in_ok-marks.ensures.unmarked

pub returns : goal.returns
returns g c =
    let m = c.in_ok-marks.ensures in (
      c.in_ok-marks.marks,
      c.in_ok-lock.ensures,
      m.stamp.0,
      record { number = m.stamp.1; unmarked = m.stamp.2 },
      m.terms,
      seats_are c.args.part.number c.of.result.value c.args.part.cursor c.of-2.result.value c.in_ok-marks.stamp c.in_ok-marks.marks c.of.ensures c.of-2.ensures m.stamp.0,
    )
