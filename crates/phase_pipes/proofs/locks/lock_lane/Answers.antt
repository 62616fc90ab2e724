use Rattle.std.proofs.Common.{[], ap, reverse, subst, sym, ◌∙◌}
use Rattle.export_lock.specs.Lanes.{IsSomeLane}
use Rattle.phase_pipes.specs.Locks.{lane_seats}
use Rattle.phase_pipes.proofs.locks.lock_lane.Goals as goal

pub new-requires : goal.new-requires
new-requires g c =
    let log = reverse c.args.log.value.items in
    let exports = g.P.Sends.exports in
    let rules = g.P.Sends.rules in
    let n = c.args.number in
    let now = c.args.played.now in
    subst (λ z. IsSomeLane g.J.Judge.verdict z c.begin-lane.result)
    (sym
    (ap (λ z. lane_seats (exports z n) (rules z) n c.of-2.result.value c.of-3.result.value.items c.of-4.result.value log c.of-5.result.value) c.of.ensures
    ∙ ap (λ z. lane_seats (exports now n) (rules now) n z c.of-3.result.value.items c.of-4.result.value log c.of-5.result.value) c.of-2.ensures
    ∙ ap (λ z. lane_seats (exports now n) (rules now) n c.args.cursor z.items c.of-4.result.value log c.of-5.result.value) c.of-3.ensures
    ∙ ap (λ z. lane_seats (exports now n) (rules now) n c.args.cursor c.args.before.now.items z log c.of-5.result.value) c.of-4.ensures
    ∙ ap (λ z. lane_seats (exports now n) (rules now) n c.args.cursor c.args.before.now.items c.args.marks log z) c.of-5.ensures))
    ([], c.begin-lane.ensures (lane_seats (exports now n) (rules now) n c.args.cursor c.args.before.now.items c.args.marks log c.args.port) c.requires)
