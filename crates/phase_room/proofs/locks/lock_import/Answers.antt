use Rattle.phase_room.proofs.Opening.{kept_first}
use Rattle.phase_room.specs.Locks.{import_terms}
use Rattle.phase_room.proofs.locks.lock_import.Goals as goal

pub new-requires : goal.new-requires
new-requires g c = kept_first g.J.Judge.verdict g.P.Phase.terms
    (record { phase = c.of.result; number = c.args.number; port = c.of-2.result; turns = c.of-3.result; stamp = c.of-4.result })
    c.args.phase.now c.args.port c.args.turns c.args.stamp c.begin-state.result c.of.ensures c.of-2.ensures c.of-3.ensures c.of-4.ensures
    (c.begin-state.ensures (import_terms (g.P.Phase.terms c.args.phase.now) c.args.number c.args.port c.args.turns c.args.stamp) c.requires.source c.requires.terms c.requires.begins)
