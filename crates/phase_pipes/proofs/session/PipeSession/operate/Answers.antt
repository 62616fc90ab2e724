use Rattle.std.proofs.Common.{ap, ◌∙◌}
use Rattle.core_setup.specs.Protocols.{rules_of}
use Rattle.export_lock.specs.Locks.{lane_terms_of}
use Rattle.pipe_lock.specs.Locks.{terms_of}
use Rattle.phase_pipes.proofs.Operating.{door_is, table_is}
use Rattle.phase_pipes.proofs.session.PipeSession.operate.Goals as goal

pub operate-done-requires-clause-tables : goal.operate-done-requires-clause-tables
operate-done-requires-clause-tables g c =
    let s = c.requires.session in
    let pipe = terms_of g.P.Phase.terms c.args.self.now.pipe.1 in
    let out = lane_terms_of g.P.Sends.exports g.P.Sends.rules c.args.self.now.out.1 in
    let back = lane_terms_of g.P.Sends.exports g.P.Sends.rules c.args.self.now.back.1 in (
      table_is pipe s.0 c.args.self.now.primary c.args.self.now.peer pipe.out out s.2.out_is c.args.primary.now c.args.peer.now s.3,
      table_is pipe s.0 c.args.self.now.peer c.args.self.now.primary pipe.back back s.2.back_is c.args.peer.now c.args.primary.now s.4,
    )

pub operate-done-requires-clause-may : goal.operate-done-requires-clause-may
operate-done-requires-clause-may g c = λ state free none few.
    let s = c.requires.session in
    let pipe = terms_of g.P.Phase.terms c.args.self.now.pipe.1 in
    let setup = pipe.phase.setup in
    let out = lane_terms_of g.P.Sends.exports g.P.Sends.rules c.args.self.now.out.1 in
    let back = lane_terms_of g.P.Sends.exports g.P.Sends.rules c.args.self.now.back.1 in
    let out_sources = c.directions_know_their_sources.ensures setup out c.args.self.now.peer c.args.sources.now s.2.terms.setup s.2.out_is.rules_are (ap (rules_of setup).target s.2.out_is.number_is ∙ s.2.out_is.writes_is) c.requires.sources in
    let back_sources = c.directions_know_their_sources.ensures setup back c.args.self.now.primary c.args.sources.now s.2.terms.setup s.2.back_is.rules_are (ap (rules_of setup).target s.2.back_is.number_is ∙ s.2.back_is.writes_is) c.requires.sources in (
      (
        door_is pipe s.0 c.args.self.now.primary c.args.self.now.peer pipe.out out s.2.out_is c.args.primary.now c.args.peer.now s.3 s.4 c.args.sources.now out_sources,
        c.next_signals_pass.ensures.out pipe out state c.args.op.now free none s.2.out_is.lane_is few,
      ),
      (
        door_is pipe s.0 c.args.self.now.peer c.args.self.now.primary pipe.back back s.2.back_is c.args.peer.now c.args.primary.now s.4 s.3 c.args.sources.now back_sources,
        c.next_signals_pass.ensures.back pipe back state c.args.op.now free none s.2.back_is.lane_is few,
      ),
    )
