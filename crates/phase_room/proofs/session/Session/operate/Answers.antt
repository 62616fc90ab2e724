use Rattle.std.proofs.lemmas.Result.{IfOk-weaker}
use Rattle.import_lock.specs.Locks.{terms_of}
use Rattle.phase_room.proofs.session.Session.operate.Goals as goal

pub attempt-done-requires : goal.attempt-done-requires
attempt-done-requires g c = record {
  free = (
    terms_of g.P.Phase.terms c.args.self.now.import.1,
    c.lock-held.ensures.value,
    c.requires.here,
    c.requires.hand,
    c.requires.line,
    c.requires.channel,
  );
  pass = c.requires.pass;
}

pub unlock-requires-clause-value : goal.unlock-requires-clause-value
unlock-requires-clause-value g c = c.attempt-done.ensures.kept (terms_of g.P.Phase.terms c.args.self.now.import.1) c.lock-held.ensures.value c.requires.line

pub returns-clause-seen : goal.returns-clause-seen
returns-clause-seen g c =
    IfOk-weaker c.attempt-done.result _ _
    (λ plan seen room is. seen (terms_of g.P.Phase.terms c.args.self.now.import.1) room c.lock-held.ensures.value c.requires.line is) c.attempt-done.ensures.seen
