use Rattle.std.proofs.Common.{◌≡◌, ◌+◌, ◌∷◌, drop, length, refl, ap, subst}
use Rattle.std.proofs.lemmas.Option.{slice_get_read}
use Rattle.table_shared.specs.Answers.{IsAboveAll, IsDone}
use Rattle.import_lock.specs.Kept.{left}
use Rattle.import_lock.proofs.Sending.{fault_leaves, may_make, never_same, sends_by, sends_self, sent_none, sent_one, waits_by}
use Rattle.import_lock.proofs.state.ImportState.send_turn.Goals as goal

pub returns-in_default-clause-kept : goal.returns-in_default-clause-kept
returns-in_default-clause-kept g c = λ key made o. sent_none g.J.Judge.verdict key c.args.self.now c.args.self.now made (sends_self c.args.self.now) refl refl o

pub update-requires-clause-change : goal.update-requires-clause-change
update-requires-clause-change g c =
    let held = c.requires.held in
    let waits : left c.args.self.now ≡ c.in-Some.change.now ∷ drop (c.args.self.now.sent + 1) c.args.self.now.backlog =
    waits_by c.args.self.now.backlog c.as_slice.result.now c.args.self.now.sent c.in-Some.change.now c.as_slice.ensures
    (slice_get_read c.as_slice.result.now (length c.as_slice.result.now) c.args.self.now.sent c.in-Some.change.now refl c.in-Some.ensures.lookup.3.0 c.in-Some.ensures.lookup.1) in
    may_make c.changes_tell_their_protocol.ensures c.changes_are_of_the_family.ensures g.J.Judge.verdict held.key held.made c.args.self.now held.importing c.in-Some.change.now (drop (c.args.self.now.sent + 1) c.args.self.now.backlog) waits

pub unreachable-requires : goal.unreachable-requires
unreachable-requires g c =
    let held = c.requires.held in
    let waits : left c.args.self.now ≡ c.in-Some.change.now ∷ drop (c.args.self.now.sent + 1) c.args.self.now.backlog =
    waits_by c.args.self.now.backlog c.as_slice.result.now c.args.self.now.sent c.in-Some.change.now c.as_slice.ensures
    (slice_get_read c.as_slice.result.now (length c.as_slice.result.now) c.args.self.now.sent c.in-Some.change.now refl c.in-Some.ensures.lookup.3.0 c.in-Some.ensures.lookup.1) in
    never_same c.changes_tell_their_protocol.ensures c.changes_are_of_the_family.ensures g.J.Judge.verdict held.key held.made c.args.self.now held.importing c.in-Some.change.now (drop (c.args.self.now.sent + 1) c.args.self.now.backlog) waits
    c.setups_are_as_asked.ensures c.a_port_alone_changes_its_sources.ensures c.update.new.port.1 c.in-Ok-Same.field-0-0 (ap (λ j. j.1) c.in-Ok-Same.ensures.here.0) c.in-Ok-Same.ensures.here.1
    (subst (IsDone c.in-Some.change.now c.args.self.now.port.1 c.update.new.port.1) c.in-Ok-Same.field-0-is c.in-Ok-Same.ensures.done)

pub returns-in-Ok-At-clause-kept : goal.returns-in-Ok-At-clause-kept
returns-in-Ok-At-clause-kept g c = λ key made o.
    let waits : left c.args.self.now ≡ c.in-Some.change.now ∷ drop (c.args.self.now.sent + 1) c.args.self.now.backlog =
    waits_by c.args.self.now.backlog c.as_slice.result.now c.args.self.now.sent c.in-Some.change.now c.as_slice.ensures
    (slice_get_read c.as_slice.result.now (length c.as_slice.result.now) c.args.self.now.sent c.in-Some.change.now refl c.in-Some.ensures.lookup.3.0 c.in-Some.ensures.lookup.1) in
    sent_one g.J.Judge.verdict key c.args.self.now
    (record {
      importer = c.args.self.now.importer;
      port = c.update.new.port;
      ops = c.args.self.now.ops;
      backlog = c.args.self.now.backlog;
      sent = c.args.self.now.sent + 1;
      turns = c.args.self.now.turns;
      stamp = c.args.self.now.stamp;
      fault = c.args.self.now.fault;
    })
    made c.in-Some.change.now c.in-Ok-At.position
    (sends_by c.args.self.now c.update.new.port (c.args.self.now.sent + 1) c.in-Ok-At.ensures.here.0 c.in-Ok-At.ensures.here.1 c.in-Ok-At.ensures.prefix)
    waits
    (subst (IsDone c.in-Some.change.now c.args.self.now.port.1 c.update.new.port.1) c.in-Ok-At.field-0-is c.in-Ok-At.ensures.done)
    (subst (IsAboveAll c.args.self.now.port.1) c.in-Ok-At.field-0-is c.in-Ok-At.ensures.above)
    o

pub returns-in-Err-clause-kept : goal.returns-in-Err-clause-kept
returns-in-Err-clause-kept g c = λ key made o.
    sent_none g.J.Judge.verdict key c.args.self.now
    (record {
      importer = c.args.self.now.importer;
      port = c.update.new.port;
      ops = c.args.self.now.ops;
      backlog = c.args.self.now.backlog;
      sent = c.args.self.now.sent;
      turns = c.args.self.now.turns;
      stamp = c.args.self.now.stamp;
      fault = c.args.self.now.fault;
    })
    made
    (sends_by c.args.self.now c.update.new.port c.args.self.now.sent c.in-Err.ensures.here.0 c.in-Err.ensures.here.1 c.in-Err.ensures.prefix)
    (fault_leaves c.in-Some.change.now c.args.self.now.port.1 c.update.new.port.1 c.in-Err.fault c.in-Err.ensures.fault)
    refl o
