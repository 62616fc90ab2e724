use Rattle.std.proofs.Common.{ap, sym, subst, ◌∙◌}
use Rattle.export_lock.specs.Kept.{ReadsOn}
use Rattle.channel_turns.proofs.Going.{goes_then, held_of, held_on}
use Rattle.channel_turns.proofs.Resting.{still_fed, then_pushed}
use Rattle.channel_turns.proofs.turns.read_or_push.Goals as goal

pub push-requires : goal.push-requires
push-requires g c = record { held = held_on g.J.Judge.verdict c.args.state.now c.take_turn.new.self c.take_turn.ensures.goes (held_of g.J.Judge.verdict c.args.state.now c.requires.kind) }

pub returns-clause-goes : goal.returns-clause-goes
returns-clause-goes g c = goes_then g.J.Judge.verdict c.args.state.now c.take_turn.new.self c.push.new.state c.take_turn.ensures.goes c.push.ensures.goes

pub returns-clause-did : goal.returns-clause-did
returns-clause-did g c =
    let none = c.in_ok-take_turn.ensures.none c.if-branch.false in
    then_pushed g.J.Judge.verdict c.args.state.now c.take_turn.new.self c.push.new.state c.requires.kind c.take_turn.ensures.goes c.requires.fed none.0 none.1 c.push.result c.push.ensures.did

pub returns-in_err-take_turn-clause-fed : goal.returns-in_err-take_turn-clause-fed
returns-in_err-take_turn-clause-fed g c = still_fed c.args.state.now c.take_turn.new.self c.take_turn.ensures.reads.mode c.take_turn.ensures.flush.flushing c.take_turn.ensures.feed c.requires.fed

pub returns-then-branch-clause-fed : goal.returns-then-branch-clause-fed
returns-then-branch-clause-fed g c = still_fed c.args.state.now c.take_turn.new.self c.take_turn.ensures.reads.mode c.take_turn.ensures.flush.flushing c.take_turn.ensures.feed c.requires.fed

pub returns-clause-fed : goal.returns-clause-fed
returns-clause-fed g c =
    still_fed c.args.state.now c.push.new.state (ap (λ z. z.1) c.push.ensures.cursor ∙ c.take_turn.ensures.reads.mode) (c.push.ensures.flush.flushing ∙ c.take_turn.ensures.flush.flushing) (c.push.ensures.feed ∙ c.take_turn.ensures.feed) c.requires.fed

pub returns-clause-feed : goal.returns-clause-feed
returns-clause-feed g c = c.push.ensures.feed ∙ c.take_turn.ensures.feed

pub returns-clause-marks : goal.returns-clause-marks
returns-clause-marks g c = c.push.ensures.marks ∙ c.take_turn.ensures.marks

pub returns-clause-reads : goal.returns-clause-reads
returns-clause-reads g c = subst (λ z. ReadsOn c.args.state.now.cursor z) (sym c.push.ensures.cursor) c.take_turn.ensures.reads
