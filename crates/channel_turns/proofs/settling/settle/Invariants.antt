use Rattle.std.proofs.Common.{◌≡◌}
use Rattle.export_lock.specs.Kept.{GoesOn}
use Rattle.channel_turns.proofs.settling.settle.Given as goal

abbrev pub invariant-loop : goal.invariant-loop
invariant-loop g l = GoesOn g.J.Judge.verdict l.fn.state l.state × (l.state.marks ≡ l.fn.state.marks)
