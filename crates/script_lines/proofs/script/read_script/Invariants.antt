use Rattle.std.proofs.Common.{length}
use Rattle.script_lines.specs.Inside.{state_of}
use Rattle.script_lines.proofs.ScriptLines.{HaveLines}
use Rattle.script_lines.proofs.script.read_script.Given as goal

abbrev pub invariant-loop-line : goal.invariant-loop-line
invariant-loop-line l = HaveLines l.named l.text (state_of l.reading) l.number l.rest

abbrev pub decreases-loop-line : goal.decreases-loop-line
decreases-loop-line l = length l.rest
