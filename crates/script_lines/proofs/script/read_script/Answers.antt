use Rattle.std.proofs.Common.{refl}
use Rattle.script_lines.specs.Inside.{state_of}
use Rattle.script_lines.proofs.ScriptLines.{have_no_line, have_one_more, refused_here, answered}
use Rattle.script_lines.proofs.script.read_script.Goals as goal

pub loop-line-init : goal.loop-line-init
loop-line-init c = have_no_line c.args.named.now c.args.text.now (state_of c.new-reading.result) c.new-reading.ensures

pub loop-line-preserved : goal.loop-line-preserved
loop-line-preserved c =
    have_one_more c.args.named.now c.args.text.now (state_of c.loop-line.reading) (state_of c.read_one.new.reading) c.loop-line.number _ c.loop-line.rest.now c.in-Some.line.now c.in-Some.after.now
    c.loop-line.invariant refl c.in-Some.ensures.line c.in-Some.ensures.shorter c.in-Ok.ensures

pub returns-in-Err : goal.returns-in-Err
returns-in-Err c =
    rw c.at_line.ensures
    (refused_here c.args.named.now c.args.text.now (state_of c.loop-line.reading) c.read_one.new.reading c.loop-line.number _ c.loop-line.rest.now c.in-Some.line.now c.in-Some.after.now
    c.in-Err.fault c.loop-line.invariant refl c.in-Some.ensures.line c.in-Err.ensures)

pub returns : goal.returns
returns c = answered c.args.named.now c.args.text.now c.loop-line.reading c.loop-line.number c.loop-line.rest.now c.finish.result c.loop-line.invariant c.in_default.ensures.line c.finish.ensures
