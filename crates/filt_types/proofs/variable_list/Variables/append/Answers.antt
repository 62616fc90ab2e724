use Rattle.std.proofs.Common.{◌∙◌, sym}
use Rattle.filt_types.proofs.FirstPlaces.{no_more, one_more}
use Rattle.filt_types.proofs.variable_list.Variables.append.Goals as goal

pub loop-variable-preserved : goal.loop-variable-preserved
loop-variable-preserved c =
    sym (one_more c.loop-variable.self c.push.new.self c.args.more.now c.loop-variable.variable-index _ c.loop-variable-test.true c.in_ok-push.ensures.more)
    ∙ c.loop-variable.invariant

pub returns : goal.returns
returns c = sym (no_more c.loop-variable.self c.args.more.now c.loop-variable.variable-index c.loop-variable-test.false) ∙ c.loop-variable.invariant
