use Rattle.std.proofs.Common.{◌∙◌, ◌-◌, arith, length}
use Rattle.filt_resolve.specs.Levels.{joined}
use Rattle.filt_resolve.proofs.Levels.{before_level, fewer, place_before, place_here, place_within}
use Rattle.filt_resolve.proofs.names.place_among.Goals as goal

pub overflow_sub-before : goal.overflow_sub-before
overflow_sub-before c = omega (arith, c.len-before.ensures, before_level c.loop-left.left.now _ c.deref-own.result.now c.loop-left.before c.in-len1-up.len_at_least (c.deref-own.ensures ∙ c.level-item.is) c.loop-left.invariant.1)

pub overflow_add-result : goal.overflow_add-result
overflow_add-result c = omega (arith, c.loop-left.auto.before-fits, c.len-before.ensures, before_level c.loop-left.left.now _ c.deref-own.result.now c.loop-left.before c.in-len1-up.len_at_least (c.deref-own.ensures ∙ c.level-item.is) c.loop-left.invariant.1, place_within c.deref-own.result.now c.args.name.now c.in-Some.slot c.in-Some.ensures)

pub returns-in-Some : goal.returns-in-Some
returns-in-Some c = place_here (joined c.args.levels.now) c.loop-left.left.now _ c.deref-own.result.now c.args.name.now (c.loop-left.before - c.len-before.result) c.in-Some.slot c.in-len1-up.len_at_least (c.deref-own.ensures ∙ c.level-item.is) c.loop-left.invariant.0
    (omega (arith, c.len-before.ensures, before_level c.loop-left.left.now _ c.deref-own.result.now c.loop-left.before c.in-len1-up.len_at_least (c.deref-own.ensures ∙ c.level-item.is) c.loop-left.invariant.1))
    c.in-Some.ensures

pub loop-left-preserved : goal.loop-left-preserved
loop-left-preserved c = (
  place_before (joined c.args.levels.now) c.loop-left.left.now _ c.deref-own.result.now c.args.name.now c.in-len1-up.len_at_least (c.deref-own.ensures ∙ c.level-item.is) c.loop-left.invariant.0 c.in-None.ensures,
  omega (arith, c.len-before.ensures, before_level c.loop-left.left.now _ c.deref-own.result.now c.loop-left.before c.in-len1-up.len_at_least (c.deref-own.ensures ∙ c.level-item.is) c.loop-left.invariant.1),
  fewer c.loop-left.left.now (length c.args.levels.now) c.loop-left.invariant.2,
)
