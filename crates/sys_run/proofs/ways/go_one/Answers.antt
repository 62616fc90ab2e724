use Rattle.std.proofs.Common.{List, Option, sym, subst, ◌∙◌}
use Rattle.core_machine.specs.Ways.{Found}
use Rattle.sys_run.specs.Made.{AreFound}
use Rattle.sys_run.specs.declared.ways.Way.{Way}
use Rattle.sys_run.proofs.MakingWays.{put_found, not_gone}
use Rattle.sys_run.proofs.ways.go_one.Goals as goal

pub returns-then-goes_on-clause-found : goal.returns-then-goes_on-clause-found
returns-then-goes_on-clause-found c = λ tables f are.
    put_found tables c.args.len c.args.direction.now c.args.found.now.items f c.requires.within.1.writes are
    (sym (c.goes_on.ensures tables f (subst (λ (l : List (Option Way)). AreFound tables l f) (sym c.deref.ensures.value) are)) ∙ c.if-goes_on.true)

pub returns-else-goes_on-clause-found : goal.returns-else-goes_on-clause-found
returns-else-goes_on-clause-found c = λ tables f are.
    subst (λ (g : Found). AreFound tables c.args.found.now.items g)
    (sym (not_gone c.args.len c.args.direction.now f
    (sym (c.goes_on.ensures tables f (subst (λ (l : List (Option Way)). AreFound tables l f) (sym c.deref.ensures.value) are)) ∙ c.if-goes_on.false))) are
