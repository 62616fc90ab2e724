use Rattle.std.proofs.Common.{◌∙◌, sym, ap, subst, ◌++◌, ℕ, List, map, append-nil}
use Rattle.filt_meaning.specs.declared.tree.TFilter.{TFilter}
use Rattle.conf_system.specs.contracts.passes.PassesJudge.TheImpl as passes
use Rattle.conf_system.specs.Coded.{CanRunOver}
use Rattle.conf_system.specs.Policies.{Filter}
use Rattle.conf_system.specs.Seen.{filter_says, system_of}
use Rattle.sys_build.proofs.Turns.{asked_turn, seen_all}
use Rattle.sys_build.proofs.choices.choices.Goals as goal

pub loop-condition-init : goal.loop-condition-init
loop-condition-init c = c.in_ok-choices.ensures ∙ sym (append-nil (map (λ (f : List ℕ × Filter). f.1) (system_of c.args.system.now).filters))

pub filter-requires-clause-before : goal.filter-requires-clause-before
filter-requires-clause-before c =
    subst (λ (f : TFilter). CanRunOver c.args.system.now f) (sym c.condition-item.is) (c.requires.before c.loop-condition.condition-index c.condition-item.result c.loop-condition-test.true)

pub loop-condition-preserved : goal.loop-condition-preserved
loop-condition-preserved c =
    asked_turn (passes.ghosts).verdict (filter_says c.args.system.now) (map (λ (f : List ℕ × Filter). f.1) (system_of c.args.system.now).filters) c.args.conditions.now c.loop-condition.condition-index c.condition-item.result
    c.loop-condition.choices.items c.push.new.self.items c.in_ok-filter.field-0 c.loop-condition-test.true c.condition-item.is c.loop-condition.invariant c.in_ok-push.ensures.items c.in_ok-filter.ensures

pub returns : goal.returns
returns c =
    c.loop-condition.invariant
    ∙ ap (λ (l : List Filter). map (λ (f : List ℕ × Filter). f.1) (system_of c.args.system.now).filters ++ l)
    (seen_all (filter_says c.args.system.now) c.args.conditions.now c.loop-condition.condition-index c.loop-condition-test.false)
