use Rattle.std.proofs.Common.{map}
use Rattle.conf_system.specs.Coded.{CanRunOver}
use Rattle.conf_system.specs.Seen.{filter_says, system_of}
use Rattle.sys_build.specs.Scripts.{AreAsked, TellsFirst}
use Rattle.sys_build.proofs.Judged.{first_refused, handed_on, is_short, judged_all, judged_turn, none_asked, none_before, none_handed, one_before}
use Rattle.sys_build.proofs.scripts.judged.Goals as goal

pub loop-condition-init : goal.loop-condition-init
loop-condition-init c = record {
  asked = none_asked (system_of c.args.system.now) (filter_says c.args.system.now) c.new-filters.result.items c.new-filters.ensures.items;
  before = λ ordered. none_before (CanRunOver c.args.system.now) c.new-filters.result.items c.new-filters.ensures.items;
}

pub judge-requires : goal.judge-requires
judge-requires c = is_short c.args.conditions.now c.loop-condition.condition-index c.condition-item.result c.loop-condition-test.true c.condition-item.is c.requires

pub loop-condition-preserved : goal.loop-condition-preserved
loop-condition-preserved c =
    let system = c.args.system.now in
    record {
      asked = judged_turn (system_of system) (filter_says system) c.args.conditions.now c.loop-condition.condition-index c.condition-item.result c.loop-condition.filters.items c.push.new.self.items c.in_ok-judge.field-0
          c.loop-condition-test.true c.condition-item.is c.loop-condition.invariant.asked c.in_ok-push.ensures.items c.in_ok-judge.ensures.told;
      before = λ ordered. one_before (CanRunOver system) c.loop-condition.filters.items c.push.new.self.items c.in_ok-judge.field-0 c.in_ok-push.ensures.items (c.loop-condition.invariant.before ordered) (c.in_ok-judge.ensures.before ordered);
    }

pub returns-in_err-judge-clause-told : goal.returns-in_err-judge-clause-told
returns-in_err-judge-clause-told c =
    let system = c.args.system.now in
    let fault = c.in_err-judge.field-0.0 in
    handed_on c.from_residual.result fault (λ filters. AreAsked (system_of system) c.args.conditions.now (map (filter_says system) filters.items)) (TellsFirst (system_of system) c.args.conditions.now) c.from_residual.ensures.1
    (first_refused (system_of system) c.args.conditions.now c.loop-condition.condition-index c.condition-item.result (map (filter_says system) c.loop-condition.filters.items) fault c.loop-condition-test.true
    c.condition-item.is c.loop-condition.invariant.asked c.in_err-judge.ensures.told)

pub returns-in_err-judge-clause-before : goal.returns-in_err-judge-clause-before
returns-in_err-judge-clause-before c = λ ordered. none_handed c.from_residual.result _ _ c.from_residual.ensures.1

pub returns-clause-told : goal.returns-clause-told
returns-clause-told c =
    let system = c.args.system.now in
    judged_all (system_of system) (filter_says system) c.args.conditions.now c.loop-condition.condition-index c.loop-condition.filters.items c.loop-condition-test.false c.loop-condition.invariant.asked

pub returns-clause-before : goal.returns-clause-before
returns-clause-before c = c.loop-condition.invariant.before
