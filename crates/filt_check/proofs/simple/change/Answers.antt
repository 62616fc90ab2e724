use Rattle.std.proofs.Common.{◌+◌, arith, ap}
use Rattle.conf_ast.specs.declared.filters.Change.{Change}
use Rattle.conf_ast.specs.Filters.{changed, expression_of}
use Rattle.filt_meaning.specs.declared.tree.TStmt.{TStmt}
use Rattle.filt_meaning.specs.Steps.{stmt_steps}
use Rattle.filt_types.specs.Seen.{scene_of}
use Rattle.filt_types.specs.Weight.{act_weight, weight}
use Rattle.filt_resolve.proofs.Taken as w
use Rattle.filt_check.proofs.simple.change.Goals as goal

pub returns-in-Empty-clause-steps : goal.returns-in-Empty-clause-steps
returns-in-Empty-clause-steps c = w.weaker c.clear.result c.args.scope.now (λ (x : TStmt) called. 2 + stmt_steps called x) 1 (act_weight (scene_of c.args.text.now c.args.scope.now) (changed c.args.target.now c.args.change.now)) (omega (arith, ap (λ (what : Change). act_weight (scene_of c.args.text.now c.args.scope.now) (changed c.args.target.now what)) c.in-Empty.is)) c.clear.ensures.steps

pub returns-in-Method-clause-steps : goal.returns-in-Method-clause-steps
returns-in-Method-clause-steps c = w.weaker c.change_by.result c.args.scope.now (λ (x : TStmt) called. 2 + stmt_steps called x) (1 + weight (scene_of c.args.text.now c.args.scope.now) (expression_of c.in-Method.argument)) (act_weight (scene_of c.args.text.now c.args.scope.now) (changed c.args.target.now c.args.change.now)) (omega (arith, ap (λ (what : Change). act_weight (scene_of c.args.text.now c.args.scope.now) (changed c.args.target.now what)) c.in-Method.is)) c.change_by.ensures.steps
