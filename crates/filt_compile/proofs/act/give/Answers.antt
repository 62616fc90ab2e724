use Rattle.std.proofs.Common.{◌+◌, refl, ap, arith}
use Rattle.filt_meaning.specs.Steps.{given_steps}
use Rattle.std.proofs.lemmas.Result.{on_ok_weaker}
use Rattle.filt_meaning.specs.Flow.{AtEnd}
use Rattle.filt_meaning.specs.declared.tree.TExpr.{TExpr}
use Rattle.std.proofs.Common.{Option}
use Rattle.filt_meaning.specs.Trees as trees
use Rattle.filt_code.specs.declared.instr.Instr.TheVariants as instrs
use Rattle.filt_compile.specs.Emits.{ahead}
use Rattle.filt_compile.proofs.Acting as ac
use Rattle.filt_compile.proofs.Spending as sp
use Rattle.filt_compile.proofs.act.give.Goals as goal

pub returns-in-None : goal.returns-in-None
returns-in-None c = on_ok_weaker c.push.result (λ is. (ac.acts_as c.args.seen.now _ (λ t. trees.result c.args.e.now t) (ahead c.args.out.now) (ahead c.push.new.out) (λ u vals attrs. ap (λ (x : Option TExpr). trees.result x u vals attrs) c.in-None.is) (ac.acts_stop c.args.seen.now instrs.ReturnNothing AtEnd (ahead c.args.out.now) (ahead c.push.new.out) is (λ s vals attrs. refl)), sp.adds_as (λ called. 1) (λ called. 1 + given_steps called c.args.e.now) (ahead c.args.out.now) (ahead c.push.new.out) (λ called. omega arith) (sp.adds_last _ (ahead c.args.out.now) (ahead c.push.new.out) is (λ fs. refl)))) c.push.ensures

pub returns-in_ok-push-in-Some : goal.returns-in_ok-push-in-Some
returns-in_ok-push-in-Some c = on_ok_weaker c.value.result (λ p. (ac.acts_as c.args.seen.now _ (λ t. trees.result c.args.e.now t) (ahead c.args.out.now) (ahead c.value.new.out) (λ u vals attrs. ap (λ (x : Option TExpr). trees.result x u vals attrs) c.in-Some.is) (ac.acts_give c.args.seen.now _ (ahead c.args.out.now) (ahead c.push-in-Some.new.out) (ahead c.value.new.out) c.in_ok-push-in-Some.ensures p.0), sp.adds_as _ (λ called. 1 + given_steps called c.args.e.now) (ahead c.args.out.now) (ahead c.value.new.out) (λ called. sp.given_at_most called _ c.args.e.now c.in-Some.is) (sp.adds_both _ (λ called. 1) (ahead c.args.out.now) (ahead c.push-in-Some.new.out) (ahead c.value.new.out) (sp.adds_last _ (ahead c.args.out.now) (ahead c.push-in-Some.new.out) c.in_ok-push-in-Some.ensures (λ fs. refl)) p.1))) c.value.ensures
