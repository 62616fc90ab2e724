use Rattle.std.proofs.Common.{refl}
use Rattle.std.proofs.lemmas.Result.{on_ok_weaker}
use Rattle.filt_compile.specs.Emits.{ahead}
use Rattle.filt_compile.proofs.Acting as ac
use Rattle.filt_compile.proofs.Spending as sp
use Rattle.filt_compile.proofs.act.set.Goals as goal

pub returns-in-Local : goal.returns-in-Local
returns-in-Local c = on_ok_weaker c.push.result (λ is. (ac.sets_as c.args.target _ (ahead c.args.out.now) (ahead c.push.new.out) c.in-Local.is (ac.sets_local c.in-Local.place (ahead c.args.out.now) (ahead c.push.new.out) is), sp.adds_do _ (ahead c.args.out.now) (ahead c.push.new.out) is)) c.push.ensures

pub returns-in-Attribute : goal.returns-in-Attribute
returns-in-Attribute c = on_ok_weaker c.push-in-Attribute.result (λ is. (ac.sets_as c.args.target _ (ahead c.args.out.now) (ahead c.push-in-Attribute.new.out) c.in-Attribute.is (ac.sets_attribute c.in-Attribute.a (ahead c.args.out.now) (ahead c.push-in-Attribute.new.out) is), sp.adds_do _ (ahead c.args.out.now) (ahead c.push-in-Attribute.new.out) is)) c.push-in-Attribute.ensures

pub returns-in-Nowhere : goal.returns-in-Nowhere
returns-in-Nowhere c = on_ok_weaker c.push-in-Nowhere.result (λ is. (ac.sets_as c.args.target _ (ahead c.args.out.now) (ahead c.push-in-Nowhere.new.out) c.in-Nowhere.is (ac.sets_nowhere (ahead c.args.out.now) (ahead c.push-in-Nowhere.new.out) is), sp.adds_last _ (ahead c.args.out.now) (ahead c.push-in-Nowhere.new.out) is (λ fs. refl))) c.push-in-Nowhere.ensures
