use Rattle.std.proofs.Common.{refl}
use Rattle.filt_meaning.specs.declared.tree.TTest.TheVariants as tests
use Rattle.filt_code.specs.declared.instr.Question.TheVariants as questions
use Rattle.filt_compile.proofs.Answering as q
use Rattle.filt_compile.proofs.InPlace as i
use Rattle.filt_compile.proofs.in_place.with_argument.Goals as goal

pub returns-then-is_return : goal.returns-then-is_return
returns-then-is_return c = i.compares c.args.es.now (questions.Test (tests.Attribute c.in_ok-attribute.attribute c.in_ok-operator.operator c.in_ok-number.number)) c.args.held.now c.args.local.now c.args.compare.now c.args.last.now c.in_ok-attribute.attribute c.in_ok-place.place c.in_ok-operator.operator c.in_ok-number.number c.in_ok-attribute.ensures c.in_ok-place.ensures c.in_ok-operator.ensures (c.is_return.ensures c.if-is_return.true) c.requires c.in_ok-number.ensures (q.test_is (tests.Attribute c.in_ok-attribute.attribute c.in_ok-operator.operator c.in_ok-number.number) _ refl)
