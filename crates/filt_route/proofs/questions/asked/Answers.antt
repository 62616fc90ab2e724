use Rattle.filt_meaning.specs.Values.{VPrefix, VPrefixSet}
use Rattle.filt_route.proofs.Tests as tests
use Rattle.filt_route.proofs.questions.asked.Goals as goal

pub returns-in-Test : goal.returns-in-Test
returns-in-Test c = λ vals. rw (c.in-Test.is) (c.tested.ensures vals)

pub returns-in-NetIn : goal.returns-in-NetIn
returns-in-NetIn c = λ vals. rw (c.in-NetIn.is) (tests.net_answered c.net_in.result (VPrefix c.args.around.now.net.now) (VPrefixSet c.in-NetIn.set.now) c.args.attrs.now c.net_in.ensures)
