use Rattle.filt_route.specs.Seen.{around_in}
use Rattle.filt_route.proofs.Tests as tests
use Rattle.filt_route.proofs.questions.tested.Goals as goal

pub returns-in-None : goal.returns-in-None
returns-in-None c = λ vals. tests.answered c.tested_by_operators.result (around_in c.args.around.now) c.args.what.now vals c.args.attrs.now c.tested_by_operators.ensures

pub tested_by_operators-requires : goal.tested_by_operators-requires
tested_by_operators-requires c = tests.applies (around_in c.args.around.now) c.args.what.now c.args.attrs.now c.requires
