use Rattle.filt_route.specs.Seen.{around_in}
use Rattle.filt_route.proofs.questions.answered.Goals as goal

pub returns-in_ok-holds-in-Test : goal.returns-in_ok-holds-in-Test
returns-in_ok-holds-in-Test c = λ vals. rw (c.in-Test.is) (c.in_ok-holds-in-Test.ensures (around_in c.args.around.now) vals)
