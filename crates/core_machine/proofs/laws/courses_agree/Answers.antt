use Rattle.core_machine.proofs.Courses.{agree}
use Rattle.core_machine.proofs.laws.courses_agree.Goals as goal

pub returns : goal.returns
returns c = agree
