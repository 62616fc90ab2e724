use Rattle.export_core.proofs.Contents.{course_best}
use Rattle.export_core.proofs.laws.course_tells_best.Goals as goal

pub returns : goal.returns
returns c = course_best
