use Rattle.export_core.proofs.Contents.{course_routes}
use Rattle.export_core.proofs.laws.course_tells_routes.Goals as goal

pub returns : goal.returns
returns c = course_routes
