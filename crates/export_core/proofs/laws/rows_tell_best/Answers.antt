use Rattle.export_core.proofs.Contents.{rows_told}
use Rattle.export_core.proofs.laws.rows_tell_best.Goals as goal

pub returns : goal.returns
returns c = rows_told
