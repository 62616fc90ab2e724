use Rattle.attrs.proofs.Rows.{IsBest-one}
use Rattle.attrs.proofs.laws.best_is_one.Goals as goal

pub returns : goal.returns
returns c = IsBest-one
