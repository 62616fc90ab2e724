use Rattle.attrs.proofs.Covering.{covers_tells}
use Rattle.attrs.proofs.laws.covering_is_tested.Goals as goal

pub returns : goal.returns
returns c = covers_tells
