use Rattle.attrs.proofs.Shown.{Shows-one}
use Rattle.attrs.proofs.laws.shown_by_one.Goals as goal

pub returns : goal.returns
returns c = Shows-one
