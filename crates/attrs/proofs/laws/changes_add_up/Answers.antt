use Rattle.attrs.proofs.Histories.{after-append}
use Rattle.attrs.proofs.laws.changes_add_up.Goals as goal

pub returns : goal.returns
returns c = after-append
