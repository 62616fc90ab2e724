use Rattle.attrs.proofs.Histories.{IsReal-push}
use Rattle.attrs.proofs.laws.real_changes_add_up.Goals as goal

pub returns : goal.returns
returns c = IsReal-push
