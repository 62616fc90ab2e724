use Rattle.attrs.proofs.Rows.{order_sorted}
use Rattle.attrs.proofs.laws.order_is_sorted.Goals as goal

pub returns : goal.returns
returns c = order_sorted
