use Rattle.show_route.proofs.Expected.{reply-some}
use Rattle.show_route.proofs.laws.each_query_has_a_reply.Goals as goal

pub returns : goal.returns
returns c = reply-some
