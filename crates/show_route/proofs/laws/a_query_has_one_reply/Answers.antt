use Rattle.show_route.proofs.Expected.{reply-one}
use Rattle.show_route.proofs.laws.a_query_has_one_reply.Goals as goal

pub returns : goal.returns
returns c = reply-one
