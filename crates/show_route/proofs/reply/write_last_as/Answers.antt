use Rattle.std.proofs.lemmas.Result.{on_ok_weaker}
use Rattle.show_route.proofs.ReplyPieces.{last_written}
use Rattle.show_route.proofs.reply.write_last_as.Goals as goal

pub returns : goal.returns
returns c =
    on_ok_weaker c.write_number.result
    (last_written c.args.path.now _ c.in-Some.last.now c.args.out.now.items _ _ (c.in-Some.ensures.cases).0 c.in_ok-extend_from_slice.ensures.items)
    c.write_number.ensures.written
