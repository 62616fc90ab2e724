use Rattle.std.proofs.Common.{arith}
use Rattle.std.specs.Prelude.{vec_len}
use Rattle.std.proofs.lemmas.Option.{slice_get_read}
use Rattle.pipe_rest.proofs.Goes.{back_can, member_among, out_can}
use Rattle.pipe_rest.specs.declared.member.MemberLeft.TheVariants.{Pipe}
use Rattle.room_rounds.proofs.pipes.settle_pipe.Goals as goal

pub settle_directions-requires-clause-out : goal.settle_directions-requires-clause-out
settle_directions-requires-clause-out g c =
    let tables = c.args.tables.now in
    let pipe = c.args.pipe in
    let among = member_among g.J.Judge.verdict c.args.sources.now tables.items (Pipe pipe) c.requires in
    let first = among.0 in
    let second = among.1 in
    let ok = tables.ok.0 in
    out_can g.J.Judge.verdict c.args.sources.now tables.items pipe c.requires c.index-here.result.now c.index-there.result.now
    (slice_get_read tables.items (vec_len tables) pipe.primary c.index-here.result.now tables.ok.0 (omega (arith, first, ok)) c.index-here.ensures)
    (slice_get_read tables.items (vec_len tables) pipe.peer c.index-there.result.now tables.ok.0 (omega (arith, second, ok)) c.index-there.ensures)

pub settle_directions-requires-clause-back : goal.settle_directions-requires-clause-back
settle_directions-requires-clause-back g c =
    let tables = c.args.tables.now in
    let pipe = c.args.pipe in
    let among = member_among g.J.Judge.verdict c.args.sources.now tables.items (Pipe pipe) c.requires in
    let first = among.0 in
    let second = among.1 in
    let ok = tables.ok.0 in
    back_can g.J.Judge.verdict c.args.sources.now tables.items pipe c.requires c.index-here.result.now c.index-there.result.now
    (slice_get_read tables.items (vec_len tables) pipe.primary c.index-here.result.now tables.ok.0 (omega (arith, first, ok)) c.index-here.ensures)
    (slice_get_read tables.items (vec_len tables) pipe.peer c.index-there.result.now tables.ok.0 (omega (arith, second, ok)) c.index-there.ensures)
