use Rattle.std.proofs.Common.{arith}
use Rattle.std.specs.Prelude.{vec_len}
use Rattle.std.proofs.lemmas.Option.{slice_get_read}
use Rattle.core_setup.proofs.PairLemmas.{get_one, get_within}
use Rattle.room_rounds.proofs.Going.{is_reader}
use Rattle.room_rounds.proofs.own.settle_session.Goals as goal

pub settle_channel-requires : goal.settle_channel-requires
settle_channel-requires g c =
    let tables = c.args.tables.now in
    let o = c.requires.1 in
    let key = c.requires.0 in
    let inside = get_within tables.items c.args.session.table key.protocol.port o.there in
    let ok = tables.ok.0 in
    let at = slice_get_read tables.items (vec_len tables) c.args.session.table c.index.result.now tables.ok.0 (omega (arith, inside, ok)) c.index.ensures in
    is_reader g.J.Judge.verdict key.protocol key.channel key.hands c.args.session c.index.result.now o.left_is o.channel_is (get_one tables.items c.args.session.table key.protocol.port c.index.result.now o.there at)
