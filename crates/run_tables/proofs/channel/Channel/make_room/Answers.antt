use Rattle.std.proofs.Common.{Some, sym, ◌∙◌}
use Rattle.run_tables.proofs.Journals.{head_is}
use Rattle.run_tables.proofs.Kept.{room_taken, room_there}
use Rattle.run_tables.proofs.channel.Channel.make_room.Goals as goal

pub returns-in_ok-take : goal.returns-in_ok-take
returns-in_ok-take g c rules d family history ch cells is m =
    let same = c.lags.ensures rules d family history ch (c.head.ensures ∙ head_is rules family history c.args.table.now is) cells m in
    room_taken g.J.Judge.verdict rules d history (Some family) c.take.new.self ch (sym same ∙ c.if-lags.true)
    (c.in_ok-take.ensures rules d family history ch is m)

pub returns-else-lags : goal.returns-else-lags
returns-else-lags g c rules d family history ch cells is m =
    let same = c.lags.ensures rules d family history ch (c.head.ensures ∙ head_is rules family history c.args.table.now is) cells m in
    room_there g.J.Judge.verdict rules d history (Some family) c.args.self.now ch (sym same ∙ c.if-lags.false) m
