use Rattle.run_tables.proofs.Settling.{up_settled}
use Rattle.run_tables.proofs.channel.Channel.is_settled.Goals as goal

pub returns-in-Some : goal.returns-in-Some
returns-in-Some g c rules d family history ch at is =
    up_settled g.J.Judge.verdict rules d family history c.args.self.now ch is c.in-Some.field-0 c.args.head c.is_settled.result c.in-Some.is at c.is_settled.ensures.rests
