use Rattle.std.proofs.Common.{refl}
use Rattle.run_tables.proofs.Kept.{take_kept, taker_here, taker_over}
use Rattle.run_tables.proofs.channel.Channel.take.Goals as goal

pub take_next-requires-clause-over : goal.take_next-requires-clause-over
take_next-requires-clause-over g c = taker_over g.J.Judge.verdict c.args.table.now c.args.self.now c.in-Some.position c.in-Some.is c.requires

pub take_next-requires-clause-here : goal.take_next-requires-clause-here
take_next-requires-clause-here g c = taker_here g.J.Judge.verdict c.args.table.now c.args.self.now c.in-Some.position c.in-Some.is c.requires

pub returns : goal.returns
returns g c rules d family history ch is m =
    take_kept g.J.Judge.verdict rules d history _ c.args.self.now _ ch c.in-Some.position c.in-Some.is refl refl m c.in_ok-take_next.field-0 refl
    (λ up e. c.in_ok-take_next.ensures rules d family history ch is up e)
