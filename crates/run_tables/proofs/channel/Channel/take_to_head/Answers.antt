use Rattle.std.proofs.Common.{ℕ, Some, subst, ◌∙◌}
use Rattle.core_machine.specs.Channels.{take_one, times}
use Rattle.run_tables.specs.Channels.{IsChannel, if_up}
use Rattle.run_tables.proofs.Journals.{head_is}
use Rattle.run_tables.proofs.channel.Channel.take_to_head.Goals as goal

pub returns : goal.returns
returns g c rules d family history ch is m =
    subst (λ (n : ℕ). IsChannel g.J.Judge.verdict rules d (Some family) history c.take_many.new.self (if_up (times n (take_one rules d history)) ch))
    (c.head.ensures ∙ head_is rules family history c.args.table.now is) (c.in_ok-take_many.ensures rules d family history ch is m)
