use Rattle.std.proofs.Common.{Some, refl, ◌∙◌}
use Rattle.run_tables.proofs.Journals.{head_is}
use Rattle.run_tables.proofs.Kept.{reader_over, risen}
use Rattle.run_tables.proofs.channel.Channel.rise.Goals as goal

pub open-requires : goal.open-requires
open-requires g c = reader_over g.J.Judge.verdict c.args.table.now c.args.self.now _ c.requires

pub returns : goal.returns
returns g c rules d family history ch ok is shut m =
    risen g.J.Judge.verdict rules d history (Some family) c.args.self.now _ ch c.head.result (c.head.ensures ∙ head_is rules family history c.args.table.now is) refl refl refl m
    (c.in_ok-open.ensures rules d family history ch ok is shut m.exporter)
