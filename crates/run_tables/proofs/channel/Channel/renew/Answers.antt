use Rattle.std.proofs.Common.{Some, refl}
use Rattle.std.proofs.lemmas.Result.{on_ok_weaker}
use Rattle.run_tables.proofs.Kept.{reader_over, renewed_is}
use Rattle.run_tables.proofs.channel.Channel.renew.Goals as goal

pub refresh-requires : goal.refresh-requires
refresh-requires g c = reader_over g.J.Judge.verdict c.args.table.now c.args.self.now _ c.requires

pub returns : goal.returns
returns g c = on_ok_weaker c.refresh.result (λ fed rules d family history ch ok is up m.
    renewed_is g.J.Judge.verdict rules d history (Some family) c.args.self.now _ ch refl refl refl m
    (fed rules d family history ch ok is up m.exporter)) c.refresh.ensures
