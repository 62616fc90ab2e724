use Rattle.std.proofs.Common.{None, Some, refl}
use Rattle.run_tables.proofs.Kept.{push_kept}
use Rattle.run_tables.proofs.Steps.{push_is, push_tells}
use Rattle.run_tables.proofs.channel.Channel.push.Goals as goal

pub push_one-requires-clause-stays : goal.push_one-requires-clause-stays
push_one-requires-clause-stays g c = c.requires.channel.exporter.matches.rest

pub returns-in-Ok-clause-pushes : goal.returns-in-Ok-clause-pushes
returns-in-Ok-clause-pushes g c rules d family history ch m =
    push_kept g.J.Judge.verdict rules d history (Some family) c.args.self.now _ ch refl refl refl m
    (push_is g.J.Judge.verdict rules d history (Some family) c.in-Ok.pushed None None _ _ ch c.in-Ok.ensures.pushes m.exporter)

pub returns-in-Ok-clause-tells : goal.returns-in-Ok-clause-tells
returns-in-Ok-clause-tells g c = λ rules d family history ch table is m.
    push_tells g.J.Judge.verdict rules d history family table is _ ch m.exporter c.in-Ok.ensures.families c.in-Ok.pushed None None _ c.in-Ok.ensures.pushes
