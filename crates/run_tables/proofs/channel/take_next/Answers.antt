use Rattle.std.proofs.Common.{sym, ap, ◌∙◌}
use Rattle.std.specs.Prelude.{option_copied}
use Rattle.run_tables.proofs.Steps.{end_is, take_is}
use Rattle.run_tables.proofs.channel.take_next.Goals as goal

pub returns-in_ok-take-in-Some : goal.returns-in_ok-take-in-Some
returns-in_ok-take-in-Some g c rules c_ family history ch is up m =
    take_is g.J.Judge.verdict rules c_ history family c.args.table.now c.args.position c.args.exporter.now ch is up c.requires.here m _ _
    (sym c.entry.ensures ∙ ap option_copied c.in-Some.is) c.in_ok-take-in-Some.ensures.takes

pub returns-in-None : goal.returns-in-None
returns-in-None g c rules c_ family history ch is up m =
    end_is g.J.Judge.verdict rules c_ history family c.args.table.now c.args.position c.args.exporter.now ch is up c.requires.here m
    (sym c.entry.ensures ∙ ap option_copied c.in-None.is)
