use Rattle.run_tables.proofs.Stretches.{rise_begins, rise_is}
use Rattle.run_tables.proofs.channel.open.Goals as goal

pub feed-requires : goal.feed-requires
feed-requires g c =
    rise_begins g.J.Judge.verdict c.args.table.now c.args.exporter.now c.up.new.self c.head.result c.head.ensures c.in_ok-up.ensures.begins c.requires

pub returns : goal.returns
returns g c rules d family history ch ok is shut m =
    rise_is g.J.Judge.verdict c.args.table.now c.args.exporter.now c.up.new.self c.feed.new.exporter c.in_ok-feed.ensures.family c.in_ok-feed.ensures.fed
    rules d family history ch ok is m c.head.result c.head.ensures c.in_ok-up.ensures.begins
