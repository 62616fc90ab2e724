use Rattle.run_tables.proofs.Stretches.{renew_begins, renew_is}
use Rattle.run_tables.proofs.channel.refresh.Goals as goal

pub feed-requires : goal.feed-requires
feed-requires g c =
    renew_begins g.J.Judge.verdict c.args.table.now c.args.exporter.now c.refresh.new.self c.in_ok-refresh.ensures.refreshes c.requires

pub returns : goal.returns
returns g c rules d family history ch ok is up m =
    renew_is g.J.Judge.verdict c.args.table.now c.args.exporter.now c.refresh.new.self c.feed.new.exporter c.in_ok-feed.ensures.family c.in_ok-feed.ensures.fed
    rules d family history ch ok is m c.in_ok-refresh.ensures.refreshes up
