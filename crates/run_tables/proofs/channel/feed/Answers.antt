use Rattle.run_tables.proofs.Feeding.{feed_ends, feed_family, feed_here, feed_later, feed_range}
use Rattle.run_tables.proofs.channel.feed.Goals as goal

pub fed-requires-clause-stays : goal.fed-requires-clause-stays
fed-requires-clause-stays g c = c.requires.begun.rest

pub fed-requires-clause-here : goal.fed-requires-clause-here
fed-requires-clause-here g c = feed_here g.J.Judge.verdict c.args.table.now c.args.exporter.now c.requires c.in_ok-chunk.chunk c.in_ok-chunk.ensures

pub fed-requires-clause-later : goal.fed-requires-clause-later
fed-requires-clause-later g c = feed_later g.J.Judge.verdict c.args.table.now c.args.exporter.now c.requires c.in_ok-chunk.chunk c.in_ok-chunk.ensures

pub fed-requires-clause-chunk : goal.fed-requires-clause-chunk
fed-requires-clause-chunk g c = feed_range g.J.Judge.verdict c.args.table.now c.args.exporter.now c.requires c.in_ok-chunk.chunk c.in_ok-chunk.ensures

pub fed-requires-clause-family : goal.fed-requires-clause-family
fed-requires-clause-family g c = feed_family g.J.Judge.verdict c.args.table.now c.args.exporter.now c.requires c.in_ok-chunk.chunk c.in_ok-chunk.ensures

pub returns-clause-fed : goal.returns-clause-fed
returns-clause-fed g c =
    feed_ends g.J.Judge.verdict c.args.table.now c.args.exporter.now c.fed.new.self c.in_ok-chunk.chunk c.in_ok-chunk.ensures c.in_ok-fed.ensures.feeds c.requires.feed_is
