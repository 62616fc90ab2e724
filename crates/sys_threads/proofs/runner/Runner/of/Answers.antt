use Rattle.std.proofs.Common.{arith, map, refl}
use Rattle.sys_run.specs.Parts.{table_seen}
use Rattle.sys_threads.proofs.Resting.{few_parts, few_tables, has_run}
use Rattle.sys_threads.proofs.runner.Runner.of.Goals as goal

pub stand_first-requires-clause-tables : goal.stand_first-requires-clause-tables
stand_first-requires-clause-tables g c = let most = few_tables g.J.Judge.verdict c.args.parts c.args.actors c.requires.few in omega (arith, most)

pub stand_first-requires-clause-few : goal.stand_first-requires-clause-few
stand_first-requires-clause-few g c = let most = few_parts g.J.Judge.verdict c.args.parts c.args.actors c.requires.few in omega (arith, most)

pub stand_first-requires-clause-fits : goal.stand_first-requires-clause-fits
stand_first-requires-clause-fits g c = (c.args.parts.cells, c.args.parts.choices.now, c.args.parts.queries.now.items, c.requires.setup)

pub count_channels-channels-requires : goal.count_channels-channels-requires
count_channels-channels-requires g c = let most = few_parts g.J.Judge.verdict c.args.parts c.args.actors c.requires.few in omega (arith, most)

pub statics_of-requires : goal.statics_of-requires
statics_of-requires g c = let most = few_parts g.J.Judge.verdict c.args.parts c.args.actors c.requires.few in omega (arith, most)

pub returns : goal.returns
returns g c = λ names same.
    let parts = c.args.parts in
    has_run g.J.Judge.verdict c.nothing_was_printed_before.ensures
    (record {
      alloc = c.args.alloc;
      parts = parts;
      actors = c.args.actors;
      channels = c.count_channels-channels.result;
      names = c.in_ok-copy_names.field-0;
      logged = c.in_ok-none_logged.field-0;
      earlier = c.new.result;
      standing = c.in_ok-standing.standing;
      statics = c.in_ok-statics_of.field-0;
    }) c.args.actors (record {
      fits = c.requires.setup;
      few = c.requires.few;
      stands = λ lines count. c.in_ok-standing.ensures.stands parts.cells parts.choices.now parts.queries.now.items lines count c.requires.setup;
      first = c.in_ok-standing.ensures.first;
      actors_are = refl;
      channels_are = c.count_channels-channels.ensures (map table_seen parts.tables.now);
      names_are = c.in_ok-copy_names.ensures;
      logged_are = c.in_ok-none_logged.ensures;
      earlier = c.new.ensures.items;
      starts_are = c.in_ok-statics_of.ensures.starts;
      statics = c.in_ok-statics_of.ensures.there;
    }) names same
