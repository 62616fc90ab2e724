use Rattle.std.proofs.Common.{length, refl, sym, ap, ◌∙◌}
use Rattle.sys_run.proofs.MakingWays.{within_moved}
use Rattle.sys_run.proofs.made.pass_source.Goals as goal

pub ways_from-requires : goal.ways_from-requires
ways_from-requires c = (length c.args.passed.now.items, c.requires)

pub pass_all-requires : goal.pass_all-requires
pass_all-requires c =
    within_moved c.args.tables (length c.deref.result.now) (length c.args.passed.now.items) (length c.args.passed.now.items) c.args.directions.now c.args.directions.now
    (sym (ap length c.deref.ensures.value ∙ c.in_ok-found.ensures.count)) refl refl c.requires
