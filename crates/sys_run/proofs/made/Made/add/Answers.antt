use Rattle.std.proofs.Common.{length, map, refl}
use Rattle.sys_run.specs.Parts.{table_seen}
use Rattle.sys_run.proofs.MakingProtocols.{made_more}
use Rattle.sys_run.proofs.made.Made.add.Goals as goal

pub returns-clause-made : goal.returns-clause-made
returns-clause-made g c = λ earlier lists is left.
    let mid = c.add_body.new.self in
    made_more g.J.Judge.verdict (map table_seen c.args.tables.now) lists earlier c.args.protocol c.args.self.now mid
    (record { names = c.push.new.self; protocols = mid.protocols; channels = mid.channels; channel_names = mid.channel_names; sources = mid.sources })
    (length c.args.self.now.names.items) refl is (c.in_ok-add_body.ensures.adds lists left) c.in_ok-push.ensures.items refl refl refl refl

pub returns-clause-left : goal.returns-clause-left
returns-clause-left g c = λ lists left. c.in_ok-add_body.ensures.left lists left
