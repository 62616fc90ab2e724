use Rattle.std.proofs.Common.{map}
use Rattle.conf_system.specs.contracts.passes.PassesJudge.TheImpl as passes
use Rattle.conf_system.specs.Seen.{filter_says, system_of}
use Rattle.sys_run.specs.Parts.{protocol_seen}
use Rattle.sys_build.proofs.Few.{parts_few}
use Rattle.sys_build.proofs.Handed.{handed}
use Rattle.sys_build.proofs.whole.parts.Goals as goal

pub protocols-requires-clause-few : goal.protocols-requires-clause-few
protocols-requires-clause-few c = c.configurations_have_few_protocols.ensures c.requires.playable.0 (system_of c.args.system.now) c.requires.playable.1

pub returns-clause-setup : goal.returns-clause-setup
returns-clause-setup c = λ cells queries.
    handed (passes.ghosts).verdict _ _ _ (system_of c.args.system.now) cells (map (filter_says c.args.system.now) c.args.conditions.now) queries c.in_ok-tables.ensures c.in_ok-protocols.ensures c.in_ok-choices.ensures

pub returns-clause-few : goal.returns-clause-few
returns-clause-few c =
    let system = system_of c.args.system.now in
    parts_few (protocol_seen (passes.ghosts).verdict) _ system.protocols c.in_ok-protocols.ensures (c.configurations_have_few_protocols.ensures c.requires.playable.0 system c.requires.playable.1)
