use Rattle.std.proofs.Common.{map}
use Rattle.sys_run.specs.Scripts.{phase_of}
use Rattle.phases_out.specs.Written.{ArePlayed, AreRun}
use Rattle.phases_out.proofs.Writing.{ends_so}
use Rattle.birdcore_top.specs.Given.{phases_read, setup_read}
use Rattle.birdcore_top.proofs.run.run_coded.Goals as goal

pub returns-in-Some : goal.returns-in-Some
returns-in-Some g c = c.in-Some.ensures

pub returns-in-None : goal.returns-in-None
returns-in-None g c =
    let setup = setup_read c.args.system.now c.args.script c.args.cells in
    let actors = c.args.script.actors.items in
    rw c.in-None.ensures at
    (ends_so (ArePlayed setup actors) (phases_read c.args.script) c.args.form _ _ _ _ c.play_coded.result (AreRun setup actors)
    (λ phases reports are. c.plays_are_legal.ensures setup actors (map (phase_of setup.queries) phases) reports c.requires.setup are) c.play_coded.ensures)
