use Rattle.phases_out.specs.Written.{ArePlayed}
use Rattle.phases_out.proofs.Writing.{none_played, not_begun}
use Rattle.birdcore_top.specs.Given.{phases_read, setup_read}
use Rattle.birdcore_top.proofs.play.play_phases.Goals as goal

pub returns-in_default-clause-begun : goal.returns-in_default-clause-begun
returns-in_default-clause-begun g c = λ is.
    let setup = setup_read c.args.system.now c.args.script c.args.cells in
    not_begun (ArePlayed setup c.args.script.actors.items) (none_played setup c.args.script.actors.items) (phases_read c.args.script) c.args.form _

pub returns-in-Err-clause-begun : goal.returns-in-Err-clause-begun
returns-in-Err-clause-begun g c = λ is.
    let setup = setup_read c.args.system.now c.args.script c.args.cells in
    not_begun (ArePlayed setup c.args.script.actors.items) (none_played setup c.args.script.actors.items) (phases_read c.args.script) c.args.form _
