use Rattle.sys_build.specs.Setups.{setup_of}
use Rattle.phases_out.specs.Written.{ArePlayed}
use Rattle.phases_out.proofs.Writing.{ends_before, none_played}
use Rattle.birdcore_top.specs.Given.{phases_read, setup_read}
use Rattle.birdcore_top.proofs.play.play_coded.Goals as goal

pub returns-in-Err : goal.returns-in-Err
returns-in-Err g c =
    let setup = setup_read c.args.system.now c.args.script c.args.cells in
    let actors = c.args.script.actors.items in
    ends_before (ArePlayed setup actors) (none_played setup actors) (phases_read c.args.script) c.args.form _ _

pub build-requires-clause-before : goal.build-requires-clause-before
build-requires-clause-before g c = rw c.as_slice.ensures.value c.requires.before

pub play_all-requires : goal.play_all-requires
unfolding setup_of
play_all-requires g c = (setup_read c.args.system.now c.args.script c.args.cells, (rw c.as_slice.ensures.value at c.in-Ok.ensures) c.deref.result.now, c.requires.asked, c.requires.fits)

pub returns : goal.returns
returns g c =
    rw c.deref.ensures.value at (c.play_all.ensures (setup_read c.args.system.now c.args.script c.args.cells) ((rw c.as_slice.ensures.value at c.in-Ok.ensures) c.deref.result.now))
