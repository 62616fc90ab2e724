use Rattle.std.proofs.Common.{map}
use Rattle.phases_out.specs.Inside.{PlayedBy}
use Rattle.phases_out.specs.Written.{ArePlayed}
use Rattle.phases_out.proofs.Writing.{ends_whole, is_play}
use Rattle.phases_out.proofs.play.play_all.Goals as goal

pub play_each-requires : goal.play_each-requires
play_each-requires g c = c.requires

pub returns-in-Ok : goal.returns-in-Ok
returns-in-Ok g c = λ setup start.
    ends_whole (ArePlayed setup c.args.actors.now) (map (λ phase. phase.items) c.args.phases.items) c.args.form _ _ _ _ c.write_end.result setup
    (PlayedBy g.J.Judge.verdict setup c.args.actors.now _) (is_play g.J.Judge.verdict setup c.args.actors.now _) _ (c.in-Ok.ensures.played setup start) _ c.in-Ok.ensures.later
    c.write_end.ensures.end c.write_end.ensures.whole c.write_end.ensures.front c.write_end.ensures.write

pub returns-in-Err : goal.returns-in-Err
returns-in-Err g c = λ setup start. c.in-Err.ensures.ends setup start
