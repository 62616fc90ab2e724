use Rattle.sys_run.proofs.Played.{play_of}
use Rattle.sys_run.proofs.laws.played_is_a_play.Goals as goal

pub returns : goal.returns
returns g c = play_of g.J.Judge.verdict
