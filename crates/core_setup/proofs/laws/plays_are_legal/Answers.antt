use Rattle.core_setup.proofs.Playing.{play_is_legal}
use Rattle.core_setup.proofs.laws.plays_are_legal.Goals as goal

pub returns : goal.returns
returns c = play_is_legal c.levels_give_ways.ensures c.phases_are_legal.ensures
