use Rattle.core_machine.proofs.Making.{room_is_loop}
use Rattle.core_machine.proofs.laws.each_takes_once.Goals as goal

pub returns : goal.returns
returns c = room_is_loop
