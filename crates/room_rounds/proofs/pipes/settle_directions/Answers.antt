use Rattle.room_rounds.proofs.pipes.settle_directions.Goals as goal

pub settle_direction-requires : goal.settle_direction-requires
settle_direction-requires g c = c.requires.out

pub settle_direction-requires-2 : goal.settle_direction-requires-2
settle_direction-requires-2 g c = c.requires.back
