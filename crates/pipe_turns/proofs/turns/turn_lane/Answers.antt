use Rattle.std.proofs.Common.{sym, ◌∙◌}
use Rattle.pipe_turns.proofs.turns.turn_lane.Goals as goal

pub feed-requires : goal.feed-requires
feed-requires g c = record { held = c.requires.can.held; here = c.requires.can.reads_is; feeds = sym c.is_feeding.ensures ∙ c.if-is_feeding.true }

pub take_or_push-requires : goal.take_or_push-requires
take_or_push-requires g c = record { held = c.requires.can.held; here = c.requires.can.writes_is; fed = sym c.is_feeding.ensures ∙ c.if-is_feeding.false }
