use Rattle.std.proofs.Common.{take}
use Rattle.room_run.specs.Inside.{AreNew, AreStartSeats, HaveStarted}
use Rattle.room_ends.specs.Played.{starts_of}
use Rattle.room_run.proofs.starting.start_all.Given as goal

abbrev pub invariant-loop-index : goal.invariant-loop-index
invariant-loop-index g l = record {
  seats : AreStartSeats g.P.Phase.terms l.room l.starters.items l.passes.items;
  actors : AreNew g.P.Phase.terms l.room l.actors.items;
  started : HaveStarted (g.P.Phase.terms l.room.played.value).starter (starts_of (take l.index l.numbers)) l.starters.items;
}
