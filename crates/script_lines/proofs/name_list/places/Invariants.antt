use Rattle.std.proofs.Common.{take}
use Rattle.script_lines.specs.NamePlaces.{ArePlaces}
use Rattle.script_lines.proofs.name_list.places.Given as goal

abbrev pub invariant-loop-number : goal.invariant-loop-number
invariant-loop-number l = ArePlaces (take l.number l.names) l.places.entries
