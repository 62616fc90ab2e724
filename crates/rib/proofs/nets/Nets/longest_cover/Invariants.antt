use Rattle.rib.specs.Entries.{rows_of}
use Rattle.rib.proofs.Longest.{IsBare}
use Rattle.rib.proofs.nets.Nets.longest_cover.Given as goal

abbrev pub invariant-loop-gone : goal.invariant-loop-gone
invariant-loop-gone l = IsBare l.fn.asked (rows_of l.fn.self) l.gone
