use Rattle.std.proofs.Common.{◌≡◌, ◌++◌, length}
use Rattle.bits_ip.specs.Out.{Kept}
use Rattle.outside_io.specs.Stream.{Follows, taken_text}
use Rattle.outside_io.proofs.stream.Stream.put_in_parts.Given as goal

abbrev pub invariant-loop-rest : goal.invariant-loop-rest
invariant-loop-rest g l = record {
  taken : taken_text l.self ++ l.rest ≡ taken_text l.fn.self ++ l.piece;
  kept : Kept (Follows g.K.Sink.contents g.K.Sink.faults) l.fn.self l.self;
}

abbrev pub decreases-loop-rest : goal.decreases-loop-rest
decreases-loop-rest g l = length l.rest
