use Rattle.std.proofs.Common.{◌∙◌, ap, refl}
use Rattle.export_core.specs.Calls.{begun}
use Rattle.room_first.proofs.pipes.stand_direction.Goals as goal

pub returns : goal.returns
returns g c = record {
  number = refl;
  judge = c.of.result;
  same = c.of.ensures;
  exporter = c.in_ok-up.ensures.begins ∙ ap (begun 0) c.make-exporter.ensures;
}
