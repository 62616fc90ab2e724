use Rattle.std.proofs.Common.{◌∙◌, ap, refl}
use Rattle.phase_room.specs.First.{new_exporter}
use Rattle.room_first.proofs.own.stand_channel.Goals as goal

pub returns : goal.returns
returns g c = record {
  number = refl;
  judge = c.of.result;
  filter = c.of.ensures;
  exporter = c.make-exporter.ensures ∙ ap (λ spec. new_exporter spec c.of.result) c.in_ok-spec.ensures;
}
