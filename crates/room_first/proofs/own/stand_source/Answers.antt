use Rattle.std.proofs.Common.{◌∙◌, ap, refl, subst}
use Rattle.phase_room.specs.First.{new_importer}
use Rattle.room_first.specs.Inside.{AreFirstChannels}
use Rattle.room_first.proofs.own.stand_source.Goals as goal

pub returns : goal.returns
returns g c = record {
  table = refl;
  judge = c.of.result;
  filter = c.of.ensures;
  importer = c.make-importer.ensures ∙ ap (λ spec. new_importer spec c.of.result) c.in_ok-spec.ensures;
  exports = subst (λ o. AreFirstChannels g.J.Judge.verdict c.args.channel o c.in_ok-channel.channel) c.as_ref.ensures.value c.in_ok-channel.ensures;
}
