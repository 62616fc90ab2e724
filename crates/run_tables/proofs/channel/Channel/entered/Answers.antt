use Rattle.std.proofs.Common.{ap, sym, ◌∙◌}
use Rattle.std.specs.Prelude.{option_copied}
use Rattle.run_tables.proofs.Entries.{same_entered, sent_last}
use Rattle.run_tables.proofs.channel.Channel.entered.Goals as goal

pub entering-requires : goal.entering-requires
entering-requires g c =
    let at = sent_last c.args.self.now.exporter.log c.items.result.now c.in-Some-Sent.field-0.now c.in-Some-Sent.sending c.items.ensures
    (sym c.last.ensures.value ∙ ap option_copied c.in-Some-Sent.is) c.in-Some-Sent.field-0-is in
    c.requires c.in-Some-Sent.sending at.0 at.1

pub returns-in-Some-Sent : goal.returns-in-Some-Sent
returns-in-Some-Sent g c =
    let at = sent_last c.args.self.now.exporter.log c.items.result.now c.in-Some-Sent.field-0.now c.in-Some-Sent.sending c.items.ensures
    (sym c.last.ensures.value ∙ ap option_copied c.in-Some-Sent.is) c.in-Some-Sent.field-0-is in
    same_entered c.entering.result c.args.self.now.exporter.log c.in-Some-Sent.sending c.args.sources.now at.0 at.1 c.entering.ensures
