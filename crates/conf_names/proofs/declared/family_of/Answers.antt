use Rattle.std.proofs.Common.{◌∙◌}
use Rattle.bits_ip.specs.declared.address.Family.{Family}
use Rattle.filt_types.proofs.Lookups.{looked_up}
use Rattle.conf_names.proofs.Wholes.{option_same}
use Rattle.conf_names.proofs.declared.family_of.Goals as goal

pub returns : goal.returns
returns c text = c.copied.ensures ∙ c.get.ensures.value ∙ option_same _ ∙ looked_up (λ (f : Family). f) c.args.name.now c.args.declared.now.tables.entries
