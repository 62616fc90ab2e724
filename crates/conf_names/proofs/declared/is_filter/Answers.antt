use Rattle.std.proofs.Common.{◌∙◌}
use Rattle.filt_types.proofs.Lookups.{is_among}
use Rattle.conf_names.proofs.declared.is_filter.Goals as goal

pub returns : goal.returns
returns c text = c.contains.ensures ∙ is_among c.args.name.now c.args.declared.now.filters.keys
