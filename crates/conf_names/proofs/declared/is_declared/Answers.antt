use Rattle.std.proofs.Common.{◌∙◌}
use Rattle.filt_meaning.specs.Seen.{val_of_fixed}
use Rattle.filt_types.specs.Seen.{signature_of}
use Rattle.filt_types.proofs.Lookups.{is_looked_up, is_among}
use Rattle.conf_names.proofs.Wholes.{or_three}
use Rattle.conf_names.proofs.declared.is_declared.Goals as goal

pub returns : goal.returns
returns c text = or_three c.contains_key-constant.result c.contains_key-function.result c.contains-other.result _ _ _
    (c.contains_key-constant.ensures ∙ is_looked_up val_of_fixed c.args.name.now c.args.declared.now.scope.constants.entries)
    (c.contains_key-function.ensures ∙ is_looked_up signature_of c.args.name.now c.args.declared.now.scope.functions.entries)
    (c.contains-other.ensures ∙ is_among c.args.name.now c.args.declared.now.scope.others.keys)
