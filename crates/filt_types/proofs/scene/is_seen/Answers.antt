use Rattle.std.proofs.Common.{◌∙◌}
use Rattle.filt_meaning.specs.Seen.{val_of_fixed}
use Rattle.filt_types.specs.Seen.{signature_of}
use Rattle.filt_types.proofs.Lookups.{or_four, is_looked_up, is_among}
use Rattle.filt_types.proofs.scene.is_seen.Goals as goal

pub returns : goal.returns
returns c = or_four c.is_variable-variable.result c.contains_key-constant.result c.contains_key-function.result c.contains-other.result _ _ _ _
    c.is_variable-variable.ensures
    (c.contains_key-constant.ensures ∙ is_looked_up val_of_fixed c.args.name.now c.args.seen.scope.now.constants.entries)
    (c.contains_key-function.ensures ∙ is_looked_up signature_of c.args.name.now c.args.seen.scope.now.functions.entries)
    (c.contains-other.ensures ∙ is_among c.args.name.now c.args.seen.scope.now.others.keys)
