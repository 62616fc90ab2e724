use Rattle.std.proofs.Common.{◌∙◌, ap, List, ℕ}
use Rattle.filt_meaning.specs.Seen.{val_of_fixed}
use Rattle.filt_meaning.specs.Names.{named_in}
use Rattle.filt_meaning.specs.Scopes.{constants_in}
use Rattle.filt_types.proofs.Lookups.{lent, looked_up}
use Rattle.filt_types.proofs.scene.constant_named.Goals as goal

pub returns : goal.returns
returns c = lent val_of_fixed c.get.result _ c.get.ensures.value ∙ looked_up val_of_fixed c.bytes.result.now c.args.seen.scope.now.constants.entries
    ∙ ap (λ (name : List ℕ). named_in (constants_in c.args.seen.scope.now) name) c.bytes.ensures
