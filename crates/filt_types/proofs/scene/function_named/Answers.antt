use Rattle.std.proofs.Common.{◌∙◌, ap, List, ℕ}
use Rattle.filt_meaning.specs.Names.{named_in}
use Rattle.filt_types.specs.Seen.{signature_of, functions_in}
use Rattle.filt_types.proofs.Lookups.{lent, looked_up}
use Rattle.filt_types.proofs.scene.function_named.Goals as goal

pub returns : goal.returns
returns c = lent signature_of c.get.result _ c.get.ensures.value ∙ looked_up signature_of c.bytes.result.now c.args.seen.scope.now.functions.entries
    ∙ ap (λ (name : List ℕ). named_in (functions_in c.args.seen.scope.now) name) c.bytes.ensures
