use Rattle.std.proofs.Common.{◌∙◌, sym, ap, is_some}
use Rattle.std.specs.Prelude.{option_copied}
use Rattle.import_core.specs.Held.{Kept}
use Rattle.import_core.specs.Imports.{has_net}
use Rattle.import_core.proofs.Keeping.{accepted_nowhere, accepted_there}
use Rattle.import_core.proofs.nets.Nets.is_accepted.Goals as goal

pub returns-in-Some : goal.returns-in-Some
returns-in-Some c =
    c.is_accepted.ensures
    ∙ sym (ap is_some (accepted_there c.args.net.now c.self.inside.held.entries c.in-Some.held.now c.len-count.ensures.ordered (sym c.get.ensures.value ∙ ap option_copied c.in-Some.is)))
    ∙ ap (λ (k : Kept). has_net c.args.net.now k.accepted) c.self.view_is

pub returns-in-None : goal.returns-in-None
returns-in-None c =
    sym (ap is_some (accepted_nowhere c.args.net.now c.self.inside.held.entries c.len-count.ensures.ordered (sym c.get.ensures.value ∙ ap option_copied c.in-None.is)))
    ∙ ap (λ (k : Kept). has_net c.args.net.now k.accepted) c.self.view_is
