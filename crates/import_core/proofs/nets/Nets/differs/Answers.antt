use Rattle.std.proofs.Common.{◌∙◌, sym, ap}
use Rattle.std.specs.Prelude.{option_copied}
use Rattle.import_core.specs.Held.{Kept, accepted_of}
use Rattle.import_core.specs.Imports.{route_at}
use Rattle.import_core.proofs.Keeping.{accepted_nowhere, accepted_there}
use Rattle.import_core.proofs.Noting.{differs_nowhere, differs_there}
use Rattle.import_core.proofs.nets.Nets.differs.Goals as goal

pub returns-in-Some : goal.returns-in-Some
returns-in-Some c =
    differs_there c.is_same.result (route_at c.args.net.now c.args.self.now.accepted) (accepted_of c.in-Some.old.now) (accepted_of c.args.held.now) c.is_same.ensures
    (ap (λ (k : Kept). route_at c.args.net.now k.accepted) (sym c.self.view_is)
    ∙ accepted_there c.args.net.now c.self.inside.held.entries c.in-Some.old.now c.len-count.ensures.ordered (sym c.get.ensures.value ∙ ap option_copied c.in-Some.is))

pub returns-in-None : goal.returns-in-None
returns-in-None c =
    differs_nowhere c.is_accepted.result (route_at c.args.net.now c.args.self.now.accepted) (accepted_of c.args.held.now) c.is_accepted.ensures
    (ap (λ (k : Kept). route_at c.args.net.now k.accepted) (sym c.self.view_is)
    ∙ accepted_nowhere c.args.net.now c.self.inside.held.entries c.len-count.ensures.ordered (sym c.get.ensures.value ∙ ap option_copied c.in-None.is))
