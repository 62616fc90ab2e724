use Rattle.std.proofs.Common.{◌∙◌, sym, ap}
use Rattle.std.specs.Option.{option_copied_mut}
use Rattle.import_core.proofs.Keeping.{written_nowhere, written_there}
use Rattle.import_core.proofs.nets.write_one.Goals as goal

pub returns-in-Some : goal.returns-in-Some
returns-in-Some c =
    (c.get_mut.follows.holds (record { route = c.in-Some.held.now.route; accepted = c.args.decision.1 })).0
    ∙ written_there c.args.decision.0 c.args.decision.1 c.args.nets.now.entries c.in-Some.held.now (sym c.get_mut.ensures.value ∙ ap option_copied_mut c.in-Some.is)

pub returns-in_default : goal.returns-in_default
returns-in_default c =
    ap (λ m. m.entries) c.get_mut.follows.holds-at-none
    ∙ written_nowhere c.args.decision.0 c.args.decision.1 c.args.nets.now.entries (sym c.get_mut.ensures.value ∙ ap option_copied_mut c.in_default.is)
