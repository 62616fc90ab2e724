use Rattle.std.proofs.Common.{◌∙◌, sym, ap, Some, map}
use Rattle.conf_system.specs.Policies.{Filter}
use Rattle.conf_system.proofs.ByNumber.{number_says}
use Rattle.conf_system.proofs.system.System.numbered.Goals as goal

pub returns : goal.returns
returns c =
    let held = c.args.self.now in
    number_says held.checked.declared.scope held.checked.filters.items held.names (map (λ name. name.items) held.checked.declared.filters.keys) held.checked.filters.items c.args.number c.requires.number
    ∙ ap (λ (f : Filter). Some f) (sym c.by_number.ensures)
