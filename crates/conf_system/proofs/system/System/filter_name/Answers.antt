use Rattle.std.proofs.Common.{◌∙◌, sym, ap, ℕ, List, Some, map, arith}
use Rattle.std.proofs.lemmas.List.{length-map}
use Rattle.conf_system.specs.Seen.{filter_says}
use Rattle.conf_system.proofs.ByNumber.{below_both, got_seen, name_at, none_past}
use Rattle.conf_system.proofs.system.System.filter_name.Goals as goal

pub unreachable-requires : goal.unreachable-requires
unreachable-requires c =
    let held = c.args.self.now in
    let keys = held.checked.declared.filters.keys in
    let less = below_both (map (λ name. name.items) keys) (map (filter_says held) held.checked.filters.items) c.args.number c.requires in
    none_past keys c.args.number c.in-None.ensures.key (omega (arith, less.0, length-map keys (λ name. name.items)))

pub returns : goal.returns
returns c =
    let held = c.args.self.now in
    let keys = held.checked.declared.filters.keys in
    name_at (map (λ name. name.items) keys) (map (filter_says held) held.checked.filters.items) c.args.number c.as_slice.result.now c.requires
    (got_seen (λ name. name.items) keys c.args.number c.in-Some.name.now (sym c.in-Some.ensures.key) ∙ ap (λ (n : List ℕ). Some n) (sym c.as_slice.ensures.value))
