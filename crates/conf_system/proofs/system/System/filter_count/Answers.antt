use Rattle.std.proofs.Common.{map, arith}
use Rattle.std.proofs.lemmas.List.{length-map}
use Rattle.conf_system.specs.Seen.{filter_says}
use Rattle.conf_system.proofs.ByNumber.{count_of}
use Rattle.conf_system.proofs.system.System.filter_count.Goals as goal

pub returns : goal.returns
returns c =
    let held = c.args.self.now in
    omega (
      arith,
      count_of (map (λ name. name.items) held.checked.declared.filters.keys) (map (filter_says held) held.checked.filters.items),
      length-map held.checked.declared.filters.keys (λ name. name.items),
      length-map held.checked.filters.items (filter_says held),
      c.len-names.ensures.len,
      c.min.ensures,
    )
