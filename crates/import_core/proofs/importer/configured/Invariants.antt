use Rattle.std.proofs.Common.{◌≡◌, [], take}
use Rattle.std.specs.Prelude.{fold}
use Rattle.import_core.specs.Imports.{with_route}
use Rattle.import_core.specs.Operations.{fixed_route}
use Rattle.import_core.proofs.importer.configured.Given as goal

abbrev pub invariant-loop-fixed : goal.invariant-loop-fixed
invariant-loop-fixed l =
    l.nets
    ≡ record {
      received = fold (λ routes f. with_route f.net (fixed_route l.spec f) routes) [] (take l.fixed-index l.fixed-items);
      accepted = [];
    }
