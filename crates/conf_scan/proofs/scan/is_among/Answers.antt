use Rattle.std.proofs.Common.{List, ℕ, Bor, rules}
use Rattle.std.specs.Bool.{nat_eq}
use Rattle.std.specs.Cmp.Lexicographic.{pointwise}
use Rattle.std.proofs.lemmas.Iterator.{YieldsList-from_slice}
use Rattle.std.proofs.lemmas.Iterator.Search.{any_from_yields_List}
use Rattle.conf_scan.proofs.scan.is_among.Goals as goal

pub returns : goal.returns
returns c =
    any_from_yields_List (λ (sign : Bor (List ℕ)). pointwise nat_eq c.args.bytes.now sign.now) _ _ _ c.any.ensures.ran (YieldsList-from_slice c.args.signs.now cc)
    (λ x b q k. search rules)
