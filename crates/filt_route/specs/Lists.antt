-- For private contracts alone: the lists of a route while a filter runs, as the definitions see
-- them.
use Rattle.std.specs.Prelude.{ℕ, List}
use Rattle.filt_route.specs.declared.running.Numbers.{Numbers}
use Rattle.filt_route.specs.declared.running.Numbers.TheVariants as numbers
use Rattle.filt_route.specs.declared.running.Pairs.{Pairs}
use Rattle.filt_route.specs.declared.running.Pairs.TheVariants as pairs

abbrev pub numbers_of : Numbers → List ℕ
numbers_of (numbers.Lent path) = path.now
numbers_of (numbers.Made path) = path

abbrev pub pairs_of : Pairs → List (ℕ × ℕ)
pairs_of (pairs.Lent list) = list.now
pairs_of (pairs.Made list) = list
