use Rattle.std.proofs.Common.{refl}
use Rattle.core_tests.proofs.Steps.{whole_chunk}
use Rattle.core_tests.proofs.feeds.whole.Goals as goal

pub returns-clause-chunk : goal.returns-clause-chunk
returns-clause-chunk c = λ spec. whole_chunk spec _ refl refl
