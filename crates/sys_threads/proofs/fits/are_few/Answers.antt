use Rattle.std.proofs.Common.{arith}
use Rattle.std.proofs.lemmas.Bool.{false≢true, leb-true}
use Rattle.sys_threads.proofs.fits.are_few.Goals as goal

pub count_channels-requires : goal.count_channels-requires
count_channels-requires g c = omega (arith, c.if-protocols-le512.true)

pub returns-then-protocols-le512 : goal.returns-then-protocols-le512
returns-then-protocols-le512 g c = λ ok. record {
  protocols_few = c.if-protocols-le512.true;
  channels_few = λ tables. let few = leb-true c.count_channels.result 512 ok in let same = c.count_channels.ensures tables in omega (arith, few, same);
}

pub returns-else-protocols-le512 : goal.returns-else-protocols-le512
returns-else-protocols-le512 g c = λ ok. absurd (false≢true ok)
