use Rattle.std.proofs.Common.{length}
use Rattle.std.proofs.lemmas.Bool.{leb-true, ltb-true}
use Rattle.sys_threads.proofs.Turns.{all_four}
use Rattle.std.specs.Prelude.{nat_le, nat_lt}
use Rattle.sys_threads.proofs.fits.has_seats.Goals as goal

pub returns : goal.returns
returns g c = λ ok.
    let parts = c.args.parts.now in
    let tables = length parts.tables.now in
    let all = all_four (nat_lt 0 parts.cells) (nat_le parts.cells 4096) (nat_le tables 1024) (nat_lt c.args.actors 1024) ok in
    record {
      tables = leb-true tables 1024 all.2;
      cells = (ltb-true 0 parts.cells all.0, leb-true parts.cells 4096 all.1);
      seats = ltb-true c.args.actors 1024 all.3;
    }
