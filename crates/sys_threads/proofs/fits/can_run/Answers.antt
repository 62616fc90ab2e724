use Rattle.std.proofs.Common.{arith, map}
use Rattle.std.proofs.lemmas.List.{length-map}
use Rattle.sys_run.specs.Parts.{protocol_seen, table_seen}
use Rattle.sys_threads.proofs.Turns.{all_three}
use Rattle.sys_threads.proofs.fits.can_run.Goals as goal

pub returns-clause-few : goal.returns-clause-few
returns-clause-few g c = λ ok.
    let parts = c.args.parts.now in
    let three = all_three c.has_seats-seated.result c.are_few-few.result c.are_short-short.result ok in
    let seats = c.has_seats-seated.ensures three.0 in
    let are = c.are_few-few.ensures three.1 in
    let tables = length-map parts.tables.now table_seen in
    let protocols = length-map parts.protocols.now (protocol_seen g.J.Judge.verdict) in
    record {
      tables = let few = seats.tables in omega (arith, few, tables);
      protocols = let few = are.protocols_few in omega (arith, few, protocols);
      channels = are.channels_few (map table_seen parts.tables.now);
      cells = seats.cells;
      seats = seats.seats;
    }

pub returns-clause-short : goal.returns-clause-short
returns-clause-short g c = λ ok. c.are_short-short.ensures (all_three c.has_seats-seated.result c.are_few-few.result c.are_short-short.result ok).2
