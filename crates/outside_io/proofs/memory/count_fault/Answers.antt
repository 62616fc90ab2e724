use Rattle.std.proofs.Common.{◌≡◌, rules, true, get_or}
use Rattle.std.specs.Str.{bytes_eq}
use Rattle.std.specs.String.{string_bytes}
use Rattle.outside_io.proofs.Counts.{fault_written_in}
use Rattle.outside_io.proofs.memory.count_fault.Goals as goal

pub returns-then-eq-clause-files : goal.returns-then-eq-clause-files
returns-then-eq-clause-files c =
    let named : bytes_eq (string_bytes (get_or c.loop-index.files c.loop-index.index c.index-files-index.result).name) c.args.name.now ≡ true = search rules in
    fault_written_in c.loop-index.files c.args.files.now c.loop-index.index c.args.name.now c.index-files-index.result c.index-files-index-then-eq.result
    c.index-files-index-then-eq-2.result c.next_count.result c.loop-index.invariant.same c.loop-index-test.true named c.next_count.ensures c.loop-index.invariant.split
