use Rattle.std.proofs.Common.{◌<◌, sym, max}
use Rattle.conf_scan.proofs.Readings.{plain_below}
use Rattle.conf_scan.proofs.lexer.plain_len.Goals as goal

pub returns-else-begins_colons-clause-plain : goal.returns-else-begins_colons-clause-plain
returns-else-begins_colons-clause-plain c = λ k within.
    let below : k < max c.colons_run-run.result.len 1 = rw c.max.ensures at within in
    plain_below c.args.text.now k c.colons_run-run.result.len (sym c.if-begins_colons.ensures) c.colons_run-run.ensures.len below
