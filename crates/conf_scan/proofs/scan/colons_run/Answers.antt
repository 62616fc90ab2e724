use Rattle.std.proofs.Common.{◌≡◌, true, cond, ◌==◌, sym, ◌∙◌, arith, get_or}
use Rattle.conf_scan.specs.Shapes.{is_colons_byte}
use Rattle.conf_scan.proofs.Signs.{colons_more, one_at_most}
use Rattle.conf_scan.proofs.Turns.{run_more}
use Rattle.conf_scan.proofs.scan.colons_run.Goals as goal

pub loop-byte-preserved : goal.loop-byte-preserved
loop-byte-preserved c =
    let text = c.args.text.now in
    let i = c.loop-byte.byte-index in
    let byte = get_or text i 0 in
    let passes : is_colons_byte byte ≡ true = sym c.is_colons_byte.ensures ∙ c.if-not-is_colons_byte.false in
    let one : c.colon_count-colons.result ≡ cond (byte == 58) 1 0 = c.colon_count-colons.ensures in
    let old = c.loop-byte.invariant in
    record {
      place = omega (arith, old.place);
      within = omega (arith, old.place, c.loop-byte-test.true);
      few = omega (arith, old.few, one, one_at_most (byte == 58));
      whole_len = omega (arith, old.whole_len, run_more is_colons_byte text i 0 c.loop-byte-test.true passes);
      whole_colons = omega (arith, old.whole_colons, one, colons_more text i 0 c.loop-byte-test.true passes);
    }
