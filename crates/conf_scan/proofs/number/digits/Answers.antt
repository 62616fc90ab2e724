use Rattle.std.proofs.Common.{◌≡◌, ◌+◌, ◌^◌, ◌<◌, ℕ, true, take, sym, ◌∙◌, ap, arith, get_or}
use Rattle.std.specs.Char.{is_ascii_digit}
use Rattle.std.specs.Str.Parse.{digits_value}
use Rattle.conf_scan.proofs.Decimals.{value_kept}
use Rattle.conf_scan.proofs.Turns.{run_more}
use Rattle.conf_scan.proofs.number.digits.Goals as goal

pub loop-byte-preserved : goal.loop-byte-preserved
loop-byte-preserved c =
    let text = c.args.text.now in
    let i = c.loop-byte.byte-index in
    let old = c.loop-byte.invariant in
    let passes : is_ascii_digit (get_or text i 0) ≡ true = sym c.is_ascii_digit.ensures.value ∙ c.if-not-is_ascii_digit.false in
    let kept : c.loop-byte.value < 2 ^ 32 → digits_value 10 (take i text) ≡ c.loop-byte.value = λ small. ap (λ (n : ℕ). digits_value 10 (take n text)) (sym old.place) ∙ old.value small in
    record {
      place = omega (arith, old.place);
      within = omega (arith, old.place, c.loop-byte-test.true);
      whole = omega (arith, old.whole, run_more is_ascii_digit text i 0 c.loop-byte-test.true passes);
      fits = c.with_digit-value.ensures.fits;
      value = λ small. ap (λ (n : ℕ). digits_value 10 (take (n + 1) text)) old.place ∙ value_kept text i 0 c.loop-byte.value c.with_digit-value.result c.loop-byte-test.true passes kept c.with_digit-value.ensures.next small;
    }
