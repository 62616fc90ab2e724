use Rattle.std.proofs.Common.{◌≡◌, slice_index, arith}
use Rattle.std.proofs.lemmas.Grind.{common_steps}
use Rattle.bits_ip.proofs.Numerals.{number_has_no_plus, number_is_utf8, number_read}
use Rattle.bits_ip.proofs.numbers.parse_decimal.Goals as goal

pub returns-then-begins_with_plus : goal.returns-then-begins_with_plus
returns-then-begins_with_plus c = λ n is.
    number_has_no_plus c.args.text.now n is (c.begins_with_plus.ensures.0 (cc))

pub returns-in_err-digits : goal.returns-in_err-digits
returns-in_err-digits c = rw c.from_residual.ensures (λ n is.
    let utf8 = number_is_utf8 c.args.text.now n is in grind (arith, common_steps))

pub returns : goal.returns
returns c =
    let same : c.in_ok-digits.digits.now ≡ c.args.text.now = grind (arith, common_steps) in
    let parsed = rw same at c.parse.ensures.value.0 in
    let plain : slice_index c.args.text.now 0 ≡ 43 → ⊥ = λ e.
    let plus = c.begins_with_plus.ensures.1 e in cc in
    rw c.ok-2.ensures.value (number_read c.args.text.now c.parse.result plain parsed)
