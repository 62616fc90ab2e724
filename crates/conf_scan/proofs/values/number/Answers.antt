use Rattle.std.proofs.Common.{◌≡◌, arith}
use Rattle.std.proofs.lemmas.Grind.{common_steps}
use Rattle.conf_scan.proofs.Numbers.{digits_utf8, number_read}
use Rattle.conf_scan.proofs.values.number.Goals as goal

pub returns-in_err-text : goal.returns-in_err-text
returns-in_err-text c =
    let utf8 = digits_utf8 c.args.radix c.args.digits.now c.requires.most c.requires.digits in
    rw c.from_residual.ensures (λ n is. let wrong = utf8 in grind (arith, common_steps))

pub returns : goal.returns
returns c =
    let same : c.in_ok-text.text.now ≡ c.args.digits.now = grind (arith, common_steps) in
    let parsed = rw same at c.from_str_radix.ensures.value in
    rw c.ok-2.ensures.value (number_read c.args.radix c.args.digits.now c.from_str_radix.result c.requires.most c.requires.digits parsed)
