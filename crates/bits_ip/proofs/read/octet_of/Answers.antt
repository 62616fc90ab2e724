use Rattle.std.proofs.Common.{◌≡◌, arith, rules}
use Rattle.std.proofs.lemmas.Grind.{common_steps}
use Rattle.bits_ip.proofs.Octets.{octet_begins_plainly, octet_is_utf8, octet_read}
use Rattle.bits_ip.proofs.read.octet_of.Goals as goal

pub returns-then-not-begins_plainly : goal.returns-then-not-begins_plainly
returns-then-not-begins_plainly c = λ n is.
    let plain = c.begins_plainly.ensures.1 (octet_begins_plainly c.args.digits.now n is) in cc

pub returns-in_err-text : goal.returns-in_err-text
returns-in_err-text c = rw c.from_residual.ensures (λ n is.
    let utf8 = octet_is_utf8 c.args.digits.now n is in grind (arith, common_steps))

pub returns : goal.returns
returns c =
    let same : c.in_ok-text.text.now ≡ c.args.digits.now = grind (arith, common_steps) in
    let parsed = rw same at c.parse.ensures.value.0 in
    let plain = c.begins_plainly.ensures.0 (search rules) in
    rw c.ok-2.ensures.value (octet_read c.args.digits.now c.parse.result plain parsed)
