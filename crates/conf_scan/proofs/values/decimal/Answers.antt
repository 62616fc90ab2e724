use Rattle.conf_scan.proofs.Numbers.{decimal_digits}
use Rattle.conf_scan.proofs.Readings.{decimal_kind}
use Rattle.conf_scan.proofs.values.decimal.Goals as goal

pub number-requires-clause-digits : goal.number-requires-clause-digits
number-requires-clause-digits c = decimal_digits c.args.slice.now c.requires.1

pub returns-in_err-value : goal.returns-in_err-value
returns-in_err-value c = rw c.from_residual.ensures (λ kind is. let spelled = decimal_kind c.args.slice.now kind is in c.in_err-value.ensures spelled.0 spelled.2)
