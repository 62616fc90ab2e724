use Rattle.conf_scan.proofs.Numbers.{digits_behind, hex_number, hex_spelled}
use Rattle.conf_scan.proofs.Readings.{hexadecimal_kind}
use Rattle.conf_scan.proofs.values.hexadecimal.Goals as goal

pub number-requires-clause-digits : goal.number-requires-clause-digits
number-requires-clause-digits c = rw c.tail.ensures (digits_behind c.args.slice.now c.requires)

pub returns-in_err-value : goal.returns-in_err-value
returns-in_err-value c =
    let none = rw c.tail.ensures at c.in_err-value.ensures in
    rw c.from_residual.ensures (λ kind is. let spelled = hexadecimal_kind c.args.slice.now kind is in none spelled.0 (hex_spelled c.args.slice.now spelled.0 spelled.2))

pub returns : goal.returns
returns c =
    let number = rw c.tail.ensures at c.in_ok-value.ensures in
    hex_number c.args.slice.now c.in_ok-value.value c.requires number
