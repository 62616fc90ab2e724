use Rattle.bits_ip.proofs.Dotted.{second_octet, third_octet, fourth_octet}
use Rattle.bits_ip.proofs.read.parse_v4.Goals as goal

pub returns-in_err-second : goal.returns-in_err-second
returns-in_err-second c = rw c.from_residual-in_err-second.ensures (λ n is.
    c.in_err-second.ensures _ _ (second_octet _ n _ _ is c.in_ok-first.ensures))

pub returns-in_err-third : goal.returns-in_err-third
returns-in_err-third c = rw c.from_residual-in_err-third.ensures (λ n is.
    c.in_err-third.ensures _ _ (third_octet _ n _ _ _ _ is c.in_ok-first.ensures c.in_ok-second.ensures))

pub returns-in_err-fourth : goal.returns-in_err-fourth
returns-in_err-fourth c = rw c.from_residual-in_err-fourth.ensures (λ n is.
    c.in_err-fourth.ensures _ (fourth_octet _ n _ _ _ _ _ _ is c.in_ok-first.ensures c.in_ok-second.ensures c.in_ok-third.ensures))
