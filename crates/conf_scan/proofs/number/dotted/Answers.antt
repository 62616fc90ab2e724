use Rattle.conf_scan.proofs.Decimals.{four_octets}
use Rattle.conf_scan.proofs.number.dotted.Goals as goal

pub returns : goal.returns
returns c =
    four_octets c.args.text.now c.tail-text.result.now c.tail-text-2.result.now c.tail-text-3.result.now
    c.in_ok-first.first c.in_ok-second.second c.in_ok-third.third c.in_ok-fourth.fourth
    c.in_ok-first.ensures c.tail-text.ensures c.in_ok-second.ensures c.tail-text-2.ensures c.in_ok-third.ensures c.tail-text-3.ensures c.in_ok-fourth.ensures
