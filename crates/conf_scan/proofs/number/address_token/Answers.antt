use Rattle.conf_scan.proofs.Decimals.{address_tells}
use Rattle.conf_scan.proofs.number.address_token.Goals as goal

pub returns : goal.returns
returns c = address_tells c.args.text.now c.in_ok-found.found c.requires c.in_ok-found.ensures
