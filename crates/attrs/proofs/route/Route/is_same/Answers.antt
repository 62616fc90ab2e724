use Rattle.std.proofs.Common.{rules}
use Rattle.attrs.proofs.Same.{route_decides}
use Rattle.attrs.proofs.route.Route.is_same.Goals as goal

pub returns : goal.returns
returns c = let h = route_decides c.args.self.now c.args.other.now in search rules
