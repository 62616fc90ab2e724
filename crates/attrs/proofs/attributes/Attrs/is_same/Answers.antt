use Rattle.std.proofs.Common.{rules}
use Rattle.attrs.proofs.Same.{attrs_decides}
use Rattle.attrs.proofs.attributes.Attrs.is_same.Goals as goal

pub returns : goal.returns
returns c = let h = attrs_decides c.args.self.now c.args.other.now in search rules
