use Rattle.std.proofs.Common.{sym, ◌∙◌}
use Rattle.conf_syntax.proofs.Never.{address_never}
use Rattle.conf_syntax.proofs.WithinSets.{no_address}
use Rattle.conf_syntax.proofs.apart.bars_addresses.Goals as goal

pub returns-then-is_last : goal.returns-then-is_last
returns-then-is_last c = λ yes front cut w is.
    address_never c.args.before.now front c.args.last.now w cut (sym c.is_last.ensures ∙ c.if-is_last.true) is

pub returns : goal.returns
returns c = λ yes front cut w is. no_address c.args.before.now w (c.is_in_set.ensures yes) is
