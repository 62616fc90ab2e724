use Rattle.std.proofs.Common.{◌∙◌, None, Some}
use Rattle.rib.proofs.Longest.{longest-picked}
use Rattle.rib.proofs.nets.Nets.lend_longest.Goals as goal

pub returns-in-Some : goal.returns-in-Some
returns-in-Some c =
    rw (longest-picked c.args.asked.now c.args.self.now (Some c.in-Some.net) c.requires.keys c.requires.prefixes c.requires.rows c.in-Some.ensures) at c.lend_one.ensures

pub returns-in-None : goal.returns-in-None
returns-in-None c = c.new.ensures.items ∙ longest-picked c.args.asked.now c.args.self.now None c.requires.keys c.requires.prefixes c.requires.rows c.in-None.ensures
