use Rattle.conf_system.proofs.Coding.{has_code}
use Rattle.conf_system.proofs.system.System.code.Goals as goal

pub returns : goal.returns
returns c =
    has_code c.args.self.now _ c.constants-constants.result.now c.functions-trees.result.now c.deref.result.now c.deref-2.result.now c.requires
    c.constants-constants.ensures c.functions-trees.ensures c.deref.ensures.value c.deref-2.ensures.value c.in_ok-functions.ensures.means c.in_ok-filters.ensures.means
    c.in_ok-functions.ensures.cost c.in_ok-filters.ensures.cost
