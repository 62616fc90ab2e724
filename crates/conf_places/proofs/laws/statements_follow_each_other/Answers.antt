use Rattle.conf_places.proofs.Order.{each_behind, in_order}
use Rattle.conf_ast.specs.Configurations.{configuration_of}
use Rattle.conf_places.proofs.laws.statements_follow_each_other.Goals as goal

pub returns : goal.returns
returns c text ss h front back d is =
    each_behind (configuration_of ss) front back d is (in_order c.tokens_are_slices.ensures c.tokens_rise.ensures text ss h)
