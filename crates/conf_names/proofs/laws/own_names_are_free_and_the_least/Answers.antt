use Rattle.conf_names.specs.Names.{names}
use Rattle.conf_names.proofs.Numbers.{declared_before, is_free}
use Rattle.conf_names.proofs.laws.own_names_are_free_and_the_least.Goals as goal

pub returns-clause-free : goal.returns-clause-free
returns-clause-free c known stem small = is_free known stem small

pub returns-clause-least : goal.returns-clause-least
returns-clause-least c known stem n from upto = declared_before known stem (names known) 1 n from upto
