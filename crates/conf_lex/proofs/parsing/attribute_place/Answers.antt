use Rattle.conf_lex.proofs.Symbols.{no_attribute, attribute_some}
use Rattle.conf_lex.proofs.parsing.attribute_place.Goals as goal

pub returns-in-Attribute : goal.returns-in-Attribute
returns-in-Attribute c = rw c.then_some.ensures (attribute_some c.args.word c.args.wanted c.in-Attribute.at c.in-Attribute.attribute c.eq.result c.in-Attribute.is c.eq.ensures)

pub returns-in_default : goal.returns-in_default
returns-in_default c = no_attribute c.args.word c.args.wanted c.in_default.not-Attribute
