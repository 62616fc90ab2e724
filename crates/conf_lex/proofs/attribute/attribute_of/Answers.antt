use Rattle.conf_lex.specs.Attributes.{attribute_of}
use Rattle.conf_lex.proofs.attribute.attribute_of.Goals as goal

pub returns : goal.returns
unfolding attribute_of
returns c = c.find.ensures
