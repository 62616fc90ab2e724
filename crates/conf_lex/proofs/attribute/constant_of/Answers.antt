use Rattle.conf_lex.specs.Attributes.{constant_of}
use Rattle.conf_lex.proofs.attribute.constant_of.Goals as goal

pub returns : goal.returns
unfolding constant_of
returns c = c.find.ensures
