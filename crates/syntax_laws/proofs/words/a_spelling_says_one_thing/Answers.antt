use Rattle.syntax_laws.proofs.Apart.{symbol_apart, attribute_apart}
use Rattle.syntax_laws.proofs.words.a_spelling_says_one_thing.Goals as goal

pub returns-clause-symbol : goal.returns-clause-symbol
returns-clause-symbol c = symbol_apart

pub returns-clause-attribute : goal.returns-clause-attribute
returns-clause-attribute c = attribute_apart
