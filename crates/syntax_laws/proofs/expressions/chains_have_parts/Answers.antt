use Rattle.syntax_laws.proofs.ChainParts.{logical_op_parts, sum_parts, product_parts, postfix_parts}
use Rattle.syntax_laws.proofs.expressions.chains_have_parts.Goals as goal

pub returns-clause-logical_op : goal.returns-clause-logical_op
returns-clause-logical_op c = logical_op_parts

pub returns-clause-sum : goal.returns-clause-sum
returns-clause-sum c = sum_parts

pub returns-clause-product : goal.returns-clause-product
returns-clause-product c = product_parts

pub returns-clause-postfix : goal.returns-clause-postfix
returns-clause-postfix c = postfix_parts
