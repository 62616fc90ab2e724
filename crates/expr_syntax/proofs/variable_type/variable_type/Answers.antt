use Rattle.conf_lex.proofs.PartShapes.{gives_along}
use Rattle.expr_syntax.proofs.TypeSteps.{type_set, type_alone, type_other}
use Rattle.expr_syntax.proofs.variable_type.variable_type.Goals as goal

pub returns-in-Some-after-clause-gives : goal.returns-in-Some-after-clause-gives
returns-in-Some-after-clause-gives c =
    rw c.set_of.ensures (type_set 0 c.in-Some.member c.args.words.now c.in-Some.rest.now c.in-Some-after.rest.now c.in-Some.ensures c.in-Some-after.ensures)

pub returns-in-None-after-clause-gives : goal.returns-in-None-after-clause-gives
returns-in-None-after-clause-gives c =
    rw c.type_of.ensures (type_alone 0 c.in-Some.member c.args.words.now c.in-Some.rest.now c.in-Some.ensures c.in-None-after.ensures)

pub returns-in-None-clause-gives : goal.returns-in-None-clause-gives
returns-in-None-clause-gives c =
    gives_along _ c.other_type.result _ _ (type_other 0 c.args.words.now c.in-None.ensures) c.other_type.ensures.gives
