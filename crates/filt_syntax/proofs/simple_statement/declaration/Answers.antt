use Rattle.std.proofs.Common.{refl, ◌∙◌}
use Rattle.std.proofs.lemmas.Result.{err_from_is_err_and}
use Rattle.conf_lex.proofs.PartShapes.{fails_then}
use Rattle.filt_syntax.specs.StatementReaders.{declaration_at}
use Rattle.filt_syntax.proofs.StatementSteps.{declaration_is}
use Rattle.filt_syntax.proofs.StatementTrees.{tree-Declare}
use Rattle.filt_syntax.proofs.simple_statement.declaration.Goals as goal

pub returns-in_err-variable_type : goal.returns-in_err-variable_type
returns-in_err-variable_type c =
    let p = err_from_is_err_and c.from_residual.result c.from_residual.ensures.1 in
    rw (p.1, p.2, declaration_is c.args.depth_left c.args.words.now) (search (fails_then, c.in_err-variable_type.ensures.gives))

pub returns-in_err-name : goal.returns-in_err-name
returns-in_err-name c =
    let p = err_from_is_err_and c.from_residual-in_err-name.result c.from_residual-in_err-name.ensures.1 in
    rw (p.1, p.2, declaration_is c.args.depth_left c.args.words.now, c.in_ok-variable_type.ensures.gives) (fails_then _ _ _ (fails_then _ _ _ (fails_then _ _ _ c.in_err-name.ensures.gives)))

pub returns-in_err-value : goal.returns-in_err-value
returns-in_err-value c =
    let p = err_from_is_err_and c.from_residual-in_err-value.result c.from_residual-in_err-value.ensures.1 in
    rw (p.1, p.2, declaration_is c.args.depth_left c.args.words.now, c.in_ok-variable_type.ensures.gives, c.in_ok-name.ensures.gives) (fails_then _ _ _ (fails_then _ _ _ (fails_then _ _ _ c.in_err-value.ensures)))

pub returns : goal.returns
returns c =
    c.made.ensures (declaration_at c.args.depth_left c.args.words.now) (rw (tree-Declare c.in_ok-variable_type.variable_type c.in_ok-name.name c.in_ok-value.value) (declaration_is c.args.depth_left c.args.words.now ∙ rw (c.in_ok-variable_type.ensures.gives, c.in_ok-name.ensures.gives, c.in_ok-value.ensures) refl))
