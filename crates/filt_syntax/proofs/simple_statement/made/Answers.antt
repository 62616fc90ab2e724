use Rattle.std.proofs.Common.{◌≡◌, ap, sym as flip, ◌∙◌, rules}
use Rattle.conf_lex.specs.Reading.{Parsed}
use Rattle.conf_ast.specs.declared.filters.Stmt.{Stmt}
use Rattle.filt_syntax.specs.StatementView.{stmt_tree}
use Rattle.filt_syntax.proofs.simple_statement.made.Goals as goal

pub returns : goal.returns
returns c =
    let same : c.in_ok-boxed.boxed.value ≡ c.args.stmt = search rules in
    λ read is. is ∙ ap (λ (s : Stmt). Parsed (stmt_tree s) c.args.rest.now) (flip same)
