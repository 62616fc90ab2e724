use Rattle.std.proofs.Common.{List, refl, sym, ap, subst, ◌∙◌, Err}
use Rattle.conf_lex.specs.declared.word.Word.{Word}
use Rattle.conf_lex.specs.Agrees.{AgreesOnError}
use Rattle.expr_syntax.specs.Syntax.{expr}
use Rattle.expr_syntax.specs.Readers.{expr_at}
use Rattle.filt_syntax.specs.declared.parse.SyntaxFault.{SyntaxFault}
use Rattle.conf_ast.specs.declared.filters.Expr.{Expr}
use Rattle.filt_syntax.specs.Parse.{IsSyntaxFault, IsFault}
use Rattle.expr_syntax.proofs.Steps.{expr_same}
use Rattle.filt_syntax.proofs.Places.{got_fewer, got_stands, got_only, got_exact, fault_fewer, fault_refused, fault_only, fault_exact}
use Rattle.filt_syntax.proofs.parse.parse_expr_words.Goals as goal

pub place_in-requires : goal.place_in-requires
place_in-requires c = got_fewer expr refl (expr_at 64) (expr_same 64) c.args.words.now c.args.from c.requires _ c.in-Ok.rest.now (ap (λ (ws : List Word). expr_at 64 ws) (sym c.tail.ensures) ∙ c.in-Ok.ensures)

pub placed-requires : goal.placed-requires
placed-requires c = fault_fewer expr refl (expr_at 64) (expr_same 64) c.args.words.now c.args.from c.requires c.in-Err.refusal (subst (λ (ws : List Word). AgreesOnError c.in-Err.refusal (expr_at 64 ws)) c.tail.ensures c.in-Err.ensures)

pub returns-in-Ok-clause-tree : goal.returns-in-Ok-clause-tree
returns-in-Ok-clause-tree c = got_stands expr refl (expr_at 64) (expr_same 64) c.args.words.now c.args.from c.requires _ c.in-Ok.rest.now c.place_in.result c.place_in.ensures (ap (λ (ws : List Word). expr_at 64 ws) (sym c.tail.ensures) ∙ c.in-Ok.ensures)

pub returns-in-Ok-clause-only : goal.returns-in-Ok-clause-only
returns-in-Ok-clause-only c t end h = got_only expr refl (expr_at 64) (expr_same 64) c.args.words.now c.args.from c.requires _ c.in-Ok.rest.now c.place_in.result c.place_in.ensures (ap (λ (ws : List Word). expr_at 64 ws) (sym c.tail.ensures) ∙ c.in-Ok.ensures) t end h

pub returns-in-Ok-clause-exact : goal.returns-in-Ok-clause-exact
returns-in-Ok-clause-exact c e h = got_exact expr refl (expr_at 64) (expr_same 64) c.args.words.now c.args.from c.requires Expr (c.in-Ok.tree, c.place_in.result) _ c.in-Ok.rest.now (ap (λ (ws : List Word). expr_at 64 ws) (sym c.tail.ensures) ∙ c.in-Ok.ensures) e h

pub returns-in-Err-clause-fault : goal.returns-in-Err-clause-fault
returns-in-Err-clause-fault c =
    let failed = subst (λ (ws : List Word). AgreesOnError c.in-Err.refusal (expr_at 64 ws)) c.tail.ensures c.in-Err.ensures in
    subst (λ (d : SyntaxFault). IsSyntaxFault expr c.args.words.now c.args.from d) (sym c.placed.ensures) (fault_refused expr refl (expr_at 64) (expr_same 64) c.args.words.now c.args.from c.requires c.in-Err.refusal failed)

pub returns-in-Err-clause-only : goal.returns-in-Err-clause-only
returns-in-Err-clause-only c t end h =
    let failed = subst (λ (ws : List Word). AgreesOnError c.in-Err.refusal (expr_at 64 ws)) c.tail.ensures c.in-Err.ensures in
    c.placed.ensures ∙ fault_only expr refl (expr_at 64) (expr_same 64) c.args.words.now c.args.from c.requires c.in-Err.refusal failed t end h

pub returns-in-Err-clause-exact : goal.returns-in-Err-clause-exact
returns-in-Err-clause-exact c e h =
    let failed = subst (λ (ws : List Word). AgreesOnError c.in-Err.refusal (expr_at 64 ws)) c.tail.ensures c.in-Err.ensures in
    subst (λ (d : SyntaxFault). IsFault {X = Expr} (Err d) e) (sym c.placed.ensures) (fault_exact expr refl (expr_at 64) (expr_same 64) c.args.words.now c.args.from c.requires Expr c.in-Err.refusal failed e h)
