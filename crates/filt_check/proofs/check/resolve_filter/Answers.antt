use Rattle.std.proofs.Common.{ℕ, List, ap, sym, ◌∙◌, Vec, arith}
use Rattle.std.specs.Global.{Global}
use Rattle.filt_meaning.specs.declared.fixed.Fixed.{Fixed}
use Rattle.filt_meaning.specs.declared.scope.TFunction.{TFunction}
use Rattle.conf_ast.specs.Filters.{statements_of}
use Rattle.filt_meaning.specs.Meaning.{acts, all_declared, within}
use Rattle.filt_meaning.specs.Scopes.{context_of}
use Rattle.filt_resolve.proofs.Lookups.{mapped_length}
use Rattle.filt_check.proofs.Whole.{filter_same}
use Rattle.filt_check.proofs.check.resolve_filter.Goals as goal

pub returns-clause-meaning : goal.returns-clause-meaning
returns-clause-meaning c = λ around attrs. filter_same c.args.text.now around c.args.scope.now (statements_of c.args.statements.now)
    (record { constants = c.len.result; functions = c.len-2.result; sorts = c.in_ok-block.block.sorts; body = c.in_ok-block.block.body }) attrs
    (c.len.ensures.len ∙ sym (mapped_length (λ (e : Vec ℕ Global × Fixed). e.1) c.args.scope.now.constants.entries)) (c.len-2.ensures.len ∙ sym (mapped_length (λ (e : Vec ℕ Global × TFunction). e.1) c.args.scope.now.functions.entries)) c.in_ok-block.ensures.sorts
    (c.in_ok-block.ensures.body around ∙ ap (λ (ns : List (List ℕ)). acts (statements_of c.args.statements.now) (within (context_of c.args.text.now around c.args.scope.now ns) (all_declared c.args.text.now (statements_of c.args.statements.now)))) c.none-names.ensures)

pub returns-clause-steps : goal.returns-clause-steps
returns-clause-steps c = λ more. omega (arith, c.in_ok-block.ensures.steps more)
