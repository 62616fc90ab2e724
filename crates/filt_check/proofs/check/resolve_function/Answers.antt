use Rattle.std.proofs.Common.{ℕ, List, ◌++◌, ap, sym, ◌∙◌, Vec, arith}
use Rattle.std.specs.Global.{Global}
use Rattle.filt_meaning.specs.declared.fixed.Fixed.{Fixed}
use Rattle.conf_ast.specs.declared.filters.Parameter.{Parameter}
use Rattle.conf_ast.specs.declared.filters.Stmt.{Stmt}
use Rattle.conf_ast.specs.Configurations.{routine_of}
use Rattle.conf_ast.specs.Filters.{statements_of}
use Rattle.filt_meaning.specs.Configuration.{parameter_names}
use Rattle.filt_meaning.specs.Meaning.{acts, all_declared, within}
use Rattle.filt_meaning.specs.Scopes.{context_of}
use Rattle.filt_resolve.specs.Seen.{names_of}
use Rattle.filt_check.specs.Seen.{sorts_in}
use Rattle.filt_types.specs.Seen.{scene_of}
use Rattle.filt_types.specs.Weight.{acts_weight}
use Rattle.filt_resolve.proofs.Lookups.{mapped_length}
use Rattle.filt_check.proofs.Whole.{function_same}
use Rattle.filt_check.proofs.check.resolve_function.Goals as goal

pub returns-clause-meaning : goal.returns-clause-meaning
returns-clause-meaning c = λ around. function_same c.args.text.now around c.args.scope.now (routine_of c.args.function.now)
    (record { parameters = c.in_ok-parameters.parameters; gives = c.sort_given.result; weight = c.weigh_block.result; constants = c.len.result; sorts = c.in_ok-block.block.sorts; body = c.in_ok-block.block.body })
    c.in_ok-names.names c.sort_given.ensures
    (c.len.ensures.len ∙ sym (mapped_length (λ (e : Vec ℕ Global × Fixed). e.1) c.args.scope.now.constants.entries))
    (c.in_ok-block.ensures.sorts ∙ ap (λ (ss : List Stmt). sorts_in (all_declared c.args.text.now (statements_of ss))) c.deref-3.ensures.value)
    (c.in_ok-names.ensures ∙ ap (λ (ns : List (List ℕ)). ns ++ names_of c.in_ok-own.own.items) c.none.ensures ∙ c.in_ok-own.ensures ∙ ap (λ (ps : List Parameter). parameter_names c.args.text.now ps) c.deref.ensures.value)
    (c.in_ok-block.ensures.body around
    ∙ ap (λ (ss : List Stmt). acts (statements_of ss) (within (context_of c.args.text.now around c.args.scope.now c.in_ok-names.names) (all_declared c.args.text.now (statements_of ss)))) c.deref-3.ensures.value)

pub returns-clause-steps : goal.returns-clause-steps
returns-clause-steps c = λ more. omega (arith, c.in_ok-block.ensures.steps more, ap (λ (ss : List Stmt). acts_weight (scene_of c.args.text.now c.args.scope.now) (statements_of ss)) c.deref-3.ensures.value)
