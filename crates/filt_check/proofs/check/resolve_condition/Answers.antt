use Rattle.std.proofs.Common.{ℕ, ap, sym, ◌∙◌, Vec, arith, List, length}
use Rattle.std.specs.Global.{Global}
use Rattle.filt_meaning.specs.declared.fixed.Fixed.{Fixed}
use Rattle.filt_meaning.specs.declared.scope.TFunction.{TFunction}
use Rattle.conf_ast.specs.Filters.{expression_of}
use Rattle.filt_meaning.specs.declared.value.Sort.{Sort}
use Rattle.filt_meaning.specs.Values.{Val}
use Rattle.filt_meaning.specs.Configuration.{filter_where}
use Rattle.filt_meaning.specs.Flow.{Run}
use Rattle.filt_meaning.specs.Meaning.{value}
use Rattle.filt_meaning.specs.Scopes.{context_of, tables_of}
use Rattle.filt_check.specs.Seen.{where_act}
use Rattle.filt_types.specs.Seen.{scene_of}
use Rattle.filt_resolve.specs.Steps.{calls}
use Rattle.filt_check.proofs.Light.{where_weight}
use Rattle.filt_resolve.proofs.Lookups.{mapped_length}
use Rattle.filt_check.proofs.Whole.{filter_same}
use Rattle.filt_check.proofs.check.resolve_condition.Goals as goal

pub returns-clause-meaning : goal.returns-clause-meaning
returns-clause-meaning c = λ around attrs. filter_same c.args.text.now around c.args.scope.now (filter_where (expression_of c.args.condition.now))
    (record { constants = c.len.result; functions = c.len-2.result; sorts = c.new.result; body = c.in_ok-body.body }) attrs
    (c.len.ensures.len ∙ sym (mapped_length (λ (e : Vec ℕ Global × Fixed). e.1) c.args.scope.now.constants.entries)) (c.len-2.ensures.len ∙ sym (mapped_length (λ (e : Vec ℕ Global × TFunction). e.1) c.args.scope.now.functions.entries)) c.new.ensures.items (c.in_ok-body.ensures.meaning (tables_of around c.args.scope.now) ∙ ap (λ (a : Run Val). where_act a) (c.in_ok-x.ensures.meaning around ∙ ap (λ (ns : List (List ℕ)). value (expression_of c.args.condition.now) (context_of c.args.text.now around c.args.scope.now ns)) c.none-names.ensures))

pub returns-clause-steps : goal.returns-clause-steps
returns-clause-steps c = λ more. omega (arith, c.in_ok-body.ensures.steps (calls c.args.scope.now more), c.in_ok-x.ensures.steps more, where_weight (scene_of c.args.text.now c.args.scope.now) (expression_of c.args.condition.now), ap (λ (l : List Sort). length l) c.new.ensures.items)
