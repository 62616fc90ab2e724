use Rattle.std.proofs.Common.{false, ◌+◌, ◌∷◌, [], ◌++◌, drop, get_or, List, ap, ◌∙◌, sym}
use Rattle.conf_ast.specs.declared.filters.Parameter.{Parameter}
use Rattle.filt_meaning.specs.declared.value.Sort.{Sort}
use Rattle.filt_rules.specs.Passes.{around_in}
use Rattle.filt_types.specs.Refusals.{first_in}
use Rattle.filt_types.specs.Scenes.{Variables, declared}
use Rattle.filt_types.specs.Seen.{scene_in, variables_in}
use Rattle.filt_types.specs.Statements.{parameters}
use Rattle.filt_rules.proofs.Checking as g
use Rattle.filt_rules.proofs.Checking.{no_parameter}
use Rattle.filt_rules.proofs.filters.check_parameters.Goals as goal

pub loop-parameter-preserved : goal.loop-parameter-preserved
loop-parameter-preserved c =
    let e = g.next_at c.args.given.now c.loop-parameter.parameter-index no_parameter c.loop-parameter-test.true in
    let item = get_or c.args.given.now c.loop-parameter.parameter-index no_parameter in
    let more = drop (c.loop-parameter.parameter-index + 1) c.args.given.now in
    let scene = (around_in c.args.around).scene in
    let vs = c.loop-parameter.variables in
    record {
      seen = c.loop-parameter.invariant.seen ∙ ap (λ (xs : List Parameter). (parameters (around_in c.args.around).scene c.loop-parameter.variables xs).variables) e
          ∙ ap (λ (x : Variables). (parameters (around_in c.args.around).scene x (drop (c.loop-parameter.parameter-index + 1) c.args.given.now)).variables) (ap (λ (k : Sort). c.loop-parameter.variables ++ declared (around_in c.args.around).scene (get_or c.args.given.now c.loop-parameter.parameter-index no_parameter).name k false ∷ []) (sym c.type_sort-sort.ensures) ∙ sym c.in_ok-declare.ensures);
      refusals = g.parameter_more scene (scene_in c.seen_at.result) (parameters scene c.args.variables.now c.args.given.now) vs (variables_in c.seen_at.result) c.declare.new.variables item c.type_sort-sort.result more c.args.first.now c.loop-parameter.first c.declaring.new.first
          (c.loop-parameter.invariant.refusals ∙ ap (λ (xs : List Parameter). first_in c.loop-parameter.first (parameters (around_in c.args.around).scene c.loop-parameter.variables xs).refusals) e)
          c.seen_at.ensures.scene c.seen_at.ensures.variables c.type_sort-sort.ensures c.in_ok-declare.ensures c.declaring.ensures;
    }
