use Rattle.std.proofs.Common.{◌∙◌, ap, List, map}
use Rattle.std.proofs.lemmas.List.{take_all}
use Rattle.filt_meaning.specs.declared.tree.TFilter.{TFilter}
use Rattle.conf_system.specs.Seen.{flow_over}
use Rattle.conf_system.proofs.Coding.{drafted_as, drafts_cost, drafts_more}
use Rattle.conf_system.proofs.code.drafts.Goals as goal

pub loop-filter-preserved : goal.loop-filter-preserved
loop-filter-preserved c = record {
  means = λ trees compiled all.
      drafts_more c.args.functions.now c.args.constants.now trees c.loop-filter.drafts.items c.push.new.self.items c.in_ok-compile.field-0 c.args.filters.now c.loop-filter.filter-index c.filter-item.result
      c.loop-filter-test.true c.filter-item.is c.in_ok-push.ensures.items (c.loop-filter.invariant.means trees compiled all)
      (drafted_as c.args.constants.now c.args.functions.now c.args.filters.now c.loop-filter.filter-index c.filter-item.result c.in_ok-compile.field-0 trees c.loop-filter-test.true c.filter-item.is compiled all c.in_ok-compile.ensures.means);
  cost = drafts_cost c.args.functions.now c.loop-filter.drafts.items c.push.new.self.items c.in_ok-compile.field-0 c.args.filters.now c.loop-filter.filter-index c.filter-item.result
      c.loop-filter-test.true c.filter-item.is c.in_ok-push.ensures.items c.loop-filter.invariant.cost c.in_ok-compile.ensures.cost;
}

pub returns-clause-means : goal.returns-clause-means
returns-clause-means c = λ trees compiled all.
    c.loop-filter.invariant.means trees compiled all
    ∙ ap (λ (l : List TFilter). map (flow_over c.args.constants.now trees) l) (take_all c.loop-filter.filter-index c.args.filters.now c.loop-filter-test.false)

pub returns-clause-cost : goal.returns-clause-cost
returns-clause-cost c = c.loop-filter.invariant.cost
