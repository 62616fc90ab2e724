use Rattle.std.proofs.Common.{◌++◌, length, slice_get, ap, sym, ◌∙◌}
use Rattle.std.specs.Prelude.{option_to_list}
use Rattle.jour_tests.proofs.Last.{get_last}
use Rattle.jour_tests.proofs.bench.Bench.open.Goals as goal

pub invariant_of-bench-clause-maker_here : goal.invariant_of-bench-clause-maker_here
invariant_of-bench-clause-maker_here c =
    let items = c.pop.ensures.items ∙ ap (λ r. c.pop.new.self.items ++ option_to_list r) c.in-Some.is in
    (c.in_ok-writer.ensures.makers.1 (length c.pop.new.self.items) c.in-Some.maker (ap (λ l. slice_get l (length c.pop.new.self.items)) items ∙ get_last c.pop.new.self.items c.in-Some.maker)).0

pub invariant_of-bench-clause-makers : goal.invariant_of-bench-clause-makers
invariant_of-bench-clause-makers c = let terms = c.in_ok-writer.ensures.writer.0 in ap (λ t. t.opening) terms ∙ sym (ap (λ t. t.makers) terms)

pub returns : goal.returns
returns c = λ k m at. let e = c.in_ok-writer.ensures.cursors.1 k m at in (e.0, e.3)
