use Rattle.std.proofs.Common.{[], subst, ◌∙◌, arith}
use Rattle.std.proofs.lemmas.List.{take_all}
use Rattle.core_machine.specs.Machine.{Begins}
use Rattle.core_setup.specs.Protocols.{rules_of, starts_from}
use Rattle.core_setup.proofs.PairLemmas.{get_here}
use Rattle.sys_run.proofs.Starting.{begins_more, protocols_length}
use Rattle.sys_run.proofs.player.Core.start.Goals as goal

pub start_one-requires-clause-there : goal.start_one-requires-clause-there
start_one-requires-clause-there g c =
    let v = g.J.Judge.verdict in
    let h = c.requires in
    let now = c.loop-number.invariant.1 h.0 h.1 h.2 h.3 in
    omega (arith, protocols_length v h.0 h.1 h.2 c.args.self.now h.3, protocols_length v h.0 h.1 now.0 c.loop-number.self now.2, c.args.self.now.protocols.ok.0)

pub loop-number-preserved : goal.loop-number-preserved
loop-number-preserved g c =
    let v = g.J.Judge.verdict in
    let n = c.loop-number.number in
    let kept = c.loop-number.invariant.0 in
    let more = c.in_ok-start_one.ensures.kept in (
      record { phases = more.phases ∙ kept.phases; replies = more.replies ∙ kept.replies; queries = more.queries ∙ kept.queries },
      λ setup past s are.
          let now = c.loop-number.invariant.1 setup past s are in
          let p = get_here setup.protocols n (omega (arith, protocols_length v setup past s c.args.self.now are, c.args.self.now.protocols.ok.0)) in
          let one = c.in_ok-start_one.ensures.core setup past now.0 p.0 now.2 p.1 in
          (one.0, begins_more setup n p.0 s now.0 one.0 p.1 now.1 one.1, one.2),
    )

pub returns-clause-core : goal.returns-clause-core
returns-clause-core g c = λ setup past s are.
    let now = c.loop-number.invariant.1 setup past s are in
    let n = c.loop-number.number in
    let all = take_all n setup.protocols (omega (arith, protocols_length g.J.Judge.verdict setup past s c.args.self.now are, c.args.self.now.protocols.ok.0)) in
    (now.0, subst (λ ps. Begins (rules_of setup) (starts_from 0 ps []) s now.0) all now.1, now.2)
