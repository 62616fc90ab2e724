use Rattle.std.proofs.Common.{List, length, take, arith, sym, subst, ◌∙◌}
use Rattle.core_machine.specs.Ways.{Found}
use Rattle.std.proofs.lemmas.List.{take_all}
use Rattle.sys_run.specs.Made.{AreFound, gone_all}
use Rattle.sys_run.specs.declared.ways.Direction.{Direction}
use Rattle.sys_run.proofs.MakingWays.{gone_turn, read_at, within_same}
use Rattle.sys_run.proofs.ways.go_on.Goals as goal

pub go_one-requires-clause-within : goal.go_one-requires-clause-within
go_one-requires-clause-within c =
    let k = c.loop-direction.direction-index in (
      c.requires.within.0,
      within_same (length c.args.found.now.items) (length c.loop-direction.found.items) c.requires.within.0 _ (sym c.loop-direction.invariant.0)
          (c.requires.within.1 k _ (read_at c.args.directions.now k (record { channel = 0; reads = 0; writes = 0 }) c.loop-direction-test.true)),
    )

pub go_one-requires-clause-short : goal.go_one-requires-clause-short
go_one-requires-clause-short c = omega (arith, c.requires.short, c.loop-direction.invariant.0)

pub loop-direction-preserved : goal.loop-direction-preserved
loop-direction-preserved c =
    let k = c.loop-direction.direction-index in
    let ds = c.args.directions.now in
    let len = c.args.len in (
      c.go_one.ensures.count ∙ c.loop-direction.invariant.0,
      λ tables f are. subst (λ (g : Found). AreFound tables c.go_one.new.found.items g)
          (gone_turn len k ds _ f (read_at ds k (record { channel = 0; reads = 0; writes = 0 }) c.loop-direction-test.true))
          (c.go_one.ensures.found tables (gone_all len (take k ds) f) (c.loop-direction.invariant.1 tables f are)),
    )

pub returns-clause-found : goal.returns-clause-found
returns-clause-found c = λ tables f are.
    subst (λ (l : List Direction). AreFound tables c.loop-direction.found.items (gone_all c.args.len l f)) (take_all c.loop-direction.direction-index c.args.directions.now c.loop-direction-test.false)
    (c.loop-direction.invariant.1 tables f are)
