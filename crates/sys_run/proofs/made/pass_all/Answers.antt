use Rattle.std.proofs.Common.{ℕ, List, length, take, sym, subst, ◌∙◌}
use Rattle.std.proofs.lemmas.List.{take_all}
use Rattle.sys_run.specs.Made.{AreLists, given_all}
use Rattle.sys_run.specs.declared.ways.Direction.{Direction}
use Rattle.sys_run.proofs.MakingWays.{given_turn, read_at, within_count}
use Rattle.sys_run.proofs.made.pass_all.Goals as goal

pub pass_one-requires : goal.pass_one-requires
pass_one-requires c =
    let k = c.loop-direction.direction-index in
    within_count (length c.args.found.now) (length c.args.passed.now.items) (length c.loop-direction.passed.items) _ (sym c.loop-direction.invariant.0)
    (c.requires k _ (read_at c.args.directions.now k (record { channel = 0; reads = 0; writes = 0 }) c.loop-direction-test.true))

pub loop-direction-preserved : goal.loop-direction-preserved
loop-direction-preserved c =
    let k = c.loop-direction.direction-index in
    let ds = c.args.directions.now in (
      c.in_ok-pass_one.ensures.count ∙ c.loop-direction.invariant.0,
      λ tables f lists are held. subst (λ (l : ℕ → List ℕ). AreLists c.pass_one.new.passed.items l)
          (given_turn f c.args.number k ds _ lists (read_at ds k (record { channel = 0; reads = 0; writes = 0 }) c.loop-direction-test.true))
          (c.in_ok-pass_one.ensures.lists tables f (given_all f c.args.number (take k ds) lists) are (c.loop-direction.invariant.1 tables f lists are held)),
    )

pub returns-clause-lists : goal.returns-clause-lists
returns-clause-lists c = λ tables f lists are held.
    subst (λ (l : List Direction). AreLists c.loop-direction.passed.items (given_all f c.args.number l lists)) (take_all c.loop-direction.direction-index c.args.directions.now c.loop-direction-test.false)
    (c.loop-direction.invariant.1 tables f lists are held)
