use Rattle.std.proofs.Common.{refl, subst}
use Rattle.std.specs.List.{AllByRecursion}
use Rattle.std.proofs.lemmas.List.{take_all}
use Rattle.pipe_rest.specs.Heads.{HasRead}
use Rattle.pipe_rest.proofs.Raised.{all_taken, all_there}
use Rattle.pipe_rest.proofs.resting.have_read.Goals as goal

pub loop-member-preserved : goal.loop-member-preserved
loop-member-preserved g c =
    let loop = c.loop-member in
    all_taken (HasRead c.args.heads.now) c.args.members.now loop.member-index c.member-item.result c.loop-member-test.true c.member-item.is loop.invariant (c.has_read.ensures.0 c.if-not-has_read.false)

pub returns-then-not-has_read : goal.returns-then-not-has_read
returns-then-not-has_read g c = (
  λ is. absurd cc,
  λ all. absurd (let no = c.has_read.ensures.1 (all_there (HasRead c.args.heads.now) c.args.members.now c.loop-member.member-index c.member-item.result c.loop-member-test.true c.member-item.is all) in cc),
)

pub returns : goal.returns
returns g c =
    let loop = c.loop-member in
    (λ is. subst (AllByRecursion (HasRead c.args.heads.now)) (take_all loop.member-index c.args.members.now c.loop-member-test.false) loop.invariant, λ all. refl)
