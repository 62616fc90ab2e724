use Rattle.std.proofs.Common.{arith, sym, subst, ◌∙◌}
use Rattle.std.specs.List.{AllByRecursion}
use Rattle.std.proofs.lemmas.List.{take_all}
use Rattle.pipe_rest.specs.Heads.{IsAmong, IsBelow}
use Rattle.pipe_rest.proofs.Raised.{all_below_on, all_taken, all_there}
use Rattle.pipe_rest.proofs.heads.last_heads.Goals as goal

pub loop-member-init : goal.loop-member-init
loop-member-init g c =
    let heads = c.in_ok-heads.heads in
    let many = heads.ok.0 in
    let len = c.in_ok-heads.ensures.len in
    record { count = omega (arith, many, len); below = tt }

pub hear_member-requires : goal.hear_member-requires
hear_member-requires g c =
    let loop = c.loop-member in
    subst (λ n. IsAmong n c.member-item.result) (sym loop.invariant.count) (all_there (IsAmong c.args.tables) c.args.members.now loop.member-index c.member-item.result c.loop-member-test.true c.member-item.is c.requires)

pub loop-member-preserved : goal.loop-member-preserved
loop-member-preserved g c =
    let loop = c.loop-member in
    let heard = c.hear_member.ensures in
    let heads = c.hear_member.new.heads.items in
    record {
      count = heard.raised.count ∙ loop.invariant.count;
      below =
          all_taken (IsBelow heads) c.args.members.now loop.member-index c.member-item.result c.loop-member-test.true c.member-item.is
          (all_below_on loop.heads.items heads heard.raised _ loop.invariant.below) heard.below;
    }

pub returns : goal.returns
returns g c =
    let loop = c.loop-member in
    record {
      count = loop.invariant.count;
      below = subst (AllByRecursion (IsBelow loop.heads.items)) (take_all loop.member-index c.args.members.now c.loop-member-test.false) loop.invariant.below;
    }
