use Rattle.std.proofs.Common.{◌≡◌, ◌∙◌, sym, [], ap, subst, rules, List}
use Rattle.std.specs.Map.Iter.{deref_pair}
use Rattle.std.proofs.lemmas.Map.Iter.{rest_all, rest_more}
use Rattle.std.specs.Map.{keys_of}
use Rattle.bits_ip.specs.Prefix.{Net}
use Rattle.attrs.specs.declared.route.Change.{Change}
use Rattle.import_core.specs.declared.held.Held.{Held}
use Rattle.import_core.specs.Held.{Kept, accepted_in}
use Rattle.import_core.proofs.Routes.{Sorted}
use Rattle.import_core.proofs.Planning.{Course, course_nil}
use Rattle.import_core.proofs.Turns.{withdrawn_end, withdrawn_turn}
use Rattle.import_core.proofs.nets.Nets.withdrawals.Goals as goal

pub loop-net-init : goal.loop-net-init
loop-net-init c =
    let e : c.self.inside.held.entries ≡ c.into_iter-net-iterator.result = search rules in (
      [],
      sym (ap (λ (k : Kept). k.accepted) c.self.view_is) ∙ ap accepted_in e,
      subst (λ (es : List (Net × Held)). Sorted (keys_of es)) e c.len-count.ensures.ordered,
      subst (λ (cs : List Change). Course c.args.num [] [] [] cs) (sym c.new-changes.ensures) (course_nil c.args.num),
    )

pub loop-net-preserved : goal.loop-net-preserved
loop-net-preserved c =
    withdrawn_turn c.args.num c.args.self.now.accepted _ _ c.in-Some.net.now c.in-Some.held.now _ _ c.loop-net.invariant
    (rest_more deref_pair _ _ c.next.result (c.in-Some.net, c.in-Some.held) c.in-Some.is c.next.ensures.steps) c.in_ok-note.ensures

pub returns : goal.returns
returns c =
    withdrawn_end c.args.num c.args.self.now.accepted _ _ c.loop-net.invariant
    (rest_all deref_pair _ _ c.next.result c.in-None.is c.next.ensures.steps)
