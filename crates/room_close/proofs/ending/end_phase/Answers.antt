use Rattle.std.proofs.Common.{List, sym, subst}
use Rattle.std.specs.List.{AllByRecursion}
use Rattle.std.proofs.lemmas.Result.{IfOk-weaker}
use Rattle.atomic_table.specs.Seated.{TableId}
use Rattle.attrs.specs.declared.route.Src.{Src}
use Rattle.jour_rule.specs.declared.views.Terms.{Terms}
use Rattle.phase_close.specs.Whole.{ArePassesOf}
use Rattle.pipe_rest.specs.Later.{CanSettle}
use Rattle.room_close.specs.Inside.{EndsAtRest}
use Rattle.room_ends.specs.Synced.{IsSynced}
use Rattle.room_close.proofs.Known.{all_can_settle}
use Rattle.room_close.proofs.Resting.{is_synced}
use Rattle.room_close.proofs.ending.end_phase.Goals as goal
use Rattle.table_shared.specs.Opening.{TableOpening}

pub end_left-requires-clause-members : goal.end_left-requires-clause-members
end_left-requires-clause-members g c =
    let left = c.in_ok-left.left in
    let same = c.in_ok-left.ensures.same in
    subst (λ (z : List (TableId × Terms TableOpening) × List Src). AllByRecursion (CanSettle g.J.Judge.verdict z.0 z.1) left.members.items) (λ j. (sym same.0 j, sym same.1 j))
    (all_can_settle g.P.Phase.terms g.P.Sends.exports g.P.Sends.rules g.J.Judge.verdict c.args.room c.requires.room c.directions_know_their_sources.ensures c.args.hands.items c.requires.hands left.members.items c.in_ok-left.ensures.members)

pub end_left-requires-clause-passes : goal.end_left-requires-clause-passes
end_left-requires-clause-passes g c = subst (λ z. AllByRecursion (ArePassesOf z) c.args.passes.items) (sym c.in_ok-left.ensures.same.0) c.requires.passes

pub returns : goal.returns
returns g c =
    let room = c.args.room in
    let left = c.in_ok-left.left in
    let same = c.in_ok-left.ensures.same in
    let passes = c.args.passes.items in
    IfOk-weaker c.end_left.result (EndsAtRest g.J.Judge.verdict left.tables.items left.sources.items left.members.items passes) (IsSynced g.J.Judge.verdict g.P.Phase.terms g.P.Sends.exports g.P.Sends.rules room c.args.hands.items passes)
    (λ ended rest.
    is_synced g.P.Phase.terms g.P.Sends.exports g.P.Sends.rules g.J.Judge.verdict room c.requires.room c.requires.ports c.directions_know_their_sources.ensures c.settled_members_know_the_last_head.ensures c.args.hands.items c.requires.hands left.members.items c.in_ok-left.ensures.members passes ended
    (subst (λ (z : List (TableId × Terms TableOpening) × List Src). EndsAtRest g.J.Judge.verdict z.0 z.1 left.members.items passes ended) (λ j. (same.0 j, same.1 j)) rest))
    c.end_left.ensures
