use Rattle.std.proofs.Common.{◌≡◌, List, sym, subst, ◌∙◌}
use Rattle.std.specs.List.{AllByRecursion}
use Rattle.std.specs.declared.alloc.Global.{Global}
use Rattle.std.specs.declared.vec.Vec.{Vec}
use Rattle.atomic_table.specs.Seated.{TableId}
use Rattle.jour_rule.specs.declared.views.Terms.{Terms}
use Rattle.jour.specs.Seats.{journal}
use Rattle.phase_close.specs.Closed.{TableList, all_lists, list_of}
use Rattle.phase_close.specs.Whole.{ArePassesHeard, ArePassesOf}
use Rattle.phase_close.proofs.Over.{all_weaker, beside_made, made_beside, passes_here}
use Rattle.phase_legal.specs.Shown.{AreBeside, PassView}
use Rattle.room_close.proofs.Going.{all_can_end}
use Rattle.room_close.proofs.ending.end_room.Goals as goal
use Rattle.table_shared.specs.Opening.{TableOpening}
use Rattle.table_shared.specs.Phases.{IsPhase}
use Rattle.table_shared.specs.declared.close.Phase.{Phase}

pub end_members-requires : goal.end_members-requires
end_members-requires g c =
    let tables = c.args.tables.items in
    let closings = c.in_ok-closings.closings.items in
    let are = made_beside list_of (λ (t : TableId × Terms TableOpening) (l : TableList). l.0 ≡ t) tables closings c.in_ok-closings.ensures in
    all_can_end g.J.Judge.verdict tables c.requires.members.0 (all_lists closings) are c.args.members.items c.requires.members.1

pub hear_actors-requires : goal.hear_actors-requires
hear_actors-requires g c =
    let tables = c.args.tables.items in
    let closings = c.in_ok-closings.closings.items in
    let are = made_beside list_of (λ (t : TableId × Terms TableOpening) (l : TableList). l.0 ≡ t) tables closings c.in_ok-closings.ensures in
    all_weaker (ArePassesOf tables) (λ (v : Vec PassView Global). AreBeside (λ (l : TableList) (pass : PassView). journal pass ≡ l.0) (all_lists c.end_members.new.closings.items) v.items)
    (λ v of.
    subst (λ (z : List TableList). AreBeside (λ (l : TableList) (pass : PassView). journal pass ≡ l.0) z v.items) (sym c.end_members.ensures.same) (passes_here tables (all_lists closings) are v of))
    c.args.passes.items c.requires.passes

pub returns : goal.returns
returns g c =
    let tables = c.args.tables.items in
    let closings = c.in_ok-closings.closings.items in
    let lists = all_lists closings in
    let first = c.end_members.ensures.same in
    let last = c.hear_actors.ensures.same ∙ first in
    record {
      lists = lists;
      tables_are = made_beside list_of (λ (t : TableId × Terms TableOpening) (l : TableList). l.0 ≡ t) tables closings c.in_ok-closings.ensures;
      phases =
          subst (λ (z : List TableList). AreBeside (λ (l : TableList) (phase : Phase). IsPhase l.0.1 l.1 phase) z c.in_ok-phases.phases.items) last
          (beside_made list_of (λ (l : TableList) (phase : Phase). IsPhase l.0.1 l.1 phase) c.hear_actors.new.closings.items c.in_ok-phases.phases.items c.in_ok-phases.ensures);
      members = c.in_ok-ended.ensures.ended;
      passes = subst (λ (z : List TableList). AllByRecursion (ArePassesHeard z) c.args.passes.items) first c.hear_actors.ensures.heard;
    }
