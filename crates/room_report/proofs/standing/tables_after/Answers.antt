use Rattle.std.proofs.Common.{◌≡◌, ◌≤◌, List, [], ◌∷◌, ◌++◌, length, refl, sym, ap, subst, ◌∙◌, arith, append-nil, append_assoc, length-append}
use Rattle.std.proofs.Math.Nat.{le_refl}
use Rattle.std.specs.Prelude.{option_map, slice_get}
use Rattle.std.proofs.lemmas.List.{nil_from_length}
use Rattle.core_setup.specs.Channels.{family_or_first}
use Rattle.core_setup.specs.Pairs.{Pairs}
use Rattle.sys_run.specs.declared.parts.TableParts.{TableParts}
use Rattle.table_shared.specs.declared.close.Phase.{Phase}
use Rattle.phase_open.specs.declared.standing.StandingTable.{StandingTable}
use Rattle.room_report.specs.Inside.{IsTableBehind, list_in}
use Rattle.room_report.proofs.Following.{table_as}
use Rattle.room_report.proofs.Looping.{push_here}
use Rattle.room_report.proofs.standing.tables_after.Goals as goal

pub loop-phase-init : goal.loop-phase-init
loop-phase-init c = record {
  done = [];
  all = c.into_iter-phase-iterator.ensures.into_iter_gives.0;
  place_is = refl;
  later = λ k least. refl;
  stands = subst (λ (l : List StandingTable). Pairs (IsTableBehind c.args.tables.now c.args.before.items) 0 [] l) (sym c.new-stands.ensures.items) tt;
}

pub overflow_add-place : goal.overflow_add-place
overflow_add-place c =
    let i = c.loop-phase.invariant in
    let more = c.in-Some.phase ∷ c.next.new.self.rest.items in
    let whole : i.done ++ more ≡ c.args.phases.items = ap (λ (l : List Phase). i.done ++ l) (sym c.in-Some.ensures.steps.0) ∙ i.all in
    let at = i.place_is in
    omega (arith, at, c.args.phases.ok.0, ap length whole, length-append i.done more)

pub loop-phase-preserved : goal.loop-phase-preserved
loop-phase-preserved c =
    let i = c.loop-phase.invariant in
    let x = c.in-Some.phase in
    let place = i.place_is in
    let many = length-append i.done (x ∷ []) in
    let others = c.take_list-stood.ensures.others in
    let k = length i.done in
    let stood = c.take_list-stood.ensures.list ∙ ap (λ n. list_in (slice_get c.loop-phase.before.items n)) place ∙ ap list_in (i.later k (le_refl k)) in
    let family = c.family_at-family.ensures ∙ ap (λ n. family_or_first (option_map (λ (table : TableParts). table.family) (slice_get c.args.tables.now n))) place in
    record {
      done = i.done ++ x ∷ [];
      all = append_assoc i.done (x ∷ []) c.next.new.self.rest.items ∙ ap (λ (l : List Phase). i.done ++ l) (sym c.in-Some.ensures.steps.0) ∙ i.all;
      place_is = omega (arith, place, many);
      later = λ j least.
          others.each j (λ e. let bad : 1 ≤ 0 = omega (arith, e, least, place, many) in omega (arith, bad))
          ∙ i.later j (omega (arith, least, many));
      stands =
          push_here (IsTableBehind c.args.tables.now c.args.before.items) i.done c.loop-phase.stands.items c.push.new.self.items k x c.in_ok-stand.stand refl c.in_ok-push.ensures.items i.stands
          (table_as _ _ _ _ x c.in_ok-stand.stand family stood c.in_ok-stand.ensures);
    }

pub returns : goal.returns
returns c =
    let i = c.loop-phase.invariant in
    let rest = c.loop-phase.phase-iterator.rest in
    let none : rest.items ≡ [] = nil_from_length rest.items (omega (arith, c.in-None.ensures.steps, rest.ok.0)) in
    let whole = sym (append-nil i.done) ∙ ap (λ (l : List Phase). i.done ++ l) (sym none) ∙ i.all in
    subst (λ (l : List Phase). Pairs (IsTableBehind c.args.tables.now c.args.before.items) 0 l c.loop-phase.stands.items) whole i.stands
