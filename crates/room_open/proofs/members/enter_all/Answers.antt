use Rattle.std.proofs.Common.{◌≡◌, [], ◌∷◌, ◌++◌, length, refl, sym, ap, subst, ◌∙◌, arith, append-nil, append_assoc}
use Rattle.std.specs.Prelude.{slice_get}
use Rattle.std.proofs.lemmas.List.{nil_from_length}
use Rattle.core_setup.proofs.PairLemmas.{get_within}
use Rattle.room_open.specs.Laid.{AreEntered}
use Rattle.room_open.specs.Lists.{AreOthers}
use Rattle.room_open.proofs.All.{all_cursors_later, can_next, cursors_later, few_entered, one_entered, ports_next}
use Rattle.room_open.proofs.Places.{all_later, later_more, next_at, one_longer}
use Rattle.room_open.proofs.members.enter_all.Goals as goal

pub loop-held-init : goal.loop-held-init
loop-held-init g c = record {
  done = [];
  all = c.into_iter-held-iterator.ensures.into_iter_gives.0;
  number_is = refl;
  ports_are = all_later 0 c.args.ports.items;
  cursors_are = all_cursors_later (g.P.Phase.terms c.args.played.now).setup c.args.cursors.now.items;
  entered = λ stood can. c.requires.begun stood;
}

pub take_list-own-requires : goal.take_list-own-requires
take_list-own-requires g c =
    let i = c.loop-held.invariant in
    let can = c.requires.can.1 in
    let x = c.in-Some.held in
    let joined = ap (λ l. i.done ++ l) (sym c.in-Some.ensures.steps.0) ∙ i.all in
    let inside = get_within c.args.members.items (length i.done) x (next_at i.done c.next.new.self.rest.items c.args.members.items x joined) in
    let place = i.number_is in
    let many = can.ports_count in
    let count = i.ports_are.count in
    omega (arith, inside, place, many, count)

pub enter_next-requires-clause-begun : goal.enter_next-requires-clause-begun
enter_next-requires-clause-begun g c =
    let s = c.requires.can in
    (c.loop-held.invariant.entered s.0 s.1).begun_is

pub enter_next-requires-clause-played : goal.enter_next-requires-clause-played
enter_next-requires-clause-played g c =
    let s = c.requires.can in
    (c.loop-held.invariant.entered s.0 s.1).played_is

pub enter_next-requires-clause-hands : goal.enter_next-requires-clause-hands
enter_next-requires-clause-hands g c =
    let s = c.requires.can in
    let now = (c.loop-held.invariant.entered s.0 s.1).hands in
    let first = (c.requires.begun s.0).hands in
    let few = c.requires.few.1 in
    (now, omega (arith, now, first, few))

pub enter_next-requires-clause-few : goal.enter_next-requires-clause-few
enter_next-requires-clause-few g c =
    let i = c.loop-held.invariant in
    let s = c.requires.can in
    let x = c.in-Some.held in
    let joined = ap (λ l. i.done ++ l) (sym c.in-Some.ensures.steps.0) ∙ i.all in
    let at = next_at i.done c.next.new.self.rest.items c.args.members.items x joined in
    let tables = c.args.begun.now.room.tables.items in
    let before = c.args.before.now.items in
    let cursors = c.args.cursors.now.items in
    let begun = c.loop-held.begun in
    few_entered g.J.Judge.verdict g.P.Phase.terms g.P.Sends.exports g.P.Sends.rules c.args.played.now s.0 tables before cursors c.args.ports.items c.args.members.items s.1 i.done begun (i.entered s.0 s.1) x at c.requires.few.0

pub enter_next-requires-clause-ports : goal.enter_next-requires-clause-ports
enter_next-requires-clause-ports g c =
    let i = c.loop-held.invariant in
    let s = c.requires.can in
    let x = c.in-Some.held in
    let joined = ap (λ l. i.done ++ l) (sym c.in-Some.ensures.steps.0) ∙ i.all in
    let at = next_at i.done c.next.new.self.rest.items c.args.members.items x joined in
    let tables = c.args.begun.now.room.tables.items in
    let before = c.args.before.now.items in
    let cursors = c.args.cursors.now.items in
    let begun = c.loop-held.begun in
    ports_next g.J.Judge.verdict g.P.Phase.terms g.P.Sends.exports g.P.Sends.rules c.args.played.now s.0 tables before cursors c.args.ports.items c.args.members.items s.1 i.done begun (i.entered s.0 s.1) x at c.loop-held.ports.items c.take_list-own.result i.ports_are (ap (slice_get c.loop-held.ports.items) (sym i.number_is) ∙ c.take_list-own.ensures.taken)

pub enter_next-requires-clause-can : goal.enter_next-requires-clause-can
enter_next-requires-clause-can g c =
    let i = c.loop-held.invariant in
    let s = c.requires.can in
    let x = c.in-Some.held in
    let joined = ap (λ l. i.done ++ l) (sym c.in-Some.ensures.steps.0) ∙ i.all in
    let at = next_at i.done c.next.new.self.rest.items c.args.members.items x joined in
    let tables = c.args.begun.now.room.tables.items in
    let before = c.args.before.now.items in
    let cursors = c.args.cursors.now.items in
    let begun = c.loop-held.begun in
    (s.0, can_next g.J.Judge.verdict g.P.Phase.terms g.P.Sends.exports g.P.Sends.rules c.args.played.now s.0 tables before cursors c.args.ports.items c.args.members.items s.1 i.done begun (i.entered s.0 s.1) x at c.loop-held.cursors.items i.cursors_are)

pub loop-held-preserved : goal.loop-held-preserved
loop-held-preserved g c =
    let i = c.loop-held.invariant in
    let s = c.requires.can in
    let x = c.in-Some.held in
    let joined = ap (λ l. i.done ++ l) (sym c.in-Some.ensures.steps.0) ∙ i.all in
    let at = next_at i.done c.next.new.self.rest.items c.args.members.items x joined in
    let tables = c.args.begun.now.room.tables.items in
    let before = c.args.before.now.items in
    let cursors = c.args.cursors.now.items in
    let begun = c.loop-held.begun in
    let number = i.number_is in
    let many = one_longer i.done x in
    let made = c.in_ok-enter_next.ensures in
    record {
      done = i.done ++ x ∷ [];
      all = append_assoc i.done (x ∷ []) c.next.new.self.rest.items ∙ joined;
      number_is = omega (arith, number, many);
      ports_are = later_more (length i.done) (length (i.done ++ x ∷ [])) c.args.ports.items c.loop-held.ports.items c.take_list-own.new.lists.items many i.ports_are
          (subst (λ n. AreOthers n c.loop-held.ports.items c.take_list-own.new.lists.items) number c.take_list-own.ensures.others);
      cursors_are = cursors_later g.J.Judge.verdict g.P.Phase.terms g.P.Sends.exports g.P.Sends.rules c.args.played.now s.0 tables before cursors c.args.ports.items c.args.members.items s.1 i.done begun (i.entered s.0 s.1) x at c.loop-held.cursors.items c.enter_next.new.cursors.items i.cursors_are c.enter_next.ensures.cursors.0 c.enter_next.ensures.cursors.1;
      entered = λ stood can.
          let e = i.entered stood can in
          one_entered g.J.Judge.verdict g.P.Phase.terms g.P.Sends.exports g.P.Sends.rules c.args.played.now stood tables before cursors c.args.ports.items c.args.members.items can i.done begun e x at c.enter_next.new.begun made.added.0 made.begun made.same.0 made.same.1 made.same.2 made.added.1
          (made.added.2 stood (can_next g.J.Judge.verdict g.P.Phase.terms g.P.Sends.exports g.P.Sends.rules c.args.played.now stood tables before cursors c.args.ports.items c.args.members.items can i.done begun e x at c.loop-held.cursors.items i.cursors_are));
    }

pub returns-clause-begun : goal.returns-clause-begun
returns-clause-begun g c = λ stood can.
    let i = c.loop-held.invariant in
    let rest = c.loop-held.held-iterator.rest in
    let none : rest.items ≡ [] = nil_from_length rest.items (omega (arith, c.in-None.ensures.steps, rest.ok.0)) in
    let whole = sym (append-nil i.done) ∙ ap (λ z. i.done ++ z) (sym none) ∙ i.all in
    subst (λ z. AreEntered g.P.Phase.terms g.P.Sends.exports g.P.Sends.rules c.args.played.now stood c.args.begun.now.room.tables.items z c.loop-held.begun) whole (i.entered stood can)

pub returns-clause-cursors : goal.returns-clause-cursors
returns-clause-cursors g c = c.loop-held.invariant.cursors_are.count
