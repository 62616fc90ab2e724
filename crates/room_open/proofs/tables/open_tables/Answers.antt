use Rattle.std.proofs.Common.{◌≡◌, ◌<◌, [], ◌∷◌, ◌++◌, length, sym, ap, subst, ◌∙◌, arith, append-nil, append_assoc}
use Rattle.std.proofs.lemmas.List.{nil_from_length}
use Rattle.core_setup.proofs.PairLemmas.{get_within, pairs_length}
use Rattle.room_open.specs.Laid.{AreTablesOpen, BeginsTable}
use Rattle.room_open.proofs.Places.{next_at}
use Rattle.room_open.proofs.Laying.{none_open, one_open, stands_at}
use Rattle.room_open.proofs.tables.open_tables.Goals as goal

pub loop-stood-init : goal.loop-stood-init
loop-stood-init g c = record {
  done = [];
  all = c.into_iter-stood-iterator.ensures.into_iter_gives.0;
  opened_are = λ setup counts same.
      let made = c.in_ok-opened.ensures in
      none_open setup c.args.members.now c.args.actors c.in_ok-opened.opened c.args.before.now.items c.args.channels counts made.opened made.tables made.counts.0 made.counts.1 made.counts.2 c.requires.none;
}

pub open_next-requires-clause-few : goal.open_next-requires-clause-few
open_next-requires-clause-few g c =
    let s = c.requires.stands in
    let i = c.loop-stood.invariant in
    let x = c.in-Some.stood in
    let opened = c.loop-stood.opened in
    let t = i.opened_are s.0 s.1 s.2.count in
    let few = c.requires.few in
    let small = few.1 in
    let least = few.2 in
    let counts : length opened.cursors.items ≡ c.args.channels = t.can.counts.cursors_are ∙ sym s.1.cursors_are in
    let many = pairs_length (BeginsTable s.0) 0 i.done opened.tables.items t.tables in
    let joined = ap (λ l. i.done ++ l) (sym c.in-Some.ensures.steps.0) ∙ i.all in
    let inside = get_within c.args.tables.items (length i.done) x (next_at i.done c.next.new.self.rest.items c.args.tables.items x joined) in
    (few.0, omega (arith, counts, small), omega (arith, many, inside, least))

pub open_next-requires-clause-can : goal.open_next-requires-clause-can
open_next-requires-clause-can g c =
    let s = c.requires.stands in
    (s.0, (c.loop-stood.invariant.opened_are s.0 s.1 s.2.count).can)

pub open_next-requires-clause-rows : goal.open_next-requires-clause-rows
open_next-requires-clause-rows g c =
    let s = c.requires.stands in
    let i = c.loop-stood.invariant in
    let x = c.in-Some.stood in
    let joined = ap (λ l. i.done ++ l) (sym c.in-Some.ensures.steps.0) ∙ i.all in
    let is = (stands_at s.0.tables c.args.tables.items s.2 (length i.done) x (next_at i.done c.next.new.self.rest.items c.args.tables.items x joined)).1 in
    (is.kept, is.rows, is.nets)

pub loop-stood-preserved : goal.loop-stood-preserved
loop-stood-preserved g c =
    let i = c.loop-stood.invariant in
    let x = c.in-Some.stood in
    let joined = ap (λ l. i.done ++ l) (sym c.in-Some.ensures.steps.0) ∙ i.all in
    record {
      done = i.done ++ x ∷ [];
      all = append_assoc i.done (x ∷ []) c.next.new.self.rest.items ∙ joined;
      opened_are = λ setup counts same.
          let t = i.opened_are setup counts same in
          let many = pairs_length (BeginsTable setup) 0 i.done c.loop-stood.opened.tables.items t.tables in
          let inside = get_within c.args.tables.items (length i.done) x (next_at i.done c.next.new.self.rest.items c.args.tables.items x joined) in
          let less : length c.loop-stood.opened.tables.items < length setup.tables = omega (arith, many, inside, same) in
          one_open setup c.args.members.now c.args.actors i.done x c.loop-stood.opened c.open_next.new.opened c.loop-stood.before.items c.open_next.new.before.items t
          (c.in_ok-open_next.ensures.opened setup t.can less) c.in_ok-open_next.ensures.before;
    }

pub returns : goal.returns
returns g c =
    let i = c.loop-stood.invariant in
    let rest = c.loop-stood.stood-iterator.rest in
    let none : rest.items ≡ [] = nil_from_length rest.items (omega (arith, c.in-None.ensures.steps, rest.ok.0)) in
    let whole = sym (append-nil i.done) ∙ ap (λ z. i.done ++ z) (sym none) ∙ i.all in
    λ setup counts same. subst (λ z. AreTablesOpen setup c.args.members.now c.args.actors z c.loop-stood.opened c.loop-stood.before.items) whole (i.opened_are setup counts same)
