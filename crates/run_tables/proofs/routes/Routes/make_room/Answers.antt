use Rattle.std.proofs.Common.{◌+◌, ℕ, List, refl, sym, ap, subst, ◌∙◌, arith}
use Rattle.std.specs.Prelude.{slice_get, take}
use Rattle.std.specs.declared.alloc.Global.{Global}
use Rattle.std.specs.declared.vec.Vec.{Vec}
use Rattle.core_setup.specs.Protocols.{rules_of}
use Rattle.run_tables.specs.Routes.{AreRoutes, readers_at}
use Rattle.run_tables.proofs.Readers.{reader_is, readers_of, readers_there}
use Rattle.run_tables.proofs.Routing.{channels_length}
use Rattle.run_tables.proofs.RouteSteps.{room_begins, room_ends, room_more, rooms_in}
use Rattle.run_tables.proofs.routes.Routes.make_room.Goals as goal

pub count_readers-place-end-requires : goal.count_readers-place-end-requires
count_readers-place-end-requires g c = let h = c.requires.holds in readers_there g.J.Judge.verdict h.0 h.1 c.args.self.now h.2 c.args.table c.requires.there

pub loop-place-init : goal.loop-place-init
loop-place-init g c = (refl, λ setup s are. room_begins g.J.Judge.verdict setup c.args.table (readers_at c.args.table c.args.self.now) s c.args.self.now are)

pub reader-number-requires : goal.reader-number-requires
reader-number-requires g c =
    let h = c.requires.holds in
    let n = readers_of g.J.Judge.verdict h.0 h.1 c.args.self.now h.2 c.args.table c.requires.there in
    let count = c.count_readers-place-end.ensures n.numbers n.there in
    let lt = c.loop-place-test.true in
    (n.numbers, ap (λ (x : Vec (Vec ℕ Global) Global). slice_get x.items c.args.table) c.loop-place.invariant.0 ∙ n.there, omega (arith, count, lt))

pub make_room_of-requires-clause-holds : goal.make_room_of-requires-clause-holds
make_room_of-requires-clause-holds g c =
    let h = c.requires.holds in
    (h.0, rooms_in (rules_of h.0) c.args.table (take c.loop-place.place (readers_at c.args.table c.args.self.now)) h.1, c.loop-place.invariant.1 h.0 h.1 h.2)

pub make_room_of-requires-clause-there : goal.make_room_of-requires-clause-there
make_room_of-requires-clause-there g c =
    let v = g.J.Judge.verdict in
    let h = c.requires.holds in
    let n = readers_of v h.0 h.1 c.args.self.now h.2 c.args.table c.requires.there in
    let at = c.reader-number.ensures n.numbers (ap (λ (x : Vec (Vec ℕ Global) Global). slice_get x.items c.args.table) c.loop-place.invariant.0 ∙ n.there) in
    let is = reader_is (rules_of h.0) _ c.args.table n.numbers.items c.loop-place.place c.reader-number.result n.are_readers at in
    let len = channels_length v h.0 (rooms_in (rules_of h.0) c.args.table (take c.loop-place.place (readers_at c.args.table c.args.self.now)) h.1) c.loop-place.self (c.loop-place.invariant.1 h.0 h.1 h.2) in
    let w = is.0 in
    omega (arith, w, len)

pub loop-place-preserved : goal.loop-place-preserved
loop-place-preserved g c = (
  c.in_ok-make_room_of.ensures.readers ∙ c.loop-place.invariant.0,
  λ setup s are.
      let v = g.J.Judge.verdict in
      let t = c.args.table in
      let place = c.loop-place.place in
      let n = readers_of v setup s c.args.self.now are t c.requires.there in
      let at = c.reader-number.ensures n.numbers (ap (λ (x : Vec (Vec ℕ Global) Global). slice_get x.items t) c.loop-place.invariant.0 ∙ n.there) in
      let is = reader_is (rules_of setup) _ t n.numbers.items place c.reader-number.result n.are_readers at in
      let before = c.loop-place.invariant.1 setup s are in
      let step = c.in_ok-make_room_of.ensures.room setup (rooms_in (rules_of setup) t (take place n.numbers.items) s)
      (subst (λ (xs : List ℕ). AreRoutes v setup (rooms_in (rules_of setup) t (take place xs) s) c.loop-place.self) n.listed before) in
      subst (λ (xs : List ℕ). AreRoutes v setup (rooms_in (rules_of setup) t (take (place + 1) xs) s) c.make_room_of.new.self) (sym n.listed)
      (room_more v setup t n.numbers.items s place c.reader-number.result c.make_room_of.new.self n.are_readers at is.1 step),
)

pub returns : goal.returns
returns g c = λ setup s are.
    let v = g.J.Judge.verdict in
    let t = c.args.table in
    let n = readers_of v setup s c.args.self.now are t c.requires.there in
    let count = c.count_readers-place-end.ensures n.numbers n.there in
    let le = c.loop-place.auto.place-end in
    let ge = c.loop-place-test.false in
    room_ends v setup t n.numbers.items s c.loop-place.place c.args.self.now c.loop-place.self n.are_readers (omega (arith, count, le, ge)) are
    (subst (λ (xs : List ℕ). AreRoutes v setup (rooms_in (rules_of setup) t (take c.loop-place.place xs) s) c.loop-place.self) n.listed (c.loop-place.invariant.1 setup s are))
