use Rattle.std.proofs.Common.{◌≡◌, ◌<◌, ◌++◌, List, [], ◌∷◌, length, set, Some, refl, sym, ap, subst, ◌∙◌, arith}
use Rattle.std.specs.Prelude.{slice_get}
use Rattle.std.specs.Vec.{with_item}
use Rattle.core_machine.specs.Lines.{Turn, turn_of}
use Rattle.core_machine.specs.Machine.{with_turn}
use Rattle.core_setup.proofs.PairLemmas.{get-set, get_one, length-set_at}
use Rattle.run_tables.proofs.Routing.{item_read}
use Rattle.sys_run.specs.Cores.{AreAdmitted, ImportsTo, IsCore}
use Rattle.sys_run.specs.declared.player.Core.{Core}
use Rattle.sys_run.specs.declared.protocol.Protocol.{Protocol}
use Rattle.sys_run.proofs.OperatingCore.{admitted_there, changed, changed_is, imports_there, noted, operation_done, signal_fits, sources_are, turned_of, unacted}
use Rattle.sys_run.proofs.Fitting.{fits_same}
use Rattle.sys_run.proofs.player.Core.apply.Goals as goal

pub index_mut-requires : goal.index_mut-requires
index_mut-requires g c = let len = c.len.ensures in let w = c.if-number-len.false in let ok = c.args.self.now.protocols.ok.0 in omega (arith, len, w, ok)

pub change-requires-clause-routes : goal.change-requires-clause-routes
change-requires-clause-routes g c = let h = c.requires in (h.0, h.2, h.3.routes)

pub change-requires-clause-there : goal.change-requires-clause-there
change-requires-clause-there g c =
    let items = c.args.self.now.protocols.items in
    let mid : Protocol g.row.J.Denot = record c.index_mut.result.now { body = c.turn.new.self } in
    let w : c.args.number < length items = omega (arith, c.len.ensures, c.if-number-len.false, c.args.self.now.protocols.ok.0) in
    omega (arith, w, length-set_at items c.args.number mid)

pub change-requires-clause-sources : goal.change-requires-clause-sources
change-requires-clause-sources g c =
    let v = g.J.Judge.verdict in
    let h = c.requires in
    let core = c.args.self.now in
    let i = c.args.number in
    let held = c.index_mut.result.now in
    let w : i < length core.protocols.items = omega (arith, c.len.ensures, c.if-number-len.false, core.protocols.ok.0) in
    let eh = item_read core.protocols.items i held w c.index_mut.ensures.value in
    let is = turned_of v h.0 h.1 h.2 core h.3 i c.args.op held c.turn.new.self c.in_ok-changes.field-0 eh c.in_ok-changes.ensures in
    sources_are v h.0 h.1 h.2 core h.3 i c.args.op held c.turn.new.self c.in_ok-changes.field-0 is c.into_vec.result.items c.into_vec.ensures

pub change-requires-clause-table : goal.change-requires-clause-table
change-requires-clause-table g c = λ given e.
    let v = g.J.Judge.verdict in
    let h = c.requires in
    let core = c.args.self.now in
    let i = c.args.number in
    let held = c.index_mut.result.now in
    let mid : Protocol g.row.J.Denot = record held { body = c.turn.new.self } in
    let w : i < length core.protocols.items = omega (arith, c.len.ensures, c.if-number-len.false, core.protocols.ok.0) in
    let eh = item_read core.protocols.items i held w c.index_mut.ensures.value in
    let is = turned_of v h.0 h.1 h.2 core h.3 i c.args.op held c.turn.new.self c.in_ok-changes.field-0 eh c.in_ok-changes.ensures in
    let same : mid ≡ given = get_one (set core.protocols.items i mid) i mid given (get-set core.protocols.items i mid w) e in
    subst (λ (p : Protocol g.row.J.Denot). ImportsTo (length core.routes.tables.items) p.body) same
    (imports_there v h.0 h.1 h.2 core h.3 i c.args.op held c.turn.new.self c.in_ok-changes.field-0 is)

pub change-requires-clause-admitted : goal.change-requires-clause-admitted
change-requires-clause-admitted g c = λ given e.
    let v = g.J.Judge.verdict in
    let h = c.requires in
    let core = c.args.self.now in
    let i = c.args.number in
    let held = c.index_mut.result.now in
    let mid : Protocol g.row.J.Denot = record held { body = c.turn.new.self } in
    let w : i < length core.protocols.items = omega (arith, c.len.ensures, c.if-number-len.false, core.protocols.ok.0) in
    let eh = item_read core.protocols.items i held w c.index_mut.ensures.value in
    let is = turned_of v h.0 h.1 h.2 core h.3 i c.args.op held c.turn.new.self c.in_ok-changes.field-0 eh c.in_ok-changes.ensures in
    let same : mid ≡ given = get_one (set core.protocols.items i mid) i mid given (get-set core.protocols.items i mid w) e in
    subst (λ (p : Protocol g.row.J.Denot). AreAdmitted p.body core.routes c.into_vec.result.items) same
    (admitted_there v h.0 h.1 h.2 core h.3 i c.args.op held c.turn.new.self c.in_ok-changes.field-0 is h.4 c.into_vec.result.items c.into_vec.ensures)

pub obey-requires-clause-there : goal.obey-requires-clause-there
obey-requires-clause-there g c =
    let items = c.args.self.now.protocols.items in
    let mid : Protocol g.row.J.Denot = record c.index_mut.result.now { body = c.turn.new.self } in
    let w : c.args.number < length items = omega (arith, c.len.ensures, c.if-number-len.false, c.args.self.now.protocols.ok.0) in
    let kept : length c.change.new.self.protocols.items ≡ length (set items c.args.number mid) = ap (λ (core : Core g.row.J.Denot). length core.protocols.items) c.change.ensures.kept in
    omega (arith, w, kept, length-set_at items c.args.number mid)

pub obey-requires-clause-holds : goal.obey-requires-clause-holds
obey-requires-clause-holds g c = λ given e.
    let v = g.J.Judge.verdict in
    let h = c.requires in
    let core = c.args.self.now in
    let i = c.args.number in
    let held = c.index_mut.result.now in
    let mid : Protocol g.row.J.Denot = record held { body = c.turn.new.self } in
    let w : i < length core.protocols.items = omega (arith, c.len.ensures, c.if-number-len.false, core.protocols.ok.0) in
    let eh = item_read core.protocols.items i held w c.index_mut.ensures.value in
    let is = turned_of v h.0 h.1 h.2 core h.3 i c.args.op held c.turn.new.self c.in_ok-changes.field-0 eh c.in_ok-changes.ensures in
    let turn : Turn = record { actor = 0; line = 0; op = c.args.op } in
    let em : slice_get (set core.protocols.items i mid) i ≡ Some mid = get-set core.protocols.items i mid w in
    let eg : slice_get (set core.protocols.items i mid) i ≡ Some given = ap (λ (core : Core g.row.J.Denot). slice_get core.protocols.items i) (sym c.change.ensures.kept) ∙ e in
    let same : mid ≡ given = get_one (set core.protocols.items i mid) i mid given em eg in
    let low : held.from ≡ given.from = ap (λ (p : Protocol g.row.J.Denot). p.from) same in
    let high : held.upto ≡ given.upto = ap (λ (p : Protocol g.row.J.Denot). p.upto) same in
    let fits = signal_fits v h.0 h.1 h.2 core h.3 i c.args.op held c.turn.new.self c.in_ok-changes.field-0 is turn in (
      h.0,
      noted v h.0 h.1 i turn h.2,
      changed_is v h.0 h.1 h.2 core h.3 i c.args.op held c.turn.new.self c.in_ok-changes.field-0 is c.into_vec.result.items c.change.new.self.routes turn refl c.into_vec.ensures
          (c.in_ok-change.ensures.routes h.0 h.2 mid h.3.routes em),
      λ n from_is below. fits n (omega (arith, from_is, low)) (omega (arith, below, high)),
      let within = is.plays.within in omega (arith, within, high),
    )

pub index_mut-requires-2 : goal.index_mut-requires-2
index_mut-requires-2 g c =
    let items = c.args.self.now.protocols.items in
    let mid : Protocol g.row.J.Denot = record c.index_mut.result.now { body = c.turn.new.self } in
    let w : c.args.number < length items = omega (arith, c.len.ensures, c.if-number-len.false, c.args.self.now.protocols.ok.0) in
    let kept : length c.change.new.self.protocols.items ≡ length (set items c.args.number mid) = ap (λ (core : Core g.row.J.Denot). length core.protocols.items) c.change.ensures.kept in
    let still : length c.obey.new.self.protocols.items ≡ length c.change.new.self.protocols.items = ap (λ (core : Core g.row.J.Denot). length core.protocols.items) c.obey.ensures.kept in
    omega (arith, w, kept, still, length-set_at items c.args.number mid, c.obey.new.self.protocols.ok.0)

pub returns-then-number-len-clause-core : goal.returns-then-number-len-clause-core
returns-then-number-len-clause-core g c = λ setup past s a are ei eo.
    unacted g.J.Judge.verdict setup past s c.args.self.now a are (omega (arith, c.if-number-len.true, c.len.ensures, ei, c.args.self.now.protocols.ok.0))

pub returns-clause-core : goal.returns-clause-core
returns-clause-core g c = λ setup past s a are ei eo.
    let v = g.J.Judge.verdict in
    let core = c.args.self.now in
    let i = c.args.number in
    let op = c.args.op in
    let held = c.index_mut.result.now in
    let turned = c.in_ok-changes.field-0 in
    let mid : Protocol g.row.J.Denot = record held { body = c.turn.new.self } in
    let again = c.index_mut-2.result.now in
    let after : Protocol g.row.J.Denot = record again { done = c.push.new.self } in
    let w : i < length core.protocols.items = omega (arith, c.len.ensures, c.if-number-len.false, core.protocols.ok.0) in
    let eh = item_read core.protocols.items i held w c.index_mut.ensures.value in
    let is = turned_of v setup past s core are i op held c.turn.new.self turned eh c.in_ok-changes.ensures in
    let em : slice_get (set core.protocols.items i mid) i ≡ Some mid = get-set core.protocols.items i mid w in
    let now =
    changed_is v setup past s core are i op held c.turn.new.self turned is c.into_vec.result.items c.change.new.self.routes (turn_of a) eo c.into_vec.ensures
    (c.in_ok-change.ensures.routes setup s mid are.routes em) in
    let fits = signal_fits v setup past s core are i op held c.turn.new.self turned is (turn_of a) in
    let ec : slice_get c.change.new.self.protocols.items i ≡ Some mid = ap (λ (core : Core g.row.J.Denot). slice_get core.protocols.items i) c.change.ensures.kept ∙ em in
    let got = c.in_ok-obey.ensures.routes setup (with_turn i (turn_of a) (changed v setup past i op s)) mid now ec fits in
    let whole =
    c.obey.ensures.kept ∙ ap (λ (core : Core g.row.J.Denot). record core { routes = c.obey.new.self.routes }) c.change.ensures.kept in
    let items : c.obey.new.self.protocols.items ≡ set core.protocols.items i mid = ap (λ (core : Core g.row.J.Denot). core.protocols.items) whole in
    let wo : i < length c.obey.new.self.protocols.items = omega (arith, w, ap length items, length-set_at core.protocols.items i mid) in
    let same : again ≡ mid =
    get_one c.obey.new.self.protocols.items i again mid (item_read c.obey.new.self.protocols.items i again wo c.index_mut-2.ensures.value) (ap (λ (xs : List (Protocol g.row.J.Denot)). slice_get xs i) items ∙ em) in
    let protocols = with_item c.obey.new.self.protocols i after in
    let done =
    operation_done v setup past s core are i op held c.turn.new.self turned is a got.0 c.obey.new.self.routes protocols mid after ei eo eh got.1 got.2 (ap (λ (xs : List (Protocol g.row.J.Denot)). set xs i after) items)
    (ap (λ (p : Protocol g.row.J.Denot). p.body) same) (ap (λ (p : Protocol g.row.J.Denot). p.from) same) (ap (λ (p : Protocol g.row.J.Denot). p.upto) same)
    (c.in_ok-push.ensures.items ∙ ap (λ (p : Protocol g.row.J.Denot). p.done.items ++ record { op = op; over = turned.over } ∷ []) same)
    (fits_same v c.requires.0 setup c.requires.1 past c.requires.2 s core c.requires.3 are i op c.requires.4) in
    (done.0, done.1, subst (IsCore v setup past done.0) (sym (ap (λ (core : Core g.row.J.Denot). record core { protocols = protocols }) whole)) done.2)

pub returns-clause-kept : goal.returns-clause-kept
returns-clause-kept g c = record {
  phases = ap (λ (core : Core g.row.J.Denot). core.phases) c.obey.ensures.kept ∙ ap (λ (core : Core g.row.J.Denot). core.phases) c.change.ensures.kept;
  replies = ap (λ (core : Core g.row.J.Denot). length core.replies.items) c.obey.ensures.kept ∙ ap (λ (core : Core g.row.J.Denot). length core.replies.items) c.change.ensures.kept;
  queries = ap (λ (core : Core g.row.J.Denot). core.queries) c.obey.ensures.kept ∙ ap (λ (core : Core g.row.J.Denot). core.queries) c.change.ensures.kept;
}
