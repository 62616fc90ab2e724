use Rattle.std.proofs.Common.{◌≡◌, List, [], ◌∷◌, ◌++◌, length, reverse, sym, ap, subst, ◌∙◌, ◌<◌, append_assoc, arith, rules}
use Rattle.std.specs.Prelude.{IsSome}
use Rattle.std.proofs.lemmas.List.{append-nil, nil_from_length, reverse-append}
use Rattle.attrs.specs.declared.route.Change.{Change}
use Rattle.core_machine.specs.Machine.{appended}
use Rattle.core_setup.specs.Protocols.{rules_of}
use Rattle.run_tables.specs.Routes.{AdmitsAt, AreRoutes}
use Rattle.run_tables.proofs.Routing.{admits_still, tables_length}
use Rattle.run_tables.proofs.Changing.{one_of}
use Rattle.run_tables.proofs.routes.Routes.append_all.Goals as goal

pub append-requires-clause-holds : goal.append-requires-clause-holds
append-requires-clause-holds g c =
    let h = c.requires.holds in
    (h.0, appended (rules_of h.0) c.args.table (reverse c.loop-change.yielded) h.1, c.loop-change.invariant.1 h.0 h.1 h.2)

pub append-requires-clause-there : goal.append-requires-clause-there
append-requires-clause-there g c =
    let v = g.J.Judge.verdict in
    let h = c.requires.holds in
    let there = c.requires.there in
    let now = c.loop-change.invariant.1 h.0 h.1 h.2 in
    omega (
      arith,
      there,
      tables_length v h.0 h.1 c.args.self.now h.2,
      tables_length v h.0 (appended (rules_of h.0) c.args.table (reverse c.loop-change.yielded) h.1) c.loop-change.self now,
    )

pub append-requires-clause-source : goal.append-requires-clause-source
append-requires-clause-source g c =
    let h = c.requires.holds in
    let now = c.loop-change.invariant.1 h.0 h.1 h.2 in
    let old = c.args.self.now in
    let whole : c.loop-change.yielded ++ c.in-Some.change ∷ c.next.new.self.rest.items ≡ c.args.changes.items =
    ap (λ (l : List Change). c.loop-change.yielded ++ l) (sym c.in-Some.ensures.steps.0) ∙ c.loop-change.invariant.0 in
    λ some.
    let w = one_of (λ (c : Change). IsSome c.new → c.num < length old.sources.items) c.args.changes.items c.loop-change.yielded c.next.new.self.rest.items c.in-Some.change c.requires.sources whole some in
    omega (arith, w, h.2.sources.count, now.sources.count)

pub append-requires-clause-admitted : goal.append-requires-clause-admitted
append-requires-clause-admitted g c =
    let h = c.requires.holds in
    let n = c.args.table in
    let whole : c.loop-change.yielded ++ c.in-Some.change ∷ c.next.new.self.rest.items ≡ c.args.changes.items =
    ap (λ (l : List Change). c.loop-change.yielded ++ l) (sym c.in-Some.ensures.steps.0) ∙ c.loop-change.invariant.0 in
    admits_still g.J.Judge.verdict h.0 h.1 (appended (rules_of h.0) n (reverse c.loop-change.yielded) h.1) c.args.self.now c.loop-change.self h.2 (c.loop-change.invariant.1 h.0 h.1 h.2) n c.requires.there c.in-Some.change
    (one_of (AdmitsAt n c.args.self.now) c.args.changes.items c.loop-change.yielded c.next.new.self.rest.items c.in-Some.change c.requires.admitted whole)

pub loop-change-preserved : goal.loop-change-preserved
loop-change-preserved g c =
    let v = g.J.Judge.verdict in (
      append_assoc c.loop-change.yielded (c.in-Some.change ∷ []) c.next.new.self.rest.items ∙ ap (λ (l : List Change). c.loop-change.yielded ++ l) (sym c.in-Some.ensures.steps.0) ∙ c.loop-change.invariant.0,
      λ setup s are.
          subst (λ (l : List Change). AreRoutes v setup (appended (rules_of setup) c.args.table l s) c.append.new.self) (sym (reverse-append c.loop-change.yielded (c.in-Some.change ∷ [])))
          (c.in_ok-append.ensures setup (appended (rules_of setup) c.args.table (reverse c.loop-change.yielded) s) (c.loop-change.invariant.1 setup s are)),
    )

pub returns : goal.returns
returns g c = λ setup s are.
    let none : c.loop-change.change-iterator.rest.items ≡ [] = search (rules, nil_from_length) in
    let whole : c.loop-change.yielded ≡ c.args.changes.items =
    sym (append-nil c.loop-change.yielded) ∙ ap (λ (l : List Change). c.loop-change.yielded ++ l) (sym none) ∙ c.loop-change.invariant.0 in
    subst (λ (l : List Change). AreRoutes g.J.Judge.verdict setup (appended (rules_of setup) c.args.table (reverse l) s) c.loop-change.self) whole (c.loop-change.invariant.1 setup s are)
