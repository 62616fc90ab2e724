use Rattle.std.proofs.Common.{◌≡◌, List, [], ◌∷◌, ◌++◌, sym, ap, subst, ◌∙◌, append_assoc, arith, rules}
use Rattle.std.proofs.lemmas.List.{append-nil, nil_from_length}
use Rattle.export_core.specs.declared.log.Key.{Key}
use Rattle.core_machine.specs.Enters.{withdrawal}
use Rattle.core_machine.specs.Machine.{added, flushed}
use Rattle.core_setup.specs.Protocols.{rules_of}
use Rattle.run_tables.specs.Routes.{AdmitsAt, AreRoutes}
use Rattle.run_tables.proofs.Changing.{flushed_more, one_of}
use Rattle.run_tables.proofs.Routing.{admits_still, as_state, tables_length}
use Rattle.run_tables.proofs.routes.Routes.withdraw.Goals as goal

pub append-requires-clause-holds : goal.append-requires-clause-holds
append-requires-clause-holds g c =
    let h = c.requires.holds in
    (h.0, flushed (rules_of h.0) c.args.table c.loop-key.yielded h.1, c.loop-key.invariant.1 h.0 h.1 h.2)

pub append-requires-clause-there : goal.append-requires-clause-there
append-requires-clause-there g c =
    let v = g.J.Judge.verdict in
    let h = c.requires.holds in
    let there = c.requires.there in
    let now = c.loop-key.invariant.1 h.0 h.1 h.2 in
    omega (
      arith,
      there,
      tables_length v h.0 h.1 c.args.self.now h.2,
      tables_length v h.0 (flushed (rules_of h.0) c.args.table c.loop-key.yielded h.1) c.loop-key.self now,
    )

pub append-requires-clause-admitted : goal.append-requires-clause-admitted
append-requires-clause-admitted g c =
    let h = c.requires.holds in
    let n = c.args.table in
    let whole : c.loop-key.yielded ++ c.in-Some.key ∷ c.next.new.self.rest.items ≡ c.args.keys.items =
    ap (λ (l : List Key). c.loop-key.yielded ++ l) (sym c.in-Some.ensures.steps.0) ∙ c.loop-key.invariant.0 in
    admits_still g.J.Judge.verdict h.0 h.1 (flushed (rules_of h.0) n c.loop-key.yielded h.1) c.args.self.now c.loop-key.self h.2 (c.loop-key.invariant.1 h.0 h.1 h.2) n c.requires.there _
    (subst (AdmitsAt n c.args.self.now) (sym c.withdrawal.ensures)
    (one_of (λ (k : Key). AdmitsAt n c.args.self.now (withdrawal k)) c.args.keys.items c.loop-key.yielded c.next.new.self.rest.items c.in-Some.key c.requires.admitted whole))

pub loop-key-preserved : goal.loop-key-preserved
loop-key-preserved g c =
    let v = g.J.Judge.verdict in (
      append_assoc c.loop-key.yielded (c.in-Some.key ∷ []) c.next.new.self.rest.items ∙ ap (λ (l : List Key). c.loop-key.yielded ++ l) (sym c.in-Some.ensures.steps.0) ∙ c.loop-key.invariant.0,
      λ setup s are.
          let u = flushed (rules_of setup) c.args.table c.loop-key.yielded s in
          as_state v setup (ap (λ x. added (rules_of setup) c.args.table x u) c.withdrawal.ensures ∙ sym (flushed_more (rules_of setup) c.args.table c.loop-key.yielded c.in-Some.key s))
          (c.in_ok-append.ensures setup u (c.loop-key.invariant.1 setup s are)),
    )

pub returns : goal.returns
returns g c = λ setup s are.
    let none : c.loop-key.key-iterator.rest.items ≡ [] = search (rules, nil_from_length) in
    let whole : c.loop-key.yielded ≡ c.args.keys.items =
    sym (append-nil c.loop-key.yielded) ∙ ap (λ (l : List Key). c.loop-key.yielded ++ l) (sym none) ∙ c.loop-key.invariant.0 in
    subst (λ (l : List Key). AreRoutes g.J.Judge.verdict setup (flushed (rules_of setup) c.args.table l s) c.loop-key.self) whole (c.loop-key.invariant.1 setup s are)
