use Rattle.std.proofs.Common.{◌≡◌, List, [], ◌∷◌, ◌++◌, length, sym, ap, subst, ◌∙◌, append_assoc, rules}
use Rattle.std.specs.List.{All}
use Rattle.std.specs.declared.alloc.Global.{Global}
use Rattle.std.specs.declared.vec.Vec.{Vec}
use Rattle.std.proofs.lemmas.List.{append-nil, nil_from_length}
use Rattle.core_machine.specs.Machine.{Plays}
use Rattle.core_setup.specs.Protocols.{rules_of}
use Rattle.script_lines.specs.declared.script.Line.{Line}
use Rattle.show_route.specs.declared.query.Query.{Query}
use Rattle.sys_run.specs.Scripts.{AsksWhatIs, FitsLine, phase_of}
use Rattle.sys_run.proofs.PlayingLines.{line_among, plays_line}
use Rattle.sys_run.proofs.player.Core.run.Goals as goal

pub step-requires-clause-holds : goal.step-requires-clause-holds
step-requires-clause-holds g c =
    let h = c.requires.holds in
    let now = c.loop-line.invariant.2 h.0 h.1 h.2 h.3 in
    let lines : c.loop-line.yielded ++ c.in-Some.line ∷ c.next.new.self.rest.items ≡ c.args.lines.items =
    ap (λ (l : List Line). c.loop-line.yielded ++ l) (sym c.in-Some.ensures.steps.0) ∙ c.loop-line.invariant.1 in
    (h.0, h.1, now.0, now.2, line_among (FitsLine h.0) c.loop-line.yielded c.in-Some.line c.next.new.self.rest.items (subst (All (FitsLine h.0)) (sym lines) h.4))

pub step-requires-clause-asked : goal.step-requires-clause-asked
step-requires-clause-asked g c =
    let lines : c.loop-line.yielded ++ c.in-Some.line ∷ c.next.new.self.rest.items ≡ c.args.lines.items =
    ap (λ (l : List Line). c.loop-line.yielded ++ l) (sym c.in-Some.ensures.steps.0) ∙ c.loop-line.invariant.1 in
    let held : length c.args.self.now.queries.items ≡ length c.loop-line.self.queries.items = ap (λ (v : Vec Query Global). length v.items) (sym c.loop-line.invariant.0.queries) in
    subst (λ n. AsksWhatIs n c.in-Some.line) held
    (line_among (AsksWhatIs (length c.args.self.now.queries.items)) c.loop-line.yielded c.in-Some.line c.next.new.self.rest.items
    (subst (All (AsksWhatIs (length c.args.self.now.queries.items))) (sym lines) c.requires.asked))

pub loop-line-preserved : goal.loop-line-preserved
loop-line-preserved g c =
    let kept = c.loop-line.invariant.0 in
    let more = c.in_ok-step.ensures.kept in (
      record { phases = more.phases ∙ kept.phases; replies = more.replies ∙ kept.replies; queries = more.queries ∙ kept.queries },
      append_assoc c.loop-line.yielded (c.in-Some.line ∷ []) c.next.new.self.rest.items ∙ ap (λ (l : List Line). c.loop-line.yielded ++ l) (sym c.in-Some.ensures.steps.0) ∙ c.loop-line.invariant.1,
      λ setup past s are.
          let now = c.loop-line.invariant.2 setup past s are in
          let one = c.in_ok-step.ensures.core setup past now.0 now.2 in
          (one.0, plays_line (rules_of setup) setup.queries c.loop-line.yielded c.in-Some.line s now.0 one.0 now.1 one.1, one.2),
    )

pub returns-clause-core : goal.returns-clause-core
returns-clause-core g c = λ setup past s are.
    let now = c.loop-line.invariant.2 setup past s are in
    let none : c.loop-line.line-iterator.rest.items ≡ [] = search (rules, nil_from_length) in
    let whole : c.loop-line.yielded ≡ c.args.lines.items =
    sym (append-nil c.loop-line.yielded) ∙ ap (λ (l : List Line). c.loop-line.yielded ++ l) (sym none) ∙ c.loop-line.invariant.1 in
    (now.0, subst (λ (l : List Line). Plays (rules_of setup) (phase_of setup.queries l) s now.0) whole now.1, now.2)

pub returns-clause-kept : goal.returns-clause-kept
returns-clause-kept g c = c.loop-line.invariant.0
