use Rattle.std.proofs.Common.{◌≡◌, ◌+◌, List, [], ◌∷◌, ◌++◌, length, map, Some, refl, sym, ap, ◌∙◌, append_assoc, arith, rules}
use Rattle.std.specs.Prelude.{slice_get}
use Rattle.std.specs.declared.alloc.Global.{Global}
use Rattle.std.specs.declared.vec.Vec.{Vec}
use Rattle.std.proofs.lemmas.List.{append-nil, length-append, nil_from_length}
use Rattle.report.specs.declared.phase.ReplyReport.{ReplyReport}
use Rattle.sys_run.specs.Phase.{reply_of, told}
use Rattle.sys_run.specs.declared.player.Answered.{Answered}
use Rattle.sys_run.proofs.PlayingLines.{at_length}
use Rattle.sys_run.proofs.ReportingLoops.{told_more, told_none}
use Rattle.sys_run.proofs.phase.report_replies.Goals as goal

pub loop-answered-init : goal.loop-answered-init
loop-answered-init c =
    let whole : c.into_iter-answered-iterator.result.rest.items ≡ c.args.replies.items = search rules in
    (refl, c.new-reports.ensures ∙ sym (told_none c.args.tables.now c.args.actors.now), whole)

pub name_at-actor-requires : goal.name_at-actor-requires
name_at-actor-requires c =
    let held = c.loop-answered.yielded in
    let more = c.in-Some.answered ∷ c.next.new.self.rest.items in
    let whole : held ++ more ≡ c.args.replies.items = ap (λ (l : List (Vec Answered Global)). held ++ l) (sym c.in-Some.ensures.steps.0) ∙ c.loop-answered.invariant.2 in
    let at = c.loop-answered.invariant.0 in
    let many = c.requires.actors in
    omega (arith, at, many, ap length whole, length-append held more)

pub overflow_add-number : goal.overflow_add-number
overflow_add-number c =
    let held = c.loop-answered.yielded in
    let more = c.in-Some.answered ∷ c.next.new.self.rest.items in
    let whole : held ++ more ≡ c.args.replies.items = ap (λ (l : List (Vec Answered Global)). held ++ l) (sym c.in-Some.ensures.steps.0) ∙ c.loop-answered.invariant.2 in
    let at = c.loop-answered.invariant.0 in
    omega (arith, at, c.args.replies.ok.0, ap length whole, length-append held more)

pub tell-requires : goal.tell-requires
tell-requires c =
    let held = c.loop-answered.yielded in
    let more = c.in-Some.answered ∷ c.next.new.self.rest.items in
    let whole : held ++ more ≡ c.args.replies.items = ap (λ (l : List (Vec Answered Global)). held ++ l) (sym c.in-Some.ensures.steps.0) ∙ c.loop-answered.invariant.2 in
    c.requires.tables (length held) c.in-Some.answered
    (ap (λ (l : List (Vec Answered Global)). slice_get l (length held)) (sym whole) ∙ at_length held c.in-Some.answered c.next.new.self.rest.items)

pub loop-answered-preserved : goal.loop-answered-preserved
loop-answered-preserved c =
    let table = c.args.tables.now in
    let actors = c.args.actors.now in
    let held = c.loop-answered.yielded in
    let last = c.in-Some.answered in
    let actor = c.name_at-actor.result.now in
    let at : c.loop-answered.number ≡ length held = c.loop-answered.invariant.0 in
    let there : slice_get actors (length held) ≡ Some actor = ap (slice_get actors) (sym at) ∙ c.name_at-actor.ensures in (
      omega (arith, at, length-append held (last ∷ [])),
      c.in_ok-tell.ensures ∙ ap (λ (l : List ReplyReport). l ++ map (reply_of table actor) last.items) c.loop-answered.invariant.1 ∙ sym (told_more table actors held last actor there),
      append_assoc held (last ∷ []) c.next.new.self.rest.items ∙ ap (λ (l : List (Vec Answered Global)). held ++ l) (sym c.in-Some.ensures.steps.0) ∙ c.loop-answered.invariant.2,
    )

pub returns : goal.returns
returns c =
    let none : c.loop-answered.answered-iterator.rest.items ≡ [] = search (rules, nil_from_length) in
    let whole : c.loop-answered.yielded ≡ c.args.replies.items =
    sym (append-nil c.loop-answered.yielded) ∙ ap (λ (l : List (Vec Answered Global)). c.loop-answered.yielded ++ l) (sym none) ∙ c.loop-answered.invariant.2 in
    c.loop-answered.invariant.1 ∙ ap (told c.args.tables.now c.args.actors.now) whole
