use Rattle.std.proofs.Common.{◌≡◌, ◌<◌, List, [], ◌∷◌, ◌++◌, length, map, sym, ap, subst, ◌∙◌, append_assoc, rules}
use Rattle.std.proofs.lemmas.List.{append-nil, nil_from_length}
use Rattle.report.specs.declared.phase.ReplyReport.{ReplyReport}
use Rattle.sys_run.specs.Phase.{AreOfTables, reply_of}
use Rattle.sys_run.specs.declared.player.Answered.{Answered}
use Rattle.sys_run.proofs.ReportingLoops.{map_push, one_among}
use Rattle.sys_run.proofs.phase.tell.Goals as goal

pub loop-reply-init : goal.loop-reply-init
loop-reply-init c =
    let whole : c.into_iter-reply-iterator.result.rest.items ≡ c.args.answered.items = search rules in
    (sym (append-nil c.args.reports.now), whole)

pub report_reply-requires : goal.report_reply-requires
report_reply-requires c =
    let done = c.loop-reply.yielded in
    let whole : done ++ c.in-Some.reply ∷ c.next.new.self.rest.items ≡ c.args.answered.items = ap (λ (l : List Answered). done ++ l) (sym c.in-Some.ensures.steps.0) ∙ c.loop-reply.invariant.1 in
    one_among (λ (reply : Answered). reply.table < length c.args.tables.now) done c.in-Some.reply c.next.new.self.rest.items
    (subst (λ (l : List Answered). AreOfTables (length c.args.tables.now) l) (sym whole) c.requires)

pub loop-reply-preserved : goal.loop-reply-preserved
loop-reply-preserved c =
    let f = reply_of c.args.tables.now c.args.actor.now in
    let done = c.loop-reply.yielded in
    let reply = c.in-Some.reply in (
      c.in_ok-push.ensures.pushed ∙ ap (λ (l : List ReplyReport). l ++ c.in_ok-report_reply.field-0 ∷ []) c.loop-reply.invariant.0
          ∙ append_assoc c.args.reports.now (map f done) (c.in_ok-report_reply.field-0 ∷ [])
          ∙ ap (λ (l : List ReplyReport). c.args.reports.now ++ l) (ap (λ (r : ReplyReport). map f done ++ r ∷ []) c.in_ok-report_reply.ensures ∙ sym (map_push f done reply)),
      append_assoc done (reply ∷ []) c.next.new.self.rest.items ∙ ap (λ (l : List Answered). done ++ l) (sym c.in-Some.ensures.steps.0) ∙ c.loop-reply.invariant.1,
    )

pub returns : goal.returns
returns c =
    let none : c.loop-reply.reply-iterator.rest.items ≡ [] = search (rules, nil_from_length) in
    let whole : c.loop-reply.yielded ≡ c.args.answered.items =
    sym (append-nil c.loop-reply.yielded) ∙ ap (λ (l : List Answered). c.loop-reply.yielded ++ l) (sym none) ∙ c.loop-reply.invariant.1 in
    c.loop-reply.invariant.0 ∙ ap (λ (l : List Answered). c.args.reports.now ++ map (reply_of c.args.tables.now c.args.actor.now) l) whole
