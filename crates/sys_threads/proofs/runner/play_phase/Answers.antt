use denote.Exit.{no}
use denote.Param.{param}
use denote.Param.Send.{arg_send, param_send}
use Rattle.std.proofs.Common.{◌<◌, ℕ, refl, sym, ap, subst, ◌∙◌, arith, map}
use Rattle.std.proofs.lemmas.Result.{IfOk-weaker}
use Rattle.std.specs.List.{All}
use Rattle.room_first.specs.Sent.{lent_by}
use Rattle.sys_run.specs.Scripts.{line_of}
use Rattle.sys_threads.specs.Playing.{rules_in, sent_in, terms_of}
use Rattle.sys_threads.specs.declared.playing.Playing.{Playing}
use Rattle.sys_threads.proofs.Opened.{few_stand, is_script}
use Rattle.sys_threads.proofs.Resting.{few_parts}
use Rattle.sys_threads.proofs.Sharing.{playing_send}
use Rattle.sys_threads.proofs.runner.play_phase.Goals as goal

pub sources_of-requires : goal.sources_of-requires
sources_of-requires g c = let most = few_parts g.J.Judge.verdict c.args.playing.now.parts c.args.playing.now.actors c.requires.few in omega (arith, most)

pub open_room-requires-clause-sources : goal.open_room-requires-clause-sources
open_room-requires-clause-sources g c = let parts = c.args.playing.now.parts in c.in_ok-sources.ensures parts.tables.now parts.cells parts.choices.now parts.queries.now.items

pub open_room-requires-clause-rules : goal.open_room-requires-clause-rules
open_room-requires-clause-rules g c = refl

pub open_room-requires-clause-channels : goal.open_room-requires-clause-channels
open_room-requires-clause-channels g c = (c.requires.channels, (let few = c.requires.few.channels in let same = c.requires.channels in omega (arith, few, same)))

pub open_room-requires-clause-actors : goal.open_room-requires-clause-actors
open_room-requires-clause-actors g c = (refl, (let few = c.requires.few.seats in omega (arith, few)))

pub open_room-requires-clause-few : goal.open_room-requires-clause-few
open_room-requires-clause-few g c =
    few_stand (lent_by g.J.Judge.verdict) (terms_of g.J.Judge.verdict c.args.playing.now) (sent_in g.J.Judge.verdict c.args.playing.now) c.args.standing c.args.playing.now.actors c.requires.stands c.requires.few

pub play_opened-requires-clause-opening : goal.play_opened-requires-clause-opening
play_opened-requires-clause-opening g c κs within = (c.args.playing.now, c.args.standing.tables.items, c.args.standing.members.items, c.in_ok-opening.ensures)

pub play_opened-requires-clause-script : goal.play_opened-requires-clause-script
play_opened-requires-clause-script g c κs within =
    is_script (lent_by g.J.Judge.verdict) (λ (played : Playing _). terms_of g.J.Judge.verdict played) (λ played. sent_in g.J.Judge.verdict played) (λ played. rules_in g.J.Judge.verdict played) c.args.playing.now c.args.standing c.in_ok-opening.opening c.requires.stands c.in_ok-opening.ensures
    c.args.playing.now.parts.queries.now.items c.args.lines.now.items c.args.playing.now.actors c.lines_can_be_done.ensures refl (ap (map (line_of c.args.playing.now.parts.queries.now.items)) c.requires.lines) c.requires.can

pub play_opened-requires-clause-statics : goal.play_opened-requires-clause-statics
play_opened-requires-clause-statics g c κs within =
    subst (λ n. All (λ (number : ℕ). number < n) c.args.statics.now) (sym (c.in_ok-opening.ensures.members_count ∙ c.requires.stands.count)) c.requires.statics

pub returns : goal.returns
returns g c = IfOk-weaker c.play_opened.result _ _ (λ made is. (c.in_ok-opening.opening, c.in_ok-opening.ensures, is.0, is.1)) c.play_opened.ensures

pub play_opened-requires-send-P : goal.play_opened-requires-send-P
play_opened-requires-send-P g c κs within = param_send 4 _ (arg_send _ no _ (playing_send _ (param 2 g.row.J) g.J.Judge c.type_bounds.sync-J))
