use Rattle.std.proofs.Common.{◌≡◌, ◌+◌, List, Vec, Global, length, map, refl, sym, ap, subst, ◌∙◌, arith}
use Rattle.core_setup.specs.Reports.{IsReport}
use Rattle.script_lines.specs.declared.script.Line.{Line}
use Rattle.sys_run.specs.Scripts.{line_of}
use Rattle.phase_answers.specs.declared.lent.Lent.{Lent}
use Rattle.room_first.specs.Sent.{lent_by}
use Rattle.room_open.specs.declared.standing.StandingMember.{StandingMember}
use Rattle.room_report.specs.Behind.{numbers_in}
use Rattle.room_report.specs.Described.{IsDescribed}
use Rattle.room_ends.specs.Played.{IsPlayed, starts_of}
use Rattle.room_ends.specs.Prints.{Prints}
use Rattle.sys_threads.specs.Playing.{rules_in, sent_in, terms_of}
use Rattle.sys_threads.specs.declared.playing.Earlier.{Earlier}
use Rattle.sys_threads.specs.declared.playing.Playing.{Playing}
use Rattle.sys_threads.specs.declared.runner.Runner.{Runner}
use Rattle.sys_threads.proofs.Ran.{AreLaws, IsBehind, IsPlaying, run_more}
use Rattle.sys_threads.proofs.Ready.{all_can_now, can_now, channels_now, few_now, stands_now, statics_now}
use Rattle.sys_threads.proofs.runner.Runner.play.Goals as goal

pub play_phase-requires-clause-stands : goal.play_phase-requires-clause-stands
play_phase-requires-clause-stands g c κs within =
    let r = c.requires in
    stands_now g.J.Judge.verdict c.args.self r.0 (length c.args.actors.now) r.3.printed r.3.rests (record { parts = c.args.self.parts; actors = c.args.self.actors; lines = c.of.result; earlier = c.of-2.result })
    (record { parts = refl; actors = refl; earlier = ap (λ (earlier : Vec (Earlier g.row.J.Denot) Global). earlier.items) c.of-2.ensures })

pub play_phase-requires-clause-few : goal.play_phase-requires-clause-few
play_phase-requires-clause-few g c κs within = let r = c.requires in few_now g.J.Judge.verdict c.args.self r.0 (length c.args.actors.now) r.3.printed r.3.rests

pub play_phase-requires-clause-can : goal.play_phase-requires-clause-can
play_phase-requires-clause-can g c κs within = let r = c.requires in all_can_now g.J.Judge.verdict c.args.self r.0 (length c.args.actors.now) r.3.printed r.3.rests c.args.lines.now.items r.4

pub play_phase-requires-clause-channels : goal.play_phase-requires-clause-channels
play_phase-requires-clause-channels g c κs within = let r = c.requires in channels_now g.J.Judge.verdict c.args.self r.0 (length c.args.actors.now) r.3.printed r.3.rests

pub play_phase-requires-clause-statics : goal.play_phase-requires-clause-statics
play_phase-requires-clause-statics g c κs within =
    let r = c.requires in
    statics_now g.J.Judge.verdict c.args.self r.0 (length c.args.actors.now) r.3.printed r.3.rests c.deref-2.result.now c.deref-2.ensures.value

pub play_phase-requires-clause-lines : goal.play_phase-requires-clause-lines
play_phase-requires-clause-lines g c κs within = ap (λ (lines : Vec Line Global). lines.items) c.of.ensures

pub returns : goal.returns
returns g c =
    let verdict = g.J.Judge.verdict in
    let old = c.args.self in
    let r = c.requires in
    let made = c.in_ok-made.made in
    let is = c.in_ok-made.ensures in
    let pushed = c.in_ok-earlier.ensures in
    let lengths = c.in_ok-lengths.lengths in
    let laws : AreLaws verdict = record { legal = c.played_phases_are_legal.ensures; over = c.members_are_of_what_stood.ensures } in
    let played : Playing g.row.J.Denot = record { parts = old.parts; actors = old.actors; lines = c.of.result; earlier = c.of-2.result } in
    let new : Runner g.row.J.Denot = record {
      alloc = old.alloc;
      parts = old.parts;
      actors = old.actors;
      channels = old.channels;
      names = old.names;
      logged = lengths;
      earlier = c.in_ok-earlier.earlier;
      standing = c.in_ok-standing.standing;
      statics = c.new.result;
    } in
    let playing : IsPlaying verdict old c.args.lines.now.items played is.0 made = record {
      next = record { parts = refl; actors = refl; earlier = ap (λ (earlier : Vec (Earlier g.row.J.Denot) Global). earlier.items) c.of-2.ensures };
      lines_are = ap (λ (lines : Vec Line Global). lines.items) c.of.ensures;
      opens = is.1;
      is = subst (λ numbers. IsPlayed (lent_by verdict) (terms_of verdict) (sent_in verdict) (rules_in verdict) is.0.room (starts_of numbers) made) c.deref-2.ensures.value is.2;
    } in
    let behind : IsBehind verdict old pushed.phase c.in_ok-standing.standing lengths.items new = record {
      parts = refl;
      actors = refl;
      channels = refl;
      names = refl;
      logged = refl;
      earlier = pushed.new_is;
      standing = refl;
      statics = c.new.ensures.items;
    } in
    let number : c.len.result + 1 ≡ length old.earlier.items + 1 = omega (arith, c.len.ensures, old.earlier.ok.0) in
    run_more verdict laws old new c.args.lines.now.items played is.0 made c.in_ok-standing.standing pushed.phase playing (ap (λ (lines : Vec Line Global). lines.items) pushed.lines_are) pushed.made_is lengths.items behind c.args.actors.now
    (can_now verdict old r.0 (length c.args.actors.now) r.3.printed r.3.rests c.args.lines.now.items r.4)
    c.deref-6.result.now (c.deref-6.ensures.value ∙ c.in_ok-numbers.ensures ∙ ap (λ (members : List (StandingMember (Lent g.row.J.Denot))). map numbers_in members) c.deref.ensures.value)
    c.in_ok-made.before.items (ap (λ list. list.items) is.3) c.in_ok-standing.ensures c.in_ok-lengths.ensures c.in_ok-report.report
    (λ s past p described prints.
    subst (λ n. IsReport s c.args.actors.now n past p c.in_ok-report.report) number
    (c.in_ok-report.ensures s past p
    (subst (λ logged. IsDescribed s old.parts.tables.now c.deref-3.result.now c.args.actors.now logged past made) (sym c.deref-5.ensures.value)
    (subst (λ names. IsDescribed s old.parts.tables.now names c.args.actors.now old.logged.items past made) (sym c.deref-3.ensures.value) described))
    (subst (λ lines. Prints s (map (line_of s.queries) lines) past p made) (sym c.deref-4.ensures.value) prints)))
