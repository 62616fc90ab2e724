use Rattle.std.proofs.Common.{◌≡◌, ℕ, ◌+◌, length, ◌∙◌, ap, subst, sym, arith}
use Rattle.std.specs.List.{All}
use Rattle.std.specs.declared.alloc.Global.{Global}
use Rattle.std.specs.declared.vec.Vec.{Vec}
use Rattle.std.proofs.lemmas.Result.{IfOk-weaker}
use Rattle.core_machine.specs.Channels.{times}
use Rattle.core_machine.specs.Legal.{join}
use Rattle.core_machine.specs.Rounds.{round}
use Rattle.core_setup.specs.Protocols.{rules_of}
use Rattle.core_setup.specs.Reports.{IsReport}
use Rattle.show_route.specs.declared.query.Query.{Query}
use Rattle.sys_run.specs.Playing.{Rests, silent}
use Rattle.sys_run.specs.Scripts.{AsksWhatIs, phase_of}
use Rattle.sys_run.proofs.Played.{ends, past, played_more, unreplied}
use Rattle.sys_run.proofs.player.Core.play.Goals as goal

pub begin-requires : goal.begin-requires
begin-requires g c =
    let v = g.J.Judge.verdict in
    let r = c.requires in
    let old = c.args.self.now in
    let was = past v r.setup r.actors r.scripts r.reports old r.played in
    (r.setup, was, silent r.played.state, unreplied v r.setup was r.played.state old c.in_ok-self.field-0 c.in_ok-self.ensures.1 r.played.rests.core_is)

pub run-requires-clause-holds : goal.run-requires-clause-holds
run-requires-clause-holds g c =
    let v = g.J.Judge.verdict in
    let r = c.requires in
    let old = c.args.self.now in
    let was = past v r.setup r.actors r.scripts r.reports old r.played in
    let s = silent r.played.state in
    let begun = c.in_ok-begin.ensures.core r.setup was s (unreplied v r.setup was r.played.state old c.in_ok-self.field-0 c.in_ok-self.ensures.1 r.played.rests.core_is) in
    (r.setup, was, begun.0, begun.2, r.fits)

pub run-requires-clause-asked : goal.run-requires-clause-asked
run-requires-clause-asked g c =
    let r = c.requires in
    let asked : (n m : ℕ) → n ≡ m → All (AsksWhatIs n) c.args.lines.items → All (AsksWhatIs m) c.args.lines.items =
    λ n m e all. subst (λ k. All (AsksWhatIs k) c.args.lines.items) e all in
    asked (length r.setup.queries) (length c.begin.new.self.queries.items)
    (ap length (sym r.played.rests.core_is.queries) ∙ ap (λ (v : Vec Query Global). length v.items) (sym c.in_ok-begin.ensures.kept.queries)) r.asked

pub sync-requires : goal.sync-requires
sync-requires g c =
    let v = g.J.Judge.verdict in
    let r = c.requires in
    let old = c.args.self.now in
    let was = past v r.setup r.actors r.scripts r.reports old r.played in
    let s = silent r.played.state in
    let begun = c.in_ok-begin.ensures.core r.setup was s (unreplied v r.setup was r.played.state old c.in_ok-self.field-0 c.in_ok-self.ensures.1 r.played.rests.core_is) in
    let ran = c.in_ok-run.ensures.core r.setup was begun.0 begun.2 in
    ends v r.setup r.actors r.scripts r.reports old r.played c.syncs_end.ensures c.rounds_are_few.ensures c.run.new.self (phase_of r.setup.queries c.args.lines.items) begun.0 ran.0 begun.1 ran.1 ran.2

pub finish-requires : goal.finish-requires
finish-requires g c =
    let v = g.J.Judge.verdict in
    let r = c.requires in
    let old = c.args.self.now in
    let was = past v r.setup r.actors r.scripts r.reports old r.played in
    let s = silent r.played.state in
    let begun = c.in_ok-begin.ensures.core r.setup was s (unreplied v r.setup was r.played.state old c.in_ok-self.field-0 c.in_ok-self.ensures.1 r.played.rests.core_is) in
    let ran = c.in_ok-run.ensures.core r.setup was begun.0 begun.2 in
    let done = c.in_ok-sync.ensures.core r.setup was ran.0 ran.2 in
    let number : c.sync.new.self.phases ≡ old.phases = c.in_ok-sync.ensures.kept.phases ∙ c.in_ok-run.ensures.kept.phases ∙ c.in_ok-begin.ensures.kept.phases in
    record {
      setup = r.setup;
      past = was;
      s = times c.in_ok-sync.field-0 (round (rules_of r.setup)) ran.0;
      core_is = done.1;
      began = c.in_ok-begun.ensures r.setup was (length r.scripts) r.played.state r.played.rests;
      replies = c.in_ok-sync.ensures.kept.replies ∙ c.in_ok-run.ensures.kept.replies ∙ c.in_ok-begin.ensures.kept.replies ∙ c.in_ok-self.ensures.0;
      few = let few = r.few in let are = r.played.rests.phases_are in omega (arith, few, are, number);
    }

pub returns : goal.returns
returns g c = IfOk-weaker c.finish.result _ _ (λ report reported setup scripts reports played.
    let v = g.J.Judge.verdict in
    let old = c.args.self.now in
    let actors = c.args.actors.now in
    let was = past v setup actors scripts reports old played in
    let begun = c.in_ok-begin.ensures.core setup was (silent played.state) (unreplied v setup was played.state old c.in_ok-self.field-0 c.in_ok-self.ensures.1 played.rests.core_is) in
    let ran = c.in_ok-run.ensures.core setup was begun.0 begun.2 in
    let rounds = c.in_ok-sync.field-0 in
    let t = times rounds (round (rules_of setup)) ran.0 in
    let done = c.in_ok-sync.ensures.core setup was ran.0 ran.2 in
    let len : length c.sync.new.self.replies.items ≡ length actors =
    c.in_ok-sync.ensures.kept.replies ∙ c.in_ok-run.ensures.kept.replies ∙ c.in_ok-begin.ensures.kept.replies ∙ c.in_ok-self.ensures.0 in
    let number : c.sync.new.self.phases ≡ old.phases = c.in_ok-sync.ensures.kept.phases ∙ c.in_ok-run.ensures.kept.phases ∙ c.in_ok-begin.ensures.kept.phases in
    let got = reported setup was t done.1 (c.in_ok-begun.ensures setup was (length scripts) played.state played.rests) len in
    played_more v setup actors scripts reports old played c.finish.new.self (phase_of setup.queries c.args.lines.items) begun.0 ran.0 rounds got.0 report begun.1 ran.1 done.0 got.1
    (subst (λ n. IsReport setup actors (n + 1) was got.0 report) number got.2)
    (subst (λ n. Rests v setup (n + 1) (join was got.0) t c.finish.new.self) number got.3)) c.finish.ensures.report
