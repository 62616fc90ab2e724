use Rattle.std.proofs.Common.{sym, subst, take}
use Rattle.std.proofs.lemmas.List.{take_all}
use Rattle.room_run.specs.Inside.{HaveStarted}
use Rattle.room_ends.specs.Played.{starts_of}
use Rattle.room_run.proofs.Starters.{starts_more}
use Rattle.room_run.proofs.starting.start_all.Goals as goal

pub loop-index-init : goal.loop-index-init
loop-index-init g c = record { seats = c.requires.seats; actors = c.requires.actors; started = c.requires.none }

pub start_one-requires-clause-there : goal.start_one-requires-clause-there
start_one-requires-clause-there g c = c.requires.there c.loop-index.index _ c.loop-index-test.true

pub start_one-requires-clause-seats : goal.start_one-requires-clause-seats
start_one-requires-clause-seats g c = c.loop-index.invariant.seats

pub start_one-requires-clause-actors : goal.start_one-requires-clause-actors
start_one-requires-clause-actors g c = c.loop-index.invariant.actors

pub loop-index-preserved : goal.loop-index-preserved
loop-index-preserved g c =
    let starter = (g.P.Phase.terms c.args.room.now.played.value).starter in record {
      seats = c.in_ok-start_one.ensures.seats;
      actors = c.in_ok-start_one.ensures.actors;
      started =
          subst (λ starts. HaveStarted starter starts c.start_one.new.starters.items) (sym (starts_more c.args.numbers.now c.loop-index.index _ c.loop-index-test.true))
          (c.in_ok-start_one.ensures.started (starts_of (take c.loop-index.index c.args.numbers.now)) c.loop-index.invariant.started);
    }

pub returns-clause-seats : goal.returns-clause-seats
returns-clause-seats g c = c.loop-index.invariant.seats

pub returns-clause-actors : goal.returns-clause-actors
returns-clause-actors g c = c.loop-index.invariant.actors

pub returns-clause-started : goal.returns-clause-started
returns-clause-started g c =
    subst (λ numbers. HaveStarted (g.P.Phase.terms c.args.room.now.played.value).starter (starts_of numbers) c.loop-index.starters.items)
    (take_all c.loop-index.index c.args.numbers.now c.loop-index-test.false) c.loop-index.invariant.started
