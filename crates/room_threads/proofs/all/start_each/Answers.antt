use Rattle.std.proofs.Common.{rules, ◌≡◌, ◌++◌, ◌∷◌, [], map, sym, ap, ◌∙◌, append-nil}
use Rattle.std.proofs.lemmas.List.{nil_from_length}
use Rattle.room_threads.specs.Acted.{IsReady}
use Rattle.room_threads.specs.Started.{IsStarted, number_in, number_of}
use Rattle.room_threads.proofs.Lists.{all_more, all_rest, told_on}
use Rattle.room_threads.proofs.all.start_each.Goals as goal

pub loop-actor-preserved : goal.loop-actor-preserved
loop-actor-preserved g c =
    let more : c.push.new.self.items ≡ c.loop-actor.all.items ++ c.start-started.result ∷ [] = search rules in
    let steps : c.loop-actor.actor-iterator.rest.items ≡ c.in-Some.actor ∷ c.next.new.self.rest.items = c.in-Some.ensures.steps.0 in (
      all_rest (IsReady g.P.Phase.terms g.P.Sends.exports g.P.Sends.rules (g.A.Answers.setup c.args.answers.now) c.args.room.now c.args.queries.now.items c.args.lines.now.items) c.in-Some.actor c.next.new.self.rest.items c.loop-actor.actor-iterator.rest.items steps c.loop-actor.invariant.0,
      all_more (IsStarted g.P.Phase.terms c.args.room.now) c.loop-actor.all.items c.push.new.self.items c.start-started.result more c.start-started.ensures.is c.loop-actor.invariant.1,
      told_on number_in number_of c.loop-actor.all.items c.push.new.self.items c.start-started.result c.loop-actor.actor-iterator.rest.items c.next.new.self.rest.items c.in-Some.actor (map number_of c.args.actors.items) more steps c.start-started.ensures.number c.loop-actor.invariant.2,
    )

pub returns : goal.returns
returns g c =
    let none : c.loop-actor.actor-iterator.rest.items ≡ [] = search (rules, nil_from_length) in
    record {
      each = c.loop-actor.invariant.1;
      numbers = sym (append-nil (map number_in c.loop-actor.all.items)) ∙ ap (λ z. map number_in c.loop-actor.all.items ++ map number_of z) (sym none) ∙ c.loop-actor.invariant.2;
    }
