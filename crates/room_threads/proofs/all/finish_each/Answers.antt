use Rattle.std.proofs.Common.{rules, ◌≡◌, ◌++◌, ◌∷◌, [], map, sym, ap, ◌∙◌, append-nil}
use Rattle.std.proofs.lemmas.List.{nil_from_length}
use Rattle.room_threads.specs.Acted.{HasActed}
use Rattle.room_threads.specs.Started.{IsStarted, acted_number, number_in}
use Rattle.room_threads.proofs.Lists.{all_more, all_rest, told_on}
use Rattle.room_threads.proofs.all.finish_each.Goals as goal

pub loop-one-preserved : goal.loop-one-preserved
loop-one-preserved g c =
    let more : c.push.new.self.items ≡ c.loop-one.all.items ++ c.finish.result ∷ [] = search rules in
    let steps : c.loop-one.one-iterator.rest.items ≡ c.in-Some.one ∷ c.next.new.self.rest.items = c.in-Some.ensures.steps.0 in (
      all_rest (IsStarted g.P.Phase.terms c.args.room.now) c.in-Some.one c.next.new.self.rest.items c.loop-one.one-iterator.rest.items steps c.loop-one.invariant.0,
      all_more (HasActed g.P.Phase.terms c.args.room.now) c.loop-one.all.items c.push.new.self.items c.finish.result more c.finish.ensures.is c.loop-one.invariant.1,
      told_on acted_number number_in c.loop-one.all.items c.push.new.self.items c.finish.result c.loop-one.one-iterator.rest.items c.next.new.self.rest.items c.in-Some.one (map number_in c.args.started.items) more steps c.finish.ensures.number c.loop-one.invariant.2,
    )

pub returns : goal.returns
returns g c =
    let none : c.loop-one.one-iterator.rest.items ≡ [] = search (rules, nil_from_length) in
    record {
      each = c.loop-one.invariant.1;
      numbers_are = sym (append-nil (map acted_number c.loop-one.all.items)) ∙ ap (λ z. map acted_number c.loop-one.all.items ++ map number_in z) (sym none) ∙ c.loop-one.invariant.2;
    }
