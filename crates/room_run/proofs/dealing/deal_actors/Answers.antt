use Rattle.std.proofs.Common.{◌≡◌, [], ◌∷◌, ◌++◌, map, sym, ap, subst, ◌∙◌, arith, append-nil, append_assoc}
use Rattle.std.specs.List.{All}
use Rattle.std.proofs.lemmas.List.{nil_from_length}
use Rattle.room_threads.specs.Acted.{HasActed}
use Rattle.room_threads.proofs.Lists.{all_first, all_rest}
use Rattle.room_run.specs.Inside.{AreDealt, actor_of}
use Rattle.room_run.proofs.Seats.{as_many, dealt_more}
use Rattle.room_run.proofs.dealing.deal_actors.Goals as goal

pub loop-acted-init : goal.loop-acted-init
loop-acted-init g c =
    let whole = c.into_iter-acted-iterator.ensures.into_iter_gives.0 in
    record { rest = subst (All (HasActed g.P.Phase.terms c.args.room.now)) (sym whole) c.requires.acted; done = []; all = whole; dealt = c.requires.none }

pub deal_one-requires : goal.deal_one-requires
deal_one-requires g c =
    let i = c.loop-acted.invariant in
    let has = all_first (HasActed g.P.Phase.terms c.args.room.now) c.in-Some.acted c.next.new.self.rest.items c.loop-acted.acted-iterator.rest.items c.in-Some.ensures.steps.0 i.rest in
    as_many g.P.Phase.terms c.args.room.now c.in-Some.acted has (map actor_of i.done) c.loop-acted.dealt i.dealt

pub loop-acted-preserved : goal.loop-acted-preserved
loop-acted-preserved g c =
    let i = c.loop-acted.invariant in
    let steps = c.in-Some.ensures.steps.0 in
    let acts = HasActed g.P.Phase.terms c.args.room.now in
    let has = all_first acts c.in-Some.acted c.next.new.self.rest.items c.loop-acted.acted-iterator.rest.items steps i.rest in
    let did = c.in_ok-deal_one.ensures in
    record {
      rest = all_rest acts c.in-Some.acted c.next.new.self.rest.items c.loop-acted.acted-iterator.rest.items steps i.rest;
      done = i.done ++ c.in-Some.acted ∷ [];
      all = append_assoc i.done (c.in-Some.acted ∷ []) c.next.new.self.rest.items ∙ ap (λ l. i.done ++ l) (sym steps) ∙ i.all;
      dealt = dealt_more g.P.Phase.terms c.args.room.now c.in-Some.acted has i.done c.loop-acted.dealt c.deal_one.new.self did.0 did.1 i.dealt;
    }

pub returns : goal.returns
returns g c =
    let i = c.loop-acted.invariant in
    let rest = c.loop-acted.acted-iterator.rest in
    let none : rest.items ≡ [] = nil_from_length rest.items (omega (arith, c.in-None.ensures.steps, rest.ok.0)) in
    subst (λ z. AreDealt g.P.Phase.terms c.args.room.now (map actor_of z) c.loop-acted.dealt) (sym (append-nil i.done) ∙ ap (λ z. i.done ++ z) (sym none) ∙ i.all) i.dealt
