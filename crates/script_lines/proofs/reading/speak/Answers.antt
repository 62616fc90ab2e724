use Rattle.std.proofs.Common.{◌≡◌, ◌∷◌, arith, refl, true}
use Rattle.std.specs.Prelude.{map}
use Rattle.std.proofs.lemmas.Grind.{common_steps}
use Rattle.std.proofs.lemmas.Result.{err_from_is_err_and}
use Rattle.text.specs.Lines.{behind_words, words_of}
use Rattle.script_lines.specs.Inside.{State, state_of}
use Rattle.script_lines.proofs.LineParts.{command_refused, number_refused, put_result, refuses}
use Rattle.script_lines.proofs.reading.speak.Goals as goal

pub returns-in_err-act : goal.returns-in_err-act
returns-in_err-act c =
    let p = err_from_is_err_and c.from_residual.result c.from_residual.ensures.1 in
    let holds : c.is_actor.result ≡ true = grind (arith, common_steps) in
    let bytes = behind_words 2 c.args.rest.now in
    let old = state_of c.args.reading.now in
    rw (p.1, p.2)
    (refuses bytes c.args.named.now ((64 ∷ c.args.actor.now) ∷ words_of c.args.rest.now) old old _ refl
    (command_refused bytes c.args.named.now c.args.reading.now.actors.items c.args.actor.now (words_of c.args.rest.now) _ (c.is_actor.ensures.0 holds) c.in_err-act.ensures))

pub returns-in_err-actor : goal.returns-in_err-actor
returns-in_err-actor c =
    let p = err_from_is_err_and c.from_residual-in_err-actor.result c.from_residual-in_err-actor.ensures.1 in
    let holds : c.is_actor.result ≡ true = grind (arith, common_steps) in
    let bytes = behind_words 2 c.args.rest.now in
    let old = c.args.reading.now in
    let middle : State = record {
      actors = c.actor_number.new.actors.items;
      phases = map (λ phase. phase.items) old.phases.items;
      lines = old.lines.items;
      queries = old.queries.items;
      conditions = old.conditions.items;
    } in
    rw (p.1, p.2)
    (refuses bytes c.args.named.now ((64 ∷ c.args.actor.now) ∷ words_of c.args.rest.now) (state_of old) middle _ refl
    (number_refused bytes c.args.named.now c.args.reading.now.actors.items c.args.actor.now (words_of c.args.rest.now) c.in_ok-act.act _ (c.is_actor.ensures.0 holds) c.in_ok-act.ensures c.in_err-actor.ensures))

pub returns : goal.returns
returns c =
    let holds : c.is_actor.result ≡ true = grind (arith, common_steps) in
    let old = c.args.reading.now in
    let middle : State = record {
      actors = c.actor_number.new.actors.items;
      phases = map (λ phase. phase.items) old.phases.items;
      lines = old.lines.items;
      queries = old.queries.items;
      conditions = old.conditions.items;
    } in
    put_result (behind_words 2 c.args.rest.now) c.args.named.now c.args.number c.args.actor.now (words_of c.args.rest.now) c.in_ok-act.act c.in_ok-actor.actor (state_of old) middle
    (state_of c.put_act.new.reading) c.put_act.result (c.is_actor.ensures.0 holds) c.in_ok-act.ensures c.in_ok-actor.ensures.0 c.in_ok-actor.ensures.1 c.in_ok-actor.ensures.2 refl c.put_act.ensures
