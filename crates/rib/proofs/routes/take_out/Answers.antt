use Rattle.std.proofs.Common.{◌∙◌, ◌==◌, ap, sym, Vec, Global}
use Rattle.std.specs.List.{position, remove}
use Rattle.attrs.specs.declared.route.Route.{Route}
use Rattle.rib.proofs.OneNet.{remove-without, without-absent, position-some}
use Rattle.rib.proofs.routes.take_out.Goals as goal
use Rattle.rib.proofs.routes.take_out.Goals.{in-Some, in_default}

pub returns-clause-routes : goal.returns-clause-routes
returns-clause-routes c =
    let xs = c.args.routes.now.items in
    let is_of = λ (r : Route). r.src.num == c.args.num in
    elim c.match-place.branch [
      | in-Some w ↦
          ap (λ (v : Vec Route Global). v.items) w.routes-is
          ∙ w.remove-taken.ensures.items
          ∙ ap (remove xs) (sym (position-some is_of xs w.in-Some.place (ap (position is_of) (sym c.deref.ensures.value) ∙ sym c.place_of-place.ensures ∙ w.in-Some.is)))
          ∙ remove-without c.args.num xs
      | in_default w ↦
          ap (λ (v : Vec Route Global). v.items) w.routes-is
          ∙ without-absent c.args.num xs (ap (position is_of) (sym c.deref.ensures.value) ∙ sym c.place_of-place.ensures ∙ w.in_default.is)
    ]
