use Rattle.std.proofs.Common.{◌≡◌, [], ◌∷◌, Option, refl, ap, ◌∙◌}
use Rattle.attrs.specs.declared.route.Route.{Route}
use Rattle.attrs.specs.History.{after}
use Rattle.attrs.specs.Table.{route_in}
use Rattle.rib.specs.Rib as rib
use Rattle.run_tables.proofs.Journals.{append_is}
use Rattle.run_tables.proofs.table.Table.append.Goals as goal

pub returns : goal.returns
returns c rules family history ok low is =
    let made = c.in_ok-reserve.ensures.made in
    let same : c.in_ok-copy.copy ≡ c.args.change.new = c.in_ok-copy.ensures ∙ c.as_ref.ensures.value in
    append_is rules family history c.args.change _ c.args.self.now _ ok low is
    c.requires.admitted refl (c.change.ensures.family ∙ ap (λ (r : rib.Table). r.family) made)
    (λ net num. c.change.ensures.routes net num
    ∙ ap (λ (r : rib.Table). after (route_in r.rows) (record { net = c.args.change.net; num = c.args.change.num; new = c.in_ok-copy.copy } ∷ []) net num) made
    ∙ ap (λ (new : Option Route). after (route_in c.args.self.now.rib.rows) (record { net = c.args.change.net; num = c.args.change.num; new = new } ∷ []) net num) same)
    c.change.ensures.rows c.in_ok-push.ensures.items refl c.in_ok-best.ensures
