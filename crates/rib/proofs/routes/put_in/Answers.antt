use Rattle.std.proofs.Common.{◌≡◌, ◌∙◌, ap, arith, unwrap_or, length, List, Option, ℕ}
use Rattle.std.specs.List.{insert, position, position_or_len}
use Rattle.attrs.specs.declared.route.Route.{Route}
use Rattle.attrs.specs.Selection.{before}
use Rattle.rib.proofs.OneNet.{insert-placed, position_or_len-le, position-unwrapped}
use Rattle.rib.proofs.routes.put_in.Goals as goal

place-is : (r : Route) (xs ys : List Route) (place n : ℕ) (found : Option ℕ) → place ≡ unwrap_or found n → found ≡ position (before r) ys → ys ≡ xs → n ≡ length xs → place ≡ position_or_len (before r) xs
place-is r xs ys place n found p f s len =
    p ∙ ap (λ (o : Option ℕ). unwrap_or o n) (f ∙ ap (position (before r)) s) ∙ ap (λ (k : ℕ). unwrap_or (position (before r) xs) k) len ∙ position-unwrapped (before r) xs

pub insert-requires : goal.insert-requires
insert-requires c =
    let is : c.unwrap_or-place.result ≡ position_or_len (before c.args.route) c.args.routes.now.items =
    place-is c.args.route c.args.routes.now.items c.deref.result.now _ _ _ c.unwrap_or-place.ensures c.place_for.ensures c.deref.ensures.value (omega (arith, c.args.routes.now.ok)) in
    omega (arith, position_or_len-le (before c.args.route) c.args.routes.now.items, c.args.routes.now.ok)

pub returns-clause-routes : goal.returns-clause-routes
returns-clause-routes c =
    let xs = c.args.routes.now.items in
    let is : c.unwrap_or-place.result ≡ position_or_len (before c.args.route) xs =
    place-is c.args.route xs c.deref.result.now _ _ _ c.unwrap_or-place.ensures c.place_for.ensures c.deref.ensures.value (omega (arith, c.args.routes.now.ok)) in
    ◌∙◌ {A = List Route} (rw c.unwrap.ensures at c.insert.ensures.items)
    (ap (λ (i : ℕ). insert xs i c.args.route) is ∙ insert-placed c.args.route xs)
