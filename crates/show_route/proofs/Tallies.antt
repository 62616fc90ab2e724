-- What is told of items, one after the other.
use Rattle.std.proofs.Common.{take, get_or, ◌<◌, suc, zero, Some, None, ◌≡◌, ◌+◌, ◌≤◌, ◌++◌, ◌∷◌, ℕ, Bool, true, false, cond, List, [], length, Option, append_assoc, append-nil, refl, sym, ap, ◌∙◌, arith}
use Rattle.std.specs.List.{flat_map}
use Rattle.std.proofs.lemmas.List.{length-append, take_more}
use Rattle.std.proofs.lemmas.Grind.{flat_map-append}
use Rattle.std.proofs.lemmas.List.Sums.{sum_by-append}
use Rattle.bits_ip.specs.Prefix.{Net}
use Rattle.attrs.specs.declared.attributes.Attrs.{Attrs}
use Rattle.attrs.specs.declared.route.Row.{Row}
use Rattle.attrs.specs.Table.{count_routes}
use Rattle.attrs.specs.declared.route.Route.{Route}
use Rattle.show_route.specs.declared.query.Query.{Query}
use Rattle.show_route.specs.declared.show.Tally.{Tally}
use Rattle.show_route.specs.Shown.{Choice, Item, Sender, item_text}
use Rattle.show_route.specs.Steps.{Puts, Tells, items_text, keeps, item_of, nets_in, one_of, row_shown, rows_nets, rows_shown, sent_of, stored_of, with_attrs}

text-more : (names : List (List ℕ)) (query : Query) (xs ys : List Item) → items_text names query (xs ++ ys) ≡ items_text names query xs ++ items_text names query ys
text-more names query xs ys = on query.count where
  on : (b : Bool) → cond b [] (flat_map (item_text names query.all) (xs ++ ys))
      ≡ cond b [] (flat_map (item_text names query.all) xs) ++ cond b [] (flat_map (item_text names query.all) ys)
  on true = refl
  on false = flat_map-append (item_text names query.all) xs ys

no-text : (names : List (List ℕ)) (query : Query) → items_text names query [] ≡ []
no-text names query = on query.count where
  on : (b : Bool) → cond b [] (flat_map (item_text names query.all) []) ≡ []
  on true = refl
  on false = refl

pub puts-none : (names : List (List ℕ)) (query : Query) (tally : Tally) → Puts names query [] tally tally
puts-none names query tally = record {
  text = sym (ap (λ (l : List ℕ). tally.text.items ++ l) (no-text names query) ∙ append-nil tally.text.items);
  routes = omega arith;
  nets = refl;
}

pub puts-more : (names : List (List ℕ)) (query : Query) (xs ys : List Item) (old mid new : Tally) → Puts names query xs old mid → Puts names query ys mid new → Puts names query (xs ++ ys) old new
puts-more names query xs ys old mid new a b = record {
  text = b.text ∙ ap (λ (l : List ℕ). l ++ items_text names query ys) a.text
      ∙ append_assoc old.text.items (items_text names query xs) (items_text names query ys)
      ∙ ap (λ (l : List ℕ). old.text.items ++ l) (sym (text-more names query xs ys));
  routes = omega (arith, a.routes, b.routes, length-append xs ys);
  nets = b.nets ∙ a.nets;
}

pub one-length : (query : Query) (choice : Option Choice) (net : Net) (star : Bool) (route : Route) → length (one_of query choice net star route) ≤ 1
one-length query choice net star route = on (keeps query choice net route) where
  on : (b : Bool) → length (cond b (item_of net star route ∷ []) []) ≤ 1
  on true = omega arith
  on false = omega arith

pub more-others : (query : Query) (choice : Option Choice) (net : Net) (front all : List Route) (route : Route) → all ≡ front ++ route ∷ []
    → flat_map (one_of query choice net false) all ≡ flat_map (one_of query choice net false) front ++ one_of query choice net false route
more-others query choice net front all route is =
    ap (flat_map (one_of query choice net false)) is
    ∙ flat_map-append (one_of query choice net false) front (route ∷ [])
    ∙ ap (λ (l : List Item). flat_map (one_of query choice net false) front ++ l) (append-nil (one_of query choice net false route))

-- ---- rows

others-length : (query : Query) (choice : Option Choice) (net : Net) (routes : List Route) → length (flat_map (one_of query choice net false) routes) ≤ length routes
others-length query choice net [] = omega arith
others-length query choice net (r ∷ rest) =
    omega (arith, length-append (one_of query choice net false r) (flat_map (one_of query choice net false) rest), one-length query choice net false r, others-length query choice net rest)

stored-length : (query : Query) (choice : Option Choice) (net : Net) (routes : List Route) → length (stored_of query choice net routes) ≤ length routes
stored-length query choice net [] = omega arith
stored-length query choice net (best ∷ others) = on query.primary where
  on : (b : Bool) → length (one_of query choice net true best ++ cond b [] (flat_map (one_of query choice net false) others)) ≤ length (best ∷ others)
  on true = omega (arith, length-append (one_of query choice net true best) [], one-length query choice net true best)
  on false =
      omega (arith, length-append (one_of query choice net true best) (flat_map (one_of query choice net false) others), one-length query choice net true best, others-length query choice net others)

with-length : (query : Query) (choice : Option Choice) (net : Net) (best : Route) (attrs : Option Attrs) → length (with_attrs query choice net best attrs) ≤ 1
with-length query choice net best None = omega arith
with-length query choice net best (Some attrs) = one-length query choice net true (record { src = best.src; attrs = attrs })

sent-length : (query : Query) (choice : Option Choice) (sends : Sender) (net : Net) (routes : List Route) → length (sent_of query choice sends net routes) ≤ length routes
sent-length query choice sends net [] = omega arith
sent-length query choice sends net (best ∷ others) = omega (arith, with-length query choice net best (sends net best))

pub shown-length : (query : Query) (choice : Option Choice) (sends : Option Sender) (row : Row) → length (row_shown query choice sends row) ≤ length row.routes
shown-length query choice None row = stored-length query choice row.net row.routes
shown-length query choice (Some sends) row = sent-length query choice sends row.net row.routes

pub tells-none : (names : List (List ℕ)) (query : Query) (tally : Tally) → Tells names query [] 0 tally tally
tells-none names query tally =
    let p = puts-none names query tally in record { text = p.text; routes = p.routes; nets = omega arith }

pub tells-more : (names : List (List ℕ)) (query : Query) (choice : Option Choice) (sends : Option Sender) (front all : List Row) (row : Row) (old mid new : Tally) → all ≡ front ++ row ∷ []
    → Tells names query (rows_shown query choice sends front) (rows_nets query choice sends front) old mid
    → Tells names query (row_shown query choice sends row) (nets_in (row_shown query choice sends row)) mid new
    → Tells names query (rows_shown query choice sends all) (rows_nets query choice sends all) old new
tells-more names query choice sends front all row old mid new is a b =
    let shown : rows_shown query choice sends all ≡ rows_shown query choice sends front ++ row_shown query choice sends row =
    ap (rows_shown query choice sends) is
    ∙ flat_map-append (row_shown query choice sends) front (row ∷ [])
    ∙ ap (λ (l : List Item). rows_shown query choice sends front ++ l) (append-nil (row_shown query choice sends row)) in
    let nets : rows_nets query choice sends all ≡ rows_nets query choice sends front + nets_in (row_shown query choice sends row) =
    omega (arith, ap (rows_nets query choice sends) is, sum_by-append (λ (r : Row). nets_in (row_shown query choice sends r)) front (row ∷ [])) in
    record {
      text = b.text ∙ ap (λ (l : List ℕ). l ++ items_text names query (row_shown query choice sends row)) a.text
          ∙ append_assoc old.text.items (items_text names query (rows_shown query choice sends front)) (items_text names query (row_shown query choice sends row))
          ∙ ap (λ (l : List ℕ). old.text.items ++ l) (sym (text-more names query (rows_shown query choice sends front) (row_shown query choice sends row)))
          ∙ ap (λ (l : List Item). old.text.items ++ items_text names query l) (sym shown);
      routes = omega (arith, a.routes, b.routes, ap length shown, length-append (rows_shown query choice sends front) (row_shown query choice sends row));
      nets = omega (arith, a.nets, b.nets, nets);
    }

pub nets-bound : (items : List Item) → nets_in items ≤ 1
nets-bound [] = omega arith
nets-bound (item ∷ rest) = omega arith

pub front-count : (rows : List Row) (i : ℕ) (d : Row) → i < length rows → count_routes (take (i + 1) rows) ≡ count_routes (take i rows) + length (get_or rows i d).routes
front-count rows i d less =
    omega (arith, ap count_routes (take_more rows i d less), sum_by-append (λ (row : Row). length row.routes) (take i rows) (get_or rows i d ∷ []))

pub front-within : (rows : List Row) (i : ℕ) → count_routes (take i rows) ≤ count_routes rows
front-within [] i = none i where
  none : (i : ℕ) → count_routes (take i []) ≤ 0
  none zero = omega arith
  none (suc i) = omega arith
front-within (row ∷ rows) zero = omega arith
front-within (row ∷ rows) (suc i) =
    omega (arith, front-within rows i, sum_by-append (λ (r : Row). length r.routes) (row ∷ []) rows, sum_by-append (λ (r : Row). length r.routes) (row ∷ []) (take i rows))
