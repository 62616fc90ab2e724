-- What is shown of rows is what is shown of their content.
use Rattle.std.proofs.Common.{◌≡◌, ◌≤◌, ◌+◌, ℕ, Global, IfOk, Result, Ok, Err, Vec, suc, Bool, true, false, not, cond, length, arith, ◌&&◌, ◌||◌, inl, inr, List, [], ◌∷◌, ◌++◌, Option, Some, None, refl, sym, ap, ◌∙◌, subst}
use Rattle.std.specs.Prelude.{IfSome, ⊤}
use Rattle.std.specs.List.{filter, flat_map, list_any}
use Rattle.std.proofs.lemmas.List.{length-append}
use Rattle.std.proofs.lemmas.List.Sums.{sum_by-append}
use Rattle.std.proofs.lemmas.Bool.{and_parts, and_from, cond-true, cond-false, false≢true, eqb-true, eq-eqb}
use Rattle.bits_ip.specs.Prefix.{Net, precedes, same_net}
use Rattle.attrs.specs.History.{Content}
use Rattle.attrs.specs.Select.{covers, has_longer_cover, selected}
use Rattle.attrs.specs.declared.route.Select.{Select}
use Rattle.attrs.specs.declared.route.Select.TheVariants.{All, Exact, For, Within}
use Rattle.attrs.specs.Selection.{before}
use Rattle.attrs.specs.Table.{AreRows, HasNone, IsBeforeAll, IsOfSources, IsRow, IsSorted, Shows, count_routes, route_in}
use Rattle.attrs.specs.declared.attributes.Attrs.{Attrs}
use Rattle.attrs.specs.declared.judge.Verdict.{Verdict}
use Rattle.attrs.specs.declared.judge.Verdict.TheVariants.{Accept, Reject}
use Rattle.attrs.specs.declared.route.Route.{Route}
use Rattle.attrs.specs.declared.route.Row.{Row}
use Rattle.attrs.proofs.Nets.{precedes_other, same_net_itself}
use Rattle.attrs.proofs.Rows.{sorted-from_in_order}
use Rattle.show_route.specs.declared.query.Query.{Query}
use Rattle.show_route.specs.Shown.{AreInOrder, AreShown, Choice, ComesBeforeAll, IsAccept, IsBestAt, IsCandidate, IsReply, IsSelected, IsShown, Item, Sender, comes_before, count_nets, count_text, item_text, plain}
use Rattle.show_route.specs.Reply.{reply_head}
use Rattle.show_route.specs.Views.{IsView}
use Rattle.show_route.specs.Steps.{accepts, is_accept, is_of, item_of, keeps, nets_in, one_of, row_shown, rows_nets, rows_reply, rows_shown, sent_of, stored_of, with_attrs}
use Rattle.show_route.proofs.Members.{Has, contains-has, has-cases, has-contains, has-left, has-mapped, has-passed, has-right, mapped-has}
use Rattle.show_route.proofs.Tables.{best-is, best-one, other-source, picked-told, precedes-each, route-tells, row-is, row-there, selected-there, told-picked, told-route}

-- ---- a route that is kept

of-tells : (o : Option ℕ) (r : Route) → is_of o r ≡ true → IfSome o (λ num. r.src.num ≡ num)
of-tells None r t = tt
of-tells (Some num) r t = eqb-true r.src.num num t

tells-of : (o : Option ℕ) (r : Route) → IfSome o (λ num. r.src.num ≡ num) → is_of o r ≡ true
tells-of None r is = refl
tells-of (Some num) r is = eq-eqb r.src.num num is

accept-tells : (v : Verdict) → is_accept v ≡ true → IsAccept v
accept-tells (Accept attrs) t = tt
accept-tells (Reject fault) t = absurd (false≢true t)

tells-accept : (v : Verdict) → IsAccept v → is_accept v ≡ true
tells-accept (Accept attrs) is = refl
tells-accept (Reject fault) is = absurd is

accepts-tells : (choice : Option Choice) (net : Net) (r : Route) → accepts choice net r ≡ true → IfSome choice (λ verdict. IsAccept (verdict net r))
accepts-tells None net r t = tt
accepts-tells (Some verdict) net r t = accept-tells (verdict net r) t

tells-accepts : (choice : Option Choice) (net : Net) (r : Route) → IfSome choice (λ verdict. IsAccept (verdict net r)) → accepts choice net r ≡ true
tells-accepts None net r is = refl
tells-accepts (Some verdict) net r is = tells-accept (verdict net r) is

one-has : (query : Query) (choice : Option Choice) (net : Net) (star : Bool) (r : Route) (item : Item) → Has (one_of query choice net star r) item
    → (item_of net star r ≡ item) × (keeps query choice net r ≡ true)
one-has query choice net star r item h = on (keeps query choice net r) refl h where
  on : (b : Bool) → keeps query choice net r ≡ b → Has (cond b (item_of net star r ∷ []) []) item → (item_of net star r ≡ item) × (keeps query choice net r ≡ true)
  on true is (inl e) = (e, is)
  on true is (inr h) = absurd h
  on false is h = absurd h

has-one : (query : Query) (choice : Option Choice) (net : Net) (star : Bool) (r : Route) → keeps query choice net r ≡ true → Has (one_of query choice net star r) (item_of net star r)
has-one query choice net star r t = subst (λ (l : List Item). Has l (item_of net star r)) (sym (cond-true _ _ _ t)) (inl refl)

-- ---- what is shown of a row

module _ (query : Query) (choice : Option Choice) (content : Content) (all : List Row) (shows : Shows all content) where
  -- the item is what is shown of the row's net, if it is asked for
  pub record IsOfRow (sends : Option Sender) (row : Row) (item : Item) : Type 0 where
    pub net : item.net ≡ row.net
    pub candidate : IsCandidate query.primary sends content item
    pub keeps : keeps query choice item.net item.route ≡ true

  stored-tells : (row : Row) → Has all row → (routes : List Route) → row.routes ≡ routes → (item : Item) → Has (stored_of query choice row.net routes) item → IsOfRow None row item
  stored-tells row there [] is item h = absurd h
  stored-tells row there (best ∷ others) is item h = elim (has-cases (one_of query choice row.net true best) (cond query.primary [] (flat_map (one_of query choice row.net false) others)) item h) [
    | inl k ↦
        let p = one-has query choice row.net true best item k in
        subst (IsOfRow None row) p.0 (record {
          net = refl;
          candidate = ((best-is content all shows row there best others is).0, (λ _. best-is content all shows row there best others is, λ _. refl), λ _. refl);
          keeps = p.1;
        })
    | inr k ↦ behind query.primary refl k
  ]
    where
      behind : (b : Bool) → query.primary ≡ b → Has (cond b [] (flat_map (one_of query choice row.net false) others)) item → IsOfRow None row item
      behind true primary k = absurd k
      behind false primary k =
          let found = has-mapped (one_of query choice row.net false) others item k in
          let p = one-has query choice row.net false found.0 item found.2 in
          let sources : HasNone best.src.num others = (subst IsOfSources is (row-is all shows.rows_are row there).sources).0 in
          subst (IsOfRow None row) p.0 (record {
            net = refl;
            candidate = (
              route-tells content all shows row there found.0 (subst (λ (l : List Route). Has l found.0) (sym is) (inr found.1)),
              (λ t. absurd (false≢true t), λ b. absurd (other-source best.src.num others sources found.0 found.1 (ap (λ (r : Route). r.src.num) (best-one content all shows row there best others is found.0 b)))),
              λ t. absurd (false≢true (sym primary ∙ t)),
            );
            keeps = p.1;
          })

  tells-stored : (row : Row) → Has all row → (routes : List Route) → row.routes ≡ routes → (star : Bool) (r : Route) → IsCandidate query.primary None content (item_of row.net star r) → keeps query choice row.net r ≡ true
      → Has (stored_of query choice row.net routes) (item_of row.net star r)
  tells-stored row there [] is star r candidate kept = absurd (subst (λ (l : List Route). Has l r) is (told-route content all shows row there r candidate.0))
  tells-stored row there (best ∷ others) is star r candidate kept = place (subst (λ (l : List Route). Has l r) is (told-route content all shows row there r candidate.0)) where
    first : (r : Route) → best ≡ r → keeps query choice row.net r ≡ true → Has (one_of query choice row.net true best) (item_of row.net true r)
    first r e kept = subst (λ (q : Route). Has (one_of query choice row.net true best) (item_of row.net true q)) e (has-one query choice row.net true best (subst (λ (q : Route). keeps query choice row.net q ≡ true) (sym e) kept))

    here : (s : Bool) → star ≡ s → best ≡ r → Has (one_of query choice row.net true best) (item_of row.net star r)
    here true e same = subst (λ (s : Bool). Has (one_of query choice row.net true best) (item_of row.net s r)) (sym e) (first r same kept)
    here false e same =
        absurd (false≢true (sym e ∙ candidate.1.1 (subst (λ (q : Route). IsBestAt content row.net q) same (best-is content all shows row there best others is))))

    apart : Has others r → IsBestAt content row.net r → ⊥
    apart among b =
        let sources : HasNone best.src.num others = (subst IsOfSources is (row-is all shows.rows_are row there).sources).0 in
        other-source best.src.num others sources r among (ap (λ (q : Route). q.src.num) (best-one content all shows row there best others is r b))

    there_behind : (s p : Bool) → star ≡ s → query.primary ≡ p → Has others r → Has (cond p [] (flat_map (one_of query choice row.net false) others)) (item_of row.net star r)
    there_behind true p e primary among = absurd (apart among (candidate.1.0 e))
    there_behind false true e primary among = absurd (false≢true (sym e ∙ candidate.2 primary))
    there_behind false false e primary among =
        subst (λ (s : Bool). Has (flat_map (one_of query choice row.net false) others) (item_of row.net s r)) (sym e)
        (mapped-has (one_of query choice row.net false) others r (item_of row.net false r) among (has-one query choice row.net false r kept))

    place : Has (best ∷ others) r → Has (stored_of query choice row.net (best ∷ others)) (item_of row.net star r)
    place (inl same) = has-left (one_of query choice row.net true best) _ _ (here star refl same)
    place (inr among) = has-right (one_of query choice row.net true best) _ _ (there_behind star query.primary refl refl among)

  with-tells : (sends : Sender) (row : Row) → Has all row → (best : Route) (others : List Route) → row.routes ≡ best ∷ others → (attrs : Option Attrs) → sends row.net best ≡ attrs → (item : Item)
      → Has (with_attrs query choice row.net best attrs) item → IsOfRow (Some sends) row item
  with-tells sends row there best others is None sent item h = absurd h
  with-tells sends row there best others is (Some attrs) sent item h =
      let p = one-has query choice row.net true (record { src = best.src; attrs = attrs }) item h in
      subst (IsOfRow (Some sends) row) p.0 (record {
        net = refl;
        candidate = (best, best-is content all shows row there best others is, sent, refl, refl);
        keeps = p.1;
      })

  sent-tells : (sends : Sender) (row : Row) → Has all row → (routes : List Route) → row.routes ≡ routes → (item : Item) → Has (sent_of query choice sends row.net routes) item → IsOfRow (Some sends) row item
  sent-tells sends row there [] is item h = absurd h
  sent-tells sends row there (best ∷ others) is item h = with-tells sends row there best others is (sends row.net best) refl item h

  tells-sent : (sends : Sender) (row : Row) → Has all row → (routes : List Route) → row.routes ≡ routes → (star : Bool) (r : Route) → IsCandidate query.primary (Some sends) content (item_of row.net star r)
      → keeps query choice row.net r ≡ true → Has (sent_of query choice sends row.net routes) (item_of row.net star r)
  tells-sent sends row there [] is star r candidate kept = absurd (subst (λ (l : List Route). Has l candidate.0) is (told-route content all shows row there candidate.0 candidate.1.0))
  tells-sent sends row there (best ∷ others) is star r candidate kept =
      let same : candidate.0 ≡ best = best-one content all shows row there best others is candidate.0 candidate.1 in
      let sent : sends row.net best ≡ Some r.attrs = ap (sends row.net) (sym same) ∙ candidate.2 in
      let src : r.src ≡ best.src = candidate.3 ∙ ap (λ (q : Route). q.src) same in
      let route : record { src = best.src; attrs = r.attrs } ≡ r = λ i. record { src = (sym src) i; attrs = r.attrs } in
      subst (λ (o : Option Attrs). Has (with_attrs query choice row.net best o) (item_of row.net star r)) (sym sent)
      (subst (λ (s : Bool). Has (one_of query choice row.net true (record { src = best.src; attrs = r.attrs })) (item_of row.net s r)) (sym candidate.4)
      (subst (λ (q : Route). Has (one_of query choice row.net true (record { src = best.src; attrs = r.attrs })) (item_of row.net true q)) route
      (has-one query choice row.net true (record { src = best.src; attrs = r.attrs }) (subst (λ (q : Route). keeps query choice row.net q ≡ true) (sym route) kept))))

  row-tells : (sends : Option Sender) (row : Row) → Has all row → (item : Item) → Has (row_shown query choice sends row) item → IsOfRow sends row item
  row-tells None row there item h = stored-tells row there row.routes refl item h
  row-tells (Some sends) row there item h = sent-tells sends row there row.routes refl item h

  tells-row : (sends : Option Sender) (row : Row) → Has all row → (star : Bool) (r : Route) → IsCandidate query.primary sends content (item_of row.net star r) → keeps query choice row.net r ≡ true
      → Has (row_shown query choice sends row) (item_of row.net star r)
  tells-row None row there star r candidate kept = tells-stored row there row.routes refl star r candidate kept
  tells-row (Some sends) row there star r candidate kept = tells-sent sends row there row.routes refl star r candidate kept

  -- ---- what is shown of the rows that are asked for

  pub shown-is : (sends : Option Sender) (item : Item) → Has (rows_shown query choice sends (selected query.pick all)) item → IsShown query choice sends content item
  shown-is sends item h =
      let found = has-mapped (row_shown query choice sends) (selected query.pick all) item h in
      let picked = picked-told content all shows query.pick found.0 found.1 in
      let told = row-tells sends found.0 picked.0 item found.2 in
      let kept = and_parts (is_of query.source item.route) (accepts choice item.net item.route) told.keeps in
      record {
        selected = subst (IsSelected query.pick content) (sym told.net) picked.1;
        candidate = told.candidate;
        source = of-tells query.source item.route kept.0;
        accepted = accepts-tells choice item.net item.route kept.1;
      }

  pub is-shown : (sends : Option Sender) (item : Item) → IsShown query choice sends content item → Has (rows_shown query choice sends (selected query.pick all)) item
  is-shown sends item is =
      let found = row-there content all shows item.net (selected-there content all shows query.pick item.net is.selected) in
      let row = found.0 in
      let e : row.net ≡ item.net = found.2 in
      let same : item_of row.net item.star item.route ≡ item = λ i. record { net = e i; route = item.route; star = item.star } in
      let kept : keeps query choice row.net item.route ≡ true =
      subst (λ (n : Net). keeps query choice n item.route ≡ true) (sym e) (and_from _ _ (tells-of query.source item.route is.source) (tells-accepts choice item.net item.route is.accepted)) in
      subst (Has (rows_shown query choice sends (selected query.pick all))) same
      (mapped-has (row_shown query choice sends) (selected query.pick all) row (item_of row.net item.star item.route)
      (told-picked content all shows query.pick row found.1 (subst (IsSelected query.pick content) (sym e) is.selected))
      (tells-row sends row found.1 item.star item.route (subst (IsCandidate query.primary sends content) (sym same) is.candidate) kept))

-- ---- the order

ordered-append : (xs ys : List Item) → AreInOrder xs → AreInOrder ys → ((x y : Item) → Has xs x → Has ys y → comes_before x y ≡ true) → AreInOrder (xs ++ ys)
ordered-append [] ys first second between = second
ordered-append (x ∷ xs) ys first second between =
    (before-both x xs ys first.0 (λ y h. between x y (inl refl) h), ordered-append xs ys first.1 second (λ z y h k. between z y (inr h) k))
  where
    before-both : (x : Item) (xs ys : List Item) → ComesBeforeAll x xs → ((y : Item) → Has ys y → comes_before x y ≡ true) → ComesBeforeAll x (xs ++ ys)
    before-both x [] [] all each = tt
    before-both x [] (y ∷ ys) all each = (each y (inl refl), before-both x [] ys tt (λ z h. each z (inr h)))
    before-both x (z ∷ xs) ys all each = (all.0, before-both x xs ys all.1 each)

or-right : (a b : Bool) → b ≡ true → (a || b) ≡ true
or-right true b e = refl
or-right false b e = e

by-route : (net : Net) (s t : Bool) (a b : Route) → before a b ≡ true → comes_before (item_of net s a) (item_of net t b) ≡ true
by-route net s t a b h = or-right (precedes net net) (same_net net net && before a b) (and_from _ _ (same_net_itself net) h)

by-net : (x y : Item) → precedes x.net y.net ≡ true → comes_before x y ≡ true
by-net x y h = ap (λ (b : Bool). b || (same_net x.net y.net && before x.route y.route)) h

one-ordered : (query : Query) (choice : Option Choice) (net : Net) (star : Bool) (r : Route) → AreInOrder (one_of query choice net star r)
one-ordered query choice net star r = on (keeps query choice net r) where
  on : (b : Bool) → AreInOrder (cond b (item_of net star r ∷ []) [])
  on true = (tt, tt)
  on false = tt

before-each : (r : Route) (routes : List Route) → IsBeforeAll r routes → (q : Route) → Has routes q → before r q ≡ true
before-each r [] all q h = absurd h
before-each r (x ∷ routes) all q (inl e) = subst (λ (y : Route). before r y ≡ true) e all.0
before-each r (x ∷ routes) all q (inr h) = before-each r routes all.1 q h

before-others : (query : Query) (choice : Option Choice) (net : Net) (star : Bool) (r : Route) (routes : List Route) → IsBeforeAll r routes → (x y : Item)
    → Has (one_of query choice net star r) x → Has (flat_map (one_of query choice net false) routes) y → comes_before x y ≡ true
before-others query choice net star r routes all x y h k =
    let found = has-mapped (one_of query choice net false) routes y k in
    let p = one-has query choice net star r x h in
    let q = one-has query choice net false found.0 y found.2 in
    subst (λ (z : Item). comes_before z y ≡ true) p.0
    (subst (λ (z : Item). comes_before (item_of net star r) z ≡ true) q.0 (by-route net star false r found.0 (before-each r routes all found.0 found.1)))

others-ordered : (query : Query) (choice : Option Choice) (net : Net) (routes : List Route) → IsSorted routes → AreInOrder (flat_map (one_of query choice net false) routes)
others-ordered query choice net [] sorted = tt
others-ordered query choice net (r ∷ routes) sorted =
    ordered-append (one_of query choice net false r) (flat_map (one_of query choice net false) routes) (one-ordered query choice net false r) (others-ordered query choice net routes sorted.1)
    (before-others query choice net false r routes sorted.0)

stored-ordered : (query : Query) (choice : Option Choice) (net : Net) (routes : List Route) → IsSorted routes → AreInOrder (stored_of query choice net routes)
stored-ordered query choice net [] sorted = tt
stored-ordered query choice net (best ∷ others) sorted = on query.primary where
  on : (b : Bool) → AreInOrder (one_of query choice net true best ++ cond b [] (flat_map (one_of query choice net false) others))
  on true = ordered-append (one_of query choice net true best) [] (one-ordered query choice net true best) tt (λ x y h k. absurd k)
  on false =
      ordered-append (one_of query choice net true best) (flat_map (one_of query choice net false) others) (one-ordered query choice net true best) (others-ordered query choice net others sorted.1)
      (before-others query choice net true best others sorted.0)

with-ordered : (query : Query) (choice : Option Choice) (net : Net) (best : Route) (attrs : Option Attrs) → AreInOrder (with_attrs query choice net best attrs)
with-ordered query choice net best None = tt
with-ordered query choice net best (Some attrs) = one-ordered query choice net true (record { src = best.src; attrs = attrs })

sent-ordered : (query : Query) (choice : Option Choice) (sends : Sender) (net : Net) (routes : List Route) → AreInOrder (sent_of query choice sends net routes)
sent-ordered query choice sends net [] = tt
sent-ordered query choice sends net (best ∷ others) = with-ordered query choice net best (sends net best)

row-ordered : (query : Query) (choice : Option Choice) (sends : Option Sender) (row : Row) → IsRow row → AreInOrder (row_shown query choice sends row)
row-ordered query choice None row is = stored-ordered query choice row.net row.routes (sorted-from_in_order row.routes is.sources is.order)
row-ordered query choice (Some sends) row is = sent-ordered query choice sends row.net row.routes

-- ---- each row's net

one-net : (query : Query) (choice : Option Choice) (net : Net) (star : Bool) (r : Route) (item : Item) → Has (one_of query choice net star r) item → net ≡ item.net
one-net query choice net star r item h = ap (λ (i : Item). i.net) (one-has query choice net star r item h).0

with-net : (query : Query) (choice : Option Choice) (net : Net) (best : Route) (attrs : Option Attrs) (item : Item) → Has (with_attrs query choice net best attrs) item → net ≡ item.net
with-net query choice net best None item h = absurd h
with-net query choice net best (Some attrs) item h = one-net query choice net true (record { src = best.src; attrs = attrs }) item h

sent-net : (query : Query) (choice : Option Choice) (sends : Sender) (net : Net) (routes : List Route) (item : Item) → Has (sent_of query choice sends net routes) item → net ≡ item.net
sent-net query choice sends net [] item h = absurd h
sent-net query choice sends net (best ∷ others) item h = with-net query choice net best (sends net best) item h

others-net : (query : Query) (choice : Option Choice) (net : Net) (routes : List Route) (item : Item) → Has (flat_map (one_of query choice net false) routes) item → net ≡ item.net
others-net query choice net routes item h = let found = has-mapped (one_of query choice net false) routes item h in one-net query choice net false found.0 item found.2

stored-net : (query : Query) (choice : Option Choice) (net : Net) (routes : List Route) (item : Item) → Has (stored_of query choice net routes) item → net ≡ item.net
stored-net query choice net [] item h = absurd h
stored-net query choice net (best ∷ others) item h = on query.primary h where
  on : (b : Bool) → Has (one_of query choice net true best ++ cond b [] (flat_map (one_of query choice net false) others)) item → net ≡ item.net
  on true k = elim (has-cases (one_of query choice net true best) [] item k) [ inl e ↦ one-net query choice net true best item e | inr e ↦ absurd e ]
  on false k = elim (has-cases (one_of query choice net true best) (flat_map (one_of query choice net false) others) item k) [
    | inl e ↦ one-net query choice net true best item e
    | inr e ↦ others-net query choice net others item e
  ]

pub shown-net : (query : Query) (choice : Option Choice) (sends : Option Sender) (row : Row) (item : Item) → Has (row_shown query choice sends row) item → row.net ≡ item.net
shown-net query choice None row item h = stored-net query choice row.net row.routes item h
shown-net query choice (Some sends) row item h = sent-net query choice sends row.net row.routes item h

-- ---- rows in their order

-- each row's net precedes those of all behind it
abbrev pub AreSorted : List Row → Type 0
AreSorted [] = ⊤
AreSorted (row ∷ rows) = IsRow row × ((other : Row) → Has rows other → precedes row.net other.net ≡ true) × AreSorted rows

pub sorted-rows : (rows : List Row) → AreRows rows → AreSorted rows
sorted-rows [] are = tt
sorted-rows (row ∷ rows) are = (are.0, precedes-each row.net rows are.2 are.1, sorted-rows rows are.2)

sorted-passed : (test : Row → Bool) (rows : List Row) → AreSorted rows → AreSorted (filter test rows)
sorted-passed test [] sorted = tt
sorted-passed test (row ∷ rows) sorted = on (test row) (sorted-passed test rows sorted.2) where
  on : (b : Bool) → AreSorted (filter test rows) → AreSorted (cond b (row ∷ filter test rows) (filter test rows))
  on true rest = (sorted.0, (λ other h. sorted.1 other (has-passed test rows other h).0), rest)
  on false rest = rest

pub sorted-selected : (pick : Select) (rows : List Row) → AreSorted rows → AreSorted (selected pick rows)
sorted-selected All rows sorted = sorted
sorted-selected (Exact asked) rows sorted = sorted-passed (λ (r : Row). same_net asked r.net) rows sorted
sorted-selected (For asked) rows sorted = sorted-passed (λ (r : Row). covers r.net asked && not (has_longer_cover asked r.net.len rows)) rows sorted
sorted-selected (Within asked) rows sorted = sorted-passed (λ (r : Row). covers asked r.net) rows sorted

behind-net : (query : Query) (choice : Option Choice) (sends : Option Sender) (row : Row) (rows : List Row) → ((other : Row) → Has rows other → precedes row.net other.net ≡ true) → (x y : Item)
    → Has (row_shown query choice sends row) x → Has (rows_shown query choice sends rows) y → precedes x.net y.net ≡ true
behind-net query choice sends row rows each x y h k =
    let found = has-mapped (row_shown query choice sends) rows y k in
    subst (λ (n : Net). precedes n y.net ≡ true) (shown-net query choice sends row x h)
    (subst (λ (n : Net). precedes row.net n ≡ true) (shown-net query choice sends found.0 y found.2) (each found.0 found.1))

pub rows-ordered : (query : Query) (choice : Option Choice) (sends : Option Sender) (rows : List Row) → AreSorted rows → AreInOrder (rows_shown query choice sends rows)
rows-ordered query choice sends [] sorted = tt
rows-ordered query choice sends (row ∷ rows) sorted =
    ordered-append (row_shown query choice sends row) (rows_shown query choice sends rows) (row-ordered query choice sends row sorted.0) (rows-ordered query choice sends rows sorted.2)
    (λ x y h k. by-net x y (behind-net query choice sends row rows sorted.1 x y h k))

-- ---- what is shown

pub rows-show : (query : Query) (choice : Option Choice) (sends : Option Sender) (content : Content) (all : List Row) → Shows all content
    → AreShown query choice sends content (rows_shown query choice sends (selected query.pick all))
rows-show query choice sends content all shows = record {
  order = rows-ordered query choice sends (selected query.pick all) (sorted-selected query.pick all (sorted-rows all shows.rows_are));
  are = λ item. (
    λ h. shown-is query choice content all shows sends item (contains-has (rows_shown query choice sends (selected query.pick all)) item h),
    λ is. has-contains (rows_shown query choice sends (selected query.pick all)) item (is-shown query choice content all shows sends item is),
  );
}

-- ---- how many nets

-- the items of one net before those of others
nets-append : (net : Net) (xs ys : List Item) → ((x : Item) → Has xs x → net ≡ x.net) → ((y : Item) → Has ys y → same_net net y.net ≡ false)
    → count_nets (xs ++ ys) ≡ nets_in xs + count_nets ys
nets-append net [] ys own others = omega arith
nets-append net (x ∷ []) ys own others = cond-false _ _ _ (none x (own x (inl refl)) ys others) where
  none : (x : Item) → net ≡ x.net → (ys : List Item) → ((y : Item) → Has ys y → same_net net y.net ≡ false) → list_any (λ (other : Item). same_net x.net other.net) ys ≡ false
  none x e [] each = refl
  none x e (y ∷ ys) each =
      ap (λ (b : Bool). b || list_any (λ (other : Item). same_net x.net other.net) ys) (subst (λ (n : Net). same_net n y.net ≡ false) e (each y (inl refl)))
      ∙ none x e ys (λ z h. each z (inr h))
nets-append net (x ∷ z ∷ xs) ys own others =
    cond-true _ _ _
    (ap (λ (b : Bool). b || list_any (λ (other : Item). same_net x.net other.net) (xs ++ ys))
    (subst (λ (n : Net). same_net n z.net ≡ true) (own x (inl refl)) (subst (λ (n : Net). same_net net n ≡ true) (own z (inr (inl refl))) (same_net_itself net))))
    ∙ nets-append net (z ∷ xs) ys (λ w h. own w (inr h)) others

pub nets-counted : (query : Query) (choice : Option Choice) (sends : Option Sender) (rows : List Row) → AreSorted rows → count_nets (rows_shown query choice sends rows) ≡ rows_nets query choice sends rows
nets-counted query choice sends [] sorted = refl
nets-counted query choice sends (row ∷ rows) sorted =
    let first = nets-append row.net (row_shown query choice sends row) (rows_shown query choice sends rows) (shown-net query choice sends row)
    (λ y k. let found = has-mapped (row_shown query choice sends) rows y k in
    subst (λ (n : Net). same_net row.net n ≡ false) (shown-net query choice sends found.0 y found.2) (precedes_other row.net found.0.net (sorted.1 found.0 found.1))) in
    omega (arith, first, nets-counted query choice sends rows sorted.2, sum_by-append (λ (r : Row). nets_in (row_shown query choice sends r)) (row ∷ []) rows)

-- ---- all routes

one-plain : (table : ℕ) (net : Net) (star : Bool) (r : Route) → one_of (plain table) None net star r ≡ item_of net star r ∷ []
one-plain table net star r = refl

others-plain : (table : ℕ) (net : Net) (routes : List Route) → length (flat_map (one_of (plain table) None net false) routes) ≡ length routes
others-plain table net [] = refl
others-plain table net (r ∷ routes) = ap suc (others-plain table net routes)

stored-plain : (table : ℕ) (net : Net) (routes : List Route) → length (stored_of (plain table) None net routes) ≡ length routes
stored-plain table net [] = refl
stored-plain table net (r ∷ routes) = ap suc (others-plain table net routes)

pub plain-length : (table : ℕ) (rows : List Row) → length (rows_shown (plain table) None None rows) ≡ count_routes rows
plain-length table [] = refl
plain-length table (row ∷ rows) =
    omega (
      arith,
      length-append (stored_of (plain table) None row.net row.routes) (rows_shown (plain table) None None rows),
      stored-plain table row.net row.routes,
      plain-length table rows,
      sum_by-append (λ (r : Row). length r.routes) (row ∷ []) rows,
    )

-- ---- the reply

pub reply-is : (names : List (List ℕ)) (table : List ℕ) (query : Query) (choice : Option Choice) (sends : Option Sender) (content : Content) (rows : List Row) (total : ℕ) (text : List ℕ)
    → IsView query.pick rows total content → text ≡ rows_reply names table query choice sends rows total → IsReply names table query choice sends content text
reply-is names table query choice sends content rows total text view is =
    let all = view.all in
    let items = rows_shown query choice sends (selected query.pick all) in
    let same : rows_shown query choice sends rows ≡ items = ap (rows_shown query choice sends) view.rows_are in
    let nets : rows_nets query choice sends rows ≡ count_nets items =
    ap (rows_nets query choice sends) view.rows_are ∙ sym (nets-counted query choice sends (selected query.pick all) (sorted-selected query.pick all (sorted-rows all view.shown.rows_are))) in
    let count : total ≡ length (rows_shown (plain query.table) None None all) = view.total_is ∙ sym (plain-length query.table all) in
    record {
      items = items;
      items_are = rows-show query choice sends content all view.shown;
      all = rows_shown (plain query.table) None None all;
      all_are = rows-show (plain query.table) None None content all view.shown;
      text_is = is ∙ told query.count (rows_shown query choice sends rows) items total (length (rows_shown (plain query.table) None None all)) (rows_nets query choice sends rows) (count_nets items) same count nets;
    }
  where
    told : (b : Bool) (xs ys : List Item) (m n k l : ℕ) → xs ≡ ys → m ≡ n → k ≡ l
        → cond b (count_text table (length xs) m k) (reply_head table ++ flat_map (item_text names query.all) xs)
        ≡ cond b (count_text table (length ys) n l) (reply_head table ++ flat_map (item_text names query.all) ys)
    told b xs ys m n k l e f h =
        λ i. cond b (count_text table (length (e i)) (f i) (h i)) (reply_head table ++ flat_map (item_text names query.all) (e i))

pub reply-ok : {Y : Type 0} (r : Result (Vec ℕ Global) Y) (names : List (List ℕ)) (table : List ℕ) (query : Query) (choice : Option Choice) (sends : Option Sender) (rows : List Row) (total : ℕ)
    → IfOk r (λ text. text.items ≡ rows_reply names table query choice sends rows total)
    → IfOk r (λ text. (content : Content) → IsView query.pick rows total content → IsReply names table query choice sends content text.items)
reply-ok (Ok text) names table query choice sends rows total is = λ content view. reply-is names table query choice sends content rows total text.items view is
reply-ok (Err e) names table query choice sends rows total is = tt

-- ---- the rows that are asked for

passed-count : (test : Row → Bool) (rows : List Row) → count_routes (filter test rows) ≤ count_routes rows
passed-count test [] = omega arith
passed-count test (row ∷ rows) = on (test row) (passed-count test rows) where
  on : (b : Bool) → count_routes (filter test rows) ≤ count_routes rows → count_routes (cond b (row ∷ filter test rows) (filter test rows)) ≤ count_routes (row ∷ rows)
  on true less = omega (arith, less, sum_by-append (λ (r : Row). length r.routes) (row ∷ []) rows, sum_by-append (λ (r : Row). length r.routes) (row ∷ []) (filter test rows))
  on false less = omega (arith, less, sum_by-append (λ (r : Row). length r.routes) (row ∷ []) rows)

selected-count : (pick : Select) (rows : List Row) → count_routes (selected pick rows) ≤ count_routes rows
selected-count All rows = omega arith
selected-count (Exact asked) rows = passed-count (λ (r : Row). same_net asked r.net) rows
selected-count (For asked) rows = passed-count (λ (r : Row). covers r.net asked && not (has_longer_cover asked r.net.len rows)) rows
selected-count (Within asked) rows = passed-count (λ (r : Row). covers asked r.net) rows

pub view-count : (pick : Select) (rows : List Row) (total : ℕ) (content : Content) → IsView pick rows total content → count_routes rows ≤ total
view-count pick rows total content view = omega (arith, ap count_routes view.rows_are, selected-count pick view.all, view.total_is)

-- ---- a table

pub view-of : (pick : Select) (all rows : List Row) (total : ℕ) (content : Content) → Shows all content → rows ≡ selected pick all → total ≡ count_routes all → IsView pick rows total content
view-of pick all rows total content shown is count = record { all = all; shown = shown; rows_are = is; total_is = count }

pub view-some : (pick : Select) (all rows : List Row) (total : ℕ) → AreRows all → rows ≡ selected pick all → total ≡ count_routes all → (content : Content) × IsView pick rows total content
view-some pick all rows total are is count = (route_in all, view-of pick all rows total (route_in all) (record { rows_are = are; routes_are = λ net num. refl }) is count)

pub table-ok : {Y : Type 0} (r : Result (Vec ℕ Global) Y) (names : List (List ℕ)) (table : List ℕ) (query : Query) (choice : Option Choice) (sends : Option Sender) (all rows : List Row) (total : ℕ)
    → rows ≡ selected query.pick all → total ≡ count_routes all
    → IfOk r (λ text. (content : Content) → IsView query.pick rows total content → IsReply names table query choice sends content text.items)
    → IfOk r (λ text. (content : Content) → Shows all content → IsReply names table query choice sends content text.items)
table-ok (Ok text) names table query choice sends all rows total is count told = λ content shown. told content (view-of query.pick all rows total content shown is count)
table-ok (Err e) names table query choice sends all rows total is count told = tt
