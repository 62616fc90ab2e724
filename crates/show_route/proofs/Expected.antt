-- What follows from the definition of replies.
use Rattle.std.proofs.Common.{◌≡◌, ◌≢◌, ◌≤◌, ℕ, Bool, true, false, not, ◌&&◌, ◌||◌, ◌⊎◌, inl, inr, ◌↔◌, IsTrue, List, [], ◌∷◌, length, Option, Some, None, refl, sym, ap, ◌∙◌, subst, arith}
use Rattle.std.specs.Prelude.{Contains, IfSome}
use Rattle.std.proofs.lemmas.Bool.{and_parts, and_from, false≢true}
use Rattle.bits_ip.specs.Prefix.{Covers, IsPrefix, Net, precedes, same_net}
use Rattle.attrs.specs.History.{Content}
use Rattle.attrs.specs.Selection.{before}
use Rattle.attrs.specs.Table.{Shows}
use Rattle.attrs.specs.declared.attributes.Attrs.{Attrs}
use Rattle.attrs.specs.declared.route.Route.{Route}
use Rattle.attrs.specs.declared.route.Row.{Row}
use Rattle.attrs.specs.declared.route.Select.{Select}
use Rattle.attrs.specs.declared.route.Select.TheVariants.{All, For}
use Rattle.attrs.proofs.Covering.{covers_tells}
use Rattle.attrs.proofs.Nets.{precedes_chain, precedes_other, same_net_is, same_net_itself}
use Rattle.attrs.proofs.Rows.{before_back}
use Rattle.rib.specs.Picks.{front}
use Rattle.rib.proofs.Covering.{cover-front}
use Rattle.show_route.specs.declared.query.Query.{Query}
use Rattle.show_route.specs.Shown.{AreInOrder, AreShown, Choice, ComesBeforeAll, IsBestAt, IsReply, IsRouteOf, IsSelected, IsShown, IsThere, Item, Sender, comes_before, count_nets, count_text, counted, plain, reply_of}
use Rattle.show_route.specs.Steps.{rows_shown}
use Rattle.attrs.specs.Select.{selected}
use Rattle.show_route.proofs.Answering.{rows-show}
use Rattle.show_route.proofs.Members.{Has, contains-has, has-contains}

-- ---- the order of items

never : (a : Net) → precedes a a ≡ true → ⊥
never a h = false≢true (sym (precedes_other a a h) ∙ same_net_itself a)

or_cases : (a b : Bool) → (a || b) ≡ true → (a ≡ true) ⊎ (b ≡ true)
or_cases true b e = inl refl
or_cases false b e = inr e

pub comes-back : (a b : Item) → comes_before a b ≡ true → comes_before b a ≡ true → ⊥
comes-back a b h k = elim (or_cases (precedes a.net b.net) (same_net a.net b.net && before a.route b.route) h) [
  | inl p ↦ elim (or_cases (precedes b.net a.net) (same_net b.net a.net && before b.route a.route) k) [
    | inl q ↦ never a.net (precedes_chain a.net b.net a.net p q)
    | inr q ↦ let same : b.net ≡ a.net = same_net_is b.net a.net (and_parts _ _ q).0 in never a.net (subst (λ (n : Net). precedes a.net n ≡ true) same p)
  ]
  | inr p ↦
      let parts = and_parts (same_net a.net b.net) (before a.route b.route) p in
      let same : a.net ≡ b.net = same_net_is a.net b.net parts.0 in
      elim (or_cases (precedes b.net a.net) (same_net b.net a.net && before b.route a.route) k) [
        | inl q ↦ never b.net (subst (λ (n : Net). precedes b.net n ≡ true) same q)
        | inr q ↦ before_back a.route b.route parts.1 (and_parts (same_net b.net a.net) (before b.route a.route) q).1
      ]
]

before-each : (x : Item) (xs : List Item) → ComesBeforeAll x xs → (y : Item) → Has xs y → comes_before x y ≡ true
before-each x [] all y h = absurd h
before-each x (z ∷ xs) all y (inl e) = subst (λ (i : Item). comes_before x i ≡ true) e all.0
before-each x (z ∷ xs) all y (inr h) = before-each x xs all.1 y h

both-ways : (xs : List Item) → AreInOrder xs → (a b : Item) → Has xs a → Has xs b → (a ≢ b) → (comes_before a b ≡ true) ⊎ (comes_before b a ≡ true)
both-ways [] order a b h k differ = absurd h
both-ways (x ∷ xs) order a b (inl e) (inl f) differ = absurd (differ (sym e ∙ f))
both-ways (x ∷ xs) order a b (inl e) (inr k) differ = inl (subst (λ (i : Item). comes_before i b ≡ true) e (before-each x xs order.0 b k))
both-ways (x ∷ xs) order a b (inr h) (inl f) differ = inr (subst (λ (i : Item). comes_before i a ≡ true) f (before-each x xs order.0 a h))
both-ways (x ∷ xs) order a b (inr h) (inr k) differ = both-ways xs order.1 a b h k differ

is-not : (b : Bool) → (b ≡ true → ⊥) → b ≡ false
is-not true refuted = absurd (refuted refl)
is-not false refuted = refl

pub shown-once : (query : Query) (choice : Option Choice) (sends : Option Sender) (content : Content) (items : List Item) → AreShown query choice sends content items
    → (a b : Item) → Contains items a → Contains items b → (a ≢ b) → comes_before a b ≡ not (comes_before b a)
shown-once query choice sends content items shown a b h k differ = elim (both-ways items shown.order a b (contains-has items a h) (contains-has items b k) differ) [
  | inl t ↦ t ∙ sym (ap not (is-not (comes_before b a) (comes-back a b t)))
  | inr t ↦ is-not (comes_before a b) (λ s. comes-back a b s t) ∙ sym (ap not t)
]

or_right : (a b : Bool) → b ≡ true → (a || b) ≡ true
or_right true b e = refl
or_right false b e = e

pub best-first : (query : Query) (choice : Option Choice) (content : Content) (a b : Item) → IsShown query choice None content a → IsShown query choice None content b
    → a.net ≡ b.net → a.star ≡ true → (a ≢ b) → IsTrue (comes_before a b)
best-first query choice content a b shown also same star differ =
    let best : IsBestAt content a.net a.route = shown.candidate.1.0 star in
    let other : IsRouteOf content a.net b.route = subst (λ (n : Net). IsRouteOf content n b.route) (sym same) also.candidate.0 in
    or_right (precedes a.net b.net) _ (and_from _ _ (subst (λ (n : Net). same_net a.net n ≡ true) same (same_net_itself a.net)) (best.1 b.route other (λ e.
    let mine : IsBestAt content b.net b.route = subst (λ (n : Net). IsBestAt content n b.route) same (subst (λ (r : Route). IsBestAt content a.net r) (sym e) best) in
    let stars : b.star ≡ true = also.candidate.1.1 mine in
    differ (λ i. record { net = same i; route = (sym e) i; star = (star ∙ sym stars) i }))))

-- ---- one reply

front_in : (x y : Item) (xs ys : List Item) → AreInOrder (x ∷ xs) → AreInOrder (y ∷ ys) → Has (y ∷ ys) x → Has (x ∷ xs) y → x ≡ y
front_in x y xs ys order also (inl e) k = sym e
front_in x y xs ys order also (inr h) (inl e) = e
front_in x y xs ys order also (inr h) (inr k) = absurd (comes-back x y (before-each x xs order.0 y k) (before-each y ys also.0 x h))

behind_in : (x y : Item) (xs ys : List Item) → AreInOrder (x ∷ xs) → x ≡ y → (i : Item) → Has xs i → Has (y ∷ ys) i → Has ys i
behind_in x y xs ys order same i h (inl e) =
    let t : comes_before x x ≡ true = subst (λ (j : Item). comes_before x j ≡ true) (sym (same ∙ e)) (before-each x xs order.0 i h) in absurd (comes-back x x t t)
behind_in x y xs ys order same i h (inr k) = k

same-items : (xs ys : List Item) → AreInOrder xs → AreInOrder ys → ((i : Item) → Has xs i → Has ys i) → ((i : Item) → Has ys i → Has xs i) → xs ≡ ys
same-items [] [] order also one other = refl
same-items [] (y ∷ ys) order also one other = absurd (other y (inl refl))
same-items (x ∷ xs) [] order also one other = absurd (one x (inl refl))
same-items (x ∷ xs) (y ∷ ys) order also one other =
    let e : x ≡ y = front_in x y xs ys order also (one x (inl refl)) (other y (inl refl)) in
    let rest : xs ≡ ys = same-items xs ys order.1 also.1 (λ i h. behind_in x y xs ys order e i h (one i (inr h))) (λ i h. behind_in y x ys xs also (sym e) i h (other i (inr h))) in
    λ i. e i ∷ rest i

pub shown-one : (query : Query) (choice : Option Choice) (sends : Option Sender) (content : Content) (xs ys : List Item) → AreShown query choice sends content xs → AreShown query choice sends content ys → xs ≡ ys
shown-one query choice sends content xs ys a b =
    same-items xs ys a.order b.order (λ i h. contains-has ys i ((b.are i).1 ((a.are i).0 (has-contains xs i h)))) (λ i h. contains-has xs i ((a.are i).1 ((b.are i).0 (has-contains ys i h))))

pub reply-one : (names : List (List ℕ)) (table : List ℕ) (query : Query) (choice : Option Choice) (sends : Option Sender) (content : Content) (s t : List ℕ)
    → IsReply names table query choice sends content s → IsReply names table query choice sends content t → s ≡ t
reply-one names table query choice sends content s t a b =
    let items : a.items ≡ b.items = shown-one query choice sends content a.items b.items a.items_are b.items_are in
    let all : a.all ≡ b.all = shown-one (plain query.table) None None content a.all b.all a.all_are b.all_are in
    a.text_is ∙ (λ i. reply_of names table query (items i) (length (all i))) ∙ sym b.text_is

pub reply-some : (names : List (List ℕ)) (table : List ℕ) (query : Query) (choice : Option Choice) (sends : Option Sender) (rows : List Row) (content : Content) → Shows rows content
    → (text : List ℕ) × IsReply names table query choice sends content text
reply-some names table query choice sends rows content shows =
    let items = rows_shown query choice sends (selected query.pick rows) in
    let all = rows_shown (plain query.table) None None rows in (
      reply_of names table query items (length all),
      record {
        items = items;
        items_are = rows-show query choice sends content rows shows;
        all = all;
        all_are = rows-show (plain query.table) None None content rows shows;
        text_is = refl;
      },
    )

-- ---- options

pub plain-shown : (table : ℕ) (content : Content) (item : Item)
    → IsShown (plain table) None None content item ↔ (IsRouteOf content item.net item.route × (IsTrue item.star ↔ IsBestAt content item.net item.route))
plain-shown table content item = (
  λ shown. (shown.candidate.0, shown.candidate.1),
  λ is. record { selected = (item.route, is.0); candidate = (is.0, is.1, λ f. absurd (false≢true f)); source = tt; accepted = tt },
)

counted-shown : (query : Query) (choice : Option Choice) (sends : Option Sender) (content : Content) (items : List Item) → AreShown (counted query) choice sends content items → AreShown query choice sends content items
counted-shown query choice sends content items shown = record {
  order = shown.order;
  are = λ item. (
    λ h. let is = (shown.are item).0 h in record { selected = is.selected; candidate = is.candidate; source = is.source; accepted = is.accepted },
    λ is. (shown.are item).1 (record { selected = is.selected; candidate = is.candidate; source = is.source; accepted = is.accepted }),
  );
}

pub counts-shown : (names : List (List ℕ)) (table : List ℕ) (query : Query) (choice : Option Choice) (sends : Option Sender) (content : Content) (text : List ℕ) (items all : List Item)
    → IsReply names table (counted query) choice sends content text → AreShown query choice sends content items → AreShown (plain query.table) None None content all
    → text ≡ count_text table (length items) (length all) (count_nets items)
counts-shown names table query choice sends content text items all reply shown also =
    let same : reply.items ≡ items = shown-one query choice sends content reply.items items (counted-shown query choice sends content reply.items reply.items_are) shown in
    let every : reply.all ≡ all = shown-one (plain query.table) None None content reply.all all reply.all_are also in
    reply.text_is ∙ (λ i. count_text table (length (same i)) (length (every i)) (count_nets (same i)))

equal_lengths : (a b : ℕ) → a ≤ b → b ≤ a → a ≡ b
equal_lengths a b h k = omega (arith, h, k)

for-one : (content : Content) (asked a b : Net) → ((net : Net) (route : Route) → IsRouteOf content net route → IsPrefix net.addr net.len)
    → IsSelected (For asked) content a → IsSelected (For asked) content b → a ≡ b
for-one content asked a b prefixes first second =
    let len : a.len ≡ b.len = equal_lengths a.len b.len (second.2 a first.0 first.1) (first.2 b second.0 second.1) in
    cover-front a asked ((covers_tells a asked).1 first.1) (prefixes a first.0.0 first.0.1) ∙ ap (front asked) len
    ∙ sym (cover-front b asked ((covers_tells b asked).1 second.1) (prefixes b second.0.0 second.0.1))

pub for-shows : (query : Query) (choice : Option Choice) (sends : Option Sender) (content : Content) (asked : Net) (a b : Item) → query.pick ≡ For asked
    → ((net : Net) (route : Route) → IsRouteOf content net route → IsPrefix net.addr net.len)
    → IsShown query choice sends content a → IsShown query choice sends content b
    → (a.net ≡ b.net) × Covers a.net asked × ((other : Net) → IsThere content other → Covers other asked → other.len ≤ a.net.len)
for-shows query choice sends content asked a b pick prefixes first second =
    let p : IsSelected (For asked) content a.net = subst (λ (s : Select). IsSelected s content a.net) pick first.selected in
    let q : IsSelected (For asked) content b.net = subst (λ (s : Select). IsSelected s content b.net) pick second.selected in
    (for-one content asked a.net b.net prefixes p q, p.1, p.2)

pub export-shows : (query : Query) (sends : Sender) (content : Content) (net : Net) (attrs : Attrs) → query.pick ≡ All → query.source ≡ None
    → ((item : Item) × IsShown query None (Some sends) content item × (item.net ≡ net) × (item.route.attrs ≡ attrs)) ↔ ((best : Route) × IsBestAt content net best × (sends net best ≡ Some attrs))
export-shows query sends content net attrs pick source = (
  λ is.
      let candidate = is.1.candidate in (
        candidate.0,
        subst (λ (n : Net). IsBestAt content n candidate.0) is.2 candidate.1,
        ap (λ (n : Net). sends n candidate.0) (sym is.2) ∙ candidate.2 ∙ ap (λ (a : Attrs). Some a) is.3,
      ),
  λ is. (
    record { net = net; route = record { src = is.0.src; attrs = attrs }; star = true },
    record {
      selected = subst (λ (s : Select). IsSelected s content net) (sym pick) (is.0, is.1.0);
      candidate = (is.0, is.1, is.2, refl, refl);
      source = subst (λ (o : Option ℕ). IfSome o (λ num. is.0.src.num ≡ num)) (sym source) tt;
      accepted = tt;
    },
    refl,
    refl,
  ),
)
