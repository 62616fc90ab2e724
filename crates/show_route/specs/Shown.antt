-- What `show route` answers (`IsReply`): a function of a query, of the content of its table, of what
-- the filter that it names says of a route, and of what the channel that it names would send of
-- one. Which nets are asked for (`IsSelected`), what there is to be shown of a net
-- (`IsCandidate`), which of that is shown (`IsShown`), in which order and each once (`AreShown`),
-- and how it is written or counted (`reply_of`).
-- Not modelled: how a table is kept and gone through.
-- From: BIRD User's Guide, "Remote control", `show route`; the order of its options, the form of
-- lines and of the count, and that a filter's changes aren't shown, are own.
-- Example: of two routes of a net `show route protocol p2 count` tells `1 of 2 routes for 1 networks
-- in table master4`, also where the other is the better one.
use Rattle.std.specs.Prelude.{◌≡◌, ◌≢◌, ◌↔◌, ◌≤◌, ◌+◌, ◌&&◌, ◌||◌, ℕ, Bool, true, false, if◌then◌else◌, IsTrue, Contains}
use Rattle.std.specs.Prelude.{List, [], ◌∷◌, ◌++◌, length, codes, decimal, Option, Some, None, IfSome, ⊤}
use Rattle.std.specs.List.{flat_map, list_any}
use Rattle.bits_ip.specs.Prefix.{Covers, Net, precedes, same_net}
use Rattle.attrs.specs.Text.{attrs_text}
use Rattle.attrs.specs.History.{Content}
use Rattle.attrs.specs.Selection.{before}
use Rattle.attrs.specs.declared.attributes.Attrs.{Attrs}
use Rattle.attrs.specs.declared.judge.Verdict.{Verdict}
use Rattle.attrs.specs.declared.judge.Verdict.TheVariants.{Accept, Reject}
use Rattle.attrs.specs.declared.route.Route.{Route}
use Rattle.attrs.specs.declared.route.Select.{Select}
use Rattle.attrs.specs.declared.route.Select.TheVariants.{All, Exact, For, Within}
use Rattle.show_route.specs.declared.query.Query.{Query}
use Rattle.show_route.specs.Reply.{reply_head, shown_route}

-- ---- nets

-- the route stands in the content, for the net and its source
abbrev pub IsRouteOf : Content → Net → Route → Type 0
IsRouteOf content net route = content net route.src.num ≡ Some route

-- some source has a route of the net
abbrev pub IsThere : Content → Net → Type 0
IsThere content net = (route : Route) × IsRouteOf content net route

-- the route is before all others of its net
abbrev pub IsBestAt : Content → Net → Route → Type 0
IsBestAt content net route =
    IsRouteOf content net route
    × ((other : Route) → IsRouteOf content net other → (other ≢ route) → IsTrue (before route other))

-- the net is asked for: any; exactly one; the longest that covers a prefix; those that a prefix
-- covers, itself among them
abbrev pub IsSelected : Select → Content → Net → Type 0
IsSelected All content net = IsThere content net
IsSelected (Exact asked) content net = IsThere content net × (net ≡ asked)
IsSelected (For asked) content net =
    IsThere content net × Covers net asked
    × ((other : Net) → IsThere content other → Covers other asked → other.len ≤ net.len)
IsSelected (Within asked) content net = IsThere content net × Covers asked net

-- ---- routes

-- what a filter says of a route of a net
abbrev pub Choice : Type 0
Choice = Net → Route → Verdict

-- the attributes with which a channel sends a route of a net, and none where it doesn't
abbrev pub Sender : Type 0
Sender = Net → Route → Option Attrs

-- a route as it is shown: of which net, and whether it has a star
pub record Item : Type 0 where
  pub net : Net
  pub route : Route
  pub star : Bool

-- What there is to be shown of a net. With a channel: its best route with the attributes with which
-- it is sent, where it is, and a star. Else its routes, of which the best has a star; and with
-- `primary` this one alone.
abbrev pub IsCandidate : Bool → Option Sender → Content → Item → Type 0
IsCandidate primary (Some sends) content item =
    (best : Route) × IsBestAt content item.net best
    × (sends item.net best ≡ Some item.route.attrs)
    × (item.route.src ≡ best.src) × (item.star ≡ true)
IsCandidate primary None content item =
    IsRouteOf content item.net item.route
    × (IsTrue item.star ↔ IsBestAt content item.net item.route)
    × (IsTrue primary → IsTrue item.star)

abbrev pub IsAccept : Verdict → Type 0
IsAccept (Accept attrs) = ⊤
IsAccept (Reject fault) = ⊥

-- It is shown: its net is asked for, it is what there is to be shown, of the source that is asked
-- for, and accepted by the filter, which sees it as it is shown and changes nothing of that.
pub record IsShown (query : Query) (choice : Option Choice) (sends : Option Sender)
    (content : Content) (item : Item) : Type 0 where
  pub selected : IsSelected query.pick content item.net
  pub candidate : IsCandidate query.primary sends content item
  pub source : IfSome query.source (λ num. item.route.src.num ≡ num)
  pub accepted : IfSome choice (λ verdict. IsAccept (verdict item.net item.route))

-- ---- the order

-- by nets, and the routes of a net by selection
abbrev pub comes_before : Item → Item → Bool
comes_before a b = precedes a.net b.net || (same_net a.net b.net && before a.route b.route)

abbrev pub ComesBeforeAll : Item → List Item → Type 0
ComesBeforeAll item [] = ⊤
ComesBeforeAll item (next ∷ rest) = IsTrue (comes_before item next) × ComesBeforeAll item rest

-- each comes before all that follow it, so none is there twice
abbrev pub AreInOrder : List Item → Type 0
AreInOrder [] = ⊤
AreInOrder (item ∷ rest) = ComesBeforeAll item rest × AreInOrder rest

-- These are what is shown.
pub record AreShown (query : Query) (choice : Option Choice) (sends : Option Sender)
    (content : Content) (items : List Item) : Type 0 where
  pub order : AreInOrder items
  pub are : (item : Item) → Contains items item ↔ IsShown query choice sends content item

-- ---- the text

-- the query without a choice of nets and without options
abbrev pub plain : ℕ → Query
plain table = record {
  table = table;
  pick = All;
  choice = None;
  source = None;
  export = None;
  primary = false;
  all = false;
  count = false;
}

-- how many nets are among these
abbrev pub count_nets : List Item → ℕ
count_nets [] = 0
count_nets (item ∷ rest) =
    if list_any (λ other. same_net item.net other.net) rest then count_nets rest
    else 1 + count_nets rest

-- a route, and behind it with `all` its attributes, in a line of their own behind a tab
abbrev pub item_text : List (List ℕ) → Bool → Item → List ℕ
item_text names all item =
    shown_route names item.net item.star item.route
    ++ (if all then 9 ∷ attrs_text item.route.attrs ++ codes "\n" else [])

-- what is counted: the routes shown, of all routes of the table, and the nets shown
abbrev pub count_text : List ℕ → ℕ → ℕ → ℕ → List ℕ
count_text table shown total nets =
    decimal shown ++ codes " of " ++ decimal total ++ codes " routes for " ++ decimal nets
    ++ codes " networks in table " ++ table ++ codes "\n"

-- the reply of these items, from a table of so many routes; `count` wins over `all`
abbrev pub reply_of : List (List ℕ) → List ℕ → Query → List Item → ℕ → List ℕ
reply_of names table query items total =
    if query.count then count_text table (length items) total (count_nets items)
    else reply_head table ++ flat_map (item_text names query.all) items

-- This is the reply: what is shown, and behind "of" how many routes `show route` without options
-- shows.
pub record IsReply (names : List (List ℕ)) (table : List ℕ) (query : Query)
    (choice : Option Choice) (sends : Option Sender) (content : Content) (text : List ℕ) : Type 0
  where
    pub items : List Item
    pub items_are : AreShown query choice sends content items
    pub all : List Item
    pub all_are : AreShown (plain query.table) None None content all
    pub text_is : text ≡ reply_of names table query items (length all)

-- the same query with `count`
abbrev pub counted : Query → Query
counted query = record query { count = true }
