-- For private contracts alone: what is shown of rows, one after the other, and what is told so far.
use Rattle.std.specs.Prelude.{◌≡◌, ◌+◌, ◌&&◌, ◌==◌, ◌++◌, ◌∷◌, ℕ, Bool, true, false, if◌then◌else◌, List, [], length, Option, None, Some, sum_by}
use Rattle.std.specs.List.{flat_map}
use Rattle.bits_ip.specs.Prefix.{Net}
use Rattle.attrs.specs.declared.attributes.Attrs.{Attrs}
use Rattle.attrs.specs.declared.judge.Verdict.{Verdict}
use Rattle.attrs.specs.declared.judge.Verdict.TheVariants.{Accept, Reject}
use Rattle.attrs.specs.declared.route.Route.{Route}
use Rattle.attrs.specs.declared.route.Row.{Row}
use Rattle.show_route.specs.declared.query.Query.{Query}
use Rattle.show_route.specs.declared.show.Tally.{Tally}
use Rattle.show_route.specs.Reply.{reply_head}
use Rattle.show_route.specs.Shown.{Choice, Item, Sender, count_text, item_text}

abbrev pub is_of : Option ℕ → Route → Bool
is_of None route = true
is_of (Some num) route = route.src.num == num

abbrev pub is_accept : Verdict → Bool
is_accept (Accept attrs) = true
is_accept (Reject fault) = false

abbrev pub accepts : Option Choice → Net → Route → Bool
accepts None net route = true
accepts (Some verdict) net route = is_accept (verdict net route)

-- the route is of the source that is asked for, and accepted
abbrev pub keeps : Query → Option Choice → Net → Route → Bool
keeps query choice net route = is_of query.source route && accepts choice net route

abbrev pub item_of : Net → Bool → Route → Item
item_of net star route = record { net = net; route = route; star = star }

-- the route, where it is kept
abbrev pub one_of : Query → Option Choice → Net → Bool → Route → List Item
one_of query choice net star route =
    if keeps query choice net route then item_of net star route ∷ [] else []

-- a net's routes, of which the first is its best
abbrev pub stored_of : Query → Option Choice → Net → List Route → List Item
stored_of query choice net [] = []
stored_of query choice net (best ∷ others) =
    one_of query choice net true best
    ++ (if query.primary then [] else flat_map (one_of query choice net false) others)

-- the best with the attributes with which it is sent
abbrev pub with_attrs : Query → Option Choice → Net → Route → Option Attrs → List Item
with_attrs query choice net best None = []
with_attrs query choice net best (Some attrs) =
    one_of query choice net true (record { src = best.src; attrs = attrs })

abbrev pub sent_of : Query → Option Choice → Sender → Net → List Route → List Item
sent_of query choice sends net [] = []
sent_of query choice sends net (best ∷ others) =
    with_attrs query choice net best (sends net best)

-- what is shown of a row, and of rows
abbrev pub row_shown : Query → Option Choice → Option Sender → Row → List Item
row_shown query choice None row = stored_of query choice row.net row.routes
row_shown query choice (Some sends) row = sent_of query choice sends row.net row.routes

abbrev pub rows_shown : Query → Option Choice → Option Sender → List Row → List Item
rows_shown query choice sends rows = flat_map (row_shown query choice sends) rows

-- whether a net is shown, of which these are
abbrev pub nets_in : List Item → ℕ
nets_in [] = 0
nets_in (item ∷ rest) = 1

-- how many nets are shown of these rows
abbrev pub rows_nets : Query → Option Choice → Option Sender → List Row → ℕ
rows_nets query choice sends rows =
    sum_by (λ row. nets_in (row_shown query choice sends row)) rows

-- how items are written, where they aren't only counted
abbrev pub items_text : List (List ℕ) → Query → List Item → List ℕ
items_text names query items =
    if query.count then [] else flat_map (item_text names query.all) items

-- these items are shown too
pub record Puts (names : List (List ℕ)) (query : Query) (items : List Item) (old now : Tally)
    : Type 0 where
  pub text : now.text.items ≡ old.text.items ++ items_text names query items
  pub routes : now.routes ≡ old.routes + length items
  pub nets : now.nets ≡ old.nets

-- these items of so many nets are shown too
pub record Tells (names : List (List ℕ)) (query : Query) (items : List Item) (seen : ℕ)
    (old now : Tally) : Type 0 where
  pub text : now.text.items ≡ old.text.items ++ items_text names query items
  pub routes : now.routes ≡ old.routes + length items
  pub nets : now.nets ≡ old.nets + seen

-- a row's items are shown too
abbrev pub TellsRow : List (List ℕ) → Query → List Item → Tally → Tally → Type 0
TellsRow names query items old now = Tells names query items (nets_in items) old now

-- so are those of rows
abbrev pub TellsRows :
    List (List ℕ) → Query → Option Choice → Option Sender → List Row → Tally → Tally → Type 0
TellsRows names query choice sends rows old now =
    Tells names query (rows_shown query choice sends rows) (rows_nets query choice sends rows) old
    now

-- the reply, as the rows are gone through
abbrev pub rows_reply :
    List (List ℕ) → List ℕ → Query → Option Choice → Option Sender → List Row → ℕ → List ℕ
rows_reply names table query choice sends rows total =
    if query.count then
    count_text table (length (rows_shown query choice sends rows)) total
    (rows_nets query choice sends rows)
    else
    reply_head table
    ++ flat_map (item_text names query.all) (rows_shown query choice sends rows)

-- what a reply begins with
abbrev pub reply_begin : Bool → List ℕ → List ℕ
reply_begin count table = if count then [] else reply_head table
