-- Reading an entry from words: what is read at the front, with the words behind it, or nothing
-- where the front isn't spelled so. `entry_in` and the like are what the parts that were read come
-- to, before memory is taken for them. Not modelled: memory. From: this project's own format.
use Rattle.std.specs.Prelude.{◌≡◌, ℕ, ◌+◌, ◌-◌, ◌*◌, ◌/◌, ◌%◌, ◌^◌, Bool, true, false, not, ◌&&◌, ◌==◌, nat_lt, nat_le, if◌then◌else◌, List, [], ◌∷◌, ◌++◌, length, map, take, drop, slice_index, Option, Some, None, Result, Ok, Err, option_map, IsTrue}
use Rattle.std.specs.List.{flat_map, list_any}
use Rattle.std.specs.Option.{is_some}
use Rattle.bits_ip.specs.Address.{number_of, width_of}
use Rattle.bits_ip.specs.Prefix.{Net}
use Rattle.bits_ip.specs.declared.address.Addr.{Addr}
use Rattle.bits_ip.specs.declared.address.Addr.TheVariants.{V4, V6}
use Rattle.attrs.specs.declared.attributes.Attrs.{Attrs}
use Rattle.attrs.specs.declared.attributes.Kind.{Kind}
use Rattle.attrs.specs.declared.attributes.Kind.TheVariants.{Static, Bgp}
use Rattle.attrs.specs.declared.attributes.Dest.{Dest}
use Rattle.attrs.specs.declared.attributes.Dest.TheVariants.{Unicast, Blackhole, Unreachable, Prohibit}
use Rattle.attrs.specs.declared.attributes.Origin.{Origin}
use Rattle.attrs.specs.declared.attributes.Origin.TheVariants.{Igp, Egp, Incomplete}
use Rattle.attrs.specs.declared.route.Route.{Route}
use Rattle.attrs.specs.declared.journal.JEntry.{JEntry}
use Rattle.rec_words.specs.declared.fault.Misspelt.{Misspelt}
use Rattle.rec_words.specs.declared.shape.Shape.{Shape}
use Rattle.rec_words.specs.declared.parts.Numbers.{Numbers}
use Rattle.rec_words.specs.declared.parts.Head.{Head}
use Rattle.rec_words.specs.declared.parts.Ways.{Ways}
use Rattle.rec_words.specs.declared.parts.RouteParts.{RouteParts}
use Rattle.rec_words.specs.declared.parts.Front.{Front}
use Rattle.rec_words.specs.declared.parts.EntryParts.{EntryParts}
use Rattle.rec_words.specs.Spelling.{at_bit, dest_number, first_word, flag, kind_number, origin_number}

infixl 10 ◌>>=◌
abbrev pub ◌>>=◌ : {A B : Type 0} → Option A → (A → Option B) → Option B
None >>= f = None
(Some x) >>= f = f x

-- what a function returned, seen by `view`, is what reading gives
abbrev pub Gives : {X Y : Type 0} → (X → Y) → Result X Misspelt → Option Y → Type 0
Gives view (Ok x) read = read ≡ Some (view x)
Gives view (Err fault) read = read ≡ None

abbrev pub low_half : ℕ → ℕ
low_half word = word % 2 ^ 32

abbrev pub high_half : ℕ → ℕ
high_half word = word / 2 ^ 32

-- a word that has one number, in its low half
abbrev pub number_at : ℕ → Option ℕ
number_at word = if nat_lt word (2 ^ 32) then Some word else None

abbrev pub bit_at : ℕ → ℕ → Bool
bit_at bit word = word / 2 ^ bit % 2 == 1

abbrev pub kind_of : ℕ → Kind
kind_of digit = if digit == 0 then Static else Bgp

abbrev pub dest_of : ℕ → Dest
dest_of digit =
    if digit == 0 then Unicast
    else if digit == 1 then Blackhole
    else if digit == 2 then Unreachable
    else Prohibit

abbrev pub origin_of : ℕ → Option Origin
origin_of digit =
    if digit == 0 then None
    else if digit == 1 then Some Igp
    else if digit == 2 then Some Egp
    else Some Incomplete

abbrev pub shape_of : Attrs → Shape
shape_of a = record {
  kind = a.kind;
  dest = a.dest;
  ebgp = a.ebgp;
  origin = a.origin;
  has_med = is_some a.med;
  has_lp = is_some a.lp;
  has_igp = is_some a.igp;
  path_len = length a.path;
  com_len = length a.coms;
}

-- the word that spells the shape
abbrev pub word_of : Shape → ℕ
word_of s =
    kind_number s.kind + at_bit 4 (dest_number s.dest) + at_bit 8 (flag s.ebgp)
    + at_bit 12 (origin_number s.origin) + at_bit 16 (flag s.has_med) + at_bit 17 (flag s.has_lp)
    + at_bit 18 (flag s.has_igp) + at_bit 24 s.path_len + at_bit 32 s.com_len

-- the shape that a word spells, if it spells one
abbrev pub shape_in : ℕ → Shape
shape_in word = record {
  kind = kind_of (word % 2);
  dest = dest_of (word / 2 ^ 4 % 4);
  ebgp = bit_at 8 word;
  origin = origin_of (word / 2 ^ 12 % 4);
  has_med = bit_at 16 word;
  has_lp = bit_at 17 word;
  has_igp = bit_at 18 word;
  path_len = word / 2 ^ 24 % 256;
  com_len = word / 2 ^ 32 % 256;
}

unfoldable pub shape_at : ℕ → Option Shape
shape_at word = if word_of (shape_in word) == word then Some (shape_in word) else None

-- a number that may be missing, which is 0 then
abbrev pub optional_at : Bool → ℕ → Option (Option ℕ)
optional_at true number = Some (Some number)
optional_at false number = if number == 0 then Some None else None

-- the five words before the addresses
unfoldable pub head_in : List ℕ → Option Head
head_in ws = do
  shape ← shape_at (slice_index ws 2)
  med ← optional_at shape.has_med (high_half (slice_index ws 3))
  lp ← optional_at shape.has_lp (low_half (slice_index ws 4))
  igp ← optional_at shape.has_igp (high_half (slice_index ws 4))
  Some
      record {
        src = record {
          num = low_half (slice_index ws 0);
          def_med = high_half (slice_index ws 0);
          def_lp = low_half (slice_index ws 1);
        };
        pref = high_half (slice_index ws 1);
        shape = shape;
        peer_id = low_half (slice_index ws 3);
        med = med;
        lp = lp;
        igp = igp;
      }

unfoldable pub head_at : List ℕ → Option (Head × List ℕ)
head_at ws =
    if nat_lt (length ws) 5 then None
    else do
      head ← head_in (take 5 ws)
      Some (head, drop 5 ws)

-- an address behind the number of its family
unfoldable pub v4_at : List ℕ → Option (Option Addr × List ℕ)
v4_at [] = None
v4_at (word ∷ rest) = do
  n ← number_at word
  Some (Some (V4 n), rest)

unfoldable pub v6_at : List ℕ → Option (Option Addr × List ℕ)
v6_at [] = None
v6_at (high ∷ []) = None
v6_at (high ∷ low ∷ rest) = Some (Some (V6 (high * 2 ^ 64 + low)), rest)

unfoldable pub addr_at : List ℕ → Option (Option Addr × List ℕ)
addr_at [] = None
addr_at (family ∷ rest) =
    if family == 0 then Some (None, rest)
    else if family == 4 then v4_at rest
    else if family == 6 then v6_at rest
    else None

unfoldable pub ways_at : List ℕ → Option (Ways × List ℕ)
ways_at ws = do
  gw ← addr_at ws
  sender ← addr_at gw.1
  next_hop ← addr_at sender.1
  Some (record { gw = gw.0; sender = sender.0; next_hop = next_hop.0 }, next_hop.1)

-- a number alone in its word, where there is one
unfoldable pub last_at : Bool → List ℕ → Option (Option ℕ × List ℕ)
last_at false ws = Some (None, ws)
last_at true [] = None
last_at true (word ∷ rest) = do
  n ← number_at word
  Some (Some n, rest)

abbrev pub listed : Option ℕ → List ℕ
listed None = []
listed (Some n) = n ∷ []

abbrev pub split_word : ℕ → List ℕ
split_word word = low_half word ∷ high_half word ∷ []

-- as many numbers, two in each word
unfoldable pub numbers_at : ℕ → List ℕ → Option (List ℕ × List ℕ)
numbers_at count ws =
    if nat_lt (length ws) (count / 2) then None
    else do
      last ← last_at (count % 2 == 1) (drop (count / 2) ws)
      Some (flat_map split_word (take (count / 2) ws) ++ listed last.0, last.1)

abbrev pub numbers_in : Numbers → List ℕ
numbers_in numbers = flat_map split_word numbers.pairs.now ++ listed numbers.last

unfoldable pub path_at : ℕ → List ℕ → Option (List ℕ × List ℕ)
path_at count ws = if nat_lt 120 count then None else numbers_at count ws

-- no number is there twice
abbrev pub all_distinct : List ℕ → Bool
all_distinct [] = true
all_distinct (first ∷ rest) = not (list_any (λ n. n == first) rest) && all_distinct rest

-- communities as numbers
unfoldable pub coms_at : ℕ → List ℕ → Option (List ℕ × List ℕ)
coms_at count ws =
    if nat_lt 64 count then None
    else do
      coms ← numbers_at count ws
      if all_distinct coms.0 then Some coms else None

abbrev pub pair_of : ℕ → ℕ × ℕ
pair_of number = (number / 65536, number % 65536)

-- the route that a head, addresses, a path and communities make
abbrev pub route_of : Head → Ways → List ℕ → List ℕ → Route
route_of head ways path coms = record {
  src = head.src;
  attrs = record {
    pref = head.pref;
    kind = head.shape.kind;
    dest = head.shape.dest;
    gw = ways.gw;
    sender = ways.sender;
    peer_id = head.peer_id;
    ebgp = head.shape.ebgp;
    path = path;
    origin = head.shape.origin;
    next_hop = ways.next_hop;
    med = head.med;
    lp = head.lp;
    igp = head.igp;
    coms = map pair_of coms;
  };
}

unfoldable pub route_at : List ℕ → Option (Route × List ℕ)
route_at ws = do
  head ← head_at ws
  ways ← ways_at head.1
  path ← path_at head.0.shape.path_len ways.1
  coms ← coms_at head.0.shape.com_len path.1
  Some (route_of head.0 ways.0 path.0 coms.0, coms.1)

abbrev pub route_in : RouteParts → Route
route_in parts = route_of parts.head parts.ways (numbers_in parts.path) (numbers_in parts.coms)

unfoldable pub optional_route_at : Bool → List ℕ → Option (Option Route × List ℕ)
optional_route_at false ws = Some (None, ws)
optional_route_at true ws = do
  route ← route_at ws
  Some (Some route.0, route.1)

-- the address of a family, in two words
abbrev pub v4_in : ℕ → ℕ → Option Addr
v4_in high low = if high == 0 then option_map (λ n. V4 n) (number_at low) else None

unfoldable pub family_addr_at : ℕ → ℕ → ℕ → Option Addr
family_addr_at family high low =
    if family == 4 then v4_in high low
    else if family == 6 then Some (V6 (high * 2 ^ 64 + low))
    else None

abbrev pub is_prefix : Addr → ℕ → Bool
is_prefix addr len = nat_le len (width_of addr) && (number_of addr % 2 ^ (width_of addr - len) == 0)

unfoldable pub net_at : ℕ → ℕ → ℕ → Option Net
net_at form high low = do
  addr ← family_addr_at (form / 256) high low
  if is_prefix addr (form % 256) then Some (record { addr = addr; len = form % 256 }) else None

-- the five words before the routes, of so many words
abbrev pub front_with : Bool → Bool → List ℕ → Option Front
front_with has_new has_best ws = do
  net ← net_at (slice_index ws 1) (slice_index ws 2) (slice_index ws 3)
  num ← number_at (slice_index ws 4)
  Some record { has_new = has_new; has_best = has_best; net = net; num = num }

unfoldable pub front_in : ℕ → List ℕ → Option Front
front_in count ws =
    if first_word count (bit_at 16 (slice_index ws 0)) (bit_at 17 (slice_index ws 0))
    == slice_index ws 0
    then front_with (bit_at 16 (slice_index ws 0)) (bit_at 17 (slice_index ws 0)) ws
    else None

unfoldable pub entry_at : List ℕ → Option JEntry
entry_at ws =
    if nat_lt (length ws) 5 then None
    else do
      front ← front_in (length ws) (take 5 ws)
      new ← optional_route_at front.has_new (drop 5 ws)
      best ← optional_route_at front.has_best new.1
      if length best.1 == 0
          then Some (record { net = front.net; num = front.num; new = new.0; best = best.0 })
          else None

abbrev pub entry_in : EntryParts → JEntry
entry_in parts = record {
  net = parts.front.net;
  num = parts.front.num;
  new = option_map route_in parts.new;
  best = option_map route_in parts.best;
}

-- where it is told that the words say the same of both routes, they do
abbrev pub AreAsTold : EntryParts → Type 0
AreAsTold parts = IsTrue parts.is_new_best → option_map route_in parts.new ≡ option_map route_in parts.best
