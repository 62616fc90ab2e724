-- What the functions owe can be met: by a protocol whose first operation brings its channel up, and
-- whose second one imports a route, and a pipe that takes the route to a second table. The pipe goes down by
-- each operation that finds it up, and comes up by the next.
use Rattle.std.proofs.Common.{◌≡◌, ◌≢◌, ℕ, zero, suc, ◌≤◌, inl, inr, Bool, true, false, not, List, [], ◌∷◌, Option, Some, None, refl, sym, ◌∙◌, ap, subst, arith}
use Rattle.std.specs.Prelude.{◌==◌, ◌&&◌, ◌||◌, cond, if◌then◌else◌}
use Rattle.std.specs.BTreeMap.{is_at}
use Rattle.std.proofs.lemmas.Bool.Decides.{eqb_tells}
use Rattle.bits_ip.specs.declared.address.Addr.TheVariants.{V4}
use Rattle.bits_ip.specs.Prefix.{Net, net_cmp, same_net}
use Rattle.attrs.specs.declared.attributes.Attrs.{Attrs}
use Rattle.attrs.specs.declared.attributes.Dest.TheVariants.{Unicast}
use Rattle.attrs.specs.declared.attributes.Kind.TheVariants.{Bgp}
use Rattle.attrs.specs.declared.route.Change.{Change}
use Rattle.attrs.specs.declared.route.Route.{Route}
use Rattle.attrs.specs.History.{Content}
use Rattle.attrs.specs.Selection.{IsBest}
use Rattle.attrs.specs.Table.{route_of}
use Rattle.attrs.proofs.Rows.{IsBest-first, in_order-from_sorted}
use Rattle.import_core.specs.declared.mode.Mode.TheVariants as modes
use Rattle.import_core.specs.declared.operation.Op.{Op}
use Rattle.import_core.specs.Imports.{AreInOrder, Routes}
use Rattle.std.specs.List.Sorted.{IsStrictlySortedBy}
use Rattle.export_core.specs.Candidates.{among}
use Rattle.export_core.specs.Histories.{AreRoutesOf}
use Rattle.export_core.proofs.Nets.{is_at_is}
use Rattle.core_machine.specs.Histories.{AreFrom, AreReal, content_of}
use Rattle.core_machine.specs.Rules.{AreApart, Effect, Fits, IsRules, Rules, Signal, Stay, Rise, Fall, changes, held, is_up, signalled}
use Rattle.core_machine.specs.Ways.{levels}
use Rattle.core_machine.proofs.Contents.{content_more, if_true, if_false, none_some, real_more, some_same}
use Rattle.core_machine.proofs.Levels.{are_ways}

-- the attributes of a route, with a preference
abbrev pub attributes : ℕ → Attrs
attributes pref = record { pref = pref; kind = Bgp; dest = Unicast; gw = None; sender = None; peer_id = 0; ebgp = true; path = []; origin = None; next_hop = None; med = None; lp = None; igp = None; coms = [] }

abbrev pub route : ℕ → Attrs → Route
route num attrs = record { src = record { num = num; def_med = 0; def_lp = 100 }; attrs = attrs }

abbrev pub net : Net
net = record { addr = V4 0; len = 0 }

abbrev change : Change
change = record { net = net; num = 0; new = Some (route 0 (attributes 100)) }

abbrev even : List Op → Bool
even [] = true
even (x ∷ ops) = not (even ops)

abbrev turn : Bool → Signal
turn true = Fall
turn false = Rise

abbrev gives : ℕ → List Op → Op → Effect
gives zero [] op = record { changes = []; signal = Rise; over = false }
gives zero (x ∷ []) op = record { changes = change ∷ []; signal = Stay; over = false }
gives zero (x ∷ y ∷ earlier) op = record { changes = []; signal = Stay; over = false }
gives (suc zero) ops op = record { changes = []; signal = turn (even ops); over = false }
gives (suc (suc i)) ops op = record { changes = []; signal = Stay; over = false }

abbrev accepted : ℕ → List Op → Routes
accepted zero [] = []
accepted zero (x ∷ []) = []
accepted zero (x ∷ y ∷ earlier) = (net, route 0 (attributes 100)) ∷ []
accepted (suc i) ops = []

abbrev first : ℕ → Bool
first zero = false
first (suc zero) = true
first (suc (suc i)) = false

-- channels 0 and 1 are the pipe's directions
abbrev owner : ℕ → ℕ
owner zero = 1
owner (suc zero) = 1
owner (suc (suc zero)) = 0
owner (suc (suc (suc c))) = 2

abbrev belong : ℕ → List ℕ
belong zero = 2 ∷ []
belong (suc zero) = 0 ∷ 1 ∷ []
belong (suc (suc i)) = []

abbrev reads : ℕ → ℕ
reads zero = 0
reads (suc zero) = 1
reads (suc (suc c)) = 0

abbrev target : ℕ → Option ℕ
target zero = Some 1
target (suc zero) = Some 0
target (suc (suc c)) = None

abbrev bare : Rules
bare = record {
  protocols = 1;
  channels = 3;
  tables = 2;
  cells = 1;
  gives = gives;
  mode = λ i ops. modes.Idle;
  accepted = accepted;
  first = first;
  table = λ i. 0;
  belong = belong;
  route = route;
  owner = owner;
  reads = reads;
  target = target;
  value = λ c k r. Some r.attrs;
  choose = λ routes. routes 0;
  hops = λ t i. None;
}

abbrev some : Rules
some = record bare { hops = λ t i. levels bare i 1 t }

some_other : (r : Route) (rest : List Route) (num : ℕ) → r.src.num ≢ num → route_of num (r ∷ rest) ≡ route_of num rest
some_other r rest num other = elim (eqb_tells r.src.num num) [ inl w ↦ absurd (other w.1) | inr w ↦ if_false (r.src.num == num) (Some r) (route_of num rest) w.0 ]

some_here : (r : Route) (rest : List Route) → route_of r.src.num (r ∷ rest) ≡ Some r
some_here r rest = elim (eqb_tells r.src.num r.src.num) [ inl w ↦ if_true (r.src.num == r.src.num) (Some r) (route_of r.src.num rest) w.0 | inr w ↦ absurd (w.1 refl) ]

above_zero : (n : ℕ) → n ≢ 0 → 1 ≤ n
above_zero zero e = absurd (e refl)
above_zero (suc n) e = omega arith

best : (content : Content) (k : Net) (routes : List Route) → ((num : ℕ) → 1 ≤ num → content k num ≡ None) → AreRoutesOf content k routes → IsBest routes (content k 0)
best content k [] beyond are = subst (IsBest []) (are.are 0) refl
best content k (r ∷ []) beyond are = elim (eqb_tells r.src.num 0) [
  | inl w ↦ subst (IsBest (r ∷ [])) (sym (subst (λ n. route_of n (r ∷ []) ≡ Some r) w.1 (some_here r [])) ∙ are.are 0) (IsBest-first r [] (in_order-from_sorted (r ∷ []) (tt, tt)))
  | inr w ↦ absurd (none_some (sym (beyond r.src.num (above_zero r.src.num w.1)) ∙ sym (are.are r.src.num) ∙ some_here r []))
]
best content k (r ∷ q ∷ rest) beyond are = elim (eqb_tells r.src.num 0) [
  | inl w ↦ let apart : q.src.num ≢ 0 = λ e. are.sources.0.0 (e ∙ sym w.1) in
      absurd (none_some (sym (beyond q.src.num (above_zero q.src.num apart)) ∙ sym (are.are q.src.num) ∙ some_other r (q ∷ rest) q.src.num (λ e. apart (sym e ∙ w.1)) ∙ some_here q rest))
  | inr w ↦ absurd (none_some (sym (beyond r.src.num (above_zero r.src.num w.1)) ∙ sym (are.are r.src.num) ∙ some_here r (q ∷ rest)))
]

pipe_nothing : (ops : List Op) → changes some 1 ops ≡ []
pipe_nothing [] = refl
pipe_nothing (x ∷ ops) = pipe_nothing ops

none_else : (i : ℕ) (ops : List Op) → changes some (suc (suc i)) ops ≡ []
none_else i [] = refl
none_else i (x ∷ ops) = none_else i ops

own : (i : ℕ) (ops : List Op) → AreFrom i (changes some i ops)
own zero [] = tt
own zero (x ∷ []) = tt
own zero (x ∷ y ∷ []) = (record { change = refl; route = refl }, tt)
own zero (x ∷ y ∷ z ∷ earlier) = own zero (y ∷ z ∷ earlier)
own (suc zero) ops = subst (AreFrom 1) (sym (pipe_nothing ops)) tt
own (suc (suc i)) ops = subst (AreFrom (suc (suc i))) (sym (none_else i ops)) tt

real : (i : ℕ) (ops : List Op) → AreReal (changes some i ops)
real zero [] = tt
real zero (x ∷ []) = tt
real zero (x ∷ y ∷ []) = real_more change [] tt (λ e. none_some e)
real zero (x ∷ y ∷ z ∷ earlier) = real zero (y ∷ z ∷ earlier)
real (suc zero) ops = subst AreReal (sym (pipe_nothing ops)) tt
real (suc (suc i)) ops = subst AreReal (sym (none_else i ops)) tt

made : (i : ℕ) (ops : List Op) (n : Net) → content_of (changes some i ops) n i ≡ held some i ops n
made zero [] n = refl
made zero (x ∷ []) n = refl
made zero (x ∷ y ∷ []) n = content_more change [] n 0 ∙ one (same_net n net) (is_at (net_cmp n) net) (is_at_is n net) where
  one : (a b : Bool) → b ≡ a → (if a && true then Some (route 0 (attributes 100)) else None) ≡ cond b (Some (route 0 (attributes 100))) None
  one true b e = sym (ap (λ b. cond b (Some (route 0 (attributes 100))) None) e)
  one false b e = sym (ap (λ b. cond b (Some (route 0 (attributes 100))) None) e)
made zero (x ∷ y ∷ z ∷ earlier) n = made zero (y ∷ z ∷ earlier) n
made (suc zero) ops n = ap (λ l. content_of l n 1) (pipe_nothing ops)
made (suc (suc i)) ops n = ap (λ l. content_of l n (suc (suc i))) (none_else i ops)

order : (i : ℕ) (ops : List Op) → AreInOrder (some.accepted i ops)
unfolding IsStrictlySortedBy
order zero [] = tt
order zero (x ∷ []) = tt
order zero (x ∷ y ∷ earlier) = (tt, tt)
order (suc i) ops = tt

absent : (i : ℕ) (ops : List Op) → 1 ≤ i → changes some i ops ≡ []
absent zero ops le = absurd (let bad : 1 ≤ 0 = omega arith in omega (arith, bad))
absent (suc zero) ops le = pipe_nothing ops
absent (suc (suc i)) ops le = none_else i ops

turned : (b : Bool) → signalled (turn b) b ≡ not b
turned true = refl
turned false = refl

up_even : (ops : List Op) → is_up some 1 ops ≡ even ops
up_even [] = refl
up_even (x ∷ ops) = ap (signalled (turn (even ops))) (up_even ops) ∙ turned (even ops)

fitting : (b : Bool) → Fits (turn b) b
fitting true = refl
fitting false = refl

fits : (i : ℕ) (ops : List Op) (op : Op) → Fits (some.gives i ops op).signal (is_up some i ops)
fits zero [] op = refl
fits zero (x ∷ []) op = tt
fits zero (x ∷ y ∷ earlier) op = tt
fits (suc zero) ops op = subst (Fits (turn (even ops))) (sym (up_even ops)) (fitting (even ops))
fits (suc (suc i)) ops op = tt

apart : (d t : ℕ) → some.target d ≡ Some t → some.reads d ≢ t
apart zero t e = λ z. let a : 1 ≡ t = some_same e in let bad : 1 ≤ 0 = omega (arith, a, z) in omega (arith, bad)
apart (suc zero) t e = λ z. let a : 0 ≡ t = some_same e in let bad : 1 ≤ 0 = omega (arith, a, z) in omega (arith, bad)
apart (suc (suc d)) t e = absurd (none_some e)

reads_own : (c : ℕ) → some.target c ≡ None → some.reads c ≡ some.table (some.owner c)
reads_own zero e = absurd (none_some (sym e))
reads_own (suc zero) e = absurd (none_some (sym e))
reads_own (suc (suc c)) e = refl

-- ---- channels and protocols

or_cases : (a b : Bool) → (a || b) ≡ true → (a ≡ false) → b ≡ true
or_cases true b e f = absurd (let bad : true ≡ false = f in cc)
or_cases false b e f = e

belongs : (i c : ℕ) → among c (some.belong i) ≡ true → some.owner c ≡ i
belongs zero c e = elim (eqb_tells 2 c) [
  | inl w ↦ subst (λ c. some.owner c ≡ 0) w.1 refl
  | inr w ↦ absurd (let bad : false ≡ true = or_cases (2 == c) false e w.0 in cc)
]
belongs (suc zero) c e = elim (eqb_tells 0 c) [
  | inl w ↦ subst (λ c. some.owner c ≡ 1) w.1 refl
  | inr w ↦ elim (eqb_tells 1 c) [
    | inl z ↦ subst (λ c. some.owner c ≡ 1) z.1 refl
    | inr z ↦ absurd (let bad : false ≡ true = or_cases (1 == c) false (or_cases (0 == c) ((1 == c) || false) e w.0) z.0 in cc)
  ]
]
belongs (suc (suc i)) c e = absurd (let bad : false ≡ true = e in cc)

once : (i : ℕ) → AreApart (some.belong i)
once zero = (refl, tt)
once (suc zero) = (refl, (refl, tt))
once (suc (suc i)) = tt

down : (ops : List Op) → is_up some 2 ops ≡ false
down [] = refl
down (x ∷ ops) = down ops

all : (c : ℕ) → among c (some.belong (some.owner c)) ≡ false → (ops : List Op) → is_up some (some.owner c) ops ≡ false
all zero e ops = absurd (let bad : true ≡ false = e in cc)
all (suc zero) e ops = absurd (let bad : true ≡ false = e in cc)
all (suc (suc zero)) e ops = absurd (let bad : true ≡ false = e in cc)
all (suc (suc (suc c))) e ops = down ops

no_more : (c : ℕ) → some.channels ≤ c → (ops : List Op) → is_up some (some.owner c) ops ≡ false
no_more zero le ops = absurd (omega (arith, le))
no_more (suc zero) le ops = absurd (omega (arith, le))
no_more (suc (suc zero)) le ops = absurd (omega (arith, le))
no_more (suc (suc (suc c))) le ops = down ops

pub some_rules : (g : Rules) × IsRules g × (g.hops 1 0 ≡ Some (0 ∷ []))
some_rules = (
  some,
  record {
    same = λ f f2 e. e 0;
    best = best;
    own = own;
    real = real;
    made = made;
    order = order;
    absent = absent;
    fits = fits;
    told = λ i v w e. ap (λ (r : Route). r.attrs) e;
    source = λ i v. refl;
    belongs = belongs;
    once = once;
    all = all;
    no_more = no_more;
    reads_own = reads_own;
    apart = apart;
    ways = are_ways some (omega arith) (λ t i. refl);
  },
  refl,
)
