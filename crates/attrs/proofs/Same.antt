-- `==` on attributes and routes answers whether they are the same.
use Rattle.std.proofs.Common.{◌≡◌, ◌≢◌, ◌⊎◌, inl, inr, Bool, true, false, Option, Some, None, refl, ap, rules, ◌==◌}
use Rattle.std.specs.Bool.{Decides}
use Rattle.std.specs.Option.{option_eq}
use Rattle.std.specs.Cmp.Lexicographic.{pointwise}
use Rattle.std.proofs.lemmas.Bool.Decides.{Decides-eqb, Decides-and, Decides-like}
use Rattle.std.proofs.lemmas.Bool.{false≢true}
use Rattle.std.proofs.lemmas.Slice.Eq.{slice_eq-Decides}
use denote.Enum.Bare.{sameb, same_true, true_same}
use mathlib.Core.Bool.{beq}
use Rattle.bits_ip.specs.declared.address.Addr.{Addr}
use Rattle.bits_ip.specs.declared.address.Addr.TheVariants.{V4, V6}
use Rattle.bits_ip.specs.contracts.address.AddrPartialEq.TheImpl as addr
use Rattle.attrs.specs.Clist.{same_pair}
use Rattle.attrs.specs.declared.attributes.Attrs.{Attrs}
use Rattle.attrs.specs.declared.route.Src.{Src}
use Rattle.attrs.specs.declared.route.Route.{Route}
use Rattle.attrs.specs.contracts.attributes.Origin as origin_of
use Rattle.attrs.specs.contracts.attributes.Dest as dest_of
use Rattle.attrs.specs.contracts.attributes.Kind as kind_of
use Rattle.attrs.specs.contracts.attributes.AttrsPartialEq.TheImpl as attrs
use Rattle.attrs.specs.contracts.route.SrcPartialEq.TheImpl as src
use Rattle.attrs.specs.contracts.route.RoutePartialEq.TheImpl as route

-- the test answers whether two values are the same
record IsExact {X : Type 0} (E : X → X → Bool) : Type 0 where
  decides : (a b : X) → Decides (E a b) (a ≡ b)

number_exact : IsExact ◌==◌
number_exact = record { decides = Decides-eqb }

bool_decides : (a b : Bool) → Decides (beq a b) (a ≡ b)
bool_decides true true = (λ _. refl, λ _. refl)
bool_decides false false = (λ _. refl, λ _. refl)
bool_decides true false = (λ h. cc, λ h. cc)
bool_decides false true = (λ h. cc, λ h. cc)

bool_exact : IsExact beq
bool_exact = record { decides = bool_decides }

option_decides : {X : Type 0} {E : X → X → Bool} → IsExact E → (a b : Option X) → Decides (option_eq E a b) (a ≡ b)
option_decides e None None = (λ _. refl, λ _. refl)
option_decides e None (Some y) = (λ h. cc, λ h. cc)
option_decides e (Some x) None = (λ h. cc, λ h. cc)
option_decides e (Some x) (Some y) = Decides-like _ (λ h. ap Some h) (λ h. cc) (e.decides x y)

option_exact : {X : Type 0} {E : X → X → Bool} → IsExact E → IsExact (option_eq E)
option_exact e = record { decides = option_decides e }

list_exact : {X : Type 0} {E : X → X → Bool} → IsExact E → IsExact (pointwise E)
list_exact {X} {E} e = record { decides = λ xs ys. slice_eq-Decides e.decides xs ys (pointwise E xs ys) refl }

pair_exact : IsExact same_pair
pair_exact = record { decides = λ p q. Decides-like _ (λ h. λ i. (h.0 i, h.1 i)) (λ h. (ap (λ r. r.0) h, ap (λ r. r.1) h)) (Decides-and (p.0 == q.0) (p.1 == q.1) (Decides-eqb p.0 q.0) (Decides-eqb p.1 q.1)) }

kind_exact : IsExact (sameb kind_of.the_type)
kind_exact = record { decides = λ a b. (same_true kind_of.the_type (search rules) a b, true_same kind_of.the_type a b) }

dest_exact : IsExact (sameb dest_of.the_type)
dest_exact = record { decides = λ a b. (same_true dest_of.the_type (search rules) a b, true_same dest_of.the_type a b) }

origin_exact : IsExact (sameb origin_of.the_type)
origin_exact = record { decides = λ a b. (same_true origin_of.the_type (search rules) a b, true_same origin_of.the_type a b) }

addr_decides : (a b : Addr) → Decides ((addr.ghosts).eq a b) (a ≡ b)
addr_decides (V4 m) (V4 n) = Decides-like _ (λ h. ap V4 h) (λ h. cc) (Decides-eqb m n)
addr_decides (V6 m) (V6 n) = Decides-like _ (λ h. ap V6 h) (λ h. cc) (Decides-eqb m n)
addr_decides (V4 m) (V6 n) = (λ h. cc, λ h. cc)
addr_decides (V6 m) (V4 n) = (λ h. cc, λ h. cc)

addr_exact : IsExact (addr.ghosts).eq
addr_exact = record { decides = addr_decides }

src_decides : (a b : Src) → Decides ((src.ghosts).eq a b) (a ≡ b)
src_decides a b =
    Decides-like _
    (λ h. λ i. record { num = h.0 i; def_med = h.1.0 i; def_lp = h.1.1 i })
    (λ h. (ap (λ s. s.num) h, (ap (λ s. s.def_med) h, ap (λ s. s.def_lp) h)))
    (Decides-and _ _ (Decides-eqb a.num b.num) (Decides-and _ _ (Decides-eqb a.def_med b.def_med) (Decides-eqb a.def_lp b.def_lp)))

pub attrs_decides : (a b : Attrs) → Decides ((attrs.ghosts).eq a b) (a ≡ b)
attrs_decides a b =
    Decides-like _
    (λ h. λ i. record { pref = h.0 i; kind = h.1.0 i; dest = h.1.1.0 i; gw = h.1.1.1.0 i; sender = h.1.1.1.1.0 i; peer_id = h.1.1.1.1.1.0 i; ebgp = h.1.1.1.1.1.1.0 i; path = h.1.1.1.1.1.1.1.0 i; origin = h.1.1.1.1.1.1.1.1.0 i; next_hop = h.1.1.1.1.1.1.1.1.1.0 i; med = h.1.1.1.1.1.1.1.1.1.1.0 i; lp = h.1.1.1.1.1.1.1.1.1.1.1.0 i; igp = h.1.1.1.1.1.1.1.1.1.1.1.1.0 i; coms = h.1.1.1.1.1.1.1.1.1.1.1.1.1 i })
    (λ h. (ap (λ r. r.pref) h, (ap (λ r. r.kind) h, (ap (λ r. r.dest) h, (ap (λ r. r.gw) h, (ap (λ r. r.sender) h, (ap (λ r. r.peer_id) h, (ap (λ r. r.ebgp) h, (ap (λ r. r.path) h, (ap (λ r. r.origin) h, (ap (λ r. r.next_hop) h, (ap (λ r. r.med) h, (ap (λ r. r.lp) h, (ap (λ r. r.igp) h, ap (λ r. r.coms) h))))))))))))))
    (Decides-and _ _ (number_exact.decides a.pref b.pref)
    (Decides-and _ _ (kind_exact.decides a.kind b.kind)
    (Decides-and _ _ (dest_exact.decides a.dest b.dest)
    (Decides-and _ _ ((option_exact addr_exact).decides a.gw b.gw)
    (Decides-and _ _ ((option_exact addr_exact).decides a.sender b.sender)
    (Decides-and _ _ (number_exact.decides a.peer_id b.peer_id)
    (Decides-and _ _ (bool_exact.decides a.ebgp b.ebgp)
    (Decides-and _ _ ((list_exact number_exact).decides a.path b.path)
    (Decides-and _ _ ((option_exact origin_exact).decides a.origin b.origin)
    (Decides-and _ _ ((option_exact addr_exact).decides a.next_hop b.next_hop)
    (Decides-and _ _ ((option_exact number_exact).decides a.med b.med)
    (Decides-and _ _ ((option_exact number_exact).decides a.lp b.lp)
    (Decides-and _ _ ((option_exact number_exact).decides a.igp b.igp)
    ((list_exact pair_exact).decides a.coms b.coms))))))))))))))

pub route_decides : (a b : Route) → Decides ((route.ghosts).eq a b) (a ≡ b)
route_decides a b =
    Decides-like _
    (λ h. λ i. record { src = h.0 i; attrs = h.1 i })
    (λ h. (ap (λ r. r.src) h, ap (λ r. r.attrs) h))
    (Decides-and _ _ (src_decides a.src b.src) (attrs_decides a.attrs b.attrs))

from_test : {P : Type 0} → (t : Bool) → Decides t P → P ⊎ (P → ⊥)
from_test true d = inl (d.0 refl)
from_test false d = inr (λ h. absurd (false≢true (d.1 h)))

pub same_or_not : (a b : Route) → (a ≡ b) ⊎ (a ≢ b)
same_or_not a b = from_test ((route.ghosts).eq a b) (route_decides a b)

pub route_option_decides : (a b : Option Route) → Decides (option_eq (route.ghosts).eq a b) (a ≡ b)
route_option_decides = option_decides (record { decides = route_decides })
