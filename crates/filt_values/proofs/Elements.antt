-- The tests of plain values answer what the relations of sets and prefixes say.
use Rattle.std.proofs.Common.{◌≡◌, ℕ, ◌==◌, Bool, true, false, nat_le, List, IsTrue, ◌↔◌, refl, sym}
use Rattle.std.specs.List.{Any, list_any}
use Rattle.std.proofs.lemmas.Bool.{and_parts, and_from, leb-true, le-leb, eqb-true}
use Rattle.std.proofs.lemmas.Bool.Decides.{Decides-eqb}
use Rattle.std.proofs.lemmas.List.Folds.{Any-from_list_any, list_any-from_Any}
use Rattle.bits_ip.specs.declared.address.Addr.{Addr}
use Rattle.bits_ip.specs.declared.address.Addr.TheVariants.{V4, V6}
use Rattle.bits_ip.specs.Address.{family_of, family_rank}
use Rattle.bits_ip.specs.Prefix.{Net, Covers}
use Rattle.filt_sets.specs.declared.ints.IntItem.{IntItem}
use Rattle.filt_sets.specs.declared.pairs.PairItem.{PairItem}
use Rattle.filt_sets.specs.declared.prefixes.PrefixItem.{PrefixItem}
use Rattle.filt_sets.specs.declared.mask.MaskItem.{MaskItem}
use Rattle.filt_sets.specs.Sets.{TakesInt, TakesPair, TakesNet}
use Rattle.filt_sets.specs.Mask.{IsCut}
use Rattle.filt_sets.specs.Search.{cuts}
use Rattle.filt_sets.proofs.Cuts.{cuts_decide}
use Rattle.filt_meaning.specs.Members.{takes_int, takes_pair, takes_net, in_ints, in_pairs, in_nets, covers}

-- two tests of one thing
pub same_tests : {P : Type 0} (a b : Bool) → IsTrue a ↔ P → (b ≡ true → P) × (P → b ≡ true) → a ≡ b
same_tests true true h k = refl
same_tests true false h k = sym (k.1 (h.0 refl))
same_tests false true h k = h.1 (k.0 refl)
same_tests false false h k = refl

pub any_decides :
    {X : Type 0} (test : X → Bool) (P : X → Type 0) (xs : List X) → ((x : X) → (test x ≡ true → P x) × (P x → test x ≡ true))
    → (list_any test xs ≡ true → Any P xs) × (Any P xs → list_any test xs ≡ true)
any_decides test P xs decides = (
  λ is. let (k, x, below, at, holds) = Any-from_list_any test xs is in (k, x, below, at, (decides x).0 holds),
  λ some. let (k, x, below, at, holds) = some in list_any-from_Any test xs (k, x, below, at, (decides x).1 holds),
)

pub int_decides : (n : ℕ) (item : IntItem) → (takes_int item n ≡ true → TakesInt item n) × (TakesInt item n → takes_int item n ≡ true)
int_decides n item = (
  λ is. let both = and_parts _ _ is in (leb-true item.lo n both.0, leb-true n item.hi both.1),
  λ takes. and_from _ _ (le-leb item.lo n takes.0) (le-leb n item.hi takes.1),
)

pub pair_decides : (p : ℕ × ℕ) (item : PairItem) → (takes_pair item p ≡ true → TakesPair item p.0 p.1) × (TakesPair item p.0 p.1 → takes_pair item p ≡ true)
pair_decides p item = (
  λ is. let both = and_parts (takes_int item.a p.0) (takes_int item.b p.1) is in ((int_decides p.0 item.a).0 both.0, (int_decides p.1 item.b).0 both.1),
  λ takes. and_from _ _ ((int_decides p.0 item.a).1 takes.0) ((int_decides p.1 item.b).1 takes.1),
)

family_from : (a b : Addr) → (family_rank a == family_rank b) ≡ true → family_of a ≡ family_of b
family_from (V4 m) (V4 n) is = refl
family_from (V6 m) (V6 n) is = refl
family_from (V4 m) (V6 n) is = absurd (cc)
family_from (V6 m) (V4 n) is = absurd (cc)

family_to : (a b : Addr) → family_of a ≡ family_of b → (family_rank a == family_rank b) ≡ true
family_to (V4 m) (V4 n) is = refl
family_to (V6 m) (V6 n) is = refl
family_to (V4 m) (V6 n) is = absurd (cc)
family_to (V6 m) (V4 n) is = absurd (cc)

eq_from : (m n : ℕ) → m ≡ n → (m == n) ≡ true
eq_from m n is = (Decides-eqb m n).1 is

pub net_decides : (net : Net) (item : PrefixItem) → (takes_net item net ≡ true → TakesNet item net) × (TakesNet item net → takes_net item net ≡ true)
net_decides net item = (
  λ is.
      let one = and_parts (family_rank item.net.addr == family_rank net.addr) _ is in
      let two = and_parts (nat_le item.lo net.len) _ one.1 in
      let three = and_parts (nat_le net.len item.hi) _ two.1 in
      record {
        family = family_from item.net.addr net.addr one.0;
        lo = leb-true item.lo net.len two.0;
        hi = leb-true net.len item.hi three.0;
        bits = eqb-true _ _ three.1;
      },
  λ takes.
      and_from _ _ (family_to item.net.addr net.addr takes.family)
      (and_from _ _ (le-leb item.lo net.len takes.lo)
      (and_from _ _ (le-leb net.len item.hi takes.hi) (eq_from _ _ takes.bits))),
)

pub covers_decides : (a b : Net) → (covers a b ≡ true → Covers a b) × (Covers a b → covers a b ≡ true)
covers_decides a b = (
  λ is.
      let one = and_parts (family_rank a.addr == family_rank b.addr) _ is in
      let two = and_parts (nat_le a.len b.len) _ one.1 in
      record { family = family_from a.addr b.addr one.0; len = leb-true a.len b.len two.0; bits = eqb-true _ _ two.1 },
  λ is. and_from _ _ (family_to a.addr b.addr is.family) (and_from _ _ (le-leb a.len b.len is.len) (eq_from _ _ is.bits)),
)

pub in_ints_is : (items : List IntItem) (n : ℕ) (b : Bool) → IsTrue b ↔ Any (λ item. TakesInt item n) items → b ≡ in_ints items n
in_ints_is items n b h = same_tests b (in_ints items n) h (any_decides (λ item. takes_int item n) (λ item. TakesInt item n) items (int_decides n))

pub in_pairs_is : (items : List PairItem) (p : ℕ × ℕ) (b : Bool) → IsTrue b ↔ Any (λ item. TakesPair item p.0 p.1) items → b ≡ in_pairs items p
in_pairs_is items p b h = same_tests b (in_pairs items p) h (any_decides (λ item. takes_pair item p) (λ item. TakesPair item p.0 p.1) items (pair_decides p))

pub in_nets_is : (items : List PrefixItem) (net : Net) (b : Bool) → IsTrue b ↔ Any (λ item. TakesNet item net) items → b ≡ in_nets items net
in_nets_is items net b h = same_tests b (in_nets items net) h (any_decides (λ item. takes_net item net) (λ item. TakesNet item net) items (net_decides net))

pub covers_is : (a b : Net) (answer : Bool) → IsTrue answer ↔ Covers a b → answer ≡ covers a b
covers_is a b answer h = same_tests answer (covers a b) h (covers_decides a b)

pub cuts_is : (items : List MaskItem) (path : List ℕ) (b : Bool) → IsTrue b ↔ IsCut items path → b ≡ cuts items path
cuts_is items path b h = let k = cuts_decide items items path (cuts items path) refl refl in same_tests b (cuts items path) h (k.0, k.1)
