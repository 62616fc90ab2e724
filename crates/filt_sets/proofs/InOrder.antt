-- A binary search over items finds one that takes the element where there is one.
use Rattle.std.proofs.Common.{◌≡◌, ℕ, ◌<◌, ◌≤◌, ◌+◌, ◌↔◌, ⊎_elim, IsTrue, List, [], ◌∷◌, length, get_or, All, Result, Ok, Err, refl, sym, ap, ◌∙◌, subst, arith}
use Rattle.std.specs.Prelude.{Any}
use Rattle.std.specs.List.Sorted.{IsBinarySearchResult, IsNonDecreasingBy, IsSearchInRange}
use Rattle.std.specs.Ordering.{ordering_index}
use Rattle.std.specs.Result.{is_ok}
use Rattle.std.specs.declared.cmp.Ordering.{Ordering}
use Rattle.std.specs.declared.cmp.Ordering.TheVariants.{Less, Equal, Greater}
use Rattle.std.proofs.lemmas.Bool.{cases_lt}
use Rattle.std.proofs.lemmas.Bool.Decides.{nat_tests}
use Rattle.std.proofs.lemmas.Cmp.{tied_itself}
use Rattle.std.proofs.lemmas.List.Elements.{Contains-get_or}
use Rattle.std.proofs.lemmas.List.Sorted.{IsNonDecreasingBy-from_all_adjacent, searchable_from_sorted}
use Rattle.bits_ip.specs.Prefix.{Net, IsPrefix, net_cmp}
use Rattle.bits_ip.proofs.Nets.{net_cmp_equal, net_cmp_total}
use Rattle.filt_sets.specs.declared.ints.IntItem.{IntItem}
use Rattle.filt_sets.specs.declared.prefixes.PrefixItem.{PrefixItem}
use Rattle.filt_sets.specs.Search.{AreApart, AreExact, IsExact, side_of}
use Rattle.filt_sets.specs.Sets.{TakesInt, TakesNet}
use Rattle.filt_sets.proofs.Meaning.{exact_item_takes_one}

any_at : {X : Type 0} (Takes : X → Type 0) (xs : List X) (i : ℕ) (d : X) → i < length xs → Takes (get_or xs i d) → Any Takes xs
any_at Takes xs i d h t = let (k, within, is) = Contains-get_or xs i d h in (k, get_or xs i d, within, is, t)

pub found_in_order :
    {X : Type 0} (Takes : X → Type 0) (ord : X → Ordering) (xs : List X) (r : Result ℕ ℕ) → All (λ x. (ord x ≡ Equal) ↔ Takes x) xs → IsNonDecreasingBy (λ x. ordering_index (ord x)) xs
    → IsSearchInRange r (length xs) → IsBinarySearchResult ord xs r → IsTrue (is_ok r) ↔ Any Takes xs
found_in_order Takes ord [] (Ok i) each rises within found = absurd (omega (arith, within))
found_in_order Takes ord (d ∷ xs) (Ok i) each rises within found =
    (λ _. any_at Takes (d ∷ xs) i d within ((each i d within).0 (found d)), λ _. refl)
found_in_order Takes ord xs (Err i) each rises within found = (
  λ e. absurd (cc),
  λ any.
      let (k, x, inside, is, takes) = any in
      let parts = found rises in
      let equal : ord (get_or xs k x) ≡ Equal = (each k x inside).1 (subst Takes (sym is) takes) in
      ⊎_elim
      (λ low. let less : ord (get_or xs k x) ≡ Less = parts.0 k x (omega arith) low in absurd (cc))
      (λ high. let more : ord (get_or xs k x) ≡ Greater = parts.1 k x high inside in absurd (cc))
      (cases_lt k i),
)

side_equal : (n : ℕ) (item : IntItem) → item.lo ≤ item.hi → (side_of n item ≡ Equal) ↔ TakesInt item n
side_equal n item filled = grind (arith, nat_tests)

sides_rise : (n : ℕ) (a b : IntItem) → a.lo ≤ a.hi → b.lo ≤ b.hi → a.hi < b.lo → ordering_index (side_of n a) ≤ ordering_index (side_of n b)
sides_rise n a b one other apart = grind (arith, nat_tests)

pub ints_in_order : (items : List IntItem) (n : ℕ) (r : Result ℕ ℕ) → AreApart items → IsSearchInRange r (length items) → IsBinarySearchResult (side_of n) items r
    → IsTrue (is_ok r) ↔ Any (λ item. TakesInt item n) items
ints_in_order items n r apart =
    found_in_order (λ item. TakesInt item n) (side_of n) items r
    (λ k d h. side_equal n (get_or items k d) (apart.filled k d h))
    (IsNonDecreasingBy-from_all_adjacent (λ item. ordering_index (side_of n item)) items
    (λ k d h. sides_rise n (get_or items k d) (get_or items (k + 1) d) (apart.filled k d (omega arith)) (apart.filled (k + 1) d h) (apart.rising k d h)))

same_net : (item : PrefixItem) (net : Net) → IsExact item → IsPrefix net.addr net.len → (net_cmp item.net net ≡ Equal) ↔ TakesNet item net
same_net item net exact is =
    let one = exact_item_takes_one item net exact.prefix is exact.lo exact.hi in
    (λ e. one.1 (sym (net_cmp_equal item.net net e)), λ takes. ap (net_cmp item.net) (one.0 takes) ∙ tied_itself net_cmp_total item.net)

pub nets_in_order : (items : List PrefixItem) (net : Net) (r : Result ℕ ℕ) → AreExact items → IsPrefix net.addr net.len → IsSearchInRange r (length items)
    → IsBinarySearchResult (λ (item : PrefixItem). net_cmp item.net net) items r → IsTrue (is_ok r) ↔ Any (λ item. TakesNet item net) items
nets_in_order items net r exact is =
    found_in_order (λ item. TakesNet item net) (λ item. net_cmp item.net net) items r
    (λ k d h. same_net (get_or items k d) net (exact.each k d h) is)
    (searchable_from_sorted net_cmp_total (λ (item : PrefixItem). item.net) items net exact.rising)
