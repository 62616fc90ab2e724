-- The order of nets.
use Rattle.std.proofs.Common.{◌≡◌, ℕ, true, false, ◌⊎◌, inl, inr, ⊎_elim, refl, sym, ◌∙◌, ap, Ordering, Less, Equal, Greater, arith, rules}
use Rattle.std.specs.Ordering.{is_lt, ordering_reverse}
use Rattle.std.specs.Cmp.{IsTotalOrder}
use Rattle.std.specs.Cmp.Rules.{comparing}
use Rattle.std.proofs.lemmas.Bool.{and_parts, eqb-true, false≢true, cases_Bool}
use Rattle.std.proofs.lemmas.Bool.Decides.{nat_tests}
use Rattle.bits_ip.specs.declared.address.Addr.{Addr}
use Rattle.bits_ip.specs.declared.address.Addr.TheVariants.{V4, V6}
use Rattle.bits_ip.specs.Prefix.{Net, net_cmp, precedes, same_addr, same_net}

addr_itself : (a : Addr) → same_addr a a ≡ true
addr_itself (V4 n) = grind (arith, nat_tests)
addr_itself (V6 n) = grind (arith, nat_tests)

pub same_net_itself : (a : Net) → same_net a a ≡ true
same_net_itself a = let h = addr_itself a.addr in grind (arith, nat_tests)

addr_same : (a b : Addr) → same_addr a b ≡ true → a ≡ b
addr_same (V4 m) (V4 n) h = ap V4 (eqb-true m n h)
addr_same (V6 m) (V6 n) h = ap V6 (eqb-true m n h)
addr_same (V4 m) (V6 n) h = absurd (false≢true h)
addr_same (V6 m) (V4 n) h = absurd (false≢true h)

pub same_net_is : (a b : Net) → same_net a b ≡ true → a ≡ b
same_net_is a b h =
    let parts = and_parts _ _ h in
    let e : a.addr ≡ b.addr = addr_same a.addr b.addr parts.0 in
    let f : a.len ≡ b.len = eqb-true a.len b.len parts.1 in
    λ i. record { addr = e i; len = f i }

net_total : IsTotalOrder net_cmp
net_total = search (comparing, rules)

pub precedes_chain : (a b c : Net) → precedes a b ≡ true → precedes b c ≡ true → precedes a c ≡ true
precedes_chain a b c h k = grind (arith, nat_tests)

precedes_itself : (a : Net) → precedes a a ≡ false
precedes_itself a = grind (arith, nat_tests)

pub precedes_other : (a b : Net) → precedes a b ≡ true → same_net a b ≡ false
precedes_other a b h =
    ⊎_elim
    (λ e. absurd (false≢true (sym (precedes_itself a) ∙ ap (λ n. precedes a n) (same_net_is a b e) ∙ h)))
    (λ e. e)
    (cases_Bool (same_net a b))

abbrev net_of : Addr → ℕ → Net
net_of addr len = record { addr = addr; len = len }

equal_parts : (x y : Addr) (m n : ℕ) → net_cmp (net_of x m) (net_of y n) ≡ Equal → same_net (net_of x m) (net_of y n) ≡ true
equal_parts (V4 x) (V4 y) m n h = grind (arith, nat_tests)
equal_parts (V6 x) (V6 y) m n h = grind (arith, nat_tests)
equal_parts (V4 x) (V6 y) m n h = cc
equal_parts (V6 x) (V4 y) m n h = cc

by_order :
    (a b : Net) (o : Ordering) → net_cmp a b ≡ o → (a ≡ b) ⊎ ((precedes a b ≡ true) ⊎ (precedes b a ≡ true))
by_order a b Less e = inr (inl (ap is_lt e))
by_order a b Equal e = inl (same_net_is a b (equal_parts a.addr b.addr a.len b.len e))
by_order a b Greater e = inr (inr (ap is_lt (net_total.antisymm b a ∙ ap ordering_reverse e)))

-- two nets are one, or one of them precedes the other
pub net_cases : (a b : Net) → (a ≡ b) ⊎ ((precedes a b ≡ true) ⊎ (precedes b a ≡ true))
net_cases a b = by_order a b (net_cmp a b) refl
