-- The test of covering answers what the relation says.
use Rattle.std.proofs.Common.{◌≡◌, ◌==◌, Bool, true, false, nat_le, IsTrue, ◌↔◌, refl, sym}
use Rattle.std.proofs.lemmas.Bool.{and_parts, and_from, leb-true, le-leb, eqb-true, eq-eqb}
use Rattle.bits_ip.specs.declared.address.Addr.{Addr}
use Rattle.bits_ip.specs.declared.address.Addr.TheVariants.{V4, V6}
use Rattle.bits_ip.specs.Address.{family_of, family_rank}
use Rattle.bits_ip.specs.Prefix.{Net, Covers}
use Rattle.attrs.specs.Select.{covers}

family_from : (a b : Addr) → (family_rank a == family_rank b) ≡ true → family_of a ≡ family_of b
family_from (V4 m) (V4 n) is = refl
family_from (V6 m) (V6 n) is = refl
family_from (V4 m) (V6 n) is = absurd (cc)
family_from (V6 m) (V4 n) is = absurd (cc)

family_to : (a b : Addr) → family_of a ≡ family_of b → (family_rank a == family_rank b) ≡ true
family_to (V4 m) (V4 n) is = refl
family_to (V6 m) (V6 n) is = refl
family_to (V4 m) (V6 n) is = absurd (cc)
family_to (V6 m) (V4 n) is = absurd (cc)

pub covers_tells : (a b : Net) → (IsTrue (covers a b) → Covers a b) × (Covers a b → IsTrue (covers a b))
covers_tells a b = (
  λ is.
      let family = and_parts (family_rank a.addr == family_rank b.addr) _ is in
      let rest = and_parts (nat_le a.len b.len) _ family.1 in
      record { family = family_from a.addr b.addr family.0; len = leb-true a.len b.len rest.0; bits = eqb-true _ _ rest.1 },
  λ over. and_from _ _ (family_to a.addr b.addr over.family) (and_from _ _ (le-leb a.len b.len over.len) (eq-eqb _ _ over.bits)),
)

-- two tests of one thing
pub same_tests : {P : Type 0} (a b : Bool) → IsTrue a ↔ P → IsTrue b ↔ P → a ≡ b
same_tests true true h k = refl
same_tests true false h k = sym (k.1 (h.0 refl))
same_tests false true h k = h.1 (k.0 refl)
same_tests false false h k = refl

pub covers_is : (a b : Net) (answer : Bool) → IsTrue answer ↔ Covers a b → answer ≡ covers a b
covers_is a b answer h = same_tests answer (covers a b) h (covers_tells a b)
