-- Heads that are raised, and what stays below them.
use Rattle.std.proofs.Common.{◌≡◌, ◌+◌, ◌<◌, ◌≤◌, ℕ, inl, inr, List, [], ◌∷◌, ◌++◌, get_or, length, set, take, refl, sym, ap, subst, ◌∙◌, arith}
use Rattle.std.proofs.lemmas.List.{take_more}
use Rattle.std.proofs.lemmas.Option.{slice_get_read}
use Rattle.core_setup.proofs.Numbered.{all_append, all_at}
use Rattle.std.specs.List.{AllByRecursion}
use Rattle.core_setup.proofs.PairLemmas.{cases_same, get-set, get-set_other, length-set_at}
use Rattle.phase_close.proofs.Over.{all_weaker}
use Rattle.pipe_rest.specs.Heads.{IsBelow, head_at, head_in}
use Rattle.pipe_rest.specs.Inside.{Raises}
use Rattle.pipe_rest.specs.declared.member.MemberLeft.{MemberLeft}
use Rattle.pipe_rest.specs.declared.member.MemberLeft.TheVariants.{Own, Pipe}

-- the head of one table is raised
module _ (heads : List ℕ) (k v : ℕ) (inside : k < length heads) where
  pub set_here : head_at (set heads k v) k ≡ v
  set_here = ap head_in (get-set heads k v inside)

  pub set_raises : head_at heads k ≤ v → Raises heads (set heads k v)
  set_raises more = record {
    count = length-set_at heads k v;
    least = λ t. elim (cases_same t k) [
      | inl e ↦ let now = set_here in subst (λ j. head_at heads j ≤ head_at (set heads k v) j) (sym e) (omega (arith, now, more))
      | inr n ↦ let same = ap head_in (get-set_other heads k t v n) in omega (arith, same)
    ];
  }

pub raises_then : (a b c : List ℕ) → Raises a b → Raises b c → Raises a c
raises_then a b c first then = record {
  count = then.count ∙ first.count;
  least = λ t. (let one = first.least t in let two = then.least t in omega (arith, one, two));
}

pub higher : (a b : List ℕ) (n t : ℕ) → Raises a b → n ≤ head_at a t → n ≤ head_at b t
higher a b n t raised low = let more = raised.least t in omega (arith, low, more)

module _ {J : Type 0} (a b : List ℕ) (raised : Raises a b) where
  pub below_on : (m : MemberLeft J) → IsBelow a m → IsBelow b m
  below_on (Own s) low = higher a b _ s.table raised low
  below_on (Pipe p) low = (higher a b _ p.peer raised low.0, higher a b _ p.primary raised low.1)

  pub all_below_on : (ms : List (MemberLeft J)) → AllByRecursion (IsBelow a) ms → AllByRecursion (IsBelow b) ms
  all_below_on ms low = all_weaker (IsBelow a) (IsBelow b) below_on ms low

-- ---- a loop over all

pub all_taken : {X : Type 0} (P : X → Type 0) (xs : List X) (i : ℕ) (x : X) → i < length xs → x ≡ get_or xs i x → AllByRecursion P (take i xs) → P x → AllByRecursion P (take (i + 1) xs)
all_taken P xs i x inside is all p =
    subst (AllByRecursion P) (sym (take_more xs i x inside ∙ ap (λ y. take i xs ++ y ∷ []) (sym is))) (all_append P (take i xs) (x ∷ []) all (p, tt))

pub all_there : {X : Type 0} (P : X → Type 0) (xs : List X) (i : ℕ) (x : X) → i < length xs → x ≡ get_or xs i x → AllByRecursion P xs → P x
all_there P xs i x inside is all = all_at P xs i x all (slice_get_read xs (length xs) i x refl inside is)
