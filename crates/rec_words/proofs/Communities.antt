-- Communities as numbers: none is there twice on one side exactly where none is on the other.
use Rattle.std.proofs.Common.{◌≡◌, ℕ, ◌/◌, ◌%◌, ◌<◌, ◌≤◌, ◌^◌, true, false, ◌==◌, cond, ltb, List, [], ◌∷◌, ◌++◌, length, map, Some, None, refl, sym, ap, subst, ◌∙◌, ⊎_elim, arith}
use Rattle.std.specs.List.{AllByRecursion, IsDistinct, list_any}
use Rattle.std.proofs.lemmas.Bool.{cases_Bool, eqb-true, ltb-false, le-ltb}
use Rattle.std.proofs.lemmas.Bool.Decides.{nat_tests}
use Rattle.std.proofs.lemmas.List.{length-map}
use Rattle.attrs.specs.Clist.{same_pair}
use Rattle.rec_words.specs.Spelling.{number_words, pair_number}
use Rattle.rec_words.specs.Entries.{AreCommunities, IsNumber, IsPair}
use Rattle.rec_words.specs.Reading.{◌>>=◌, all_distinct, coms_at, numbers_at, pair_of}
use Rattle.rec_words.proofs.Takes.{IsWords, bind_some, guard_some, unless_some, some_is, Takes}
use Rattle.rec_words.proofs.Halves.{numbers_again, numbers_takes}

pair_small : (pair : ℕ × ℕ) → IsPair pair → IsNumber (pair_number pair)
pair_small pair is = omega (arith, is.0, is.1)

numbers_small : (pairs : List (ℕ × ℕ)) → AllByRecursion IsPair pairs → AllByRecursion IsNumber (map pair_number pairs)
numbers_small [] are = tt
numbers_small (pair ∷ pairs) are = (pair_small pair are.0, numbers_small pairs are.1)

pair_back : (pair : ℕ × ℕ) → IsPair pair → pair_of (pair_number pair) ≡ pair
pair_back pair is =
    let system : pair_number pair / 65536 ≡ pair.0 = omega (arith, is.1) in
    let value : pair_number pair % 65536 ≡ pair.1 = omega (arith, is.1) in
    λ i. (system i, value i)

pub pairs_back : (pairs : List (ℕ × ℕ)) → AllByRecursion IsPair pairs → map pair_of (map pair_number pairs) ≡ pairs
pairs_back [] are = refl
pairs_back (pair ∷ pairs) are =
    ap (λ (p : ℕ × ℕ). p ∷ map pair_of (map pair_number pairs)) (pair_back pair are.0) ∙ ap (λ (ps : List (ℕ × ℕ)). pair ∷ ps) (pairs_back pairs are.1)

number_back : (n : ℕ) → pair_number (pair_of n) ≡ n
number_back n = omega arith

numbers_back : (ns : List ℕ) → map pair_number (map pair_of ns) ≡ ns
numbers_back [] = refl
numbers_back (n ∷ ns) = ap (λ (m : ℕ). m ∷ map pair_number (map pair_of ns)) (number_back n) ∙ ap (λ (ms : List ℕ). n ∷ ms) (numbers_back ns)

are_pairs : (ns : List ℕ) → AllByRecursion IsNumber ns → AllByRecursion IsPair (map pair_of ns)
are_pairs [] small = tt
are_pairs (n ∷ ns) small =
    let system : n / 65536 < 2 ^ 16 = omega (arith, small.0) in
    let value : n % 65536 < 2 ^ 16 = omega arith in
    ((system, value), are_pairs ns small.1)

-- pairs that aren't the same are different numbers
numbers_apart : (p q : ℕ × ℕ) → IsPair p → IsPair q → same_pair p q ≡ false → (pair_number q == pair_number p) ≡ false
numbers_apart p q first second apart =
    ⊎_elim
    (λ same.
    let one : pair_number q ≡ pair_number p = eqb-true _ _ same in
    let system : p.0 ≡ q.0 = omega (arith, one, first.1, second.1) in
    let value : p.1 ≡ q.1 = omega (arith, one, first.1, second.1) in
    absurd (grind (arith, nat_tests, system, value, apart)))
    (λ other. other)
    (cases_Bool (pair_number q == pair_number p))

pairs_apart : (m n : ℕ) → (n == m) ≡ false → same_pair (pair_of m) (pair_of n) ≡ false
pairs_apart m n apart =
    ⊎_elim
    (λ same.
    let system : m / 65536 ≡ n / 65536 = grind (arith, nat_tests, same) in
    let value : m % 65536 ≡ n % 65536 = grind (arith, nat_tests, same) in
    let one : n ≡ m = omega (arith, system, value) in
    absurd (grind (arith, nat_tests, one, apart)))
    (λ other. other)
    (cases_Bool (same_pair (pair_of m) (pair_of n)))

none_again : (p : ℕ × ℕ) (pairs : List (ℕ × ℕ)) → IsPair p → AllByRecursion IsPair pairs → AllByRecursion (λ q. same_pair p q ≡ false) pairs → list_any (λ n. n == pair_number p) (map pair_number pairs) ≡ false
none_again p [] is are apart = refl
none_again p (q ∷ pairs) is are apart = rw (numbers_apart p q is are.0 apart.0) (none_again p pairs is are.1 apart.1)

distinct_again : (pairs : List (ℕ × ℕ)) → AllByRecursion IsPair pairs → IsDistinct same_pair pairs → all_distinct (map pair_number pairs) ≡ true
unfolding IsDistinct
distinct_again [] are distinct = refl
distinct_again (p ∷ pairs) are distinct = rw (none_again p pairs are.0 are.1 distinct.0) (distinct_again pairs are.1 distinct.1)

none_takes : (m : ℕ) (ns : List ℕ) → list_any (λ n. n == m) ns ≡ false → AllByRecursion (λ q. same_pair (pair_of m) q ≡ false) (map pair_of ns)
none_takes m [] none = tt
none_takes m (n ∷ ns) none =
    ⊎_elim
    (λ same. let no : true ≡ false = rw same at none in absurd cc)
    (λ other. (pairs_apart m n other, none_takes m ns (rw other at none)))
    (cases_Bool (n == m))

distinct_takes : (ns : List ℕ) → all_distinct ns ≡ true → IsDistinct same_pair (map pair_of ns)
unfolding IsDistinct
distinct_takes [] distinct = tt
distinct_takes (n ∷ ns) distinct =
    ⊎_elim
    (λ there. let no : false ≡ true = rw there at distinct in absurd cc)
    (λ none. (none_takes n ns none, distinct_takes ns (rw none at distinct)))
    (cases_Bool (list_any (λ m. m == n) ns))

pub coms_again : (pairs : List (ℕ × ℕ)) (rest : List ℕ) → AreCommunities pairs → coms_at (length pairs) (number_words (map pair_number pairs) ++ rest) ≡ Some (map pair_number pairs, rest)
unfolding coms_at
coms_again pairs rest are =
    let few : ltb 64 (length pairs) ≡ false = le-ltb _ _ are.list.short in
    let read : numbers_at (length pairs) (number_words (map pair_number pairs) ++ rest) ≡ Some (map pair_number pairs, rest) =
    subst (λ (n : ℕ). numbers_at n (number_words (map pair_number pairs) ++ rest) ≡ Some (map pair_number pairs, rest)) (length-map pairs pair_number) (numbers_again (map pair_number pairs) rest (numbers_small pairs are.pairs)) in
    rw (few, read, distinct_again pairs are.pairs are.list.distinct) refl

pub record AreTaken (count : ℕ) (ns : List ℕ) : Type 0 where
  pub many : length (map pair_of ns) ≡ count
  pub are : AreCommunities (map pair_of ns)

pub coms_takes : (count : ℕ) (ws ns rest : List ℕ) → IsWords ws → coms_at count ws ≡ Some (ns, rest) → Takes ws (number_words (map pair_number (map pair_of ns))) rest × AreTaken count ns
unfolding coms_at
coms_takes count ws ns rest fits e =
    let g = unless_some (ltb 64 count) (numbers_at count ws >>= λ coms. cond (all_distinct coms.0) (Some coms) None) (ns, rest) e in
    let b = bind_some (numbers_at count ws) (λ coms. cond (all_distinct coms.0) (Some coms) None) (ns, rest) g.1 in
    let d = guard_some (all_distinct b.0.0) (Some b.0) (ns, rest) b.2 in
    let same : b.0 ≡ (ns, rest) = some_is b.0 (ns, rest) d.1 in
    let read : numbers_at count ws ≡ Some (ns, rest) = b.1 ∙ ap (λ (x : List ℕ × List ℕ). Some x) same in
    let t = numbers_takes count ws ns rest fits read in
    let distinct : all_distinct ns ≡ true = ap (λ (x : List ℕ × List ℕ). all_distinct x.0) (sym same) ∙ d.0 in
    let many : length (map pair_of ns) ≡ count = length-map ns pair_of ∙ t.1.many in
    let short : length (map pair_of ns) ≤ 64 = omega (arith, many, ltb-false _ _ g.0) in
    (rw (numbers_back ns) t.0, record { many = many; are = record { list = record { short = short; distinct = distinct_takes ns distinct }; pairs = are_pairs ns t.1.fit } })
