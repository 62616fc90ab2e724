-- The first place of a name, and one name more.
use Rattle.std.proofs.Common.{◌≡◌, ◌∙◌, sym, ap, refl, ℕ, ◌+◌, ◌<◌, ◌≤◌, Bool, true, false, cond, true≢false, List, [], ◌∷◌, ◌++◌, length, length-append, arith, inl, inr, Option, Some, None, is_some, nat_eq, nat_lt, not}
use Rattle.std.specs.List.{position, position_or_len, prefix_len}
use Rattle.std.specs.Map.{lookup}
use Rattle.std.specs.Str.{bytes_eq}
use Rattle.std.specs.Cmp.Lexicographic.{pointwise}
use Rattle.std.proofs.lemmas.Bool.{cases_Bool}
use Rattle.std.proofs.lemmas.Bool.Decides.{nat_tests}
use Rattle.std.proofs.lemmas.List.Folds.{position_or_len_push}
use Rattle.std.proofs.lemmas.Slice.Eq.{bytes_eq-Decides}
use Rattle.indexmap.specs.IndexMap.{insert_entry}
use Rattle.indexmap.proofs.MapLemmas.{absent_from_lookup, insert_entry-absent}
use Rattle.script_lines.specs.NamePlaces.{ArePlaces, Key, Notes, is_key}

abbrev or_else : Option ℕ → Option ℕ → Option ℕ
or_else (Some i) other = Some i
or_else None other = other

abbrev one_place : Bool → ℕ → Option ℕ
one_place b i = cond b (Some i) None

by_test : (b : Bool) (i : ℕ) (o p q : Option ℕ) → o ≡ or_else p q → cond b (Some i) o ≡ or_else (cond b (Some i) p) q
by_test true i o p q is = refl
by_test false i o p q is = is

lookup_push : (t : Key → Bool) (es : List (Key × ℕ)) (k : Key) (n : ℕ) → lookup t (es ++ (k, n) ∷ []) ≡ or_else (lookup t es) (one_place (t k) n)
lookup_push t [] k n = refl
lookup_push t (e ∷ es) k n = by_test (t e.0) e.1 (lookup t (es ++ (k, n) ∷ [])) (lookup t es) (one_place (t k) n) (lookup_push t es k n)

-- ---- the first place in a list with one item more

run_most : {X : Type 0} (q : X → Bool) (xs : List X) → prefix_len q xs ≤ length xs
run_most q [] = omega arith
run_most q (x ∷ xs) = elim (q x) as (λ (b : Bool). cond b (1 + prefix_len q xs) 0 ≤ length (x ∷ xs)) [
  | true ↦ omega (arith, run_most q xs)
  | false ↦ omega arith
]

less_no : (a b : ℕ) → nat_lt a b ≡ false → b ≤ a
less_no a b is = grind (arith, nat_tests)

less_yes : (a b : ℕ) → a < b → nat_lt a b ≡ true
less_yes a b is = grind (arith, nat_tests)

less_not : (a b : ℕ) → b ≤ a → nat_lt a b ≡ false
less_not a b is = grind (arith, nat_tests)

less_apart : (a b : ℕ) → nat_lt a b ≡ true → nat_eq a b ≡ false
less_apart a b is = grind (arith, nat_tests)

less_more : (a b c : ℕ) → nat_lt a b ≡ true → c ≡ b + 1 → nat_lt a c ≡ true
less_more a b c is more = grind (arith, nat_tests)

same_yes : (a b : ℕ) → a ≡ b → nat_eq a b ≡ true
same_yes a b is = grind (arith, nat_tests)

-- where the place is i, of n items and one more, and so long is the run before it behind that
placed : (i n j m : ℕ) (last : Bool) → i ≤ n → m ≡ n + 1 → j ≡ cond (nat_eq i n) (n + cond last 0 1) i
    → one_place (nat_lt j m) j ≡ or_else (one_place (nat_lt i n) i) (one_place last n)
placed i n j m last most more is = elim (cases_Bool (nat_lt i n)) [
  | inl below ↦
      let stays : j ≡ i = is ∙ ap (λ (b : Bool). cond b (n + cond last 0 1) i) (less_apart i n below) in
      ap (λ (k : ℕ). one_place (nat_lt k m) k) stays ∙ ap (λ (b : Bool). one_place b i) (less_more i n m below more)
      ∙ sym (ap (λ (b : Bool). or_else (one_place b i) (one_place last n)) below)
  | inr past ↦
      let whole : i ≡ n = omega (arith, most, less_no i n past) in
      let behind : j ≡ n + cond last 0 1 = is ∙ ap (λ (b : Bool). cond b (n + cond last 0 1) i) (same_yes i n whole) in
      ap (λ (k : ℕ). one_place (nat_lt k m) k) behind ∙ at_end n m last more ∙ sym (ap (λ (b : Bool). or_else (one_place b i) (one_place last n)) past)
]
  where
    at_end : (n m : ℕ) (last : Bool) → m ≡ n + 1 → one_place (nat_lt (n + cond last 0 1) m) (n + cond last 0 1) ≡ one_place last n
    at_end n m true more = ap (λ (b : Bool). one_place b (n + 0)) (less_yes (n + 0) m (omega (arith, more))) ∙ ap (λ (k : ℕ). Some k) (omega arith)
    at_end n m false more = ap (λ (b : Bool). one_place b (n + 1)) (less_not (n + 1) m (omega (arith, more)))

position_push : {X : Type 0} (p : X → Bool) (xs : List X) (y : X) → position p (xs ++ y ∷ []) ≡ or_else (position p xs) (one_place (p y) (length xs))
position_push p xs y =
    placed (position_or_len p xs) (length xs) (position_or_len p (xs ++ y ∷ [])) (length (xs ++ y ∷ [])) (p y) (run_most (λ x. not (p x)) xs)
    (omega (arith, length-append xs (y ∷ []))) (position_or_len_push p xs y)

-- ---- names

same_truth : (b c : Bool) → (b ≡ true → c ≡ true) → (c ≡ true → b ≡ true) → b ≡ c
same_truth true c p q = sym (p refl)
same_truth false true p q = q refl
same_truth false false p q = refl

flip : (a b : List ℕ) → bytes_eq a b ≡ bytes_eq b a
flip a b = same_truth (bytes_eq a b) (bytes_eq b a) (λ e. (bytes_eq-Decides b a).1 (sym ((bytes_eq-Decides a b).0 e))) (λ e. (bytes_eq-Decides a b).1 (sym ((bytes_eq-Decides b a).0 e)))

-- a name that had no place has the next one
pub noted_new : (name : List ℕ) (place : ℕ) (key : Key) (old new : List (Key × ℕ)) → key.items ≡ name → lookup (is_key name) old ≡ None → new ≡ insert_entry (λ (a b : Key). pointwise nat_eq a.items b.items) old key place → Notes name place old new
noted_new name place key old new key_is none is names number are asked =
    let p : List ℕ → Bool = λ other. bytes_eq other asked in
    let absent : lookup (is_key key.items) old ≡ None = ap (λ (n : List ℕ). lookup (is_key n) old) key_is ∙ none in
    let joined : new ≡ old ++ (key, place) ∷ [] = is ∙ insert_entry-absent (λ (a b : Key). pointwise nat_eq a.items b.items) key place old (absent_from_lookup (is_key key.items) old absent) in
    ap (λ (l : List (Key × ℕ)). lookup (is_key asked) l) joined ∙ lookup_push (is_key asked) old key place
    ∙ ap (λ (o : Option ℕ). or_else o (one_place (bytes_eq asked key.items) place)) (are asked)
    ∙ ap (λ (b : Bool). or_else (position p names) (one_place b place)) (flip asked key.items ∙ ap p key_is)
    ∙ ap (λ (n : ℕ). or_else (position p names) (one_place (p name) n)) number ∙ sym (position_push p names name)

known_stays : (o : Option ℕ) (b : Bool) (i : ℕ) → (b ≡ true → is_some o ≡ true) → o ≡ or_else o (one_place b i)
known_stays (Some j) b i known = refl
known_stays None true i known = absurd (true≢false (sym (known refl)))
known_stays None false i known = refl

-- one that has a place keeps it
pub noted_again : (name : List ℕ) (place : ℕ) (old : List (Key × ℕ)) → is_some (lookup (is_key name) old) ≡ true → Notes name place old old
noted_again name place old there names number are asked =
    let p : List ℕ → Bool = λ other. bytes_eq other asked in
    let known : p name ≡ true → is_some (position p names) ≡ true =
    λ same. ap is_some (sym (are asked)) ∙ ap (λ (n : List ℕ). is_some (lookup (is_key n) old)) (sym ((bytes_eq-Decides name asked).0 same)) ∙ there in
    are asked ∙ known_stays (position p names) (p name) (length names) known ∙ sym (position_push p names name)

pub no_place : (o : Option ℕ) → is_some o ≡ false → o ≡ None
no_place (Some i) none = absurd (true≢false none)
no_place None none = refl
