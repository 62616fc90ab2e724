-- Marks that stand in two maps, one after the other.
use Rattle.std.proofs.Common.{◌≡◌, ◌<◌, ◌≤◌, ◌+◌, ℕ, Result, Ok, Err, zero, suc, arith, length, nat_eq, Bool, true, false, not, List, [], ◌∷◌, ◌++◌, Option, Some, None, refl, inl, inr, sym, ◌∙◌, ap, subst, cond, is_some, position}
use Rattle.std.specs.Prelude.{◌||◌, ◌&&◌, OnOk, OnErr, IsTrue, if◌then◌else◌, drop, slice_get}
use Rattle.std.specs.Map.{keys_of, values_of, lookup}
use Rattle.std.specs.BTreeMap.{is_at}
use Rattle.std.proofs.lemmas.List.{append_assoc, drop_more}
use Rattle.std.proofs.lemmas.Bool.Decides.{Decides-eqb}
use Rattle.std.proofs.lemmas.Option.{slice_get_within, get_or_from_slice_get}
use Rattle.indexmap.specs.IndexMap.{insert_entry, set_value_at}
use Rattle.indexmap.proofs.MapLemmas.{Found-position}
use Rattle.std.specs.List.{position_or_len}
use Rattle.export_core.specs.Keys.{key_cmp, same_key}
use Rattle.export_core.specs.declared.log.Key.{Key}
use Rattle.export_core.specs.declared.marks.Mark.{Mark}
use Rattle.export_core.specs.Marks.{at, find, holds, is_due, joined, live, AreMarks, IsFirst, IsOnce, Joins, Listed, Puts}
use Rattle.export_core.proofs.Keys.{key_eq, key_eq_as, key_eq_is, key_tells, take_if, skip_if, is_at_is, same_key_flip, same_key_is, same_key_itself, holds-keys_of}
use Rattle.export_core.proofs.MarkLists.{none_of, once_push}

false_true : false ≡ true → ⊥
false_true e = cc

-- ---- look-ups

-- the look-up by the test of keys
pub lookup_at : {X : Type 0} (q : Key) (es : List (Key × X)) → lookup (key_eq q) es ≡ at q es
lookup_at q [] = refl
lookup_at q (e ∷ es) = ap (λ b. cond b (Some e.1) (lookup (key_eq q) es)) (key_eq_is q e.0 ∙ sym (is_at_is q e.0)) ∙ ap (cond (is_at (key_cmp q) e.0) (Some e.1)) (lookup_at q es)

pub at_append : {X : Type 0} (q : Key) (xs ys : List (Key × X)) → at q (xs ++ ys) ≡ (if is_some (at q xs) then at q xs else at q ys)
at_append q [] ys = refl
at_append q (x ∷ xs) ys = by_test (is_at (key_cmp q) x.0) x.1 (at q xs) (at q (xs ++ ys)) (at q ys) (at_append q xs ys) where
  by_test : {X : Type 0} (b : Bool) (v : X) (o both rest : Option X) → both ≡ (if is_some o then o else rest) → cond b (Some v) both ≡ (if is_some (cond b (Some v) o) then cond b (Some v) o else rest)
  by_test true v o both rest e = refl
  by_test false v o both rest e = e

pub keys_append : {X : Type 0} (xs ys : List (Key × X)) → keys_of (xs ++ ys) ≡ keys_of xs ++ keys_of ys
keys_append [] ys = refl
keys_append (x ∷ xs) ys = ap (λ ks. x.0 ∷ ks) (keys_append xs ys)

pub length_keys : {X : Type 0} (es : List (Key × X)) → length (keys_of es) ≡ length es
length_keys [] = refl
length_keys (e ∷ es) = ap suc (length_keys es)

length_same : {X Y : Type 0} (xs : List (Key × X)) (ys : List (Key × Y)) → keys_of xs ≡ keys_of ys → length xs ≡ length ys
length_same xs ys e = sym (length_keys xs) ∙ ap length e ∙ length_keys ys

-- a test of keys fails at an entry that a look-up passes over
rest_of : {X : Type 0} (b : Bool) (v : X) (o : Option X) → cond b (Some v) o ≡ None → (b ≡ false) × (o ≡ None)
rest_of true v o e = absurd (let bad : Some v ≡ None = e in cc)
rest_of false v o e = (refl, e)

pub none_drop : {X : Type 0} (n : ℕ) (k : Key) (es : List (Key × X)) → at k es ≡ None → at k (drop n es) ≡ None
none_drop zero k es e = e
none_drop (suc n) k [] e = e
none_drop (suc n) k (x ∷ es) e = none_drop n k es (rest_of (is_at (key_cmp k) x.0) x.1 (at k es) e).1

-- ---- the first entry of a key

first_len : (k : Key) (es : Listed) (i : ℕ) → position_or_len (same_key k) (keys_of es) ≡ i → i < length es → IsFirst k es i
first_len k [] i e w = absurd (omega (arith, w))
first_len k (x ∷ es) i e w = by_test (same_key k x.0) refl e (λ less. first_len k es (position_or_len (same_key k) (keys_of es)) refl less) where
  by_test : (b : Bool) → same_key k x.0 ≡ b → cond (not b) (1 + position_or_len (same_key k) (keys_of es)) 0 ≡ i
      → (position_or_len (same_key k) (keys_of es) < length es → IsFirst k es (position_or_len (same_key k) (keys_of es))) → IsFirst k (x ∷ es) i
  by_test true s e rest = subst (IsFirst k (x ∷ es)) e s
  by_test false s e rest =
      let next : suc (position_or_len (same_key k) (keys_of es)) ≡ i = omega (arith, e) in
      subst (IsFirst k (x ∷ es)) next (s, rest (omega (arith, next, w)))

pub first_of : (k : Key) (es : Listed) (i : ℕ) → position (key_eq k) (keys_of es) ≡ Some i → IsFirst k es i
first_of k es i e = let f = Found-position (key_eq k) es i e in first_len k es i (ap (λ t. position_or_len t (keys_of es)) (sym (key_eq_as k)) ∙ f.or_len) f.within

pub first_value : (k : Key) (es : Listed) (i : ℕ) → IsFirst k es i → at k es ≡ slice_get (values_of es) i
first_value k [] i f = absurd f
first_value k (e ∷ es) zero f = ap (λ b. cond b (Some e.1) (at k es)) (is_at_is k e.0 ∙ f)
first_value k (e ∷ es) (suc i) f = ap (λ b. cond b (Some e.1) (at k es)) (is_at_is k e.0 ∙ f.0) ∙ first_value k es i f.1

pub first_within : (k : Key) (es : Listed) (i : ℕ) → IsFirst k es i → i < length es
first_within k [] i f = absurd f
first_within k (e ∷ es) zero f = omega arith
first_within k (e ∷ es) (suc i) f = let w = first_within k es i f.1 in omega (arith, w)

first_live : (n i : ℕ) (k : Key) (es : Listed) → n ≤ i → IsFirst k es i → at k (drop n es) ≡ at k es
first_live zero i k es w f = refl
first_live (suc n) i k [] w f = absurd f
first_live (suc n) zero k (e ∷ es) w f = absurd (omega (arith, w))
first_live (suc n) (suc i) k (e ∷ es) w f = first_live n i k es (omega (arith, w)) f.1 ∙ sym (ap (λ b. cond b (Some e.1) (at k es)) (is_at_is k e.0 ∙ f.0))

-- where it stands before the number, and no key stands twice, it has nothing from there on
pub first_gone : (n i : ℕ) (k : Key) (es : Listed) → i < n → IsFirst k es i → IsOnce (keys_of es) → at k (drop n es) ≡ None
first_gone zero i k es w f once = absurd (omega (arith, w))
first_gone (suc n) i k [] w f once = absurd f
first_gone (suc n) zero k (e ∷ es) w f once =
    let named : k ≡ e.0 = same_key_is k e.0 f in
    none_drop n k es (none_of (at k es) (sym (holds-keys_of k es) ∙ subst (λ q. holds q (keys_of es) ≡ false) (sym named) once.0))
first_gone (suc n) (suc i) k (e ∷ es) w f once = first_gone n i k es (omega (arith, w)) f.1 once.1

-- ---- a value is written

pub keys_set : (es : Listed) (i : ℕ) (w : Mark) → keys_of (set_value_at es i w) ≡ keys_of es
keys_set [] i w = refl
keys_set (e ∷ es) zero w = refl
keys_set (e ∷ es) (suc i) w = ap (λ ks. e.0 ∷ ks) (keys_set es i w)

keys_set_live : (n i : ℕ) (es : Listed) (w : Mark) → keys_of (drop n (set_value_at es i w)) ≡ keys_of (drop n es)
keys_set_live zero i es w = keys_set es i w
keys_set_live (suc n) i [] w = refl
keys_set_live (suc n) zero (e ∷ es) w = refl
keys_set_live (suc n) (suc i) (e ∷ es) w = keys_set_live n i es w

set_here : (k q x : Key) (w v : Mark) (o : Option Mark) → same_key k x ≡ true → cond (is_at (key_cmp q) x) (Some w) o ≡ (if same_key k q then Some w else cond (is_at (key_cmp q) x) (Some v) o)
set_here k q x w v o s =
    let t : is_at (key_cmp q) x ≡ same_key k q = is_at_is q x ∙ same_key_flip q x ∙ ap (λ n. same_key n q) (sym (same_key_is k x s)) in
    ap (λ b. cond b (Some w) o) t ∙ by_test (same_key k q) ∙ ap (λ b. if same_key k q then Some w else cond b (Some v) o) (sym t) where
      by_test : (b : Bool) → cond b (Some w) o ≡ (if b then Some w else cond b (Some v) o)
      by_test true = refl
      by_test false = refl

set_later : (k q x : Key) (w v : Mark) (o new : Option Mark) → same_key k x ≡ false → new ≡ (if same_key k q then Some w else o) → cond (is_at (key_cmp q) x) (Some v) new ≡ (if same_key k q then Some w else cond (is_at (key_cmp q) x) (Some v) o)
set_later k q x w v o new s e = elim (key_tells k q) [
  | inl z ↦
      let t : is_at (key_cmp q) x ≡ false = is_at_is q x ∙ ap (λ n. same_key n x) (sym z.1) ∙ s in
      ap (λ b. cond b (Some v) new) t ∙ e ∙ ap (λ b. if b then Some w else o) z.0 ∙ sym (ap (λ b. if b then Some w else cond (is_at (key_cmp q) x) (Some v) o) z.0)
  | inr z ↦
      ap (cond (is_at (key_cmp q) x) (Some v)) (e ∙ ap (λ b. if b then Some w else o) z.0) ∙ sym (ap (λ b. if b then Some w else cond (is_at (key_cmp q) x) (Some v) o) z.0)
]

set_at : (k : Key) (es : Listed) (i : ℕ) (w : Mark) → IsFirst k es i → (q : Key) → at q (set_value_at es i w) ≡ (if same_key k q then Some w else at q es)
set_at k [] i w f q = absurd f
set_at k (e ∷ es) zero w f q = set_here k q e.0 w e.1 (at q es) f
set_at k (e ∷ es) (suc i) w f q = set_later k q e.0 w e.1 (at q es) (at q (set_value_at es i w)) f.0 (set_at k es i w f.1 q)

set_live : (n i : ℕ) (k : Key) (es : Listed) (w : Mark) → n ≤ i → IsFirst k es i → (q : Key) → at q (drop n (set_value_at es i w)) ≡ (if same_key k q then Some w else at q (drop n es))
set_live zero i k es w less f q = set_at k es i w f q
set_live (suc n) i k [] w less f q = absurd f
set_live (suc n) zero k (e ∷ es) w less f q = absurd (omega (arith, less))
set_live (suc n) (suc i) k (e ∷ es) w less f q = set_live n i k es w (omega (arith, less)) f.1 q

-- a mark is written over one that stands from the number on
pub joins_of : (n i : ℕ) (k : Key) (m v w : Mark) (es : Listed) → n ≤ i → IsFirst k es i → slice_get (values_of es) i ≡ Some v → w ≡ joined (Some v) m → Joins n k m es (set_value_at es i w)
joins_of n i k m v w es less f was is =
    let there : at k (drop n es) ≡ Some v = first_live n i k es less f ∙ first_value k es i f ∙ was in
    let mark : Some w ≡ Some (joined (at k (drop n es)) m) = ap Some is ∙ ap (λ o. Some (joined o m)) (sym there) in
    record {
      keys = keys_set es i w;
      there = ap (λ o. is_some o) there;
      rest = keys_set_live n i es w;
      marks = λ q. set_live n i k es w less f q ∙ ap (λ o. if same_key k q then o else at q (drop n es)) mark;
    }

-- ---- a key is put into a map

-- what is written where the key stands then is as if it had been put so
set_inserted : (k : Key) (m w : Mark) (es : Listed) → set_value_at (insert_entry key_eq es k m) (position_or_len (key_eq k) (keys_of es)) w ≡ insert_entry key_eq es k w
set_inserted k m w [] = refl
set_inserted k m w (e ∷ es) = by_test (key_eq k e.0) (set_inserted k m w es) where
  by_test : (b : Bool) → set_value_at (insert_entry key_eq es k m) (position_or_len (key_eq k) (keys_of es)) w ≡ insert_entry key_eq es k w
      → set_value_at (if b then (e.0, m) ∷ es else e ∷ insert_entry key_eq es k m) (cond (not b) (1 + position_or_len (key_eq k) (keys_of es)) 0) w ≡ (if b then (e.0, w) ∷ es else e ∷ insert_entry key_eq es k w)
  by_test true rest = refl
  by_test false rest =
      let next : 1 + position_or_len (key_eq k) (keys_of es) ≡ suc (position_or_len (key_eq k) (keys_of es)) = omega arith in
      ap (λ i. set_value_at (e ∷ insert_entry key_eq es k m) i w) next ∙ ap (λ l. e ∷ l) rest

value_inserted : (k : Key) (m : Mark) (es : Listed) → slice_get (values_of (insert_entry key_eq es k m)) (position_or_len (key_eq k) (keys_of es)) ≡ Some m
value_inserted k m [] = refl
value_inserted k m (e ∷ es) = by_test (key_eq k e.0) (value_inserted k m es) where
  by_test : (b : Bool) → slice_get (values_of (insert_entry key_eq es k m)) (position_or_len (key_eq k) (keys_of es)) ≡ Some m
      → slice_get (values_of (if b then (e.0, m) ∷ es else e ∷ insert_entry key_eq es k m)) (cond (not b) (1 + position_or_len (key_eq k) (keys_of es)) 0) ≡ Some m
  by_test true rest = refl
  by_test false rest =
      let next : 1 + position_or_len (key_eq k) (keys_of es) ≡ suc (position_or_len (key_eq k) (keys_of es)) = omega arith in
      ap (λ i. slice_get (values_of (e ∷ insert_entry key_eq es k m)) i) next ∙ rest

at_inserted : (k : Key) (w : Mark) (es : Listed) (q : Key) → at q (insert_entry key_eq es k w) ≡ (if same_key k q then Some w else at q es)
at_inserted k w [] q = ap (λ b. cond b (Some w) None) (is_at_is q k ∙ same_key_flip q k)
at_inserted k w (e ∷ es) q = by_test (key_eq k e.0) refl (at_inserted k w es q) where
  by_test : (b : Bool) → key_eq k e.0 ≡ b → at q (insert_entry key_eq es k w) ≡ (if same_key k q then Some w else at q es)
      → at q (if b then (e.0, w) ∷ es else e ∷ insert_entry key_eq es k w) ≡ (if same_key k q then Some w else at q (e ∷ es))
  by_test true s rest = set_here k q e.0 w e.1 (at q es) (sym (key_eq_is k e.0) ∙ s)
  by_test false s rest = set_later k q e.0 w e.1 (at q es) (at q (insert_entry key_eq es k w)) (sym (key_eq_is k e.0) ∙ s) rest

keys_inserted : (k : Key) (w : Mark) (es : Listed) → keys_of (insert_entry key_eq es k w) ≡ (if is_some (at k es) then keys_of es else keys_of es ++ k ∷ [])
keys_inserted k w [] = refl
keys_inserted k w (e ∷ es) = by_test (key_eq k e.0) (key_eq_is k e.0 ∙ sym (is_at_is k e.0)) (keys_inserted k w es) where
  inner : (s : Bool) → keys_of (insert_entry key_eq es k w) ≡ (if s then keys_of es else keys_of es ++ k ∷ []) → e.0 ∷ keys_of (insert_entry key_eq es k w) ≡ (if s then keys_of (e ∷ es) else keys_of (e ∷ es) ++ k ∷ [])
  inner true rest = ap (λ l. e.0 ∷ l) rest
  inner false rest = ap (λ l. e.0 ∷ l) rest

  by_test : (b : Bool) → b ≡ is_at (key_cmp k) e.0 → keys_of (insert_entry key_eq es k w) ≡ (if is_some (at k es) then keys_of es else keys_of es ++ k ∷ [])
      → keys_of (if b then (e.0, w) ∷ es else e ∷ insert_entry key_eq es k w) ≡ (if is_some (at k (e ∷ es)) then keys_of (e ∷ es) else keys_of (e ∷ es) ++ k ∷ [])
  by_test true s rest = ap (λ t. if is_some (cond t (Some e.1) (at k es)) then keys_of (e ∷ es) else keys_of (e ∷ es) ++ k ∷ []) s
  by_test false s rest = inner (is_some (at k es)) rest ∙ ap (λ t. if is_some (cond t (Some e.1) (at k es)) then keys_of (e ∷ es) else keys_of (e ∷ es) ++ k ∷ []) s

inserted_puts : (k : Key) (m w : Mark) (old : Listed) → w ≡ joined (find k old) m → Puts k m old (insert_entry key_eq old k w)
inserted_puts k m w old e = record {
  marks = λ q. at_inserted k w old q ∙ ap (λ (x : Mark). if same_key k q then Some x else find q old) e;
  order = keys_inserted k w old;
}

due_or : (b c : Bool) → c ≡ true → true ≡ (b || c)
due_or true c e = refl
due_or false c e = sym e

or_quiet : (b c : Bool) → c ≡ false → b ≡ (b || c)
or_quiet true c e = refl
or_quiet false c e = sym e

-- a key is put that was due, and stays so
pub puts_due : (k : Key) (m v : Mark) (old mid : Listed) (i : ℕ) → mid ≡ insert_entry key_eq old k m → i ≡ position_or_len (key_eq k) (keys_of old) → slice_get (values_of mid) i ≡ Some v → is_due (find k old) ≡ true
    → Puts k m old (set_value_at mid i (record { at = v.at; candidate = v.candidate; due = true }))
puts_due k m v old mid i e ei was due =
    let named : Some v ≡ Some m = sym was ∙ ap (λ n. slice_get (values_of mid) n) ei ∙ ap (λ (l : Listed). slice_get (values_of l) (position_or_len (key_eq k) (keys_of old))) e ∙ value_inserted k m old in
    let same : v ≡ m = cc in
    let w : Mark = record { at = v.at; candidate = v.candidate; due = true } in
    let is : w ≡ joined (find k old) m = ap (λ (x : Mark). record { at = x.at; candidate = x.candidate; due = true }) same ∙ ap (λ b. record { at = m.at; candidate = m.candidate; due = b }) (due_or m.due (is_due (find k old)) due) in
    let made : set_value_at mid i w ≡ insert_entry key_eq old k w = ap (λ n. set_value_at mid n w) ei ∙ ap (λ (l : Listed). set_value_at l (position_or_len (key_eq k) (keys_of old)) w) e ∙ set_inserted k m w old in
    subst (Puts k m old) (sym made) (inserted_puts k m w old is)

-- and one that wasn't
pub puts_quiet : (k : Key) (m : Mark) (old new : Listed) → new ≡ insert_entry key_eq old k m → is_due (find k old) ≡ false → Puts k m old new
puts_quiet k m old new e quiet =
    subst (Puts k m old) (sym e) (inserted_puts k m m old (ap (λ b. record { at = m.at; candidate = m.candidate; due = b }) (or_quiet m.due (is_due (find k old)) quiet)))

-- what the map had at the key
pub due_at : (k : Key) (es : Listed) (o : Option Mark) → o ≡ lookup (key_eq k) es → is_due (find k es) ≡ is_due o
due_at k es o e = ap is_due (sym (e ∙ lookup_at k es))

-- ---- a key is marked

if_true : {X : Type 0} (b : Bool) (x y : X) → b ≡ true → (if b then x else y) ≡ x
if_true b x y e = rw e refl

if_false : {X : Type 0} (b : Bool) (x y : X) → b ≡ false → (if b then x else y) ≡ y
if_false b x y e = rw e refl

-- in the first map
pub puts_first : (n : ℕ) (k : Key) (m : Mark) (old new rest : Listed) → Joins n k m old new → Puts k m (live n old rest) (live n new rest)
puts_first n k m old new rest j =
    let here : find k (live n old rest) ≡ at k (drop n old) = at_append k (drop n old) rest ∙ if_true (is_some (at k (drop n old))) (at k (drop n old)) (at k rest) j.there in
    record {
      marks = λ q. at_append q (drop n new) rest ∙ elim (key_tells k q) [
        | inl z ↦
            let is : at q (drop n new) ≡ Some (joined (at k (drop n old)) m) = take_if _ (j.marks q) z.0 in
            ap (λ o. if is_some o then o else at q rest) is
            ∙ ap (λ o. Some (joined o m)) (sym here)
            ∙ sym (if_true (same_key k q) (Some (joined (find k (live n old rest)) m)) (find q (live n old rest)) z.0)
        | inr z ↦
            ap (λ o. if is_some o then o else at q rest) (skip_if _ (j.marks q) z.0)
            ∙ sym (at_append q (drop n old) rest)
            ∙ sym (if_false (same_key k q) (Some (joined (find k (live n old rest)) m)) (find q (live n old rest)) z.0)
      ];
      order =
          keys_append (drop n new) rest ∙ ap (λ ks. ks ++ keys_of rest) j.rest ∙ sym (keys_append (drop n old) rest)
          ∙ sym (if_true (is_some (find k (live n old rest))) (keys_of (live n old rest)) (keys_of (live n old rest) ++ k ∷ []) (ap (λ o. is_some o) here ∙ j.there));
    }

-- behind the first map
pub puts_second : (k : Key) (m : Mark) (front old new : Listed) → at k front ≡ None → Puts k m old new → Puts k m (front ++ old) (front ++ new)
puts_second k m front old new none p =
    let here : find k (front ++ old) ≡ at k old = at_append k front old ∙ ap (λ o. if is_some o then o else at k old) none in
    record {
      marks = λ q. at_append q front new ∙ elim (key_tells k q) [
        | inl z ↦
            let gone : at q front ≡ None = subst (λ n. at n front ≡ None) z.1 none in
            ap (λ o. if is_some o then o else at q new) gone
            ∙ take_if _ (p.marks q) z.0
            ∙ ap (λ o. Some (joined o m)) (sym here)
            ∙ sym (if_true (same_key k q) (Some (joined (find k (front ++ old)) m)) (find q (front ++ old)) z.0)
        | inr z ↦
            ap (λ o. if is_some (at q front) then at q front else o) (skip_if _ (p.marks q) z.0)
            ∙ sym (at_append q front old)
            ∙ sym (if_false (same_key k q) (Some (joined (find k (front ++ old)) m)) (find q (front ++ old)) z.0)
      ];
      order =
          keys_append front new ∙ ap (λ ks. keys_of front ++ ks) p.order ∙ behind (is_some (at k old))
          ∙ ap (λ ks. if is_some (at k old) then ks else ks ++ k ∷ []) (sym (keys_append front old))
          ∙ ap (λ o. if is_some o then keys_of (front ++ old) else keys_of (front ++ old) ++ k ∷ []) (sym here);
    } where
      behind : (b : Bool) → keys_of front ++ (if b then keys_of old else keys_of old ++ k ∷ []) ≡ (if b then keys_of front ++ keys_of old else keys_of front ++ keys_of old ++ k ∷ [])
      behind true = refl
      behind false = sym (append_assoc (keys_of front) (keys_of old) (k ∷ []))

pub once_puts : (k : Key) (m : Mark) (old new : Listed) → Puts k m old new → IsOnce (keys_of old) → IsOnce (keys_of new)
once_puts k m old new p once = by_case (is_some (find k old)) refl where
  by_case : (b : Bool) → is_some (find k old) ≡ b → IsOnce (keys_of new)
  by_case true e = subst IsOnce (sym (p.order ∙ if_true (is_some (find k old)) (keys_of old) (keys_of old ++ k ∷ []) e)) once
  by_case false e = subst IsOnce (sym (p.order ∙ if_false (is_some (find k old)) (keys_of old) (keys_of old ++ k ∷ []) e)) (once_push k (keys_of old) once (holds-keys_of k old ∙ e))

pub are_puts : (n : ℕ) (k : Key) (m : Mark) (old new coming coming' : Listed) → AreMarks n old coming → keys_of new ≡ keys_of old → Puts k m (live n old coming) (live n new coming') → AreMarks n new coming'
are_puts n k m old new coming coming' a keys p = record {
  within = let same = length_same new old keys in let w = a.within in omega (arith, same, w);
  apart = subst IsOnce (sym keys) a.apart;
  once = once_puts k m (live n old coming) (live n new coming') p a.once;
}

-- ---- the first is taken out

pub drop_end : {X : Type 0} (n : ℕ) (xs : List X) → length xs ≤ n → drop n xs ≡ []
drop_end zero [] w = refl
drop_end (suc n) [] w = refl
drop_end zero (x ∷ xs) w = absurd (omega (arith, w))
drop_end (suc n) (x ∷ xs) w = drop_end n xs (omega (arith, w))

pub drop_none : {X : Type 0} (n : ℕ) (xs : List X) → drop n xs ≡ [] → length xs ≤ n
drop_none n [] e = omega arith
drop_none zero (x ∷ xs) e = absurd (let bad : x ∷ xs ≡ [] = e in cc)
drop_none (suc n) (x ∷ xs) e = let w = drop_none n xs e in omega (arith, w)

append_none : {X : Type 0} (xs : List X) → xs ++ [] ≡ xs
append_none [] = refl
append_none (x ∷ xs) = ap (λ l. x ∷ l) (append_none xs)

-- what is written at the number doesn't show behind it
pub past_set : (n : ℕ) (es : Listed) (w : Mark) → drop (n + 1) (set_value_at es n w) ≡ drop 1 (drop n es)
past_set n es w = let next : n + 1 ≡ suc n = omega arith in ap (λ i. drop i (set_value_at es n w)) next ∙ past n es where
  past : (i : ℕ) (xs : Listed) → drop (suc i) (set_value_at xs i w) ≡ drop 1 (drop i xs)
  past zero [] = refl
  past (suc i) [] = refl
  past zero (x ∷ xs) = refl
  past (suc i) (x ∷ xs) = past i xs

pub drop_ended : {X : Type 0} (n : ℕ) (xs : List X) → length xs ≤ n → drop n xs ≡ drop 1 (drop n xs)
drop_ended n xs w = drop_end n xs w ∙ sym (ap (drop 1) (drop_end n xs w))

pub popped : (front back : Listed) → (front ≡ [] → back ≡ []) → drop 1 front ++ back ≡ drop 1 (front ++ back)
popped [] back none = let e : back ≡ [] = none refl in e ∙ sym (ap (drop 1) e)
popped (x ∷ front) back none = refl

once_rest : (v : Listed) → IsOnce (keys_of v) → IsOnce (keys_of (drop 1 v))
once_rest [] o = o
once_rest (x ∷ v) o = o.1

-- a mark was taken out of the first map
pub rest_live : (n i : ℕ) (leaving leaving' coming view : Listed) → live n leaving coming ≡ view → n ≤ length leaving → (n ≡ length leaving → coming ≡ []) → drop i leaving' ≡ drop 1 (drop n leaving) → live i leaving' coming ≡ drop 1 view
rest_live n i leaving leaving' coming view is w none rest =
    ap (λ l. l ++ coming) rest
    ∙ popped (drop n leaving) coming (λ e. none (let s = drop_none n leaving e in omega (arith, s, w)))
    ∙ ap (drop 1) is

pub are_left : (n i : ℕ) (leaving leaving' coming : Listed) → AreMarks n leaving coming → (n ≡ length leaving → coming ≡ []) → drop i leaving' ≡ drop 1 (drop n leaving) → keys_of leaving' ≡ keys_of leaving → i ≤ length leaving' → AreMarks i leaving' coming
are_left n i leaving leaving' coming a none rest keys w = record {
  within = w;
  apart = subst IsOnce (sym keys) a.apart;
  once = subst (λ l. IsOnce (keys_of l)) (sym (rest_live n i leaving leaving' coming (live n leaving coming) refl a.within none rest)) (once_rest (live n leaving coming) a.once);
}

pub gone_first : (v : Listed) → IsOnce (keys_of v) → (k : Key) → slice_get (keys_of v) 0 ≡ Some k → (q : Key) → find q (drop 1 v) ≡ (if same_key k q then None else find q v)
gone_first [] once k first q = absurd (let bad : None ≡ Some k = first in cc)
gone_first (x ∷ v) once k first q =
    let named : x.0 ≡ k = let e : Some x.0 ≡ Some k = first in cc in
    elim (key_tells k q) [
      | inl z ↦
          none_of (at q v) (sym (holds-keys_of q v) ∙ subst (λ n. holds n (keys_of v) ≡ false) (named ∙ z.1) once.0)
          ∙ sym (if_true (same_key k q) None (find q (x ∷ v)) z.0)
      | inr z ↦
          sym (ap (λ b. cond b (Some x.1) (at q v)) (is_at_is q x.0 ∙ same_key_flip q x.0 ∙ ap (λ n. same_key n q) named ∙ z.0))
          ∙ sym (if_false (same_key k q) None (find q (x ∷ v)) z.0)
    ]

-- ---- the first is seen

pub split_at : (n : ℕ) (es : Listed) (e : Key × Mark) → slice_get es n ≡ Some e → drop n es ≡ e ∷ drop (n + 1) es
split_at n es e is = drop_more es n e (slice_get_within es n e is) ∙ ap (λ x. x ∷ drop (n + 1) es) (get_or_from_slice_get es n e e is)

pub first_in : (n : ℕ) (es rest view : Listed) (k : Key) (m : Mark) → live n es rest ≡ view → slice_get es n ≡ Some (k, m) → (slice_get (keys_of view) 0 ≡ Some k) × (find k view ≡ Some m)
first_in n es rest view k m seen is =
    let v : view ≡ (k, m) ∷ (drop (n + 1) es ++ rest) = sym seen ∙ ap (λ l. l ++ rest) (split_at n es (k, m) is) in (
      ap (λ l. slice_get (keys_of l) 0) v,
      ap (find k) v ∙ ap (λ b. cond b (Some m) (find k (drop (n + 1) es ++ rest))) (is_at_is k k ∙ same_key_itself k),
    )

-- none stands from the number on
pub none_at : (n : ℕ) (es rest : Listed) → length es ≤ n → live n es rest ≡ rest
none_at n es rest w = ap (λ l. l ++ rest) (drop_end n es w)

pub nil_live : (n : ℕ) (es rest : Listed) → n ≤ length es → live n es rest ≡ [] → (n ≡ length es) × (length rest ≡ 0)
nil_live n es rest w e = by_front (drop n es) refl e where
  by_front : (front : Listed) → drop n es ≡ front → front ++ rest ≡ [] → (n ≡ length es) × (length rest ≡ 0)
  by_front [] d e = (let s = drop_none n es d in omega (arith, s, w), ap length e)
  by_front (x ∷ front) d e = absurd (let bad : x ∷ (front ++ rest) ≡ [] = e in cc)

pub live_nil : (n : ℕ) (es rest : Listed) → n ≡ length es → length rest ≡ 0 → live n es rest ≡ []
live_nil n es rest e none = none_at n es rest (omega (arith, e)) ∙ nil rest none where
  nil : (xs : Listed) → length xs ≡ 0 → xs ≡ []
  nil [] e = refl
  nil (x ∷ xs) e = absurd (omega (arith, e))

-- where none is left in the first map it is that of the second
pub first_behind : (n : ℕ) (es rest view : Listed) (k : Key) (m : Mark) → live n es rest ≡ view → length es ≤ n → slice_get rest 0 ≡ Some (k, m) → (slice_get (keys_of view) 0 ≡ Some k) × (find k view ≡ Some m)
first_behind n es rest view k m seen w is = first_in 0 rest [] view k m (append_none rest ∙ sym (none_at n es rest w) ∙ seen) is

-- whether there are none
pub empty_is : (n a b : ℕ) (es rest view : Listed) → live n es rest ≡ view → n ≤ length es → a ≡ length es → b ≡ length rest → (IsTrue (nat_eq n a && nat_eq b 0) → view ≡ []) × (view ≡ [] → IsTrue (nat_eq n a && nat_eq b 0))
empty_is n a b es rest view seen w ea eb = (
  λ is. let p = both_are (nat_eq n a) (nat_eq b 0) is in sym seen ∙ live_nil n es rest ((Decides-eqb n a).0 p.0 ∙ ea) (sym eb ∙ (Decides-eqb b 0).0 p.1),
  λ e. let p = nil_live n es rest w (seen ∙ e) in both_true (nat_eq n a) (nat_eq b 0) ((Decides-eqb n a).1 (p.0 ∙ sym ea)) ((Decides-eqb b 0).1 (eb ∙ p.1)),
) where
  both_are : (x y : Bool) → IsTrue (x && y) → (x ≡ true) × (y ≡ true)
  both_are true true e = (refl, refl)
  both_are true false e = absurd (false_true e)
  both_are false y e = absurd (false_true e)

  both_true : (x y : Bool) → x ≡ true → y ≡ true → IsTrue (x && y)
  both_true x y e f = rw (e, f) refl

pub set_within : (es : Listed) (i : ℕ) (w : Mark) → i < length es → i + 1 ≤ length (set_value_at es i w)
set_within es i w less = let same = length_same (set_value_at es i w) es (keys_set es i w) in omega (arith, same, less)

-- ---- what calls tell

pub absent : (k : Key) (es : Listed) → false ≡ is_some (lookup (key_eq k) es) → at k es ≡ None
absent k es e = sym (lookup_at k es) ∙ none_of (lookup (key_eq k) es) (sym e)

pub puts_behind : (n : ℕ) (k : Key) (m back : Mark) (old new coming coming' : Listed) → new ≡ old → back ≡ m → at k (drop n old) ≡ None → Puts k back coming coming' → Puts k m (live n old coming) (live n new coming')
puts_behind n k m back old new coming coming' same e none p =
    subst (λ (l : Listed). Puts k m (live n old coming) (live n l coming')) (sym same) (puts_second k m (drop n old) coming coming' none (subst (λ (x : Mark). Puts k x coming coming') e p))

-- what holds where a call succeeds and where it is refused holds
pub either_way : {A E : Type 0} {P Q R : Type 0} (r : Result A E) → OnOk r P → OnErr r Q → (P → R) → (Q → R) → R
either_way (Ok x) p q f g = f p
either_way (Err x) p q f g = g q

pub are_same : (n : ℕ) (old new coming coming' : Listed) → new ≡ old → coming' ≡ coming → AreMarks n old coming → AreMarks n new coming'
are_same n old new coming coming' e f a = subst (λ (l : Listed). AreMarks n l coming') (sym e) (subst (λ (l : Listed). AreMarks n old l) (sym f) a)
