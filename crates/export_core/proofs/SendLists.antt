-- What was sent of one net.
use Rattle.std.proofs.Common.{◌≡◌, ℕ, ◌≤◌, Bool, true, false, List, [], ◌∷◌, ◌++◌, Option, Some, None, refl, inl, inr, sym, ◌∙◌, ap, subst, is_some, option_map, option_and_then, arith, cond}
use Rattle.std.specs.Prelude.{if◌then◌else◌, slice_get}
use Rattle.std.specs.List.{cons_option}
use Rattle.std.proofs.lemmas.List.Elements.{filter_map-append}
use Rattle.std.specs.List.Sorted.{IsStrictlySortedBy}
use Rattle.std.specs.Map.{keys_of}
use Rattle.std.proofs.lemmas.List.Kept.{IsStrictlySortedBy-filter}
use Rattle.export_core.specs.Keys.{key_cmp, same_key}
use Rattle.attrs.specs.declared.attributes.Attrs.{Attrs}
use Rattle.attrs.specs.declared.route.Route.{Route}
use Rattle.export_core.specs.declared.log.Key.{Key}
use Rattle.export_core.specs.declared.log.LogItem.{LogItem}
use Rattle.export_core.specs.declared.log.LogItem.TheVariants.{Up, Down, Reload, Sent}
use Rattle.export_core.specs.declared.log.Sending.{Sending}
use Rattle.export_core.specs.Logs.{Account, Course, Follows, Rises, account, entered, highest, stretch, value_of}
use Rattle.export_core.specs.Marks.{at, entries_by, holds}
use Rattle.export_core.specs.Passing.{passed}
use Rattle.export_core.specs.Sends.{AreRight, AreRising, IsStanding, last_value, sends}
use Rattle.export_core.specs.Standing.{index_at, standing_at, value_at}
use Rattle.export_core.proofs.Listed.{at_by, keys_by}
use Rattle.export_core.proofs.Keys.{holds-keys_of, key_tells}

pub follows_front : (value : Key → Route → Option Attrs) (c : Course) (later earlier : List LogItem) → Follows value c (later ++ earlier) → Follows value c earlier
follows_front value c [] earlier f = f
follows_front value c (item ∷ later) earlier f = follows_front value c later earlier f.0

last_if : (b : Bool) (x : Sending) (a : Account) → (if b then entered x a else a).last ≡ (if b then Some x else a.last)
last_if true x a = refl
last_if false x a = refl

first_if : (b : Bool) (x : Sending) (xs : List Sending) → slice_get (if b then x ∷ xs else xs) 0 ≡ (if b then Some x else slice_get xs 0)
first_if true x xs = refl
first_if false x xs = refl

-- the last item of a net is the newest that was sent of it
pub last_is : (k : Key) (log : List LogItem) → (account k log).last ≡ slice_get (sends k log) 0
last_is k [] = refl
last_is k (Up h ∷ log) = refl
last_is k (Down ∷ log) = refl
last_is k (Reload ∷ log) = last_is k log
last_is k (Sent x ∷ log) =
    last_if (same_key x.key k) x (account k log) ∙ ap (λ o. if same_key x.key k then Some x else o) (last_is k log)
    ∙ sym (first_if (same_key x.key k) x (sends k log))

pub value_is : (k : Key) (log : List LogItem) → value_of (account k log) ≡ last_value (sends k log)
value_is k log = ap (λ o. option_and_then (λ (x : Sending). x.value) o) (last_is k log)

some_same : {A : Type 0} {x y : A} → Some x ≡ Some y → x ≡ y
some_same e = cc

sends_named : (k : Key) (x : Sending) (log : List LogItem) → same_key x.key k ≡ true → sends k (Sent x ∷ log) ≡ x ∷ sends k log
sends_named k x log e = ap (λ b. if b then x ∷ sends k log else sends k log) e

sends_other : (k : Key) (x : Sending) (log : List LogItem) → same_key x.key k ≡ false → sends k (Sent x ∷ log) ≡ sends k log
sends_other k x log e = ap (λ b. if b then x ∷ sends k log else sends k log) e

pub sends_right : (value : Key → Route → Option Attrs) (c : Course) (k : Key) (h : ℕ) (log : List LogItem) → Follows value c log → stretch log ≡ Some h → AreRight value c k h (sends k log)
sends_right value c k h [] f e = tt
sends_right value c k h (Up g ∷ log) f e = tt
sends_right value c k h (Down ∷ log) f e = tt
sends_right value c k h (Reload ∷ log) f e = sends_right value c k h log f.0 e
sends_right value c k h (Sent x ∷ log) f e = elim (key_tells x.key k) [
  | inl w ↦
      let s = f.1 in
      let at : s.in_stretch.0 ≡ h = some_same (sym s.in_stretch.1 ∙ e) in
      subst (AreRight value c k h) (sym (sends_named k x log w.0))
      (subst (λ n. x.value ≡ passed value n (c.best n x.at)) w.1 s.right, subst (λ g. g ≤ x.at) at s.in_stretch.2, s.told, sends_right value c k h log f.0 e)
  | inr w ↦ subst (AreRight value c k h) (sym (sends_other k x log w.0)) (sends_right value c k h log f.0 e)
]

pub sends_rise : (value : Key → Route → Option Attrs) (c : Course) (k : Key) (log : List LogItem) → Follows value c log → AreRising (sends k log)
sends_rise value c k [] f = tt
sends_rise value c k (Up g ∷ log) f = tt
sends_rise value c k (Down ∷ log) f = tt
sends_rise value c k (Reload ∷ log) f = sends_rise value c k log f.0
sends_rise value c k (Sent x ∷ log) f = elim (key_tells x.key k) [
  | inl w ↦ subst AreRising (sym (sends_named k x log w.0)) (subst (λ o. Rises o x) (subst (λ n. (account n log).last ≡ slice_get (sends k log) 0) (sym w.1) (last_is k log)) f.1.rises, sends_rise value c k log f.0)
  | inr w ↦ subst AreRising (sym (sends_other k x log w.0)) (sends_rise value c k log f.0)
]

-- the values that stand, net by net

-- all of them, where each net that has a value is in the list
pub standing_of : (log : List LogItem) (f : Key → Option Attrs) (nets : List Key) (items : List (Key × Attrs)) → ((k : Key) → f k ≡ standing_at k log) → IsStrictlySortedBy key_cmp nets → ((k : Key) → holds k nets ≡ false → f k ≡ None)
    → items ≡ entries_by f nets → IsStanding log items
standing_of log f nets items same ascend rest e = record {
  ascend = subst (λ items. IsStrictlySortedBy key_cmp (keys_of items)) (sym e) (subst (IsStrictlySortedBy key_cmp) (sym (keys_by f nets)) (IsStrictlySortedBy-filter key_cmp (λ k. is_some (f k)) nets ascend));
  values = λ k. ap (at k) e ∙ at_by f k nets ∙ all_held (holds k nets) (f k) (rest k) ∙ same k;
} where
  all_held : (b : Bool) (o : Option Attrs) → (b ≡ false → o ≡ None) → cond b o None ≡ o
  all_held true o n = refl
  all_held false o n = sym (n refl)

-- with one more key
pub items_more : (f : Key → Option Attrs) (keys keys' : List Key) (k : Key) (items items' : List (Key × Attrs)) → items ≡ entries_by f keys → keys' ≡ keys ++ k ∷ [] → items' ≡ items ++ cons_option (option_map (λ v. (k, v)) (f k)) []
    → items' ≡ entries_by f keys'
items_more f keys keys' k items items' was e more =
    more ∙ ap (λ xs. xs ++ cons_option (option_map (λ v. (k, v)) (f k)) []) was
    ∙ sym (filter_map-append (λ k. option_map (λ v. (k, v)) (f k)) keys (k ∷ []))
    ∙ ap (λ ns. entries_by f ns) (sym e)

-- positions in a log that follows a course
pub highest_told : (value : Key → Route → Option Attrs) (c : Course) (log : List LogItem) → Follows value c log → highest log ≤ c.len
highest_told value c [] f = omega arith
highest_told value c (Up h ∷ log) f = omega (arith, f.1.2, highest_told value c log f.0)
highest_told value c (Down ∷ log) f = highest_told value c log f.0
highest_told value c (Reload ∷ log) f = highest_told value c log f.0
highest_told value c (Sent x ∷ log) f = omega (arith, f.1.told, highest_told value c log f.0)

-- a net without a number has no value
pub unheld : (log : List LogItem) (places : List (Key × Option ℕ)) (k : Key) → holds k (keys_of places) ≡ false → value_at log (index_at k places) ≡ None
unheld log places k e = by_place (at k places) (sym (holds-keys_of k places) ∙ e) where
  by_place : (o : Option (Option ℕ)) → is_some o ≡ false → value_at log (option_and_then (λ n. n) o) ≡ None
  by_place None f = refl
  by_place (Some n) f = absurd (let bad : true ≡ false = f in cc)
