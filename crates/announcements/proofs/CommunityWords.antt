-- The communities of an `add`.
use Rattle.std.proofs.Common.{◌≡◌, ◌∙◌, sym, ap, refl, subst, ℕ, ◌+◌, Bool, true, false, cond, eqb, ◌||◌, ◌&&◌, List, [], ◌∷◌, ◌++◌, length, length-append, arith, inl, inr, Option, Some, None, Result, Ok, Err, MatchResult}
use Rattle.std.specs.Prelude.{codes, not, filter, nat_le}
use Rattle.std.specs.List.{list_all, take_while}
use Rattle.std.specs.Int.{IsInRange}
use Rattle.std.specs.Str.Parse.{AllDigits}
use Rattle.std.proofs.lemmas.Bool.{false≢true, cases_Bool, and_from, and_parts, or_parts, eqb-true, not-false}
use Rattle.std.proofs.lemmas.Bool.Decides.{nat_tests}
use Rattle.std.proofs.lemmas.List.{append_assoc, append-nil}
use Rattle.std.proofs.lemmas.List.Elements.{filter-append}
use Rattle.std.proofs.lemmas.List.Folds.{list_all-append}
use Rattle.std.proofs.lemmas.Map.Views.{any-filter_same}
use Rattle.std.proofs.lemmas.Str.Parse.{digit_from_value}
use Rattle.attrs.specs.Clist.{same_pair, has_pair}
use Rattle.announcements.specs.declared.refusal.Refusal.{Refusal}
use Rattle.announcements.specs.Grammar.{IsDecimal, IsCommunity, AreCommunities, IsCom, each_once}
use Rattle.announcements.specs.Limits.{pair_fits, coms_fit}
use Rattle.announcements.specs.Reading.{IfForm, is_no_colon, IsCut, with_pair, Puts, AddsOne, AreOnce, IsKept, kept, part_fits}
use Rattle.text.specs.Cut.{first_passes}
use Rattle.text.specs.Cut.{behind}
use Rattle.text.proofs.Runs.{run_front, run_rest, run_whole, run_passes, run_stops}
use Rattle.announcements.proofs.Words.{form_more}
use Rattle.announcements.proofs.Kept.{kept_yes, kept_no}
use Rattle.announcements.proofs.Options.{numbers_agree}

-- pairs
pair_same : (p q : ℕ × ℕ) → same_pair p q ≡ true → p ≡ q
pair_same p q same =
    let parts = and_parts (eqb p.0 q.0) (eqb p.1 q.1) same in
    ap (λ (a : ℕ). (a, p.1)) (eqb-true p.0 q.0 parts.0) ∙ ap (λ (b : ℕ). (q.0, b)) (eqb-true p.1 q.1 parts.1)

or_second : (x y : Bool) → (x || y) ≡ true → x ≡ false → y ≡ true
or_second true y either fails = absurd (false≢true (sym fails))
or_second false y either fails = either

and_true_right : (a : Bool) → (a && true) ≡ a
and_true_right true = refl
and_true_right false = refl

less_fits : (n : ℕ) → nat_le (n + 1) 64 ≡ true → nat_le n 64 ≡ true
less_fits n few = grind (arith, nat_tests)

or_first : (x y : Bool) → (x || y) ≡ true → y ≡ false → x ≡ true
or_first true y either fails = refl
or_first false y either fails = absurd (false≢true (sym fails ∙ either))

-- a community that differs from the first is in the others where it was
has_filter : (q p : ℕ × ℕ) (pairs : List (ℕ × ℕ)) → same_pair q p ≡ false → has_pair (filter (λ other. not (same_pair q other)) pairs) p ≡ has_pair pairs p
has_filter q p pairs differ =
    any-filter_same (λ (x : ℕ × ℕ). same_pair x p) (λ (other : ℕ × ℕ). not (same_pair q other)) true
    (λ k same. ap (λ (x : ℕ × ℕ). not (same_pair q x)) (pair_same k p same) ∙ ap not differ) pairs

has_once : (pairs : List (ℕ × ℕ)) (p : ℕ × ℕ) → has_pair (each_once pairs) p ≡ has_pair pairs p
has_once [] p = refl
has_once (q ∷ pairs) p = elim (cases_Bool (same_pair q p)) [
  | inl same ↦ rw same refl
  | inr differ ↦ rw differ (has_filter q p (each_once pairs) differ ∙ has_once pairs p)
]

filter_one_no : (t : ℕ × ℕ → Bool) (xs : List (ℕ × ℕ)) (p : ℕ × ℕ) → t p ≡ false → filter t (xs ++ p ∷ []) ≡ filter t xs
filter_one_no t xs p fails = filter-append t xs (p ∷ []) ∙ ap (λ (b : Bool). filter t xs ++ cond b (p ∷ []) []) fails ∙ append-nil (filter t xs)

filter_one_yes : (t : ℕ × ℕ → Bool) (xs : List (ℕ × ℕ)) (p : ℕ × ℕ) → t p ≡ true → filter t (xs ++ p ∷ []) ≡ filter t xs ++ p ∷ []
filter_one_yes t xs p passes = filter-append t xs (p ∷ []) ∙ ap (λ (b : Bool). filter t xs ++ cond b (p ∷ []) []) passes

once_new : (pairs : List (ℕ × ℕ)) (p : ℕ × ℕ) → has_pair pairs p ≡ false → each_once (pairs ++ p ∷ []) ≡ each_once pairs ++ p ∷ []
once_new [] p new = refl
once_new (q ∷ pairs) p new =
    let parts = or_parts (same_pair q p) (has_pair pairs p) new in
    let t : ℕ × ℕ → Bool = λ other. not (same_pair q other) in
    ap (λ (l : List (ℕ × ℕ)). q ∷ filter t l) (once_new pairs p parts.1)
    ∙ ap (λ (l : List (ℕ × ℕ)). q ∷ l) (filter_one_yes t (each_once pairs) p (ap not parts.0))

once_there : (pairs : List (ℕ × ℕ)) (p : ℕ × ℕ) → has_pair pairs p ≡ true → each_once (pairs ++ p ∷ []) ≡ each_once pairs
once_there [] p there = absurd (false≢true there)
once_there (q ∷ pairs) p there =
    let t : ℕ × ℕ → Bool = λ other. not (same_pair q other) in
    elim (cases_Bool (has_pair pairs p)) [
      | inl is ↦ ap (λ (l : List (ℕ × ℕ)). q ∷ filter t l) (once_there pairs p is)
      | inr new ↦
          let same : same_pair q p ≡ true = or_first (same_pair q p) (has_pair pairs p) there new in
          ap (λ (l : List (ℕ × ℕ)). q ∷ filter t l) (once_new pairs p new)
          ∙ ap (λ (l : List (ℕ × ℕ)). q ∷ l) (filter_one_no t (each_once pairs) p (ap not same))
    ]

-- a community more, of communities each once
once_push : (pairs : List (ℕ × ℕ)) (p : ℕ × ℕ) → each_once (pairs ++ p ∷ []) ≡ with_pair (each_once pairs) p
once_push pairs p = elim (cases_Bool (has_pair pairs p)) [
  | inl is ↦ once_there pairs p is ∙ sym (ap (λ (b : Bool). cond b (each_once pairs) (each_once pairs ++ p ∷ [])) (has_once pairs p ∙ is))
  | inr new ↦ once_new pairs p new ∙ sym (ap (λ (b : Bool). cond b (each_once pairs) (each_once pairs ++ p ∷ [])) (has_once pairs p ∙ new))
]

-- each decimal digit passes
abbrev TakesDigits : (ℕ → Bool) → Type 0
TakesDigits p = (c : ℕ) → IsInRange 48 57 c → p c ≡ true

digits_all : (p : ℕ → Bool) → TakesDigits p → (ds : List ℕ) → AllDigits 10 ds → list_all p ds ≡ true
digits_all p takes [] digits = refl
digits_all p takes (c ∷ ds) digits = and_from (p c) (list_all p ds) (takes c (digit_from_value c digits.0)) (digits_all p takes ds digits.1)

-- words
colon_takes_digits : TakesDigits is_no_colon
colon_takes_digits c range = grind (arith, nat_tests)

number_no_colon : (word : List ℕ) (n : ℕ) → IsDecimal word n → list_all is_no_colon word ≡ true
number_no_colon word n is = digits_all is_no_colon colon_takes_digits word is.numeral.1

cut_same : (a b c d : List ℕ) → list_all is_no_colon a ≡ true → list_all is_no_colon c ≡ true → a ++ 58 ∷ b ≡ c ++ 58 ∷ d → (a ≡ c) × (b ≡ d)
cut_same a b c d a_all c_all same =
    let front : a ≡ c = sym (run_front is_no_colon a (58 ∷ b) a_all refl) ∙ ap (take_while is_no_colon) same ∙ run_front is_no_colon c (58 ∷ d) c_all refl in
    let rest : 58 ∷ b ≡ 58 ∷ d = sym (run_rest is_no_colon a (58 ∷ b) a_all refl) ∙ ap (behind is_no_colon) same ∙ run_rest is_no_colon c (58 ∷ d) c_all refl in
    let back : b ≡ d = cc in
    (front, back)

pub cut_none : (word back : List ℕ) → back ≡ behind is_no_colon word → back ≡ [] → list_all is_no_colon word ≡ true
cut_none word back back_is none =
    let whole : word ≡ take_while is_no_colon word =
    run_whole is_no_colon word ∙ ap (λ (l : List ℕ). take_while is_no_colon word ++ l) (sym back_is ∙ none) ∙ append-nil (take_while is_no_colon word) in
    ap (list_all is_no_colon) whole ∙ run_passes is_no_colon word

pub cut_some : (word front back after : List ℕ) (b : ℕ) → front ≡ take_while is_no_colon word → back ≡ behind is_no_colon word → back ≡ b ∷ after → IsCut word front after
cut_some word front back after b front_is back_is cut =
    let stops : first_passes is_no_colon (b ∷ after) ≡ false = ap (first_passes is_no_colon) (sym cut ∙ back_is) ∙ run_stops is_no_colon word in
    let colon : b ≡ 58 = eqb-true b 58 (not-false (eqb b 58) stops) in
    record {
      whole = run_whole is_no_colon word ∙ ap (λ (l : List ℕ). l ++ behind is_no_colon word) (sym front_is)
          ∙ ap (λ (l : List ℕ). front ++ l) (sym back_is ∙ cut) ∙ ap (λ (n : ℕ). front ++ n ∷ after) colon;
      first = ap (list_all is_no_colon) front_is ∙ run_passes is_no_colon word;
    }

-- a word without a colon spells no community
pub no_colon : (word : List ℕ) (pair : ℕ × ℕ) → list_all is_no_colon word ≡ true → IsCommunity word pair → ⊥
no_colon word pair all is =
    let whole : list_all is_no_colon (is.left ++ 58 ∷ is.right) ≡ true = sym (ap (list_all is_no_colon) is.whole) ∙ all in
    let parts = and_parts (list_all is_no_colon is.left) false (sym (list_all-append is_no_colon is.left (58 ∷ is.right)) ∙ whole) in
    false≢true parts.1

parts_of : (word left right : List ℕ) (pair : ℕ × ℕ) → IsCut word left right → IsCommunity word pair → (IsDecimal left pair.0) × (IsDecimal right pair.1)
parts_of word left right pair cut is =
    let same = cut_same is.left is.right left right (number_no_colon is.left pair.0 is.left_is) cut.first (sym is.whole ∙ cut.whole) in
    let P : List ℕ → Type 0 = λ w. IsDecimal w pair.0 in
    let Q : List ℕ → Type 0 = λ w. IsDecimal w pair.1 in
    (subst P same.0 is.left_is, subst Q same.1 is.right_is)

pub no_left : (word left right : List ℕ) → IsCut word left right → ((n : ℕ) → IsDecimal left n → ⊥) → (pair : ℕ × ℕ) → IsCommunity word pair → ⊥
no_left word left right cut none pair is = none pair.0 (parts_of word left right pair cut is).0

pub no_right : (word left right : List ℕ) → IsCut word left right → ((n : ℕ) → IsDecimal right n → ⊥) → (pair : ℕ × ℕ) → IsCommunity word pair → ⊥
no_right word left right cut none pair is = none pair.1 (parts_of word left right pair cut is).1

pub community_kept : (word left right : List ℕ) (system value : Option ℕ) (pair : Option (ℕ × ℕ)) → IsCut word left right → IsKept part_fits (IsDecimal left) system → IsKept part_fits (IsDecimal right) value
    → ((a b : ℕ) → system ≡ kept part_fits a → value ≡ kept part_fits b → pair ≡ kept pair_fits (a, b)) → IsKept pair_fits (IsCommunity word) pair
community_kept word left right system value pair cut one other is =
    ((one.0, other.0), record { left = left; right = right; whole = cut.whole; left_is = one.1; right_is = other.1 }, is one.0 other.0 one.2 other.2)

pub community_agree : (word : List ℕ) (p q : ℕ × ℕ) → IsCommunity word p → IsCommunity word q → p ≡ q
community_agree word p q one other =
    let cut : IsCut word other.left other.right = record { whole = other.whole; first = number_no_colon other.left q.0 other.left_is } in
    let parts = parts_of word other.left other.right p cut one in
    ap (λ (a : ℕ). (a, p.1)) (numbers_agree other.left p.0 q.0 parts.0 other.left_is) ∙ ap (λ (b : ℕ). (q.0, b)) (numbers_agree other.right p.1 q.1 parts.1 other.right_is)

pub communities_agree : (words : List (List ℕ)) (a b : List (ℕ × ℕ)) → AreCommunities words a → AreCommunities words b → a ≡ b
communities_agree [] [] [] one other = refl
communities_agree [] [] (q ∷ b) one other = absurd other
communities_agree [] (p ∷ a) b one other = absurd one
communities_agree (w ∷ words) [] b one other = absurd one
communities_agree (w ∷ words) (p ∷ a) [] one other = absurd other
communities_agree (w ∷ words) (p ∷ a) (q ∷ b) one other =
    ap (λ (x : ℕ × ℕ). x ∷ a) (community_agree w p q one.0 other.0) ∙ ap (λ (l : List (ℕ × ℕ)). q ∷ l) (communities_agree words a b one.1 other.1)

pub coms_agree : (words : List (List ℕ)) (a b : List (ℕ × ℕ)) → IsCom words a → IsCom words b → a ≡ b
coms_agree words a b (inl one) (inl other) = one.1 ∙ sym other.1
coms_agree words a b (inl one) (inr other) = let none : [] ≡ codes "com" ∷ other.first ∷ other.more = sym one.0 ∙ other.whole in cc
coms_agree words a b (inr one) (inl other) = let none : [] ≡ codes "com" ∷ one.first ∷ one.more = sym other.0 ∙ one.whole in cc
coms_agree words a b (inr one) (inr other) =
    let whole : codes "com" ∷ one.first ∷ one.more ≡ codes "com" ∷ other.first ∷ other.more = sym one.whole ∙ other.whole in
    let same : one.first ∷ one.more ≡ other.first ∷ other.more = cc in
    let pairs = communities_agree (other.first ∷ other.more) one.pairs other.pairs (subst (λ (l : List (List ℕ)). AreCommunities l one.pairs) same one.pairs_are) other.pairs_are in
    one.once ∙ ap each_once pairs ∙ sym other.once

-- The words begin with communities, of which this is kept where all fit, and go on with the rest.
pub record HaveCommunities (words : List (List ℕ)) (coms : List (ℕ × ℕ)) (fit : Bool) (rest : List (List ℕ)) : Type 0 where
  pub front : List (List ℕ)
  pub pairs : List (ℕ × ℕ)
  pub whole : words ≡ front ++ rest
  pub pairs_are : AreCommunities front pairs
  pub fit_is : fit ≡ coms_fit (each_once pairs)
  pub once : fit ≡ true → coms ≡ each_once pairs

pub have_no_community : (words : List (List ℕ)) (coms : List (ℕ × ℕ)) (fit : Bool) → coms ≡ [] → fit ≡ true → HaveCommunities words coms fit words
have_no_community words coms fit none holds = record { front = []; pairs = []; whole = refl; pairs_are = tt; fit_is = holds; once = λ is. none }

communities_push : (front : List (List ℕ)) (pairs : List (ℕ × ℕ)) (word : List ℕ) (pair : ℕ × ℕ) → AreCommunities front pairs → IsCommunity word pair
    → AreCommunities (front ++ word ∷ []) (pairs ++ pair ∷ [])
communities_push [] [] word pair are is = (is, tt)
communities_push [] (p ∷ pairs) word pair are is = absurd are
communities_push (w ∷ front) [] word pair are is = absurd are
communities_push (w ∷ front) (p ∷ pairs) word pair are is = (are.0, communities_push front pairs word pair are.1 is)

-- whether a list still fits with one more
one_of_those : (l : List (ℕ × ℕ)) (p : ℕ × ℕ) → has_pair l p ≡ true → list_all pair_fits l ≡ true → pair_fits p ≡ true
one_of_those [] p has all = absurd (false≢true has)
one_of_those (q ∷ l) p has all =
    let parts = and_parts (pair_fits q) (list_all pair_fits l) all in
    elim (cases_Bool (same_pair q p)) [
      | inl same ↦ ap pair_fits (sym (pair_same q p same)) ∙ parts.0
      | inr differ ↦ one_of_those l p (or_second (same_pair q p) (has_pair l p) has differ) parts.1
    ]

all_with : (l : List (ℕ × ℕ)) (p : ℕ × ℕ) → list_all pair_fits (l ++ p ∷ []) ≡ (list_all pair_fits l && pair_fits p)
all_with l p = list_all-append pair_fits l (p ∷ []) ∙ ap (λ (b : Bool). list_all pair_fits l && b) (and_true_right (pair_fits p))

shorter_fits : (l : List (ℕ × ℕ)) (p : ℕ × ℕ) → nat_le (length (l ++ p ∷ [])) 64 ≡ true → nat_le (length l) 64 ≡ true
shorter_fits l p fits_more =
    let more : length (l ++ p ∷ []) ≡ length l + 1 = length-append l (p ∷ []) in
    let few : nat_le (length l + 1) 64 ≡ true = ap (λ (n : ℕ). nat_le n 64) (sym more) ∙ fits_more in
    less_fits (length l) few

with_there : (l : List (ℕ × ℕ)) (p : ℕ × ℕ) → has_pair l p ≡ true → with_pair l p ≡ l
with_there l p has = ap (λ (b : Bool). cond b l (l ++ p ∷ [])) has

with_new : (l : List (ℕ × ℕ)) (p : ℕ × ℕ) → has_pair l p ≡ false → with_pair l p ≡ l ++ p ∷ []
with_new l p has = ap (λ (b : Bool). cond b l (l ++ p ∷ [])) has

-- one that doesn't fit leaves it so
stays_unfit : (l : List (ℕ × ℕ)) (p : ℕ × ℕ) → coms_fit l ≡ false → coms_fit (with_pair l p) ≡ false
stays_unfit l p unfit = elim (cases_Bool (has_pair l p)) [
  | inl has ↦ ap coms_fit (with_there l p has) ∙ unfit
  | inr new ↦
      elim (cases_Bool (coms_fit (with_pair l p))) [
        | inl holds ↦
            let parts = and_parts (list_all pair_fits (l ++ p ∷ [])) (nat_le (length (l ++ p ∷ [])) 64) (sym (ap coms_fit (with_new l p new)) ∙ holds) in
            let first = and_parts (list_all pair_fits l) (pair_fits p) (sym (all_with l p) ∙ parts.0) in
            absurd (false≢true (sym unfit ∙ and_from (list_all pair_fits l) (nat_le (length l) 64) first.0 (shorter_fits l p parts.1)))
        | inr fails ↦ fails
      ]
]

-- with one more the fitting ones fit where it does and they are few
fit_with : (l : List (ℕ × ℕ)) (p : ℕ × ℕ) → coms_fit l ≡ true → coms_fit (with_pair l p) ≡ (pair_fits p && nat_le (length (with_pair l p)) 64)
fit_with l p fit =
    let parts = and_parts (list_all pair_fits l) (nat_le (length l) 64) fit in
    elim (cases_Bool (has_pair l p)) [
      | inl has ↦
          ap coms_fit (with_there l p has) ∙ fit
          ∙ sym (and_from (pair_fits p) (nat_le (length (with_pair l p)) 64) (one_of_those l p has parts.0) (ap (λ (m : List (ℕ × ℕ)). nat_le (length m) 64) (with_there l p has) ∙ parts.1))
      | inr new ↦
          ap coms_fit (with_new l p new)
          ∙ ap (λ (b : Bool). b && nat_le (length (l ++ p ∷ [])) 64) (all_with l p ∙ ap (λ (b : Bool). b && pair_fits p) parts.0)
          ∙ ap (λ (m : List (ℕ × ℕ)). pair_fits p && nat_le (length m) 64) (sym (with_new l p new))
    ]

fit_more : (pairs coms new : List (ℕ × ℕ)) (pair : ℕ × ℕ) (fit new_fit : Bool) → fit ≡ coms_fit (each_once pairs) → (fit ≡ true → coms ≡ each_once pairs)
    → (fit ≡ true → Puts pair coms new_fit new) → (fit ≡ false → new_fit ≡ false) → new_fit ≡ coms_fit (each_once (pairs ++ pair ∷ []))
fit_more pairs coms new pair true new_fit fit_is once puts stays =
    (puts refl).fit_is ∙ ap (λ (l : List (ℕ × ℕ)). pair_fits pair && nat_le (length (with_pair l pair)) 64) (once refl)
    ∙ sym (ap coms_fit (once_push pairs pair) ∙ fit_with (each_once pairs) pair (sym fit_is))
fit_more pairs coms new pair false new_fit fit_is once puts stays =
    stays refl ∙ sym (ap coms_fit (once_push pairs pair) ∙ stays_unfit (each_once pairs) pair (sym fit_is))

once_more : (pairs coms new : List (ℕ × ℕ)) (pair : ℕ × ℕ) (fit new_fit : Bool) → (fit ≡ true → coms ≡ each_once pairs) → (fit ≡ true → Puts pair coms new_fit new) → (fit ≡ false → new_fit ≡ false)
    → new_fit ≡ true → new ≡ each_once (pairs ++ pair ∷ [])
once_more pairs coms new pair true new_fit once puts stays holds =
    (puts refl).added holds ∙ ap (λ (l : List (ℕ × ℕ)). with_pair l pair) (once refl) ∙ sym (once_push pairs pair)
once_more pairs coms new pair false new_fit once puts stays holds = absurd (false≢true (sym (stays refl) ∙ holds))

pub have_community_more : (words rest after : List (List ℕ)) (coms new : List (ℕ × ℕ)) (fit new_fit : Bool) (word : List ℕ) → HaveCommunities words coms fit rest → rest ≡ word ∷ after
    → AddsOne word fit coms new_fit new → HaveCommunities words new new_fit after
have_community_more words rest after coms new fit new_fit word have cut adds = record {
  front = have.front ++ word ∷ [];
  pairs = have.pairs ++ adds.pair ∷ [];
  whole = have.whole ∙ ap (λ (l : List (List ℕ)). have.front ++ l) cut ∙ sym (append_assoc have.front (word ∷ []) after);
  pairs_are = communities_push have.front have.pairs word adds.pair have.pairs_are adds.pair_is;
  fit_is = fit_more have.pairs coms new adds.pair fit new_fit have.fit_is have.once adds.puts adds.stays;
  once = once_more have.pairs coms new adds.pair fit new_fit have.once adds.puts adds.stays;
}

pub all_communities : (words : List (List ℕ)) (coms : List (ℕ × ℕ)) (fit : Bool) (rest : List (List ℕ)) → HaveCommunities words coms fit rest → rest ≡ []
    → IsKept coms_fit (AreOnce words) (cond fit (Some coms) None)
all_communities words coms true rest have none =
    let same : have.front ≡ words = sym (have.whole ∙ ap (λ (l : List (List ℕ)). have.front ++ l) none ∙ append-nil have.front) in (
      each_once have.pairs,
      record { pairs = have.pairs; pairs_are = subst (λ (l : List (List ℕ)). AreCommunities l have.pairs) same have.pairs_are; once = refl },
      ap (λ (l : List (ℕ × ℕ)). Some l) (have.once refl) ∙ sym (kept_yes coms_fit (each_once have.pairs) (sym have.fit_is)),
    )
all_communities words coms false rest have none =
    let same : have.front ≡ words = sym (have.whole ∙ ap (λ (l : List (List ℕ)). have.front ++ l) none ∙ append-nil have.front) in (
      each_once have.pairs,
      record { pairs = have.pairs; pairs_are = subst (λ (l : List (List ℕ)). AreCommunities l have.pairs) same have.pairs_are; once = refl },
      sym (kept_no coms_fit (each_once have.pairs) (sym have.fit_is)),
    )

-- the pairs of words with one in the middle
communities_split : (front : List (List ℕ)) (word : List ℕ) (rest : List (List ℕ)) (known pairs : List (ℕ × ℕ)) → AreCommunities front known → AreCommunities (front ++ word ∷ rest) pairs
    → (pair : ℕ × ℕ) × (more : List (ℕ × ℕ)) × IsCommunity word pair × (pairs ≡ known ++ pair ∷ more)
communities_split [] word rest [] [] known_are are = absurd are
communities_split [] word rest [] (p ∷ pairs) known_are are = (p, pairs, are.0, refl)
communities_split [] word rest (k ∷ known) pairs known_are are = absurd known_are
communities_split (w ∷ front) word rest [] pairs known_are are = absurd known_are
communities_split (w ∷ front) word rest (k ∷ known) [] known_are are = absurd are
communities_split (w ∷ front) word rest (k ∷ known) (p ∷ pairs) known_are are =
    let behind = communities_split front word rest known pairs known_are.1 are.1 in
    (behind.0, behind.1, behind.2, ap (λ (x : ℕ × ℕ). x ∷ pairs) (community_agree w p k are.0 known_are.0) ∙ ap (λ (l : List (ℕ × ℕ)). k ∷ l) behind.3)

-- a word that spells no community refuses them
pub no_communities : (words rest after : List (List ℕ)) (coms : List (ℕ × ℕ)) (fit : Bool) (word : List ℕ) → HaveCommunities words coms fit rest → rest ≡ word ∷ after
    → ((pair : ℕ × ℕ) → IsCommunity word pair → ⊥) → (others : List (ℕ × ℕ)) → AreOnce words others → ⊥
no_communities words rest after coms fit word have cut none others are =
    let whole : words ≡ have.front ++ word ∷ after = have.whole ∙ ap (λ (l : List (List ℕ)). have.front ++ l) cut in
    let parts = communities_split have.front word after have.pairs are.pairs have.pairs_are (subst (λ (l : List (List ℕ)). AreCommunities l are.pairs) whole are.pairs_are) in
    none parts.0 parts.2

pub once_of_com : (words rest : List (List ℕ)) → words ≡ codes "com" ∷ rest → (coms : List (ℕ × ℕ)) → IsCom words coms → AreOnce rest coms
once_of_com words rest label coms (inl none) = let whole : [] ≡ codes "com" ∷ rest = sym none.0 ∙ label in cc
once_of_com words rest label coms (inr given) =
    let whole : codes "com" ∷ given.first ∷ given.more ≡ codes "com" ∷ rest = sym given.whole ∙ label in
    let same : given.first ∷ given.more ≡ rest = cc in
    record { pairs = given.pairs; pairs_are = subst (λ (l : List (List ℕ)). AreCommunities l given.pairs) same given.pairs_are; once = given.once }

pub com_given : (words rest : List (List ℕ)) → words ≡ codes "com" ∷ rest → (rest ≡ [] → ⊥) → (coms : List (ℕ × ℕ)) → AreOnce rest coms → IsCom words coms
com_given words [] label filled coms is = absurd (filled refl)
com_given words (first ∷ more) label filled coms is = inr (record { first = first; more = more; pairs = is.pairs; whole = label; pairs_are = is.pairs_are; once = is.once })

pub read_coms : (words rest : List (List ℕ)) (r : Result (Option (List (ℕ × ℕ))) Refusal) → words ≡ codes "com" ∷ rest → (rest ≡ [] → ⊥)
    → MatchResult r (λ coms. IsKept coms_fit (AreOnce rest) coms) (λ refusal. IfForm refusal ((coms : List (ℕ × ℕ)) → AreOnce rest coms → ⊥))
    → MatchResult r (λ coms. IsKept coms_fit (IsCom words) coms) (λ refusal. IfForm refusal ((coms : List (ℕ × ℕ)) → IsCom words coms → ⊥))
read_coms words rest (Ok coms) label filled is = (is.0, com_given words rest label filled is.0 is.1, is.2)
read_coms words rest (Err refusal) label filled none = form_more refusal _ _ (λ no coms given. no coms (once_of_com words rest label coms given)) none
