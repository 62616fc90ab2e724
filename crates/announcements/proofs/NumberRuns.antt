-- The numbers at the front of some words.
use Rattle.std.proofs.Common.{◌≡◌, ◌∙◌, sym, ap, refl, ℕ, Bool, true, false, ◌&&◌, List, [], ◌∷◌, ◌++◌, Option, Some, None}
use Rattle.std.specs.List.{list_all}
use Rattle.std.proofs.lemmas.Bool.{false≢true}
use Rattle.std.proofs.lemmas.List.{append_assoc}
use Rattle.std.proofs.lemmas.List.Folds.{list_all-append}
use Rattle.announcements.specs.Grammar.{IsDecimal, AreDecimals}
use Rattle.announcements.specs.Limits.{fits}
use Rattle.announcements.specs.Reading.{HasNoNumber, BeginWithNumber, ReadsNumbers, KeepsNumber, kept}
use Rattle.announcements.proofs.Kept.{none_kept, some_kept, and_no_right}

-- The words begin with numbers, of which this is kept where all fit, and go on with the rest.
pub record HaveNumbers (words : List (List ℕ)) (items : List ℕ) (fit : Bool) (rest : List (List ℕ)) : Type 0 where
  pub front : List (List ℕ)
  pub raw : List ℕ
  pub whole : words ≡ front ++ rest
  pub raw_are : AreDecimals front raw
  pub fit_is : fit ≡ list_all fits raw
  pub kept_is : fit ≡ true → items ≡ raw

pub have_none : (words : List (List ℕ)) (items : List ℕ) (fit : Bool) → items ≡ [] → fit ≡ true → HaveNumbers words items fit words
have_none words items fit none all = record { front = []; raw = []; whole = refl; raw_are = tt; fit_is = all; kept_is = λ is. none }

decimals_push : (front : List (List ℕ)) (numbers : List ℕ) (word : List ℕ) (n : ℕ) → AreDecimals front numbers → IsDecimal word n → AreDecimals (front ++ word ∷ []) (numbers ++ n ∷ [])
decimals_push [] [] word n are is = (is, tt)
decimals_push [] (m ∷ numbers) word n are is = absurd are
decimals_push (w ∷ front) [] word n are is = absurd are
decimals_push (w ∷ front) (m ∷ numbers) word n are is = (are.0, decimals_push front numbers word n are.1 is)

and_true_right : (a : Bool) → (a && true) ≡ a
and_true_right true = refl
and_true_right false = refl

all_push : (raw : List ℕ) (n : ℕ) → list_all fits (raw ++ n ∷ []) ≡ (list_all fits raw && fits n)
all_push raw n = list_all-append fits raw (n ∷ []) ∙ ap (λ (b : Bool). list_all fits raw && b) (and_true_right (fits n))

fit_more : (number : Option ℕ) (old new raw : List ℕ) (n : ℕ) (fit new_fit : Bool) → number ≡ kept fits n → fit ≡ list_all fits raw → KeepsNumber number old fit new new_fit
    → new_fit ≡ list_all fits (raw ++ n ∷ [])
fit_more None old new raw n fit new_fit number is keeps = keeps ∙ sym (all_push raw n ∙ and_no_right (list_all fits raw) (fits n) (none_kept fits n number))
fit_more (Some m) old new raw n fit new_fit number is keeps =
    let parts = some_kept fits n m number in
    keeps.0 ∙ is ∙ sym (all_push raw n ∙ ap (λ (b : Bool). list_all fits raw && b) parts.0 ∙ and_true_right (list_all fits raw))

kept_more : (number : Option ℕ) (old new raw : List ℕ) (n : ℕ) (fit new_fit : Bool) → number ≡ kept fits n → (fit ≡ true → old ≡ raw) → KeepsNumber number old fit new new_fit → new_fit ≡ true
    → new ≡ raw ++ n ∷ []
kept_more None old new raw n fit new_fit number is keeps holds = absurd (false≢true (sym keeps ∙ holds))
kept_more (Some m) old new raw n fit new_fit number is keeps holds =
    let parts = some_kept fits n m number in
    keeps.1 ∙ ap (λ (l : List ℕ). l ++ m ∷ []) (is (sym keeps.0 ∙ holds)) ∙ ap (λ (k : ℕ). raw ++ k ∷ []) parts.1

pub have_more : (words rest after : List (List ℕ)) (old new : List ℕ) (fit new_fit : Bool) (number : Option ℕ) → HaveNumbers words old fit rest → BeginWithNumber rest number after
    → KeepsNumber number old fit new new_fit → HaveNumbers words new new_fit after
have_more words rest after old new fit new_fit number have begin keeps = record {
  front = have.front ++ begin.word ∷ [];
  raw = have.raw ++ begin.n ∷ [];
  whole = have.whole ∙ ap (λ (l : List (List ℕ)). have.front ++ l) begin.whole ∙ sym (append_assoc have.front (begin.word ∷ []) after);
  raw_are = decimals_push have.front have.raw begin.word begin.n have.raw_are begin.number_is;
  fit_is = fit_more number old new have.raw begin.n fit new_fit begin.kept_is have.fit_is keeps;
  kept_is = kept_more number old new have.raw begin.n fit new_fit begin.kept_is have.kept_is keeps;
}

pub have_all : (words rest : List (List ℕ)) (items : List ℕ) (fit : Bool) → HaveNumbers words items fit rest → HasNoNumber rest → ReadsNumbers words items fit rest
have_all words rest items fit have none = record {
  raw = have.raw;
  begin = record { front = have.front; whole = have.whole; numbers_are = have.raw_are; longest = none };
  fit_is = have.fit_is;
  kept_is = have.kept_is;
}
