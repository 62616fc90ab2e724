-- Each word spells something or nothing.
use Rattle.std.proofs.Common.{◌≡◌, refl, ℕ, true, false, Bool, List, [], ◌∷◌, length, inl, inr, ◌⊎◌}
use Rattle.std.specs.List.{list_all, take_while}
use Rattle.std.specs.Str.Parse.{digits_value}
use Rattle.std.proofs.lemmas.Bool.{false≢true}
use Rattle.attrs.specs.Text.{origin_text}
use Rattle.attrs.specs.declared.attributes.Origin.{Origin}
use Rattle.attrs.specs.declared.attributes.Origin.TheVariants.{Igp, Egp, Incomplete}
use Rattle.text.specs.Cut.{behind}
use Rattle.announcements.specs.Grammar.{IsDecimal, IsCommunity}
use Rattle.announcements.specs.Reading.{is_no_colon, IsCut}
use Rattle.announcements.proofs.CommunityWords.{cut_none, cut_some, no_colon, no_left, no_right}
use Rattle.queries.proofs.ToldAddresses.{Told, Found, told_both, told_less, told_word, told_digits}

pub told_true : (b : Bool) → Told (b ≡ true)
told_true true = inl refl
told_true false = inr false≢true

-- numbers
pub found_decimal : (word : List ℕ) → Found (IsDecimal word)
found_decimal word = elim (told_both (told_less 0 (length word)) (told_digits 10 word)) [
  | inl is ↦ inl (digits_value 10 word, record { numeral = is; value = refl })
  | inr none ↦ inr (λ n is. none is.numeral)
]

-- origins
no_origin_word : (word : List ℕ) → (word ≡ origin_text Igp → ⊥) → (word ≡ origin_text Egp → ⊥) → (word ≡ origin_text Incomplete → ⊥) → (origin : Origin) → word ≡ origin_text origin → ⊥
no_origin_word word igp egp incomplete Igp is = igp is
no_origin_word word igp egp incomplete Egp is = egp is
no_origin_word word igp egp incomplete Incomplete is = incomplete is

pub found_origin : (word : List ℕ) → Found (λ (origin : Origin). word ≡ origin_text origin)
found_origin word = elim (told_word word (origin_text Igp)) [
  | inl is ↦ inl (Igp, is)
  | inr igp ↦
      elim (told_word word (origin_text Egp)) [
        | inl is ↦ inl (Egp, is)
        | inr egp ↦
            elim (told_word word (origin_text Incomplete)) [
              | inl is ↦ inl (Incomplete, is)
              | inr incomplete ↦ inr (no_origin_word word igp egp incomplete)
            ]
      ]
]

-- communities
cut_or_none : (word back : List ℕ) → back ≡ behind is_no_colon word → ((left : List ℕ) × (right : List ℕ) × IsCut word left right) ⊎ (list_all is_no_colon word ≡ true)
cut_or_none word [] is = inr (cut_none word [] is refl)
cut_or_none word (b ∷ after) is = inl (take_while is_no_colon word, after, cut_some word (take_while is_no_colon word) (b ∷ after) after b refl is refl)

community_of : (word left right : List ℕ) (a b : ℕ) → IsCut word left right → IsDecimal left a → IsDecimal right b → IsCommunity word (a, b)
community_of word left right a b cut one other = record { left = left; right = right; whole = cut.whole; left_is = one; right_is = other }

pub found_community : (word : List ℕ) → Found (IsCommunity word)
found_community word = elim (cut_or_none word (behind is_no_colon word) refl) [
  | inl cut ↦
      elim (found_decimal cut.0) [
        | inl one ↦
            elim (found_decimal cut.1) [
              | inl other ↦ inl ((one.0, other.0), community_of word cut.0 cut.1 one.0 other.0 cut.2 one.1 other.1)
              | inr none ↦ inr (no_right word cut.0 cut.1 cut.2 none)
            ]
        | inr none ↦ inr (no_left word cut.0 cut.1 cut.2 none)
      ]
  | inr all ↦ inr (λ pair is. no_colon word pair all is)
]
