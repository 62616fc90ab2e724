-- For private contracts alone: the parts that the readers take a text apart into.
use Rattle.std.specs.Prelude.{◌≡◌, ◌≢◌, length, slice_index, ℕ, ◌+◌, ◌<◌, ◌==◌, Option, option_map, List, ◌∷◌, ◌++◌, take, drop, position, decimal, false, ◌≤◌, [], map, replicate}
use Rattle.std.specs.Fmt.{digits}
use Rattle.std.specs.Int.Digits.{number_from_digits}
use Rattle.std.specs.List.{slice_split}
use Rattle.std.specs.Str.Parse.{digits_value}
use Rattle.bits_ip.specs.Text.{AreGroups}

-- what stands before the first such byte, and what stands behind it
abbrev pub split_first : ℕ → List ℕ → Option (List ℕ × List ℕ)
split_first mark text =
    option_map (λ i. (take i text, drop (i + 1) text)) (position (λ b. b == mark) text)

-- the text is a number below 256 without leading zeros
abbrev pub IsOctet : List ℕ → ℕ → Type 0
IsOctet text n = (n < 256) × (text ≡ decimal n)

-- such a number, a dot and the rest
abbrev pub IsOctetFirst : List ℕ → ℕ → List ℕ → Type 0
IsOctetFirst text n rest = (n < 256) × (text ≡ decimal n ++ 46 ∷ rest)

-- with no plus sign, and no zero before further digits
abbrev pub BeginsPlainly : List ℕ → Type 0
BeginsPlainly text = (slice_index text 0 ≢ 43) × (slice_index text 0 ≡ 48 → length text ≡ 1)

-- a colon and a group in hexadecimal
abbrev pub behind_colon : ℕ → List ℕ
behind_colon group = 58 ∷ digits 16 false group

-- the words between colons; an empty text has none
abbrev pub group_words : List ℕ → List (List ℕ)
group_words [] = []
group_words (b ∷ bs) = slice_split (λ c. c == 58) (b ∷ bs)

-- what the words spell
abbrev pub values : List (List ℕ) → List ℕ
values words = map (λ word. digits_value 16 word) words

-- the words spell groups
abbrev pub AreWords : List (List ℕ) → Type 0
AreWords words = AreGroups words (values words)

-- how many groups these are, eight at most, and their bits as one number
pub record IsRow (gs : List ℕ) (count bits : ℕ) : Type 0 where
  pub counted : length gs ≡ count
  pub within : count ≤ 8
  pub number : number_from_digits 65536 gs ≡ bits

-- groups stand before and behind the zeros that two colons stand for
pub record AreBeside (front back gs : List ℕ) : Type 0 where
  pub front_are : AreWords (group_words front)
  pub back_are : AreWords (group_words back)
  pub zeros : ℕ
  pub some : 1 ≤ zeros
  pub groups_are : gs ≡ values (group_words front) ++ replicate zeros 0 ++ values (group_words back)
