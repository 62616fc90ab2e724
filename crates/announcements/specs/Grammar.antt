-- What the words of an `add` say by the grammar alone, with numbers of any size (`IsAdd`), and what
-- decimal numbers are (`IsDecimal`).
-- Not modelled: who announces, and limits of numbers (specs/Limits).
-- From: own, this program's format of scripts; paths and origins are those of RFC 4271, communities
-- those of RFC 1997.
-- Example: `10.0.0.0/8 via 192.0.2.1 path 65001 origin igp med 007` gives a MED of 7.
use Rattle.std.specs.Prelude.{◌≡◌, ℕ, ◌⊎◌, not}
use Rattle.std.specs.Prelude.{List, [], ◌∷◌, ◌++◌, filter, codes, Option, None, Some, ⊤}
use Rattle.std.specs.Str.Parse.{IsNumeral, digits_value}
use Rattle.bits_ip.specs.Prefix.{Net}
use Rattle.bits_ip.specs.Text.{IsAddrText, IsNetText}
use Rattle.attrs.specs.Clist.{same_pair}
use Rattle.attrs.specs.Text.{origin_text}
use Rattle.import_core.specs.declared.operation.Given.{Given}

-- One or more decimal digits spell a number of any size; zeros in front change nothing.
pub record IsDecimal (word : List ℕ) (n : ℕ) : Type 0 where
  pub numeral : IsNumeral 10 word
  pub value : digits_value 10 word ≡ n

-- these words spell these numbers, one each
abbrev pub AreDecimals : List (List ℕ) → List ℕ → Type 0
AreDecimals [] [] = ⊤
AreDecimals (word ∷ words) (n ∷ numbers) = IsDecimal word n × AreDecimals words numbers
AreDecimals _ _ = ⊥

-- an optional part of `add`: nothing, or its label and a number
abbrev pub IsOption : List ℕ → List (List ℕ) → Option ℕ → Type 0
IsOption label words None = words ≡ []
IsOption label words (Some n) = (word : List ℕ) × (words ≡ label ∷ word ∷ []) × IsDecimal word n

-- A:B, two numbers
pub record IsCommunity (word : List ℕ) (pair : ℕ × ℕ) : Type 0 where
  pub left : List ℕ
  pub right : List ℕ
  pub whole : word ≡ left ++ 58 ∷ right
  pub left_is : IsDecimal left pair.0
  pub right_is : IsDecimal right pair.1

-- these words spell these communities, one each
abbrev pub AreCommunities : List (List ℕ) → List (ℕ × ℕ) → Type 0
AreCommunities [] [] = ⊤
AreCommunities (word ∷ words) (pair ∷ pairs) = IsCommunity word pair × AreCommunities words pairs
AreCommunities _ _ = ⊥

-- each pair once, in its first place
abbrev pub each_once : List (ℕ × ℕ) → List (ℕ × ℕ)
each_once [] = []
each_once (pair ∷ pairs) = pair ∷ filter (λ other. not (same_pair pair other)) (each_once pairs)

-- `com` and one community or more; a repeated one counts once
pub record IsComGiven (words : List (List ℕ)) (coms : List (ℕ × ℕ)) : Type 0 where
  pub first : List ℕ
  pub more : List (List ℕ)
  pub pairs : List (ℕ × ℕ)
  pub whole : words ≡ codes "com" ∷ first ∷ more
  pub pairs_are : AreCommunities (first ∷ more) pairs
  pub once : coms ≡ each_once pairs

-- the communities of an `add`: nothing, or `com` and communities
abbrev pub IsCom : List (List ℕ) → List (ℕ × ℕ) → Type 0
IsCom words coms = ((words ≡ []) × (coms ≡ [])) ⊎ IsComGiven words coms

-- NET via IP path NUMBERS origin ORIGIN, and the optional parts in their order
pub record IsAdd (words : List (List ℕ)) (net : Net) (given : Given) : Type 0 where
  pub net_word : List ℕ
  pub gateway_word : List ℕ
  pub path_words : List (List ℕ)
  pub med_words : List (List ℕ)
  pub lp_words : List (List ℕ)
  pub igp_words : List (List ℕ)
  pub com_words : List (List ℕ)
  pub whole : words ≡ net_word ∷ codes "via" ∷ gateway_word ∷ codes "path" ∷ path_words
      ++ codes "origin" ∷ origin_text given.origin ∷ med_words ++ lp_words ++ igp_words ++ com_words
  pub net_is : IsNetText net_word net
  pub gateway_is : IsAddrText gateway_word given.gw
  pub path_is : AreDecimals path_words given.path
  pub med_is : IsOption (codes "med") med_words given.med
  pub lp_is : IsOption (codes "lp") lp_words given.lp
  pub igp_is : IsOption (codes "igp") igp_words given.igp
  pub com_is : IsCom com_words given.coms
