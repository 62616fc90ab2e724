-- For private contracts alone: where a walk over the words of a text has come, so that a word is
-- found again without the whole walk.
use Rattle.std.specs.Prelude.{◌≡◌, ℕ, ◌-◌, ◌≤◌, ◌<◌, List, ◌++◌, length, map, slice_index_or}
use Rattle.std.specs.Prelude.{get_or}
use Rattle.conf_scan.specs.Lex.{Lexes}
use Rattle.conf_scan.specs.Spots.{IsSpot, LexesFrom}
use Rattle.conf_scan.specs.declared.lexer.Spot.{Spot}
use Rattle.conf_scan.specs.declared.token.Token.{Token}
use Rattle.conf_lex.specs.Words.{words_from}
use Rattle.conf_words.specs.Significant.{depth_of, significant, token_of}
use Rattle.conf_words.specs.declared.significant.Mark.{Mark}
use Rattle.conf_words.specs.declared.significant.Region.{Region}
use Rattle.conf_words.specs.declared.significant.Region.TheVariants as regions

-- Some of these tokens stand before the spot, and the others are those of the text from there on.
-- The word that is looked for is so many words that say something behind it.
pub record IsAhead (text : List ℕ) (tokens : List Token) (place left : ℕ) (region : Region)
    (to : Spot) : Type 0 where
  pub front : List Token
  pub more : List Token
  pub cut : tokens ≡ front ++ more
  pub lexes : LexesFrom text to more
  pub start : token_of text tokens place
      ≡ slice_index_or (map (λ p. p.0) (significant region (words_from text (length front) 0 more)))
      left (length tokens)

pub record IsSought (text : List ℕ) (place left : ℕ) (region : Region) (to : Spot)
    : Type 0 where
  pub spot : IsSpot text to
  pub deep : depth_of region ≤ to.at
  pub ahead : (tokens : List Token) → Lexes 0 text tokens → IsAhead text tokens place left region to

-- words that say something stand before the mark's spot, as many as it tells
pub record IsMark (text : List ℕ) (m : Mark) : Type 0 where
  pub passed : (place : ℕ) → m.count ≤ place
      → IsSought text place (place - m.count) m.region m.spot

abbrev pub AreMarks : List ℕ → List Mark → Type 0
AreMarks text ms = (d : Mark) (n : ℕ) → n < length ms → IsMark text (get_or ms n d)

-- before the first word
abbrev pub first_mark : Mark
first_mark =
    record { count = 0; region = regions.Statements; spot = record { at = 0; plain = 0 } }
