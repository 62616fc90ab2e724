-- What is read of a text word by word, from a place on (`IsWordStep`), for `next_word`.
-- Not modelled: lists of words (`Words`).
-- From: own.
-- Example: in `10.0.0.0 / 8` the word that begins at 0 ends behind the 8.
use Rattle.std.specs.Prelude.{◌≡◌, ℕ, ◌+◌, ◌<◌, List, ◌∷◌, ◌++◌, length, drop}
use Rattle.conf_scan.specs.Lex.{Stops}
use Rattle.conf_scan.specs.Spots.{IsSpot, LexesFrom}
use Rattle.conf_scan.specs.declared.lexer.Spot.{Spot}
use Rattle.conf_scan.specs.declared.token.Token.{Token}
use Rattle.conf_lex.specs.Words.{words_from}
use Rattle.conf_lex.specs.declared.word.Word.{Word}

-- Some tokens stand next, and the other place is behind them. With whatever the text has there,
-- they are this word and the words of what is there; and where the text is refused behind them, it
-- is refused there.
pub record IsWordStep (text : List ℕ) (from : Spot) (word : Word) (to : Spot) : Type 0 where
  pub made : List Token
  pub lexes : (more : List Token) → LexesFrom text to more → LexesFrom text from (made ++ more)
  pub back : (ts : List Token) → LexesFrom text from ts
      → (more : List Token) × (ts ≡ made ++ more) × LexesFrom text to more
  pub stops : (more : List Token) (place : ℕ) → Stops to.at (drop to.at text) more place
      → Stops from.at (drop from.at text) (made ++ more) place
  pub words : (i : ℕ) (more : List Token) → LexesFrom text to more
      → words_from text i 0 (made ++ more) ≡ (i, word) ∷ words_from text (i + length made) 0 more
  pub spot : IsSpot text to
  pub rises : from.at < to.at
