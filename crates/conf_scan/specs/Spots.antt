-- What is read of a text token by token, from a place on (`IsStep`, `IsStuckFrom`), for
-- `next_token`.
-- Not modelled: lists of tokens (`Lex`).
-- From: own.
-- Example: in `10.0.0.0 / 8` the token that begins at 8 ends at 10.
use Rattle.std.specs.Prelude.{◌≡◌, ℕ, ◌+◌, ◌<◌, ◌≤◌, false, List, [], length, drop}
use Rattle.conf_scan.specs.Fronts.{begins_colons}
use Rattle.conf_scan.specs.Lex.{IsNext, Lexes, Stops}
use Rattle.conf_scan.specs.Spans.{IsWithin}
use Rattle.conf_scan.specs.declared.lexer.Spot.{Spot}
use Rattle.conf_scan.specs.declared.token.LexFault.{LexFault}
use Rattle.conf_scan.specs.declared.token.LexFault.TheVariants.{Bad, Memory}
use Rattle.conf_scan.specs.declared.token.Token.{Token}

-- the place is within the text, and no IPv6 address begins from there to `plain`
pub record IsSpot (text : List ℕ) (spot : Spot) : Type 0 where
  pub within : spot.at ≤ length text
  pub plain : (k : ℕ) → spot.at + k < spot.plain → begins_colons (drop (spot.at + k) text) ≡ false

-- the tokens from a place on
abbrev pub LexesFrom : List ℕ → Spot → List Token → Type 0
LexesFrom text spot tokens = Lexes spot.at (drop spot.at text) tokens

-- from this place on the text is refused, at the fault's byte
abbrev pub IsStuckFrom : List ℕ → Spot → LexFault → Type 0
IsStuckFrom text spot (Bad place) = Stops spot.at (drop spot.at text) [] place
IsStuckFrom text spot Memory = ⊥

-- this token stands next, and the other place is behind it
pub record IsStep (text : List ℕ) (from : Spot) (t : Token) (to : Spot) : Type 0 where
  pub next : IsNext from.at (drop from.at text) t (drop to.at text)
  pub ends : to.at ≡ t.at + t.len
  pub inside : IsWithin text t
  pub spot : IsSpot text to
  pub rises : from.at < to.at
