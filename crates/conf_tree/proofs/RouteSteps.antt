-- Reading the options of static protocols, one step of the parser after another.
use Rattle.std.proofs.Common.{◌≡◌, ℕ, zero, suc, false, List, [], ◌∷◌, refl}
use Rattle.conf_lex.specs.declared.symbol.Symbol.TheVariants as sym
use Rattle.conf_lex.specs.declared.word.Word.{Word}
use Rattle.conf_lex.specs.declared.word.Word.TheVariants as words
use Rattle.bits_ip.specs.declared.address.Family.{Family}
use Rattle.conf_lex.specs.Kind.{prefix, symbol}
use Rattle.conf_lex.specs.Grammar.{Left, Right, begins}
use Rattle.conf_lex.specs.Reading.{Parsed, and_then, word, both}
use Rattle.conf_syntax.specs.Syntax.{is_family}
use Rattle.conf_syntax.specs.View.{family_symbol}
use Rattle.conf_tree.specs.Readers.{channel_at, static_option_at}
use Rattle.conf_syntax.specs.Readers.{route_target_at}
use Rattle.conf_tree.proofs.ChannelSteps.{family_passes}

pub static_channel : (k at : ℕ) (f : Family) (ws u : List Word) → ws ≡ words.Placed at (family_symbol f) ∷ u → static_option_at k ws ≡ and_then (channel_at k ws) (λ c v. Parsed (Left c) v)
unfolding static_option_at channel_at
static_channel zero at f ws u is = rw (is, family_passes at f) refl
static_channel (suc k) at f ws u is = rw (is, family_passes at f) refl

-- what begins no channel is a route, or none
pub static_route : (k : ℕ) (ws : List Word) → begins is_family ws ≡ false → static_option_at k ws ≡ and_then (both (word (symbol sym.Route)) (both (word prefix) (route_target_at 0)) ws) (λ t u. Parsed (Right t) u)
unfolding static_option_at route_target_at
static_route zero [] none = refl
static_route (suc k) [] none = refl
static_route zero (w ∷ ws) none = rw none refl
static_route (suc k) (w ∷ ws) none = rw none refl
