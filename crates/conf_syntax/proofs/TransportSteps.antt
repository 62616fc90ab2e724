-- Reading the options of a session's transport, one step of the parser after another.
use Rattle.std.proofs.Common.{◌≡◌, ℕ, Bool, false, ◌||◌, List, [], ◌∷◌, refl}
use Rattle.conf_ast.specs.declared.attribute.Attribute.TheVariants as attributes
use Rattle.conf_lex.specs.declared.symbol.Symbol.TheVariants as sym
use Rattle.conf_lex.specs.declared.word.Word.{Word}
use Rattle.conf_lex.specs.declared.word.Word.TheVariants as words
use Rattle.conf_lex.specs.Kind.{Kind, attribute, text, address, symbol}
use Rattle.conf_lex.specs.Grammar.{Pair, begins}
use Rattle.conf_lex.specs.Reading.{Parsed, and_then, word, both}
use Rattle.conf_lex.specs.Leaves.{symbol_leaf}
use Rattle.expr_syntax.specs.Rows.{nth, beyond}
use Rattle.expr_syntax.proofs.Tested.{is_checked}
use Rattle.conf_syntax.specs.Syntax.{transport}
use Rattle.conf_syntax.specs.View.{attribute_leaf}
use Rattle.conf_syntax.specs.Readers.{transport_at, time_at, optional_number_at, optional_switch_at}
use Rattle.conf_syntax.proofs.Heads.{headed}
use Rattle.conf_syntax.proofs.FirstWords.{behind_six}

transport_checked : is_checked transport
transport_checked = refl

abbrev is_described : Kind → Bool
is_described k = symbol sym.Description k || symbol sym.Password k

abbrev is_timed : Kind → Bool
is_timed k = symbol sym.Hold k || symbol sym.Keepalive k

pub description_is : (ws u : List Word) → ws ≡ words.Symbol sym.Description ∷ u → transport_at 0 ws ≡ and_then (word text u) (λ t v. Parsed (nth 0 (Pair (symbol_leaf sym.Description) t)) v)
unfolding transport_at
description_is ws u is = headed 0 0 is_described transport _ _ transport_checked refl refl ws (words.Symbol sym.Description) u is refl

pub password_is : (ws u : List Word) → ws ≡ words.Symbol sym.Password ∷ u → transport_at 0 ws ≡ and_then (word text u) (λ t v. Parsed (nth 0 (Pair (symbol_leaf sym.Password) t)) v)
unfolding transport_at
password_is ws u is = headed 0 0 is_described transport _ _ transport_checked refl refl ws (words.Symbol sym.Password) u is refl

pub source_is : (at : ℕ) (ws u : List Word) → ws ≡ words.Attribute at attributes.Source ∷ u → transport_at 0 ws ≡ and_then (both (word (symbol sym.Address)) (word address) u) (λ t v. Parsed (nth 1 (Pair (attribute_leaf at attributes.Source) t)) v)
unfolding transport_at
source_is at ws u is = headed 1 0 (attribute attributes.Source) transport _ _ transport_checked refl refl ws (words.Attribute at attributes.Source) u is refl

pub hold_is : (ws u : List Word) → ws ≡ words.Symbol sym.Hold ∷ u → transport_at 0 ws ≡ and_then (time_at 0 u) (λ t v. Parsed (nth 2 (Pair (symbol_leaf sym.Hold) t)) v)
unfolding transport_at time_at
hold_is ws u is = headed 2 0 is_timed transport _ _ transport_checked refl refl ws (words.Symbol sym.Hold) u is refl

pub keepalive_is : (ws u : List Word) → ws ≡ words.Symbol sym.Keepalive ∷ u → transport_at 0 ws ≡ and_then (time_at 0 u) (λ t v. Parsed (nth 2 (Pair (symbol_leaf sym.Keepalive) t)) v)
unfolding transport_at time_at
keepalive_is ws u is = headed 2 0 is_timed transport _ _ transport_checked refl refl ws (words.Symbol sym.Keepalive) u is refl

pub connect_is : (ws u : List Word) → ws ≡ words.Symbol sym.Connect ∷ u → transport_at 0 ws ≡ and_then (both (word (symbol sym.Retry)) (time_at 0) u) (λ t v. Parsed (nth 3 (Pair (symbol_leaf sym.Connect) t)) v)
unfolding transport_at time_at
connect_is ws u is = headed 3 0 (symbol sym.Connect) transport _ _ transport_checked refl refl ws (words.Symbol sym.Connect) u is refl

pub multihop_is : (ws u : List Word) → ws ≡ words.Symbol sym.Multihop ∷ u → transport_at 0 ws ≡ and_then (optional_number_at 0 u) (λ t v. Parsed (nth 4 (Pair (symbol_leaf sym.Multihop) t)) v)
unfolding transport_at optional_number_at
multihop_is ws u is = headed 4 0 (symbol sym.Multihop) transport _ _ transport_checked refl refl ws (words.Symbol sym.Multihop) u is refl

pub direct_is : (ws u : List Word) → ws ≡ words.Symbol sym.Direct ∷ u → transport_at 0 ws ≡ Parsed (nth 5 (symbol_leaf sym.Direct)) u
unfolding transport_at
direct_is ws u is = rw is refl

-- where no other option comes next
pub record NoOther (ws : List Word) : Type 0 where
  pub description : begins (symbol sym.Description) ws ≡ false
  pub password : begins (symbol sym.Password) ws ≡ false
  pub source : begins (attribute attributes.Source) ws ≡ false
  pub hold : begins (symbol sym.Hold) ws ≡ false
  pub keepalive : begins (symbol sym.Keepalive) ws ≡ false
  pub connect : begins (symbol sym.Connect) ws ≡ false
  pub multihop : begins (symbol sym.Multihop) ws ≡ false
  pub direct : begins (symbol sym.Direct) ws ≡ false

pub passive_is : (ws : List Word) → NoOther ws → transport_at 0 ws ≡ and_then (both (word (symbol sym.Passive)) (optional_switch_at 0) ws) (λ t u. Parsed (beyond 6 t) u)
unfolding transport_at optional_switch_at
passive_is [] none = refl
passive_is (w ∷ ws) none = rw (none.description, none.password, none.source, none.hold, none.keepalive, none.connect, none.multihop, none.direct) (behind_six (both (word (symbol sym.Passive)) (optional_switch_at 0) (w ∷ ws)))
