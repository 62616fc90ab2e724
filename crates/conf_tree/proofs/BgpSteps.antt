-- Reading the options of BGP sessions and of pipes, one step of the parser after another.
use Rattle.std.proofs.Common.{◌≡◌, ℕ, zero, suc, Bool, true, false, ◌||◌, List, [], ◌∷◌, refl, ◌∙◌}
use Rattle.bits_ip.specs.declared.address.Family.{Family}
use Rattle.bits_ip.specs.declared.address.Family.TheVariants as families
use Rattle.conf_ast.specs.declared.attribute.Attribute.TheVariants as attributes
use Rattle.conf_lex.specs.declared.symbol.Symbol.TheVariants as sym
use Rattle.conf_lex.specs.declared.word.Word.{Word}
use Rattle.conf_lex.specs.declared.word.Word.TheVariants as words
use Rattle.conf_lex.specs.Kind.{Kind, attribute, kind_of, name, address, symbol}
use Rattle.conf_lex.specs.Grammar.{ParseTree, Leaf, Pair, Right, Bad, begins, first_set}
use Rattle.conf_lex.specs.Reading.{Parsed, Failed, and_then, word, both}
use Rattle.conf_lex.specs.Leaves.{symbol_leaf}
use Rattle.conf_lex.proofs.PartShapes.{word_bad}
use Rattle.expr_syntax.specs.Syntax.{is_num}
use Rattle.expr_syntax.specs.Rows.{nth, beyond}
use Rattle.expr_syntax.proofs.Tested.{is_checked}
use Rattle.expr_syntax.proofs.Picks.{maps2, first_read}
use Rattle.conf_syntax.specs.Syntax.{is_default, is_switch, is_family, channel, bgp_option, pipe_option}
use Rattle.conf_syntax.specs.View.{family_symbol}
use Rattle.conf_tree.specs.Readers.{policy_at, channel_at, bgp_option_at, pipe_option_at}
use Rattle.conf_syntax.specs.Readers.{optional_address_at, as_at, transport_at}
use Rattle.conf_syntax.proofs.Heads.{headed, maps3}
use Rattle.conf_syntax.proofs.FirstWords.{behind_six}

-- ---- BGP sessions

bgp_checked : is_checked bgp_option
bgp_checked = refl

channel_begins : (at : ℕ) (family : Family) (ws u : List Word) → ws ≡ words.Placed at (family_symbol family) ∷ u → begins (first_set channel) ws ≡ true
channel_begins at families.V4 ws u is = rw is refl
channel_begins at families.V6 ws u is = rw is refl

pub bgp_channel : (k at : ℕ) (family : Family) (ws u : List Word) → ws ≡ words.Placed at (family_symbol family) ∷ u → bgp_option_at k ws ≡ and_then (channel_at k ws) (λ t v. Parsed (nth 0 t) v)
unfolding bgp_option_at channel_at
bgp_channel k at family ws u is = first_read k channel _ ws (channel_begins at family ws u is)

pub local_is : (k : ℕ) (ws u : List Word) → ws ≡ words.Symbol sym.Local ∷ u → bgp_option_at k ws ≡ and_then (both (optional_address_at 0) (as_at 0) u) (λ t v. Parsed (nth 1 (Pair (symbol_leaf sym.Local) t)) v)
unfolding bgp_option_at optional_address_at as_at
local_is zero ws u is = headed 1 0 (symbol sym.Local) bgp_option _ _ bgp_checked refl refl ws (words.Symbol sym.Local) u is refl
local_is (suc k) ws u is = headed 1 (suc k) (symbol sym.Local) bgp_option _ _ bgp_checked refl refl ws (words.Symbol sym.Local) u is refl

pub neighbor_is : (k : ℕ) (ws u : List Word) → ws ≡ words.Symbol sym.Neighbor ∷ u → bgp_option_at k ws ≡ and_then (both (word address) (as_at 0) u) (λ t v. Parsed (nth 2 (Pair (symbol_leaf sym.Neighbor) t)) v)
unfolding bgp_option_at as_at
neighbor_is zero ws u is = headed 2 0 (symbol sym.Neighbor) bgp_option _ _ bgp_checked refl refl ws (words.Symbol sym.Neighbor) u is refl
neighbor_is (suc k) ws u is = headed 2 (suc k) (symbol sym.Neighbor) bgp_option _ _ bgp_checked refl refl ws (words.Symbol sym.Neighbor) u is refl

pub med_is : (k : ℕ) (ws u : List Word) → ws ≡ words.Symbol sym.Med ∷ u → bgp_option_at k ws ≡ and_then (both (word (symbol sym.Metric)) (word is_switch) u) (λ t v. Parsed (nth 3 (Pair (symbol_leaf sym.Med) t)) v)
unfolding bgp_option_at
med_is zero ws u is = headed 3 0 (symbol sym.Med) bgp_option _ _ bgp_checked refl refl ws (words.Symbol sym.Med) u is refl
med_is (suc k) ws u is = headed 3 (suc k) (symbol sym.Med) bgp_option _ _ bgp_checked refl refl ws (words.Symbol sym.Med) u is refl

pub interpret_is : (k : ℕ) (ws u : List Word) → ws ≡ words.Symbol sym.Interpret ∷ u → bgp_option_at k ws ≡ and_then (both (word (symbol sym.Communities)) (word is_switch) u) (λ t v. Parsed (nth 4 (Pair (symbol_leaf sym.Interpret) t)) v)
unfolding bgp_option_at
interpret_is zero ws u is = headed 4 0 (symbol sym.Interpret) bgp_option _ _ bgp_checked refl refl ws (words.Symbol sym.Interpret) u is refl
interpret_is (suc k) ws u is = headed 4 (suc k) (symbol sym.Interpret) bgp_option _ _ bgp_checked refl refl ws (words.Symbol sym.Interpret) u is refl

default_is : (k : ℕ) (ws u : List Word) → ws ≡ words.Symbol sym.Default ∷ u → bgp_option_at k ws ≡ and_then (both (word is_default) (word is_num) u) (λ t v. Parsed (nth 5 (Pair (symbol_leaf sym.Default) t)) v)
unfolding bgp_option_at
default_is zero ws u is = headed 5 0 (symbol sym.Default) bgp_option _ _ bgp_checked refl refl ws (words.Symbol sym.Default) u is refl
default_is (suc k) ws u is = headed 5 (suc k) (symbol sym.Default) bgp_option _ _ bgp_checked refl refl ws (words.Symbol sym.Default) u is refl

abbrev defaulted : Word → ParseTree → ParseTree
defaulted w t = nth 5 (Pair (symbol_leaf sym.Default) (Pair (Leaf w) t))

default_value : (k : ℕ) (ws u : List Word) (w : Word) (v : List Word) → ws ≡ words.Symbol sym.Default ∷ u → u ≡ w ∷ v → is_default (kind_of w) ≡ true → bgp_option_at k ws ≡ and_then (word is_num v) (λ t x. Parsed (defaulted w t) x)
default_value k ws u w v is next passes = default_is k ws u is ∙ rw (next, passes) (maps2 (word is_num v) (λ t. Pair (Leaf w) t) (λ t. nth 5 (Pair (symbol_leaf sym.Default) t)))

pub default_med : (k at : ℕ) (ws u v : List Word) → ws ≡ words.Symbol sym.Default ∷ u → u ≡ words.Attribute at attributes.BgpMed ∷ v → bgp_option_at k ws ≡ and_then (word is_num v) (λ t x. Parsed (defaulted (words.Attribute at attributes.BgpMed) t) x)
default_med k at ws u v is next = default_value k ws u (words.Attribute at attributes.BgpMed) v is next refl

pub default_local_pref : (k at : ℕ) (ws u v : List Word) → ws ≡ words.Symbol sym.Default ∷ u → u ≡ words.Attribute at attributes.BgpLocalPref ∷ v → bgp_option_at k ws ≡ and_then (word is_num v) (λ t x. Parsed (defaulted (words.Attribute at attributes.BgpLocalPref) t) x)
default_local_pref k at ws u v is next = default_value k ws u (words.Attribute at attributes.BgpLocalPref) v is next refl

begins_none_of : (p q : Kind → Bool) (ws : List Word) → begins p ws ≡ false → begins q ws ≡ false → begins (λ k. p k || q k) ws ≡ false
begins_none_of p q [] a b = refl
begins_none_of p q (w ∷ ws) a b = rw (a, b) refl

pub default_bad : (k : ℕ) (ws u : List Word) → ws ≡ words.Symbol sym.Default ∷ u → begins (attribute attributes.BgpMed) u ≡ false → begins (attribute attributes.BgpLocalPref) u ≡ false → bgp_option_at k ws ≡ Failed Bad u
default_bad k ws u is med pref = default_is k ws u is ∙ rw (word_bad is_default u (begins_none_of (attribute attributes.BgpMed) (attribute attributes.BgpLocalPref) u med pref)) refl

-- where no option comes next but of the transport
pub record IsTransport (ws : List Word) : Type 0 where
  pub family : begins is_family ws ≡ false
  pub local : begins (symbol sym.Local) ws ≡ false
  pub neighbor : begins (symbol sym.Neighbor) ws ≡ false
  pub med : begins (symbol sym.Med) ws ≡ false
  pub interpret : begins (symbol sym.Interpret) ws ≡ false
  pub default : begins (symbol sym.Default) ws ≡ false

pub bgp_transport : (k : ℕ) (ws : List Word) → IsTransport ws → bgp_option_at k ws ≡ and_then (transport_at 0 ws) (λ t u. Parsed (beyond 6 t) u)
unfolding bgp_option_at transport_at
bgp_transport zero [] none = refl
bgp_transport (suc k) [] none = refl
bgp_transport zero (w ∷ ws) none = rw (none.family, none.local, none.neighbor, none.med, none.interpret, none.default) (behind_six (transport_at 0 (w ∷ ws)))
bgp_transport (suc k) (w ∷ ws) none = rw (none.family, none.local, none.neighbor, none.med, none.interpret, none.default) (behind_six (transport_at 0 (w ∷ ws)))

-- ---- pipes

pipe_checked : is_checked pipe_option
pipe_checked = refl

pub pipe_table : (k : ℕ) (ws u : List Word) → ws ≡ words.Symbol sym.Table ∷ u → pipe_option_at k ws ≡ and_then (word name u) (λ t v. Parsed (nth 0 (Pair (symbol_leaf sym.Table) t)) v)
unfolding pipe_option_at
pipe_table zero ws u is = headed 0 0 (symbol sym.Table) pipe_option _ _ pipe_checked refl refl ws (words.Symbol sym.Table) u is refl
pipe_table (suc k) ws u is = headed 0 (suc k) (symbol sym.Table) pipe_option _ _ pipe_checked refl refl ws (words.Symbol sym.Table) u is refl

pub peer_is : (k : ℕ) (ws u : List Word) → ws ≡ words.Symbol sym.Peer ∷ u → pipe_option_at k ws ≡ and_then (both (word (symbol sym.Table)) (word name) u) (λ t v. Parsed (nth 1 (Pair (symbol_leaf sym.Peer) t)) v)
unfolding pipe_option_at
peer_is zero ws u is = headed 1 0 (symbol sym.Peer) pipe_option _ _ pipe_checked refl refl ws (words.Symbol sym.Peer) u is refl
peer_is (suc k) ws u is = headed 1 (suc k) (symbol sym.Peer) pipe_option _ _ pipe_checked refl refl ws (words.Symbol sym.Peer) u is refl

pub import_is : (k : ℕ) (ws u : List Word) → ws ≡ words.Symbol sym.Import ∷ u → pipe_option_at k ws ≡ and_then (policy_at k u) (λ t v. Parsed (nth 2 (Pair (symbol_leaf sym.Import) t)) v)
unfolding pipe_option_at policy_at
import_is k ws u is = headed 2 k (symbol sym.Import) pipe_option _ _ pipe_checked refl refl ws (words.Symbol sym.Import) u is refl

pub export_is : (k : ℕ) (ws : List Word) → begins (symbol sym.Table) ws ≡ false → begins (symbol sym.Peer) ws ≡ false → begins (symbol sym.Import) ws ≡ false → pipe_option_at k ws ≡ and_then (both (word (symbol sym.Export)) (policy_at k) ws) (λ t u. Parsed (beyond 3 t) u)
unfolding pipe_option_at policy_at
export_is zero [] table peer import = refl
export_is (suc k) [] table peer import = refl
export_is zero (w ∷ ws) table peer import = rw (table, peer, import) (maps3 (both (word (symbol sym.Export)) (policy_at 0) (w ∷ ws)) (λ t. Right t) (λ t. Right t) (λ t. Right t))
export_is (suc k) (w ∷ ws) table peer import = rw (table, peer, import) (maps3 (both (word (symbol sym.Export)) (policy_at (suc k)) (w ∷ ws)) (λ t. Right t) (λ t. Right t) (λ t. Right t))
