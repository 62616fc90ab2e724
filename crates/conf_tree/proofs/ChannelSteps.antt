-- Reading channels and their options, one step of the parser after another.
use Rattle.std.proofs.Common.{◌≡◌, ℕ, zero, suc, true, false, List, [], ◌∷◌, refl, ap, ◌∙◌}
use Rattle.conf_ast.specs.declared.attribute.Attribute.TheVariants as attributes
use Rattle.conf_lex.specs.declared.symbol.Symbol.TheVariants as sym
use Rattle.conf_lex.specs.declared.word.Word.{Word}
use Rattle.conf_lex.specs.declared.word.Word.TheVariants as words
use Rattle.bits_ip.specs.declared.address.Family.{Family}
use Rattle.bits_ip.specs.declared.address.Family.TheVariants as families
use Rattle.conf_lex.specs.Kind.{attribute, kind_of, name, symbol}
use Rattle.conf_lex.specs.Grammar.{Terminal, Alt, ParseTree, NoWords, Pair, Left, Right, begins}
use Rattle.conf_lex.specs.Reading.{Read, Parsed, Reader, and_then, word, both, read}
use Rattle.conf_lex.specs.Leaves.{symbol_leaf}
use Rattle.expr_syntax.specs.Syntax.{optional, is_num, rule}
use Rattle.expr_syntax.specs.Rows.{nth, beyond}
use Rattle.expr_syntax.proofs.Tested.{is_checked}
use Rattle.expr_syntax.proofs.Picks.{maps2}
use Rattle.conf_syntax.specs.Syntax.{is_family, is_hop, policy, limit, channel_option, channel_options}
use Rattle.conf_syntax.specs.View.{attribute_leaf, family_symbol, family_leaf}
use Rattle.conf_tree.specs.Readers.{policy_at, channel_option_at, channel_at}
use Rattle.conf_syntax.specs.Readers.{limit_value_at, closed_options}
use Rattle.conf_syntax.proofs.Heads.{maps4, headed}

-- ---- options

channel_option_checked : is_checked channel_option
channel_option_checked = refl

pub option_table : (k : ℕ) (ws u : List Word) → ws ≡ words.Symbol sym.Table ∷ u → channel_option_at k ws ≡ and_then (word name u) (λ t v. Parsed (nth 0 (Pair (symbol_leaf sym.Table) t)) v)
unfolding channel_option_at
option_table zero ws u is = headed 0 0 (symbol sym.Table) channel_option (Terminal name) _ channel_option_checked refl refl ws (words.Symbol sym.Table) u is refl
option_table (suc k) ws u is = headed 0 (suc k) (symbol sym.Table) channel_option (Terminal name) _ channel_option_checked refl refl ws (words.Symbol sym.Table) u is refl

-- behind "import"
unfoldable imported_at : ℕ → Reader
imported_at k = read rule k (Alt limit policy)

imported_limit : (k : ℕ) (ws u : List Word) → ws ≡ words.Symbol sym.Limit ∷ u → imported_at k ws ≡ and_then (limit_value_at 0 u) (λ t v. Parsed (Left (Pair (symbol_leaf sym.Limit) t)) v)
unfolding imported_at limit_value_at
imported_limit zero ws u is = rw is (maps2 (limit_value_at 0 u) (λ t. Pair (symbol_leaf sym.Limit) t) (λ t. Left t))
imported_limit (suc k) ws u is = rw is (maps2 (limit_value_at 0 u) (λ t. Pair (symbol_leaf sym.Limit) t) (λ t. Left t))

imported_policy : (k : ℕ) (ws : List Word) → begins (symbol sym.Limit) ws ≡ false → imported_at k ws ≡ and_then (policy_at k ws) (λ t u. Parsed (Right t) u)
unfolding imported_at policy_at
imported_policy zero [] none = refl
imported_policy (suc k) [] none = refl
imported_policy zero (w ∷ ws) none = rw none refl
imported_policy (suc k) (w ∷ ws) none = rw none refl

abbrev import_tree : ParseTree → ParseTree
import_tree t = nth 1 (Pair (symbol_leaf sym.Import) t)

option_import : (k : ℕ) (ws u : List Word) → ws ≡ words.Symbol sym.Import ∷ u → channel_option_at k ws ≡ and_then (imported_at k u) (λ t v. Parsed (import_tree t) v)
unfolding channel_option_at imported_at
option_import k ws u is = headed 1 k (symbol sym.Import) channel_option (Alt limit policy) _ channel_option_checked refl refl ws (words.Symbol sym.Import) u is refl

pub import_limit : (k : ℕ) (ws u v : List Word) → ws ≡ words.Symbol sym.Import ∷ u → u ≡ words.Symbol sym.Limit ∷ v → channel_option_at k ws ≡ and_then (limit_value_at 0 v) (λ t x. Parsed (nth 1 (Pair (symbol_leaf sym.Import) (Left (Pair (symbol_leaf sym.Limit) t)))) x)
import_limit k ws u v is limited =
    option_import k ws u is ∙ ap (λ (x : Read). and_then x (λ t y. Parsed (import_tree t) y)) (imported_limit k u v limited)
    ∙ maps2 (limit_value_at 0 v) (λ t. Left (Pair (symbol_leaf sym.Limit) t)) (λ t. import_tree t)

pub import_policy : (k : ℕ) (ws u : List Word) → ws ≡ words.Symbol sym.Import ∷ u → begins (symbol sym.Limit) u ≡ false → channel_option_at k ws ≡ and_then (policy_at k u) (λ t x. Parsed (nth 1 (Pair (symbol_leaf sym.Import) (Right t))) x)
import_policy k ws u is none =
    option_import k ws u is ∙ ap (λ (x : Read). and_then x (λ t y. Parsed (import_tree t) y)) (imported_policy k u none)
    ∙ maps2 (policy_at k u) (λ t. Right t) (λ t. import_tree t)

pub option_export : (k : ℕ) (ws u : List Word) → ws ≡ words.Symbol sym.Export ∷ u → channel_option_at k ws ≡ and_then (policy_at k u) (λ t v. Parsed (nth 2 (Pair (symbol_leaf sym.Export) t)) v)
unfolding channel_option_at policy_at
option_export k ws u is = headed 2 k (symbol sym.Export) channel_option policy _ channel_option_checked refl refl ws (words.Symbol sym.Export) u is refl

pub option_preference : (k at : ℕ) (ws u : List Word) → ws ≡ words.Attribute at attributes.Preference ∷ u → channel_option_at k ws ≡ and_then (word is_num u) (λ t v. Parsed (nth 3 (Pair (attribute_leaf at attributes.Preference) t)) v)
unfolding channel_option_at
option_preference zero at ws u is = headed 3 0 (attribute attributes.Preference) channel_option (Terminal is_num) _ channel_option_checked refl refl ws (words.Attribute at attributes.Preference) u is refl
option_preference (suc k) at ws u is = headed 3 (suc k) (attribute attributes.Preference) channel_option (Terminal is_num) _ channel_option_checked refl refl ws (words.Attribute at attributes.Preference) u is refl

abbrev hop_words : Reader
hop_words = both (word (symbol sym.Next)) (both (word (symbol sym.Hop)) (word is_hop))

-- what begins no other option is a next hop, or none
pub option_hop : (k : ℕ) (ws : List Word) → begins (symbol sym.Table) ws ≡ false → begins (symbol sym.Import) ws ≡ false → begins (symbol sym.Export) ws ≡ false → begins (attribute attributes.Preference) ws ≡ false → channel_option_at k ws ≡ and_then (both (word (symbol sym.Next)) (both (word (symbol sym.Hop)) (word is_hop)) ws) (λ t u. Parsed (beyond 4 t) u)
unfolding channel_option_at
option_hop zero [] a b c d = refl
option_hop (suc k) [] a b c d = refl
option_hop zero (w ∷ ws) a b c d = rw (a, b, c, d) (maps4 (hop_words (w ∷ ws)) (λ t. Right t) (λ t. Right t) (λ t. Right t) (λ t. Right t))
option_hop (suc k) (w ∷ ws) a b c d = rw (a, b, c, d) (maps4 (hop_words (w ∷ ws)) (λ t. Right t) (λ t. Right t) (λ t. Right t) (λ t. Right t))

-- ---- channels

pub family_passes : (at : ℕ) (f : Family) → is_family (kind_of (words.Placed at (family_symbol f))) ≡ true
family_passes at families.V4 = refl
family_passes at families.V6 = refl

unfoldable within_at : ℕ → Reader
within_at k = read rule k (optional channel_options)

channel_is : (k at : ℕ) (f : Family) (ws u : List Word) → ws ≡ words.Placed at (family_symbol f) ∷ u → channel_at k ws ≡ and_then (within_at k u) (λ t v. Parsed (Pair (family_leaf at f) t) v)
unfolding channel_at within_at
channel_is zero at f ws u is = rw (is, family_passes at f) refl
channel_is (suc k) at f ws u is = rw (is, family_passes at f) refl

within_braces : (k : ℕ) (ws u : List Word) → ws ≡ words.Symbol sym.OpenBrace ∷ u → within_at k ws ≡ and_then (closed_options channel_option k u) (λ t v. Parsed (Left (Pair (symbol_leaf sym.OpenBrace) t)) v)
unfolding within_at closed_options
within_braces zero ws u is = rw is (maps2 (closed_options channel_option 0 u) (λ t. Pair (symbol_leaf sym.OpenBrace) t) (λ t. Left t))
within_braces (suc k) ws u is = rw is (maps2 (closed_options channel_option (suc k) u) (λ t. Pair (symbol_leaf sym.OpenBrace) t) (λ t. Left t))

within_none : (k : ℕ) (ws : List Word) → begins (symbol sym.OpenBrace) ws ≡ false → within_at k ws ≡ Parsed (Right NoWords) ws
unfolding within_at
within_none zero [] none = refl
within_none (suc k) [] none = refl
within_none zero (w ∷ ws) none = rw none refl
within_none (suc k) (w ∷ ws) none = rw none refl

pub channel_braces : (k at : ℕ) (f : Family) (ws u v : List Word) → ws ≡ words.Placed at (family_symbol f) ∷ u → u ≡ words.Symbol sym.OpenBrace ∷ v → channel_at k ws ≡ and_then (closed_options channel_option k v) (λ t x. Parsed (Pair (family_leaf at f) (Left (Pair (symbol_leaf sym.OpenBrace) t))) x)
channel_braces k at f ws u v is opened =
    channel_is k at f ws u is ∙ ap (λ (x : Read). and_then x (λ t y. Parsed (Pair (family_leaf at f) t) y)) (within_braces k u v opened)
    ∙ maps2 (closed_options channel_option k v) (λ t. Left (Pair (symbol_leaf sym.OpenBrace) t)) (λ t. Pair (family_leaf at f) t)

pub channel_alone : (k at : ℕ) (f : Family) (ws u : List Word) → ws ≡ words.Placed at (family_symbol f) ∷ u → begins (symbol sym.OpenBrace) u ≡ false → channel_at k ws ≡ Parsed (Pair (family_leaf at f) (Right NoWords)) u
channel_alone k at f ws u is none = channel_is k at f ws u is ∙ rw (within_none k u none) refl
