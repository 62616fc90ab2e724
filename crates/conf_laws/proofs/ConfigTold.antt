-- Each tree of a configuration is the view of statements.
use Rattle.std.proofs.Common.{◌≡◌, ℕ, suc, ◌+◌, ◌≤◌, ◌<◌, ◌^◌, Bool, true, false, ◌||◌, List, [], ◌∷◌, ◌++◌, length, map, Option, Some, None, refl, sym as flip, ap, ◌∙◌, arith, ◌⊎◌, inl, inr, Vec}
use Rattle.std.proofs.lemmas.List.{length-append}
use Rattle.std.specs.Global.{Global}
use Rattle.bits_ip.specs.declared.prefix.Prefix.{Prefix}
use Rattle.bits_ip.specs.declared.address.Family.{Family}
use Rattle.bits_ip.specs.declared.address.Family.TheVariants as families
use Rattle.conf_ast.specs.declared.attribute.Attribute.{Attribute}
use Rattle.conf_ast.specs.declared.attribute.Attribute.TheVariants as attributes
use Rattle.conf_lex.specs.declared.symbol.Symbol.{Symbol}
use Rattle.conf_lex.specs.declared.symbol.Symbol.TheVariants as sym
use Rattle.conf_lex.specs.declared.word.Word.{Word}
use Rattle.conf_lex.specs.declared.word.Word.TheVariants as words
use Rattle.conf_ast.specs.declared.named.Name.{Name}
use Rattle.conf_ast.specs.declared.filters.Num.{Num}
use Rattle.conf_ast.specs.declared.filters.Parameter.{Parameter}
use Rattle.conf_ast.specs.declared.filters.Separator.{Separator}
use Rattle.conf_ast.specs.declared.filters.Separator.TheVariants as separators
use Rattle.conf_ast.specs.declared.configurations.Action.{Action}
use Rattle.conf_ast.specs.declared.configurations.Action.TheVariants as actions
use Rattle.conf_ast.specs.declared.configurations.Address.{Address}
use Rattle.conf_ast.specs.declared.configurations.BgpOption.{BgpOption}
use Rattle.conf_ast.specs.declared.configurations.BgpOption.TheVariants as bgp_options
use Rattle.conf_ast.specs.declared.configurations.ChannelOption.{ChannelOption}
use Rattle.conf_ast.specs.declared.configurations.ChannelOption.TheVariants as channel_options
use Rattle.conf_ast.specs.declared.configurations.Limit.{Limit}
use Rattle.conf_ast.specs.declared.configurations.Limit.TheVariants as limits
use Rattle.conf_ast.specs.declared.configurations.Literal.{Literal}
use Rattle.conf_ast.specs.declared.configurations.Literal.TheVariants as literals
use Rattle.conf_ast.specs.declared.configurations.NextHop.{NextHop}
use Rattle.conf_ast.specs.declared.configurations.NextHop.TheVariants as hops
use Rattle.conf_ast.specs.declared.configurations.PipeOption.TheVariants as pipe_options
use Rattle.conf_ast.specs.declared.configurations.Policy.{Policy}
use Rattle.conf_ast.specs.declared.configurations.Policy.TheVariants as policies
use Rattle.conf_ast.specs.declared.configurations.Protocol.{Protocol}
use Rattle.conf_ast.specs.declared.configurations.StringLiteral.{StringLiteral}
use Rattle.conf_ast.specs.declared.configurations.RouteTarget.{RouteTarget}
use Rattle.conf_ast.specs.declared.configurations.RouteTarget.TheVariants as targets
use Rattle.conf_ast.specs.declared.configurations.Statement.TheVariants as statements
use Rattle.conf_ast.specs.declared.configurations.StaticOption.TheVariants as static_options
use Rattle.conf_ast.specs.declared.configurations.Switch.{Switch}
use Rattle.conf_ast.specs.declared.configurations.Switch.TheVariants as switches
use Rattle.conf_ast.specs.declared.configurations.Transport.{Transport}
use Rattle.conf_ast.specs.declared.configurations.Transport.TheVariants as transports
use Rattle.conf_ast.specs.declared.filters.Block.{Block}
use Rattle.conf_ast.specs.declared.filters.Item.{Item}
use Rattle.conf_ast.specs.declared.filters.MaskItem.{MaskItem}
use Rattle.conf_lex.specs.Symbols.{is_placed}
use Rattle.conf_lex.specs.Kind.{Kind, attribute, kind_of, symbol, name, text, address, prefix}
use Rattle.conf_lex.specs.Grammar.{Terminal, Seq, Alt, ParseTree, Leaf, NoWords, Pair, Left, Right, Single, Snoc, yield, nullable, DerivesLongest}
use Rattle.conf_lex.specs.Leaves.{symbol_leaf, name_leaf, between}
use Rattle.conf_lex.proofs.Good.{Solid}
use Rattle.syntax_laws.proofs.Parts.{size, Small, more_room, chain_small, part_small, start_small, one_is, seq_is, either_is, symbol_is, placed_is, name_is, optional_is, some_words}
use Rattle.conf_lex.proofs.Symbols.{same_attribute}
use Rattle.syntax_laws.proofs.Rows.{Seen, both_of, more_of, many_told}
use Rattle.expr_syntax.specs.Syntax.{rule, optional, many, is_num, set, mask_item, expr, vtype, block, semicolon}
use Rattle.expr_syntax.specs.Levels.{Form, set_level}
use Rattle.expr_syntax.specs.ItemView.{num_tree, items_tree, mask_items_tree}
use Rattle.expr_syntax.specs.View.{expr_tree}
use Rattle.filt_syntax.specs.StatementView.{block_view}
use Rattle.expr_syntax.specs.Rows.{semicolon_leaf, nth, beyond, row_after}
use Rattle.expr_syntax.specs.Types.{type_tree}
use Rattle.expr_syntax.proofs.Tested.{solid_at}
use Rattle.syntax_laws.proofs.ItemsTold.{num_told, prefix_told, between_is, items_told, mask_told}
use Rattle.syntax_laws.proofs.ExprTold.{levels, vec}
use Rattle.syntax_laws.proofs.StatementsTold.{type_told, to_block}
use Rattle.conf_syntax.specs.Syntax.{is_default, is_switch, is_family, policy, table_option, is_action, action, is_hop, channel_option, ended_options, channel, route_target, route, static_option, transport, bgp_option, pipe_option, is_value, literal, parameter, is_separator, parameters, function, protocol_end, protocol_of, device, protocol, statement, config}
use Rattle.conf_tree.specs.View.{policy_tree, table_tree, channel_option_tree, channel_tree, route_tree, static_option_tree, default_tree, bgp_option_tree, pipe_option_tree, separator_symbol, parameter_tree, next_parameter, parameters_after, parameters_tree, function_tree, protocol_end_tree, protocol_tree, device_tree, statement_tree, statements_tree}
use Rattle.conf_syntax.specs.View.{placed_leaf, attribute_leaf, address_leaf, text_leaf, switch_symbol, switch_leaf, family_symbol, family_leaf, maybe, action_symbol, limit_tree, hop_symbol, ended_tree, ended_row, target_tree, as_tree, time_tree, transport_tree, value_tree, literal_tree, semicolon_tree}

never : false ≡ true → ⊥
never e = cc

-- ---- forms whose trees are seen as values, with so many parts at most

pub record Reads (n : ℕ) (f : Form) {X : Type 0} (view : X → ParseTree) : Type 0 where
  pub told : (t : ParseTree) → Small n t → DerivesLongest rule t f → Seen view t

-- the same where the tree stands under signs of a choice
pub record Under (n : ℕ) (wrap : ParseTree → ParseTree) (f : Form) {X : Type 0} (view : X → ParseTree) : Type 0 where
  pub found : (t : ParseTree) → Small n t → DerivesLongest rule t f → (x : X) × (view x ≡ wrap t)

whole : {n : ℕ} {f : Form} {X : Type 0} {v : X → ParseTree} → Under n (λ t. t) f v → Reads n f v
whole u = record { told = λ t s h. u.found t s h }

under : {n : ℕ} {wrap : ParseTree → ParseTree} {f : Form} {X Z : Type 0} {v : X → ParseTree} {w : Z → ParseTree} → (g : X → Z) → ((x : X) → w (g x) ≡ wrap (v x)) → Reads n f v → Under n wrap f w
under {wrap = wrap} g same r = record { found = λ t s h. let x = r.told t s h in (g x.0, same x.0 ∙ ap wrap x.1) }

choose : {n : ℕ} {wrap : ParseTree → ParseTree} {f g : Form} {X : Type 0} {w : X → ParseTree} → Under n (λ t. wrap (Left t)) f w → Under n (λ t. wrap (Right t)) g w → Under n wrap (Alt f g) w
choose {n = n} {wrap = wrap} {f = f} {g = g} a b = record {
  found = λ t s h. elim (either_is rule n t f g (more_room n t s) h) [
    | inl p ↦ let x = a.found p.part p.small p.fits in (x.0, x.1 ∙ flip (ap wrap p.is))
    | inr p ↦ let x = b.found p.part p.small p.fits in (x.0, x.1 ∙ flip (ap wrap p.is))
  ];
}

-- one of two
abbrev either_view : {X Y : Type 0} → (X → ParseTree) → (Y → ParseTree) → X ⊎ Y → ParseTree
either_view v w (inl x) = Left (v x)
either_view v w (inr y) = Right (w y)

one_of : {n : ℕ} {f g : Form} {X Y : Type 0} {v : X → ParseTree} {w : Y → ParseTree} → Reads n f v → Reads n g w → Reads n (Alt f g) (either_view v w)
one_of r q = whole (choose (under (λ x. inl x) (λ x. refl) r) (under (λ y. inr y) (λ y. refl) q))

both : {n : ℕ} {f g : Form} {X Y : Type 0} {v : X → ParseTree} {w : Y → ParseTree} → Reads n f v → Reads n g w → Reads n (Seq f g) (λ (z : X × Y). Pair (v z.0) (w z.1))
both {n = n} {f = f} {g = g} {v = v} {w = w} r q = record {
  told = λ t s h.
      let p = seq_is rule n t f g (more_room n t s) h in
      let a = r.told p.left p.left_small p.left_fits in
      let b = q.told p.right p.right_small p.right_fits in
      ((a.0, b.0), both_of (v a.0) (w b.0) p.left p.right a.1 b.1 ∙ flip p.is);
}

maybe_told : {n : ℕ} {f : Form} {X : Type 0} {v : X → ParseTree} → Reads n f v → Reads n (optional f) (maybe v)
maybe_told {n = n} {f = f} {v = v} r = record {
  told = λ t s h. elim (optional_is rule n t f (more_room n t s) h) [
    | inl a ↦ let x = r.told a.part a.small a.fits in (Some x.0, ap (λ (u : ParseTree). Left u) x.1 ∙ flip a.is)
    | inr none ↦ (None, flip none)
  ];
}

sign : (n : ℕ) (s : Symbol) → is_placed s ≡ false → Reads n (Terminal (symbol s)) (λ (u : Unit {0}). symbol_leaf s)
sign n s plain = record { told = λ t small h. (tt, flip (symbol_is rule t s plain h)) }

behind : {n : ℕ} {f : Form} {X : Type 0} {v : X → ParseTree} (s : Symbol) → is_placed s ≡ false → Reads n f v → Reads n (Seq (Terminal (symbol s)) f) (λ (x : X). Pair (symbol_leaf s) (v x))
behind {n = n} {f = f} {v = v} s plain r = whole (under (λ z. z.1) (λ z. refl) (both (sign n s plain) r))

ahead : {n : ℕ} {f : Form} {X : Type 0} {v : X → ParseTree} (s : Symbol) → is_placed s ≡ false → Reads n f v → Reads n (Seq f (Terminal (symbol s))) (λ (x : X). Pair (v x) (symbol_leaf s))
ahead {n = n} {f = f} {v = v} s plain r = whole (under (λ z. z.0) (λ z. refl) (both r (sign n s plain)))

place : (n : ℕ) (s : Symbol) → is_placed s ≡ true → Reads n (Terminal (symbol s)) (λ (at : ℕ). placed_leaf at s)
place n s placed = record { told = λ t small h. let p = placed_is rule t s placed h in (p.0, flip p.1) }

attribute_is : (w : Word) (a : Attribute) → attribute a (kind_of w) ≡ true → (at : ℕ) × (w ≡ words.Attribute at a)
attribute_is (words.Attribute at b) a e = (at, ap (λ (x : Attribute). words.Attribute at x) (same_attribute a b e))
attribute_is (words.Symbol sym.Router) a e = absurd (never e)
attribute_is (words.Placed at sym.Router) a e = absurd (never e)
attribute_is _ a e = absurd (never e)

sorted : (n : ℕ) {X : Type 0} (p : Kind → Bool) (word : X → Word) → ((w : Word) → p (kind_of w) ≡ true → (x : X) × (w ≡ word x)) → Reads n (Terminal p) (λ (x : X). Leaf (word x))
sorted n p word sort = record { told = λ t s h. let w = one_is rule t p h in let x = sort w.word w.passes in (x.0, flip (w.is ∙ ap (λ (u : Word). Leaf u) x.1)) }

routed : (n : ℕ) (a : Attribute) → Reads n (Terminal (attribute a)) (λ (at : ℕ). attribute_leaf at a)
routed n a = sorted n (attribute a) (λ (at : ℕ). words.Attribute at a) (λ w e. attribute_is w a e)

-- ---- words

switch_is : (w : Word) → is_switch (kind_of w) ≡ true → (x : Switch) × (w ≡ words.Symbol (switch_symbol x))
switch_is (words.Symbol sym.On) e = (switches.On, refl)
switch_is (words.Symbol sym.Yes) e = (switches.Yes, refl)
switch_is (words.Symbol sym.Off) e = (switches.Off, refl)
switch_is (words.Symbol sym.No) e = (switches.No, refl)
switch_is (words.Symbol sym.Router) e = absurd (never e)
switch_is (words.Placed at sym.Router) e = absurd (never e)
switch_is _ e = absurd (never e)

family_is : (w : Word) → is_family (kind_of w) ≡ true → (x : ℕ × Family) × (w ≡ words.Placed x.0 (family_symbol x.1))
family_is (words.Placed at sym.Ipv4) e = ((at, families.V4), refl)
family_is (words.Placed at sym.Ipv6) e = ((at, families.V6), refl)
family_is (words.Symbol sym.Router) e = absurd (never e)
family_is (words.Placed at sym.Router) e = absurd (never e)
family_is _ e = absurd (never e)

action_is : (w : Word) → is_action (kind_of w) ≡ true → (x : Action) × (w ≡ words.Symbol (action_symbol x))
action_is (words.Symbol sym.Warn) e = (actions.Warn, refl)
action_is (words.Symbol sym.Block) e = (actions.Block, refl)
action_is (words.Symbol sym.Disable) e = (actions.Disable, refl)
action_is (words.Symbol sym.Router) e = absurd (never e)
action_is (words.Placed at sym.Router) e = absurd (never e)
action_is _ e = absurd (never e)

hop_is : (w : Word) → is_hop (kind_of w) ≡ true → (x : NextHop) × (w ≡ words.Symbol (hop_symbol x))
hop_is (words.Symbol sym.SelfWord) e = (hops.Own, refl)
hop_is (words.Symbol sym.Keep) e = (hops.Keep, refl)
hop_is (words.Symbol sym.Router) e = absurd (never e)
hop_is (words.Placed at sym.Router) e = absurd (never e)
hop_is _ e = absurd (never e)

separator_is : (w : Word) → is_separator (kind_of w) ≡ true → (x : Separator) × (w ≡ words.Symbol (separator_symbol x))
separator_is (words.Symbol sym.Semicolon) e = (separators.Semicolon, refl)
separator_is (words.Symbol sym.Comma) e = (separators.Comma, refl)
separator_is (words.Symbol sym.Router) e = absurd (never e)
separator_is (words.Placed at sym.Router) e = absurd (never e)
separator_is _ e = absurd (never e)

address_is : (w : Word) → address (kind_of w) ≡ true → (x : Address) × (w ≡ words.Ip x.at x.addr)
address_is (words.Ip at addr) e = (record { at = at; addr = addr }, refl)
address_is (words.Symbol sym.Router) e = absurd (never e)
address_is (words.Placed at sym.Router) e = absurd (never e)
address_is _ e = absurd (never e)

text_is : (w : Word) → text (kind_of w) ≡ true → (x : StringLiteral) × (w ≡ words.Text x.at x.start x.len)
text_is (words.Text at start len) e = (record { at = at; start = start; len = len }, refl)
text_is (words.Symbol sym.Router) e = absurd (never e)
text_is (words.Placed at sym.Router) e = absurd (never e)
text_is _ e = absurd (never e)

abbrev all_or_none : Bool → Symbol
all_or_none true = sym.All
all_or_none false = sym.None

all_or_none_is : (w : Word) → (symbol sym.All (kind_of w) || symbol sym.None (kind_of w)) ≡ true → (x : Bool) × (w ≡ words.Symbol (all_or_none x))
all_or_none_is (words.Symbol sym.All) e = (true, refl)
all_or_none_is (words.Symbol sym.None) e = (false, refl)
all_or_none_is (words.Symbol sym.Router) e = absurd (never e)
all_or_none_is (words.Placed at sym.Router) e = absurd (never e)
all_or_none_is _ e = absurd (never e)

abbrev about : Bool → Symbol
about true = sym.Description
about false = sym.Password

about_is : (w : Word) → (symbol sym.Description (kind_of w) || symbol sym.Password (kind_of w)) ≡ true → (x : Bool) × (w ≡ words.Symbol (about x))
about_is (words.Symbol sym.Description) e = (true, refl)
about_is (words.Symbol sym.Password) e = (false, refl)
about_is (words.Symbol sym.Router) e = absurd (never e)
about_is (words.Placed at sym.Router) e = absurd (never e)
about_is _ e = absurd (never e)

abbrev timer : Bool → Symbol
timer true = sym.Hold
timer false = sym.Keepalive

timer_is : (w : Word) → (symbol sym.Hold (kind_of w) || symbol sym.Keepalive (kind_of w)) ≡ true → (x : Bool) × (w ≡ words.Symbol (timer x))
timer_is (words.Symbol sym.Hold) e = (true, refl)
timer_is (words.Symbol sym.Keepalive) e = (false, refl)
timer_is (words.Symbol sym.Router) e = absurd (never e)
timer_is (words.Placed at sym.Router) e = absurd (never e)
timer_is _ e = absurd (never e)

abbrev default_of : Bool → Attribute
default_of true = attributes.BgpMed
default_of false = attributes.BgpLocalPref

default_is : (w : Word) → is_default (kind_of w) ≡ true → (x : ℕ × Bool) × (w ≡ words.Attribute x.0 (default_of x.1))
default_is (words.Attribute at attributes.BgpMed) e = ((at, true), refl)
default_is (words.Attribute at attributes.BgpLocalPref) e = ((at, false), refl)
default_is (words.Attribute at attributes.Net) e = absurd (never e)
default_is (words.Symbol sym.Router) e = absurd (never e)
default_is (words.Placed at sym.Router) e = absurd (never e)
default_is _ e = absurd (never e)

-- where a route leads without a neighbor
data Way : Type 0 where
  to_blackhole : Way
  to_unreachable : Way
  to_prohibit : Way

abbrev way_symbol : Way → Symbol
way_symbol to_blackhole = sym.Blackhole
way_symbol to_unreachable = sym.Unreachable
way_symbol to_prohibit = sym.Prohibit

way_is : (w : Word) → (symbol sym.Blackhole (kind_of w) || symbol sym.Unreachable (kind_of w) || symbol sym.Prohibit (kind_of w)) ≡ true → (x : Way) × (w ≡ words.Symbol (way_symbol x))
way_is (words.Symbol sym.Blackhole) e = (to_blackhole, refl)
way_is (words.Symbol sym.Unreachable) e = (to_unreachable, refl)
way_is (words.Symbol sym.Prohibit) e = (to_prohibit, refl)
way_is (words.Symbol sym.Router) e = absurd (never e)
way_is (words.Placed at sym.Router) e = absurd (never e)
way_is _ e = absurd (never e)

-- a word that is a value
value_is : (w : Word) → is_value (kind_of w) ≡ true → (x : Literal) × (literal_tree x ≡ value_tree w)
value_is (words.Number at value) e = (literals.Number at value, refl)
value_is (words.Text at start len) e = (literals.Text (record { at = at; start = start; len = len }), refl)
value_is (words.Ip at addr) e = (literals.Ip (record { at = at; addr = addr }), refl)
value_is (words.Prefix at net) e = (literals.Prefix at net, refl)
value_is (words.Placed at sym.True) e = (literals.True at, refl)
value_is (words.Placed at sym.False) e = (literals.False at, refl)
value_is (words.Name at start len) e = (literals.Name (record { at = at; start = start; len = len }), refl)
value_is (words.Symbol sym.Router) e = absurd (never e)
value_is (words.Placed at sym.Router) e = absurd (never e)
value_is _ e = absurd (never e)

-- ---- what a value stands for, where a word or a choice tells it

abbrev filter_value : ℕ → Name ⊎ Block → Policy
filter_value at (inl n) = policies.Filter at n
filter_value at (inr b) = policies.Block at b

filter_same : (at : ℕ) (x : Name ⊎ Block) → policy_tree (filter_value at x) ≡ nth 1 (Pair (placed_leaf at sym.Filter) (either_view name_leaf block_view x))
filter_same at (inl n) = refl
filter_same at (inr b) = refl

abbrev plain_policy : Bool → Policy
plain_policy true = policies.All
plain_policy false = policies.None

plain_same : (b : Bool) → policy_tree (plain_policy b) ≡ nth 0 (symbol_leaf (all_or_none b))
plain_same true = refl
plain_same false = refl

abbrev import_value : Limit ⊎ Policy → ChannelOption
import_value (inl l) = channel_options.ImportLimit l
import_value (inr p) = channel_options.Import p

import_same : (x : Limit ⊎ Policy) → channel_option_tree (import_value x) ≡ nth 1 (Pair (symbol_leaf sym.Import) (either_view (λ (l : Limit). Pair (symbol_leaf sym.Limit) (limit_tree l)) policy_tree x))
import_same (inl l) = refl
import_same (inr p) = refl

abbrev way_target : Way → RouteTarget
way_target to_blackhole = targets.Blackhole
way_target to_unreachable = targets.Unreachable
way_target to_prohibit = targets.Prohibit

way_same : (x : Way) → target_tree (way_target x) ≡ Right (symbol_leaf (way_symbol x))
way_same to_blackhole = refl
way_same to_unreachable = refl
way_same to_prohibit = refl

abbrev about_value : Bool → StringLiteral → Transport
about_value true q = transports.Description q
about_value false q = transports.Password q

about_same : (b : Bool) (q : StringLiteral) → transport_tree (about_value b q) ≡ nth 0 (Pair (symbol_leaf (about b)) (text_leaf q))
about_same true q = refl
about_same false q = refl

abbrev timer_value : Bool → Num → Transport
timer_value true n = transports.HoldTime n
timer_value false n = transports.KeepaliveTime n

timer_same : (b : Bool) (n : Num) → transport_tree (timer_value b n) ≡ nth 2 (Pair (symbol_leaf (timer b)) (time_tree n))
timer_same true n = refl
timer_same false n = refl

abbrev default_of_value : ℕ → Bool → Num → BgpOption
default_of_value at true n = bgp_options.DefaultMed at n
default_of_value at false n = bgp_options.DefaultLocalPref at n

default_same : (at : ℕ) (b : Bool) (n : Num) → bgp_option_tree (default_of_value at b n) ≡ nth 5 (default_tree at (default_of b) n)
default_same at true n = refl
default_same at false n = refl

abbrev ends : Option (Unit {0}) → Bool
ends None = false
ends (Some u) = true

ends_same : (o : Option (Unit {0})) → semicolon_tree (ends o) ≡ maybe (λ (u : Unit {0}). semicolon_leaf) o
ends_same None = refl
ends_same (Some u) = refl

-- ---- rows of options

rows_more : {X : Type 0} (view : X → ParseTree) (t : ParseTree) (xs : List X) (x : X) → row_after t (map view (xs ++ x ∷ [])) ≡ Snoc (row_after t (map view xs)) (view x)
rows_more view t [] x = refl
rows_more view t (y ∷ xs) x = rows_more view (Snoc t (view y)) xs x

options_told : {n : ℕ} {f : Form} {X : Type 0} {v : X → ParseTree} → Solid (Seq f semicolon) → nullable (Seq f semicolon) ≡ false → Reads n f v → Reads n (ended_options f) (λ (options : Vec X Global). ended_row v options.items)
options_told {n = n} {f = f} {v = v} solid full r =
    let item = ahead sym.Semicolon refl r in
    record {
      told = λ t s h.
          let row = many_told rule n (Seq f semicolon) solid full (λ o. ended_tree (v o)) item.told (ended_row v) refl (rows_more (λ o. ended_tree (v o)) (Single NoWords)) t (more_room n t s) h in
          (vec row.items (omega (arith, row.few, s.short)), row.seen);
    }

-- ---- parameters

pub record Parameters (t : ParseTree) : Type 0 where
  pub first : Parameter
  pub others : List Parameter
  pub alone : first.separator ≡ None
  pub seen : parameters_after (Single (parameter_tree first)) others ≡ t
  pub few : 1 + length others ≤ length (yield t)

abbrev with_separator : Separator → Parameter → Parameter
with_separator s p = record { separator = Some s; variable_type = p.variable_type; name = p.name }

parameters_more : (t : ParseTree) (ps : List Parameter) (s : Separator) (p : Parameter) → parameters_after t (ps ++ with_separator s p ∷ []) ≡ Snoc (parameters_after t ps) (Pair (symbol_leaf (separator_symbol s)) (parameter_tree p))
parameters_more t [] s p = refl
parameters_more t (q ∷ ps) s p = parameters_more (next_parameter t q.separator q) ps s p

module _ (n : ℕ) where
  num : Reads n (Terminal is_num) num_tree
  num = record { told = λ t s h. num_told t h }

  named : Reads n (Terminal name) name_leaf
  named = record { told = λ t s h. let m = name_is rule t h in (m.0, flip m.1) }

  addressed : Reads n (Terminal address) address_leaf
  addressed = whole (under (λ a. a) (λ a. refl) (sorted n address (λ (a : Address). words.Ip a.at a.addr) address_is))

  quoted : Reads n (Terminal text) text_leaf
  quoted = whole (under (λ q. q) (λ q. refl) (sorted n text (λ (q : StringLiteral). words.Text q.at q.start q.len) text_is))

  net : Reads n (Terminal prefix) (λ (z : ℕ × Prefix). Leaf (words.Prefix z.0 z.1))
  net = record { told = λ t s h. let p = prefix_told t h in ((p.0, p.1), flip p.2) }

  switched : Reads n (Terminal is_switch) switch_leaf
  switched = whole (under (λ x. x) (λ x. refl) (sorted n is_switch (λ (x : Switch). words.Symbol (switch_symbol x)) switch_is))

  family : Reads n (Terminal is_family) (λ (z : ℕ × Family). family_leaf z.0 z.1)
  family = sorted n is_family (λ (z : ℕ × Family). words.Placed z.0 (family_symbol z.1)) family_is

  an_expression : Reads n expr expr_tree
  an_expression = record { told = (levels n).to_expr }

  a_block : Reads n block block_view
  a_block = record { told = to_block n }

  a_type : Reads n vtype type_tree
  a_type = record { told = λ t s h. type_told n t (more_room n t s) h }

  ended : {f : Form} {X : Type 0} {v : X → ParseTree} → Reads n f v → Reads n (Seq f semicolon) (λ (x : X). Pair (v x) semicolon_leaf)
  ended r = ahead sym.Semicolon refl r

  -- policies and channels

  policy_told : Reads n policy policy_tree
  policy_told = whole (choose (under plain_policy plain_same (sorted n (λ k. symbol sym.All k || symbol sym.None k) (λ (b : Bool). words.Symbol (all_or_none b)) all_or_none_is))
      (choose (under (λ z. filter_value z.0 z.1) (λ z. filter_same z.0 z.1) (both (place n sym.Filter refl) (one_of named a_block)))
      (under (λ z. policies.Where z.0 z.1) (λ z. refl) (both (place n sym.Where refl) an_expression))))

  limit_told : Reads n (Alt (Terminal (symbol sym.Off)) (Seq (Terminal is_num) (optional action))) limit_tree
  limit_told = whole (choose (under (λ u. limits.Off) (λ u. refl) (sign n sym.Off refl))
      (under (λ z. limits.Count z.0 z.1) (λ z. refl) (both num (maybe_told (whole (under (λ a. a) (λ a. refl) (behind sym.Action refl (sorted n is_action (λ (x : Action). words.Symbol (action_symbol x)) action_is))))))))

  table_told : Reads n table_option table_tree
  table_told = whole (under (λ m. m) (λ m. refl) (behind sym.Table refl named))

  channel_option_told : Reads n channel_option channel_option_tree
  channel_option_told = whole (choose (under channel_options.Table (λ m. refl) table_told)
      (choose (under import_value import_same (behind sym.Import refl (one_of (behind sym.Limit refl limit_told) policy_told)))
      (choose (under channel_options.Export (λ p. refl) (behind sym.Export refl policy_told))
      (choose (under (λ z. channel_options.Preference z.0 z.1) (λ z. refl) (both (routed n attributes.Preference) num))
      (under channel_options.NextHop (λ x. refl) (behind sym.Next refl (behind sym.Hop refl (sorted n is_hop (λ (x : NextHop). words.Symbol (hop_symbol x)) hop_is))))))))

  channel_told : Reads n channel channel_tree
  channel_told = whole (under (λ z. record { at = z.0.0; family = z.0.1; options = z.1 }) (λ z. refl)
      (both family (maybe_told (whole (under (λ v. v) (λ v. refl) (behind sym.OpenBrace refl (ahead sym.CloseBrace refl (options_told (solid_at (Seq channel_option semicolon) refl) refl channel_option_told))))))))

  -- the options of protocols

  way_told : Reads n route_target target_tree
  way_told = whole (choose (under targets.Via (λ a. refl) (behind sym.Via refl addressed))
      (under way_target way_same (sorted n (λ k. symbol sym.Blackhole k || symbol sym.Unreachable k || symbol sym.Prohibit k) (λ (x : Way). words.Symbol (way_symbol x)) way_is)))

  route_told : Reads n route route_tree
  route_told = whole (under (λ z. record { at = z.0.0; net = z.0.1; target = z.1 }) (λ z. refl)
      (behind sym.Route refl (both net way_told)))

  static_option_told : Reads n static_option static_option_tree
  static_option_told = whole (choose (under static_options.Channel (λ c. refl) channel_told) (under static_options.Route (λ r. refl) route_told))

  timed_told : Reads n (Seq (Terminal (symbol sym.Time)) (Terminal is_num)) time_tree
  timed_told = whole (under (λ x. x) (λ x. refl) (behind sym.Time refl num))

  numbered_told : Reads n (Seq (Terminal (symbol sym.As)) (Terminal is_num)) as_tree
  numbered_told = whole (under (λ x. x) (λ x. refl) (behind sym.As refl num))

  transport_told : Reads n transport transport_tree
  transport_told = whole (choose (under (λ z. about_value z.0 z.1) (λ z. about_same z.0 z.1) (both (sorted n (λ k. symbol sym.Description k || symbol sym.Password k) (λ (b : Bool). words.Symbol (about b)) about_is) quoted))
      (choose (under (λ z. transports.SourceAddress z.0 z.1) (λ z. refl) (both (routed n attributes.Source) (behind sym.Address refl addressed)))
      (choose (under (λ z. timer_value z.0 z.1) (λ z. timer_same z.0 z.1) (both (sorted n (λ k. symbol sym.Hold k || symbol sym.Keepalive k) (λ (b : Bool). words.Symbol (timer b)) timer_is) timed_told))
      (choose (under transports.ConnectRetryTime (λ x. refl) (behind sym.Connect refl (behind sym.Retry refl timed_told)))
      (choose (under transports.Multihop (λ x. refl) (behind sym.Multihop refl (maybe_told num)))
      (choose (under (λ u. transports.Direct) (λ u. refl) (sign n sym.Direct refl))
      (under transports.Passive (λ x. refl) (behind sym.Passive refl (maybe_told switched)))))))))

  bgp_option_told : Reads n bgp_option bgp_option_tree
  bgp_option_told = whole (choose (under bgp_options.Channel (λ c. refl) channel_told)
      (choose (under (λ z. bgp_options.Local z.0 z.1) (λ z. refl) (behind sym.Local refl (both (maybe_told addressed) numbered_told)))
      (choose (under (λ z. bgp_options.Neighbor z.0 z.1) (λ z. refl) (behind sym.Neighbor refl (both addressed numbered_told)))
      (choose (under bgp_options.MedMetric (λ x. refl) (behind sym.Med refl (behind sym.Metric refl switched)))
      (choose (under bgp_options.InterpretCommunities (λ x. refl) (behind sym.Interpret refl (behind sym.Communities refl switched)))
      (choose (under (λ z. default_of_value z.0.0 z.0.1 z.1) (λ z. default_same z.0.0 z.0.1 z.1) (behind sym.Default refl (both (sorted n is_default (λ (z : ℕ × Bool). words.Attribute z.0 (default_of z.1)) default_is) num)))
      (under bgp_options.Transport (λ x. refl) transport_told)))))))

  pipe_option_told : Reads n pipe_option pipe_option_tree
  pipe_option_told = whole (choose (under pipe_options.Table (λ m. refl) table_told)
      (choose (under pipe_options.PeerTable (λ m. refl) (behind sym.Peer refl table_told))
      (choose (under pipe_options.Import (λ p. refl) (behind sym.Import refl policy_told))
      (under pipe_options.Export (λ p. refl) (behind sym.Export refl policy_told)))))

  -- statements

  literal_told : Reads n literal literal_tree
  literal_told = whole (choose (record { found = λ t s h. let w = one_is rule t is_value h in let x = value_is w.word w.passes in (x.0, x.1 ∙ ap (λ (u : ParseTree). Left u) (flip w.is)) })
      (choose (under (λ z. literals.Pair z.0 z.1.0 z.1.1) (λ z. refl) (both (place n sym.OpenParenthesis refl) (both num (behind sym.Comma refl (ahead sym.CloseParenthesis refl num)))))
      (choose (under (λ z. literals.Set z.0 z.1) (λ z. refl) set_told) (under (λ z. literals.Mask z.0 z.1) (λ z. refl) (ahead sym.CloseMask refl (both (place n sym.OpenMask refl) mask_row))))))
    where
      set_told : Reads n set (λ (z : ℕ × Vec Item Global). between (words.Placed z.0 sym.OpenBracket) (items_tree z.1.items) sym.CloseBracket)
      set_told = record {
        told = λ t s h.
            let i = between_is n sym.OpenBracket sym.CloseBracket set_level t refl refl (more_room n t s) h in
            let r = items_told n i.inner (more_room n i.inner i.small) i.fits in
            ((i.at, vec r.items (omega (arith, r.few, i.small.short))), ap (λ (x : ParseTree). between (words.Placed i.at sym.OpenBracket) x sym.CloseBracket) r.seen ∙ flip i.is);
      }

      mask_row : Reads n (many mask_item) (λ (v : Vec MaskItem Global). mask_items_tree v.items)
      mask_row = record { told = λ t s h. let r = mask_told n t (more_room n t s) h in (vec r.items (omega (arith, r.few, s.short)), r.seen) }

  parameter_told : Reads n parameter parameter_tree
  parameter_told = whole (under (λ z. record { separator = None; variable_type = z.0; name = z.1 }) (λ z. refl) (both a_type named))

  gather : (t : ParseTree) → Small (suc n) t → DerivesLongest rule t parameters → Parameters t
  gather (Single a) s h =
      let p = (both a_type named).told a (start_small n a s) h in
      record {
        first = record { separator = None; variable_type = p.0.0; name = p.0.1 };
        others = [];
        alone = refl;
        seen = ap (λ (u : ParseTree). Single u) p.1;
        few = omega (arith, some_words rule a parameter (solid_at parameter refl) refl h);
      }
  gather (Snoc t b) s h =
      let r = gather t (more_room n t (chain_small n t b s)) h.0 in
      let x = (both (sorted n is_separator (λ (x : Separator). words.Symbol (separator_symbol x)) separator_is) parameter_told).told b (part_small n t b s) h.1 in
      record {
        first = r.first;
        others = r.others ++ with_separator x.0.0 x.0.1 ∷ [];
        alone = r.alone;
        seen = parameters_more (Single (parameter_tree r.first)) r.others x.0.0 x.0.1 ∙ more_of (parameters_after (Single (parameter_tree r.first)) r.others) (Pair (symbol_leaf (separator_symbol x.0.0)) (parameter_tree x.0.1)) t b r.seen x.1;
        few = omega (arith, r.few, length-append r.others (with_separator x.0.0 x.0.1 ∷ []), length-append (yield t) (yield b), some_words rule b (Seq (Terminal is_separator) parameter) (solid_at (Seq (Terminal is_separator) parameter) refl) refl h.1);
      }
  gather _ s h = absurd h

  first_alone : (p : Parameter) (ps : List Parameter) → p.separator ≡ None → parameters_tree (p ∷ ps) ≡ Left (parameters_after (Single (parameter_tree p)) ps)
  first_alone p ps e = rw e refl

  parameters_told : Reads n (optional parameters) (λ (v : Vec Parameter Global). parameters_tree v.items)
  parameters_told = record {
    told = λ t s h. elim (optional_is rule n t parameters (more_room n t s) h) [
      | inl a ↦
          let r = gather a.part (more_room n a.part a.small) a.fits in
          (vec (r.first ∷ r.others) (omega (arith, r.few, a.small.short)), first_alone r.first r.others r.alone ∙ ap (λ (u : ParseTree). Left u) r.seen ∙ flip a.is)
      | inr none ↦ (vec [] (omega arith), flip none)
    ];
  }

  function_told : Reads n function function_tree
  function_told = whole (under (λ z. record { name = z.0; «open» = z.1.0; parameters = z.1.1.0; gives = z.1.1.1.0; block = z.1.1.1.1 }) (λ z. refl)
      (behind sym.Function refl (both named (both (place n sym.OpenParenthesis refl) (both parameters_told (behind sym.CloseParenthesis refl (both (maybe_told (whole (under (λ v. v) (λ v. refl) (behind sym.Arrow refl a_type)))) a_block)))))))

  end_told : Reads n protocol_end protocol_end_tree
  end_told = whole (under (λ b. b) (λ b. refl) (behind sym.CloseBrace refl (whole (under ends ends_same (maybe_told (sign n sym.Semicolon refl))))))

  protocol_told : (kind : Symbol) {f : Form} {X : Type 0} {v : X → ParseTree} → is_placed kind ≡ true → Solid (Seq f semicolon) → nullable (Seq f semicolon) ≡ false → Reads n f v → Reads n (protocol_of kind f) (λ (p : Protocol X). protocol_tree kind v p)
  protocol_told kind placed solid full r = whole (under (λ z. record { at = z.0; name = z.1.0; options = z.1.1.0; semicolon = z.1.1.1 }) (λ z. refl)
      (both (place n kind placed) (both (maybe_told named) (behind sym.OpenBrace refl (both (options_told solid full r) end_told)))))

  device_told : Reads n device (λ (z : Option Name × Bool). device_tree z.0 z.1)
  device_told = whole (under (λ z. z) (λ z. refl) (behind sym.Device refl (both (maybe_told named) (behind sym.OpenBrace refl end_told))))

  statement_told : Reads n statement statement_tree
  statement_told = whole (choose (under statements.RouterId (λ a. refl) (behind sym.Router refl (behind sym.Id refl (ended addressed))))
      (choose (under (λ u. statements.Log) (λ u. refl) (behind sym.Log refl (sign n sym.Semicolon refl)))
      (choose (under (λ z. statements.Define z.0 z.1) (λ z. refl) (behind sym.Define refl (both named (behind sym.Equal refl (ended literal_told)))))
      (choose (under (λ z. statements.Table z.0.0 z.0.1 z.1) (λ z. refl) (both family (behind sym.Table refl (ended named))))
      (choose (under statements.Function (λ f. refl) function_told)
      (choose (under (λ z. statements.Filter z.0 (record { name = z.1.0; block = z.1.1 })) (λ z. refl) (both (place n sym.Filter refl) (both named a_block)))
      protocols_told))))))
    where
      protocols_told : Under n (λ t. Right (Right (Right (Right (Right (Right t)))))) protocol statement_tree
      protocols_told = record {
        found = λ t s h.
            let p = seq_is rule n t (Terminal (symbol sym.Protocol)) (Alt device (Alt (protocol_of sym.Static static_option) (Alt (protocol_of sym.Bgp bgp_option) (protocol_of sym.Pipe pipe_option)))) (more_room n t s) h in
            let x = kinds_told.found p.right p.right_small p.right_fits in
            (x.0, x.1 ∙ ap (λ (u : ParseTree). beyond 6 u) (both_of (symbol_leaf sym.Protocol) p.right p.left p.right (flip (symbol_is rule p.left sym.Protocol refl p.left_fits)) refl ∙ flip p.is));
      }
        where
          kinds_told : Under n (λ t. beyond 6 (Pair (symbol_leaf sym.Protocol) t)) (Alt device (Alt (protocol_of sym.Static static_option) (Alt (protocol_of sym.Bgp bgp_option) (protocol_of sym.Pipe pipe_option)))) statement_tree
          kinds_told = choose (under (λ z. statements.Device z.0 z.1) (λ z. refl) device_told)
              (choose (under statements.Static (λ p. refl) (protocol_told sym.Static refl (solid_at (Seq static_option semicolon) refl) refl static_option_told))
              (choose (under statements.Bgp (λ p. refl) (protocol_told sym.Bgp refl (solid_at (Seq bgp_option semicolon) refl) refl bgp_option_told))
              (under statements.Pipe (λ p. refl) (protocol_told sym.Pipe refl (solid_at (Seq pipe_option semicolon) refl) refl pipe_option_told))))

pub statements_of : (t : ParseTree) → DerivesLongest rule t config → length (yield t) < 2 ^ 63 → Seen statements_tree t
statements_of t h short =
    let n = size t in
    let r = many_told rule (size t) statement (solid_at statement refl) refl statement_tree (statement_told (size t)).told statements_tree refl (rows_more statement_tree (Single NoWords)) t (record { parts = omega arith; short = short }) h in
    (r.items, r.seen)
