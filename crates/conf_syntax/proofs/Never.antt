-- Which words can't stand behind others, by the last two and the kinds of those before.
use Rattle.std.proofs.Common.{◌≡◌, Bool, true, false, not, List, [], ◌∷◌, ◌++◌, refl, sym, ap, subst, ◌∙◌}
use Rattle.conf_lex.specs.declared.symbol.Symbol.TheVariants as symbols
use Rattle.conf_lex.specs.declared.word.Word.{Word}
use Rattle.conf_lex.specs.Kind.{Kind, kind_of, symbol, address, prefix}
use Rattle.conf_lex.specs.Sentences.{IsBegun}
use Rattle.conf_lex.proofs.Good.{Solid}
use Rattle.expr_syntax.specs.Syntax.{rule}
use Rattle.expr_syntax.specs.Levels.{Level, group_level}
use Rattle.expr_syntax.proofs.Tested.{solid_at}
use Rattle.conf_syntax.specs.Syntax.{config}
use Rattle.conf_syntax.specs.Pairs.{has, is_option, is_end, is_last}
use Rattle.conf_syntax.proofs.Ends.{not_is}
use Rattle.conf_syntax.proofs.Adjacent.{any, no_kind, has_none, fine, never_begun}

-- all levels are looked at
abbrev each : Level → Bool
each n = true

option_rules : (n : Level) → each n ≡ true → fine any is_option (symbol symbols.Protocol) each (rule n) ≡ true
option_rules group_level e = refl
option_rules _ e = refl

address_rules : (n : Level) → each n ≡ true → fine is_last address no_kind each (rule n) ≡ true
address_rules group_level e = refl
address_rules _ e = refl

prefix_rules : (n : Level) → each n ≡ true → fine is_end prefix (symbol symbols.Colon) each (rule n) ≡ true
prefix_rules group_level e = refl
prefix_rules _ e = refl

config_solid : Solid config
config_solid = solid_at config refl

begun_behind : (before front : List Word) (u w : Word) → before ≡ front ++ u ∷ [] → IsBegun rule config (before ++ w ∷ []) → IsBegun rule config ((front ++ u ∷ []) ++ w ∷ [])
begun_behind before front u w cut begun = subst (λ (v : List Word). IsBegun rule config (v ++ w ∷ [])) cut begun

pub address_never : (before front : List Word) (u w : Word) → before ≡ front ++ u ∷ [] → is_last (kind_of u) ≡ true → address (kind_of w) ≡ true → IsBegun rule config (before ++ w ∷ []) → ⊥
address_never before front u w cut last is begun = never_begun is_last address no_kind each address_rules config config_solid refl front u w last is (has_none (front ++ u ∷ [])) (begun_behind before front u w cut begun)

module _ (before front : List Word) (u w : Word) (found : Bool) (none : not found ≡ true) (cut : before ≡ front ++ u ∷ []) where
  none_before : (p : Kind → Bool) → found ≡ has p before → has p (front ++ u ∷ []) ≡ false
  none_before p is = ap (has p) (sym cut) ∙ sym is ∙ not_is found none

  -- a word of a protocol
  pub option_never : found ≡ has (symbol symbols.Protocol) before → is_option (kind_of w) ≡ true → IsBegun rule config (before ++ w ∷ []) → ⊥
  option_never is option begun = never_begun any is_option (symbol symbols.Protocol) each option_rules config config_solid refl front u w refl option (none_before (symbol symbols.Protocol) is) (begun_behind before front u w cut begun)

  -- a prefix
  pub prefix_never : found ≡ has (symbol symbols.Colon) before → is_end (kind_of u) ≡ true → prefix (kind_of w) ≡ true → IsBegun rule config (before ++ w ∷ []) → ⊥
  prefix_never is last net begun = never_begun is_end prefix (symbol symbols.Colon) each prefix_rules config config_solid refl front u w last net (none_before (symbol symbols.Colon) is) (begun_behind before front u w cut begun)
