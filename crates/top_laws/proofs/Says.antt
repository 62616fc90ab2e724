-- Each text within the limit says something.
use Rattle.std.proofs.Common.{◌≡◌, ◌≤◌, ◌<◌, ◌^◌, ap, refl, sym, subst, ℕ, List, length, Option, Some, None, arith, inl, inr}
use Rattle.std.specs.Prelude.{◌⊎◌}
use Rattle.conf_scan.specs.Lex.{Lexes}
use Rattle.conf_scan.specs.declared.token.Token.{Token}
use Rattle.conf_lex.specs.declared.word.Word.{Word}
use Rattle.conf_lex.specs.Grammar.{ParseTree, DerivesLongest, yield}
use Rattle.expr_syntax.specs.Syntax.{rule}
use Rattle.conf_tree.specs.Position.{IsPlace}
use Rattle.conf_tree.specs.Read.{IsConfigText, IsRefusedText}
use Rattle.conf_words.specs.Significant.{significant_words}
use Rattle.conf_syntax.specs.Syntax.{config}
use Rattle.conf_tree.specs.View.{statements_tree}
use Rattle.conf_ast.specs.declared.kind.ConfKind.{ConfKind}
use Rattle.conf_ast.specs.declared.configurations.Statement.{Statement}
use Rattle.conf_ast.specs.Configurations.{Declaration, configuration_of}
use Rattle.conf_names.specs.declared.refusal.Refusal.{Refusal}
use Rattle.outside_io.specs.Whole.{limit}
use Rattle.conf_system.specs.System.{system_in}
use Rattle.conf_system.specs.Texts.{IsAcceptedText, refused_in}
use Rattle.top_laws.specs.Says.{SaysSomething}

-- ---- what is accepted

of_accepted : (text : List ℕ) (ds : List Declaration) → IsAcceptedText text ds → SaysSomething text
of_accepted text ds is = inl (system_in text ds, (ds, is, refl))

-- ---- texts

module _ (each_place : (text : List ℕ) (at : ℕ) → (line : ℕ) × (column : ℕ) × IsPlace text at line column) where
  of_statements : (text : List ℕ) (all : List Statement) → IsConfigText text (statements_tree all) → (found : Option Refusal) → refused_in text (configuration_of all) ≡ found → SaysSomething text
  of_statements text all is None found =
      of_accepted text (configuration_of all) (record { statements = all; tree = is; are = refl; accepted = found })
  of_statements text all is (Some r) found =
      let place = each_place text r.at in inr (place.0, place.1, r.kind, (r.at, inr (record { statements = all; tree = is; refused = found }), place.2))

  module _ (few : (text : List ℕ) (tokens : List Token) → Lexes 0 text tokens → length (significant_words text tokens) ≤ length text)
      (each_tree : (t : ParseTree) → DerivesLongest rule t config → length (yield t) < 2 ^ 63 → (all : List Statement) × (statements_tree all ≡ t)) where
    of_tree : (text : List ℕ) (t : ParseTree) → length text ≤ limit → IsConfigText text t → SaysSomething text
    of_tree text t within is =
        let sentence = is.2 in
        let words : length (yield t) ≡ length (significant_words text is.0) = ap (λ (ws : List Word). length ws) sentence.whole in
        let all = each_tree t sentence.fits (omega (arith, words, few text is.0 is.1, within)) in
        of_statements text all.0 (subst (λ (u : ParseTree). IsConfigText text u) (sym all.1) is) (refused_in text (configuration_of all.0)) refl

    pub says_something : ((text : List ℕ) → ((t : ParseTree) × IsConfigText text t) ⊎ ((at : ℕ) × (kind : ConfKind) × IsRefusedText text at kind)) → (text : List ℕ) → length text ≤ limit → SaysSomething text
    says_something each_text text within = elim (each_text text) [
      | inl is ↦ of_tree text is.0 within is.1
      | inr refused ↦ let place = each_place text refused.0 in inr (place.0, place.1, refused.1, (refused.0, inl refused.2, place.2))
    ]
