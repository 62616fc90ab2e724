-- A text says one thing at most: one system, or one refusal.
use Rattle.std.proofs.Common.{◌≡◌, ◌∙◌, sym, ap, subst, ℕ, List, inl, inr}
use Rattle.std.specs.Prelude.{◌⊎◌}
use Rattle.std.proofs.lemmas.Option.{none-some, same_Some}
use Rattle.conf_lex.specs.Grammar.{ParseTree}
use Rattle.conf_tree.specs.Position.{IsPlace}
use Rattle.conf_tree.specs.Read.{IsConfigText, IsRefusedText}
use Rattle.conf_tree.specs.View.{statements_tree}
use Rattle.conf_ast.specs.declared.kind.ConfKind.{ConfKind}
use Rattle.conf_ast.specs.declared.configurations.Statement.{Statement}
use Rattle.conf_ast.specs.Configurations.{Declaration, configuration_of}
use Rattle.conf_names.specs.declared.refusal.Refusal.{Refusal}
use Rattle.conf_system.specs.System.{System, system_in}
use Rattle.conf_system.specs.Texts.{IsAcceptedText, IsRefusedAt, IsRefusedWhenChecked, IsSystem, refused_in}

-- It follows from the laws of syntax, of refusals by the grammar and of places.
module _ (syntax_once : (text : List ℕ) (c d : List Statement) → IsConfigText text (statements_tree c) → IsConfigText text (statements_tree d) → configuration_of c ≡ configuration_of d) where
  accepted_once : (text : List ℕ) (c d : List Declaration) → IsAcceptedText text c → IsAcceptedText text d → c ≡ d
  accepted_once text c d one two = sym one.are ∙ syntax_once text one.statements two.statements one.tree two.tree ∙ two.are

  pub systems_agree : (text : List ℕ) (a b : System) → IsSystem text a → IsSystem text b → a ≡ b
  systems_agree text a b one two = one.2 ∙ ap (system_in text) (accepted_once text one.0 two.0 one.1 two.1) ∙ sym two.2

  checked_or_accepted : (text : List ℕ) (ds : List Declaration) (at : ℕ) (kind : ConfKind) → IsAcceptedText text ds → IsRefusedWhenChecked text at kind → ⊥
  checked_or_accepted text ds at kind is refused =
      let found : Refusal = record { at = at; kind = kind } in
      none-some found (sym is.accepted ∙ ap (refused_in text) (sym is.are ∙ syntax_once text is.statements refused.statements is.tree refused.tree) ∙ refused.refused)

  checked_once : (text : List ℕ) (at b : ℕ) (kind other : ConfKind) → IsRefusedWhenChecked text at kind → IsRefusedWhenChecked text b other → (at ≡ b) × (kind ≡ other)
  checked_once text at b kind other one two =
      let found : Refusal = record { at = at; kind = kind } in
      let again : Refusal = record { at = b; kind = other } in
      let same : found ≡ again = same_Some found again (sym one.refused ∙ ap (refused_in text) (syntax_once text one.statements two.statements one.tree two.tree) ∙ two.refused) in
      (ap (λ (r : Refusal). r.at) same, ap (λ (r : Refusal). r.kind) same)

  module _ (never_both : (text : List ℕ) (t : ParseTree) (at : ℕ) (kind : ConfKind) → IsConfigText text t → IsRefusedText text at kind → ⊥) where
    pub accepted_or_refused : (text : List ℕ) (system : System) (line column : ℕ) (kind : ConfKind) → IsSystem text system → IsRefusedAt text line column kind → ⊥
    accepted_or_refused text system line column kind is refused = elim refused.1 [
      | inl read ↦ never_both text (statements_tree is.1.statements) refused.0 kind is.1.tree read
      | inr checked ↦ checked_or_accepted text is.0 refused.0 kind is.1 checked
    ]

    module _ (refusal_once : (text : List ℕ) (at b : ℕ) (kind other : ConfKind) → IsRefusedText text at kind → IsRefusedText text b other → (at ≡ b) × (kind ≡ other))
        (place_once : (text : List ℕ) (at l m c d : ℕ) → IsPlace text at l c → IsPlace text at m d → (l ≡ m) × (c ≡ d)) where
      refused_once : (text : List ℕ) (at b : ℕ) (kind other : ConfKind) → IsRefusedText text at kind ⊎ IsRefusedWhenChecked text at kind
          → IsRefusedText text b other ⊎ IsRefusedWhenChecked text b other → (at ≡ b) × (kind ≡ other)
      refused_once text at b kind other (inl one) (inl two) = refusal_once text at b kind other one two
      refused_once text at b kind other (inl one) (inr two) = absurd (never_both text (statements_tree two.statements) at kind two.tree one)
      refused_once text at b kind other (inr one) (inl two) = absurd (never_both text (statements_tree one.statements) b other one.tree two)
      refused_once text at b kind other (inr one) (inr two) = checked_once text at b kind other one two

      pub refusals_agree : (text : List ℕ) (l m c d : ℕ) (k j : ConfKind) → IsRefusedAt text l c k → IsRefusedAt text m d j → (l ≡ m) × (c ≡ d) × (k ≡ j)
      refusals_agree text l m c d k j one other =
          let same = refused_once text one.0 other.0 k j one.1 other.1 in
          let place = place_once text other.0 l m c d (subst (λ (at : ℕ). IsPlace text at l c) same.0 one.2) other.2 in
          (place.0, place.1, same.1)
