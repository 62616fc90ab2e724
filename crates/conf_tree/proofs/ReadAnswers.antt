-- What is answered to a text: its one configuration, or its one refusal.
use Rattle.std.proofs.Common.{◌≡◌, ℕ, List, Ok, Err, Result, IfOk, IfErr, refl, ap, ◌∙◌, inl, inr}
use Rattle.conf_lex.specs.Grammar.{ParseTree}
use Rattle.conf_tree.specs.Read.{IsConfigText, IsRefusedText, IsFault, IsTreeOf, IsFaultOf}
use Rattle.conf_tree.specs.View.{config_view}
use Rattle.conf_ast.specs.declared.kind.ConfFault.{ConfFault}
use Rattle.conf_ast.specs.declared.kind.ConfFault.TheVariants as outcomes
use Rattle.conf_ast.specs.declared.kind.ConfKind.{ConfKind}
use Rattle.conf_ast.specs.declared.configurations.Config.{Config}

module _ (text : List ℕ) (never : (source : List ℕ) (t : ParseTree) (at : ℕ) (kind : ConfKind) → IsConfigText source t → IsRefusedText source at kind → ⊥) where
  fault_only : (d : ConfFault) → IsFault text d → (t : ParseTree) → IsConfigText text t → d ≡ outcomes.Memory
  fault_only (outcomes.Refused at kind) fault t is = absurd (never text t at kind is fault)
  fault_only outcomes.Memory fault t is = refl

  pub answer_only : ((source : List ℕ) (t u : ParseTree) → IsConfigText source t → IsConfigText source u → t ≡ u) → (r : Result Config ConfFault) → IfOk r (λ c. IsConfigText text (config_view c)) → IfErr r (IsFault text) → (t : ParseTree) → IsConfigText text t → IsTreeOf r t
  answer_only once (Ok c) tree fault t is = once text (config_view c) t tree is
  answer_only once (Err d) tree fault t is = fault_only d fault t is

  -- what is a configuration isn't refused
  tree_exact : (c : Config) → IsConfigText text (config_view c) → (e : ConfFault) → IsFault text e → IsFaultOf (Ok c) e
  tree_exact c tree (outcomes.Refused at kind) is = never text (config_view c) at kind tree is
  tree_exact c tree outcomes.Memory is = tt

  module _ (once : (source : List ℕ) (at b : ℕ) (kind other : ConfKind) → IsRefusedText source at kind → IsRefusedText source b other → (at ≡ b) × (kind ≡ other)) where
    fault_exact : (d e : ConfFault) → IsFault text d → IsFault text e → IsFaultOf (Err d) e
    fault_exact d outcomes.Memory fault is = tt
    fault_exact outcomes.Memory (outcomes.Refused b other) fault is = inl refl
    fault_exact (outcomes.Refused at kind) (outcomes.Refused b other) fault is =
        let same = once text at b kind other fault is in
        inr (ap (λ (n : ℕ). outcomes.Refused n kind) same.0 ∙ ap (λ (k : ConfKind). outcomes.Refused b k) same.1)

    pub answer_exact : (r : Result Config ConfFault) → IfOk r (λ c. IsConfigText text (config_view c)) → IfErr r (IsFault text) → (e : ConfFault) → IsFault text e → IsFaultOf r e
    answer_exact (Ok c) tree fault e is = tree_exact c tree e is
    answer_exact (Err d) tree fault e is = fault_exact d e fault is
