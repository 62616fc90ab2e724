-- What a text comes to is safe.
use Rattle.std.proofs.Common.{◌≡◌, ◌≤◌, ℕ, List, [], ◌∷◌, ◌++◌, All, None, refl, sym, subst}
use Rattle.attrs.specs.declared.attributes.Attrs.{Attrs}
use Rattle.conf_ast.specs.Configurations as conf
use Rattle.conf_ast.specs.Filters.{Statements}
use Rattle.filt_meaning.specs.Configuration.{body}
use Rattle.filt_meaning.specs.Flow.{Stuck, Stopped}
use Rattle.filt_meaning.specs.Names.{Around}
use Rattle.filt_steps.specs.Limits.{AttrsAreWithin}
use Rattle.filt_steps.specs.Steps.{filter_steps}
use Rattle.conf_rules.specs.Statements.{refusals}
use Rattle.conf_check.specs.Behind.{at_start, behind}
use Rattle.conf_check.specs.Refused.{refusal_of}
use Rattle.conf_system.specs.System.{Protocol, System, system_in}
use Rattle.conf_system.specs.Texts.{IsAcceptedText, IsSystem, refused_in}
use Rattle.conf_system.specs.Behind.{context_behind, counts_behind}
use Rattle.accepted_laws.specs.Texts.{BothPolicies, IsSafe, IsSafePolicy}
use Rattle.conf_system.specs.Written.{IsWritten}
use Rattle.conf_system.proofs.Every.{all_of}
use Rattle.accepted_laws.proofs.Policies.{all_safe}

accepted_is : (text : List ℕ) (ds : List conf.Declaration) → IsAcceptedText text ds
    → refusal_of (at_start text) ds ≡ None
unfolding refused_in
accepted_is text ds a = a.accepted

module _
    (refused : (text : List ℕ) (ds before more : List conf.Declaration) (d : conf.Declaration)
    → refusal_of (at_start text) ds ≡ None → ds ≡ before ++ d ∷ more
    → refusals (behind (at_start text) before) d ≡ [])
    (stuck : (text : List ℕ) (ds before : List conf.Declaration) (ss : Statements)
    → refusal_of (at_start text) ds ≡ None → IsWritten ds before ss
    → (around : Around) (attrs after : Attrs)
    → body (context_behind text around before) [] ss [] attrs ≡ Stopped Stuck after → ⊥)
    (steps : (text : List ℕ) (ds before : List conf.Declaration) (ss : Statements)
    → refusal_of (at_start text) ds ≡ None → IsWritten ds before ss
    → (around : Around) (attrs : Attrs) → AttrsAreWithin attrs
    → filter_steps (context_behind text around before) (counts_behind text around before) ss attrs
    ≤ 10000000) where
  filters_safe : (text : List ℕ) (ds : List conf.Declaration)
      → refusal_of (at_start text) ds ≡ None
      → (before : List conf.Declaration) (ss : Statements) → IsWritten ds before ss
      → IsSafe text before ss
  filters_safe text ds e before ss w =
      record { never_stuck = stuck text ds before ss e w; few_steps = steps text ds before ss e w }

  protocols_safe : (text : List ℕ) (ds : List conf.Declaration)
      → refusal_of (at_start text) ds ≡ None
      → All (λ (p : Protocol). BothPolicies (IsSafePolicy text ds) p.body)
      (system_in text ds).protocols
  unfolding system_in
  protocols_safe text ds e =
      all_of (λ (p : Protocol). BothPolicies (IsSafePolicy text ds) p.body)
      (system_in text ds).protocols
      (all_safe text ds (filters_safe text ds e) (λ before more d. refused text ds before more d e)
      ds [] refl)

  pub system_safe : (text : List ℕ) (system : System) → IsSystem text system
      → (ds : List conf.Declaration) × IsAcceptedText text ds × (system ≡ system_in text ds)
      × All (λ (p : Protocol). BothPolicies (IsSafePolicy text ds) p.body) system.protocols
  system_safe text system is = (
    is.0,
    is.1,
    is.2,
    subst
        (λ (s : System). All (λ (p : Protocol). BothPolicies (IsSafePolicy text is.0) p.body)
        s.protocols)
        (sym is.2) (protocols_safe text is.0 (accepted_is text is.0 is.1)),
  )
