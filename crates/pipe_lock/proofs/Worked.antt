-- A pipe that is switched off and on again, by hand.
use Rattle.std.proofs.Common.{◌≡◌, ℕ, List, [], ◌∷◌, Some, refl, sym, ap, subst, ◌∙◌}
use Rattle.export_core.specs.declared.log.LogItem.TheVariants.{Up, Down}
use Rattle.import_core.specs.declared.operation.Op.{Op}
use Rattle.import_core.specs.declared.operation.Op.TheVariants.{Disable, Enable, Reload}
use Rattle.core_machine.specs.Rules.{Rise, Fall}
use Rattle.core_machine.specs.Signals.{Notice, with_signal}
use Rattle.phase_legal.specs.Stamps.{AreStamps, notices_from}
use Rattle.pipe_lock.specs.Terms.{AreTerms, PipeTerms, rules_in}
use Rattle.pipe_lock.proofs.Planning.{effect_is}

module _ (key : PipeTerms) (terms : AreTerms key) where
  abbrev pub notices : List Op → List Notice
  notices ops = notices_from (rules_in key) key.number [] ops

  off : notices (Disable ∷ []) ≡ record { signal = Fall; ops = Disable ∷ [] } ∷ []
  off = ap (λ e. with_signal e.signal (Disable ∷ []) []) (effect_is key [] Disable terms)

  off_and_on : notices (Enable ∷ Disable ∷ []) ≡ record { signal = Rise; ops = Enable ∷ Disable ∷ [] } ∷ record { signal = Fall; ops = Disable ∷ [] } ∷ []
  off_and_on =
      ap (λ e. with_signal e.signal (Enable ∷ Disable ∷ []) (notices (Disable ∷ []))) (effect_is key (Disable ∷ []) Enable terms)
      ∙ ap (λ ns. record { signal = Rise; ops = Enable ∷ Disable ∷ [] } ∷ ns) off

  -- its stamps have marked a down, and then an up at any position
  pub marks_are : (table h : ℕ) → AreStamps (rules_in key) key.number [] (Some table) [] (Up h ∷ Down ∷ []) (notices (Enable ∷ Disable ∷ []))
  marks_are table h = subst (AreStamps (rules_in key) key.number [] (Some table) [] (Up h ∷ Down ∷ [])) (sym off_and_on)
      ((refl, λ none. absurd (let bad : Enable ∷ Disable ∷ [] ≡ [] = none in cc)), (refl, tt))

  -- while it is off a reload marks nothing
  pub off_and_reloaded : notices (Reload ∷ Disable ∷ []) ≡ notices (Disable ∷ [])
  off_and_reloaded = ap (λ e. with_signal e.signal (Reload ∷ Disable ∷ []) (notices (Disable ∷ []))) (effect_is key (Disable ∷ []) Reload terms)
