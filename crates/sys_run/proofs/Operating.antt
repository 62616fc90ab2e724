-- What comes of a protocol's operation.
use Rattle.std.proofs.Common.{◌≡◌, Bool, false, List, [], ◌∷◌, reverse, refl, ap, subst, ◌∙◌}
use Rattle.bits_ip.specs.Prefix.{Net}
use Rattle.attrs.specs.declared.judge.Verdict.{Verdict}
use Rattle.attrs.specs.declared.route.Change.{Change}
use Rattle.attrs.specs.declared.route.Route.{Route}
use Rattle.import_core.specs.declared.operation.Op.{Op}
use Rattle.import_core.specs.declared.step.Mark.{Mark}
use Rattle.import_core.specs.declared.step.Step.{Step}
use Rattle.import_core.specs.Changes.{IsStep}
use Rattle.import_core.specs.Importers.{Importing, IsNext, KeepsSpec}
use Rattle.import_core.specs.Operations.{done}
use Rattle.import_core.proofs.Differences.{difference_one}
use Rattle.core_machine.specs.Rules.{signalled}
use Rattle.core_setup.specs.Differences.{differences}
use Rattle.core_setup.specs.Protocols.{effect_in, imports_after, pipe_is_up, pipe_signal, signal_of}
use Rattle.core_setup.specs.Setup.{Body as SeenBody, IsPipe, IsSource, Source as SeenSource}
use Rattle.core_setup.proofs.Differing.{differences_are}
use Rattle.sys_run.specs.Cores.{Does, Imports}
use Rattle.sys_run.specs.declared.protocol.Body.{Body}
use Rattle.sys_run.specs.declared.protocol.Body.TheVariants.{Pipe, Source}
use Rattle.sys_run.specs.declared.protocol.Source.{Source as HeldSource}
use Rattle.sys_run.specs.declared.protocol.Turned.{Turned}

module _ {J : Type 0} (verdict : J → Net → Route → Verdict) (earlier : List Op) (op : Op) where
  -- what the contract of `turn` says
  abbrev pub Turns : SeenBody → Body J → Turned → Type 0
  Turns p new turned =
      Does verdict p (op ∷ earlier) new
      × (reverse turned.changes ≡ (effect_in p earlier op).changes)
      × (signal_of turned.mark ≡ (effect_in p earlier op).signal)
      × (turned.over ≡ (effect_in p earlier op).over)

  step_is : (p : SeenSource) (held : HeldSource J) (next : Importing J) (step : Step) → Imports verdict p earlier held
      → IsNext held.importer (done held.importer.spec (verdict held.importer.judge) op held.importer.imports) next step
      → IsStep p.spec (imports_after p earlier) (done p.spec p.filter op (imports_after p earlier)) next.imports step
  step_is p held next step is got =
      let e = held.importer in
      subst (λ z. IsStep p.spec z (done p.spec p.filter op z) next.imports step) is.imports
      (subst (λ f. IsStep p.spec e.imports (done p.spec f op e.imports) next.imports step) is.judge
      (subst (λ sp. IsStep sp e.imports (done sp (verdict e.judge) op e.imports) next.imports step) is.spec got))

  pub source_turns : (p : SeenBody) (held : HeldSource J) (next : Importing J) (step : Step)
      → IsNext held.importer (done held.importer.spec (verdict held.importer.judge) op held.importer.imports) next step
      → KeepsSpec held.importer next → Does verdict p earlier (Source held)
      → Turns p (Source (record held { importer = next })) (record { changes = step.changes; over = step.over; mark = step.mark })
  source_turns (IsSource p) held next step got keeps is =
      let before = imports_after p earlier in
      let o = done p.spec p.filter op before in
      let st = step_is p held next step is got in (
        record {
          table = is.table;
          kind = is.kind;
          spec = keeps.spec ∙ is.spec;
          judge = ap verdict keeps.judge ∙ is.judge;
          imports = st.imports;
        },
        ap reverse (difference_one p.spec.src.num before.accepted o.imports.accepted step.changes (differences p.spec.src.num before.accepted o.imports.accepted) st.changes
            (differences_are p.spec.src.num before.accepted o.imports.accepted)),
        ap signal_of st.mark,
        st.over,
      )
  source_turns (IsPipe p) held next step got keeps is = absurd is

  pub pipe_turns : (p : SeenBody) (up after : Bool) (mark : Mark) (changes : List Change) → changes ≡ [] → signal_of mark ≡ pipe_signal up op → after ≡ signalled (signal_of mark) up
      → Does verdict p earlier (Pipe up) → Turns p (Pipe after) (record { changes = changes; over = false; mark = mark })
  pipe_turns (IsSource p) up after mark changes none told is does = absurd does
  pipe_turns (IsPipe p) up after mark changes none told is does =
      let signal : signal_of mark ≡ pipe_signal (pipe_is_up earlier) op = told ∙ ap (λ b. pipe_signal b op) does in (
        is ∙ ap (λ s. signalled s up) signal ∙ ap (signalled (pipe_signal (pipe_is_up earlier) op)) does,
        ap reverse none,
        signal,
        refl,
      )
