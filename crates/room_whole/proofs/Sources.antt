-- What a protocol with routes of its own has come to behind a phase: it is its source's importer
-- behind all its operations.
use Rattle.std.proofs.Common.{◌≡◌, ℕ, List, Some, sym, ap, subst, ◌∙◌}
use Rattle.import_core.specs.declared.operation.Op.{Op}
use Rattle.core_machine.specs.Lines.{ops_of}
use Rattle.core_setup.specs.Protocols.{accepted_at, accepted_in, mode_at, mode_in, protocol_at, rules_of}
use Rattle.core_setup.specs.Setup.{Body, IsSource, Protocol, Setup, Source}
use Rattle.core_setup.proofs.Numbered.{some_same}
use Rattle.import_lock.specs.Kept.{IsImporter}
use Rattle.phase_open.specs.declared.standing.StandingProtocol.{StandingProtocol}
use Rattle.phase_legal.specs.Turns.{turns_told}
use Rattle.room_whole.proofs.Chosen.{all_of, printed}
use Rattle.room_whole.proofs.Given.{Given, key_of, lines_of, setup_of}
use Rattle.room_whole.proofs.Operated.{ops_here}
use Rattle.room_whole.proofs.Protocolled.{IsOfProtocol}

one_source : (s t : Source) → IsSource s ≡ IsSource t → s ≡ t
one_source s t e = cc

sources_same : (setup : Setup) (number : ℕ) (p q : Protocol) (s t : Source) → protocol_at setup number ≡ Some p → protocol_at setup number ≡ Some q → p.body ≡ IsSource s → q.body ≡ IsSource t → s ≡ t
sources_same setup number p q s t at there body other =
    one_source s t (sym body ∙ ap (λ (r : Protocol). r.body) (some_same (sym at ∙ there)) ∙ other)

pub mode_is : (setup : Setup) (number : ℕ) (p : Protocol) (b : Body) (ops : List Op) → protocol_at setup number ≡ Some p → p.body ≡ b → (rules_of setup).mode number ops ≡ mode_in b ops
mode_is setup number p b ops at body = ap (λ o. mode_at o ops) at ∙ ap (λ (z : Body). mode_in z ops) body

pub accepted_is : (setup : Setup) (number : ℕ) (p : Protocol) (b : Body) (ops : List Op) → protocol_at setup number ≡ Some p → p.body ≡ b → (rules_of setup).accepted number ops ≡ accepted_in b ops
accepted_is setup number p b ops at body = ap (λ o. accepted_at o ops) at ∙ ap (λ (z : Body). accepted_in z ops) body

module _ {J P : Type 0} (g : Given J P) (i : ℕ) (held : StandingProtocol J) (f : IsOfProtocol g i held) (told : (printed g).ops i ≡ turns_told (lines_of g) f.done.list) where
  same_source : f.done.imports.source ≡ f.standing.source
  same_source =
      let terms = f.done.imports.terms in
      let here : protocol_at (setup_of g) i ≡ Some terms.protocol = (λ j. protocol_at (sym f.is.phase_is j).setup (sym f.is.number_is j)) ∙ terms.protocol_is in
      sources_same (setup_of g) i terms.protocol f.standing.stands.protocol f.done.imports.source f.standing.source here f.standing.stands.protocol_is terms.body f.standing.stands.body

  pub importer_is : IsImporter g.verdict f.standing.source (ops_of ((all_of g).ops i)) f.ended.importer
  importer_is =
      let key = key_of g f.session in
      let all = ops_here g i f.done.list told key.phase f.is.phase_is key.number f.is.number_is in
      subst (λ (z : Source × List Op). IsImporter g.verdict z.0 z.1 f.ended.importer) (λ j. (same_source j, all j)) f.done.imports.importer_is
