-- The seats of a session in its table have ended.
use Rattle.std.proofs.Common.{◌≡◌, ℕ, List, Some, None, sym, ap, subst, ◌∙◌}
use Rattle.std.specs.Prelude.{Option}
use Rattle.atomic_table.specs.Seated.{TableId}
use Rattle.attrs.specs.declared.judge.Verdict.{Verdict}
use Rattle.attrs.specs.declared.route.Change.{Change}
use Rattle.attrs.specs.declared.route.Route.{Route}
use Rattle.bits_ip.specs.Prefix.{Net}
use Rattle.export_core.specs.States.{State}
use Rattle.jour_rule.specs.declared.views.Entry.{Entry}
use Rattle.jour_rule.specs.declared.views.Terms.{Terms}
use Rattle.jour_rule.specs.declared.views.View.{View as Seat}
use Rattle.jour.specs.Seats.{front, journal}
use Rattle.table_shared.specs.Opening.{TableOpening}
use Rattle.table_shared.specs.Phases.{IsHeard, IsRetired as IsPortRetired}
use Rattle.import_lock.specs.Terms.{ImportTerms}
use Rattle.export_lock.specs.Terms.{ExportTerms}
use Rattle.export_lock.specs.declared.state.ExportState.{ExportState}
use Rattle.phase_close.specs.Closed.{AreChannelsEnded, AreHeard, IsSessionEnded, SessionTerms}
use Rattle.phase_close.specs.Left.{AreChannelsLeft, IsSessionLeft}
use Rattle.phase_close.specs.declared.session.SessionLeft.{SessionLeft}

module _ {J : Type 0} (verdict : J → Net → Route → Verdict) where
  ended_channels : (key : ImportTerms) (list : List Entry) (made : List (ℕ × Change)) (terms : Terms TableOpening) (entries : List Entry) (lock : Option ExportTerms) (state : Option (ExportState J)) (exporter : Option (State J)) → terms ≡ key.port.1 → AreChannelsLeft verdict key list made lock state
      → AreHeard terms entries state exporter → AreChannelsEnded verdict key list made entries lock exporter
  ended_channels key list made terms entries None None None same left heard = tt
  ended_channels key list made terms entries None None (Some e) same left heard = absurd heard
  ended_channels key list made terms entries None (Some s) e same left heard = absurd left
  ended_channels key list made terms entries (Some l) None e same left heard = absurd left
  ended_channels key list made terms entries (Some l) (Some s) None same left heard = absurd heard
  ended_channels key list made terms entries (Some l) (Some s) (Some e) same left heard =
      record { state = s; exporter_is = heard.0; left = left; heard = subst (λ z. IsHeard z entries s.cursor.0.1) same heard.1 }

  -- its port has ended in the table as it was
  pub port_ended : (session : SessionLeft J) (closing mid : TableId × Seat TableOpening) → (journal mid ≡ journal closing) × (front mid.1 ≡ front closing.1) → IsPortRetired mid.1.seen.terms (front mid.1) session.port → IsPortRetired closing.1.seen.terms (front closing.1) session.port
  port_ended session closing mid same retired =
      subst (λ (z : Terms TableOpening × List Entry). IsPortRetired z.0 z.1 session.port) (λ j. (ap (λ (z : TableId × Terms TableOpening). z.1) same.0 j, same.1 j)) retired

  pub session_ended : (key : SessionTerms) (session : SessionLeft J) (closing mid : TableId × Seat TableOpening) (exporter : Option (State J)) → IsSessionLeft verdict key.protocol key.channel key.hands session → key.protocol.port ≡ journal closing → (journal mid ≡ journal closing) × (front mid.1 ≡ front closing.1)
      → AreHeard closing.1.seen.terms (front closing.1) session.channel exporter → IsPortRetired mid.1.seen.terms (front mid.1) session.port
      → IsSessionEnded verdict key (front closing.1) (record { table = session.table; importer = session.importer; ops = session.ops; exporter = exporter })
  session_ended key session closing mid exporter left here same heard retired = record {
    list = left.list;
    made = left.made;
    port = session.port;
    imports = left.imports;
    retired = subst (λ (z : Terms TableOpening × List Entry). IsPortRetired z.0 z.1 session.port) (λ j. (ap (λ (z : TableId × Terms TableOpening). z.1) (same.0 ∙ sym here) j, same.1 j)) retired;
    channels = ended_channels key.protocol left.list left.made closing.1.seen.terms (front closing.1) key.channel session.channel exporter (ap (λ z. z.1) (sym here)) left.channels heard;
  }
