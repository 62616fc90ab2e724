-- The part of a protocol that enters a room, with its port of its table.
use Rattle.std.proofs.Common.{◌≡◌, ℕ, List, Some, sym, ap, subst, ◌∙◌}
use Rattle.std.specs.Prelude.{slice_get}
use Rattle.atomic_table.specs.Seated.{TableId}
use Rattle.attrs.specs.declared.judge.Verdict.{Verdict}
use Rattle.attrs.specs.declared.route.Route.{Route}
use Rattle.bits_ip.specs.Prefix.{Net}
use Rattle.import_core.specs.Importers.{Importing}
use Rattle.import_lock.specs.Terms.{PhaseTerms}
use Rattle.jour_rule.specs.declared.views.Terms.{Terms}
use Rattle.jour_rule.specs.declared.views.View.{View as Seat}
use Rattle.jour.specs.Seats.{journal}
use Rattle.phase_legal.specs.Shown.{AreBeside}
use Rattle.table_shared.specs.Opening.{TableOpening}
use Rattle.phase_room.specs.Entering.{IsNewSession, StandsIn}
use Rattle.phase_room.specs.Opened.{IsPortOf}
use Rattle.phase_room.specs.Parts.{IsProtocolPart}
use Rattle.phase_room.specs.Rooms.{IsOwnPort}
use Rattle.phase_room.specs.Stands.{StandsSource}
use Rattle.phase_room.specs.declared.session.Session.{Session}

module _ {J : Type 0} (verdict : J → Net → Route → Verdict) (phase : PhaseTerms) (tables : List (TableId × Terms TableOpening)) (number home : ℕ) (importer : Importing J) (s : StandsIn verdict phase tables number home importer)
    (ports : List (TableId × Seat TableOpening)) (are : AreBeside (IsPortOf number) tables ports) (port : TableId × Seat TableOpening) (at : slice_get ports home ≡ Some port) where
  port_is : IsPortOf number s.here port
  port_is = are.each home s.here port s.here_is at

  pub is_part : (n : ℕ) → n ≡ number → IsProtocolPart verdict phase s.stood s.here (record { number = n; table = home; importer = importer; port = port })
  is_part n e = record {
    source = s.source;
    table_is = s.home_is;
    begins = s.begins;
    own_port = subst (λ k. IsOwnPort k s.here.1.opening) (sym e) s.own_port;
    stands = subst (λ k. StandsSource verdict phase k s.source s.stood importer) (sym e) s.stands;
    port = port_is.0;
    port_number = port_is.1 ∙ sym e;
    unmade = port_is.2;
  }

  pub table_of : slice_get tables home ≡ Some (journal port)
  table_of = s.here_is ∙ ap Some (sym port_is.0)

-- a session that was added to those of before
pub new_one : {J P : Type 0} (terms : P → PhaseTerms) (starter home : ℕ) (session : Session J P) (n m : ℕ) → n ≡ m → IsNewSession terms starter n home session → IsNewSession terms starter m home session
new_one terms starter home session n m e is = record { table = is.table; port = is.port ∙ e; turns = is.turns }
