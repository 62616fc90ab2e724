-- What a protocol with routes of its own reads, and what stays of a member that has no turns.
use Rattle.std.proofs.Common.{◌≡◌, ℕ, List, Some, None, refl, subst, ◌∙◌}
use Rattle.std.specs.Prelude.{Option}
use Rattle.atomic_table.specs.Seated.{TableId}
use Rattle.attrs.specs.declared.judge.Verdict.{Verdict}
use Rattle.attrs.specs.declared.route.Change.{Change}
use Rattle.attrs.specs.declared.route.Route.{Route}
use Rattle.attrs.specs.declared.route.Src.{Src}
use Rattle.bits_ip.specs.Prefix.{Net}
use Rattle.jour_rule.specs.declared.views.Entry.{Entry}
use Rattle.jour_rule.specs.declared.views.Terms.{Terms}
use Rattle.table_shared.specs.Opening.{TableOpening}
use Rattle.phase_legal.specs.Shown.{HandView}
use Rattle.import_lock.specs.Terms.{ImportTerms}
use Rattle.export_lock.specs.Terms.{ExportTerms}
use Rattle.export_lock.specs.declared.lane.PipeLane.{PipeLane}
use Rattle.export_lock.specs.declared.state.ExportState.{ExportState}
use Rattle.phase_room.specs.Sessions.{IsChannelOf}
use Rattle.phase_close.specs.Closed.{AreLater, IsLater}
use Rattle.phase_close.specs.Left.{AreChannelsLeft, IsSessionLeft}
use Rattle.phase_close.specs.declared.session.SessionLeft.{SessionLeft}
use Rattle.pipe_turns.specs.Turns.{KeepsLane}
use Rattle.pipe_rest.specs.Later.{IsLaterMember}
use Rattle.pipe_rest.specs.declared.member.MemberLeft.{MemberLeft}
use Rattle.pipe_rest.specs.declared.member.MemberLeft.TheVariants.{Own, Pipe}
use Rattle.room_rounds.specs.Inside.{IsReader}
use Rattle.room_rounds.proofs.Moving.{leaves_self}

module _ {J : Type 0} (verdict : J → Net → Route → Verdict) where
  reads_port : (key : ImportTerms) (list : List Entry) (made : List (ℕ × Change)) (lock : Option ExportTerms) (channel : Option (ExportState J)) → AreChannelsLeft verdict key list made lock channel → IsChannelOf key lock → IsReader verdict key.port channel
  reads_port key list made lock None left of = tt
  reads_port key list made None (Some s) left of = absurd left
  reads_port key list made (Some l) (Some s) left of = (record { key = l; exporting = left.exports }, left.exports.here ∙ of.table)

  -- what lay under the lock of a session's channel reads the session's table
  pub is_reader : (key : ImportTerms) (lock : Option ExportTerms) (hands : List HandView) (session : SessionLeft J) (table : TableId × Terms TableOpening) → IsSessionLeft verdict key lock hands session → IsChannelOf key lock → key.port ≡ table → IsReader verdict table session.channel
  is_reader key lock hands session table left of here = subst (λ z. IsReader verdict z session.channel) here (reads_port key left.list left.made lock session.channel left.channels of)

  -- ---- no turn

  channels_self : (a : Option (ExportState J)) → AreLater verdict a a
  channels_self None = tt
  channels_self (Some a) = (λ every key o. o, refl)

  lane_self : (sources : List Src) (a : PipeLane J) → KeepsLane verdict sources a a
  lane_self sources a = record {
    kept = λ key done are o. o;
    goes = λ every key o. o;
    flush = leaves_self a.state a.state refl;
    marks = refl;
  }

  pub member_self : (sources : List Src) (a : MemberLeft J) → IsLaterMember verdict sources a a
  member_self sources (Own a) = record { table = refl; importer = refl; ops = refl; port = refl; channel = channels_self a.channel }
  member_self sources (Pipe a) = record { primary = refl; peer = refl; up = refl; ops = refl; out = lane_self sources a.out; back = lane_self sources a.back }
