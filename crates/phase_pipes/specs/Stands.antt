-- What stands of a pipe as a phase begins: whether it is up (`StandsPipe`), and of each of its
-- directions (`StandsDirection`), which is a channel from the one table to the other
-- (`IsDirectionOf`), the exporter.
-- Turns, operations and the log are read backwards; entries are in their order.
-- Not modelled: protocols with routes of their own, of which phase_room says what stands.
-- From: BIRD User's Guide, "Pipe"; own.
-- Example: before the first phase both directions of a pipe are up, and have sent nothing.
use Rattle.std.specs.Prelude.{◌≡◌, ℕ, Bool, true, false, length, reverse, Some}
use Rattle.attrs.specs.Table.{route_in}
use Rattle.attrs.specs.declared.judge.Verdict.{Verdict}
use Rattle.attrs.specs.declared.route.Route.{Route}
use Rattle.bits_ip.specs.Prefix.{Net}
use Rattle.core_machine.specs.Enters.{enters}
use Rattle.core_machine.specs.Histories.{content_of}
use Rattle.core_machine.specs.Lines.{ops_of}
use Rattle.core_machine.specs.Match.{IsSpecOf}
use Rattle.core_machine.specs.Pipes.{passes}
use Rattle.core_machine.specs.Rules.{is_up}
use Rattle.core_machine.specs.Signals.{without_sends}
use Rattle.core_setup.specs.Channels.{Channel, channel_at}
use Rattle.core_setup.specs.Protocols.{pipe_is_up, protocol_at, rules_of}
use Rattle.core_setup.specs.Setup.{Exports, IsPipe, IsSetup, Pipe, Protocol, Setup}
use Rattle.export_core.specs.Histories.{course_of}
use Rattle.export_core.specs.Standing.{is_open}
use Rattle.export_core.specs.States.{StandsFor, State}
use Rattle.import_lock.specs.Terms.{PhaseTerms}
use Rattle.phase_legal.specs.Stamps.{opens}
use Rattle.phase_room.specs.Rooms.{TableTerms}

-- the protocol of a number is this pipe, which is up where its operations say so
pub record StandsPipe (phase : PhaseTerms) (number : ℕ) (pipe : Pipe) (up : Bool) : Type 0 where
  pub setup : IsSetup phase.setup
  pub protocol : Protocol
  pub protocol_is : protocol_at phase.setup number ≡ Some protocol
  pub body : protocol.body ≡ IsPipe pipe
  pub up_is : up ≡ pipe_is_up (ops_of (phase.past number))

-- the channel of the number d is of this protocol, reads the one table and writes the other
pub record IsDirectionOf (setup : Setup) (number d reads writes : ℕ) : Type 0 where
  pub channel : Channel
  pub channel_is : channel_at setup d ≡ Some channel
  pub owner : channel.owner ≡ number
  pub reads_is : channel.reads ≡ reads
  pub writes_is : channel.target ≡ Some writes

-- The exporter of the direction d of the pipe of a number goes by what the direction lets pass and
-- by the rules, stands for all entries of the table that it reads, has taken them while it was up,
-- and withdraws nothing. It is up where the pipe's operations say so. The table that it writes has
-- of the sources that it passes just what its log has entered there.
pub record StandsDirection
    {J : Type 0} (verdict : J → Net → Route → Verdict) (phase : PhaseTerms) (number d : ℕ)
    (exports : Exports) (read written : TableTerms) (exporter : State J) : Type 0 where
  pub spec : exporter.spec ≡ exports.spec
  pub filter : verdict exporter.judge ≡ exports.filter
  pub rules : IsSpecOf (rules_of phase.setup) d exports.spec
  pub family : exports.spec.family ≡ read.family
  pub same : exports.spec.family ≡ written.family
  pub rest : exporter.flushing ≡ false
  pub stands : StandsFor verdict (course_of exports.spec read.before) exporter
  pub position : is_open exporter.log ≡ true → exporter.position ≡ length read.before
  pub up :
      opens false (without_sends (reverse exporter.log))
      ≡ is_up (rules_of phase.setup) number (ops_of (phase.past number))
  pub rows :
      (net : Net) (num : ℕ) → passes (rules_of phase.setup) d num ≡ true
      → route_in written.rows net num
      ≡ content_of (enters (rules_of phase.setup) (reverse exporter.log)) net num
