-- What the locks of a protocol and of its channel have in common (`AreTogether`).
-- The log is read backwards.
-- From: own.
-- Example: the channel of a protocol that was up as the phase began is up in its log before the
-- phase.
use Rattle.std.specs.Prelude.{◌≡◌, false, Some}
use Rattle.core_machine.specs.Rules.{is_up}
use Rattle.core_machine.specs.Signals.{without_sends}
use Rattle.phase_legal.specs.Stamps.{opens}
use Rattle.import_lock.specs.Terms.{ImportTerms, past_ops, rules_in}
use Rattle.export_lock.specs.Terms.{ExportTerms}

-- The channel reads the table that the protocol imports to, and its marks are under the protocol's
-- stamp, from the first on. Before the phase it was up where the protocol's operations say so.
pub record AreTogether (protocol : ImportTerms) (channel : ExportTerms) : Type 0 where
  pub table : channel.table ≡ protocol.port
  pub marks : protocol.marks ≡ Some channel.marks
  pub start : channel.marks.1.start ≡ 0
  pub up :
      opens false (without_sends channel.log)
      ≡ is_up (rules_in protocol) protocol.number (past_ops protocol)
