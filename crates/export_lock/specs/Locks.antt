-- What an export lock's key says (`terms_of`, and of a pipe's direction `lane_terms_of`), where what
-- is played says what channels let pass, and by which rules.
-- From: own.
-- Example: the log before the phase, which the key has in its order, is read backwards here.
use Rattle.std.specs.Prelude.{ℕ, reverse}
use Rattle.jour.specs.Seats.{journal, number_of}
use Rattle.core_machine.specs.Rules.{Rules}
use Rattle.core_setup.specs.Setup.{Exports}
use Rattle.export_lock.specs.Lanes.{LaneTerms}
use Rattle.export_lock.specs.Terms.{ExportTerms}
use Rattle.export_lock.specs.declared.key.ExportKey.{ExportKey}
use Rattle.export_lock.specs.declared.lane.LaneKey.{LaneKey}

abbrev pub terms_of : {P : Type 0} → (P → ℕ → Exports) → ExportKey P → ExportTerms
terms_of exports key = record {
  exports = exports key.played.value key.number;
  table = journal key.cursor.value.0;
  before = key.before.value.items;
  marks = journal key.marks.value;
  log = reverse key.log.value.items;
}

abbrev pub lane_terms_of : {P : Type 0} → (P → ℕ → Exports) → (P → Rules) → LaneKey P → LaneTerms
lane_terms_of exports rules key = record {
  exports = terms_of exports key.exports;
  rules = rules key.exports.played.value;
  number = key.exports.number;
  target = journal key.port.value;
  port_number = number_of key.port.value.1.role;
}
