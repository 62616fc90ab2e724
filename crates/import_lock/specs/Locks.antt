-- What an import lock's key says (`terms_of`), where a phase says its terms.
-- From: own.
-- Example: the key of a protocol without a channel has no journal of marks.
use Rattle.std.specs.Prelude.{option_map}
use Rattle.jour.specs.Seats.{journal, number_of}
use Rattle.import_lock.specs.Terms.{ImportTerms, PhaseTerms}
use Rattle.import_lock.specs.declared.key.ImportKey.{ImportKey}

abbrev pub terms_of : {P : Type 0} → (P → PhaseTerms) → ImportKey P → ImportTerms
terms_of terms key = record {
  phase = terms key.phase.value;
  number = key.number;
  port = journal key.port.value;
  port_number = number_of key.port.value.1.role;
  turns = journal key.turns.value;
  marks = option_map journal key.stamp.value;
}
