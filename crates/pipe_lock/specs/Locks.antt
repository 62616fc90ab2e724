-- What the key of a pipe's import lock says (`terms_of`), where a phase says its terms.
-- From: own.
-- Example: the key of a pipe names the cursors by which its directions read their tables.
use Rattle.jour.specs.Seats.{journal}
use Rattle.import_lock.specs.Terms.{PhaseTerms}
use Rattle.pipe_lock.specs.Terms.{DirectionTerms, PipeTerms}
use Rattle.pipe_lock.specs.declared.key.DirectionKey.{DirectionKey}
use Rattle.pipe_lock.specs.declared.key.PipeKey.{PipeKey}

abbrev pub direction_of : DirectionKey → DirectionTerms
direction_of key = record {
  number = key.number;
  table = journal key.cursor.value.0;
  marks = journal key.stamp.value;
}

abbrev pub terms_of : {P : Type 0} → (P → PhaseTerms) → PipeKey P → PipeTerms
terms_of terms key = record {
  phase = terms key.phase.value;
  number = key.number;
  turns = journal key.turns.value;
  out = direction_of key.out;
  back = direction_of key.back;
}
