-- What a phase of a run is to its locks (`terms_of`): what is played, the lines, all turns of the
-- phases before it (`turns_before`), and how many actors there are. And what its channels let pass
-- (`sent_in`), by which rules (`rules_in`).
-- Turns are read backwards; phases and lines are in their order.
-- From: own.
-- Example: in the first phase there are no turns before.
use Rattle.std.specs.Prelude.{ℕ, List, [], ◌∷◌, ◌++◌, map, reverse, Option, Some, None, slice_get}
use Rattle.attrs.specs.declared.judge.Verdict.{Verdict}
use Rattle.attrs.specs.declared.route.Route.{Route}
use Rattle.bits_ip.specs.Prefix.{Net}
use Rattle.core_machine.specs.Lines as machine
use Rattle.core_machine.specs.Lines.{Turn}
use Rattle.core_machine.specs.Rules.{Rules}
use Rattle.core_setup.specs.Protocols.{rules_of}
use Rattle.core_setup.specs.Setup.{Exports, Setup}
use Rattle.import_lock.specs.Terms.{PhaseTerms}
use Rattle.import_lock.specs.declared.state.OpRecord.{OpRecord}
use Rattle.phase_answers.specs.declared.lent.Lent.{Lent}
use Rattle.room_ends.specs.declared.ended.MemberEnded.{MemberEnded}
use Rattle.room_ends.specs.declared.ended.MemberEnded.TheVariants.{Own, Pipe}
use Rattle.room_first.specs.Sent.{sent_by}
use Rattle.room_ends.specs.Prints.{turn_of_record}
use Rattle.show_route.specs.declared.query.Query.{Query}
use Rattle.sys_run.specs.Parts.{setup_seen}
use Rattle.sys_run.specs.Scripts.{line_of}
use Rattle.sys_threads.specs.declared.parts.LentParts.{LentParts}
use Rattle.sys_threads.specs.declared.playing.Earlier.{Earlier}
use Rattle.sys_threads.specs.declared.playing.Playing.{Playing}

module _ {J : Type 0} where
  -- ---- the phases before

  abbrev pub ops_in : MemberEnded (Lent J) → List OpRecord
  ops_in (Own session) = session.ops.items
  ops_in (Pipe pipe) = pipe.ops.items

  abbrev pub turns_of : List machine.Line → Option (MemberEnded (Lent J)) → List Turn
  turns_of lines None = []
  turns_of lines (Some member) = reverse (map (turn_of_record lines) (ops_in member))

  -- the turns of a protocol in a phase that is over
  abbrev pub turns_in : List Query → Earlier J → ℕ → List Turn
  turns_in queries phase i =
      turns_of (map (line_of queries) phase.lines.value.items)
      (slice_get phase.made.value.ended.members.items i)

  abbrev pub turns_before : List Query → List (Earlier J) → ℕ → List Turn
  turns_before queries [] i = []
  turns_before queries (phase ∷ more) i =
      turns_before queries more i ++ turns_in queries phase i

  -- ---- a phase

  module _ (verdict : J → Net → Route → Verdict) where
    abbrev pub setup_lent : LentParts J → Setup
    setup_lent parts =
        setup_seen verdict parts.tables.now parts.protocols.now parts.cells parts.choices.now
        parts.queries.now.items

    abbrev pub terms_of : Playing J → PhaseTerms
    terms_of played = record {
      setup = setup_lent played.parts;
      lines = map (line_of played.parts.queries.now.items) played.lines.value.items;
      past = turns_before played.parts.queries.now.items played.earlier.value.items;
      starter = played.actors;
    }

    -- what its channels let pass
    abbrev pub sent_in : Playing J → ℕ → Exports
    sent_in played = sent_by (setup_lent played.parts)

    abbrev pub rules_in : Playing J → Rules
    rules_in played = rules_of (setup_lent played.parts)
