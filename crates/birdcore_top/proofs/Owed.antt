-- What each way out of the program owes.
use Rattle.std.proofs.Common.{◌≡◌, ℕ, true, false, List, Option, Some, None, refl, sym, ◌∙◌, ap, subst, inl, inr}
use Rattle.std.specs.Prelude.{◌⊎◌, Bool, IfSome, IsTrue}
use Rattle.std.specs.Io.KnownBytes.{Appends, Keeps}
use Rattle.std.specs.List.{flat_map}
use Rattle.std.proofs.KnownBytes.{Keeps-refl}
use Rattle.std.proofs.lemmas.Bool.{true≢false}
use Rattle.std.proofs.lemmas.Option.{none-some}
use Rattle.core_setup.specs.Setup.{Setup}
use Rattle.outside_io.specs.Faults.{Rose}
use Rattle.outside_io.specs.Whole.{WritesFront}
use Rattle.phases_out.specs.Written.{HasBegun, HasPlayed, text_so_far}
use Rattle.phases_out.specs.declared.ending.Ending.{Ending}
use Rattle.phases_out.specs.declared.ending.Ending.TheVariants as endings
use Rattle.report.specs.Report.{report_text, text_in}
use Rattle.report.specs.declared.phase.Form.{Form}
use Rattle.report.specs.declared.phase.PhaseReport.{PhaseReport}
use Rattle.script_lines.specs.declared.script.Line.{Line}
use Rattle.birdcore_top.specs.Answer.{Answers, FindsLacked, HasCause, MissesInTurn, Stops, end_status, is_early, writes}
use Rattle.birdcore_top.specs.Answered.{Answered, ShelfSeen, SinkSeen}
use Rattle.birdcore_top.specs.Command.{Command, Play, Run, Check, conf_of, form_of, script_of, usual_cells}
use Rattle.birdcore_top.specs.Outcome.{Held, Outcome, Misused, OverLimit, Refused, BadLine, Played, Accepted, ConfGives, PlayGives, IsPossible}
use Rattle.birdcore_top.specs.Written.{AreReportsOf, IfBegun, IfPlayed, accepted_text}
use Rattle.birdcore_top.specs.declared.status.Status.{Status}
use Rattle.birdcore_top.specs.declared.status.Status.TheVariants.{Usage, ConfigRefused, ScriptRefused, ReadFault, WriteFault, OutOfMemory, TooLong}
use Rattle.birdcore_top.specs.declared.status.Status.TheVariants as variants
use Rattle.birdcore_top.proofs.Decided.{HasOneOutcome, exact}
use Rattle.birdcore_top.proofs.Joined.{accepted_has_cause, begun_of, end_failed, end_has_cause, end_reads, end_wanting, end_writes, end_written}

-- ---- words that are no command

misused : (o : Outcome) → o ≡ Misused → Answers o Usage
misused o is = subst (λ (p : Outcome). Answers p Usage) (sym is) tt

pub nothing_asked : (shelf : ShelfSeen) (sink : SinkSeen) → Answered None shelf shelf sink sink Usage
nothing_asked shelf sink = record {
  usage = (λ is. refl, λ is. refl);
  cause = λ answer. (Misused, refl, tt);
  read = λ is. absurd (cc);
  in_turn = λ is. absurd (cc);
  write = λ is. absurd (cc);
  report = λ is. absurd (cc);
  front = λ is. absurd (cc);
  begun = λ is. absurd (cc);
  nothing_else = λ silent. Keeps-refl sink.contents;
  exact = λ o required failed takes. inl (misused o required);
  absent = tt;
}

-- ---- what a command answers

-- words that are a command aren't told that they are misused
never_misused : (command : Command) (held : Held) → IsPossible (Some command) held Misused → ⊥
never_misused (Play conf script cells form) held (inl is) = is
never_misused (Play conf script cells form) held (inr is) = is.3
never_misused (Run conf script cells form) held (inl is) = is
never_misused (Run conf script cells form) held (inr is) = is.3
never_misused (Check conf None) held is = is
never_misused (Check conf (Some script)) held (inl is) = is
never_misused (Check conf (Some script)) held (inr is) = is.3

no_misuse : (command : Command) (held : Held) (o : Outcome) → IsPossible (Some command) held o → Answers o Usage → ⊥
no_misuse command held Misused possible answers = never_misused command held possible
no_misuse command held (OverLimit name) possible answers = answers
no_misuse command held (Refused line column kind) possible answers = answers
no_misuse command held (BadLine line kind) possible answers = answers
no_misuse command held (Played setup actors phases) possible answers = answers
no_misuse command held Accepted possible answers = answers

not_usage : (command : Command) (held : Held) (status : Status) → HasCause (IsPossible (Some command) held) status → status ≡ Usage → ⊥
not_usage command held status cause is =
    let found = subst (λ (s : Status). HasCause (IsPossible (Some command) held) s) is cause refl in
    no_misuse command held found.0 found.1 found.2

no_command : (command : Command) → ◌≡◌ {A = Option Command} (Some command) None → ⊥
no_command command is = none-some command (sym is)

-- its files are held, as far as that is told
abbrev AreHeld : Command → (List ℕ → Bool) → Type 0
AreHeld command lacks = (IsTrue (lacks (conf_of command)) → ⊥) × IfSome (script_of command) (λ script. IsTrue (lacks script) → ⊥)

held_all : (command : Command) (lacks : List ℕ → Bool) (held : Held) (status : Status) → AreHeld command lacks → FindsLacked (Some command) lacks held status
held_all (Play conf script cells form) lacks held status are = record { conf_lacked = λ lacking. absurd (are.0 lacking); script_lacked = λ lacking. absurd (are.1 lacking) }
held_all (Run conf script cells form) lacks held status are = record { conf_lacked = λ lacking. absurd (are.0 lacking); script_lacked = λ lacking. absurd (are.1 lacking) }
held_all (Check conf None) lacks held status are = record { conf_lacked = λ lacking. absurd (are.0 lacking); script_lacked = tt }
held_all (Check conf (Some script)) lacks held status are = record { conf_lacked = λ lacking. absurd (are.0 lacking); script_lacked = λ lacking. absurd (are.1 lacking) }

-- ---- what stops a play stops a check

-- an outcome that a play answers before it writes
checked_so : (conf script : List ℕ) (held : Held) (o : Outcome) (status : Status) → is_early status ≡ true → PlayGives IfSome true conf script usual_cells held o → Answers o status
    → (q : Outcome) × IsPossible (Some (Check conf (Some script))) held q × Answers q status
checked_so conf script held Misused status early gives answers = (Misused, gives, answers)
checked_so conf script held (OverLimit name) status early gives answers = (OverLimit name, gives, answers)
checked_so conf script held (Refused line column kind) status early gives answers = (Refused line column kind, gives, answers)
checked_so conf script held (BadLine line kind) status early gives answers = (BadLine line kind, gives, answers)
checked_so conf script held Accepted status early (inl is) answers = absurd is
checked_so conf script held Accepted status early (inr is) answers = absurd is.3
checked_so conf script held (Played setup actors phases) variants.Ok early gives answers = absurd (true≢false (sym early))
checked_so conf script held (Played setup actors phases) Usage early gives answers = absurd answers
checked_so conf script held (Played setup actors phases) (ConfigRefused line column kind) early gives answers = absurd answers
checked_so conf script held (Played setup actors phases) (ScriptRefused line kind) early gives answers = absurd answers
checked_so conf script held (Played setup actors phases) ReadFault early gives answers = absurd answers
checked_so conf script held (Played setup actors phases) WriteFault early gives answers = absurd answers
checked_so conf script held (Played setup actors phases) OutOfMemory early gives answers = absurd answers
checked_so conf script held (Played setup actors phases) (TooLong name) early gives answers = absurd answers

pub stops_play : (conf script : List ℕ) (cells : ℕ) (form : Form) (held : Held) (status : Status) → Stops (λ o. (n : ℕ) → PlayGives IfSome true conf script n held o) status
    → Stops (IsPossible (Some (Play conf script cells form)) held) status
stops_play conf script cells form held status is = record { early = is.early; cause = λ answer. let found = is.cause answer in (found.0, found.1 cells, found.2) }

pub stops_run : (conf script : List ℕ) (cells : ℕ) (form : Form) (held : Held) (status : Status) → Stops (λ o. (n : ℕ) → PlayGives IfSome false conf script n held o) status
    → Stops (IsPossible (Some (Run conf script cells form)) held) status
stops_run conf script cells form held status is = record { early = is.early; cause = λ answer. let found = is.cause answer in (found.0, found.1 cells, found.2) }

pub stops_check : (conf script : List ℕ) (held : Held) (status : Status) → Stops (λ o. (n : ℕ) → PlayGives IfSome true conf script n held o) status
    → Stops (IsPossible (Some (Check conf (Some script))) held) status
stops_check conf script held status is = record { early = is.early; cause = λ answer. let found = is.cause answer in checked_so conf script held found.0 status is.early (found.1 usual_cells) found.2 }

-- an outcome of a configuration that is refused
refused_so : (conf : List ℕ) (held : Held) (o : Outcome) → ConfGives IfSome conf (held conf) o → IsPossible (Some (Check conf None)) held o
refused_so conf held (OverLimit name) is = is
refused_so conf held (Refused line column kind) is = is
refused_so conf held Misused is = is
refused_so conf held (BadLine line kind) is = is
refused_so conf held (Played setup actors phases) is = is
refused_so conf held Accepted is = absurd is

pub stops_alone : (conf : List ℕ) (held : Held) (status : Status) → Stops (ConfGives IfSome conf (held conf)) status → Stops (IsPossible (Some (Check conf None)) held) status
stops_alone conf held status is = record { early = is.early; cause = λ answer. let found = is.cause answer in (found.0, refused_so conf held found.0 found.1, found.2) }

-- ---- nothing was written, or all

not_early : (status other : Status) → is_early status ≡ true → is_early other ≡ false → status ≡ other → ⊥
not_early status other early late is = true≢false (sym early ∙ ap is_early is ∙ late)

-- what a check writes isn't silent
accepted_writes : (status : Status) → (status ≡ variants.Ok) ⊎ (status ≡ WriteFault) → writes status ≡ false → ⊥
accepted_writes status (inl is) silent = true≢false (sym (ap writes is) ∙ silent)
accepted_writes status (inr is) silent = true≢false (sym (ap writes is) ∙ silent)

accepted_reads : (status : Status) → (status ≡ variants.Ok) ⊎ (status ≡ WriteFault) → status ≡ ReadFault → ⊥
accepted_reads status (inl is) read = absurd (cc)
accepted_reads status (inr is) read = absurd (cc)

accepted_wants : (status : Status) → (status ≡ variants.Ok) ⊎ (status ≡ WriteFault) → status ≡ OutOfMemory → ⊥
accepted_wants status (inl is) wants = absurd (cc)
accepted_wants status (inr is) wants = absurd (cc)

module _ (law : HasOneOutcome) (command : Command) (shelf shelf_after : ShelfSeen) (sink sink_after : SinkSeen) where
  -- the front of a report
  abbrev Front : List (List Line) → List PhaseReport → Type 0
  Front more reports = WritesFront sink.contents sink_after.contents (text_so_far (form_of (Some command)) more reports)

  -- A file stops the program before anything is written.
  pub stopped : (status : Status) → Stops (IsPossible (Some command) shelf.held) status → (status ≡ ReadFault → Rose shelf.faults shelf_after.faults)
      → (status ≡ ReadFault → MissesInTurn command shelf.held shelf.missed shelf_after.missed) → FindsLacked (Some command) shelf.lacks shelf.held status
      → Keeps sink.contents sink_after.contents → Answered (Some command) shelf shelf_after sink sink_after status
  stopped status is read in_turn absent kept =
      let failed : status ≡ WriteFault → ⊥ = not_early status WriteFault is.early refl in
      record {
        usage = (λ used. absurd (not_usage command shelf.held status is.cause used), λ none. absurd (no_command command none));
        cause = is.cause;
        read = read;
        in_turn = in_turn;
        write = λ fault. absurd (failed fault);
        report = λ done. absurd (not_early status variants.Ok is.early refl done);
        front = λ fault. absurd (failed fault);
        begun = λ wanting. inl kept;
        nothing_else = λ silent. kept;
        exact = exact law (Some command) shelf.held shelf.missed shelf_after.missed sink.faults sink_after.faults Front (WritesFront sink.contents sink_after.contents accepted_text) status is.cause in_turn (λ fault. absurd (failed fault)) (λ fault. absurd (failed fault));
        absent = absent;
      }

  module _ (setup : Setup) (actors : List (List ℕ)) (phases : List (List Line)) (possible : IsPossible (Some command) shelf.held (Played setup actors phases)) where
    played_of : (P : List PhaseReport → Type 0) → HasPlayed (AreReportsOf (Some command) setup actors) phases P → IfPlayed (Some command) shelf.held P
    played_of P is = record {
      setup = setup;
      actors = actors;
      phases = phases;
      reports = is.reports;
      possible = possible;
      played = is.played;
      said = is.said;
    }

    -- The files are played, to the report's end or until the sink fails or memory is refused.
    pub ended : AreHeld command shelf.lacks → (ending : Ending)
        → (ending ≡ endings.Written → HasPlayed (AreReportsOf (Some command) setup actors) phases (λ reports. Appends sink.contents sink_after.contents (report_text (form_of (Some command)) reports)))
        → (ending ≡ endings.SinkFailed → HasBegun (AreReportsOf (Some command) setup actors) phases (λ more reports. WritesFront sink.contents sink_after.contents (text_so_far (form_of (Some command)) more reports)))
        → (ending ≡ endings.OutOfMemory → HasBegun (AreReportsOf (Some command) setup actors) phases (λ more reports. Appends sink.contents sink_after.contents (flat_map (text_in (form_of (Some command))) reports)))
        → (ending ≡ endings.SinkFailed → Rose sink.faults sink_after.faults) → Answered (Some command) shelf shelf_after sink sink_after (end_status ending)
    ended absent ending report front begun write =
        let cause = end_has_cause (Some command) shelf.held setup actors phases possible ending in
        let begun_so : end_status ending ≡ WriteFault → IfBegun (Some command) shelf.held Front = λ is. begun_of (Some command) shelf.held setup actors phases Front possible (front (end_failed ending is)) in
        let wrote : end_status ending ≡ WriteFault → Rose sink.faults sink_after.faults = λ is. write (end_failed ending is) in
        record {
          usage = (λ used. absurd (not_usage command shelf.held (end_status ending) cause used), λ none. absurd (no_command command none));
          cause = cause;
          read = λ is. absurd (end_reads ending is);
          in_turn = λ is. absurd (end_reads ending is);
          write = wrote;
          report = λ is. inl (played_of (λ reports. Appends sink.contents sink_after.contents (report_text (form_of (Some command)) reports)) (report (end_written ending is)));
          front = λ is. inl (begun_so is);
          begun = λ is. inr (begun_of (Some command) shelf.held setup actors phases (λ more reports. Appends sink.contents sink_after.contents (flat_map (text_in (form_of (Some command))) reports)) possible (begun (end_wanting ending is)));
          nothing_else = λ silent. absurd (end_writes ending silent);
          exact =
              exact law (Some command) shelf.held shelf.missed shelf_after.missed sink.faults sink_after.faults Front (WritesFront sink.contents sink_after.contents accepted_text) (end_status ending) cause
              (λ is. absurd (end_reads ending is)) wrote (λ is. inl (begun_so is));
          absent = held_all command shelf.lacks shelf.held (end_status ending) absent;
        }

  -- What was checked is accepted, which is written, or the sink fails.
  pub accepted : IsPossible (Some command) shelf.held Accepted → AreHeld command shelf.lacks → (status : Status) → (status ≡ variants.Ok) ⊎ (status ≡ WriteFault)
      → (status ≡ variants.Ok → Appends sink.contents sink_after.contents accepted_text) → (status ≡ WriteFault → WritesFront sink.contents sink_after.contents accepted_text)
      → (status ≡ WriteFault → Rose sink.faults sink_after.faults) → Answered (Some command) shelf shelf_after sink sink_after status
  accepted possible absent status end whole front write =
      let cause = accepted_has_cause (Some command) shelf.held possible status end in
      record {
        usage = (λ used. absurd (not_usage command shelf.held status cause used), λ none. absurd (no_command command none));
        cause = cause;
        read = λ is. absurd (accepted_reads status end is);
        in_turn = λ is. absurd (accepted_reads status end is);
        write = write;
        report = λ is. inr (possible, whole is);
        front = λ is. inr (possible, front is);
        begun = λ is. absurd (accepted_wants status end is);
        nothing_else = λ silent. absurd (accepted_writes status end silent);
        exact =
            exact law (Some command) shelf.held shelf.missed shelf_after.missed sink.faults sink_after.faults Front (WritesFront sink.contents sink_after.contents accepted_text) status cause
            (λ is. absurd (accepted_reads status end is)) write (λ is. inr (possible, front is));
        absent = held_all command shelf.lacks shelf.held status absent;
      }
