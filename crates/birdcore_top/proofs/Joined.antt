-- What the script comes to, over a configuration that is accepted.
use Rattle.std.proofs.Common.{◌≡◌, ℕ, ◌≤◌, List, Option, Some, None, refl, sym, ◌∙◌, subst, arith, inl, inr}
use Rattle.std.proofs.lemmas.Bool.{true≢false}
use Rattle.std.specs.Prelude.{◌⊎◌, Bool, false, Result, Ok, Err, IfErr, IfSome, IsErrAnd, IsTrue}
use Rattle.core_setup.specs.Setup.{Setup}
use Rattle.outside_io.specs.Faults.{NoneFell, Rose}
use Rattle.phases_out.specs.Written.{HasBegun}
use Rattle.phases_out.specs.declared.ending.Ending.{Ending}
use Rattle.phases_out.specs.declared.ending.Ending.TheVariants as endings
use Rattle.report.specs.declared.phase.PhaseReport.{PhaseReport}
use Rattle.script_lines.specs.declared.script.Line.{Line}
use Rattle.sys_build.specs.Setups.{IsPlayable}
use Rattle.conf_system.specs.System.{System}
use Rattle.birdcore_top.specs.Answer.{AreMissedInTurn, FindsLackedBy, HasCause, IsMissed, Stops, end_status, writes}
use Rattle.birdcore_top.specs.Command.{Command}
use Rattle.birdcore_top.specs.Outcome.{Accepted, Configures, Held, Outcome, IsAccepted, ConfGives, IsPossible, PlayGives, Played, ScriptGives}
use Rattle.birdcore_top.specs.Written.{AreReportsOf, IfBegun}
use Rattle.birdcore_top.specs.declared.status.Status.{Status}
use Rattle.birdcore_top.specs.declared.status.Status.TheVariants.{ReadFault, WriteFault, OutOfMemory}
use Rattle.birdcore_top.specs.declared.status.Status.TheVariants as variants

-- the status that an error is made of
pub err_is : {T : Type 0} (result : Result T Status) (made status : Status) → IsErrAnd result (λ e. e ≡ made) → result ≡ Err status → made ≡ status
err_is (Ok x) made status is same = absurd is
err_is (Err e) made status is same = sym is ∙ cc

-- an error that is made of a status that stops
pub stops_as : {T : Type 0} (possible : Outcome → Type 0) (result : Result T Status) (made : Status) → IsErrAnd result (λ e. e ≡ made) → Stops possible made → IfErr result (Stops possible)
stops_as possible (Ok x) made is stops = tt
stops_as possible (Err e) made is stops = subst (λ (s : Status). Stops possible s) (sym is) stops

pub accepted_of : (file : Option (List ℕ)) (system : System) → IfSome file (Configures system) → IfSome file IsAccepted
accepted_of None system is = tt
accepted_of (Some text) system is = (system, is)

pub rose_since : (before between now : ℕ) → before ≤ between → Rose between now → Rose before now
rose_since before between now later rose = grind (arith, later, rose)

module _ (conf script : List ℕ) (schedule : Bool) (held : Held) (system : System) (playable : IsPlayable system) (accepted : IfSome (held conf) (Configures system)) where
  pub over : (cells : ℕ) (o : Outcome) → ScriptGives IfSome system schedule cells script (held script) o → PlayGives IfSome schedule conf script cells held o
  over cells o is = inr (system, playable, accepted, is)

  -- the script is refused
  pub script_stopped : (status : Status) → Stops (λ o. (n : ℕ) → ScriptGives IfSome system schedule n script (held script) o) status → Stops (λ o. (n : ℕ) → PlayGives IfSome schedule conf script n held o) status
  script_stopped status is = record { early = is.early; cause = λ answer. let found = is.cause answer in (found.0, λ n. inr (system, playable, accepted, found.1 n), found.2) }

  pub in_turn : (before between now : List ℕ → ℕ) → NoneFell before between → Rose (between script) (now script) → AreMissedInTurn conf script held before now
  in_turn before between now none_fell rose = inr (accepted_of (held conf) system accepted, rose_since (before script) (between script) (now script) (none_fell script) rose)

-- the configuration is refused
pub conf_stopped : (conf script : List ℕ) (schedule : Bool) (held : Held) (status : Status) → Stops (ConfGives IfSome conf (held conf)) status → Stops (λ o. (n : ℕ) → PlayGives IfSome schedule conf script n held o) status
conf_stopped conf script schedule held status is = record { early = is.early; cause = λ answer. let found = is.cause answer in (found.0, λ n. inl found.1, found.2) }

-- where the script isn't held
pub lacked_script : {T : Type 0} (conf script : List ℕ) (held : Held) (lacks : List ℕ → Bool) (result : Result T Status) (made : Status) → IsErrAnd result (λ e. e ≡ made)
    → (IsTrue (lacks conf) → ⊥) → (IsTrue (lacks script) → IsMissed made) → FindsLackedBy conf script lacks held result
lacked_script conf script held lacks (Ok x) made is held_conf missed = absurd is
lacked_script conf script held lacks (Err e) made is held_conf missed = (λ lacks_it. absurd (held_conf lacks_it), λ lacks_it. inl (subst (λ (s : Status). IsMissed s) (sym is) (missed lacks_it)))

-- what is begun of a play that may be due
pub begun_of : (command : Option Command) (held : Held) (setup : Setup) (actors : List (List ℕ)) (phases : List (List Line)) (P : List (List Line) → List PhaseReport → Type 0)
    → IsPossible command held (Played setup actors phases) → HasBegun (AreReportsOf command setup actors) phases P → IfBegun command held P
begun_of command held setup actors phases P possible is = record {
  setup = setup;
  actors = actors;
  first = is.first;
  more = is.more;
  reports = is.reports;
  possible = subst (λ (l : List (List Line)). IsPossible command held (Played setup actors l)) is.whole possible;
  played = is.played;
  said = is.said;
}

-- phases that were played or run answer the outcome
pub end_has_cause : (command : Option Command) (held : Held) (setup : Setup) (actors : List (List ℕ)) (phases : List (List Line)) → IsPossible command held (Played setup actors phases)
    → (ending : Ending) → HasCause (IsPossible command held) (end_status ending)
end_has_cause command held setup actors phases possible endings.Written = λ answer. (Played setup actors phases, possible, tt)
end_has_cause command held setup actors phases possible endings.SinkFailed = λ answer. absurd (cc)
end_has_cause command held setup actors phases possible endings.OutOfMemory = λ answer. absurd (cc)

-- and so does the end of a check that accepts
pub accepted_has_cause : (command : Option Command) (held : Held) → IsPossible command held Accepted → (status : Status) → (status ≡ variants.Ok) ⊎ (status ≡ WriteFault) → HasCause (IsPossible command held) status
accepted_has_cause command held possible status (inl is) = subst (λ (s : Status). HasCause (IsPossible command held) s) (sym is) (λ answer. (Accepted, possible, tt))
accepted_has_cause command held possible status (inr is) = subst (λ (s : Status). HasCause (IsPossible command held) s) (sym is) (λ answer. absurd (cc))

-- ---- how phases ended, by what is answered

pub end_written : (ending : Ending) → end_status ending ≡ variants.Ok → ending ≡ endings.Written
end_written endings.Written is = refl
end_written endings.SinkFailed is = absurd (cc)
end_written endings.OutOfMemory is = absurd (cc)

pub end_failed : (ending : Ending) → end_status ending ≡ WriteFault → ending ≡ endings.SinkFailed
end_failed endings.Written is = absurd (cc)
end_failed endings.SinkFailed is = refl
end_failed endings.OutOfMemory is = absurd (cc)

pub end_wanting : (ending : Ending) → end_status ending ≡ OutOfMemory → ending ≡ endings.OutOfMemory
end_wanting endings.Written is = absurd (cc)
end_wanting endings.SinkFailed is = absurd (cc)
end_wanting endings.OutOfMemory is = refl

pub end_reads : (ending : Ending) → end_status ending ≡ ReadFault → ⊥
end_reads endings.Written is = cc
end_reads endings.SinkFailed is = cc
end_reads endings.OutOfMemory is = cc

-- each may have written something
pub end_writes : (ending : Ending) → writes (end_status ending) ≡ false → ⊥
end_writes endings.Written silent = true≢false silent
end_writes endings.SinkFailed silent = true≢false silent
end_writes endings.OutOfMemory silent = true≢false silent
