-- What is required is answered: an answer has a cause, and files that are told have one outcome.
use Rattle.std.proofs.Common.{◌≡◌, ℕ, Bool, true, false, List, ◌++◌, Option, Some, None, refl, sym, subst, arith, inl, inr}
use Rattle.std.specs.Prelude.{◌⊎◌, IfSome, IsSomeAnd}
use Rattle.std.specs.List.{All}
use Rattle.outside_io.specs.Faults.{Rose}
use Rattle.report.specs.declared.phase.PhaseReport.{PhaseReport}
use Rattle.script_lines.specs.declared.script.Line.{Line}
use Rattle.conf_system.specs.System.{System}
use Rattle.birdcore_top.specs.declared.status.Status.{Status}
use Rattle.birdcore_top.specs.declared.status.Status.TheVariants.{Usage, ConfigRefused, ScriptRefused, ReadFault, WriteFault, OutOfMemory, TooLong}
use Rattle.birdcore_top.specs.declared.status.Status.TheVariants as variants
use Rattle.report.specs.declared.phase.Form.{Form}
use Rattle.report.specs.declared.phase.Form.TheVariants.{Whole}
use Rattle.birdcore_top.specs.Command.{Command, Play, Run, Check, usual_cells}
use Rattle.birdcore_top.specs.Outcome.{Outcome, Misused, OverLimit, Refused, BadLine, Played, Accepted, Held, IsAccepted, CheckGives, ConfGives, PlayGives, ScriptGives, IsPossible, IsRequired, files_read}
use Rattle.birdcore_top.specs.Written.{IfAccepted, IfBegun}
use Rattle.birdcore_top.specs.Answer.{Answers, HasCause, MissesInTurn, NoneFailed, SinkTakes}

-- the law `files_have_one_outcome`
pub record HasOneOutcome : Type 0 where
  pub accepted : (name : List ℕ) (conf : Option (List ℕ)) (o : Outcome) → ConfGives IsSomeAnd name conf o → IfSome conf IsAccepted → ⊥
  pub one : (command : Option Command) (held : Held) (o p : Outcome) → IsRequired command held o → IsPossible command held p → p ≡ o

module _ (law : HasOneOutcome) (command : Option Command) (held : Held) (o : Outcome) (required : IsRequired command held o) where
  from_cause : (status : Status) (p : Outcome) → IsPossible command held p → Answers p status → Answers o status
  from_cause status p may answers = subst (λ (q : Outcome). Answers q status) (law.one command held o p required may) answers

  -- a report is written only where the outcome is a play
  written : (P : List (List Line) → List PhaseReport → Type 0) (before now : ℕ) → IfBegun command held P → SinkTakes o before now → Rose before now → ⊥
  written P before now begun takes =
      subst (λ (q : Outcome). SinkTakes q before now) (sym (law.one command held o (Played begun.setup begun.actors (begun.first ++ begun.more)) required begun.possible)) takes

  -- and `ok` only where it is that what was checked is accepted
  accepted : (said : Type 0) (before now : ℕ) → IfAccepted command held said → SinkTakes o before now → Rose before now → ⊥
  accepted said before now is takes = subst (λ (q : Outcome). SinkTakes q before now) (sym (law.one command held o Accepted required is.0)) takes

  -- nothing is written else
  none_written : (P : List (List Line) → List PhaseReport → Type 0) (said : Type 0) (before now : ℕ) → IfBegun command held P ⊎ IfAccepted command held said → SinkTakes o before now → Rose before now → ⊥
  none_written P said before now (inl begun) takes = written P before now begun takes
  none_written P said before now (inr is) takes = accepted said before now is takes

-- a file that decides an outcome has failed
module _ (law : HasOneOutcome) (schedule : Bool) (conf script : List ℕ) (cells : ℕ) (form : Form) (held : Held) (before now : List ℕ → ℕ) where
  conf_failed : (o : Outcome) → ConfGives IsSomeAnd conf (held conf) o → All (λ name. Rose (before name) (now name) → ⊥) (files_read (Play conf script cells form) o) → Rose (before conf) (now conf) → ⊥
  conf_failed (OverLimit word) is none rose = none 0 conf (omega arith) rose
  conf_failed (Refused l c k) is none rose = none 0 conf (omega arith) rose
  conf_failed Misused is none rose = is
  conf_failed (BadLine n k) is none rose = is
  conf_failed (Played setup actors phases) is none rose = is
  conf_failed Accepted is none rose = is

  script_conf_failed : (system : System) (o : Outcome) → ScriptGives IsSomeAnd system schedule cells script (held script) o → All (λ name. Rose (before name) (now name) → ⊥) (files_read (Play conf script cells form) o)
      → Rose (before conf) (now conf) → ⊥
  script_conf_failed system (OverLimit word) is none rose = none 0 conf (omega arith) rose
  script_conf_failed system (BadLine n k) is none rose = none 0 conf (omega arith) rose
  script_conf_failed system (Played setup actors phases) is none rose = none 0 conf (omega arith) rose
  script_conf_failed system Misused is none rose = is
  script_conf_failed system (Refused l c k) is none rose = is
  script_conf_failed system Accepted is none rose = is

  script_failed : (system : System) (o : Outcome) → ScriptGives IsSomeAnd system schedule cells script (held script) o → All (λ name. Rose (before name) (now name) → ⊥) (files_read (Play conf script cells form) o)
      → Rose (before script) (now script) → ⊥
  script_failed system (OverLimit word) is none rose = none 1 conf (omega arith) (subst (λ (name : List ℕ). Rose (before name) (now name)) (sym is.0) rose)
  script_failed system (BadLine n k) is none rose = none 1 conf (omega arith) rose
  script_failed system (Played setup actors phases) is none rose = none 1 conf (omega arith) rose
  script_failed system Misused is none rose = is
  script_failed system (Refused l c k) is none rose = is
  script_failed system Accepted is none rose = is

  not_in_turn : (o : Outcome) → PlayGives IsSomeAnd schedule conf script cells held o → All (λ name. Rose (before name) (now name) → ⊥) (files_read (Play conf script cells form) o)
      → MissesInTurn (Play conf script cells form) held before now → ⊥
  not_in_turn o (inl is) none (inl rose) = conf_failed o is none rose
  not_in_turn o (inl is) none (inr later) = law.accepted conf (held conf) o is later.0
  not_in_turn o (inr is) none (inl rose) = script_conf_failed is.0 o is.3 none rose
  not_in_turn o (inr is) none (inr later) = script_failed is.0 o is.3 none later.1

-- the same of a check of both
module _ (law : HasOneOutcome) (conf script : List ℕ) (held : Held) (before now : List ℕ → ℕ) where
  check_not_in_turn : (o : Outcome) → IsRequired (Some (Check conf (Some script))) held o → All (λ name. Rose (before name) (now name) → ⊥) (files_read (Check conf (Some script)) o)
      → MissesInTurn (Play conf script usual_cells Whole) held before now → ⊥
  check_not_in_turn Accepted is none missed = not_in_turn law true conf script usual_cells Whole held before now (Played is.0 is.1 is.2) is.3 none missed
  check_not_in_turn (Played setup actors phases) is none missed = is
  check_not_in_turn Misused is none missed = not_in_turn law true conf script usual_cells Whole held before now Misused is none missed
  check_not_in_turn (OverLimit word) is none missed = not_in_turn law true conf script usual_cells Whole held before now (OverLimit word) is none missed
  check_not_in_turn (Refused l c k) is none missed = not_in_turn law true conf script usual_cells Whole held before now (Refused l c k) is none missed
  check_not_in_turn (BadLine n k) is none missed = not_in_turn law true conf script usual_cells Whole held before now (BadLine n k) is none missed

-- and of a check of the configuration alone
alone_failed : (conf : List ℕ) (held : Held) (before now : List ℕ → ℕ) (o : Outcome) → CheckGives IsSomeAnd conf (held conf) o → All (λ name. Rose (before name) (now name) → ⊥) (files_read (Check conf None) o)
    → Rose (before conf) (now conf) → ⊥
alone_failed conf held before now Accepted is none rose = none 0 conf (omega arith) rose
alone_failed conf held before now (OverLimit word) is none rose = none 0 conf (omega arith) rose
alone_failed conf held before now (Refused l c k) is none rose = none 0 conf (omega arith) rose
alone_failed conf held before now Misused is none rose = is
alone_failed conf held before now (BadLine n k) is none rose = is
alone_failed conf held before now (Played setup actors phases) is none rose = is

alone_not_in_turn : (conf : List ℕ) (held : Held) (before now : List ℕ → ℕ) (o : Outcome) → CheckGives IsSomeAnd conf (held conf) o → All (λ name. Rose (before name) (now name) → ⊥) (files_read (Check conf None) o)
    → MissesInTurn (Check conf None) held before now → ⊥
alone_not_in_turn conf held before now o is none (inl rose) = alone_failed conf held before now o is none rose
alone_not_in_turn conf held before now o is none (inr later) = later.1

-- the files of a run are those of a play
as_of_a_play : (conf script : List ℕ) (cells : ℕ) (form : Form) (o : Outcome) → files_read (Run conf script cells form) o ≡ files_read (Play conf script cells form) o
as_of_a_play conf script cells form Misused = refl
as_of_a_play conf script cells form (OverLimit word) = refl
as_of_a_play conf script cells form (Refused l c k) = refl
as_of_a_play conf script cells form (BadLine n k) = refl
as_of_a_play conf script cells form (Played setup actors phases) = refl
as_of_a_play conf script cells form Accepted = refl

-- no read failed that decides the outcome
calm : (law : HasOneOutcome) (command : Option Command) (held : Held) (before now : List ℕ → ℕ) (o : Outcome) → IsRequired command held o → NoneFailed command o before now
    → IsSomeAnd command (λ c. MissesInTurn c held before now) → ⊥
calm law None held before now o required none missed = missed
calm law (Some (Play conf script cells form)) held before now o required none missed = not_in_turn law true conf script cells form held before now o required none missed
calm law (Some (Run conf script cells form)) held before now o required none missed =
    not_in_turn law false conf script cells form held before now o required
    (subst (λ (names : List (List ℕ)). All (λ name. Rose (before name) (now name) → ⊥) names) (as_of_a_play conf script cells form o) none) missed
calm law (Some (Check conf None)) held before now o required none missed = alone_not_in_turn conf held before now o required none missed
calm law (Some (Check conf (Some script))) held before now o required none missed = check_not_in_turn law conf script held before now o required none missed

-- the answer is the one that is required, or want of memory
pub exact : (law : HasOneOutcome) (command : Option Command) (held : Held) (before now : List ℕ → ℕ) (old new : ℕ) (P : List (List Line) → List PhaseReport → Type 0) (said : Type 0) (status : Status) → HasCause (IsPossible command held) status
    → (status ≡ ReadFault → IsSomeAnd command (λ c. MissesInTurn c held before now)) → (status ≡ WriteFault → Rose old new) → (status ≡ WriteFault → IfBegun command held P ⊎ IfAccepted command held said)
    → (o : Outcome) → IsRequired command held o → NoneFailed command o before now → SinkTakes o old new → Answers o status ⊎ (status ≡ OutOfMemory)
exact law command held before now old new P said variants.Ok cause read write front o required none takes = let found = cause refl in inl (from_cause law command held o required variants.Ok found.0 found.1 found.2)
exact law command held before now old new P said Usage cause read write front o required none takes = let found = cause refl in inl (from_cause law command held o required Usage found.0 found.1 found.2)
exact law command held before now old new P said (ConfigRefused l c k) cause read write front o required none takes =
    let found = cause refl in inl (from_cause law command held o required (ConfigRefused l c k) found.0 found.1 found.2)
exact law command held before now old new P said (ScriptRefused line kind) cause read write front o required none takes =
    let found = cause refl in inl (from_cause law command held o required (ScriptRefused line kind) found.0 found.1 found.2)
exact law command held before now old new P said (TooLong word) cause read write front o required none takes =
    let found = cause refl in inl (from_cause law command held o required (TooLong word) found.0 found.1 found.2)
exact law command held before now old new P said ReadFault cause read write front o required none takes = absurd (calm law command held before now o required none (read refl))
exact law command held before now old new P said WriteFault cause read write front o required none takes = absurd (none_written law command held o required P said old new (front refl) takes (write refl))
exact law command held before now old new P said OutOfMemory cause read write front o required none takes = inr refl
