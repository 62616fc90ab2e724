-- What the program answers to an outcome (`Answers`), and when it answers something else
-- (`HasCause`, `MissesInTurn`, `NoneFailed`, `SinkTakes`, `FindsLacked`).
-- From: own.
-- Example: the table of statuses in the README.
use Rattle.std.specs.Prelude.{◌≡◌, ℕ, ◌⊎◌, Bool, true, false, List, ⊤, Option, Some, None, IfSome, IsSomeAnd, IsTrue, Result, IsErrAnd}
use Rattle.std.specs.List.{All}
use Rattle.std.specs.String.{string_bytes}
use Rattle.outside_io.specs.Faults.{Rose}
use Rattle.outside_io.specs.declared.whole.ReadError.{ReadError}
use Rattle.outside_io.specs.declared.whole.ReadError.TheVariants as errors
use Rattle.phases_out.specs.declared.ending.Ending.{Ending}
use Rattle.phases_out.specs.declared.ending.Ending.TheVariants as endings
use Rattle.sys_build.specs.declared.scripts.ReadFault.{ReadFault as LineFault}
use Rattle.sys_build.specs.declared.scripts.ReadFault.TheVariants as line_faults
use Rattle.conf_system.specs.declared.read.SystemFault.{SystemFault}
use Rattle.conf_system.specs.declared.read.SystemFault.TheVariants as faults
use Rattle.birdcore_top.specs.declared.status.Status.{Status}
use Rattle.birdcore_top.specs.declared.status.Status.TheVariants.{Ok, Usage, ConfigRefused, ScriptRefused, ReadFault, WriteFault, OutOfMemory, TooLong}
use Rattle.birdcore_top.specs.Command.{Command, conf_of, script_of}
use Rattle.birdcore_top.specs.Outcome.{Held, Outcome, Misused, OverLimit, Refused, BadLine, Played, Accepted, ConfGives, IsAccepted, files_read}

-- the answer to an outcome
abbrev pub Answers : Outcome → Status → Type 0
Answers Misused Usage = ⊤
Answers (OverLimit name) (TooLong word) = string_bytes word ≡ name
Answers (Refused line column kind) (ConfigRefused l c k) = (l ≡ line) × (c ≡ column) × (k ≡ kind)
Answers (BadLine n kind) (ScriptRefused line k) = (line ≡ n) × (k ≡ kind)
Answers (Played setup actors phases) Ok = ⊤
Answers Accepted Ok = ⊤
Answers _ _ = ⊥

-- A fault and want of memory answer no outcome: they come in place of the answer.
abbrev pub is_answer : Status → Bool
is_answer ReadFault = false
is_answer WriteFault = false
is_answer OutOfMemory = false
is_answer _ = true

-- this status may have written something
abbrev pub writes : Status → Bool
writes Ok = true
writes WriteFault = true
writes OutOfMemory = true
writes _ = false

-- The status answers an outcome that may be due.
abbrev pub HasCause : (Outcome → Type 0) → Status → Type 0
HasCause possible status = IsTrue (is_answer status) → (o : Outcome) × possible o × Answers o status

-- Reading failed under a name that was read in its turn: CONF, or SCRIPT once CONF is accepted.
abbrev pub MissesInTurn : Command → Held → (List ℕ → ℕ) → (List ℕ → ℕ) → Type 0
MissesInTurn command held before now =
    Rose (before (conf_of command)) (now (conf_of command))
    ⊎ (IfSome (held (conf_of command)) IsAccepted
    × IsSomeAnd (script_of command) (λ script. Rose (before script) (now script)))

-- None of the files that decide an outcome failed.
abbrev pub NoneFailed : Option Command → Outcome → (List ℕ → ℕ) → (List ℕ → ℕ) → Type 0
NoneFailed command o before now = IfSome command
    (λ c. All (λ name. Rose (before name) (now name) → ⊥) (files_read c o))

-- The sink didn't fail, where the outcome is written.
abbrev pub SinkTakes : Outcome → ℕ → ℕ → Type 0
SinkTakes (Played setup actors phases) before now = Rose before now → ⊥
SinkTakes Accepted before now = Rose before now → ⊥
SinkTakes _ before now = ⊤

abbrev pub IsMissed : Status → Type 0
IsMissed status = (status ≡ ReadFault) ⊎ (status ≡ OutOfMemory)

-- The status answers an outcome for which the script isn't read.
abbrev pub AnswersConf : List ℕ → Held → Status → Type 0
AnswersConf conf held status = (o : Outcome) × ConfGives IfSome conf (held conf) o
    × Answers o status

-- what is answered where a file isn't held: CONF, or SCRIPT unless CONF is refused itself
pub record MissesLacked (command : Command) (lacks : List ℕ → Bool) (held : Held)
    (status : Status) : Type 0 where
  pub conf_lacked : IsTrue (lacks (conf_of command)) → IsMissed status
  pub script_lacked : IfSome (script_of command) (λ script. IsTrue (lacks script)
      → IsMissed status ⊎ AnswersConf (conf_of command) held status)

abbrev pub FindsLacked : Option Command → (List ℕ → Bool) → Held → Status → Type 0
FindsLacked None lacks held status = ⊤
FindsLacked (Some command) lacks held status = MissesLacked command lacks held status

-- the exit status of the program
abbrev pub number_of : Status → ℕ
number_of Ok = 0
number_of Usage = 1
number_of (ConfigRefused line column kind) = 2
number_of (ScriptRefused line kind) = 3
number_of ReadFault = 4
number_of WriteFault = 5
number_of OutOfMemory = 6
number_of (TooLong word) = 7

-- ---- for the contracts of private functions

-- reading failed under the name of the configuration or, once that is accepted, of the script
abbrev pub AreMissedInTurn :
    (conf script : List ℕ) → Held → (List ℕ → ℕ) → (List ℕ → ℕ) → Type 0
AreMissedInTurn conf script held before now =
    Rose (before conf) (now conf)
    ⊎ (IfSome (held conf) IsAccepted × Rose (before script) (now script))

-- what is answered where a file isn't held, by a result in which what was read is no status yet
abbrev pub FindsLackedBy : {T : Type 0} → (conf script : List ℕ) → (List ℕ → Bool) → Held
    → Result T Status → Type 0
FindsLackedBy conf script lacks held result =
    (IsTrue (lacks conf) → IsErrAnd result IsMissed)
    × (IsTrue (lacks script) → IsErrAnd result
    (λ status. IsMissed status ⊎ AnswersConf conf held status))

-- what is answered where a configuration is refused
abbrev pub status_of : SystemFault → Status
status_of (faults.Refused line column kind) = ConfigRefused line column kind
status_of faults.Memory = OutOfMemory

-- what is answered where a script is refused
abbrev pub line_status : LineFault → Status
line_status (line_faults.Refused line kind) = ScriptRefused line kind
line_status line_faults.Memory = OutOfMemory

-- a status that comes before anything is written
abbrev pub is_early : Status → Bool
is_early Ok = false
is_early WriteFault = false
is_early _ = true

-- A status before anything is written, with the outcome that it answers.
pub record Stops (possible : Outcome → Type 0) (status : Status) : Type 0 where
  pub early : is_early status ≡ true
  pub cause : HasCause possible status

-- what is answered where the file of this name isn't read to its end
abbrev pub IsReadStatus : List ℕ → ReadError → Status → Type 0
IsReadStatus name errors.Failed status = status ≡ ReadFault
IsReadStatus name errors.TooLong status = Answers (OverLimit name) status ⊎ (status ≡ OutOfMemory)
IsReadStatus name errors.Memory status = status ≡ OutOfMemory

-- what is answered where phases have been played or run, by how that ended
abbrev pub end_status : Ending → Status
end_status endings.Written = Ok
end_status endings.SinkFailed = WriteFault
end_status endings.OutOfMemory = OutOfMemory
