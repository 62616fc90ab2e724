-- What a file that was read whole tells of the outcome.
use Rattle.std.proofs.Common.{◌≡◌, ℕ, ◌≤◌, Bool, List, length, Option, Some, None, refl, sym, subst}
use Rattle.std.specs.Prelude.{IfSome}
use Rattle.outside_io.specs.Whole.{limit, IsLong, IsWhole}
use Rattle.script_lines.specs.declared.faults.ScriptKind.{ScriptKind}
use Rattle.sys_build.specs.Scripts as script
use Rattle.sys_build.specs.declared.scripts.ReadFault.{ReadFault}
use Rattle.sys_build.specs.declared.scripts.ReadFault.TheVariants as line_faults
use Rattle.conf_system.specs.System.{System}
use Rattle.conf_system.specs.Texts.{IsFault}
use Rattle.conf_system.specs.declared.read.SystemFault.{SystemFault}
use Rattle.conf_system.specs.declared.read.SystemFault.TheVariants as faults
use Rattle.birdcore_top.specs.Outcome.{Outcome, OverLimit, Refused, BadLine, Within, ConfGives, ScriptGives}
use Rattle.birdcore_top.specs.Answer.{line_status, status_of, Stops}
use Rattle.birdcore_top.specs.declared.status.Status.{Status}
use Rattle.birdcore_top.specs.declared.status.Status.TheVariants.{ScriptRefused}

-- what holds of the bytes that were read holds of the file, where it is told
pub judged : (held : Option (List ℕ)) (bytes : List ℕ) (P : List ℕ → Type 0) → IsWhole held bytes → P bytes → IfSome held (Within P)
judged None bytes P whole is = tt
judged (Some file) bytes P whole is = (subst (λ (b : List ℕ). length b ≤ limit) (sym whole.told) whole.within, subst P (sym whole.told) is)

-- a configuration that is refused
pub conf_stops : (name : List ℕ) (held : Option (List ℕ)) (bytes : List ℕ) (fault : SystemFault) → IsWhole held bytes → IsFault bytes fault → Stops (ConfGives IfSome name held) (status_of fault)
conf_stops name held bytes (faults.Refused line column kind) whole is = record {
  early = refl;
  cause = λ answer. (Refused line column kind, judged held bytes _ whole is, (refl, refl, refl));
}
conf_stops name held bytes faults.Memory whole is = record { early = refl; cause = λ answer. cc }

module _ (system : System) (schedule : Bool) (name : List ℕ) (held : Option (List ℕ)) where
  -- a script that is over the limit
  pub long_stops : (status : Status) → Stops (λ o. (o ≡ OverLimit name) × IfSome held IsLong) status → Stops (λ o. (cells : ℕ) → ScriptGives IfSome system schedule cells name held o) status
  long_stops status is = record {
    early = is.early;
    cause = λ answer.
        let found = is.cause answer in (
          found.0,
          λ cells. subst (λ (o : Outcome). ScriptGives IfSome system schedule cells name held o) (sym found.1.0) (refl, found.1.1),
          found.2,
        );
  }

  module _ (bytes : List ℕ) (whole : IsWhole held bytes) where
    -- a line of the script is refused
    line_stops : (line : ℕ) (kind : ScriptKind) → script.Answers system schedule bytes (script.Refused line kind) → Stops (λ o. (cells : ℕ) → ScriptGives IfSome system schedule cells name held o) (ScriptRefused line kind)
    line_stops line kind is = record { early = refl; cause = λ answer. (BadLine line kind, λ cells. judged held bytes _ whole is, (refl, refl)) }

    pub script_stops : (fault : ReadFault) → script.Tells system schedule bytes fault → Stops (λ o. (cells : ℕ) → ScriptGives IfSome system schedule cells name held o) (line_status fault)
    script_stops (line_faults.Refused line kind) is = line_stops line kind is
    script_stops line_faults.Memory is = record { early = refl; cause = λ answer. cc }
