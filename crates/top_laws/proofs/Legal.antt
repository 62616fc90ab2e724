-- What is played can be played.
use Rattle.std.proofs.Common.{◌≡◌, ℕ, Bool, true, false, List, map, Option, Some, None, sym, subst, inl, inr}
use Rattle.std.specs.Prelude.{IfSome}
use Rattle.core_setup.specs.Plays.{IsLegalPlay, IsPlay}
use Rattle.core_setup.specs.Setup.{IsSetup, Setup}
use Rattle.report.specs.declared.phase.PhaseReport.{PhaseReport}
use Rattle.script_lines.specs.declared.script.Line.{Line}
use Rattle.show_route.specs.declared.query.Query.{Query}
use Rattle.sys_run.specs.Scripts.{phase_of}
use Rattle.sys_build.specs.Scripts as script_answers
use Rattle.sys_build.specs.Scripts.{Answers}
use Rattle.sys_build.specs.Setups.{IsPlayable, setup_of}
use Rattle.conf_system.specs.Policies.{Filter}
use Rattle.conf_system.specs.System.{System}
use Rattle.conf_system.specs.Texts.{IsSystem}
use Rattle.birdcore_top.specs.Command.{Command, Play, Run, Check}
use Rattle.birdcore_top.specs.Outcome.{Held, Misused, IsPossible, Played, ScriptGives}
use Rattle.birdcore_top.specs.Written.{AreReportsOf}

not_misused : (setup : Setup) (actors : List (List ℕ)) (phases : List (List Line)) → Played setup actors phases ≡ Misused → ⊥
not_misused setup actors phases same = cc

module _ (can_be : (conf text : List ℕ) (system : System) (schedule : Bool) (phases : List (List Line)) (actors : List (List ℕ)) (queries : List Query) (conditions : List Filter) (cells : ℕ)
    → IsSystem conf system → Answers system schedule text (script_answers.Accepted phases actors queries conditions) → IsSetup (setup_of system cells conditions queries)) where
  can_be_played : (system : System) (schedule : Bool) (cells : ℕ) (name : List ℕ) (script : Option (List ℕ)) (setup : Setup) (actors : List (List ℕ)) (phases : List (List Line)) → IsPlayable system
      → ScriptGives IfSome system schedule cells name script (Played setup actors phases) → IsSetup setup
  can_be_played system schedule cells name script setup actors phases playable gives =
      subst (λ (s : Setup). IsSetup s) (sym gives.setup_is) (can_be playable.0 gives.text system schedule phases actors gives.queries gives.conditions cells playable.1 gives.is_script)

  pub is_setup : (command : Option Command) (held : Held) (setup : Setup) (actors : List (List ℕ)) (phases : List (List Line)) → IsPossible command held (Played setup actors phases) → IsSetup setup
  is_setup None held setup actors phases possible = absurd (not_misused setup actors phases possible)
  is_setup (Some (Play conf script cells form)) held setup actors phases (inl is) = absurd is
  is_setup (Some (Play conf script cells form)) held setup actors phases (inr is) = can_be_played is.0 true cells script (held script) setup actors phases is.1 is.3
  is_setup (Some (Run conf script cells form)) held setup actors phases (inl is) = absurd is
  is_setup (Some (Run conf script cells form)) held setup actors phases (inr is) = can_be_played is.0 false cells script (held script) setup actors phases is.1 is.3
  is_setup (Some (Check conf None)) held setup actors phases is = absurd is
  is_setup (Some (Check conf (Some script))) held setup actors phases is = absurd is

  pub are_legal : ((setup : Setup) (actors : List (List ℕ)) (phases : List (List Line)) (reports : List PhaseReport) → IsSetup setup → IsPlay setup actors (map (phase_of setup.queries) phases) reports → IsLegalPlay setup actors (map (phase_of setup.queries) phases) reports)
      → (command : Option Command) (held : Held) (setup : Setup) (actors : List (List ℕ)) (phases : List (List Line)) (reports : List PhaseReport) → IsPossible command held (Played setup actors phases)
      → AreReportsOf command setup actors phases reports → IsLegalPlay setup actors (map (phase_of setup.queries) phases) reports
  are_legal law None held setup actors phases reports possible are = absurd (not_misused setup actors phases possible)
  are_legal law (Some (Play conf script cells form)) held setup actors phases reports possible are =
      law setup actors phases reports (is_setup (Some (Play conf script cells form)) held setup actors phases possible) are
  are_legal law (Some (Run conf script cells form)) held setup actors phases reports possible are = are
  are_legal law (Some (Check conf None)) held setup actors phases reports possible are = absurd possible
  are_legal law (Some (Check conf (Some script))) held setup actors phases reports possible are = absurd possible
