-- Files that are told have an outcome.
use Rattle.std.proofs.Common.{◌≡◌, ℕ, ◌≤◌, ◌<◌, ◌-◌, ◌^◌, Bool, true, false, List, length, Option, Some, None, refl, sym, subst, arith, inl, inr}
use Rattle.std.specs.Prelude.{◌⊎◌, IfSome, IsSomeAnd}
use Rattle.std.proofs.lemmas.Bool.{cases_lt}
use Rattle.outside_io.specs.Whole.{limit, IsLong}
use Rattle.sys_build.specs.Scripts as script_answers
use Rattle.sys_build.specs.Scripts.{Answer, Answers}
use Rattle.sys_build.specs.Setups.{IsPlayable, setup_of}
use Rattle.conf_system.specs.System.{System}
use Rattle.birdcore_top.specs.Command.{Command, Play, Run, Check, conf_of, script_of, usual_cells}
use Rattle.birdcore_top.specs.Outcome.{Held, Outcome, Misused, OverLimit, Refused, BadLine, Played, Accepted, Configures, CheckGives, ConfGives, IsCheckOf, PlayGives, ScriptGives, IsRequired}
use Rattle.top_laws.specs.Says.{SaysSomething}

within_or : (file : List ℕ) → IsLong file ⊎ (length file ≤ limit)
within_or file = cases_lt limit (length file)

answered : (system : System) (schedule : Bool) (cells : ℕ) (name text : List ℕ) → length text ≤ limit → (answer : Answer) → Answers system schedule text answer → (o : Outcome) × ScriptGives IsSomeAnd system schedule cells name (Some text) o
answered system schedule cells name text within (script_answers.Accepted phases actors queries conditions) is = (
  Played (setup_of system cells conditions queries) actors phases,
  record { queries = queries; conditions = conditions; setup_is = refl; text = text; is_script = is; told = (within, is) },
)
answered system schedule cells name text within (script_answers.Refused line kind) is = (BadLine line kind, (within, is))

-- what a play comes to is what a check does
checked : (play : Outcome → Type 0) → (play Accepted → ⊥) → (o : Outcome) → play o → (q : Outcome) × IsCheckOf play q
checked play never (Played setup actors phases) is = (Accepted, (setup, actors, phases, is))
checked play never Accepted is = absurd (never is)
checked play never Misused is = (Misused, is)
checked play never (OverLimit name) is = (OverLimit name, is)
checked play never (Refused line column kind) is = (Refused line column kind, is)
checked play never (BadLine line kind) is = (BadLine line kind, is)

never_accepted : (conf script : List ℕ) (schedule : Bool) (cells : ℕ) (held : Held) → PlayGives IsSomeAnd schedule conf script cells held Accepted → ⊥
never_accepted conf script schedule cells held (inl is) = is
never_accepted conf script schedule cells held (inr is) = is.3

module _ (says : (text : List ℕ) → length text ≤ limit → SaysSomething text) (each : (system : System) (schedule : Bool) (text : List ℕ) → length text < 2 ^ 32 - 1 → (answer : Answer) × Answers system schedule text answer) where
  script_outcome : (system : System) (schedule : Bool) (cells : ℕ) (name text : List ℕ) → (o : Outcome) × ScriptGives IsSomeAnd system schedule cells name (Some text) o
  script_outcome system schedule cells name text = elim (within_or text) [
    | inl long ↦ (OverLimit name, (refl, long))
    | inr within ↦ let found = each system schedule text (omega (arith, within)) in answered system schedule cells name text within found.0 found.1
  ]

  -- what files give, of which this is told
  Given : (conf script : List ℕ) (schedule : Bool) (cells : ℕ) (first second : Option (List ℕ)) (o : Outcome) → Type 0
  Given conf script schedule cells first second o =
      ConfGives IsSomeAnd conf first o ⊎ ((system : System) × IsPlayable system × IsSomeAnd first (Configures system) × ScriptGives IsSomeAnd system schedule cells script second o)

  play_outcome : (conf script : List ℕ) (schedule : Bool) (cells : ℕ) (file text : List ℕ) → (o : Outcome) × Given conf script schedule cells (Some file) (Some text) o
  unfolding Given
  play_outcome conf script schedule cells file text = elim (within_or file) [
    | inl long ↦ (OverLimit conf, inl (refl, long))
    | inr within ↦ elim (says file within) [
      | inl is ↦ let found = script_outcome is.0 schedule cells script text in (found.0, inr (is.0, (file, is.1), (within, is.1), found.1))
      | inr refused ↦ (Refused refused.0 refused.1 refused.2, inl (within, refused.3))
    ]
  ]

  both_exist : (conf script : List ℕ) (schedule : Bool) (cells : ℕ) (held : Held) (file text : List ℕ) → held conf ≡ Some file → held script ≡ Some text
      → (o : Outcome) × PlayGives IsSomeAnd schedule conf script cells held o
  unfolding Given
  both_exist conf script schedule cells held file text conf_told script_told =
      let found = play_outcome conf script schedule cells file text in (
        found.0,
        subst (λ (s : Option (List ℕ)). Given conf script schedule cells (held conf) s found.0) (sym script_told)
            (subst (λ (c : Option (List ℕ)). Given conf script schedule cells c (Some text) found.0) (sym conf_told) found.1),
      )

  alone_exists : (conf file : List ℕ) → (o : Outcome) × CheckGives IsSomeAnd conf (Some file) o
  alone_exists conf file = elim (within_or file) [
    | inl long ↦ (OverLimit conf, (refl, long))
    | inr within ↦ elim (says file within) [
      | inl is ↦ (Accepted, (is.0, (within, is.1)))
      | inr refused ↦ (Refused refused.0 refused.1 refused.2, (within, refused.3))
    ]
  ]

  -- the files of a command are told
  pub outcome_exists : (command : Command) (held : Held) (file : List ℕ) → held (conf_of command) ≡ Some file → IfSome (script_of command) (λ script. (text : List ℕ) × (held script ≡ Some text))
      → (o : Outcome) × IsRequired (Some command) held o
  outcome_exists (Play conf script cells form) held file conf_told told = both_exist conf script true cells held file told.0 conf_told told.1
  outcome_exists (Run conf script cells form) held file conf_told told = both_exist conf script false cells held file told.0 conf_told told.1
  outcome_exists (Check conf None) held file conf_told told =
      let found = alone_exists conf file in (found.0, subst (λ (c : Option (List ℕ)). CheckGives IsSomeAnd conf c found.0) (sym conf_told) found.1)
  outcome_exists (Check conf (Some script)) held file conf_told told =
      let found = both_exist conf script true usual_cells held file told.0 conf_told told.1 in
      checked (PlayGives IsSomeAnd true conf script usual_cells held) (never_accepted conf script true usual_cells held) found.0 found.1
