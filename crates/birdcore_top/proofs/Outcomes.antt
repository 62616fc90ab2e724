-- Files that are told come to one outcome at most.
use Rattle.std.proofs.Common.{◌≡◌, ℕ, Bool, true, false, List, Option, Some, None, refl, sym, ◌∙◌, ap, subst, arith, inl, inr}
use Rattle.std.specs.Prelude.{◌⊎◌, IfSome, IsSomeAnd, ⊤}
use Rattle.conf_ast.specs.declared.kind.ConfKind.{ConfKind}
use Rattle.core_setup.specs.Setup.{Setup}
use Rattle.script_lines.specs.declared.faults.ScriptKind.{ScriptKind}
use Rattle.script_lines.specs.declared.script.Line.{Line}
use Rattle.show_route.specs.declared.query.Query.{Query}
use Rattle.sys_build.specs.Scripts as script_answers
use Rattle.sys_build.specs.Scripts.{Answers}
use Rattle.sys_build.specs.Setups.{IsPlayable, setup_of}
use Rattle.conf_system.specs.Policies.{Filter}
use Rattle.conf_system.specs.System.{System}
use Rattle.conf_system.specs.Texts.{IsRefusedAt, IsSystem}
use Rattle.birdcore_top.specs.Command.{Command, Play, Run, Check, usual_cells}
use Rattle.birdcore_top.specs.Outcome.{Outcome, Misused, OverLimit, Refused, BadLine, Played, Accepted, Held, Configures, IsAccepted, IsCheckOf, CheckGives, ConfGives, PlayGives, ScriptGives, IsPossible, IsRequired}

-- What a text says: of configurations it is one, or it is refused, at one place for one reason; of scripts it has one answer. This is what the laws of texts say.
pub record SaysOnce : Type 0 where
  pub configurations_agree : (text : List ℕ) (a b : System) → IsSystem text a → IsSystem text b → a ≡ b
  pub accepted_or_refused : (text : List ℕ) (system : System) (line column : ℕ) (kind : ConfKind) → IsSystem text system → IsRefusedAt text line column kind → ⊥
  pub refusals_agree : (text : List ℕ) (l m c d : ℕ) (k j : ConfKind) → IsRefusedAt text l c k → IsRefusedAt text m d j → (l ≡ m) × (c ≡ d) × (k ≡ j)
  pub answers_agree : (system : System) (schedule : Bool) (text : List ℕ) (a b : script_answers.Answer) → Answers system schedule text a → Answers system schedule text b → a ≡ b

same_place : (l m c d : ℕ) (k j : ConfKind) → (l ≡ m) × (c ≡ d) × (k ≡ j) → Refused l c k ≡ Refused m d j
same_place l m c d k j same =
    ap (λ (n : ℕ). Refused n c k) same.0 ∙ ap (λ (n : ℕ). Refused m n k) same.1 ∙ ap (λ (n : ConfKind). Refused m d n) same.2

-- two answers of one text that aren't one
same_line : (n m : ℕ) (k j : ScriptKind) → ◌≡◌ {A = script_answers.Answer} (script_answers.Refused n k) (script_answers.Refused m j) → BadLine n k ≡ BadLine m j
same_line n m k j same = cc

same_play : (system : System) (cells : ℕ) (setup other : Setup) (phases phases2 : List (List Line)) (actors actors2 : List (List ℕ)) (queries queries2 : List Query) (conditions conditions2 : List Filter)
    → setup ≡ setup_of system cells conditions queries → other ≡ setup_of system cells conditions2 queries2
    → ◌≡◌ {A = script_answers.Answer} (script_answers.Accepted phases actors queries conditions) (script_answers.Accepted phases2 actors2 queries2 conditions2) → Played setup actors phases ≡ Played other actors2 phases2
same_play system cells setup other phases phases2 actors actors2 queries queries2 conditions conditions2 is may same = cc

refused_or_played : (n : ℕ) (k : ScriptKind) (phases : List (List Line)) (actors : List (List ℕ)) (queries : List Query) (conditions : List Filter)
    → ◌≡◌ {A = script_answers.Answer} (script_answers.Refused n k) (script_answers.Accepted phases actors queries conditions) → ⊥
refused_or_played n k phases actors queries conditions same = cc

-- what is refused isn't played
abbrev is_refusal : Outcome → Type 0
is_refusal (Played setup actors phases) = ⊥
is_refusal _ = ⊤

played_or : (o : Outcome) (setup : Setup) (actors : List (List ℕ)) (phases : List (List Line)) → is_refusal o → Played setup actors phases ≡ o → ⊥
played_or o setup actors phases refusal same = subst (λ (p : Outcome). is_refusal p) (sym same) refusal

module _ (once : SaysOnce) where
  -- two outcomes of one configuration
  conf_once : (name file : List ℕ) (o p : Outcome) → ConfGives IsSomeAnd name (Some file) o → ConfGives IfSome name (Some file) p → p ≡ o
  conf_once name file (OverLimit word) (OverLimit other) is may = ap OverLimit (may.0 ∙ sym is.0)
  conf_once name file (OverLimit word) (Refused l c k) is may = absurd (omega (arith, is.1, may.0))
  conf_once name file (Refused l c k) (OverLimit other) is may = absurd (omega (arith, may.1, is.0))
  conf_once name file (Refused l c k) (Refused m d j) is may = same_place m l d c j k (once.refusals_agree file m l d c j k may.1 is.1)
  conf_once name file Misused p is may = absurd is
  conf_once name file (BadLine n k) p is may = absurd is
  conf_once name file (Played setup actors phases) p is may = absurd is
  conf_once name file Accepted p is may = absurd is
  conf_once name file (OverLimit word) Misused is may = absurd may
  conf_once name file (OverLimit word) (BadLine m j) is may = absurd may
  conf_once name file (OverLimit word) (Played setup actors phases) is may = absurd may
  conf_once name file (OverLimit word) Accepted is may = absurd may
  conf_once name file (Refused l c k) Misused is may = absurd may
  conf_once name file (Refused l c k) (BadLine m j) is may = absurd may
  conf_once name file (Refused l c k) (Played setup actors phases) is may = absurd may
  conf_once name file (Refused l c k) Accepted is may = absurd may

  -- A configuration that is accepted has no outcome without its script.
  accepted_goes_on : (name file : List ℕ) (system : System) (o : Outcome) → Configures system file → ConfGives IfSome name (Some file) o → ⊥
  accepted_goes_on name file system (OverLimit word) is may = omega (arith, may.1, is.0)
  accepted_goes_on name file system (Refused l c k) is may = once.accepted_or_refused file system l c k is.1 may.1
  accepted_goes_on name file system Misused is may = may
  accepted_goes_on name file system (BadLine n k) is may = may
  accepted_goes_on name file system (Played setup actors phases) is may = may
  accepted_goes_on name file system Accepted is may = may

  -- two outcomes of one script over one configuration
  script_once : (system : System) (schedule : Bool) (cells : ℕ) (name text : List ℕ) (o p : Outcome) → ScriptGives IsSomeAnd system schedule cells name (Some text) o → ScriptGives IfSome system schedule cells name (Some text) p → p ≡ o
  script_once system schedule cells name text (OverLimit word) (OverLimit other) is may = ap OverLimit (may.0 ∙ sym is.0)
  script_once system schedule cells name text (OverLimit word) (BadLine m j) is may = absurd (omega (arith, is.1, may.0))
  script_once system schedule cells name text (OverLimit word) (Played setup actors phases) is may = absurd (omega (arith, is.1, may.told.0))
  script_once system schedule cells name text (BadLine n k) (OverLimit other) is may = absurd (omega (arith, may.1, is.0))
  script_once system schedule cells name text (BadLine n k) (BadLine m j) is may = same_line m n j k (once.answers_agree system schedule text _ _ may.1 is.1)
  script_once system schedule cells name text (BadLine n k) (Played setup actors phases) is may = absurd (refused_or_played n k phases actors may.queries may.conditions (once.answers_agree system schedule text _ _ is.1 may.told.1))
  script_once system schedule cells name text (Played setup actors phases) (OverLimit other) is may = absurd (omega (arith, may.1, is.told.0))
  script_once system schedule cells name text (Played setup actors phases) (BadLine m j) is may = absurd (refused_or_played m j phases actors is.queries is.conditions (once.answers_agree system schedule text _ _ may.1 is.told.1))
  script_once system schedule cells name text (Played setup actors phases) (Played other actors2 phases2) is may =
      same_play system cells other setup phases2 phases actors2 actors may.queries is.queries may.conditions is.conditions may.setup_is is.setup_is (once.answers_agree system schedule text _ _ may.told.1 is.told.1)
  script_once system schedule cells name text Misused p is may = absurd is
  script_once system schedule cells name text (Refused l c k) p is may = absurd is
  script_once system schedule cells name text Accepted p is may = absurd is
  script_once system schedule cells name text (OverLimit word) Misused is may = absurd may
  script_once system schedule cells name text (OverLimit word) (Refused l c j) is may = absurd may
  script_once system schedule cells name text (OverLimit word) Accepted is may = absurd may
  script_once system schedule cells name text (BadLine n k) Misused is may = absurd may
  script_once system schedule cells name text (BadLine n k) (Refused l c j) is may = absurd may
  script_once system schedule cells name text (BadLine n k) Accepted is may = absurd may
  script_once system schedule cells name text (Played setup actors phases) Misused is may = absurd may
  script_once system schedule cells name text (Played setup actors phases) (Refused l c j) is may = absurd may
  script_once system schedule cells name text (Played setup actors phases) Accepted is may = absurd may

  -- an outcome that is required rests on a file that is told
  no_conf : (name : List ℕ) (o : Outcome) → ConfGives IsSomeAnd name None o → ⊥
  no_conf name (OverLimit word) is = is.1
  no_conf name (Refused l c k) is = is
  no_conf name Misused is = is
  no_conf name (BadLine n k) is = is
  no_conf name (Played setup actors phases) is = is
  no_conf name Accepted is = is

  as_told : (name file : List ℕ) (o : Outcome) → ConfGives IsSomeAnd name (Some file) o → ConfGives IfSome name (Some file) o
  as_told name file (OverLimit word) is = is
  as_told name file (Refused l c k) is = is
  as_told name file Misused is = is
  as_told name file (BadLine n k) is = is
  as_told name file (Played setup actors phases) is = is
  as_told name file Accepted is = is

  -- an outcome without the script is required of no configuration that is accepted
  pub accepted_not_required : (name : List ℕ) (conf : Option (List ℕ)) (o : Outcome) → ConfGives IsSomeAnd name conf o → IfSome conf IsAccepted → ⊥
  accepted_not_required name None o is accepted = no_conf name o is
  accepted_not_required name (Some file) o is accepted = accepted_goes_on name file accepted.0 o accepted.1 (as_told name file o is)

  no_script : (system : System) (schedule : Bool) (cells : ℕ) (name : List ℕ) (o : Outcome) → ScriptGives IsSomeAnd system schedule cells name None o → ⊥
  no_script system schedule cells name (OverLimit word) is = is.1
  no_script system schedule cells name (BadLine n k) is = is
  no_script system schedule cells name (Played setup actors phases) is = is.told
  no_script system schedule cells name Accepted is = is
  no_script system schedule cells name Misused is = is
  no_script system schedule cells name (Refused l c k) is = is

  scripts_once : (system : System) (schedule : Bool) (cells : ℕ) (name : List ℕ) (script : Option (List ℕ)) (o p : Outcome) → ScriptGives IsSomeAnd system schedule cells name script o
      → ScriptGives IfSome system schedule cells name script p → p ≡ o
  scripts_once system schedule cells name None o p is may = absurd (no_script system schedule cells name o is)
  scripts_once system schedule cells name (Some text) o p is may = script_once system schedule cells name text o p is may

  plays_once : (conf script : List ℕ) (schedule : Bool) (cells : ℕ) (first second : Option (List ℕ)) (o p : Outcome)
      → ConfGives IsSomeAnd conf first o ⊎ ((system : System) × IsPlayable system × IsSomeAnd first (Configures system) × ScriptGives IsSomeAnd system schedule cells script second o)
      → ConfGives IfSome conf first p ⊎ ((system : System) × IsPlayable system × IfSome first (Configures system) × ScriptGives IfSome system schedule cells script second p) → p ≡ o
  plays_once conf script schedule cells None second o p (inl is) may = absurd (no_conf conf o is)
  plays_once conf script schedule cells None second o p (inr is) may = absurd is.2
  plays_once conf script schedule cells (Some file) second o p (inl is) (inl may) = conf_once conf file o p is may
  plays_once conf script schedule cells (Some file) second o p (inl is) (inr may) = absurd (accepted_goes_on conf file may.0 o may.2 (as_told conf file o is))
  plays_once conf script schedule cells (Some file) second o p (inr is) (inl may) = absurd (accepted_goes_on conf file is.0 p is.2 may)
  plays_once conf script schedule cells (Some file) second o p (inr is) (inr may) =
      let same : may.0 ≡ is.0 = once.configurations_agree file may.0 is.0 may.2.1 is.2.1 in
      scripts_once is.0 schedule cells script second o p is.3 (subst (λ (s : System). ScriptGives IfSome s schedule cells script second p) same may.3)

  plays_agree : (conf script : List ℕ) (schedule : Bool) (cells : ℕ) (held : Held) (o p : Outcome) → PlayGives IsSomeAnd schedule conf script cells held o → PlayGives IfSome schedule conf script cells held p → p ≡ o
  plays_agree conf script schedule cells held o p is may = plays_once conf script schedule cells (held conf) (held script) o p is may

  checks_agree : (conf script : List ℕ) (held : Held) (o p : Outcome) → IsCheckOf (PlayGives IsSomeAnd true conf script usual_cells held) o → IsCheckOf (PlayGives IfSome true conf script usual_cells held) p → p ≡ o
  checks_agree conf script held Misused Misused is may = plays_agree conf script true usual_cells held Misused Misused is may
  checks_agree conf script held Misused (OverLimit other) is may = plays_agree conf script true usual_cells held Misused (OverLimit other) is may
  checks_agree conf script held Misused (Refused m d j) is may = plays_agree conf script true usual_cells held Misused (Refused m d j) is may
  checks_agree conf script held Misused (BadLine m j) is may = plays_agree conf script true usual_cells held Misused (BadLine m j) is may
  checks_agree conf script held Misused Accepted is may = absurd (played_or Misused may.0 may.1 may.2 tt (plays_agree conf script true usual_cells held Misused (Played may.0 may.1 may.2) is may.3))
  checks_agree conf script held Misused (Played setup actors phases) is may = absurd may
  checks_agree conf script held (OverLimit word) Misused is may = plays_agree conf script true usual_cells held (OverLimit word) Misused is may
  checks_agree conf script held (OverLimit word) (OverLimit other) is may = plays_agree conf script true usual_cells held (OverLimit word) (OverLimit other) is may
  checks_agree conf script held (OverLimit word) (Refused m d j) is may = plays_agree conf script true usual_cells held (OverLimit word) (Refused m d j) is may
  checks_agree conf script held (OverLimit word) (BadLine m j) is may = plays_agree conf script true usual_cells held (OverLimit word) (BadLine m j) is may
  checks_agree conf script held (OverLimit word) Accepted is may = absurd (played_or (OverLimit word) may.0 may.1 may.2 tt (plays_agree conf script true usual_cells held (OverLimit word) (Played may.0 may.1 may.2) is may.3))
  checks_agree conf script held (OverLimit word) (Played setup actors phases) is may = absurd may
  checks_agree conf script held (Refused l c k) Misused is may = plays_agree conf script true usual_cells held (Refused l c k) Misused is may
  checks_agree conf script held (Refused l c k) (OverLimit other) is may = plays_agree conf script true usual_cells held (Refused l c k) (OverLimit other) is may
  checks_agree conf script held (Refused l c k) (Refused m d j) is may = plays_agree conf script true usual_cells held (Refused l c k) (Refused m d j) is may
  checks_agree conf script held (Refused l c k) (BadLine m j) is may = plays_agree conf script true usual_cells held (Refused l c k) (BadLine m j) is may
  checks_agree conf script held (Refused l c k) Accepted is may = absurd (played_or (Refused l c k) may.0 may.1 may.2 tt (plays_agree conf script true usual_cells held (Refused l c k) (Played may.0 may.1 may.2) is may.3))
  checks_agree conf script held (Refused l c k) (Played setup actors phases) is may = absurd may
  checks_agree conf script held (BadLine n k) Misused is may = plays_agree conf script true usual_cells held (BadLine n k) Misused is may
  checks_agree conf script held (BadLine n k) (OverLimit other) is may = plays_agree conf script true usual_cells held (BadLine n k) (OverLimit other) is may
  checks_agree conf script held (BadLine n k) (Refused m d j) is may = plays_agree conf script true usual_cells held (BadLine n k) (Refused m d j) is may
  checks_agree conf script held (BadLine n k) (BadLine m j) is may = plays_agree conf script true usual_cells held (BadLine n k) (BadLine m j) is may
  checks_agree conf script held (BadLine n k) Accepted is may = absurd (played_or (BadLine n k) may.0 may.1 may.2 tt (plays_agree conf script true usual_cells held (BadLine n k) (Played may.0 may.1 may.2) is may.3))
  checks_agree conf script held (BadLine n k) (Played setup actors phases) is may = absurd may
  checks_agree conf script held Accepted Misused is may = absurd (played_or Misused is.0 is.1 is.2 tt (sym (plays_agree conf script true usual_cells held (Played is.0 is.1 is.2) Misused is.3 may)))
  checks_agree conf script held Accepted (OverLimit other) is may = absurd (played_or (OverLimit other) is.0 is.1 is.2 tt (sym (plays_agree conf script true usual_cells held (Played is.0 is.1 is.2) (OverLimit other) is.3 may)))
  checks_agree conf script held Accepted (Refused m d j) is may = absurd (played_or (Refused m d j) is.0 is.1 is.2 tt (sym (plays_agree conf script true usual_cells held (Played is.0 is.1 is.2) (Refused m d j) is.3 may)))
  checks_agree conf script held Accepted (BadLine m j) is may = absurd (played_or (BadLine m j) is.0 is.1 is.2 tt (sym (plays_agree conf script true usual_cells held (Played is.0 is.1 is.2) (BadLine m j) is.3 may)))
  checks_agree conf script held Accepted Accepted is may = refl
  checks_agree conf script held Accepted (Played setup actors phases) is may = absurd may
  checks_agree conf script held (Played setup actors phases) p is may = absurd is

  -- two outcomes of a configuration that is checked alone
  alone_told : (name file : List ℕ) (o p : Outcome) → CheckGives IsSomeAnd name (Some file) o → CheckGives IfSome name (Some file) p → p ≡ o
  alone_told name file (OverLimit word) (OverLimit other) is may = conf_once name file (OverLimit word) (OverLimit other) is may
  alone_told name file (OverLimit word) (Refused m d j) is may = conf_once name file (OverLimit word) (Refused m d j) is may
  alone_told name file (OverLimit word) Accepted is may = absurd (accepted_goes_on name file may.0 (OverLimit word) may.1 (as_told name file (OverLimit word) is))
  alone_told name file (OverLimit word) Misused is may = absurd may
  alone_told name file (OverLimit word) (BadLine m j) is may = absurd may
  alone_told name file (OverLimit word) (Played setup actors phases) is may = absurd may
  alone_told name file (Refused l c k) (OverLimit other) is may = conf_once name file (Refused l c k) (OverLimit other) is may
  alone_told name file (Refused l c k) (Refused m d j) is may = conf_once name file (Refused l c k) (Refused m d j) is may
  alone_told name file (Refused l c k) Accepted is may = absurd (accepted_goes_on name file may.0 (Refused l c k) may.1 (as_told name file (Refused l c k) is))
  alone_told name file (Refused l c k) Misused is may = absurd may
  alone_told name file (Refused l c k) (BadLine m j) is may = absurd may
  alone_told name file (Refused l c k) (Played setup actors phases) is may = absurd may
  alone_told name file Accepted (OverLimit other) is may = absurd (accepted_goes_on name file is.0 (OverLimit other) is.1 may)
  alone_told name file Accepted (Refused m d j) is may = absurd (accepted_goes_on name file is.0 (Refused m d j) is.1 may)
  alone_told name file Accepted Accepted is may = refl
  alone_told name file Accepted Misused is may = absurd may
  alone_told name file Accepted (BadLine m j) is may = absurd may
  alone_told name file Accepted (Played setup actors phases) is may = absurd may
  alone_told name file Misused p is may = absurd is
  alone_told name file (BadLine n k) p is may = absurd is
  alone_told name file (Played setup actors phases) p is may = absurd is

  no_alone : (name : List ℕ) (o : Outcome) → CheckGives IsSomeAnd name None o → ⊥
  no_alone name Accepted is = is
  no_alone name (OverLimit word) is = is.1
  no_alone name (Refused l c k) is = is
  no_alone name Misused is = is
  no_alone name (BadLine n k) is = is
  no_alone name (Played setup actors phases) is = is

  alone_agree : (name : List ℕ) (conf : Option (List ℕ)) (o p : Outcome) → CheckGives IsSomeAnd name conf o → CheckGives IfSome name conf p → p ≡ o
  alone_agree name None o p is may = absurd (no_alone name o is)
  alone_agree name (Some file) o p is may = alone_told name file o p is may

  -- What may be due is what is required.
  pub one_outcome : (command : Option Command) (held : Held) (o p : Outcome) → IsRequired command held o → IsPossible command held p → p ≡ o
  one_outcome None held o p is may = may ∙ sym is
  one_outcome (Some (Play conf script cells form)) held o p is may = plays_agree conf script true cells held o p is may
  one_outcome (Some (Run conf script cells form)) held o p is may = plays_agree conf script false cells held o p is may
  one_outcome (Some (Check conf None)) held o p is may = alone_agree conf (held conf) o p is may
  one_outcome (Some (Check conf (Some script))) held o p is may = checks_agree conf script held o p is may
