-- One more phase behind those that were played.
use Rattle.std.proofs.Common.{◌≡◌, ℕ, suc, ◌+◌, ◌≤◌, List, [], ◌∷◌, ◌++◌, length, refl, sym, ap, subst, ◌∙◌, arith}
use Rattle.std.specs.Prelude.{slice_get, Some}
use Rattle.std.specs.declared.alloc.Global.{Global}
use Rattle.std.specs.declared.vec.Vec.{Vec}
use Rattle.bits_ip.specs.Prefix.{Net}
use Rattle.attrs.specs.declared.judge.Verdict.{Verdict}
use Rattle.attrs.specs.declared.route.Route.{Route}
use Rattle.core_machine.specs.Channels.{times}
use Rattle.core_machine.specs.Legal.{Joined, Printed, join, nothing}
use Rattle.core_machine.specs.Lines.{Act, Line}
use Rattle.core_machine.specs.Machine.{Begins, Plays, State, start}
use Rattle.core_machine.specs.Phases.{Comes, IsPhase, PlaysAll, Prints}
use Rattle.core_machine.specs.Rounds.{HasRounds, round}
use Rattle.core_machine.specs.Rules.{IsRules, Rules}
use Rattle.core_setup.specs.Pairs.{Pairs}
use Rattle.core_setup.specs.Plays.{IsPlay}
use Rattle.core_setup.specs.Protocols.{rules_of, starts}
use Rattle.core_setup.specs.Reports.{AreReports, IsReport}
use Rattle.core_setup.specs.Setup.{Setup}
use Rattle.report.specs.declared.phase.PhaseReport.{PhaseReport}
use Rattle.sys_run.specs.Cores.{Ends, IsAnswered, IsCore}
use Rattle.sys_run.specs.Playing.{HasPlayed, PlaysTo, Rests, joined_all, silent, starts_in}
use Rattle.sys_run.specs.declared.player.Answered.{Answered}
use Rattle.sys_run.specs.declared.player.Core.{Core}

-- what begins a phase behind these scripts
abbrev pub first_of : List (List Line) → List Act → List Act
first_of [] first = first
first_of (lines ∷ more) first = []

first_none : (scripts : List (List Line)) → [] ≡ first_of scripts []
first_none [] = refl
first_none (lines ∷ more) = refl

starts_are : (setup : Setup) (scripts : List (List Line)) → starts_in setup (length scripts) ≡ first_of scripts (starts setup)
starts_are setup [] = refl
starts_are setup (lines ∷ more) = refl

joined_more : (past : Joined) (printed : List Printed) (p : Printed) → joined_all past (printed ++ p ∷ []) ≡ join (joined_all past printed) p
joined_more past [] p = refl
joined_more past (q ∷ printed) p = joined_more (join past q) printed p

length_more : {A : Type 0} (xs : List A) (x : A) → length xs + 1 ≡ length (xs ++ x ∷ [])
length_more [] x = refl
length_more (y ∷ xs) x = let h = length_more xs x in omega (arith, h)

plays_more : (rules : Rules) (first : List Act) (past : Joined) (s t u : State) (scripts : List (List Line)) (printed : List Printed) (lines : List Line) (p : Printed)
    → PlaysTo rules first past s scripts printed t → IsPhase rules (first_of scripts first) lines t u → Prints rules (joined_all past printed) u p
    → PlaysTo rules first past s (scripts ++ lines ∷ []) (printed ++ p ∷ []) u
plays_more rules first past s t u [] [] lines p e phase is =
    (u, subst (λ x. IsPhase rules first lines x u) e phase, is, refl)
plays_more rules first past s t u [] (q ∷ printed) lines p bad phase is = absurd bad
plays_more rules first past s t u (l ∷ scripts) [] lines p bad phase is = absurd bad
plays_more rules first past s t u (l ∷ scripts) (q ∷ printed) lines p plays phase is =
    (plays.0, plays.1, plays.2, plays_more rules [] (join past q) plays.0 t u scripts printed lines p plays.3 (subst (λ acts. IsPhase rules acts lines t u) (first_none scripts) phase) is)

reports_more : (setup : Setup) (actors : List (List ℕ)) (rules : Rules) (first : List Act) (past : Joined) (s t : State) (n : ℕ) (scripts : List (List Line)) (printed : List Printed) (reports : List PhaseReport) (p : Printed) (r : PhaseReport)
    → PlaysTo rules first past s scripts printed t → AreReports setup actors n past printed reports → IsReport setup actors (n + length scripts) (joined_all past printed) p r
    → AreReports setup actors n past (printed ++ p ∷ []) (reports ++ r ∷ [])
reports_more setup actors rules first past s t n [] [] [] p r e are is =
    (subst (λ m. IsReport setup actors m past p r) (let z : n + 0 ≡ n = omega arith in z) is, tt)
reports_more setup actors rules first past s t n [] [] (y ∷ reports) p r e are is = absurd are
reports_more setup actors rules first past s t n [] (q ∷ printed) reports p r bad are is = absurd bad
reports_more setup actors rules first past s t n (l ∷ scripts) [] reports p r bad are is = absurd bad
reports_more setup actors rules first past s t n (l ∷ scripts) (q ∷ printed) [] p r plays are is = absurd are
reports_more setup actors rules first past s t n (l ∷ scripts) (q ∷ printed) (y ∷ reports) p r plays are is = (
  are.0,
  reports_more setup actors rules [] (join past q) plays.0 t (n + 1) scripts printed reports p r plays.3 are.1
      (subst (λ m. IsReport setup actors m (joined_all (join past q) printed) p r) (let z : n + suc (length scripts) ≡ n + 1 + length scripts = omega arith in z) is),
)

plays_all : (rules : Rules) (first : List Act) (past : Joined) (s t : State) (scripts : List (List Line)) (printed : List Printed) → PlaysTo rules first past s scripts printed t → PlaysAll rules first past s scripts printed
plays_all rules first past s t [] [] plays = tt
plays_all rules first past s t [] (p ∷ printed) plays = absurd plays
plays_all rules first past s t (l ∷ scripts) [] plays = absurd plays
plays_all rules first past s t (l ∷ scripts) (p ∷ printed) plays = (plays.0, plays.1, plays.2, plays_all rules [] (join past p) plays.0 t scripts printed plays.3)

-- ---- the state that was played to is one that phases come to

comes_more : (rules : Rules) (first : List Act) (past : Joined) (s t : State) (scripts : List (List Line)) (printed : List Printed) (phases : List (List Act × List Line))
    → Comes rules phases s → PlaysTo rules first past s scripts printed t → (all : List (List Act × List Line)) × Comes rules all t
comes_more rules first past s t [] [] phases comes e = (phases, subst (λ x. Comes rules phases x) (sym e) comes)
comes_more rules first past s t [] (q ∷ printed) phases comes bad = absurd bad
comes_more rules first past s t (l ∷ scripts) [] phases comes bad = absurd bad
comes_more rules first past s t (l ∷ scripts) (q ∷ printed) phases comes plays =
    comes_more rules [] (join past q) plays.0 t scripts printed ((first, l) ∷ phases) (s, comes, plays.1) plays.3

module _ {J : Type 0} (verdict : J → Net → Route → Verdict) where
  pub play_of : (setup : Setup) (actors : List (List ℕ)) (scripts : List (List Line)) (reports : List PhaseReport) (core : Core J) → HasPlayed verdict setup actors scripts reports core → IsPlay setup actors scripts reports
  play_of setup actors scripts reports core played = record {
    printed = played.printed;
    plays = plays_all (rules_of setup) (starts setup) nothing (start (rules_of setup)) played.state scripts played.printed played.plays;
    are = played.are;
  }

  pub comes : (setup : Setup) (actors : List (List ℕ)) (scripts : List (List Line)) (reports : List PhaseReport) (core : Core J) → (played : HasPlayed verdict setup actors scripts reports core)
      → (phases : List (List Act × List Line)) × Comes (rules_of setup) phases played.state
  comes setup actors scripts reports core played = comes_more (rules_of setup) (starts setup) nothing (start (rules_of setup)) played.state scripts played.printed [] refl played.plays

  -- a core whose replies were emptied
  pub unreplied : (setup : Setup) (past : Joined) (s : State) (core : Core J) (replies : Vec (Vec Answered Global) Global)
      → ((a : ℕ) (held : Vec Answered Global) → slice_get replies.items a ≡ Some held → held.items ≡ [])
      → IsCore verdict setup past (silent s) core → IsCore verdict setup past (silent s) (record core { replies = replies })
  unreplied setup past s core replies none are = record {
    routes = are.routes;
    protocols = are.protocols;
    up = are.up;
    histories = are.histories;
    operations = are.operations;
    logs = are.logs;
    replies = λ actor held e. subst (λ (xs : List Answered). Pairs (λ n a r. IsAnswered setup (silent s) a r) 0 xs []) (sym (none actor held e)) tt;
    channels = are.channels;
    tables = are.tables;
    names = are.names;
    choices = are.choices;
    queries = are.queries;
  }

  module _ (setup : Setup) (actors : List (List ℕ)) (scripts : List (List Line)) (reports : List PhaseReport) (old : Core J) (played : HasPlayed verdict setup actors scripts reports old) where
    first : starts_in setup old.phases ≡ first_of scripts (starts setup)
    first = ap (starts_in setup) played.rests.phases_are ∙ starts_are setup scripts

    abbrev pub past : Joined
    past = joined_all nothing played.printed

    -- one phase more
    pub played_more : (new : Core J) (lines : List Line) (b u : State) (rounds : ℕ) (p : Printed) (report : PhaseReport)
        → Begins (rules_of setup) (starts_in setup old.phases) (silent played.state) b → Plays (rules_of setup) lines b u → HasRounds (rules_of setup) u rounds
        → Prints (rules_of setup) past (times rounds (round (rules_of setup)) u) p
        → IsReport setup actors (old.phases + 1) past p report
        → Rests verdict setup (old.phases + 1) (join past p) (times rounds (round (rules_of setup)) u) new
        → HasPlayed verdict setup actors (scripts ++ lines ∷ []) (reports ++ report ∷ []) new
    played_more new lines b u rounds p report begins plays ends prints is rests = record {
      state = times rounds (round (rules_of setup)) u;
      printed = played.printed ++ p ∷ [];
      plays = plays_more (rules_of setup) (starts setup) nothing (start (rules_of setup)) played.state (times rounds (round (rules_of setup)) u) scripts played.printed lines p played.plays
          (record { begun = b; played = u; rounds = rounds; begins = subst (λ acts. Begins (rules_of setup) acts (silent played.state) b) first begins; plays = plays; sync = ends; end = refl }) prints;
      are = reports_more setup actors (rules_of setup) (starts setup) nothing (start (rules_of setup)) played.state 1 scripts played.printed reports p report played.plays played.are
          (subst (λ m. IsReport setup actors m past p report) number is);
      rests = subst (λ (x : Joined). Rests verdict setup (length (scripts ++ lines ∷ [])) x (times rounds (round (rules_of setup)) u) new) (sym (joined_more nothing played.printed p))
          (subst (λ n. Rests verdict setup n (join past p) (times rounds (round (rules_of setup)) u) new) count rests);
    } where
      number : old.phases + 1 ≡ 1 + length scripts
      number = let e = played.rests.phases_are in omega (arith, e)

      count : old.phases + 1 ≡ length (scripts ++ lines ∷ [])
      count = ap (λ n. n + 1) played.rests.phases_are ∙ length_more scripts lines

    -- its sync has few rounds
    pub ends : ((rules : Rules) (phases : List (List Act × List Line)) (starts : List Act) (lines : List Line) (s b u : State) → IsRules rules → Comes rules phases s
        → Begins rules starts (record s { replies = [] }) b → Plays rules lines b u → (rounds : ℕ) × HasRounds rules u rounds)
        → ((rules : Rules) (phases : List (List Act × List Line)) (starts : List Act) (lines : List Line) (s b u : State) (rounds : ℕ) → IsRules rules → Comes rules phases s
        → Begins rules starts (record s { replies = [] }) b → Plays rules lines b u → HasRounds rules u rounds → rounds ≤ rules.tables)
        → (core : Core J) (lines : List Line) (b u : State) → Begins (rules_of setup) (starts_in setup old.phases) (silent played.state) b → Plays (rules_of setup) lines b u
        → IsCore verdict setup past u core → Ends verdict core
    ends some few core lines b u begins plays are =
        let ok = are.routes.rules_are in
        let come = comes setup actors scripts reports old played in
        let got = some (rules_of setup) come.0 (starts_in setup old.phases) lines played.state b u ok come.1 begins plays in
        (setup, past, u, are, got.0, got.1, few (rules_of setup) come.0 (starts_in setup old.phases) lines played.state b u got.0 ok come.1 begins plays got.1)
