-- What is written of a play or a run, phase by phase.
use Rattle.std.proofs.Common.{◌≡◌, ℕ, ◌<◌, ◌≤◌, ◌+◌, ◌^◌, arith, inl, inr, List, [], ◌∷◌, ◌++◌, length, take, drop, map, Option, refl, sym, ◌∙◌, ap, subst, append_assoc, append-nil, take-append-drop}
use Rattle.std.proofs.KnownBytes.{Appends-nil}
use Rattle.std.proofs.Math.Seq.{take-append_seam}
use Rattle.std.proofs.lemmas.Grind.{flat_map-append}
use Rattle.std.proofs.lemmas.List.{length-append, length-map, map-append}
use Rattle.std.proofs.lemmas.List.Elements.{All-head, All-tail}
use Rattle.std.specs.Prelude.{◌⊎◌, Result, Ok, Err, IfErr, IsErrAnd, codes}
use Rattle.std.specs.Io.KnownBytes.{Appends, Keeps}
use Rattle.std.specs.List.{All, flat_map}
use Rattle.attrs.specs.declared.judge.Verdict.{Verdict}
use Rattle.attrs.specs.declared.route.Route.{Route}
use Rattle.bits_ip.specs.Prefix.{Net}
use Rattle.core_machine.specs.Legal.{Joined, Printed, join, nothing}
use Rattle.core_machine.specs.Lines.{Act, Line as MachineLine}
use Rattle.core_machine.specs.Machine.{State}
use Rattle.core_machine.specs.Phases.{PlaysAll}
use Rattle.core_machine.specs.Rules.{Rules}
use Rattle.core_setup.specs.Plays.{IsLegalPlay}
use Rattle.core_setup.specs.Protocols.{rules_of, starts}
use Rattle.core_setup.specs.Setup.{Setup}
use Rattle.outside_io.proofs.Blocks.{appends_kept, appends_more}
use Rattle.outside_io.specs.Faults.{Rose}
use Rattle.outside_io.specs.Whole.{WritesFront}
use Rattle.report.specs.Report.{report_text, text_in}
use Rattle.report.specs.declared.phase.Form.{Form}
use Rattle.report.specs.declared.phase.PhaseReport.{PhaseReport}
use Rattle.script_lines.specs.declared.script.Line.{Line}
use Rattle.sys_run.specs.Playing.{PlaysTo}
use Rattle.sys_run.specs.Scripts.{phase_of}
use Rattle.sys_run.specs.declared.player.Core.{Core}
use Rattle.sys_threads.specs.declared.runner.Runner.{Runner}
use Rattle.phases_out.specs.Inside.{CutsOff, HasWritten, PlayedBy, RunBy}
use Rattle.phases_out.specs.Written.{ArePlayed, AreRun, Ends, HasBegun, HasPlayed, text_so_far}
use Rattle.phases_out.specs.declared.ending.Ending.{Ending}
use Rattle.phases_out.specs.declared.ending.Ending.TheVariants.{OutOfMemory, SinkFailed, Written}

-- ---- texts

-- a front of a text
is_front : (a c : Option (List ℕ)) (front back text : List ℕ) → text ≡ front ++ back → Appends a c front → WritesFront a c text
is_front a c front back text whole appends =
    (length front, subst (λ (l : List ℕ). Appends a c l) (sym (ap (λ (l : List ℕ). take (length front) l) whole ∙ take-append_seam front back)) appends)

joined : (xs ys zs : List ℕ) (n : ℕ) → xs ++ ys ++ zs ≡ (xs ++ take n ys) ++ (drop n ys ++ zs)
joined xs ys zs n =
    append_assoc xs ys zs
    ∙ ap (λ (l : List ℕ). xs ++ l) (ap (λ (l : List ℕ). l ++ zs) (sym (take-append-drop n ys)) ∙ append_assoc (take n ys) (drop n ys) zs)
    ∙ sym (append_assoc xs (take n ys) (drop n ys ++ zs))

-- a text, and a front of a second one, before a third
pub front_more : (a b c : Option (List ℕ)) (xs ys zs : List ℕ) → Appends a b xs → WritesFront b c ys → WritesFront a c (xs ++ ys ++ zs)
front_more a b c xs ys zs whole front =
    is_front a c (xs ++ take front.0 ys) (drop front.0 ys ++ zs) (xs ++ ys ++ zs) (joined xs ys zs front.0) (appends_more a b c xs (take front.0 ys) whole front.1)

-- the same with no third one
pub front_last : (a b c : Option (List ℕ)) (xs ys : List ℕ) → Appends a b xs → WritesFront b c ys → WritesFront a c (xs ++ ys)
front_last a b c xs ys whole front = subst (λ (l : List ℕ). WritesFront a c l) (append-nil (xs ++ ys)) (front_more a b c xs ys [] whole front)

-- the text of a report more
more_text : (form : Form) (reports : List PhaseReport) (report : PhaseReport) → flat_map (text_in form) (reports ++ report ∷ []) ≡ flat_map (text_in form) reports ++ text_in form report
more_text form reports report =
    flat_map-append (text_in form) reports (report ∷ []) ∙ ap (λ (l : List ℕ). flat_map (text_in form) reports ++ l) (append-nil (text_in form report))

-- the texts of what is written, and a front of the text of a phase more
so_far : (form : Form) (a b c : Option (List ℕ)) (reports : List PhaseReport) (report : PhaseReport) (more : List (List Line)) → Appends a b (flat_map (text_in form) reports) → WritesFront b c (text_in form report)
    → WritesFront a c (text_so_far form more (reports ++ report ∷ []))
so_far form a b c reports report [] before text =
    subst (λ (l : List ℕ). WritesFront a c (l ++ codes "end\n")) (sym (more_text form reports report)) (front_more a b c (flat_map (text_in form) reports) (text_in form report) (codes "end\n") before text)
so_far form a b c reports report (phase ∷ more) before text =
    subst (λ (l : List ℕ). WritesFront a c l) (sym (more_text form reports report)) (front_last a b c (flat_map (text_in form) reports) (text_in form report) before text)

-- ---- phases

-- what holds of each phase holds of the next
next_of : {A : Type 0} (P : A → Type 0) (front : List A) (x : A) (back : List A) → All P (front ++ x ∷ back) → P x
next_of P [] x back all = All-head P x back all
next_of P (y ∷ front) x back all = next_of P front x back (All-tail P y (front ++ x ∷ back) all)

pub asked_next : {A B : Type 0} (P : B → Type 0) (f : A → B) (front : List A) (x : A) (back whole : List A) → front ++ x ∷ back ≡ whole → All P (map f whole) → P (f x)
asked_next P f front x back whole is all = next_of P (map f front) (f x) (map f back) (subst (All P) (ap (λ l. map f l) (sym is) ∙ map-append f front (x ∷ back)) all)

-- what is done and what is left
pub split : {A B : Type 0} (f : A → B) (done rest all : List A) → done ++ rest ≡ all → map f all ≡ map f done ++ map f rest
split f done rest all whole = ap (λ l. map f l) (sym whole) ∙ map-append f done rest

-- what is done with one more, and what is left behind it
pub split_behind : {A B : Type 0} (f : A → B) (done : List A) (x : A) (rest all : List A) → done ++ x ∷ rest ≡ all → map f all ≡ map f done ++ f x ∷ [] ++ map f rest
split_behind f done x rest all whole = split f done (x ∷ rest) all whole ∙ sym (append_assoc (map f done) (f x ∷ []) (map f rest))

-- A list in memory has fewer than 2 ^ 63 items.
pub few_so_far : {A B C : Type 0} (h : B → C) (f : A → B) (front back whole : List A) → front ++ back ≡ whole → length whole < 2 ^ 63 → length (map h (map f front)) + 1 < 2 ^ 64
few_so_far h f front back whole is few =
    omega (arith, few, ap (λ l. length l) is, length-append front back, length-map (map f front) h, length-map front f)

plays_all : (rules : Rules) (acts : List Act) (past : Joined) (s : State) (scripts : List (List MachineLine)) (printed : List Printed) (t : State) → PlaysTo rules acts past s scripts printed t
    → PlaysAll rules acts past s scripts printed
plays_all rules acts past s [] [] t is = tt
plays_all rules acts past s [] (p ∷ printed) t is = is
plays_all rules acts past s (lines ∷ more) [] t is = is
plays_all rules acts past s (lines ∷ more) (p ∷ printed) t is = (is.0, is.1, is.2, plays_all rules [] (join past p) is.0 more printed t is.3)

module _ {J : Type 0} (verdict : J → Net → Route → Verdict) (setup : Setup) (actors : List (List ℕ)) where
  -- what a core has played is a play
  pub is_play : (now : Core J) (phases : List (List Line)) (reports : List PhaseReport) → PlayedBy verdict setup actors now (map (phase_of setup.queries) phases) reports → ArePlayed setup actors phases reports
  is_play now phases reports is = record {
    printed = is.printed;
    plays = plays_all (rules_of setup) (starts setup) nothing _ (map (phase_of setup.queries) phases) is.printed is.state is.plays;
    are = is.are;
  }

  -- what a runner has run is legal
  pub is_run : (now : Runner J) (scripts : List (List MachineLine)) (reports : List PhaseReport) → RunBy verdict setup actors now scripts reports → IsLegalPlay setup actors scripts reports
  is_run now scripts reports is = record { printed = is.printed; legal = is.legal; are = is.are }

module _ (setup : Setup) (form : Form) where
  -- no phase is done
  pub nothing_yet : (Has : List (List MachineLine) → List PhaseReport → Type 0) (a : Option (List ℕ)) → Has [] [] → HasWritten Has setup [] form a a
  nothing_yet Has a is = record { reports = []; played = is; written = Appends-nil a }

  -- what is written of what has been done so, said in other words
  pub written_so : (Has Others : List (List MachineLine) → List PhaseReport → Type 0) → ((scripts : List (List MachineLine)) (reports : List PhaseReport) → Has scripts reports → Others scripts reports)
      → (phases : List (List Line)) (a b : Option (List ℕ)) → HasWritten Has setup phases form a b → HasWritten Others setup phases form a b
  written_so Has Others law phases a b is = record { reports = is.reports; played = law _ is.reports is.played; written = is.written }

  module _ (Has Next : List (List MachineLine) → List PhaseReport → Type 0) (phases : List (List Line)) (lines : List Line) (report : PhaseReport) (a b c : Option (List ℕ)) (written : HasWritten Has setup phases form a b)
      (played : Next (map (phase_of setup.queries) phases ++ phase_of setup.queries lines ∷ []) (written.reports ++ report ∷ [])) where
    one_more : Next (map (phase_of setup.queries) (phases ++ lines ∷ [])) (written.reports ++ report ∷ [])
    one_more = subst (λ (l : List (List MachineLine)). Next l (written.reports ++ report ∷ [])) (sym (map-append (phase_of setup.queries) phases (lines ∷ []))) played

    -- a phase more is done
    pub phase_more : Appends b c (text_in form report) → HasWritten Next setup (phases ++ lines ∷ []) form a c
    phase_more text = record {
      reports = written.reports ++ report ∷ [];
      played = one_more;
      written = subst (λ (l : List ℕ). Appends a c l) (sym (more_text form written.reports report)) (appends_more a b c (flat_map (text_in form) written.reports) (text_in form report) written.written text);
    }

    -- the sink failed in the report of a phase
    pub cut_in_phase : (Are : List (List Line) → List PhaseReport → Type 0) → ((done : List (List Line)) (reports : List PhaseReport) → Next (map (phase_of setup.queries) done) reports → Are done reports)
        → (all more : List (List Line)) → all ≡ (phases ++ lines ∷ []) ++ more → WritesFront b c (text_in form report) → HasBegun Are all (λ left reports. WritesFront a c (text_so_far form left reports))
    cut_in_phase Are law all more whole text = record {
      first = phases ++ lines ∷ [];
      more = more;
      reports = written.reports ++ report ∷ [];
      whole = whole;
      played = law (phases ++ lines ∷ []) (written.reports ++ report ∷ []) one_more;
      said = so_far form a b c written.reports report more written.written text;
    }

  module _ (Has : List (List MachineLine) → List PhaseReport → Type 0) (Are : List (List Line) → List PhaseReport → Type 0)
      (law : (done : List (List Line)) (reports : List PhaseReport) → Has (map (phase_of setup.queries) done) reports → Are done reports) (phases : List (List Line)) (a b c : Option (List ℕ))
      (written : HasWritten Has setup phases form a b) where
    -- nothing more is written
    pub cut_between : (all more : List (List Line)) → all ≡ phases ++ more → Keeps b c → HasBegun Are all (λ left reports. Appends a c (flat_map (text_in form) reports))
    cut_between all more whole kept = record {
      first = phases;
      more = more;
      reports = written.reports;
      whole = whole;
      played = law phases written.reports written.played;
      said = appends_kept a b c (flat_map (text_in form) written.reports) written.written kept;
    }

    -- all is written
    pub all_written : Appends b c (codes "end\n") → HasPlayed Are phases (λ reports. Appends a c (report_text form reports))
    all_written text = record {
      reports = written.reports;
      played = law phases written.reports written.played;
      said = appends_more a b c (flat_map (text_in form) written.reports) (codes "end\n") written.written text;
    }

    -- the sink failed in the last line
    pub cut_at_end : WritesFront b c (codes "end\n") → HasBegun Are phases (λ left reports. WritesFront a c (text_so_far form left reports))
    cut_at_end text = record {
      first = phases;
      more = [];
      reports = written.reports;
      whole = sym (append-nil phases);
      played = law phases written.reports written.played;
      said = front_last a b c (flat_map (text_in form) written.reports) (codes "end\n") written.written text;
    }

-- no phase is played or run
module _ (setup : Setup) (actors : List (List ℕ)) where
  pub none_played : ArePlayed setup actors [] []
  none_played = record { printed = []; plays = tt; are = tt }

  pub none_run : AreRun setup actors [] []
  none_run = record { printed = []; legal = tt; are = tt }

-- ---- how it ends

pub rose_since : (before between now : ℕ) → before ≤ between → Rose between now → Rose before now
rose_since before between now later rose = grind (arith, later, rose)

-- what an error owes that is made of another one
pub made_of : {T E : Type 0} (P : E → Type 0) (result : Result T E) (made : E) → IsErrAnd result (λ e. e ≡ made) → P made → IfErr result P
made_of P (Ok x) made is owes = tt
made_of P (Err e) made is owes = subst P (sym is) owes

-- nothing is done, nothing is written
module _ (Are : List (List Line) → List PhaseReport → Type 0) (none : Are [] []) (phases : List (List Line)) (form : Form) (a : Option (List ℕ)) where
  pub not_begun : HasBegun Are phases (λ left reports. Appends a a (flat_map (text_in form) reports))
  not_begun = record {
    first = [];
    more = phases;
    reports = [];
    whole = refl;
    played = none;
    said = Appends-nil a;
  }

  -- memory was wanted before anything was written
  pub ends_before : (faults : ℕ) → Ends Are phases form a a faults faults OutOfMemory
  ends_before faults = record {
    report = λ is. absurd (cc);
    front = λ is. absurd (cc);
    begun = λ is. not_begun;
    write = λ is. absurd (cc);
  }

module _ (Are : List (List Line) → List PhaseReport → Type 0) (phases : List (List Line)) (form : Form) (a c : Option (List ℕ)) (before after : ℕ) (ending : Ending) where
  -- it is cut off behind the first phases
  pub ends_cut : CutsOff ending → (ending ≡ SinkFailed → HasBegun Are phases (λ more reports. WritesFront a c (text_so_far form more reports)))
      → (ending ≡ OutOfMemory → HasBegun Are phases (λ more reports. Appends a c (flat_map (text_in form) reports)))
      → (between : ℕ) → before ≤ between → (ending ≡ SinkFailed → Rose between after) → Ends Are phases form a c before after ending
  ends_cut cut front begun between later write = record {
    report = λ is. absurd (never cut is);
    front = front;
    begun = begun;
    write = λ is. rose_since before between after later (write is);
  }
    where
      never : CutsOff ending → ending ≡ Written → ⊥
      never (inl is) other = cc
      never (inr is) other = cc

  -- all phases are done, and the last line is written or not
  pub ends_whole : (setup : Setup) (Has : List (List MachineLine) → List PhaseReport → Type 0)
      → ((done : List (List Line)) (reports : List PhaseReport) → Has (map (phase_of setup.queries) done) reports → Are done reports)
      → (b : Option (List ℕ)) → HasWritten Has setup phases form a b → (between : ℕ) → before ≤ between → (ending ≡ Written) ⊎ (ending ≡ SinkFailed)
      → (ending ≡ Written → Appends b c (codes "end\n")) → (ending ≡ SinkFailed → WritesFront b c (codes "end\n")) → (ending ≡ SinkFailed → Rose between after) → Ends Are phases form a c before after ending
  ends_whole setup Has law b written between later end whole front rose = record {
    report = λ is. all_written setup form Has Are law phases a b c written (whole is);
    front = λ is. cut_at_end setup form Has Are law phases a b c written (front is);
    begun = λ is. absurd (never end is);
    write = λ is. rose_since before between after later (rose is);
  }
    where
      never : (ending ≡ Written) ⊎ (ending ≡ SinkFailed) → ending ≡ OutOfMemory → ⊥
      never (inl is) other = cc
      never (inr is) other = cc

  -- the same by what else the reports are
  pub ends_so : (Others : List (List Line) → List PhaseReport → Type 0) → ((done : List (List Line)) (reports : List PhaseReport) → Are done reports → Others done reports)
      → Ends Are phases form a c before after ending → Ends Others phases form a c before after ending
  ends_so Others law ends = record {
    report = λ is. played_so (ends.report is);
    front = λ is. begun_so (ends.front is);
    begun = λ is. begun_so (ends.begun is);
    write = ends.write;
  }
    where
      played_so : {P : List PhaseReport → Type 0} → HasPlayed Are phases P → HasPlayed Others phases P
      played_so is = record { reports = is.reports; played = law phases is.reports is.played; said = is.said }

      begun_so : {P : List (List Line) → List PhaseReport → Type 0} → HasBegun Are phases P → HasBegun Others phases P
      begun_so is = record {
        first = is.first;
        more = is.more;
        reports = is.reports;
        whole = is.whole;
        played = law is.first is.reports is.played;
        said = is.said;
      }
