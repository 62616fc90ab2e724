-- One phase more behind those that were run.
use Rattle.std.proofs.Common.{◌≡◌, ℕ, zero, suc, ◌+◌, ◌≤◌, List, [], ◌∷◌, ◌++◌, length, map, Option, Some, None, refl, sym, ap, subst, ◌∙◌, arith, append_assoc, append-nil}
use Rattle.std.specs.Prelude.{slice_get}
use Rattle.std.proofs.Math.Path.{fun_ext}
use Rattle.core_machine.specs.Legal.{AreLegal, IsLegal, Joined, Printed, join, nothing, started}
use Rattle.core_machine.specs.Lines.{Act, Line, Turn}
use Rattle.core_machine.specs.Rules.{Rules}
use Rattle.core_setup.specs.Protocols.{rules_of, starts}
use Rattle.core_setup.specs.Reports.{AreReports, IsReport}
use Rattle.core_setup.specs.Setup.{Setup}
use Rattle.report.specs.declared.phase.PhaseReport.{PhaseReport}
use Rattle.show_route.specs.declared.query.Query.{Query}
use Rattle.sys_run.specs.Playing.{joined_all, starts_in}
use Rattle.sys_run.specs.Scripts.{line_of}
use Rattle.phase_answers.specs.declared.lent.Lent.{Lent}
use Rattle.room_ends.specs.declared.ended.MemberEnded.{MemberEnded}
use Rattle.room_ends.specs.declared.ended.MemberEnded.TheVariants.{Own, Pipe}
use Rattle.room_open.specs.declared.standing.Standing.{Standing}
use Rattle.room_whole.specs.Past.{HasPast}
use Rattle.room_ends.specs.Prints.{Prints, PrintsMember}
use Rattle.sys_threads.specs.Playing.{turns_before, turns_in, turns_of}
use Rattle.sys_threads.specs.declared.playing.Earlier.{Earlier}

-- ---- what begins a phase behind these

abbrev first_of : List Printed → List Act → List Act
first_of [] first = first
first_of (p ∷ more) first = []

first_none : (printed : List Printed) → [] ≡ first_of printed []
first_none [] = refl
first_none (p ∷ more) = refl

starts_are : (setup : Setup) (printed : List Printed) → starts_in setup (length printed) ≡ first_of printed (starts setup)
starts_are setup [] = refl
starts_are setup (p ∷ more) = refl

pub length_more : {A : Type 0} (xs : List A) (x : A) → length (xs ++ x ∷ []) ≡ suc (length xs)
length_more [] x = refl
length_more (y ∷ xs) x = ap suc (length_more xs x)

-- no protocol starts in a further phase
pub no_starts : (setup : Setup) (printed : List Printed) (p : Printed) → [] ≡ starts_in setup (length (printed ++ p ∷ []))
no_starts setup printed p = ap (starts_in setup) (sym (length_more printed p))

-- ---- legal phases and their reports

pub joined_more : (past : Joined) (printed : List Printed) (p : Printed) → joined_all past (printed ++ p ∷ []) ≡ join (joined_all past printed) p
joined_more past [] p = refl
joined_more past (q ∷ printed) p = joined_more (join past q) printed p

legal_from : (rules : Rules) (first : List Act) (past : Joined) (scripts : List (List Line)) (printed : List Printed) (lines : List Line) (p : Printed)
    → AreLegal rules first past scripts printed → IsLegal rules (started (first_of printed first)) (joined_all past printed) lines p → AreLegal rules first past (scripts ++ lines ∷ []) (printed ++ p ∷ [])
legal_from rules first past [] [] lines p are is = (is, tt)
legal_from rules first past [] (q ∷ printed) lines p bad is = absurd bad
legal_from rules first past (l ∷ scripts) [] lines p bad is = absurd bad
legal_from rules first past (l ∷ scripts) (q ∷ printed) lines p are is =
    (are.0, legal_from rules [] (join past q) scripts printed lines p are.1 (subst (λ (acts : List Act). IsLegal rules (started acts) (joined_all (join past q) printed) lines p) (first_none printed) is))

pub legal_more : (setup : Setup) (scripts : List (List Line)) (printed : List Printed) (lines : List Line) (p : Printed) (first : List Act)
    → AreLegal (rules_of setup) (starts setup) nothing scripts printed → first ≡ starts_in setup (length printed) → IsLegal (rules_of setup) (started first) (joined_all nothing printed) lines p
    → AreLegal (rules_of setup) (starts setup) nothing (scripts ++ lines ∷ []) (printed ++ p ∷ [])
legal_more setup scripts printed lines p first are same is =
    legal_from (rules_of setup) (starts setup) nothing scripts printed lines p are
    (subst (λ (acts : List Act). IsLegal (rules_of setup) (started acts) (joined_all nothing printed) lines p) (same ∙ starts_are setup printed) is)

reports_from : (setup : Setup) (actors : List (List ℕ)) (past : Joined) (n : ℕ) (printed : List Printed) (reports : List PhaseReport) (p : Printed) (r : PhaseReport)
    → AreReports setup actors n past printed reports → IsReport setup actors (n + length printed) (joined_all past printed) p r → AreReports setup actors n past (printed ++ p ∷ []) (reports ++ r ∷ [])
reports_from setup actors past n [] [] p r are is = (subst (λ m. IsReport setup actors m past p r) (let z : n + 0 ≡ n = omega arith in z) is, tt)
reports_from setup actors past n [] (y ∷ reports) p r bad is = absurd bad
reports_from setup actors past n (q ∷ printed) [] p r bad is = absurd bad
reports_from setup actors past n (q ∷ printed) (y ∷ reports) p r are is = (
  are.0,
  reports_from setup actors (join past q) (n + 1) printed reports p r are.1
      (subst (λ m. IsReport setup actors m (joined_all (join past q) printed) p r) (let z : n + suc (length printed) ≡ n + 1 + length printed = omega arith in z) is),
)

pub reports_more : (setup : Setup) (actors : List (List ℕ)) (number : ℕ) (printed : List Printed) (reports : List PhaseReport) (p : Printed) (r : PhaseReport)
    → AreReports setup actors 1 nothing printed reports → number ≡ length printed + 1 → IsReport setup actors number (joined_all nothing printed) p r
    → AreReports setup actors 1 nothing (printed ++ p ∷ []) (reports ++ r ∷ [])
reports_more setup actors number printed reports p r are same is =
    reports_from setup actors nothing 1 printed reports p r are
    (subst (λ m. IsReport setup actors m (joined_all nothing printed) p r) (let z : number ≡ 1 + length printed = omega (arith, same) in z) is)

-- ---- turns

no_front : {A : Type 0} (xs ys : List A) → xs ++ ys ≡ [] → xs ≡ []
no_front [] ys none = refl
no_front (x ∷ xs) ys none = cc

module _ {J : Type 0} where
  turns_behind : (queries : List Query) (phases : List (Earlier J)) (phase : Earlier J) (i : ℕ) → turns_before queries (phases ++ phase ∷ []) i ≡ turns_in queries phase i ++ turns_before queries phases i
  turns_behind queries [] phase i = sym (append-nil (turns_in queries phase i))
  turns_behind queries (first ∷ more) phase i =
      ap (λ (turns : List Turn). turns ++ turns_in queries first i) (turns_behind queries more phase i)
      ∙ append_assoc (turns_in queries phase i) (turns_before queries more i) (turns_in queries first i)

  member_turns : (setup : Setup) (lines : List Line) (past : Joined) (p : Printed) (i : ℕ) (member : MemberEnded (Lent J)) → PrintsMember setup lines past p i member → turns_of lines (Some member) ≡ p.ops i
  member_turns setup lines past p i (Own session) prints = sym prints.ops.turns
  member_turns setup lines past p i (Pipe pipe) prints = sym prints.ops.turns

  -- what a phase has made tells all that was printed of operations
  turns_printed : (setup : Setup) (past : Joined) (p : Printed) (phase : Earlier J) (after : Standing (Lent J)) → Prints setup (map (line_of setup.queries) phase.lines.value.items) past p phase.made.value
      → HasPast setup (join past p) after → (i : ℕ) → turns_in setup.queries phase i ≡ p.ops i
  turns_printed setup past p phase after prints has i = by (slice_get phase.made.value.ended.members.items i) refl
    where
      far : {X : Type 0} (xs : List X) (k : ℕ) → slice_get xs k ≡ None → length xs ≤ k
      far [] k none = omega arith
      far (x ∷ xs) zero none = cc
      far (x ∷ xs) (suc k) none = let more = far xs k none in omega (arith, more)

      by : (o : Option (MemberEnded (Lent J))) → slice_get phase.made.value.ended.members.items i ≡ o → turns_of (map (line_of setup.queries) phase.lines.value.items) o ≡ p.ops i
      by None none =
          let behind = far phase.made.value.ended.members.items i none in
          let count = prints.members_count in
          sym (no_front (p.ops i) (past.ops i) (has.no_ops i (omega (arith, behind, count))))
      by (Some member) at = member_turns setup (map (line_of setup.queries) phase.lines.value.items) past p i member (prints.members i member at)

  pub turns_more : (setup : Setup) (past : Joined) (p : Printed) (phases : List (Earlier J)) (phase : Earlier J) (after : Standing (Lent J))
      → Prints setup (map (line_of setup.queries) phase.lines.value.items) past p phase.made.value → HasPast setup (join past p) after
      → turns_before setup.queries phases ≡ past.ops → turns_before setup.queries (phases ++ phase ∷ []) ≡ (join past p).ops
  turns_more setup past p phases phase after prints has before = fun_ext at
    where
      at : (i : ℕ) → turns_before setup.queries (phases ++ phase ∷ []) i ≡ p.ops i ++ past.ops i
      at i =
          turns_behind setup.queries phases phase i
          ∙ ap (λ (turns : List Turn). turns ++ turns_before setup.queries phases i) (turns_printed setup past p phase after prints has i)
          ∙ ap (λ (f : ℕ → List Turn). p.ops i ++ f i) before
