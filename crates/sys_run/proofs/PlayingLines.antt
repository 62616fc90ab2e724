-- Lines, one after another.
use Rattle.std.proofs.Common.{◌≡◌, List, [], ◌∷◌, ◌++◌, length, map, reverse, Some, refl, sym, ap, subst, ◌∙◌}
use Rattle.std.proofs.lemmas.List.{map-append, reverse-append}
use Rattle.std.specs.Prelude.{slice_get}
use Rattle.std.specs.List.{All}
use Rattle.std.proofs.lemmas.Option.{get_or_from_slice_get, slice_get_within}
use Rattle.core_machine.specs.Machine.{Plays, State, Steps}
use Rattle.core_machine.specs.Rules.{Rules}
use Rattle.script_lines.specs.declared.script.Line.{Line}
use Rattle.show_route.specs.declared.query.Query.{Query}
use Rattle.sys_run.specs.Scripts.{line_of, phase_of}

phase_more : (queries : List Query) (lines : List Line) (line : Line) → phase_of queries (lines ++ line ∷ []) ≡ line_of queries line ∷ phase_of queries lines
phase_more queries lines line = ap reverse (map-append (line_of queries) lines (line ∷ [])) ∙ reverse-append (map (line_of queries) lines) (line_of queries line ∷ [])

pub plays_line : (rules : Rules) (queries : List Query) (lines : List Line) (line : Line) (s t u : State) → Plays rules (phase_of queries lines) s t → Steps rules (line_of queries line) t u
    → Plays rules (phase_of queries (lines ++ line ∷ [])) s u
plays_line rules queries lines line s t u plays steps = subst (λ l. Plays rules l s u) (sym (phase_more queries lines line)) (t, plays, steps)

-- what holds of all lines holds of each
pub at_length : {X : Type 0} (xs : List X) (x : X) (ys : List X) → slice_get (xs ++ x ∷ ys) (length xs) ≡ Some x
at_length [] x ys = refl
at_length (y ∷ xs) x ys = at_length xs x ys

pub line_among : {X : Type 0} (P : X → Type 0) (xs : List X) (x : X) (ys : List X) → All P (xs ++ x ∷ ys) → P x
line_among P xs x ys all =
    let here = at_length xs x ys in
    subst P (get_or_from_slice_get (xs ++ x ∷ ys) (length xs) x x here) (all (length xs) x (slice_get_within (xs ++ x ∷ ys) (length xs) x here))
