-- An actor goes through the lines of a phase.
use Rattle.std.proofs.Common.{◌≡◌, ℕ, zero, suc, ◌+◌, ◌≤◌, List, [], ◌∷◌, length, map, reverse, take, Some, refl, sym, ap, subst, ◌∙◌, arith}
use Rattle.std.specs.Prelude.{slice_get}
use Rattle.std.proofs.lemmas.List.{length-map, length-reverse, reverse-append}
use Rattle.std.proofs.lemmas.Option.{slice_get_within}
use Rattle.core_machine.specs.Lines as machine
use Rattle.core_setup.specs.Setup.{Setup}
use Rattle.script_lines.specs.declared.script.Line.{Line}
use Rattle.show_route.specs.declared.query.Query.{Query}
use Rattle.sys_run.specs.Scripts.{line_of}
use Rattle.phase_legal.specs.Shown.{Room}
use Rattle.phase_legal.specs.Turns.{line_at}
use Rattle.phase_actors.specs.Acting.{IsDoing}
use Rattle.phase_actors.specs.Steps.{Does}
use Rattle.phase_actors.specs.declared.actor.Actor.{Actor}
use Rattle.phase_actors.proofs.Places.{get_map, length_take, take_more}

take_whole : {X : Type 0} (xs : List X) (n : ℕ) → length xs ≤ n → take n xs ≡ xs
take_whole [] zero w = refl
take_whole [] (suc n) w = refl
take_whole (x ∷ xs) zero w = absurd (omega (arith, w))
take_whole (x ∷ xs) (suc n) w = ap (λ z. x ∷ z) (take_whole xs n (omega (arith, w)))

module _ (queries : List Query) (lines : List Line) (all : List machine.Line) (are : all ≡ map (line_of queries) lines) where
  line_there : (index : ℕ) (line : Line) → slice_get lines index ≡ Some line → slice_get all index ≡ Some (line_of queries line)
  line_there index line at = ap (λ z. slice_get z index) are ∙ get_map (line_of queries) lines index line at

  same_length : length all ≡ length lines
  same_length = ap length are ∙ length-map lines (line_of queries)

  pub line_here : (index : ℕ) (line : Line) → slice_get lines index ≡ Some line → line_at all (index + 1) ≡ Some (line_of queries line)
  line_here index line at = let next : index + 1 ≡ suc index = omega arith in ap (line_at all) next ∙ line_there index line at

  module _ (setup : Setup) (room : Room) where
    pub goes_on : (index : ℕ) (line : Line) (old new : Actor) → slice_get lines index ≡ Some line → Does setup room (index + 1) (line_of queries line) old new
        → IsDoing setup room (reverse (take index all)) old → IsDoing setup room (reverse (take (index + 1) all)) new
    goes_on index line old new at does doing =
        let back : reverse (take (index + 1) all) ≡ line_of queries line ∷ reverse (take index all) =
        ap reverse (take_more all index (line_of queries line) (line_there index line at)) ∙ reverse-append (take index all) (line_of queries line ∷ []) in
        let many : suc (length (reverse (take index all))) ≡ index + 1 =
        (let a = length-reverse (take index all) in
        let b = length_take all index (let w = slice_get_within lines index line at in let s = same_length in omega (arith, w, s)) in omega (arith, a, b)) in
        subst (λ z. IsDoing setup room z new) (sym back) (does (reverse (take index all)) many doing)

    pub ends : (index : ℕ) (actor : Actor) → length lines ≤ index → IsDoing setup room (reverse (take index all)) actor → IsDoing setup room (reverse all) actor
    ends index actor most doing = subst (λ z. IsDoing setup room (reverse z) actor) (take_whole all index (let s = same_length in omega (arith, most, s))) doing
