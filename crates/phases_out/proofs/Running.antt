-- What is written of a run, phase by phase.
use Rattle.std.proofs.Common.{◌≡◌, ℕ, ◌<◌, ◌≤◌, ◌+◌, ◌^◌, arith, List, [], ◌∷◌, ◌++◌, length, take, drop, map, get_or, refl, sym, ◌∙◌, ap, subst, suc, zero, Vec, take-append-drop}
use Rattle.std.proofs.lemmas.List.{map-append, take_all, take_more}
use Rattle.std.proofs.lemmas.List.Elements.{All-head, All-tail}
use Rattle.std.specs.Global.{Global}
use Rattle.std.specs.List.{All}
use Rattle.std.specs.Prelude.{Result, Ok, Err, IsErrAnd}
use Rattle.core_setup.specs.Setup.{Setup}
use Rattle.script_lines.specs.declared.script.Line.{Line}
use Rattle.sys_run.specs.Scripts.{FitsLine}
use Rattle.sys_threads.specs.Running.{CanPlay, NamesSome}
use Rattle.phases_out.specs.Given.{FitTables, NameSome}
use Rattle.phases_out.specs.declared.ending.Ending.{Ending}

-- the lines of a phase
abbrev pub lines_in : Vec Line Global → List Line
lines_in phase = phase.items

-- ---- a phase of a list

at_place : {A : Type 0} (P : A → Type 0) (xs : List A) (i : ℕ) (d : A) → i < length xs → All P xs → P (get_or xs i d)
at_place P [] i d below all = absurd (omega (arith, below))
at_place P (x ∷ xs) zero d below all = All-head P x xs all
at_place P (x ∷ xs) (suc i) d below all = at_place P xs i d (omega (arith, below)) (All-tail P x xs all)

mapped_place : {A B : Type 0} (f : A → B) (P : B → Type 0) (xs : List A) (i : ℕ) (d : A) → i < length xs → All P (map f xs) → P (f (get_or xs i d))
mapped_place f P [] i d below all = absurd (omega (arith, below))
mapped_place f P (x ∷ xs) zero d below all = All-head P (f x) (map f xs) all
mapped_place f P (x ∷ xs) (suc i) d below all = mapped_place f P xs i d (omega (arith, below)) (All-tail P (f x) (map f xs) all)

-- the first phases with one more
pub done_more : (phases : List (Vec Line Global)) (i : ℕ) (lines d : Vec Line Global) → i < length phases → lines ≡ get_or phases i d → map lines_in (take (i + 1) phases) ≡ map lines_in (take i phases) ++ lines.items ∷ []
done_more phases i lines d below is =
    ap (λ (l : List (Vec Line Global)). map lines_in l) (take_more phases i d below ∙ ap (λ (y : Vec Line Global). take i phases ++ y ∷ []) (sym is))
    ∙ map-append lines_in (take i phases) (lines ∷ [])

pub done_all : (phases : List (Vec Line Global)) (i : ℕ) → length phases ≤ i → map lines_in (take i phases) ≡ map lines_in phases
done_all phases i past = ap (λ (l : List (Vec Line Global)). map lines_in l) (take_all i phases past)

-- the first phases, and those behind
pub done_and_left : (phases : List (Vec Line Global)) (i : ℕ) → map lines_in phases ≡ map lines_in (take i phases) ++ map lines_in (drop i phases)
done_and_left phases i = ap (λ (l : List (Vec Line Global)). map lines_in l) (sym (take-append-drop i phases)) ∙ map-append lines_in (take i phases) (drop i phases)

-- a phase that can be played
pub can_play : (setup : Setup) (actors : ℕ) (phases : List (Vec Line Global)) (i : ℕ) (lines d : Vec Line Global) → i < length phases → lines ≡ get_or phases i d
    → NameSome setup actors (map lines_in phases) → FitTables setup (map lines_in phases) → All (λ (phase : Vec Line Global). length phase.items < 2 ^ 32) phases → CanPlay setup actors lines.items
can_play setup actors phases i lines d below is names fits few = record {
  names = subst (λ (p : Vec Line Global). All (NamesSome actors setup) p.items) (sym is) (mapped_place lines_in (All (NamesSome actors setup)) phases i d below names);
  fits = subst (λ (p : Vec Line Global). All (FitsLine setup) p.items) (sym is) (mapped_place lines_in (All (FitsLine setup)) phases i d below fits);
  few = subst (λ (p : Vec Line Global). length p.items < 2 ^ 32) (sym is) (at_place (λ (phase : Vec Line Global). length phase.items < 2 ^ 32) phases i d below few);
}

-- ---- why it stops

-- an error is the one that it was made of
pub made_is : {T : Type 0} (result : Result T Ending) (made ending : Ending) → IsErrAnd result (λ e. e ≡ made) → result ≡ Err ending → made ≡ ending
made_is (Ok x) made ending is same = absurd is
made_is (Err e) made ending is same = sym is ∙ cc
