-- What a scene and a context agree on they agree on behind a function.
use Rattle.std.proofs.Common.{ℕ, ◌≤◌, List, [], ◌∷◌, ◌++◌, refl, arith}
use Rattle.std.proofs.lemmas.List.Elements.{All-push}
use Rattle.conf_ast.specs.Configurations.{Routine}
use Rattle.filt_meaning.specs.Configuration.{doing, with_function}
use Rattle.filt_meaning.specs.Names.{Context, Doing}
use Rattle.filt_types.specs.Scenes.{Scene, Signature}
use Rattle.filt_types.specs.Weight.{block_weight}
use Rattle.filt_steps.specs.Agreement.{Agree, FunctionsAgree, TakesAtMost, with_signature}
use Rattle.filt_steps.specs.Limits.{KeepsLimits}
use Rattle.filt_steps.specs.Steps.{Count, Counts, function_steps}
use Rattle.filt_steps.proofs.Weighed.{routine_takes}
use Rattle.filt_steps.proofs.Within.{doing_kept}

one_more : (name : List ℕ) (f : Doing) (s : Signature) (n : Count) → TakesAtMost s.weight n
    → (fs : List (List ℕ × Doing)) (ss : List (List ℕ × Signature)) (ns : Counts)
    → FunctionsAgree fs ss ns
    → FunctionsAgree (fs ++ (name, f) ∷ []) (ss ++ (name, s) ∷ []) (ns ++ (name, n) ∷ [])
one_more name f s n t [] [] [] h = (refl, refl, t, tt)
one_more name f s n t (g ∷ fs) (r ∷ ss) (m ∷ ns) h =
    (h.0, h.1, h.2, one_more name f s n t fs ss ns h.3)
one_more name f s n t _ _ _ h = absurd h

pub agree_behind : (scene : Scene) (c : Context) (fs : Counts) → Agree scene c fs
    → (f : Routine) (name : List ℕ) (s : Signature) → block_weight scene f.body ≤ s.weight
    → Agree (with_signature scene name s) (with_function c name (doing c f))
    (fs ++ (name, function_steps c fs f) ∷ [])
agree_behind scene c fs a f name s h = record {
  text = a.text;
  limits = record {
    constants = a.limits.constants;
    functions =
        All-push (λ x. KeepsLimits x.1) c.functions (name, doing c f) a.limits.functions
        (doing_kept c a.limits f);
  };
  functions =
      one_more name (doing c f) s (function_steps c fs f)
      (λ vals attrs v w. omega (arith, h, routine_takes scene c fs a f vals attrs v w))
      c.functions scene.functions fs a.functions;
}
