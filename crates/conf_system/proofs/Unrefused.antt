-- What holds of the filters and functions of a configuration in which nothing is refused.
use Rattle.std.proofs.Common.{◌≡◌, ◌≤◌, ℕ, arith, List, [], ◌∷◌, ◌++◌, None, append-nil, refl, sym}
use Rattle.attrs.specs.declared.attributes.Attrs.{Attrs}
use Rattle.conf_ast.specs.Configurations as conf
use Rattle.conf_ast.specs.Configurations.{Routine}
use Rattle.conf_ast.specs.Filters.{Expression, Statements}
use Rattle.filt_meaning.specs.Names.{Around, Context}
use Rattle.filt_meaning.specs.Configuration.{doing, filter_where, of_text}
use Rattle.filt_types.specs.Scenes.{Scene}
use Rattle.filt_types.specs.Statements.{in_filter, in_function}
use Rattle.filt_types.specs.Weight.{acts_weight, block_weight, capped}
use Rattle.filt_types.specs.Refused.{of_filter, signature_in}
use Rattle.filt_laws.specs.Behind.{seen_in_text}
use Rattle.filt_laws.specs.Sound.{Agrees, IsOfSignature, signature_of}
use Rattle.filt_steps.specs.Agreement.{Agree, TakesAtMost}
use Rattle.filt_steps.specs.Limits.{AttrsAreWithin}
use Rattle.filt_steps.specs.Steps.{Counts, filter_steps, function_steps}
use Rattle.conf_rules.specs.Statements.{refusals}
use Rattle.conf_check.specs.Behind.{at_start, behind}
use Rattle.conf_check.specs.Refused.{refusal_of}
use Rattle.conf_system.specs.Behind.{context_behind, counts_behind, scene_behind}
use Rattle.conf_system.specs.Written.{IsWritten, filters_in}
use Rattle.conf_system.proofs.Every.{of_one}
use Rattle.conf_system.proofs.Fine.{IsFine, condition_fine, function_fine, written_fine}

module _
    (sorts : (text : List ℕ) (ds before more : List conf.Declaration)
    → refusal_of (at_start text) ds ≡ None → ds ≡ before ++ more
    → (around : Around) → Agrees (scene_behind text before) (context_behind text around before))
    (weights : (text : List ℕ) (ds before more : List conf.Declaration)
    → refusal_of (at_start text) ds ≡ None → ds ≡ before ++ more
    → (around : Around) → Agree (scene_behind text before)
    (context_behind text around before) (counts_behind text around before))
    (refused : (text : List ℕ) (ds before more : List conf.Declaration) (d : conf.Declaration)
    → refusal_of (at_start text) ds ≡ None → ds ≡ before ++ d ∷ more
    → refusals (behind (at_start text) before) d ≡ []) where
  fine : (text : List ℕ) (ds before : List conf.Declaration) (ss : Statements)
      → refusal_of (at_start text) ds ≡ None → IsWritten ds before ss
      → IsFine (scene_behind text before) ss
  fine text ds before ss e w =
      of_one (IsFine (scene_behind text before)) (filters_in w.0) ss
      (written_fine (behind (at_start text) before) w.0 (refused text ds before w.1 w.0 e w.2)) w.3

  -- and none is too heavy
  pub weighs : (text : List ℕ) (ds before : List conf.Declaration) (ss : Statements)
      → refusal_of (at_start text) ds ≡ None → IsWritten ds before ss
      → block_weight (scene_behind text before) ss ≤ 10000000
  weighs text ds before ss e w = (fine text ds before ss e w).1

  -- what holds of each filter of which nothing is refused
  pub holds : (P : Context → Statements → Type 0)
      → ((scene : Scene) (c : Context) → Agrees scene c → (ss : Statements)
      → in_filter scene ss ≡ [] → P c ss)
      → (text : List ℕ) (ds before : List conf.Declaration) (ss : Statements)
      → refusal_of (at_start text) ds ≡ None → IsWritten ds before ss
      → (around : Around) → P (context_behind text around before) ss
  holds P law text ds before ss e w around =
      law (scene_behind text before) (context_behind text around before)
      (sorts text ds before (w.0 ∷ w.1) e w.2 around) ss (fine text ds before ss e w).0

  pub keeps : ((scene : Scene) (c : Context) → Agrees scene c → (f : Routine)
      → in_function scene f ≡ [] → (weight : ℕ)
      → IsOfSignature (signature_of f weight) (doing c f))
      → (text : List ℕ) (ds before more : List conf.Declaration) (f : Routine)
      → refusal_of (at_start text) ds ≡ None → ds ≡ before ++ conf.DefineFunction f ∷ more
      → (around : Around)
      → IsOfSignature (signature_in (scene_behind text before) f)
      (doing (context_behind text around before) f)
  keeps law text ds before more f e is around =
      law (scene_behind text before) (context_behind text around before)
      (sorts text ds before (conf.DefineFunction f ∷ more) e is around) f
      (function_fine (behind (at_start text) before) f
      (refused text ds before more (conf.DefineFunction f) e is)).0
      (capped (block_weight (scene_behind text before) f.body))

  pub filter_takes : ((scene : Scene) (c : Context) (fs : Counts) → Agree scene c fs
      → (ss : Statements) (attrs : Attrs) → AttrsAreWithin attrs
      → filter_steps c fs ss attrs ≤ acts_weight scene ss)
      → (text : List ℕ) (ds before : List conf.Declaration) (ss : Statements)
      → refusal_of (at_start text) ds ≡ None → IsWritten ds before ss
      → (around : Around) (attrs : Attrs) → AttrsAreWithin attrs
      → filter_steps (context_behind text around before) (counts_behind text around before) ss
      attrs ≤ 10000000
  filter_takes law text ds before ss e w around attrs k =
      omega (
        arith,
        (fine text ds before ss e w).1,
        law (scene_behind text before) (context_behind text around before)
            (counts_behind text around before) (weights text ds before (w.0 ∷ w.1) e w.2 around) ss
            attrs k,
      )

  pub function_takes : ((scene : Scene) (c : Context) (fs : Counts) → Agree scene c fs
      → (f : Routine) → TakesAtMost (block_weight scene f.body) (function_steps c fs f))
      → (text : List ℕ) (ds before more : List conf.Declaration) (f : Routine)
      → refusal_of (at_start text) ds ≡ None → ds ≡ before ++ conf.DefineFunction f ∷ more
      → (around : Around) → TakesAtMost 10000000 (function_steps
      (context_behind text around before) (counts_behind text around before) f)
  function_takes law text ds before more f e is around arguments attrs a k =
      omega (
        arith,
        (function_fine (behind (at_start text) before) f
            (refused text ds before more (conf.DefineFunction f) e is)).1,
        law (scene_behind text before) (context_behind text around before)
            (counts_behind text around before)
            (weights text ds before (conf.DefineFunction f ∷ more) e is around) f arguments attrs a
            k,
      )

  -- ---- conditions with a text of their own, behind all statements

  all_before : (ds : List conf.Declaration) → ds ≡ ds ++ []
  all_before ds = sym (append-nil ds)

  pub condition_holds : ((scene : Scene) (c : Context) → Agrees scene c → (own : List ℕ)
      → Agrees (seen_in_text scene own) (of_text c own))
      → (P : Context → Statements → Type 0)
      → ((scene : Scene) (c : Context) → Agrees scene c → (ss : Statements)
      → in_filter scene ss ≡ [] → P c ss)
      → (text : List ℕ) (ds : List conf.Declaration) → refusal_of (at_start text) ds ≡ None
      → (own : List ℕ) (at : ℕ) (e : Expression)
      → of_filter (seen_in_text (scene_behind text ds) own) at (filter_where e) ≡ []
      → (around : Around) → P (of_text (context_behind text around ds) own) (filter_where e)
  condition_holds in_text P law text ds a own at e none around =
      let scene = seen_in_text (scene_behind text ds) own in
      law scene (of_text (context_behind text around ds) own)
      (in_text (scene_behind text ds) (context_behind text around ds)
      (sorts text ds ds [] a (all_before ds) around) own)
      (filter_where e) (condition_fine scene at (filter_where e) none).0

  agree_in_text : (scene : Scene) (c : Context) (fs : Counts) → Agree scene c fs
      → (own : List ℕ) → Agree (seen_in_text scene own) (of_text c own) fs
  agree_in_text scene c fs a own = record {
    text = refl;
    limits = record { constants = a.limits.constants; functions = a.limits.functions };
    functions = a.functions;
  }

  pub condition_takes : ((scene : Scene) (c : Context) (fs : Counts) → Agree scene c fs
      → (ss : Statements) (attrs : Attrs) → AttrsAreWithin attrs
      → filter_steps c fs ss attrs ≤ acts_weight scene ss)
      → (text : List ℕ) (ds : List conf.Declaration) → refusal_of (at_start text) ds ≡ None
      → (own : List ℕ) (at : ℕ) (e : Expression)
      → of_filter (seen_in_text (scene_behind text ds) own) at (filter_where e) ≡ []
      → (around : Around) (attrs : Attrs) → AttrsAreWithin attrs
      → filter_steps (of_text (context_behind text around ds) own) (counts_behind text around ds)
      (filter_where e) attrs ≤ 10000000
  condition_takes law text ds a own at e none around attrs k =
      let scene = seen_in_text (scene_behind text ds) own in
      omega (
        arith,
        (condition_fine scene at (filter_where e) none).1,
        law scene (of_text (context_behind text around ds) own) (counts_behind text around ds)
            (agree_in_text (scene_behind text ds) (context_behind text around ds)
            (counts_behind text around ds) (weights text ds ds [] a (all_before ds) around) own)
            (filter_where e) attrs k,
      )
