-- Which variables are seen behind statements, and that they weren't seen before where nothing is
-- refused.
use Rattle.std.proofs.Common.{◌≡◌, ℕ, true, false, nat_lt, List, [], ◌∷◌, ◌++◌, length, remove, refl, sym, ap, ◌∙◌, subst, append_assoc, append-nil}
use Rattle.std.proofs.lemmas.List.{map-append}
use Rattle.conf_ast.specs.declared.named.Name.{Name}
use Rattle.conf_ast.specs.Names.{name_bytes}
use Rattle.conf_ast.specs.declared.filters.Parameter.{Parameter}
use Rattle.conf_ast.specs.Filters.{Statement, Braced, Nothing, Declare, Assign, ChangeBy, Clear, Unset, If, IfElse, Case, CaseElse, For, Accept, Reject, Return, Print, Printn, Call, Statements, NoStatements, AndStatements, Arms, NoArms, AndArms}
use Rattle.filt_meaning.specs.Meaning.{all_declared, arms_declare}
use Rattle.filt_meaning.specs.Meaning as run
use Rattle.filt_meaning.specs.Names.{sort_of_type}
use Rattle.filt_types.specs.declared.refusal.Cause.TheVariants as causes
use Rattle.filt_types.specs.Expressions.{judge, wanted}
use Rattle.filt_types.specs.Refusals.{refused_if}
use Rattle.filt_types.specs.Scenes.{Scene, Variable, Variables, is_seen, declaring, declared}
use Rattle.filt_types.specs.Statements.{Around, check, check_all, check_arms, initial, cases, over_list, parameters}
use Rattle.filt_meaning.specs.Sorts.{one_bool}
use Rattle.filt_laws.proofs.Names.{Fresh, var, vars, fresh_append, fresh_before, seen_more}
use Rattle.filt_laws.proofs.Refused.{left_nil, right_nil, not_refused}
use Rattle.filt_laws.proofs.Slots.{Slot}

two_add : (vs ws us : Variables) (ds es : List Slot) → ws ≡ vs ++ vars ds → us ≡ ws ++ vars es
    → us ≡ vs ++ vars (ds ++ es)
two_add vs ws us ds es d e =
    e ∙ ap (λ (xs : Variables). xs ++ vars es) d ∙ append_assoc vs (vars ds) (vars es)
    ∙ ap (λ (xs : Variables). vs ++ xs) (sym (map-append var ds es))

without_loop : (vs ws : Variables) (x : Variable)
    → remove (vs ++ x ∷ [] ++ ws) (length vs) ≡ vs ++ ws
without_loop [] ws x = refl
without_loop (v ∷ vs) ws x = ap (λ (xs : Variables). v ∷ xs) (without_loop vs ws x)

mutual
  pub adds : (s : Statement) (around : Around) (vs : Variables)
      → (check around vs s).variables ≡ vs ++ vars (run.declared around.scene.text s)
  adds (Braced ss) around vs = sym (append-nil vs)
  adds Nothing around vs = sym (append-nil vs)
  adds (Declare t n e) around vs = refl
  adds (Assign target e) around vs = sym (append-nil vs)
  adds (ChangeBy target m place e) around vs = sym (append-nil vs)
  adds (Clear target) around vs = sym (append-nil vs)
  adds (Unset place at a) around vs = sym (append-nil vs)
  adds (If e s) around vs = adds s around vs
  adds (IfElse e s t) around vs =
      two_add vs _ _ (run.declared around.scene.text s) (run.declared around.scene.text t)
      (adds s around vs) (adds t around (check around vs s).variables)
  adds (Case at e as_arms) around vs = arms_add as_arms around vs
  adds (CaseElse at e as_arms ss) around vs =
      two_add vs _ _ (arms_declare around.scene.text as_arms) (all_declared around.scene.text ss)
      (arms_add as_arms around vs) (all_add ss around (check_arms around vs as_arms).variables)
  adds (For at t n e body) around vs =
      let i : Variable = declared around.scene n (sort_of_type t) true in
      ap (λ (ws : Variables). remove ws (length vs)) (adds body around (vs ++ i ∷ []))
      ∙ without_loop vs (vars (run.declared around.scene.text body)) i
  adds Accept around vs = sym (append-nil vs)
  adds Reject around vs = sym (append-nil vs)
  adds (Return at e) around vs = sym (append-nil vs)
  adds (Print es) around vs = sym (append-nil vs)
  adds (Printn es) around vs = sym (append-nil vs)
  adds (Call n place es) around vs = sym (append-nil vs)

  pub all_add : (ss : Statements) (around : Around) (vs : Variables)
      → (check_all around vs ss).variables ≡ vs ++ vars (all_declared around.scene.text ss)
  all_add NoStatements around vs = sym (append-nil vs)
  all_add (AndStatements s ss) around vs =
      two_add vs _ _ (run.declared around.scene.text s) (all_declared around.scene.text ss)
      (adds s around vs) (all_add ss around (check around vs s).variables)

  pub arms_add : (as_arms : Arms) (around : Around) (vs : Variables)
      → (check_arms around vs as_arms).variables
      ≡ vs ++ vars (arms_declare around.scene.text as_arms)
  arms_add NoArms around vs = sym (append-nil vs)
  arms_add (AndArms labels ss more) around vs =
      two_add vs _ _ (all_declared around.scene.text ss) (arms_declare around.scene.text more)
      (all_add ss around vs) (arms_add more around (check_all around vs ss).variables)

two_fresh : (scene : Scene) (vs ws : Variables) (ds es : List Slot) → ws ≡ vs ++ vars ds
    → Fresh scene vs ds → Fresh scene ws es → Fresh scene vs (ds ++ es)
two_fresh scene vs ws ds es e f g =
    fresh_append scene vs ds es f (subst (λ (us : Variables). Fresh scene us es) e g)

pub not_seen : (scene : Scene) (vs : Variables) (n : Name) → declaring scene vs n ≡ []
    → is_seen scene vs (name_bytes scene.text n) ≡ false
not_seen scene vs n e =
    not_refused (is_seen scene vs (name_bytes scene.text n)) n.at causes.DuplicateName
    (left_nil _ (refused_if (nat_lt 64 (length (name_bytes scene.text n))) n.at causes.Limit) e)

mutual
  pub fresh : (s : Statement) (around : Around) (vs : Variables)
      → (check around vs s).refusals ≡ []
      → Fresh around.scene vs (run.declared around.scene.text s)
  fresh (Braced ss) around vs e = tt
  fresh Nothing around vs e = tt
  fresh (Declare t n a) around vs e = (
    not_seen around.scene vs n
        (left_nil (declaring around.scene vs n) (initial around.scene vs t a) e),
    tt,
  )
  fresh (Assign target a) around vs e = tt
  fresh (ChangeBy target m place a) around vs e = tt
  fresh (Clear target) around vs e = tt
  fresh (Unset place at a) around vs e = tt
  fresh (If a s) around vs e =
      fresh s around vs
      (right_nil (wanted one_bool (judge around.scene vs a)) (check around vs s).refusals e)
  fresh (IfElse a s t) around vs e =
      let seen : Variables = (check around vs s).variables in
      let both : (check around vs s).refusals ++ (check around seen t).refusals ≡ [] =
      right_nil (wanted one_bool (judge around.scene vs a)) _ e in
      two_fresh around.scene vs seen (run.declared around.scene.text s)
      (run.declared around.scene.text t) (adds s around vs)
      (fresh s around vs (left_nil (check around vs s).refusals (check around seen t).refusals both))
      (fresh t around seen
      (right_nil (check around vs s).refusals (check around seen t).refusals both))
  fresh (Case at a as_arms) around vs e =
      arms_fresh as_arms around vs
      (right_nil (cases around.scene at (judge around.scene vs a) as_arms)
      (check_arms around vs as_arms).refusals e)
  fresh (CaseElse at a as_arms ss) around vs e =
      let seen : Variables = (check_arms around vs as_arms).variables in
      let both : (check_arms around vs as_arms).refusals ++ (check_all around seen ss).refusals ≡ [] =
      right_nil (cases around.scene at (judge around.scene vs a) as_arms) _ e in
      two_fresh around.scene vs seen (arms_declare around.scene.text as_arms)
      (all_declared around.scene.text ss) (arms_add as_arms around vs)
      (arms_fresh as_arms around vs
      (left_nil (check_arms around vs as_arms).refusals (check_all around seen ss).refusals both))
      (all_fresh ss around seen
      (right_nil (check_arms around vs as_arms).refusals (check_all around seen ss).refusals both))
  fresh (For at t n a body) around vs e =
      let i : Variable = declared around.scene n (sort_of_type t) true in
      fresh_before around.scene (vs ++ i ∷ []) vs (run.declared around.scene.text body)
      (λ name s. seen_more around.scene vs i name s)
      (fresh body around (vs ++ i ∷ [])
      (right_nil (over_list at t (judge around.scene vs a) ++ declaring around.scene vs n)
      (check around (vs ++ i ∷ []) body).refusals e))
  fresh Accept around vs e = tt
  fresh Reject around vs e = tt
  fresh (Return at a) around vs e = tt
  fresh (Print es) around vs e = tt
  fresh (Printn es) around vs e = tt
  fresh (Call n place es) around vs e = tt

  pub all_fresh : (ss : Statements) (around : Around) (vs : Variables)
      → (check_all around vs ss).refusals ≡ []
      → Fresh around.scene vs (all_declared around.scene.text ss)
  all_fresh NoStatements around vs e = tt
  all_fresh (AndStatements s ss) around vs e =
      let seen : Variables = (check around vs s).variables in
      two_fresh around.scene vs seen (run.declared around.scene.text s)
      (all_declared around.scene.text ss) (adds s around vs)
      (fresh s around vs
      (left_nil (check around vs s).refusals (check_all around seen ss).refusals e))
      (all_fresh ss around seen
      (right_nil (check around vs s).refusals (check_all around seen ss).refusals e))

  pub arms_fresh : (as_arms : Arms) (around : Around) (vs : Variables)
      → (check_arms around vs as_arms).refusals ≡ []
      → Fresh around.scene vs (arms_declare around.scene.text as_arms)
  arms_fresh NoArms around vs e = tt
  arms_fresh (AndArms labels ss more) around vs e =
      let seen : Variables = (check_all around vs ss).variables in
      two_fresh around.scene vs seen (all_declared around.scene.text ss)
      (arms_declare around.scene.text more) (all_add ss around vs)
      (all_fresh ss around vs
      (left_nil (check_all around vs ss).refusals (check_arms around seen more).refusals e))
      (arms_fresh more around seen
      (right_nil (check_all around vs ss).refusals (check_arms around seen more).refusals e))

-- ---- parameters

abbrev pub slots_of : List ℕ → List Parameter → List Slot
slots_of text [] = []
slots_of text (p ∷ ps) =
    (name_bytes text p.name, sort_of_type p.variable_type) ∷ slots_of text ps

pub parameters_add : (scene : Scene) (ps : List Parameter) (vs : Variables)
    → (parameters scene vs ps).variables ≡ vs ++ vars (slots_of scene.text ps)
parameters_add scene [] vs = sym (append-nil vs)
parameters_add scene (p ∷ ps) vs =
    let x : Variable = declared scene p.name (sort_of_type p.variable_type) false in
    parameters_add scene ps (vs ++ x ∷ []) ∙ append_assoc vs (x ∷ []) (vars (slots_of scene.text ps))

pub parameters_fresh : (scene : Scene) (ps : List Parameter) (vs : Variables)
    → (parameters scene vs ps).refusals ≡ [] → Fresh scene vs (slots_of scene.text ps)
parameters_fresh scene [] vs e = tt
parameters_fresh scene (p ∷ ps) vs e =
    let x : Variable = declared scene p.name (sort_of_type p.variable_type) false in (
      not_seen scene vs p.name
          (left_nil (declaring scene vs p.name) (parameters scene (vs ++ x ∷ []) ps).refusals e),
      parameters_fresh scene ps (vs ++ x ∷ [])
          (right_nil (declaring scene vs p.name) (parameters scene (vs ++ x ∷ []) ps).refusals e),
    )
