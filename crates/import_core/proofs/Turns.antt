-- Turns of the loops over a protocol's nets.
use Rattle.std.proofs.Common.{◌≡◌, ℕ, ◌<◌, ◌≤◌, ◌^◌, Bool, true, false, List, [], ◌∷◌, ◌++◌, length, Option, Some, None, refl, sym, ◌∙◌, ap, subst, arith, append_assoc, length-append}
use Rattle.std.specs.Map.{keys_of}
use Rattle.bits_ip.specs.Prefix.{Net}
use Rattle.attrs.specs.declared.route.Change.{Change}
use Rattle.import_core.specs.declared.held.Accepted.{Accepted}
use Rattle.import_core.specs.declared.held.Accepted.TheVariants.{Nothing}
use Rattle.import_core.specs.declared.held.Decision.TheVariants as decision
use Rattle.import_core.specs.declared.held.Held.{Held}
use Rattle.import_core.specs.declared.import_spec.ImportSpec.{ImportSpec}
use Rattle.import_core.specs.declared.mode.Mode.TheVariants as mode
use Rattle.import_core.specs.declared.nets.Plan.{Plan}
use Rattle.import_core.specs.Changes.{IsDifference}
use Rattle.import_core.specs.Decisions.{Filter, left_of}
use Rattle.import_core.specs.Held.{Kept, accepted_in, accepted_of, accepted_route, decided_as, kept_in, rebuilt_as, received_in, settled, write_all, IsNoted, IsRebuild, IsRebuiltBy, IsStored}
use Rattle.import_core.specs.Imports.{Routes, Imports, is_up}
use Rattle.import_core.proofs.Keeping.{above-accepted, accepted-push, keys-append, length-accepted, received-decided, written}
use Rattle.import_core.proofs.Planning.{Course, PlanSoFar, course_push, plan_ends, plan_push, plan_whole}
use Rattle.import_core.proofs.Routes.{Above, Sorted, above_from}

-- what stands before the next net is before it
above_next : (es t u : List (Net × Held)) (k : Net) (h : Held) → Sorted (keys_of (es ++ t)) → t ≡ (k, h) ∷ u → Above (keys_of es) k
above_next es t u k h s e =
    above_from (keys_of es) k (keys_of u) (subst (λ ks. Sorted ks) (ap (λ (r : List (Net × Held)). keys_of (es ++ r)) e ∙ keys-append es ((k, h) ∷ u)) s)

next_whole : (all es t u : List (Net × Held)) (k : Net) (h : Held) → all ≡ es ++ t → t ≡ (k, h) ∷ u → all ≡ (es ++ (k, h) ∷ []) ++ u
next_whole all es t u k h whole e = whole ∙ ap (λ r. es ++ r) e ∙ sym (append_assoc es ((k, h) ∷ []) u)

-- where all changes are withdrawals
abbrev pub WithdrawnSoFar : ℕ → Routes → List (Net × Held) → List Change → Type 0
WithdrawnSoFar num accepted rest changes =
    (es : List (Net × Held)) × (accepted ≡ accepted_in (es ++ rest)) × Sorted (keys_of (es ++ rest)) × Course num es (accepted_in es) [] changes

pub withdrawn_turn : (num : ℕ) (accepted : Routes) (t u : List (Net × Held)) (k : Net) (h : Held) (old new : List Change) → WithdrawnSoFar num accepted t old
    → t ≡ (k, h) ∷ u → IsNoted num k (accepted_of h) (accepted_route h.route Nothing) old new → WithdrawnSoFar num accepted u new
withdrawn_turn num accepted t u k h old new far e noted =
    let es = far.0 in
    let above = above_next es t u k h far.2 e in
    let whole : es ++ t ≡ (es ++ (k, h) ∷ []) ++ u = next_whole (es ++ t) es t u k h refl e in (
      es ++ (k, h) ∷ [],
      far.1 ∙ ap accepted_in whole,
      subst (λ (r : List (Net × Held)). Sorted (keys_of r)) whole far.2,
      subst (λ (r : Routes). Course num (es ++ (k, h) ∷ []) r [] new) (sym (accepted-push es k h))
          (course_push num es (accepted_in es) [] k h (accepted_of h) None old new far.3 above (above-accepted es k above) tt noted),
    )

pub withdrawn_end : (num : ℕ) (accepted : Routes) (t : List (Net × Held)) (changes : List Change) → WithdrawnSoFar num accepted t changes → t ≡ []
    → IsDifference num accepted [] changes
withdrawn_end num accepted t changes far e =
    let same : accepted_in far.0 ≡ accepted = sym (far.1 ∙ ap (λ r. accepted_in (far.0 ++ r)) e ∙ ap accepted_in (append_nil far.0)) in
    subst (λ (r : Routes). IsDifference num r [] changes) same far.3.difference
  where
    append_nil : {A : Type 0} (xs : List A) → xs ++ [] ≡ xs
    append_nil [] = refl
    append_nil (x ∷ xs) = ap (λ ys. x ∷ ys) (append_nil xs)

module _ (spec : ImportSpec) (verdict : Filter) where
  abbrev pub PlannedSoFar : List (Net × Held) → List (Net × Held) → Plan → Type 0
  PlannedSoFar all rest p = (es : List (Net × Held)) × (all ≡ es ++ rest) × PlanSoFar spec verdict es p

  pub plan_turn : (all t u : List (Net × Held)) (p p' : Plan) (k : Net) (h : Held) (x a : Accepted) (over : Bool) → Sorted (keys_of all) → PlannedSoFar all t p
      → t ≡ (k, h) ∷ u → accepted_route h.route x ≡ left_of verdict k h.route → decision.Stored a over ≡ settled spec.limit x false p.count
      → IsStored spec.src.num k h a over p p' → PlannedSoFar all u p'
  plan_turn all t u p p' k h x a over sorted far e is settles stored =
      let es = far.0 in
      let above = above_next es t u k h (subst (λ (r : List (Net × Held)). Sorted (keys_of r)) far.1 sorted) e in (
        es ++ (k, h) ∷ [],
        next_whole all es t u k h far.1 e,
        plan_push spec verdict es p p' k h x a over far.2 above is (sym settles) stored,
      )

  pub plan_stops : (all t u : List (Net × Held)) (p : Plan) (k : Net) (h : Held) (x : Accepted) → Sorted (keys_of all) → PlannedSoFar all t p
      → t ≡ (k, h) ∷ u → accepted_route h.route x ≡ left_of verdict k h.route → decision.Limited ≡ settled spec.limit x false p.count
      → (i : Imports) → i.received ≡ received_in all → is_up i.mode ≡ true → IsRebuild spec verdict all i None
  plan_stops all t u p k h x sorted far e is settles =
      plan_ends spec verdict all far.0 u p k h x far.2 (above_next far.0 t u k h (subst (λ (r : List (Net × Held)). Sorted (keys_of r)) far.1 sorted) e) is (sym settles)
      (far.1 ∙ ap (λ r. far.0 ++ r) e)

  pub plan_end : (all t : List (Net × Held)) (p : Plan) → PlannedSoFar all t p → t ≡ [] → (i : Imports) → i.received ≡ received_in all → is_up i.mode ≡ true → IsRebuild spec verdict all i (Some p)
  plan_end all t p far e =
      plan_whole spec verdict all p (subst (λ (r : List (Net × Held)). PlanSoFar spec verdict r p) (sym (far.1 ∙ ap (λ r. far.0 ++ r) e ∙ append_nil far.0)) far.2)
    where
      append_nil : {A : Type 0} (xs : List A) → xs ++ [] ≡ xs
      append_nil [] = refl
      append_nil (x ∷ xs) = ap (λ ys. x ∷ ys) (append_nil xs)

  length-decided : (ds : List (Net × Accepted)) (es : List (Net × Held)) → length (decided_as ds es) ≤ length es
  length-decided [] es = omega arith
  length-decided (d ∷ ds) [] = omega arith
  length-decided (d ∷ ds) (x ∷ es) = let h = length-decided ds es in omega (arith, h)

  pub plan_small : (all t : List (Net × Held)) (p : Plan) → PlannedSoFar all t p → length all < 2 ^ 63 → p.count < 2 ^ 63
  plan_small all t p far small =
      let a = length-accepted (decided_as p.decisions.items far.0) in
      let b = length-decided p.decisions.items far.0 in
      let c = ap length far.1 ∙ length-append far.0 t in
      let d = far.2.count in
      omega (arith, a, b, c, d)

  -- a plan that was done
  pub plan_counted : (all w : List (Net × Held)) (p : Plan) (o : Option Plan) → o ≡ Some p → Sorted (keys_of all) → w ≡ write_all p.decisions.items all
      → ((i : Imports) → i.received ≡ received_in all → is_up i.mode ≡ true → IsRebuild spec verdict all i o) → p.count ≡ length (accepted_in w)
  plan_counted all w p o e s f is =
      let i : Imports = record { mode = mode.Up; id = 0; received = received_in all; accepted = [] } in
      let r : IsRebuild spec verdict all i (Some p) = subst (λ (q : Option Plan). IsRebuild spec verdict all i q) e (is i refl refl) in
      r.1.count ∙ ap (λ (es : List (Net × Held)). length (accepted_in es)) (sym (f ∙ written p.decisions.items all s r.1.nets))

  pub plan_done : (all w : List (Net × Held)) (p : Plan) (o : Option Plan) (kept : Kept) → o ≡ Some p → Sorted (keys_of all) → w ≡ write_all p.decisions.items all
      → ((i : Imports) → i.received ≡ received_in all → is_up i.mode ≡ true → IsRebuild spec verdict all i o) → kept_in all ≡ kept
      → (i : Imports) → i.received ≡ kept.received → is_up i.mode ≡ true
      → IsRebuiltBy spec verdict i kept.accepted (kept_in w) (record { changes = p.changes; over = p.over; limited = false })
  plan_done all w p o kept e s f is view i same up =
      let r : IsRebuild spec verdict all i (Some p) = subst (λ (q : Option Plan). IsRebuild spec verdict all i q) e (is i (same ∙ ap (λ (k : Kept). k.received) (sym view)) up) in
      let new : w ≡ decided_as p.decisions.items all = f ∙ written p.decisions.items all s r.1.nets in
      record {
        outcome = r.0 ∙ ap (λ (es : List (Net × Held)). rebuilt_as spec false p.over (accepted_in es) i) (sym new);
        received = ap received_in new ∙ received-decided p.decisions.items all r.1.nets ∙ ap (λ (k : Kept). k.received) view ∙ sym same;
        nothing = λ bad. let h : false ≡ true = bad in (cc);
        changes = subst (λ (b : Routes). IsDifference spec.src.num b (accepted_in w) p.changes) (ap (λ (k : Kept). k.accepted) view)
            (subst (λ (es : List (Net × Held)). IsDifference spec.src.num (accepted_in all) (accepted_in es) p.changes) (sym new) r.1.changes);
      }
