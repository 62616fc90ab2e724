-- What the operations of a protocol change, one after another: the definition of imports has the lists in the order of time,
-- and the machine reads them backwards.
use Rattle.std.proofs.Common.{◌≡◌, List, [], ◌∷◌, ◌++◌, None, refl, sym, ◌∙◌, ap, subst, reverse}
use Rattle.std.specs.Prelude.{◌==◌}
use Rattle.std.proofs.lemmas.List.{append-nil, append_assoc, reverse-append, reverse-reverse}
use Rattle.std.proofs.lemmas.Bool.{cond-true}
use Rattle.bits_ip.specs.Prefix.{Net}
use Rattle.attrs.specs.declared.route.Change.{Change}
use Rattle.import_core.specs.declared.import_spec.ImportSpec.{ImportSpec}
use Rattle.import_core.specs.declared.operation.Op.{Op}
use Rattle.import_core.specs.Changes.{AreChanges, IsDifference, routes_from}
use Rattle.import_core.specs.Decisions.{Filter}
use Rattle.import_core.specs.Imports.{Imports, nothing_yet, route_at}
use Rattle.import_core.specs.Operations.{after_from, done}
use Rattle.import_core.proofs.Differences.{leave_from_nothing, real_from_nothing}
use Rattle.core_machine.specs.Histories.{AreReal, content_of}
use Rattle.core_setup.specs.Differences.{differences}
use Rattle.core_setup.specs.Protocols.{effect_after, imports_after}
use Rattle.core_setup.specs.Setup.{Source}
use Rattle.core_setup.proofs.Differing.{differences_are}
use Rattle.core_setup.proofs.Numbered.{itself_is}

pub reverse_push : {A : Type 0} (x : A) (xs : List A) → reverse (x ∷ xs) ≡ reverse xs ++ x ∷ []
reverse_push x xs = reverse-append (x ∷ []) xs

module _ (spec : ImportSpec) (verdict : Filter) where
  -- one more operation at the end
  after_push : (ops : List Op) (op : Op) (i : Imports) → after_from spec verdict i (ops ++ op ∷ []) ≡ (done spec verdict op (after_from spec verdict i ops)).imports
  after_push [] op i = refl
  after_push (o ∷ ops) op i = after_push ops op (done spec verdict o i).imports

  changes_push : (ops : List Op) (op : Op) (i : Imports) (cs ds : List Change) → AreChanges spec verdict i ops cs
      → IsDifference spec.src.num (after_from spec verdict i ops).accepted (done spec verdict op (after_from spec verdict i ops)).imports.accepted ds
      → AreChanges spec verdict i (ops ++ op ∷ []) (cs ++ ds)
  changes_push [] op i cs ds are is = (ds, [], ap (λ c. c ++ ds) are ∙ sym (append-nil ds), is, refl)
  changes_push (o ∷ ops) op i cs ds are is = (
    are.0,
    are.1 ++ ds,
    ap (λ c. c ++ ds) are.2 ∙ append_assoc are.0 are.1 ds,
    are.3,
    changes_push ops op (done spec verdict o i).imports are.1 ds are.4 is,
  )

module _ (p : Source) where
  -- the changes of all operations
  abbrev pub all_of : List Op → List Change
  all_of [] = []
  all_of (op ∷ earlier) = (effect_after p earlier op).changes ++ all_of earlier

  after_is : (ops : List Op) → after_from p.spec p.filter nothing_yet (reverse ops) ≡ imports_after p ops
  after_is [] = refl
  after_is (op ∷ earlier) =
      ap (after_from p.spec p.filter nothing_yet) (reverse_push op earlier)
      ∙ after_push p.spec p.filter (reverse earlier) op nothing_yet
      ∙ ap (λ i. (done p.spec p.filter op i).imports) (after_is earlier)

  reverse_all : (op : Op) (earlier : List Op) (ds : List Change) → reverse (reverse ds ++ all_of earlier) ≡ reverse (all_of earlier) ++ ds
  reverse_all op earlier ds = reverse-append (reverse ds) (all_of earlier) ∙ ap (λ d. reverse (all_of earlier) ++ d) (reverse-reverse ds)

  all_are : (ops : List Op) → AreChanges p.spec p.filter nothing_yet (reverse ops) (reverse (all_of ops))
  all_are [] = refl
  all_are (op ∷ earlier) =
      let i = imports_after p earlier in
      let ds = differences p.spec.src.num i.accepted (imports_after p (op ∷ earlier)).accepted in
      let is : IsDifference p.spec.src.num i.accepted (done p.spec p.filter op i).imports.accepted ds =
      differences_are p.spec.src.num i.accepted (imports_after p (op ∷ earlier)).accepted in
      let more : AreChanges p.spec p.filter nothing_yet (reverse earlier ++ op ∷ []) (reverse (all_of earlier) ++ ds) =
      changes_push p.spec p.filter (reverse earlier) op nothing_yet (reverse (all_of earlier)) ds (all_are earlier)
      (subst (λ (j : Imports). IsDifference p.spec.src.num j.accepted (done p.spec p.filter op j).imports.accepted ds) (sym (after_is earlier)) is) in
      subst (λ ops. AreChanges p.spec p.filter nothing_yet ops (reverse (all_of (op ∷ earlier)))) (sym (reverse_push op earlier))
      (subst (λ cs. AreChanges p.spec p.filter nothing_yet (reverse earlier ++ op ∷ []) cs) (sym (reverse_all op earlier ds)) more)

  pub all_real : (ops : List Op) → AreReal (all_of ops)
  all_real ops = real_from_nothing p.spec p.filter (reverse ops) (reverse (all_of ops)) (all_are ops)

  -- they leave what is accepted
  pub all_leave : (ops : List Op) (net : Net) → content_of (all_of ops) net p.spec.src.num ≡ route_at net (imports_after p ops).accepted
  all_leave ops net =
      let num = p.spec.src.num in
      leave_from_nothing p.spec p.filter (reverse ops) (reverse (all_of ops)) (all_are ops) net num
      ∙ ap (λ (i : Imports). routes_from num i.accepted net num) (after_is ops)
      ∙ cond-true (num == num) (route_at net (imports_after p ops).accepted) None (itself_is num)
