-- A phase begins with all that a lock keeps.
use Rattle.std.proofs.Common.{◌≡◌, ℕ, arith, [], ◌++◌, map, reverse, Option, Some, None, sym, ap, subst, ◌∙◌}
use Rattle.std.specs.Prelude.{IfSome}
use Rattle.std.specs.List.{AllByRecursion}
use Rattle.atomic_table.specs.Seated.{TableId}
use Rattle.attrs.specs.declared.judge.Verdict.{Verdict}
use Rattle.attrs.specs.declared.route.Route.{Route}
use Rattle.bits_ip.specs.Prefix.{Net}
use Rattle.jour_rule.specs.declared.views.View.{View as Seat}
use Rattle.jour.specs.Seats.{front, head_of}
use Rattle.core_setup.specs.Announced.{IsOfFamily}
use Rattle.core_setup.specs.Reports.{dones}
use Rattle.core_setup.specs.Setup.{Source}
use Rattle.phase_legal.specs.Changes.{AreMade, given}
use Rattle.phase_legal.specs.Stamps.{AreFrom, AreStamps, AreUpTo, item_in}
use Rattle.phase_legal.specs.Turns.{AreByHands, place_of, words_in}
use Rattle.import_lock.specs.Begun.{Begins, IsUnused}
use Rattle.import_lock.specs.Kept.{AreStamped, IsFree, IsImporter, IsImporting, IsStamped, items_of_stamp, left}
use Rattle.import_lock.specs.Terms.{AreTerms, ImportTerms, ops_told, past_ops, rules_in}
use Rattle.import_lock.specs.declared.state.ImportState.{ImportState}

module _ {J : Type 0} (verdict : J → Net → Route → Verdict) (key : ImportTerms) (source : Source) (a : ImportState J) (terms : AreTerms key source) (b : Begins verdict key source a.importer a.port a.turns a.stamp)
    (unrecorded : a.ops.items ≡ []) (rest : left a ≡ []) where
  none_told : ops_told key (front a.turns.1) ≡ []
  none_told = ap (ops_told key) b.unturned

  importing : IsImporting verdict key [] a
  importing = record {
    source = source;
    terms = terms;
    importer = subst (λ z. IsImporter verdict source (z ++ past_ops key) a.importer) (sym none_told) b.importer;
    port = b.port;
    port_number = b.port_number;
    turns = b.turns;
    marks = b.marks;
    hands = subst (AreByHands key.phase.lines key.phase.starter) (sym b.unturned) tt;
    lines = ap (map (λ r. r.line)) unrecorded ∙ ap (map place_of) (sym b.unturned);
    over = ap (map (λ r. r.over)) unrecorded ∙ ap (λ z. reverse (map (λ d. d.over) (dones (rules_in key) key.number (past_ops key) z))) (sym none_told);
    family = subst (AllByRecursion (IsOfFamily key.port.1.opening.family)) (sym none_told) tt;
    says = subst (λ z. AreMade z []) (sym b.unmade) tt;
    sent = rest ∙ ap (λ z. reverse (given (rules_in key) key.number (past_ops key) z)) (sym none_told);
  }

  no_items : (s : TableId × Seat ℕ) → IsUnused s → items_of_stamp s ≡ []
  no_items s is = ap (λ z. reverse (map item_in (words_in z))) is.unmarked

  stamped : (o : Option (TableId × Seat ℕ)) → IfSome o IsUnused → IfSome o (IsStamped verdict key [] [] a)
  stamped None is = tt
  stamped (Some s) is = record {
    number = is.number;
    are = subst (λ z. AreStamps (rules_in key) key.number (past_ops key) None [] z []) (sym (no_items s is)) tt;
    seen = subst (AreUpTo (head_of a.port.1)) (sym (no_items s is)) tt;
    behind = subst (AreFrom key.port.1.start) (sym (no_items s is)) tt;
  }

  pub begun : IsFree verdict key [] a
  begun = record {
    importing = importing;
    rest = λ _. rest;
    stamped = λ _. subst (λ z. AreStamped verdict key [] z a) (sym none_told) (stamped a.stamp b.unused);
    so_far = record { late = []; before = []; few = omega arith; all = none_told; stamped = stamped a.stamp b.unused };
  }
