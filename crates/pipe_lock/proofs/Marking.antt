-- The marks of an operation, in one direction and in both.
use Rattle.std.proofs.Common.{◌≡◌, ℕ, ◌≤◌, arith, List, [], ◌∷◌, ◌++◌, map, reverse, Some, refl, sym, ap, subst, ◌∙◌}
use Rattle.std.specs.Prelude.{IfOk, OnErr}
use Rattle.std.specs.declared.result.Result.{Result}
use Rattle.std.specs.declared.result.Result.TheVariants.{Ok, Err}
use Rattle.std.proofs.lemmas.List.{map-append, reverse-append}
use Rattle.atomic_table.specs.Seated.{TableId}
use Rattle.attrs.specs.declared.route.Change.{Change}
use Rattle.export_core.specs.declared.log.LogItem.{LogItem}
use Rattle.import_core.specs.declared.operation.Op.{Op}
use Rattle.import_core.specs.declared.step.Mark.{Mark}
use Rattle.import_lock.specs.Kept.{items_of_stamp}
use Rattle.jour_rule.specs.declared.views.Terms.{Terms}
use Rattle.jour_rule.specs.declared.views.View.{View as Seat}
use Rattle.jour.specs.Seats.{own}
use Rattle.core_machine.specs.Rules.{Rules, Signal, Stay, Rise, Fall, Renew}
use Rattle.core_machine.specs.Signals.{Notice, with_signal}
use Rattle.core_setup.specs.Protocols.{signal_of}
use Rattle.table_shared.specs.Opening.{TableOpening}
use Rattle.phase_legal.specs.Stamps.{AreFrom, AreStamps, item_in, items_of, mark_words, notices_from}
use Rattle.phase_legal.specs.Turns.{words_in}
use Rattle.pipe_lock.specs.Calls.{HasStamped, IsDue, IsSameStamp}
use Rattle.pipe_lock.specs.Kept.{IsMarked, IsMarkedSoFar}
use Rattle.pipe_lock.specs.Terms.{DirectionTerms, WritesTable, PipeTerms, past_ops, rules_in}
use Rattle.pipe_lock.specs.declared.state.PipeState.{PipeState}

item_back : (s : Signal) (h : ℕ) → reverse (map item_in (map mark_words (items_of s h))) ≡ items_of s h
item_back Stay h = refl
item_back Rise h = refl
item_back Fall h = refl
item_back Renew h = refl

-- the items of a stamp with one mark more
items_more : (s : Signal) (h : ℕ) (words more : List (List ℕ)) → more ≡ words ++ map mark_words (items_of s h) → reverse (map item_in more) ≡ items_of s h ++ reverse (map item_in words)
items_more s h words more is =
    ap (λ z. reverse (map item_in z)) is
    ∙ ap reverse (map-append item_in words (map mark_words (items_of s h)))
    ∙ reverse-append (map item_in words) (map item_in (map mark_words (items_of s h)))
    ∙ ap (λ z. z ++ reverse (map item_in words)) (item_back s h)

from_more : (s : Signal) (h n : ℕ) (items : List LogItem) → n ≤ h → AreFrom n items → AreFrom n (items_of s h ++ items)
from_more Stay h n items le from = from
from_more Rise h n items le from = (le, from)
from_more Fall h n items le from = from
from_more Renew h n items le from = from

-- behind an operation of the phase no up of a direction is the opening
stamps_more : (rules : Rules) (i table h : ℕ) (past : List Op) (op : Op) (earlier : List Op) (made : List (ℕ × Change)) (items : List LogItem) (ns : List Notice) (s : Signal) → AreStamps rules i past (Some table) made items ns
    → AreStamps rules i past (Some table) made (items_of s h ++ items) (with_signal s (op ∷ earlier) ns)
stamps_more rules i table h past op earlier made items ns Stay are = are
stamps_more rules i table h past op earlier made items ns Rise are = ((refl, λ none. absurd (let bad : op ∷ earlier ≡ [] = none in cc)), are)
stamps_more rules i table h past op earlier made items ns Fall are = (refl, are)
stamps_more rules i table h past op earlier made items ns Renew are = (refl, are)

-- ---- a direction

module _ (key : PipeTerms) (d : DirectionTerms) (op : Op) (earlier : List Op) (mark : Mark) (s t : TableId × Seat ℕ) (same : IsSameStamp s t) where
  pub marked_more : WritesTable key d → signal_of mark ≡ ((rules_in key).gives key.number (earlier ++ past_ops key) op).signal → HasStamped d.table (signal_of mark) s t → IsMarked key d earlier s → IsMarked key d (op ∷ earlier) t
  marked_more is signal did were =
      let items_are : items_of_stamp t ≡ items_of (signal_of mark) did.head ++ items_of_stamp s = items_more (signal_of mark) did.head (words_in (own s.1)) (words_in (own t.1)) did.said in
      let rules = rules_in key in
      let past = past_ops key in
      let ns = notices_from rules key.number past earlier in
      let before : AreStamps rules key.number past (Some is.target) [] (items_of_stamp s) ns = subst (λ z. AreStamps rules key.number past z [] (items_of_stamp s) ns) is.target_is were.are in
      let after : AreStamps rules key.number past (Some is.target) [] (items_of (signal_of mark) did.head ++ items_of_stamp s) (with_signal (signal_of mark) (op ∷ earlier) ns) =
      stamps_more rules key.number is.target did.head past op earlier [] (items_of_stamp s) ns (signal_of mark) before in
      record {
        number = same.number ∙ were.number;
        are =
            subst (λ z. AreStamps rules key.number past z [] (items_of_stamp t) (notices_from rules key.number past (op ∷ earlier))) (sym is.target_is)
            (subst (λ z. AreStamps rules key.number past (Some is.target) [] z (notices_from rules key.number past (op ∷ earlier))) (sym items_are)
            (subst (λ z. AreStamps rules key.number past (Some is.target) [] (items_of (signal_of mark) did.head ++ items_of_stamp s) (with_signal z (op ∷ earlier) ns)) signal after));
        behind = subst (AreFrom d.table.1.start) (sym items_are) (from_more (signal_of mark) did.head d.table.1.start (items_of_stamp s) did.least were.behind);
      }

  pub unmarked_stays : own t.1 ≡ own s.1 → IsMarked key d earlier s → IsMarked key d earlier t
  unmarked_stays receipts were =
      let items_are : items_of_stamp t ≡ items_of_stamp s = ap (λ z. reverse (map item_in (words_in z))) receipts in
      record {
        number = same.number ∙ were.number;
        are = subst (λ z. AreStamps (rules_in key) key.number (past_ops key) ((rules_in key).target d.number) [] z (notices_from (rules_in key) key.number (past_ops key) earlier)) (sym items_are) were.are;
        behind = subst (AreFrom d.table.1.start) (sym items_are) were.behind;
      }

-- nothing of a direction is late, or the last mark
pub none_late : (key : PipeTerms) (d : DirectionTerms) (ops : List Op) (s : TableId × Seat ℕ) → IsMarked key d ops s → IsMarkedSoFar key d ops s
none_late key d ops s is = record { late = []; before = ops; few = omega arith; all = refl; marked = is }

pub one_late : (key : PipeTerms) (d : DirectionTerms) (op : Op) (ops : List Op) (s : TableId × Seat ℕ) → IsMarked key d ops s → IsMarkedSoFar key d (op ∷ ops) s
one_late key d op ops s is = record { late = op ∷ []; before = ops; few = omega arith; all = refl; marked = is }

-- ---- both

module _ (key : PipeTerms) (op : Op) (earlier : List Op) (mark : Mark) (a : PipeState) (due : IsDue key op earlier mark a) where
  pub out_marked : (table : TableId × Terms TableOpening) (t : TableId × Seat ℕ) → key.out.table ≡ table → IsSameStamp a.out t → HasStamped table (signal_of mark) a.out t → IsMarked key key.out (op ∷ earlier) t
  out_marked table t here same did = marked_more key key.out op earlier mark a.out t same due.piping.terms.out due.signal (subst (λ z. HasStamped z (signal_of mark) a.out t) (sym here) did) due.marked.out

  pub back_marked : (table : TableId × Terms TableOpening) (t : TableId × Seat ℕ) → key.back.table ≡ table → IsSameStamp a.back t → HasStamped table (signal_of mark) a.back t → IsMarked key key.back (op ∷ earlier) t
  back_marked table t here same did = marked_more key key.back op earlier mark a.back t same due.piping.terms.back due.signal (subst (λ z. HasStamped z (signal_of mark) a.back t) (sym here) did) due.marked.back

  pub out_late : (t : TableId × Seat ℕ) → IsSameStamp a.out t → own t.1 ≡ own a.out.1 → IsMarkedSoFar key key.out (op ∷ earlier) t
  out_late t same receipts = one_late key key.out op earlier t (unmarked_stays key key.out op earlier mark a.out t same receipts due.marked.out)

  pub back_late : IsMarkedSoFar key key.back (op ∷ earlier) a.back
  back_late = one_late key key.back op earlier a.back due.marked.back

  -- by the answer of the second
  pub back_so_far : {A E : Type 0} (r : Result A E) (table : TableId × Terms TableOpening) (t : TableId × Seat ℕ) → key.back.table ≡ table → IsSameStamp a.back t → IfOk r (λ _. HasStamped table (signal_of mark) a.back t) → OnErr r (own t.1 ≡ own a.back.1)
      → IsMarkedSoFar key key.back (op ∷ earlier) t
  back_so_far (Ok x) table t here same did none = none_late key key.back (op ∷ earlier) t (back_marked table t here same did)
  back_so_far (Err e) table t here same did none = one_late key key.back op earlier t (unmarked_stays key key.back op earlier mark a.back t same none due.marked.back)
