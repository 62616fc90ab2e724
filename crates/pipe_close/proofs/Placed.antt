-- The table of a number, among those that are closed.
use Rattle.std.proofs.Common.{◌≡◌, ℕ, List, Some, sym, ap, subst}
use Rattle.std.specs.Prelude.{slice_get}
use Rattle.atomic_table.specs.Seated.{TableId}
use Rattle.core_setup.proofs.PairLemmas.{get_one}
use Rattle.jour_rule.specs.declared.views.Entry.{Entry}
use Rattle.jour_rule.specs.declared.views.Terms.{Terms}
use Rattle.jour_rule.specs.declared.views.View.{View as Seat}
use Rattle.jour.specs.Seats.{front, journal}
use Rattle.table_shared.specs.Opening.{TableOpening}
use Rattle.phase_close.specs.Closed.{TableList, all_lists, list_of}
use Rattle.phase_close.specs.Whole.{entries_at, entries_in}
use Rattle.phase_close.proofs.Indexed.{get_map}
use Rattle.pipe_close.specs.Ended.{IsTableAt}

module _ (xs : List (TableId × Seat TableOpening)) (k : ℕ) (x : TableId × Seat TableOpening) (at : slice_get xs k ≡ Some x) (here : TableId × Terms TableOpening) (is : IsTableAt (all_lists xs) k here) where
  one : (here, is.0) ≡ list_of x
  one = get_one (all_lists xs) k (here, is.0) (list_of x) is.1 (get_map list_of xs k x at)

  pub here_is : here ≡ journal x
  here_is = ap (λ (z : TableList). z.0) one

  -- what holds of its terms and entries
  pub at_place : (P : Terms TableOpening → List Entry → Type 0) → P x.1.seen.terms (front x.1) → P here.1 (entries_at (all_lists xs) k)
  at_place P p =
      let terms = sym (ap (λ (z : TableId × Terms TableOpening). z.1) here_is) in
      let entries = sym (ap entries_in (get_map list_of xs k x at)) in
      subst (λ (z : Terms TableOpening × List Entry). P z.0 z.1) (λ j. (terms j, entries j)) p
