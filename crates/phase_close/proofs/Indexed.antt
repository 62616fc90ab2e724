-- One table of those that are closed.
use Rattle.std.proofs.Common.{◌≡◌, ℕ, zero, suc, ◌<◌, List, [], ◌∷◌, length, map, set, Some, sym, ap, subst, ◌∙◌, arith}
use Rattle.std.specs.Prelude.{slice_get}
use Rattle.std.proofs.lemmas.List.{length-map}
use Rattle.atomic_table.specs.Seated.{TableId}
use Rattle.attrs.specs.declared.judge.Verdict.{Verdict}
use Rattle.attrs.specs.declared.route.Route.{Route}
use Rattle.bits_ip.specs.Prefix.{Net}
use Rattle.core_setup.proofs.Numbered.{none_some, some_same}
use Rattle.core_setup.proofs.PairLemmas.{get_one, get_within}
use Rattle.jour_rule.specs.declared.views.View.{View as Seat}
use Rattle.jour.specs.Seats.{front, journal}
use Rattle.table_shared.specs.Opening.{TableOpening}
use Rattle.table_shared.specs.Phases.{IsRetired as IsPortRetired}
use Rattle.phase_room.specs.Sessions.{IsChannelOf}
use Rattle.phase_close.specs.Closed.{AreHeard, EndsOver, IsSessionEnded, SessionTerms, TableList, all_lists, list_of}
use Rattle.phase_close.specs.Left.{IsSessionLeft}
use Rattle.phase_close.specs.declared.seats.SessionEnded.{SessionEnded}
use Rattle.phase_close.specs.declared.session.SessionLeft.{SessionLeft}

abbrev Closed : Type 0
Closed = TableId × Seat TableOpening

pub get_map : {A B : Type 0} (f : A → B) (xs : List A) (k : ℕ) (x : A) → slice_get xs k ≡ Some x → slice_get (map f xs) k ≡ Some (f x)
get_map f [] k x e = none_some e
get_map f (y ∷ xs) zero x e = ap Some (ap f (some_same e))
get_map f (y ∷ xs) (suc k) x e = get_map f xs k x e

-- a table that has the same list
pub same_lists : (xs : List Closed) (k : ℕ) (x y : Closed) → slice_get xs k ≡ Some x → list_of y ≡ list_of x → all_lists (set xs k y) ≡ all_lists xs
same_lists [] k x y at same = none_some at
same_lists (z ∷ xs) zero x y at same = ap (λ l. l ∷ all_lists xs) (same ∙ sym (ap list_of (some_same at)))
same_lists (z ∷ xs) (suc k) x y at same = ap (λ l. list_of z ∷ l) (same_lists xs k x y at same)

pub list_within : (xs : List Closed) (k : ℕ) (l : TableList) → slice_get (all_lists xs) k ≡ Some l → k < length xs
list_within xs k l at = let inside = get_within (all_lists xs) k l at in let many = length-map xs list_of in omega (arith, inside, many)

module _ {J : Type 0} (verdict : J → Net → Route → Verdict) (xs : List Closed) (x : Closed) (left : SessionLeft J) (ended : SessionEnded J) (at : slice_get xs left.table ≡ Some x) (table : ended.table ≡ left.table)
    (done : (key : SessionTerms) → IsSessionLeft verdict key.protocol key.channel key.hands left → IsChannelOf key.protocol key.channel → key.protocol.port ≡ journal x → IsSessionEnded verdict key (front x.1) ended)
    (heard : AreHeard x.1.seen.terms (front x.1) left.channel ended.exporter) (retired : IsPortRetired x.1.seen.terms (front x.1) left.port) where
  pub ends_at : EndsOver verdict (all_lists xs) left ended
  ends_at = (
    table,
    λ key e.
        let same : (key.protocol.port, e.entries) ≡ list_of x = get_one (all_lists xs) left.table (key.protocol.port, e.entries) (list_of x) e.there (get_map list_of xs left.table x at) in
        record {
          entries = e.entries;
          there = ap (slice_get (all_lists xs)) table ∙ e.there;
          session = subst (λ z. IsSessionEnded verdict key z ended) (sym (ap (λ (z : TableList). z.1) same)) (done key e.left_is e.channel_is (ap (λ (z : TableList). z.0) same));
        },
    λ l there. subst (λ (z : TableList). AreHeard z.0.1 z.1 left.channel ended.exporter) (get_one (all_lists xs) left.table (list_of x) l (get_map list_of xs left.table x at) there) heard,
    λ l there. subst (λ (z : TableList). IsPortRetired z.0.1 z.1 left.port) (get_one (all_lists xs) left.table (list_of x) l (get_map list_of xs left.table x at) there) retired,
  )
