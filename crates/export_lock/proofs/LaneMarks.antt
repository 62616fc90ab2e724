-- What a mark makes of a pipe's direction, and what is so of one that is down.
use Rattle.std.proofs.Common.{◌≡◌, inl, inr, ◌||◌, true, false, ℕ, List, [], ◌∷◌, ◌++◌, reverse, Option, None, Some, is_some, refl, sym, ap, subst, ◌∙◌, append-nil}
use Rattle.std.specs.Prelude.{IfOk, OnErr, option_map}
use Rattle.std.specs.declared.result.Result.{Result}
use Rattle.std.specs.declared.result.Result.TheVariants.{Ok, Err}
use Rattle.std.proofs.lemmas.Bool.{cases_Bool}
use Rattle.std.proofs.lemmas.List.{reverse-append}
use Rattle.atomic_table.specs.Seated.{TableId}
use Rattle.attrs.specs.declared.journal.JEntry.{JEntry}
use Rattle.attrs.specs.declared.judge.Verdict.{Verdict}
use Rattle.attrs.specs.declared.route.Route.{Route}
use Rattle.bits_ip.specs.Prefix.{Net}
use Rattle.core_machine.specs.Enters.{enters, withdrawn}
use Rattle.core_machine.specs.Histories.{content_of}
use Rattle.core_machine.specs.Rules.{Signal, Stay, Rise, Fall, Renew}
use Rattle.core_machine.proofs.Entering.{closed_blank, stands_entered}
use Rattle.export_core.specs.Calls.{AreStanding}
use Rattle.export_core.specs.Histories.{course_of}
use Rattle.export_core.specs.Logs.{Follows, stretch}
use Rattle.export_core.specs.Marks.{holds}
use Rattle.export_core.specs.Standing.{is_open, standing_at}
use Rattle.export_core.specs.States.{value_for}
use Rattle.export_core.specs.declared.log.Key.{Key}
use Rattle.export_core.specs.declared.log.LogItem.{LogItem}
use Rattle.export_core.specs.declared.log.LogItem.TheVariants.{Up, Down, Reload}
use Rattle.export_core.proofs.Keys.{same_key_itself}
use Rattle.jour_rule.specs.declared.views.Terms.{Terms}
use Rattle.jour.specs.Seats.{front, head_of, journal, number_of, own}
use Rattle.table_shared.specs.Opening.{TableOpening}
use Rattle.table_shared.specs.Records.{IsLawful}
use Rattle.export_lock.specs.Flushes.{IsWithdrawn}
use Rattle.export_lock.specs.Kept.{GoesOn}
use Rattle.export_lock.specs.Lanes.{IsLane, LaneTerms}
use Rattle.export_lock.specs.MarkTurns.{HasMarked, IsUnmarked, withdrawn_behind}
use Rattle.export_lock.specs.Terms.{BeginsWith}
use Rattle.export_lock.specs.declared.lane.PipeLane.{PipeLane}
use Rattle.export_lock.proofs.Entering.{enters_as, lane_reads, standing_is}

-- ---- a direction that is down

holds_none : (ks : List Key) → ((k : Key) → holds k ks ≡ false) → ks ≡ []
holds_none [] none = refl
holds_none (k ∷ ks) none = absurd (let bad : true ≡ false = sym (ap (λ b. b || holds k ks) (same_key_itself k)) ∙ none k in cc)

front_none : (xs ys : List Key) → xs ++ ys ≡ [] → xs ≡ []
front_none [] ys e = refl
front_none (x ∷ xs) ys e = absurd (let bad : x ∷ (xs ++ ys) ≡ [] = e in cc)

no_stretch : (s : Option ℕ) → is_some s ≡ false → s ≡ None
no_stretch None e = refl
no_stretch (Some h) e = absurd (let bad : true ≡ false = e in cc)

module _ {J : Type 0} (verdict : J → Net → Route → Verdict) (done : List Key) (key : LaneTerms) (a : PipeLane J) (o : IsLane verdict done key a) (law : IsLawful key.exports.table.1.opening (front a.state.cursor.0.1))
    (down : is_open a.state.exporter.log ≡ false) where
  abbrev history : List JEntry
  history = key.exports.before ++ law.0

  begins : BeginsWith key.exports (front a.state.cursor.0.1) history
  begins = record { said = law.0; records = law.1; begins = ([], append-nil history) }

  follows : Follows (value_for verdict a.state.exporter) (course_of key.exports.exports.spec history) (reverse a.state.exporter.log)
  follows = (o.direction.exporting.stands history begins).follows

  pub stands_none : (k : Key) → standing_at k a.state.exporter.log ≡ None
  stands_none k = closed_blank (value_for verdict a.state.exporter) (course_of key.exports.exports.spec history) (reverse a.state.exporter.log) follows (no_stretch (stretch (reverse a.state.exporter.log)) down) k

  pub done_none : done ≡ []
  done_none = elim (cases_Bool a.state.exporter.flushing) [
    | inl w ↦ front_none done a.state.exporter.left (holds_none (done ++ a.state.exporter.left) (λ k. (o.direction.stood w).are k ∙ ap is_some (stands_none k)))
    | inr w ↦ o.direction.none w
  ]

  pub nothing_there : (k : Key) → content_of (enters key.rules (reverse a.state.exporter.log)) k.net k.num ≡ None
  nothing_there k =
      stands_entered key.rules (value_for verdict a.state.exporter) (course_of key.exports.exports.spec history) (reverse a.state.exporter.log) follows k
      ∙ ap (option_map (key.rules.route k.num)) (stands_none k)

-- ---- a mark

module _ {J : Type 0} (verdict : J → Net → Route → Verdict) (done : List Key) (key : LaneTerms) (a b : PipeLane J) (port : b.port ≡ a.port) (keeps : GoesOn verdict a.state b.state) (o : IsLane verdict done key a) where
  -- what is refused
  pub lane_unmarked : IsUnmarked a.state b.state → IsLane verdict done key b
  lane_unmarked same =
      lane_reads verdict done key a b port (ap (λ z. z.log) same.exporter) keeps
      (record { flushing = ap (λ z. z.flushing) same.exporter; stays = λ _. (ap (λ z. z.log) same.exporter, ap (λ z. z.left) same.exporter) })
      o

  back : (x : LogItem) → b.state.exporter.log ≡ a.state.exporter.log ++ x ∷ [] → reverse b.state.exporter.log ≡ x ∷ reverse a.state.exporter.log
  back x log = ap reverse log ∙ reverse-append a.state.exporter.log (x ∷ [])

  -- behind it nothing is being withdrawn
  behind : b.state.exporter.flushing ≡ false → withdrawn done (enters key.rules (reverse a.state.exporter.log)) ≡ enters key.rules (reverse b.state.exporter.log) → IsLane verdict [] key b
  behind rest next =
      enters_as verdict key a b (ap journal port) (ap (λ z. number_of z.1.role) port) done [] (ap (λ z. own z.1) port) next
      (record { exporting = keeps true key.exports o.direction.exporting; none = λ _. refl; stood = λ yes. absurd (let bad : true ≡ false = sym yes ∙ rest in cc) })
      o

  -- with an item that enters nothing
  quietly : (x : LogItem) → b.state.exporter.flushing ≡ false → b.state.exporter.log ≡ a.state.exporter.log ++ x ∷ [] → enters key.rules (x ∷ reverse a.state.exporter.log) ≡ enters key.rules (reverse a.state.exporter.log) → done ≡ [] → IsLane verdict done key b
  quietly x rest log enters_nothing none =
      subst (λ d. IsLane verdict d key b) (sym none)
      (behind rest (ap (λ d. withdrawn d (enters key.rules (reverse a.state.exporter.log))) none ∙ sym enters_nothing ∙ ap (enters key.rules) (sym (back x log))))

  all_stood : IsWithdrawn a.state → AreStanding a.state.exporter.log done
  all_stood gone = elim (cases_Bool a.state.exporter.flushing) [
    | inl w ↦ subst (AreStanding a.state.exporter.log) (ap (λ ks. done ++ ks) gone.left ∙ append-nil done) (o.direction.stood w)
    | inr w ↦ subst (AreStanding a.state.exporter.log) (sym (o.direction.none w)) (gone.none w)
  ]

  pub lane_marked : (signal : Signal) → IsLawful a.state.cursor.0.1.seen.terms.opening (front a.state.cursor.0.1) → (signal ≡ Fall → IsWithdrawn a.state) → (signal ≡ Renew → a.state.exporter.flushing ≡ false) → HasMarked signal a.state b.state
      → IsLane verdict (withdrawn_behind signal done) key b
  lane_marked Stay law gone running m = lane_unmarked (record { exporter = m.exporter; list = m.list ∙ append-nil (front a.state.marks.1) })
  lane_marked Rise law gone running m =
      let lawful : IsLawful key.exports.table.1.opening (front a.state.cursor.0.1) = subst (λ (j : TableId × Terms TableOpening). IsLawful j.1.opening (front a.state.cursor.0.1)) o.direction.exporting.here law in
      quietly (Up (head_of b.state.cursor.0.1)) (ap (λ z. z.flushing) m.exporter) (ap (λ z. z.log) m.exporter) refl (done_none verdict done key a o lawful m.fits)
  lane_marked Fall law gone running m =
      behind (ap (λ z. z.flushing) m.exporter)
      (ap (λ ks. withdrawn ks (enters key.rules (reverse a.state.exporter.log))) (standing_is a.state.exporter.log done (all_stood (gone refl)))
      ∙ ap (enters key.rules) (sym (back Down (ap (λ z. z.log) m.exporter))))
  lane_marked Renew law gone running m =
      quietly Reload (ap (λ z. z.flushing) m.exporter ∙ running refl) (ap (λ z. z.log) m.exporter) refl (o.direction.none (running refl))

-- by its answer
module _ {J A E : Type 0} (verdict : J → Net → Route → Verdict) (a b : PipeLane J) (port : b.port ≡ a.port) (keeps : GoesOn verdict a.state b.state) where
  pub marked_kept : (r : Result A E) (signal : Signal) → IsLawful a.state.cursor.0.1.seen.terms.opening (front a.state.cursor.0.1) → (signal ≡ Fall → IsWithdrawn a.state) → (signal ≡ Renew → a.state.exporter.flushing ≡ false)
      → IfOk r (λ _. HasMarked signal a.state b.state) → IfOk r (λ _. (key : LaneTerms) (done : List Key) → IsLane verdict done key a → IsLane verdict (withdrawn_behind signal done) key b)
  marked_kept (Ok x) signal law gone running m = λ key done o. lane_marked verdict done key a b port keeps o signal law gone running m
  marked_kept (Err e) signal law gone running m = tt

  pub unmarked_kept : (r : Result A E) (P : Type 0) → OnErr r (IsUnmarked a.state b.state × P) → OnErr r (IsUnmarked a.state b.state × P × ((key : LaneTerms) (done : List Key) → IsLane verdict done key a → IsLane verdict done key b))
  unmarked_kept (Ok x) P same = tt
  unmarked_kept (Err e) P same = (same.0, same.1, λ key done o. lane_unmarked verdict done key a b port keeps o same.0)
