-- What a lane sends or withdraws is news to the table that it writes.
use Rattle.std.proofs.Common.{◌≡◌, ◌≢◌, inl, inr, ℕ, Bool, true, false, ◌||◌, List, [], ◌∷◌, ◌++◌, ◌+◌, drop, length, map, reverse, Option, Some, None, is_some, refl, sym, ap, subst, ◌∙◌}
use Rattle.std.specs.Prelude.{Contains, option_map, unwrap_or, if◌then◌else◌}
use Rattle.std.proofs.lemmas.List.{reverse-append, reverse-reverse}
use Rattle.attrs.specs.History.{after, empty, last_of}
use Rattle.attrs.specs.declared.attributes.Attrs.{Attrs}
use Rattle.attrs.specs.declared.journal.JEntry.{JEntry}
use Rattle.attrs.specs.declared.judge.Verdict.{Verdict}
use Rattle.attrs.specs.declared.route.Change.{Change}
use Rattle.attrs.specs.declared.route.Route.{Route}
use Rattle.bits_ip.specs.Prefix.{Net}
use Rattle.core_machine.specs.Enters.{change_to, enters, withdrawal, withdrawn}
use Rattle.core_machine.specs.Histories.{content_of}
use Rattle.core_machine.specs.Pipes.{passes}
use Rattle.core_machine.proofs.Entering.{content_key, stands_entered}
use Rattle.core_machine.proofs.KeyLists.{once_ascending}
use Rattle.export_core.specs.Calls.{AreStanding}
use Rattle.export_core.specs.Histories.{course_of}
use Rattle.export_core.specs.Keys.{same_key}
use Rattle.export_core.specs.Marks.{IsOnce, holds}
use Rattle.export_core.specs.Standing.{standing_at}
use Rattle.export_core.specs.States.{value_for}
use Rattle.export_core.specs.declared.log.Key.{Key}
use Rattle.export_core.specs.declared.log.Sending.{Sending}
use Rattle.export_core.proofs.Keys.{key_tells, same_key_itself}
use Rattle.jour_rule.specs.Journal.{receipts}
use Rattle.jour_rule.proofs.Fronts.{receipts_more}
use Rattle.jour_rule.specs.declared.views.Entry.{Entry}
use Rattle.jour_rule.specs.declared.views.View.{View as Seat}
use Rattle.jour.specs.Seats.{front, number_of, own}
use Rattle.phase_legal.specs.Changes.{AreMade, changes_in}
use Rattle.table_shared.specs.Answers.{IsEntered, IsSame}
use Rattle.table_shared.specs.Opening.{TableOpening, sources_of}
use Rattle.table_shared.specs.Records.{AreRecords, AreSaid, at_first, change_of, content_after}
use Rattle.table_shared.proofs.Records.{after_both}
use Rattle.export_lock.specs.Lanes.{IsLane, LaneTerms}
use Rattle.export_lock.specs.Terms.{BeginsWith}
use Rattle.export_lock.specs.declared.lane.PipeLane.{PipeLane}

-- the records that receipts say
records_of : (rs : List (ℕ × List ℕ)) (made : List (ℕ × Change)) → AreMade rs made → (mine : List JEntry) × AreSaid rs mine × (map change_of mine ≡ changes_in made)
records_of [] [] are = ([], tt, refl)
records_of [] (m ∷ made) are = absurd are
records_of (r ∷ rs) [] are = absurd are
records_of (r ∷ rs) (m ∷ made) are =
    let rest = records_of rs made are.1 in
    let this : (said : JEntry) × _ × (change_of said ≡ m.1) = are.0.1 in
    (this.0 ∷ rest.0, (this.1, rest.1), λ i. this.2 i ∷ rest.2 i)

-- what the earlier changes leave, with the later ones behind them
content_join : (later : List Change) (earlier : List Change) → content_of (reverse later ++ earlier) ≡ after (content_of earlier) later
content_join later earlier =
    ap (after empty) (reverse-append (reverse later) earlier ∙ ap (λ z. reverse earlier ++ z) (reverse-reverse later))
    ∙ after_both empty (reverse earlier) later

-- ---- keys that are withdrawn

or_parts : (a b : Bool) → (a || b) ≡ false → (a ≡ false) × (b ≡ false)
or_parts true b e = absurd (let bad : true ≡ false = e in cc)
or_parts false b e = (refl, e)

held_there : (done : List Key) (k : Key) (rest : List Key) → holds k (done ++ k ∷ rest) ≡ true
held_there [] k rest = ap (λ b. b || holds k rest) (same_key_itself k)
held_there (d ∷ done) k rest = either (same_key d k) (held_there done k rest) where
  either : (b : Bool) → holds k (done ++ k ∷ rest) ≡ true → (b || holds k (done ++ k ∷ rest)) ≡ true
  either true e = refl
  either false e = e

not_before : (done : List Key) (k : Key) (rest : List Key) → IsOnce (done ++ k ∷ rest) → holds k done ≡ false
not_before [] k rest once = refl
not_before (d ∷ done) k rest once = elim (key_tells d k) [
  | inl w ↦ absurd (let bad : true ≡ false = sym (held_there done k rest) ∙ subst (λ (q : Key). holds q (done ++ k ∷ rest) ≡ false) w.1 once.0 in cc)
  | inr w ↦ ap (λ b. b || holds k done) w.0 ∙ not_before done k rest once.1
]

-- other keys stand as before
stays_withdrawn : (done : List Key) (k : Key) (h : List Change) → holds k done ≡ false → content_of (withdrawn done h) k.net k.num ≡ content_of h k.net k.num
stays_withdrawn [] k h none = refl
stays_withdrawn (d ∷ done) k h none =
    let parts = or_parts (same_key d k) (holds k done) none in
    stays_withdrawn done k (withdrawal d ∷ h) parts.1
    ∙ content_key (withdrawal d) h k.net k.num
    ∙ ap (λ (b : Bool). if b then None else content_of h k.net k.num) parts.0

-- ---- what stands in the table that is written

module _ (alone : (opening : TableOpening) (entries : List Entry) (said mine : List JEntry) (start port num : ℕ) (net : Net) → AreRecords opening (at_first opening) entries said → AreSaid (receipts start port entries) mine
    → ((other : ℕ) → Contains (sources_of opening other) num → other ≡ port) → content_after opening said net num ≡ after (at_first opening) (map change_of mine) net num)
    {J : Type 0} (verdict : J → Net → Route → Verdict) (done : List Key) (key : LaneTerms) (a : PipeLane J) (o : IsLane verdict done key a) (k : Key) (is_passed : passes key.rules key.number k.num ≡ true)
    (new : Seat TableOpening) (terms : new.seen.terms ≡ a.port.1.seen.terms) (number : number_of new.role ≡ number_of a.port.1.role) (same : own new ≡ own a.port.1) where
  opens : new.seen.terms.opening ≡ key.target.1.opening
  opens = ap (λ z. z.opening) terms ∙ ap (λ z. z.1.opening) o.port

  -- it is what the log says, less what is withdrawn
  stood : (said : List JEntry) → AreRecords new.seen.terms.opening (at_first new.seen.terms.opening) (front new) said
      → content_after new.seen.terms.opening said k.net k.num ≡ content_of (withdrawn done (enters key.rules (reverse a.state.exporter.log))) k.net k.num
  stood said records =
      let M : List Change = changes_in o.made in
      let L : List Change = enters key.rules key.exports.log in
      let mine = records_of (own new) o.made (subst (λ z. AreMade z o.made) (sym same) o.says) in
      let only : (other : ℕ) → Contains (sources_of new.seen.terms.opening other) k.num → other ≡ number_of new.role =
      λ other has. o.terms.alone.alone other k.num (subst (λ z. Contains (sources_of z other) k.num) opens has) is_passed ∙ sym o.port_number ∙ sym number in
      alone new.seen.terms.opening (front new) said mine.0 new.seen.terms.start (number_of new.role) k.num k.net records mine.1 only
      ∙ ap (λ z. after (at_first new.seen.terms.opening) z k.net k.num) mine.2
      ∙ ap (unwrap_or (last_of k.net k.num M)) (ap (λ z. at_first z k.net k.num) opens ∙ o.terms.opening k.net k.num is_passed)
      ∙ (λ i. sym (content_join M L) i k.net k.num)
      ∙ ap (λ z. content_of z k.net k.num) o.entered

  module _ (history : List JEntry) (b : BeginsWith key.exports (front a.state.cursor.0.1) history) where
    -- the log says what stands as sent
    logged : content_of (enters key.rules (reverse a.state.exporter.log)) k.net k.num ≡ option_map (key.rules.route k.num) (standing_at k a.state.exporter.log)
    logged = stands_entered key.rules (value_for verdict a.state.exporter) (course_of key.exports.exports.spec history) (reverse a.state.exporter.log) (o.direction.exporting.stands history b).follows k

    pub withdrawal_is_news : (rest : List Key) (at : ℕ) → AreStanding a.state.exporter.log (done ++ k ∷ rest) → IsSame (withdrawal k) a.port.1 new at → ⊥
    withdrawal_is_news rest at are is =
        let there : is_some (standing_at k a.state.exporter.log) ≡ true = sym (are.are k) ∙ held_there done k rest in
        let none : option_map (key.rules.route k.num) (standing_at k a.state.exporter.log) ≡ None =
        sym logged
        ∙ sym (stays_withdrawn done k (enters key.rules (reverse a.state.exporter.log)) (not_before done k rest (once_ascending (done ++ k ∷ rest) are.ascend)))
        ∙ sym (stood is.stands.0 is.stands.1)
        ∙ is.stands.2 in
        by_value (standing_at k a.state.exporter.log) there none
      where
        by_value : (o : Option Attrs) → is_some o ≡ true → option_map (key.rules.route k.num) o ≡ None → ⊥
        by_value None some none = let bad : false ≡ true = some in cc
        by_value (Some v) some none = let bad : Some (key.rules.route k.num v) ≡ None = none in cc

-- lists that are one longer by something
without_last : {A : Type 0} (xs ys : List A) (x y : A) → xs ++ x ∷ [] ≡ ys ++ y ∷ [] → xs ≡ ys
without_last xs ys x y e =
    sym (reverse-reverse xs)
    ∙ ap (λ l. reverse (drop 1 l)) (sym (reverse-append xs (x ∷ [])) ∙ ap reverse e ∙ reverse-append ys (y ∷ []))
    ∙ reverse-reverse ys

route_one : (f : Attrs → Route) → ((v w : Attrs) → f v ≡ f w → v ≡ w) → (a b : Option Attrs) → option_map f a ≡ option_map f b → a ≡ b
route_one f one None None e = refl
route_one f one None (Some w) e = absurd (let bad : None ≡ Some (f w) = e in cc)
route_one f one (Some v) None e = absurd (let bad : Some (f v) ≡ None = e in cc)
route_one f one (Some v) (Some w) e = ap Some (one v w (let is : Some (f v) ≡ Some (f w) = e in let same : f v ≡ f w = (cc) in same))

module _ (alone : (opening : TableOpening) (entries : List Entry) (said mine : List JEntry) (start port num : ℕ) (net : Net) → AreRecords opening (at_first opening) entries said → AreSaid (receipts start port entries) mine
    → ((other : ℕ) → Contains (sources_of opening other) num → other ≡ port) → content_after opening said net num ≡ after (at_first opening) (map change_of mine) net num)
    {J : Type 0} (verdict : J → Net → Route → Verdict) where
  pub send_is_news : (key : LaneTerms) (a : PipeLane J) (history : List JEntry) (x : Sending) (new : Seat TableOpening) (at : ℕ) → IsLane verdict [] key a → BeginsWith key.exports (front a.state.cursor.0.1) history
      → passes key.rules key.number x.key.num ≡ true → x.value ≢ standing_at x.key a.state.exporter.log → new.seen.terms ≡ a.port.1.seen.terms → number_of new.role ≡ number_of a.port.1.role
      → IsSame (change_to key.rules x.key x.value) a.port.1 new at → ⊥
  send_is_news key a history x new at o b is_passed differs terms number is =
      differs
      (route_one (key.rules.route x.key.num) (λ v w e. o.terms.rules_are.told x.key.num v w e) x.value (standing_at x.key a.state.exporter.log)
      (sym is.stands.2
      ∙ stood alone verdict [] key a o x.key is_passed new terms number is.receipts is.stands.0 is.stands.1
      ∙ logged alone verdict [] key a o x.key is_passed new terms number is.receipts history b))

  pub flush_is_news : (key : LaneTerms) (a : PipeLane J) (history : List JEntry) (done : List Key) (k : Key) (rest : List Key) (new : Seat TableOpening) (at : ℕ) → IsLane verdict done key a → BeginsWith key.exports (front a.state.cursor.0.1) history
      → passes key.rules key.number k.num ≡ true → AreStanding a.state.exporter.log (done ++ k ∷ rest) → new.seen.terms ≡ a.port.1.seen.terms → number_of new.role ≡ number_of a.port.1.role
      → IsSame (withdrawal k) a.port.1 new at → ⊥
  flush_is_news key a history done k rest new at o b is_passed are terms number is =
      withdrawal_is_news alone verdict done key a o k is_passed new terms number is.receipts history b rest at are is

  -- what is sent again stands there already
  pub again_is_old : (key : LaneTerms) (a : PipeLane J) (history : List JEntry) (x : Sending) (new : Seat TableOpening) (at : ℕ) → IsLane verdict [] key a → BeginsWith key.exports (front a.state.cursor.0.1) history
      → passes key.rules key.number x.key.num ≡ true → x.value ≡ standing_at x.key a.state.exporter.log → new.seen.terms ≡ a.port.1.seen.terms → number_of new.role ≡ number_of a.port.1.role
      → IsEntered (change_to key.rules x.key x.value) a.port.1 new at → ⊥
  again_is_old key a history x new at o b is_passed same terms number is =
      let seat : Seat TableOpening = record new { seen = record new.seen { front = is.before } } in
      let start : ℕ = new.seen.terms.start in
      let port : ℕ = number_of new.role in
      let place : ℕ = start + length is.before + 1 in
      let made : receipts start port is.before ++ (place, is.words) ∷ [] ≡ own a.port.1 ++ (at, is.words) ∷ [] =
      sym (receipts_more start port place is.before is.words refl) ∙ ap (receipts start port) (sym is.last) ∙ is.receipt in
      let owned : own seat ≡ own a.port.1 = without_last (receipts start port is.before) (own a.port.1) (place, is.words) (at, is.words) made in
      is.content.2.0
      (stood alone verdict [] key a o x.key is_passed seat terms number owned is.content.0 is.content.1
      ∙ logged alone verdict [] key a o x.key is_passed seat terms number owned history b
      ∙ ap (option_map (key.rules.route x.key.num)) (sym same))
