-- Turns of a lane: what its outlet was given is what its exporter sent, and what it keeps is kept.
use Rattle.std.proofs.Common.{◌≡◌, ◌≢◌, ◌==◌, ℕ, Bool, true, false, ◌&&◌, ◌||◌, List, [], ◌∷◌, ◌++◌, map, reverse, Option, Some, None, inl, inr, refl, sym, ap, subst, ◌∙◌, append-nil, append_assoc}
use Rattle.std.specs.Prelude.{Contains, IfErr, IfOk, IfSome, OnErr, option_map, if◌then◌else◌}
use Rattle.std.specs.List.{list_any}
use Rattle.std.specs.declared.result.Result.{Result}
use Rattle.std.specs.declared.result.Result.TheVariants.{Ok, Err}
use Rattle.std.proofs.lemmas.Bool.{cases_Bool, eq-eqb}
use Rattle.atomic_table.specs.Seated.{TableId}
use Rattle.attrs.specs.declared.attributes.Attrs.{Attrs}
use Rattle.attrs.specs.declared.journal.JEntry.{JEntry}
use Rattle.attrs.specs.declared.judge.Verdict.{Verdict}
use Rattle.attrs.specs.declared.route.Route.{Route}
use Rattle.attrs.specs.declared.route.Src.{Src}
use Rattle.attrs.proofs.Rows.{Contains-cons_cases, Contains-nothing}
use Rattle.bits_ip.specs.Prefix.{Net}
use Rattle.core_machine.specs.Enters.{change_to, enters, withdrawal, withdrawn}
use Rattle.core_machine.specs.Pipes.{is_pipe, passes}
use Rattle.export_core.specs.Calls.{AreStanding, Flushes, IsNews, Pushes, PushesOut}
use Rattle.export_core.specs.Candidates.{among, has_num}
use Rattle.export_core.specs.Standing.{standing_at}
use Rattle.export_core.specs.declared.exporter.Pushed.{Pushed}
use Rattle.export_core.specs.declared.exporter.Pushed.TheVariants.{Nothing, Quiet, Sent}
use Rattle.export_core.specs.declared.log.Key.{Key}
use Rattle.export_core.specs.declared.log.Sending.{Sending}
use Rattle.export_core.specs.declared.marks.Mark.{Mark}
use Rattle.export_core.specs.declared.outlet.PushFault.{PushFault}
use Rattle.export_core.specs.declared.outlet.PushFault.TheVariants.{Memory}
use Rattle.export_core.specs.declared.passing.ExportSpec.{ExportSpec}
use Rattle.jour_rule.specs.Journal.{receipts}
use Rattle.jour_rule.specs.declared.views.Entry.{Entry}
use Rattle.jour_rule.specs.declared.views.Terms.{Terms}
use Rattle.jour_rule.specs.declared.views.View.{View as Seat}
use Rattle.jour.specs.Seats.{front, number_of}
use Rattle.table_shared.specs.Answers.{IsDone}
use Rattle.table_shared.specs.Opening.{TableOpening, sources_of}
use Rattle.table_shared.specs.Records.{AreRecords, AreSaid, IsLawful, at_first, change_of, content_after}
use Rattle.attrs.specs.History.{after}
use Rattle.table_shared.specs.declared.answers.Done.{Done}
use Rattle.table_shared.specs.declared.answers.Done.TheVariants.{At, Same}
use Rattle.export_lock.specs.Flushes.{FlushesOn, IsDirection, IsWithdrawn}
use Rattle.export_lock.specs.Kept.{GoesOn, IsExporting, LeavesFlush, is_running}
use Rattle.export_lock.specs.Lanes.{EntersOnce, IsLane, LaneTerms}
use Rattle.export_lock.specs.LaneTurns.{AreSources, FlushesLane, IsHeldLane, PushesOn, Stops}
use Rattle.export_lock.specs.Outlets.{AreGiven, AreSourcesOf, IsRefused, Putting, Puts, Rests, SeesOn, put_change, same_family, source_at, takes_of, told_by}
use Rattle.export_lock.specs.Terms.{BeginsWith}
use Rattle.export_lock.specs.declared.lane.PipeLane.{PipeLane}
use Rattle.export_lock.specs.declared.state.ExportState.{ExportState}
use Rattle.export_lock.proofs.Entering.{enters_none, lane_sends, lane_withdraws}
use Rattle.export_lock.proofs.Flushing.{goes_on}
use Rattle.export_lock.proofs.Pushing.{running}
use Rattle.export_lock.proofs.News.{again_is_old, flush_is_news, send_is_news}
use Rattle.export_lock.proofs.Putting.{IsSameOutlet, family_self, known_again, some_one, source_there}

-- ---- an outlet of a lane

abbrev pub begun_outlet : List Src → TableId × Seat TableOpening → Putting
begun_outlet sources port = record { begun = port; sources = sources; given = []; refusals = 0; fault = None; port = port }

same_number : (n : ℕ) → (n == n) ≡ true
same_number n = eq-eqb n n refl

any_there : (xs : List ℕ) (num : ℕ) → Contains xs num → list_any (λ x. num == x) xs ≡ true
any_there [] num has = absurd (Contains-nothing num has)
any_there (x ∷ xs) num has = elim (Contains-cons_cases x xs num has) [
  | inl e ↦ subst (λ z. ((num == z) || list_any (λ y. num == y) xs) ≡ true) (sym e) (ap (λ b. b || list_any (λ y. num == y) xs) (same_number num))
  | inr h ↦ either (num == x) (any_there xs num h)
] where
  either : (b : Bool) → list_any (λ y. num == y) xs ≡ true → (b || list_any (λ y. num == y) xs) ≡ true
  either true e = refl
  either false e = e

module _ {J : Type 0} (verdict : J → Net → Route → Verdict) (sources : List Src) (a : PipeLane J) (h : IsHeldLane verdict sources a) where
  abbrev key : LaneTerms
  key = h.key

  opening_is : a.port.1.seen.terms.opening ≡ key.target.1.opening
  opening_is = ap (λ (j : TableId × Terms TableOpening). j.1.opening) h.lane_is.port

  mine_is : (num : ℕ) → Contains (sources_of a.port.1.seen.terms.opening (number_of a.port.1.role)) num ≡ Contains (sources_of key.target.1.opening key.port_number) num
  mine_is num = λ i. Contains (sources_of (opening_is i) (h.lane_is.port_number i)) num

  pub lane_sources : AreSourcesOf sources a.port.1
  lane_sources = record {
    placed = h.sources_are.placed;
    all = λ num has. h.sources_are.all num (h.lane_is.terms.alone.mine num (subst (λ z. z) (mine_is num) has));
  }

  pub lane_takes : (num : ℕ) → has_num a.state.exporter.spec num ≡ true → takes_of (begun_outlet sources a.port) num a.state.exporter.spec.family ≡ true
  lane_takes num has =
      let spec_is : a.state.exporter.spec ≡ key.exports.exports.spec = h.lane_is.direction.exporting.spec in
      let spec : ExportSpec = key.exports.exports.spec in
      let pipe : is_pipe key.rules key.number ≡ true = sym h.lane_is.terms.spec.every ∙ h.lane_is.terms.every in
      let passed : passes key.rules key.number num ≡ true =
      sym (h.lane_is.terms.spec.sources pipe num)
      ∙ ap (λ e. if e then among num spec.sources else (num == 0)) (sym h.lane_is.terms.every)
      ∙ ap (λ s. has_num s num) (sym spec_is)
      ∙ has in
      let there = any_there (sources_of a.port.1.seen.terms.opening (number_of a.port.1.role)) num (subst (λ z. z) (sym (mine_is num)) (h.lane_is.terms.mine num passed)) in
      let family : a.state.exporter.spec.family ≡ a.port.1.seen.terms.opening.family = ap (λ s. s.family) spec_is ∙ h.lane_is.terms.family ∙ ap (λ z. z.family) (sym opening_is) in
      let same = subst (λ f. same_family a.state.exporter.spec.family f ≡ true) family (family_self a.state.exporter.spec.family) in
      λ i. there i && same i

-- ---- what the outlet was given

module _ {J : Type 0} (verdict : J → Net → Route → Verdict) (sources : List Src) (a : PipeLane J) (e : ExportState J) (b : Putting) (port : TableId × Seat TableOpening) (given : AreGiven b.sources (reverse b.given) b.begun port) where
  abbrev outlet : Putting
  outlet = begun_outlet sources a.port

  abbrev lane : PipeLane J
  lane = record { state = e; port = port }

  was_given : (xs : List Sending) → told_by b ≡ option_map (λ sent. sent ++ xs) (told_by outlet) → AreGiven sources (reverse xs) a.port port
  was_given xs told =
      let k : IsSameOutlet outlet b xs = known_again outlet b xs refl told in
      subst (λ s. AreGiven s (reverse xs) a.port port) k.sources
      (subst (λ p. AreGiven b.sources (reverse xs) p port) k.begun (subst (λ g. AreGiven b.sources (reverse g) b.begun port) k.given given))

  pub no_more : (xs : Option (List Sending)) → xs ≡ option_map (λ sent. sent ++ []) xs
  no_more None = refl
  no_more (Some xs) = ap Some (sym (append-nil xs))

  pub was_rested : told_by b ≡ told_by outlet → Rests a.port port
  was_rested told = was_given [] (told ∙ no_more (told_by outlet))

  pub pushed_on : (r : Result Pushed PushFault) → IfOk r (Pushes verdict a.state.exporter e.exporter (told_by outlet) (told_by b)) → IfOk r (PushesOn verdict sources a lane)
  pushed_on (Ok Nothing) did = record { sent = []; pushes = (did.0, did.1, refl); given = was_rested did.2 }
  pushed_on (Ok Quiet) did = record { sent = []; pushes = (did.0, did.1, did.2, refl); given = was_rested did.3 }
  pushed_on (Ok Sent) did = record { sent = did.1 ∷ []; pushes = (did.0, did.1, did.2, refl); given = was_given (did.1 ∷ []) did.3 }
  pushed_on (Err f) did = tt

  fault_is : told_by b ≡ told_by outlet → (f : PushFault) → b.fault ≡ Some f → IfSome b.fault (λ fault. IsRefused b.sources fault b.begun port) → IsRefused sources f a.port port
  fault_is told f is why =
      let k : IsSameOutlet outlet b [] = known_again outlet b [] refl (told ∙ no_more (told_by outlet)) in
      subst (λ s. IsRefused s f a.port port) k.sources
      (subst (λ p. IsRefused b.sources f p port) k.begun (subst (λ z. IfSome z (λ fault. IsRefused b.sources fault b.begun port)) is why))

  pub stopped : (r : Result Pushed PushFault) → OnErr r ((e ≡ a.state) × (told_by b ≡ told_by outlet)) → IfErr r (λ f. f ≢ Memory → b.fault ≡ Some f) → IfSome b.fault (λ fault. IsRefused b.sources fault b.begun port) → IfErr r (Stops verdict sources a lane)
  stopped (Ok p) same cause why = tt
  stopped (Err f) same cause why = record { state = same.0; port = was_rested same.1; cause = λ other. fault_is same.1 f (cause other) why }

-- ---- what a lane keeps

module _ {J : Type 0} (verdict : J → Net → Route → Verdict) (key : LaneTerms) where
  pub lane_rests : (done : List Key) (a b : PipeLane J) → Rests a.port b.port → b.state.exporter.log ≡ a.state.exporter.log → GoesOn verdict a.state b.state → LeavesFlush a.state b.state → IsLane verdict done key a → IsLane verdict done key b
  lane_rests done a b rests log keeps leaves o =
      enters_none verdict key a b rests.sees.here rests.sees.number done rests.receipts (ap (λ l. withdrawn done (enters key.rules (reverse l))) (sym log))
      (goes_on verdict done key.exports a.state b.state keeps leaves o.direction) o

  pub lane_same : (done : List Key) (a b : PipeLane J) → b.state ≡ a.state → Rests a.port b.port → IsLane verdict done key a → IsLane verdict done key b
  lane_same done a b same rests o =
      lane_rests done a b rests (ap (λ z. z.exporter.log) same) (λ every terms is. subst (IsExporting verdict every terms) (sym same) is)
      (subst (λ s. LeavesFlush a.state s) (sym same) (record { flushing = refl; stays = λ _. (refl, refl) })) o

module _
    (alone : (opening : TableOpening) (entries : List Entry) (said mine : List JEntry) (start port num : ℕ) (net : Net) → AreRecords opening (at_first opening) entries said → AreSaid (receipts start port entries) mine
    → ((other : ℕ) → Contains (sources_of opening other) num → other ≡ port) → content_after opening said net num ≡ after (at_first opening) (map change_of mine) net num)
    {J : Type 0} (verdict : J → Net → Route → Verdict) (sources : List Src) (key : LaneTerms) (are : AreSources key sources) where
  change_is : (x : Sending) → passes key.rules key.number x.key.num ≡ true → put_change sources x ≡ change_to key.rules x.key x.value
  change_is x is_passed = ap (λ (v : Option Route). record { net = x.key.net; num = x.key.num; new = v }) (by_value x.value) where
    by_value : (v : Option Attrs) → option_map (λ (attrs : Attrs). record { src = source_at sources x.key.num; attrs = attrs }) v ≡ option_map (key.rules.route x.key.num) v
    by_value None = refl
    by_value (Some v) = ap Some (sym (are.routes x.key.num (source_at sources x.key.num) v (source_there sources x.key.num (are.all x.key.num is_passed))))

  passed_by : (done : List Key) (p : PipeLane J) (x : Sending) → Contains (sources_of p.port.1.seen.terms.opening (number_of p.port.1.role)) x.key.num → IsLane verdict done key p → passes key.rules key.number x.key.num ≡ true
  passed_by done p x has o =
      let opening_is : p.port.1.seen.terms.opening ≡ key.target.1.opening = ap (λ (j : TableId × Terms TableOpening). j.1.opening) o.port in
      o.terms.alone.mine x.key.num (subst (λ (z : TableOpening × ℕ). Contains (sources_of z.0 z.1) x.key.num) (λ i. (opening_is i, o.port_number i)) has)

  module _ (a : PipeLane J) (lawful : IsLawful key.exports.table.1.opening (front a.state.cursor.0.1)) where
    abbrev history : List JEntry
    history = key.exports.before ++ lawful.0

    begins : BeginsWith key.exports (front a.state.cursor.0.1) history
    begins = record { said = lawful.0; records = lawful.1; begins = ([], append-nil history) }

    entered_once : (x : Sending) (due : Bool) (port new : TableId × Seat TableOpening) → IsLane verdict [] key (record { state = a.state; port = port }) → IsNews due x.value (standing_at x.key a.state.exporter.log) x.again → Puts sources x port new
        → EntersOnce key.rules x port.1 new.1
    entered_once x due port new o news puts =
        let is_passed = passed_by [] (record { state = a.state; port = port }) x puts.source o in
        by_done is_passed puts.done (subst (λ c. IsDone c port.1 new.1 puts.done) (change_is x is_passed) puts.is)
      where
        by_done : passes key.rules key.number x.key.num ≡ true → (done : Done) → IsDone (change_to key.rules x.key x.value) port.1 new.1 done → EntersOnce key.rules x port.1 new.1
        by_done is_passed (Same at) is = record {
          news = λ first. absurd (send_is_news alone verdict key (record { state = a.state; port = port }) history x new.1 at o begins is_passed (news.changed first) (ap (λ (j : TableId × Terms TableOpening). j.1) puts.sees.here) puts.sees.number is);
          again = λ _. is.receipts;
        }
        by_done is_passed (At at) is = record {
          news = λ _. (at, is);
          again = λ again. absurd (again_is_old alone verdict key (record { state = a.state; port = port }) history x new.1 at o begins is_passed (news.equal again).0 (ap (λ (j : TableId × Terms TableOpening). j.1) puts.sees.here) puts.sees.number is);
        }

    sent_kept : (m : Mark) (x : Sending) (b : PipeLane J) → PushesOut verdict m x a.state.exporter b.state.exporter → AreGiven sources (x ∷ []) a.port b.port → GoesOn verdict a.state b.state → LeavesFlush a.state b.state → IsLane verdict [] key a → IsLane verdict [] key b
    sent_kept m x b out given keeps leaves o =
        let before : TableId × Seat TableOpening = given.0 in
        let after : TableId × Seat TableOpening = given.1 in
        let p : PipeLane J = record { state = a.state; port = before } in
        let q : PipeLane J = record { state = b.state; port = after } in
        let po : IsLane verdict [] key p = lane_rests verdict key [] a p given.2 refl (λ _ _ is. is) (record { flushing = refl; stays = λ _. (refl, refl) }) o in
        let direction = goes_on verdict [] key.exports a.state b.state keeps leaves o.direction in
        let qo : IsLane verdict [] key q = lane_sends verdict key p q given.3.sees.here given.3.sees.number x out.log (entered_once x m.due before after po out.news given.3) direction po in
        enters_none verdict key q b given.4.sees.here given.4.sees.number [] given.4.receipts refl direction qo

    pub push_kept : (b : PipeLane J) (r : Result Pushed PushFault) → a.state.exporter.flushing ≡ false → IfOk r (PushesOn verdict sources a b) → IfErr r (Stops verdict sources a b) → GoesOn verdict a.state b.state → LeavesFlush a.state b.state → (done : List Key) → IsLane verdict done key a → IsLane verdict done key b
    push_kept b (Err f) rest did stops keeps leaves done o = lane_rests verdict key done a b stops.port (ap (λ z. z.exporter.log) stops.state) keeps leaves o
    push_kept b (Ok Nothing) rest did stops keeps leaves done o =
        let none : did.sent ≡ [] = some_one did.sent [] did.pushes.2 in
        lane_rests verdict key done a b (subst (λ l. AreGiven sources (reverse l) a.port b.port) none did.given) (ap (λ z. z.log) did.pushes.1) keeps leaves o
    push_kept b (Ok Quiet) rest did stops keeps leaves done o =
        let none : did.sent ≡ [] = some_one did.sent [] did.pushes.3 in
        lane_rests verdict key done a b (subst (λ l. AreGiven sources (reverse l) a.port b.port) none did.given) did.pushes.2.log keeps leaves o
    push_kept b (Ok Sent) rest did stops keeps leaves done o =
        let one : did.sent ≡ did.pushes.1 ∷ [] = some_one did.sent (did.pushes.1 ∷ []) did.pushes.3 in
        let none : done ≡ [] = o.direction.none rest in
        subst (λ d. IsLane verdict d key b) (sym none)
        (sent_kept did.pushes.0 did.pushes.1 b did.pushes.2 (subst (λ l. AreGiven sources (reverse l) a.port b.port) one did.given) keeps leaves (subst (λ d. IsLane verdict d key a) none o))

    withdrawn_kept : (done : List Key) (b : PipeLane J) (x : Sending) → Flushes x a.state.exporter b.state.exporter → AreGiven sources (x ∷ []) a.port b.port → IsDirection verdict (done ++ x.key ∷ []) key.exports b.state → IsLane verdict done key a
        → IsLane verdict (done ++ x.key ∷ []) key b
    withdrawn_kept done b x flushes given direction o =
        let before : TableId × Seat TableOpening = given.0 in
        let after : TableId × Seat TableOpening = given.1 in
        let p : PipeLane J = record { state = a.state; port = before } in
        let q : PipeLane J = record { state = b.state; port = after } in
        let po : IsLane verdict done key p = lane_rests verdict key done a p given.2 refl (λ _ _ is. is) (record { flushing = refl; stays = λ _. (refl, refl) }) o in
        let is_passed = passed_by done p x given.3.source po in
        let change : put_change sources x ≡ withdrawal x.key = change_is x is_passed ∙ ap (change_to key.rules x.key) flushes.value in
        let stood : AreStanding a.state.exporter.log (done ++ x.key ∷ b.state.exporter.left) =
        subst (λ l. AreStanding l (done ++ x.key ∷ b.state.exporter.left)) flushes.log (subst (AreStanding b.state.exporter.log) (append_assoc done (x.key ∷ []) b.state.exporter.left) (direction.stood flushes.flushing)) in
        let qo : IsLane verdict (done ++ x.key ∷ []) key q =
        by_done done x b before after po is_passed stood flushes given.3.sees direction given.3.done (subst (λ c. IsDone c before.1 after.1 given.3.done) change given.3.is) in
        enters_none verdict key q b given.4.sees.here given.4.sees.number (done ++ x.key ∷ []) given.4.receipts refl direction qo
      where
        by_done : (done : List Key) (x : Sending) (b : PipeLane J) (before after : TableId × Seat TableOpening) → IsLane verdict done key (record { state = a.state; port = before }) → passes key.rules key.number x.key.num ≡ true
            → AreStanding a.state.exporter.log (done ++ x.key ∷ b.state.exporter.left) → Flushes x a.state.exporter b.state.exporter → SeesOn before after → IsDirection verdict (done ++ x.key ∷ []) key.exports b.state
            → (did : Done) → IsDone (withdrawal x.key) before.1 after.1 did → IsLane verdict (done ++ x.key ∷ []) key (record { state = b.state; port = after })
        by_done done x b before after po is_passed stood flushes sees direction (Same at) is =
            absurd (flush_is_news alone verdict key (record { state = a.state; port = before }) history done x.key b.state.exporter.left after.1 at po begins is_passed stood (ap (λ (j : TableId × Terms TableOpening). j.1) sees.here) sees.number is)
        by_done done x b before after po is_passed stood flushes sees direction (At at) is =
            lane_withdraws verdict key (record { state = a.state; port = before }) (record { state = b.state; port = after }) sees.here sees.number done x.key at flushes.log is direction po

-- ---- whole turns

module _
    (alone : (opening : TableOpening) (entries : List Entry) (said mine : List JEntry) (start port num : ℕ) (net : Net) → AreRecords opening (at_first opening) entries said → AreSaid (receipts start port entries) mine
    → ((other : ℕ) → Contains (sources_of opening other) num → other ≡ port) → content_after opening said net num ≡ after (at_first opening) (map change_of mine) net num)
    {J : Type 0} (verdict : J → Net → Route → Verdict) (sources : List Src) (key : LaneTerms) (are : AreSources key sources) (a : PipeLane J)
    (law : IsLawful a.state.cursor.0.1.seen.terms.opening (front a.state.cursor.0.1)) (done : List Key) (o : IsLane verdict done key a) where
  lawful : IsLawful key.exports.table.1.opening (front a.state.cursor.0.1)
  lawful = subst (λ z. IsLawful z (front a.state.cursor.0.1)) (ap (λ (j : TableId × Terms TableOpening). j.1.opening) o.direction.exporting.here) law

  pub pushed_kept : (b : PipeLane J) (r : Result Pushed PushFault) → (is_running a.state ≡ true → IfOk r (PushesOn verdict sources a b)) → IfErr r (Stops verdict sources a b)
      → (is_running a.state ≡ false → (r ≡ Ok Nothing) × (b.state ≡ a.state) × Rests a.port b.port) → GoesOn verdict a.state b.state → LeavesFlush a.state b.state → IsLane verdict done key b
  pushed_kept b r did stops rests keeps leaves = elim (cases_Bool (is_running a.state)) [
    | inl runs ↦ push_kept alone verdict sources key are a lawful b r (running a.state.cursor.1 a.state.exporter.flushing runs).1 (did runs) stops keeps leaves done o
    | inr idle ↦ (let still = rests idle in lane_same verdict key done a b still.1 still.2 o)
  ]

  pub flushed_lane : (e : ExportState J) (b : Putting) (port : TableId × Seat TableOpening) → AreGiven b.sources (reverse b.given) b.begun port → (r : Result Pushed PushFault)
      → FlushesOn verdict done key.exports a.state e (told_by (begun_outlet sources a.port)) (told_by b) r → IfErr r (λ f. f ≢ Memory → b.fault ≡ Some f) → IfSome b.fault (λ fault. IsRefused b.sources fault b.begun port)
      → FlushesLane verdict sources done key a (record { state = e; port = port }) r
  flushed_lane e b port given (Ok Nothing) did cause why =
      let rests = was_rested verdict sources a e b port given did.given in
      let withdrawn : IsWithdrawn e = record { left = did.left; none = λ no. subst (AreStanding e.exporter.log) (o.direction.none (ap (λ z. z.exporter.flushing) (sym did.same) ∙ no)) did.stood } in
      record { state = did.same; port = rests; withdrawn = withdrawn; stood = did.stood; lane_is = lane_same verdict key done a (record { state = e; port = port }) did.same rests o }
  flushed_lane e b port given (Ok Quiet) did cause why = absurd did
  flushed_lane e b port given (Ok Sent) did cause why =
      let mine = was_given verdict sources a e b port given (did.sending ∷ []) did.given in
      record { sending = did.sending; flushes = did.flushes; given = mine; lane_is = withdrawn_kept alone verdict sources key are a lawful done (record { state = e; port = port }) did.sending did.flushes mine did.direction o }
  flushed_lane e b port given (Err f) did cause why =
      let stops = stopped verdict sources a e b port given (Err f) did cause why in
      (stops, lane_same verdict key done a (record { state = e; port = port }) stops.state stops.port o)
