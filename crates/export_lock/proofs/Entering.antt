-- What a lane has made follows its log, through sends and withdrawals, to the end of a phase.
use Rattle.std.proofs.Common.{◌≡◌, ℕ, Bool, true, false, List, [], ◌∷◌, ◌++◌, map, reverse, refl, sym, ap, subst, ◌∙◌}
use Rattle.std.specs.Prelude.{if◌then◌else◌}
use Rattle.std.proofs.lemmas.List.{map-append, reverse-append}
use Rattle.attrs.specs.History.{Content}
use Rattle.attrs.specs.declared.journal.JEntry.{JEntry}
use Rattle.attrs.specs.declared.judge.Verdict.{Verdict}
use Rattle.attrs.specs.declared.route.Change.{Change}
use Rattle.attrs.specs.declared.route.Route.{Route}
use Rattle.bits_ip.specs.Prefix.{Net}
use Rattle.core_machine.specs.Enters.{change_to, enters, standing_keys, withdrawal, withdrawn}
use Rattle.core_machine.specs.Histories.{of_those}
use Rattle.core_machine.specs.Pipes.{passes}
use Rattle.core_machine.proofs.Entering.{standing_ascends, standing_told}
use Rattle.core_machine.proofs.KeyLists.{ascending_one}
use Rattle.export_core.specs.Calls.{AreStanding}
use Rattle.export_core.specs.declared.log.Key.{Key}
use Rattle.export_core.specs.declared.log.LogItem.{LogItem}
use Rattle.export_core.specs.declared.log.LogItem.TheVariants.{Down, Sent}
use Rattle.export_core.specs.declared.log.Sending.{Sending}
use Rattle.jour_rule.specs.Journal.{receipts}
use Rattle.jour_rule.specs.declared.views.Entry.{Entry}
use Rattle.jour.specs.Seats.{journal, number_of, own}
use Rattle.phase_legal.specs.Changes.{AreMade, IsAlone, Says, changes_in}
use Rattle.phase_legal.proofs.Made.{those_both}
use Rattle.table_shared.specs.Answers.{IsEntered, with_best}
use Rattle.table_shared.specs.Opening.{TableOpening}
use Rattle.table_shared.specs.Records.{AreRecords, at_first, change_of}
use Rattle.export_lock.specs.Flushes.{IsDirection}
use Rattle.export_lock.specs.Kept.{GoesOn, LeavesFlush}
use Rattle.export_lock.specs.Lanes.{EntersOnce, IsLane, LaneTerms}
use Rattle.export_lock.specs.declared.lane.PipeLane.{PipeLane}
use Rattle.export_lock.proofs.Flushing.{goes_on}

withdrawn_more : (done : List Key) (k : Key) (h : List Change) → withdrawn (done ++ k ∷ []) h ≡ withdrawal k ∷ withdrawn done h
withdrawn_more [] k h = refl
withdrawn_more (d ∷ done) k h = withdrawn_more done k (withdrawal d ∷ h)

made_one : (rs : List (ℕ × List ℕ)) (made : List (ℕ × Change)) (at : ℕ) (words : List ℕ) (c : Change) → AreMade rs made → Says words c → AreMade (rs ++ (at, words) ∷ []) (made ++ (at, c) ∷ [])
made_one [] [] at words c are says = ((refl, says), tt)
made_one [] (m ∷ made) at words c are says = absurd are
made_one (r ∷ rs) [] at words c are says = absurd are
made_one (r ∷ rs) (m ∷ made) at words c are says = (are.0, made_one rs made at words c are.1 says)

changes_more : (made : List (ℕ × Change)) (at : ℕ) (c : Change) → reverse (changes_in (made ++ (at, c) ∷ [])) ≡ c ∷ reverse (changes_in made)
changes_more made at c = ap reverse (map-append (λ (m : ℕ × Change). m.1) made ((at, c) ∷ [])) ∙ reverse-append (changes_in made) (c ∷ [])

module _ {J : Type 0} (verdict : J → Net → Route → Verdict) (key : LaneTerms) (a b : PipeLane J) (port : journal b.port ≡ journal a.port) (number : number_of b.port.1.role ≡ number_of a.port.1.role) where
  -- one more change is made
  enters_more : (done also : List Key) (at : ℕ) (c : Change) → IsEntered c a.port.1 b.port.1 at → c ∷ withdrawn done (enters key.rules (reverse a.state.exporter.log)) ≡ withdrawn also (enters key.rules (reverse b.state.exporter.log))
      → IsDirection verdict also key.exports b.state → IsLane verdict done key a → IsLane verdict also key b
  enters_more done also at c is next direction o = record {
    terms = o.terms;
    direction = direction;
    port = port ∙ o.port;
    port_number = number ∙ o.port_number;
    made = o.made ++ (at, c) ∷ [];
    says = subst (λ rs. AreMade rs (o.made ++ (at, c) ∷ [])) (sym is.receipt) (made_one (own a.port.1) o.made at is.words c o.says (with_best is.best c, is.spelled, refl));
    entered = ap (λ cs. cs ++ enters key.rules key.exports.log) (changes_more o.made at c) ∙ ap (λ cs. c ∷ cs) o.entered ∙ next;
  }

  -- none is, and of what stands other keys are withdrawn
  pub enters_as : (done also : List Key) → own b.port.1 ≡ own a.port.1 → withdrawn done (enters key.rules (reverse a.state.exporter.log)) ≡ withdrawn also (enters key.rules (reverse b.state.exporter.log))
      → IsDirection verdict also key.exports b.state → IsLane verdict done key a → IsLane verdict also key b
  enters_as done also same next direction o = record {
    terms = o.terms;
    direction = direction;
    port = port ∙ o.port;
    port_number = number ∙ o.port_number;
    made = o.made;
    says = subst (λ rs. AreMade rs o.made) (sym same) o.says;
    entered = o.entered ∙ next;
  }

  -- none is
  pub enters_none : (done : List Key) → own b.port.1 ≡ own a.port.1 → withdrawn done (enters key.rules (reverse a.state.exporter.log)) ≡ withdrawn done (enters key.rules (reverse b.state.exporter.log))
      → IsDirection verdict done key.exports b.state → IsLane verdict done key a → IsLane verdict done key b
  enters_none done same next direction o = enters_as done done same next direction o

  pub lane_withdraws : (done : List Key) (k : Key) (at : ℕ) → b.state.exporter.log ≡ a.state.exporter.log → IsEntered (withdrawal k) a.port.1 b.port.1 at → IsDirection verdict (done ++ k ∷ []) key.exports b.state → IsLane verdict done key a → IsLane verdict (done ++ k ∷ []) key b
  lane_withdraws done k at log is direction o =
      enters_more done (done ++ k ∷ []) at (withdrawal k) is
      (sym (withdrawn_more done k (enters key.rules (reverse a.state.exporter.log))) ∙ ap (λ l. withdrawn (done ++ k ∷ []) (enters key.rules (reverse l))) (sym log)) direction o

  pub lane_sends : (x : Sending) → b.state.exporter.log ≡ a.state.exporter.log ++ Sent x ∷ [] → EntersOnce key.rules x a.port.1 b.port.1 → IsDirection verdict [] key.exports b.state → IsLane verdict [] key a → IsLane verdict [] key b
  lane_sends x log once direction o = by_again x.again refl where
    back : reverse b.state.exporter.log ≡ Sent x ∷ reverse a.state.exporter.log
    back = ap reverse log ∙ reverse-append a.state.exporter.log (Sent x ∷ [])

    next : (again : Bool) → x.again ≡ again → (if again then enters key.rules (reverse a.state.exporter.log) else change_to key.rules x.key x.value ∷ enters key.rules (reverse a.state.exporter.log)) ≡ enters key.rules (reverse b.state.exporter.log)
    next again is =
        ap (λ t. if t then enters key.rules (reverse a.state.exporter.log) else change_to key.rules x.key x.value ∷ enters key.rules (reverse a.state.exporter.log)) (sym is)
        ∙ ap (enters key.rules) (sym back)

    by_again : (again : Bool) → x.again ≡ again → IsLane verdict [] key b
    by_again true is = enters_none [] (once.again is) (next true is) direction o
    by_again false is = let entered = once.news is in enters_more [] [] entered.0 (change_to key.rules x.key x.value) entered.1 (next false is) direction o

-- what stands by a log, in order
pub standing_is : (log : List LogItem) (keys : List Key) → AreStanding log keys → keys ≡ standing_keys (reverse log)
standing_is log keys are = ascending_one keys (standing_keys (reverse log)) are.ascend (standing_ascends (reverse log)) (λ k. are.are k ∙ sym (standing_told k (reverse log)))

-- once all is withdrawn, what was made is what the log says that has gone down
pub flush_ends : {J : Type 0} (verdict : J → Net → Route → Verdict) (done : List Key) (key : LaneTerms) (a : PipeLane J) → AreStanding a.state.exporter.log done → (o : IsLane verdict done key a)
    → reverse (changes_in o.made) ++ enters key.rules key.exports.log ≡ enters key.rules (Down ∷ reverse a.state.exporter.log)
flush_ends verdict done key a are o = o.entered ∙ ap (λ ks. withdrawn ks (enters key.rules (reverse a.state.exporter.log))) (standing_is a.state.exporter.log done are)

-- what a table has of the sources that a direction passes
pub table_has : (made_is : (test : ℕ → Bool) (opening : TableOpening) (before : Content) (start port : ℕ) (list : List Entry) (said : List JEntry) (made : List (ℕ × Change)) → AreRecords opening before list said → IsAlone test opening port
    → AreMade (receipts start port list) made → of_those test (reverse (map change_of said)) ≡ reverse (changes_in made))
    → {J : Type 0} (verdict : J → Net → Route → Verdict) (key : LaneTerms) (a : PipeLane J) (list : List Entry) (said : List JEntry) (before : List Change) → IsLane verdict [] key a → AreRecords key.target.1.opening (at_first key.target.1.opening) list said
    → own a.port.1 ≡ receipts key.target.1.start key.port_number list → of_those (passes key.rules key.number) before ≡ enters key.rules key.exports.log
    → of_those (passes key.rules key.number) (reverse (map change_of said) ++ before) ≡ enters key.rules (reverse a.state.exporter.log)
table_has made_is verdict key a list said before o records same was =
    let test : ℕ → Bool = passes key.rules key.number in
    those_both test (reverse (map change_of said)) before
    ∙ ap (λ cs. cs ++ of_those test before) (made_is test key.target.1.opening (at_first key.target.1.opening) key.target.1.start key.port_number list said o.made records o.terms.alone (subst (λ rs. AreMade rs o.made) same o.says))
    ∙ ap (λ cs. reverse (changes_in o.made) ++ cs) was
    ∙ o.entered

-- what only reads
pub lane_reads : {J : Type 0} (verdict : J → Net → Route → Verdict) (done : List Key) (key : LaneTerms) (a b : PipeLane J) → b.port ≡ a.port → b.state.exporter.log ≡ a.state.exporter.log → GoesOn verdict a.state b.state → LeavesFlush a.state b.state
    → IsLane verdict done key a → IsLane verdict done key b
lane_reads verdict done key a b port log keeps leaves o =
    enters_none verdict key a b (ap journal port) (ap (λ z. number_of z.1.role) port) done (ap (λ z. own z.1) port) (ap (λ l. withdrawn done (enters key.rules (reverse l))) (sym log))
    (goes_on verdict done key.exports a.state b.state keeps leaves o.direction) o
