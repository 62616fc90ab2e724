-- A feed, a longer history, and when a channel is settled.
use Rattle.std.proofs.Common.{◌≡◌, ℕ, ◌+◌, ◌≤◌, max, Bool, true, false, List, [], ◌∷◌, Option, Some, None, refl, sym, ◌∙◌, ap, subst, arith, is_some, option_map}
use Rattle.std.specs.Prelude.{◌||◌}
use Rattle.export_core.specs.declared.log.Key.{Key}
use Rattle.attrs.specs.declared.attributes.Attrs.{Attrs}
use Rattle.attrs.specs.declared.route.Route.{Route}
use Rattle.export_core.specs.declared.log.LogItem.{LogItem}
use Rattle.export_core.specs.declared.log.LogItem.TheVariants.{Up, Down, Reload, Sent}
use Rattle.export_core.specs.declared.marks.Mark.{Mark}
use Rattle.export_core.specs.Histories.{IsLonger}
use Rattle.export_core.specs.Logs.{Course, stretch, reloads, account, value_of, Follows, Settled}
use Rattle.export_core.specs.Lanes.{IsLane, IsMark, tally}
use Rattle.export_core.specs.Marks.{holds, is_due}
use Rattle.export_core.specs.Passing.{passed}
use Rattle.export_core.proofs.LaneSteps.{lane-marked, lane-passed}
use Rattle.export_core.proofs.Pushing.{open_at}
use Rattle.core_machine.specs.Channels.{Channel, fed}
use Rattle.core_machine.specs.Marks.{Marked, find}
use Rattle.core_machine.proofs.MarkSteps.{was_due, once_all, find_out, find_in}
use Rattle.core_machine.proofs.ChannelSteps.{IsChannel, lane, marked_at}

pub no_some : {A : Type 0} (o : Option A) → is_some o ≡ false → o ≡ None
no_some None e = refl
no_some (Some x) e = absurd (let bad : true ≡ false = e in cc)

-- three tests that all fail
none_of : (a b d : Bool) → (a || (b || d)) ≡ false → (a ≡ false) × (b ≡ false) × (d ≡ false)
none_of true b d e = absurd (let bad : true ≡ false = e in cc)
none_of false true d e = absurd (let bad : true ≡ false = e in cc)
none_of false false d e = (refl, refl, e)

less_due : (due old : Bool) → tally (due || old) + tally false ≤ tally old + tally due
less_due true true = omega arith
less_due true false = omega arith
less_due false true = omega arith
less_due false false = omega arith

neither_due : (due old : Bool) → (due || old) ≡ false → (old ≡ false) × (due ≡ false)
neither_due true old e = absurd (let bad : true ≡ false = e in cc)
neither_due false old e = (e, refl)

due_of : (c : Course) (k : Key) (o : Option Marked) → is_due (option_map (marked_at c k) o) ≡ was_due o
due_of c k None = refl
due_of c k (Some m) = refl

module _ (value : Key → Route → Option Attrs) (c : Course) where
  -- a feed at the head; `due` tells whether it is a refresh's
  pub fed_keeps : (keys : List Key) (due : Bool) (ch : Channel) → ((h : ℕ) → stretch ch.log ≡ Some h → ch.position ≤ c.len)
      → ((k : Key) → holds k keys ≡ (is_some (c.best k c.len) || (is_some (find k ch.marks) || is_some (value_of (account k ch.log)))))
      → IsChannel value c true due ch → IsChannel value c false false (fed keys due c.len ch)
  fed_keeps keys due ch low are s = record {
    follows = s.follows;
    lanes = λ h o k. let r = s.lanes h o k in let low' = low h o in elim (holds k keys) as (λ b. holds k keys ≡ b → IsLane value c k h (reloads ch.log) (lane c false false (fed keys due c.len ch) k)) [
      | true ↦ λ is. let p = find_in k keys c.len due ch.marks is in
          let was : p.mark.due ≡ (due || is_due (option_map (marked_at c k) (find k ch.marks))) = p.due_is ∙ ap (λ b. due || b) (sym (due_of c k (find k ch.marks))) in
          let reached : max ch.position c.len ≡ p.mark.at = omega (arith, p.at_is) in
          lane-marked value c k h (reloads ch.log) (lane c true due ch k) (lane c false false (fed keys due c.len ch) k) (marked_at c k p.mark) r (ap (option_map (marked_at c k)) p.there) (sym reached) (omega (arith, r.within)) (omega arith) (ap (c.best k) reached) refl
          (subst (λ d. tally d + tally false ≤ tally (is_due (option_map (marked_at c k) (find k ch.marks))) + tally due) (sym was) (less_due due (is_due (option_map (marked_at c k) (find k ch.marks)))))
          (λ d co. neither_due due (is_due (option_map (marked_at c k) (find k ch.marks))) (sym was ∙ d))
      | false ↦ λ is. let n = none_of (is_some (c.best k c.len)) (is_some (find k ch.marks)) (is_some (value_of (account k ch.log))) (sym (are k) ∙ is) in
          let top : max ch.position c.len ≡ c.len = omega arith in
          let unmarked : find k ch.marks ≡ None = no_some (find k ch.marks) n.1 in
          lane-passed value c k h (reloads ch.log) (lane c true due ch k) (lane c false false (fed keys due c.len ch) k) r (ap (option_map (marked_at c k)) unmarked) (ap (option_map (marked_at c k)) (find_out k keys c.len due ch.marks is ∙ unmarked))
          (no_some (value_of (account k ch.log)) n.2) refl (omega (arith, r.within)) (omega arith) (ap (c.best k) top ∙ no_some (c.best k c.len) n.0) refl
    ] refl;
    once = once_all keys c.len due ch.marks s.once;
  }

  -- a channel at the head with no mark is settled
  pub settles : (ch : Channel) → is_some (stretch ch.log) ≡ true → ch.position ≡ c.len → ch.marks ≡ [] → IsChannel value c false false ch → Settled value c ch.log
  settles ch up at none s =
      let o = open_at (stretch ch.log) up in
      let top : (k : Key) → max ch.position ch.floor ≡ c.len = λ k. omega (arith, (s.lanes o.0 o.1 k).within) in
      record {
        is_open = up;
        right = λ k. (s.lanes o.0 o.1 k).still (ap (λ ms. option_map (marked_at c k) (find k ms)) none) refl ∙ ap (λ p. passed value k (c.best k p)) (top k);
        fresh = λ k some. (s.lanes o.0 o.1 k).fresh (ap (λ ms. is_due (option_map (marked_at c k) (find k ms))) none) refl some;
      }

module _ (value : Key → Route → Option Attrs) (c d : Course) (m : IsLonger c d) where
  follows_longer : (log : List LogItem) → Follows value c log → Follows value d log
  follows_longer [] f = tt
  follows_longer (Up h ∷ log) f = (follows_longer log f.0, (f.1.0, f.1.1, omega (arith, f.1.2, m.len)))
  follows_longer (Down ∷ log) f = (follows_longer log f.0, f.1)
  follows_longer (Reload ∷ log) f = (follows_longer log f.0, f.1)
  follows_longer (Sent x ∷ log) f = let s = f.1 in (
    follows_longer log f.0,
    record {
      in_stretch = s.in_stretch;
      told = omega (arith, s.told, m.len);
      right = s.right ∙ ap (passed value x.key) (sym (m.best x.key x.at s.told));
      rises = s.rises;
      changed = s.changed;
      equal = s.equal;
    },
  )

  lane_longer : (k : Key) (h n : ℕ) (ch : Channel) → IsLane value c k h n (lane c false false ch k) → IsLane value d k h n (lane d false false ch k)
  lane_longer k h n ch r = let l = lane c false false ch k in record {
    begun = r.begun;
    within = omega (arith, r.within, m.len);
    after = r.after;
    mark = marks (find k ch.marks) (λ a e. r.mark a e);
    still = λ a b. r.still (unmarked (find k ch.marks) a) b ∙ ap (passed value k) (sym (m.best k l.reach r.within));
    count = subst (λ b. l.account.agains + (tally b + 0) ≤ n) (due_of c k (find k ch.marks) ∙ sym (due_of d k (find k ch.marks))) r.count;
    fresh = λ due. r.fresh (due_of c k (find k ch.marks) ∙ sym (due_of d k (find k ch.marks)) ∙ due);
  } where
    unmarked : (o : Option Marked) → option_map (marked_at d k) o ≡ None → option_map (marked_at c k) o ≡ None
    unmarked None e = refl
    unmarked (Some x) e = absurd (let bad : Some (marked_at d k x) ≡ None = e in cc)

    marks : (o : Option Marked) → ((a : Mark) → option_map (marked_at c k) o ≡ Some a → IsMark c k h (max ch.position ch.floor) (account k ch.log).last a)
        → (a : Mark) → option_map (marked_at d k) o ≡ Some a → IsMark d k h (max ch.position ch.floor) (account k ch.log).last a
    marks None are a e = absurd (let bad : None ≡ Some a = e in cc)
    marks (Some x) are a e = let i = are (marked_at c k x) refl in
        let there : marked_at d k x ≡ a = (let f : Some (marked_at d k x) ≡ Some a = e in cc) in
        subst (IsMark d k h (max ch.position ch.floor) (account k ch.log).last) there (record {
          begun = i.begun;
          after = i.after;
          within = i.within;
          same = λ p low high. m.best k p (omega (arith, r.within)) ∙ i.same p low high ∙ sym (m.best k x.at (omega (arith, r.within, i.within)));
        })

  pub channel_longer : (ch : Channel) → IsChannel value c false false ch → IsChannel value d false false ch
  channel_longer ch s = record { follows = follows_longer ch.log s.follows; lanes = λ h o k. lane_longer k h (reloads ch.log) ch (s.lanes h o k); once = s.once }
