-- What each step of a channel keeps: its log follows the table's history, and what it keeps for each key is right.
use Rattle.std.proofs.Common.{◌≡◌, ◌≢◌, ℕ, ◌+◌, ◌<◌, ◌≤◌, max, inl, inr, Bool, true, false, List, ◌∷◌, Option, Some, None, refl, sym, ◌∙◌, ap, subst, arith, is_some, option_and_then, option_map}
use Rattle.std.specs.Prelude.{IsSome}
use Rattle.std.proofs.Math.Nat.{le_refl}
use Rattle.std.proofs.lemmas.Bool.{cases_lt}
use Rattle.export_core.specs.declared.log.Key.{Key}
use Rattle.export_core.specs.Keys.{same_key}
use Rattle.attrs.specs.declared.attributes.Attrs.{Attrs}
use Rattle.attrs.specs.declared.route.Route.{Route}
use Rattle.export_core.specs.declared.log.LogItem.{LogItem}
use Rattle.export_core.specs.declared.log.LogItem.TheVariants.{Sent}
use Rattle.export_core.specs.declared.log.Sending.{Sending}
use Rattle.export_core.specs.declared.marks.Mark.{Mark}
use Rattle.export_core.specs.Logs.{Course, Account, stretch, reloads, account, highest, entered, value_of, Follows, IsSend, Rises}
use Rattle.export_core.specs.Lanes.{Lane, IsLane, IsMark, tally}
use Rattle.export_core.specs.Marks.{is_due}
use Rattle.export_core.specs.Passing.{passed}
use Rattle.export_core.proofs.LaneSteps.{lane-read, lane-marked, lane-quiet, lane-sent, lane-reloaded, lane-up}
use Rattle.export_core.proofs.Keys.{key_tells, same_key_itself}
use Rattle.export_core.proofs.Pushing.{account_right, open_at}
use Rattle.core_machine.specs.Channels.{Channel, opened, closed, renewed}
use Rattle.core_machine.specs.Marks.{AreOnce, Marked, find, put}
use Rattle.core_machine.proofs.Contents.{some_same, none_some, if_true, if_false}
use Rattle.core_machine.proofs.MarkSteps.{was_due, find_here, find_past, find_put, find_put_other, once_put}

-- a mark with its candidate
abbrev pub marked_at : Course → Key → Marked → Mark
marked_at c k m = record { at = m.at; candidate = c.best k m.at; due = m.due }

-- one net's share of a channel; before a feed, each net is ahead of it
abbrev pub lane : Course → Bool → Bool → Channel → Key → Lane
lane c ahead coming ch k = record { reach = max ch.position ch.floor; ahead = ahead; coming = coming; mark = option_map (marked_at c k) (find k ch.marks); account = account k ch.log }

-- all that a channel keeps with a course
pub record IsChannel (value : Key → Route → Option Attrs) (c : Course) (ahead coming : Bool) (ch : Channel) : Type 0 where
  pub follows : Follows value c ch.log
  pub lanes : (h : ℕ) → stretch ch.log ≡ Some h → (k : Key) → IsLane value c k h (reloads ch.log) (lane c ahead coming ch k)
  pub once : AreOnce ch.marks

-- a send may come after the log
may_send : (value : Key → Route → Option Attrs) (c : Course) (h reach reloaded : ℕ) (a : Account) (m : Mark) (x : Sending) → IsMark c x.key h reach a.last m → reach ≤ c.len → (m.due ≡ true → a.agains < reloaded)
    → ((y : Sending) → a.last ≡ Some y → y.value ≡ passed value x.key (c.best x.key y.at))
    → x.at ≡ m.at → x.value ≡ passed value x.key (c.best x.key m.at)
    → (x.again ≡ true → x.value ≡ value_of a) → (x.again ≡ false → x.value ≢ value_of a) → (x.again ≡ true → (m.due ≡ true) × IsSome x.value) → IsSend value c (Some h) a reloaded x
may_send value c h reach reloaded a m x i end count was_right ea ev same other again =
    record {
      in_stretch = (h, refl, omega (arith, i.begun));
      told = omega (arith, i.within);
      right = ev ∙ ap (λ p. passed value x.key (c.best x.key p)) (sym ea);
      rises = rises a.last refl;
      changed = other;
      equal = λ e. (same e, (again e).1, count (again e).0);
    } where
      rises : (o : Option Sending) → a.last ≡ o → Rises o x
      rises None e = tt
      rises (Some y) e = (
        omega (arith, i.after y e),
        λ not_again. elim (cases_lt y.at x.at) [
          | inl w ↦ w
          | inr w ↦ let low = i.after y e in let at_x : y.at ≡ m.at = omega arith in
              absurd (other not_again (ev ∙ ap (λ p. passed value x.key (c.best x.key p)) (sym at_x) ∙ sym (was_right y e) ∙ sym (ap (λ o. option_and_then (λ (z : Sending). z.value) o) e)))
        ],
      )

due_less : (agains n coming : ℕ) (o : Option Mark) (m : Mark) → o ≡ Some m → m.due ≡ true → agains + (tally (is_due o) + coming) ≤ n → agains < n
due_less agains n coming o m e d r = let k = rw (e, d) at r in omega (arith, k)

shut : (o : Option ℕ) → is_some o ≡ false → o ≡ None
shut None e = refl
shut (Some h) e = cc

account_named : (x : Sending) (log : List LogItem) → account x.key (Sent x ∷ log) ≡ entered x (account x.key log)
account_named x log = if_true (same_key x.key x.key) (entered x (account x.key log)) (account x.key log) (same_key_itself x.key)

account_other : (x : Sending) (q : Key) (log : List LogItem) → same_key x.key q ≡ false → account q (Sent x ∷ log) ≡ account q log
account_other x q log e = if_false (same_key x.key q) (entered x (account q log)) (account q log) e

module _ (value : Key → Route → Option Attrs) (c : Course) where
  -- a push that is quiet
  pub quiet_keeps : (m : Marked) (ms : List Marked) (ch : Channel) → ch.marks ≡ m ∷ ms → value_of (account m.key ch.log) ≡ passed value m.key (c.best m.key m.at) → (m.due ≡ true → value_of (account m.key ch.log) ≡ None) → IsChannel value c false false ch → IsChannel value c false false (record ch { marks = ms })
  quiet_keeps m ms ch em ev quiet s =
      let once = subst AreOnce em s.once in
      let there : find m.key ch.marks ≡ Some m = ap (find m.key) em ∙ find_here m ms in
      let new : Channel = record ch { marks = ms } in
      record {
        follows = s.follows;
        lanes = λ h o k. elim (key_tells m.key k) [
          | inl w ↦ subst (λ q. IsLane value c q h (reloads ch.log) (lane c false false new q)) w.1
              (lane-quiet value c m.key h (reloads ch.log) (lane c false false ch m.key) (lane c false false new m.key) (marked_at c m.key m) (s.lanes h o m.key) (ap (option_map (marked_at c m.key)) there) (ap (option_map (marked_at c m.key)) once.0) refl refl refl ev quiet)
          | inr w ↦ let r = s.lanes h o k in lane-read value c k h (reloads ch.log) (lane c false false ch k) (lane c false false new k) r (le_refl _) r.within refl refl (ap (option_map (marked_at c k)) (sym (ap (find k) em ∙ find_past k m ms w.1))) refl (λ p low high. ap (c.best k) (omega arith))
        ];
        once = once.1;
      }

  -- a push that sends
  pub sent_keeps : (m : Marked) (ms : List Marked) (v : Option Attrs) (again : Bool) (ch : Channel) → ch.marks ≡ m ∷ ms → is_some (stretch ch.log) ≡ true → v ≡ passed value m.key (c.best m.key m.at)
      → (again ≡ true → v ≡ value_of (account m.key ch.log)) → (again ≡ false → v ≢ value_of (account m.key ch.log)) → (again ≡ true → (m.due ≡ true) × IsSome v)
      → IsChannel value c false false ch → IsChannel value c false false (record ch { marks = ms; log = Sent (record { at = m.at; key = m.key; value = v; again = again }) ∷ ch.log })
  sent_keeps m ms v again ch em up ev same other sent_again s =
      let x : Sending = record { at = m.at; key = m.key; value = v; again = again } in
      let once = subst AreOnce em s.once in
      let there : find m.key ch.marks ≡ Some m = ap (find m.key) em ∙ find_here m ms in
      let mark : Mark = marked_at c m.key m in
      let marked : option_map (marked_at c m.key) (find m.key ch.marks) ≡ Some mark = ap (option_map (marked_at c m.key)) there in
      let o = open_at (stretch ch.log) up in
      let r = s.lanes o.0 o.1 m.key in
      let n = reloads ch.log in
      let a = account m.key ch.log in
      let due : m.due ≡ true → a.agains < n = λ d. due_less a.agains n 0 (option_map (marked_at c m.key) (find m.key ch.marks)) mark marked d r.count in
      let may = may_send value c o.0 (max ch.position ch.floor) n a mark x (r.mark mark marked) r.within due (account_right value c m.key ch.log s.follows) refl ev same other sent_again in
      let new : Channel = record ch { marks = ms; log = Sent x ∷ ch.log } in
      record {
        follows = (s.follows, rw (o.1) may);
        lanes = λ h oh k. elim (key_tells m.key k) [
          | inl w ↦ subst (λ q. IsLane value c q h n (lane c false false new q)) w.1
              (lane-sent value c m.key h n (lane c false false ch m.key) (lane c false false new m.key) mark x (s.lanes h oh m.key) marked (ap (option_map (marked_at c m.key)) once.0) refl refl (account_named x ch.log) refl ev (λ g. (sent_again g).0))
          | inr w ↦ let r = s.lanes h oh k in lane-read value c k h n (lane c false false ch k) (lane c false false new k) r (le_refl _) r.within refl refl
              (ap (option_map (marked_at c k)) (sym (ap (find k) em ∙ find_past k m ms w.1))) (account_other x k ch.log w.0) (λ p low high. ap (c.best k) (omega arith))
        ];
        once = once.1;
      }

  -- a take of a change of this net; above the floor it marks the net
  pub take_marks : (net : Key) (ch : Channel) → ch.floor < ch.position + 1 → ch.position + 1 ≤ c.len → ((k : Key) → k ≢ net → c.best k (ch.position + 1) ≡ c.best k ch.position)
      → IsChannel value c false false ch → IsChannel value c false false (record ch { position = ch.position + 1; marks = put (record { key = net; at = ch.position + 1; due = false }) ch.marks })
  take_marks net ch above told others s =
      let m : Marked = record { key = net; at = ch.position + 1; due = false } in
      let new : Channel = record ch { position = ch.position + 1; marks = put m ch.marks } in
      let p = find_put m ch.marks in
      let reached : max (ch.position + 1) ch.floor ≡ p.mark.at = omega (arith, p.at_is) in
      record {
        follows = s.follows;
        lanes = λ h o k. elim (key_tells net k) [
          | inl w ↦ subst (λ q. IsLane value c q h (reloads ch.log) (lane c false false new q)) w.1
              (lane-marked value c net h (reloads ch.log) (lane c false false ch net) (lane c false false new net) (marked_at c net p.mark) (s.lanes h o net) (ap (option_map (marked_at c net)) p.there) (sym reached) (omega arith) (omega arith) (ap (c.best net) reached) refl
              (due_kept p.mark.due (find net ch.marks) p.due_is) (λ d co. (not_due p.mark.due (find net ch.marks) p.due_is d, refl)))
          | inr w ↦ lane-read value c k h (reloads ch.log) (lane c false false ch k) (lane c false false new k) (s.lanes h o k) (omega arith) (omega arith) refl refl (ap (option_map (marked_at c k)) (find_put_other k m ch.marks w.1)) refl
              (λ p low high. elim (cases_lt p (ch.position + 1)) [
                | inl z ↦ ap (c.best k) (omega arith)
                | inr z ↦ let ep : p ≡ ch.position + 1 = omega arith in let er : ch.position ≡ max ch.position ch.floor = omega arith in ap (c.best k) ep ∙ others k (λ e. w.1 (sym e)) ∙ ap (c.best k) er
              ])
        ];
        once = once_put m ch.marks s.once;
      } where
        same_due : (o : Option Marked) → is_due (option_map (marked_at c net) o) ≡ was_due o
        same_due None = refl
        same_due (Some m) = refl

        due_kept : (due : Bool) (o : Option Marked) → due ≡ was_due o → tally due + tally false ≤ tally (is_due (option_map (marked_at c net) o)) + tally false
        due_kept due o e = rw (e, same_due o) (le_refl _)

        not_due : (due : Bool) (o : Option Marked) → due ≡ was_due o → due ≡ false → is_due (option_map (marked_at c net) o) ≡ false
        not_due due o e d = same_due o ∙ sym e ∙ d

  pub take_passes : (ch : Channel) → ch.position + 1 ≤ ch.floor → IsChannel value c false false ch → IsChannel value c false false (record ch { position = ch.position + 1 })
  take_passes ch below s = record {
    follows = s.follows;
    lanes = λ h o k. let r = s.lanes h o k in lane-read value c k h (reloads ch.log) (lane c false false ch k) (lane c false false (record ch { position = ch.position + 1 }) k) r (omega arith) (omega (arith, r.within)) refl refl refl refl (λ p low high. ap (c.best k) (omega arith));
    once = s.once;
  }

  -- a take of a change that leaves each key's candidate
  pub take_skips : (ch : Channel) → ch.position + 1 ≤ c.len → ((k : Key) → c.best k (ch.position + 1) ≡ c.best k ch.position) → IsChannel value c false false ch → IsChannel value c false false (record ch { position = ch.position + 1 })
  take_skips ch told stays s = record {
    follows = s.follows;
    lanes = λ h o k. let r = s.lanes h o k in lane-read value c k h (reloads ch.log) (lane c false false ch k) (lane c false false (record ch { position = ch.position + 1 }) k) r (omega arith) (omega (arith, r.within)) refl refl refl refl
        (λ p low high. elim (cases_lt p (ch.position + 1)) [
          | inl z ↦ ap (c.best k) (omega arith)
          | inr z ↦ elim (cases_lt (max ch.position ch.floor) p) [
            | inl y ↦ let ep : p ≡ ch.position + 1 = omega arith in let er : ch.position ≡ max ch.position ch.floor = omega arith in ap (c.best k) ep ∙ stays k ∙ ap (c.best k) er
            | inr y ↦ ap (c.best k) (omega arith)
          ]
        ]);
    once = s.once;
  }

  pub up_keeps : (ch : Channel) → is_some (stretch ch.log) ≡ false → highest ch.log ≤ c.len → IsChannel value c false false ch → IsChannel value c true false (opened c.len ch)
  up_keeps ch down later s = record {
    follows = (s.follows, (shut (stretch ch.log) down, later, le_refl c.len));
    lanes = λ h oh k. let eh : c.len ≡ h = some_same oh in lane-up value c k h 0 (lane c true false (opened c.len ch) k) (omega arith) (omega arith) refl refl refl refl;
    once = tt;
  }

  pub reload_keeps : (ch : Channel) → is_some (stretch ch.log) ≡ true → IsChannel value c false false ch → IsChannel value c true true (renewed ch)
  reload_keeps ch up s = record {
    follows = (s.follows, up);
    lanes = λ h oh k. lane-reloaded value c k h (reloads ch.log) (lane c false false ch k) (lane c true true (renewed ch) k) (s.lanes h oh k) refl refl refl refl refl;
    once = s.once;
  }

  pub down_keeps : (ch : Channel) → is_some (stretch ch.log) ≡ true → IsChannel value c false false ch → IsChannel value c false false (closed ch)
  down_keeps ch up s = record { follows = (s.follows, up); lanes = λ h oh k. absurd (none_some oh); once = tt }
