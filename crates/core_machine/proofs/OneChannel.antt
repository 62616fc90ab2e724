-- What the machine's steps on one channel keep, with the operations of its protocol.
use Rattle.std.proofs.Common.{◌≡◌, ◌≢◌, ℕ, zero, suc, ◌+◌, ◌<◌, ◌≤◌, inl, inr, Bool, true, false, List, [], ◌∷◌, Option, Some, None, refl, sym, ◌∙◌, ap, subst, arith, length, is_some}
use Rattle.std.specs.Prelude.{◌==◌, ◌&&◌, ◌||◌, nat_lt, if◌then◌else◌}
use Rattle.std.proofs.Math.Nat.{le_refl}
use Rattle.std.proofs.lemmas.Bool.Decides.{eqb_tells, nat_tests, not_from_Decides}
use Rattle.bits_ip.specs.declared.address.Addr.TheVariants.{V4}
use Rattle.attrs.specs.declared.attributes.Attrs.{Attrs}
use Rattle.attrs.specs.declared.route.Change.{Change}
use Rattle.attrs.specs.contracts.attributes.AttrsPartialEq.TheImpl as attributes
use Rattle.attrs.specs.History.{Content}
use Rattle.attrs.proofs.Same.{attrs_decides}
use Rattle.import_core.specs.declared.operation.Op.{Op}
use Rattle.export_core.specs.declared.log.Key.{Key}
use Rattle.export_core.specs.declared.log.LogItem.{LogItem}
use Rattle.export_core.specs.declared.log.LogItem.TheVariants.{Up, Down, Reload, Sent}
use Rattle.export_core.specs.Histories.{IsLonger}
use Rattle.export_core.specs.Logs.{stretch, account, value_of, Follows}
use Rattle.export_core.specs.Marks.{holds}
use Rattle.export_core.proofs.SendLists.{highest_told}
use Rattle.core_machine.specs.Channels.{Channel, IsFeed, answer, closed, fed, is_open, logged, opened, push_one, pushed, renewed, same_value, send_of, take_one, taken, times, value_at}
use Rattle.core_machine.specs.Histories.{content_of, entry, front, own}
use Rattle.core_machine.specs.Marks.{Marked, find, put}
use Rattle.core_machine.specs.Pipes.{candidate, candidate_in, course_of, heeds, is_pipe, key_of, passes}
use Rattle.core_machine.specs.Room.{lags, roomed}
use Rattle.core_machine.specs.Rules.{IsRules, Rules, Signal, Rise, Fall, Renew, changes, is_up, signalled}
use Rattle.core_machine.specs.Signals.{AreSignals, IsPlace, Notice, notices, with_signal, without_sends}
use Rattle.core_machine.proofs.Contents.{some_same, none_some, content_past_net, content_past_num, front_more, front_all, front_next, entry_lt, if_true, if_false}
use Rattle.core_machine.proofs.ChannelSteps.{IsChannel, quiet_keeps, sent_keeps, take_marks, take_passes, take_skips, up_keeps, reload_keeps, down_keeps}
use Rattle.core_machine.proofs.FeedSteps.{fed_keeps, no_some, channel_longer}

pub times_keeps : {X : Type 0} (P : X → Type 0) (f : X → X) → ((x : X) → P x → P (f x)) → (n : ℕ) (x : X) → P x → P (times n f x)
times_keeps P f step zero x p = p
times_keeps P f step (suc n) x p = step (times n f x) (times_keeps P f step n x p)

-- some key
abbrev pub some_key : Key
some_key = record { net = record { addr = V4 0; len = 0 }; num = 0 }

abbrev same_attrs : Attrs → Attrs → Bool
same_attrs a b = (attributes.ghosts).eq a b

pub same_yes : (a b : Option Attrs) → same_value a b ≡ true → a ≡ b
same_yes None None e = refl
same_yes None (Some y) e = absurd (let bad : false ≡ true = e in cc)
same_yes (Some x) None e = absurd (let bad : false ≡ true = e in cc)
same_yes (Some x) (Some y) e = ap (λ z. Some z) ((attrs_decides x y).0 e)

pub same_no : (a b : Option Attrs) → same_value a b ≡ false → a ≢ b
same_no None None e = absurd (let bad : true ≡ false = e in cc)
same_no None (Some y) e = λ q. none_some q
same_no (Some x) None e = λ q. none_some (sym q)
same_no (Some x) (Some y) e = λ q. not_from_Decides (same_attrs x y) (attrs_decides x y) e (some_same q)

pub both : (a b : Bool) → (a && b) ≡ true → (a ≡ true) × (b ≡ true)
both true b e = (refl, e)
both false b e = absurd (let bad : false ≡ true = e in cc)

not_both : (a b : Bool) → (a && b) ≡ false → a ≡ true → b ≡ false
not_both true b e _ = e
not_both false b e q = absurd (let bad : false ≡ true = q in cc)

pub stretch_logged : (o : Option Bool) (m : Marked) (v : Option Attrs) (log : List LogItem) → stretch (logged o m v log) ≡ stretch log
stretch_logged None m v log = refl
stretch_logged (Some again) m v log = refl

marks_logged : (o : Option Bool) (m : Marked) (v : Option Attrs) (log : List LogItem) → without_sends (logged o m v log) ≡ without_sends log
marks_logged None m v log = refl
marks_logged (Some again) m v log = refl

pub key_is : (a b : Key) → a.net ≡ b.net → a.num ≡ b.num → a ≡ b
key_is a b e f = λ i. record { net = e i; num = f i }

module _ (g : Rules) where
  pub pipe_candidate : (c : ℕ) (k : Key) (f : Content) → is_pipe g c ≡ true → candidate_in g c k f ≡ (if passes g c k.num then f k.net k.num else None)
  pipe_candidate c k f e = if_true (is_pipe g c) (if passes g c k.num then f k.net k.num else None) (if k.num == 0 then g.choose (f k.net) else None) e

  pub plain_candidate : (c : ℕ) (k : Key) (f : Content) → is_pipe g c ≡ false → candidate_in g c k f ≡ (if k.num == 0 then g.choose (f k.net) else None)
  plain_candidate c k f e = if_false (is_pipe g c) (if passes g c k.num then f k.net k.num else None) (if k.num == 0 then g.choose (f k.net) else None) e

  pub heeds_pipe : (c num : ℕ) → is_pipe g c ≡ true → heeds g c num ≡ passes g c num
  heeds_pipe c num e = if_true (is_pipe g c) (passes g c num) true e

  pub heeds_plain : (c num : ℕ) → is_pipe g c ≡ false → heeds g c num ≡ true
  heeds_plain c num e = if_false (is_pipe g c) (passes g c num) true e

  pub pipe_key : (c : ℕ) (x : Change) → is_pipe g c ≡ true → (key_of g c x).num ≡ x.num
  pipe_key c x e = if_true (is_pipe g c) x.num 0 e

  pub plain_key : (c : ℕ) (x : Change) → is_pipe g c ≡ false → (key_of g c x).num ≡ 0
  plain_key c x e = if_false (is_pipe g c) x.num 0 e

  pub taken_log : (c : ℕ) (o : Option Change) (ch : Channel) → (taken g c o ch).log ≡ ch.log
  taken_log c None ch = refl
  taken_log c (Some x) ch = refl

  pub take_log : (c : ℕ) (h : List Change) (ch : Channel) → (take_one g c h ch).log ≡ ch.log
  take_log c h ch = taken_log c (entry ch.position h) ch

  pub open_pushed : (h : List Change) (c : ℕ) (ms : List Marked) (ch : Channel) → is_open (pushed g c h ms ch) ≡ is_open ch
  open_pushed h c [] ch = refl
  open_pushed h c (m ∷ ms) ch = ap (λ o. is_some o) (stretch_logged (answer g c h m ch) m (value_at g c h m) ch.log)

  marks_pushed : (h : List Change) (c : ℕ) (ms : List Marked) (ch : Channel) → without_sends (pushed g c h ms ch).log ≡ without_sends ch.log
  marks_pushed h c [] ch = refl
  marks_pushed h c (m ∷ ms) ch = marks_logged (answer g c h m ch) m (value_at g c h m) ch.log

  pub room_log : (h : List Change) (c : ℕ) (ch : Channel) → (roomed g c h ch).log ≡ ch.log
  room_log h c ch = elim (lags g h ch) as (λ b. (if b then take_one g c h ch else ch).log ≡ ch.log) [ true ↦ take_log c h ch | false ↦ refl ]

module _ (g : Rules) (ok : IsRules g) where
  -- a change leaves the content of another key
  content_other : (k : Key) (x : Change) (h : List Change) → (x.net ≡ k.net → x.num ≡ k.num → ⊥) → content_of (x ∷ h) k.net k.num ≡ content_of h k.net k.num
  content_other k x h other = elim (eqb_tells x.num k.num) [
    | inl w ↦ content_past_net x h k.net k.num (λ e. other e w.1)
    | inr w ↦ content_past_num x h k.net k.num w.1
  ]

  -- a change leaves the candidates of all keys but its own; of that too where its source isn't heeded
  pub candidate_stays : (c : ℕ) (k : Key) (x : Change) (h : List Change) → (heeds g c x.num ≡ true → k ≢ key_of g c x) → candidate g c k (x ∷ h) ≡ candidate g c k h
  candidate_stays c k x h other = elim (is_pipe g c) as (λ b. is_pipe g c ≡ b → candidate g c k (x ∷ h) ≡ candidate g c k h) [
    | true ↦ λ e. pipe_candidate g c k (content_of (x ∷ h)) e
        ∙ elim (passes g c k.num) as (λ b. passes g c k.num ≡ b → (if b then content_of (x ∷ h) k.net k.num else None) ≡ (if b then content_of h k.net k.num else None)) [
          | true ↦ λ q. content_other k x h (λ en em. other (heeds_pipe g c x.num e ∙ ap (passes g c) em ∙ q) (sym (key_is (key_of g c x) k en (pipe_key g c x e ∙ em))))
          | false ↦ λ q. refl
        ] refl
        ∙ sym (pipe_candidate g c k (content_of h) e)
    | false ↦ λ e. plain_candidate g c k (content_of (x ∷ h)) e
        ∙ elim (eqb_tells k.num 0) [
          | inl w ↦ ap (λ b. if b then g.choose (content_of (x ∷ h) k.net) else None) w.0
              ∙ ok.same (content_of (x ∷ h) k.net) (content_of h k.net) (λ num. content_past_net x h k.net num (λ en. other (heeds_plain g c x.num e) (sym (key_is (key_of g c x) k en (plain_key g c x e ∙ sym w.1)))))
              ∙ ap (λ b. if b then g.choose (content_of h k.net) else None) (sym w.0)
          | inr w ↦ ap (λ b. if b then g.choose (content_of (x ∷ h) k.net) else None) w.0 ∙ ap (λ b. if b then g.choose (content_of h k.net) else None) (sym w.0)
        ]
        ∙ sym (plain_candidate g c k (content_of h) e)
  ] refl

  longer : (c : ℕ) (x : Change) (h : List Change) → IsLonger (course_of g c h) (course_of g c (x ∷ h))
  longer c x h = record { len = omega arith; best = λ k p w. ap (candidate g c k) (front_more p x h w) }

  taken_keeps : (c : ℕ) (h : List Change) (o : Option Change) (ch : Channel) → entry ch.position h ≡ o → IsChannel (g.value c) (course_of g c h) false false ch → IsChannel (g.value c) (course_of g c h) false false (taken g c o ch)
  taken_keeps c h None ch e s = s
  taken_keeps c h (Some x) ch e s =
      let lt = entry_lt ch.position h x e in
      let m : Marked = record { key = key_of g c x; at = ch.position + 1; due = false } in
      let C = IsChannel (g.value c) (course_of g c h) false false in
      let next = λ (k : Key) (other : heeds g c x.num ≡ true → k ≢ key_of g c x). let s1 : candidate g c k (front (ch.position + 1) h) ≡ candidate g c k (front ch.position h) = ap (candidate g c k) (front_next ch.position h x e) ∙ candidate_stays c k x (front ch.position h) other in s1 in
      elim (nat_lt ch.floor (ch.position + 1)) as (λ b. nat_lt ch.floor (ch.position + 1) ≡ b → C (record ch { position = ch.position + 1; marks = (if b && heeds g c x.num then put m ch.marks else ch.marks) })) [
        | true ↦ λ q. elim (heeds g c x.num) as (λ b. heeds g c x.num ≡ b → C (record ch { position = ch.position + 1; marks = (if b then put m ch.marks else ch.marks) })) [
          | true ↦ λ z. take_marks (g.value c) (course_of g c h) (key_of g c x) ch (above ch.floor (ch.position + 1) q) (omega arith) (λ k other. next k (λ _. other)) s
          | false ↦ λ z. take_skips (g.value c) (course_of g c h) ch (omega arith) (λ k. next k (λ y. absurd (let bad : false ≡ true = sym z ∙ y in cc))) s
        ] refl
        | false ↦ λ q. take_passes (g.value c) (course_of g c h) ch (below ch.floor (ch.position + 1) q) s
      ] refl where
        above : (a b : ℕ) → nat_lt a b ≡ true → a < b
        above a b q = grind (arith, nat_tests, q)

        below : (a b : ℕ) → nat_lt a b ≡ false → b ≤ a
        below a b q = grind (arith, nat_tests, q)

  pushed_keeps : (c : ℕ) (h : List Change) (ms : List Marked) (ch : Channel) → ch.marks ≡ ms → is_open ch ≡ true → IsChannel (g.value c) (course_of g c h) false false ch → IsChannel (g.value c) (course_of g c h) false false (pushed g c h ms ch)
  pushed_keeps c h [] ch e up s = s
  pushed_keeps c h (m ∷ ms) ch e up s =
      let v = value_at g c h m in
      let old = value_of (account m.key ch.log) in
      let new = λ (o : Option Bool). IsChannel (g.value c) (course_of g c h) false false (record ch { marks = ms; log = logged o m v ch.log }) in
      elim (same_value v old) as (λ b. same_value v old ≡ b → new (send_of b m.due (is_some v))) [
        | false ↦ λ q. sent_keeps (g.value c) (course_of g c h) m ms v false ch e up refl (λ z. absurd (let bad : false ≡ true = z in cc)) (λ _. same_no v old q) (λ z. absurd (let bad : false ≡ true = z in cc)) s
        | true ↦ λ q. elim (m.due && is_some v) as (λ b. (m.due && is_some v) ≡ b → new (if b then Some true else None)) [
          | true ↦ λ d. sent_keeps (g.value c) (course_of g c h) m ms v true ch e up refl (λ _. same_yes v old q) (λ z. absurd (let bad : true ≡ false = z in cc)) (λ _. both m.due (is_some v) d) s
          | false ↦ λ d. quiet_keeps (g.value c) (course_of g c h) m ms ch e (sym (same_yes v old q)) (λ z. sym (same_yes v old q) ∙ no_some v (not_both m.due (is_some v) d z)) s
        ] refl
      ] refl

  -- all that is kept of a channel with its protocol's operations
  pub record IsKept (h : List Change) (c : ℕ) (ops : List Op) (ch : Channel) : Type 0 where
    pub channel : IsChannel (g.value c) (course_of g c h) false false ch
    pub up : is_open ch ≡ is_up g (g.owner c) ops
    pub marks : AreSignals g h c (without_sends ch.log) (notices g (g.owner c) ops)

  pub take_keeps : (h : List Change) (c : ℕ) (ops : List Op) (ch : Channel) → IsKept h c ops ch → IsKept h c ops (take_one g c h ch)
  take_keeps h c ops ch k = let el = take_log g c h ch in record {
    channel = taken_keeps c h (entry ch.position h) ch refl k.channel;
    up = ap (λ l. is_some (stretch l)) el ∙ k.up;
    marks = subst (λ l. AreSignals g h c (without_sends l) (notices g (g.owner c) ops)) (sym el) k.marks;
  }

  pub push_keeps : (h : List Change) (c : ℕ) (ops : List Op) (ch : Channel) → is_open ch ≡ true → IsKept h c ops ch → IsKept h c ops (push_one g c h ch)
  push_keeps h c ops ch up k = record {
    channel = pushed_keeps c h ch.marks ch refl up k.channel;
    up = open_pushed g h c ch.marks ch ∙ k.up;
    marks = subst (λ ms. AreSignals g h c ms (notices g (g.owner c) ops)) (sym (marks_pushed g h c ch.marks ch)) k.marks;
  }

  pub room_keeps : (h : List Change) (c : ℕ) (ops : List Op) (ch : Channel) → IsKept h c ops ch → IsKept h c ops (roomed g c h ch)
  room_keeps h c ops ch k = elim (lags g h ch) as (λ b. IsKept h c ops (if b then take_one g c h ch else ch)) [ true ↦ take_keeps h c ops ch k | false ↦ k ]

  -- a place that is told stays one in a longer history
  place_longer : (x : Change) (h : List Change) (c p : ℕ) (ops : List Op) (t : Option ℕ) → p ≤ length h → IsPlace g h c p ops t → IsPlace g (x ∷ h) c p ops t
  place_longer x h c p ops None w i = ap (own (g.owner c)) (front_more p x h w) ∙ i
  place_longer x h c p ops (Some t) w i = i

  marks_longer : (x : Change) (h : List Change) (c : ℕ) (log : List LogItem) (ss : List Notice) → Follows (g.value c) (course_of g c h) log → AreSignals g h c (without_sends log) ss → AreSignals g (x ∷ h) c (without_sends log) ss
  marks_longer x h c [] [] f m = tt
  marks_longer x h c [] (s ∷ ss) f m = absurd m
  marks_longer x h c (Up p ∷ log) [] f m = absurd m
  marks_longer x h c (Up p ∷ log) (s ∷ ss) f m = ((m.0.0, place_longer x h c p s.ops (g.target c) f.1.2 m.0.1), marks_longer x h c log ss f.0 m.1)
  marks_longer x h c (Down ∷ log) [] f m = absurd m
  marks_longer x h c (Down ∷ log) (s ∷ ss) f m = (m.0, marks_longer x h c log ss f.0 m.1)
  marks_longer x h c (Reload ∷ log) [] f m = absurd m
  marks_longer x h c (Reload ∷ log) (s ∷ ss) f m = (m.0, marks_longer x h c log ss f.0 m.1)
  marks_longer x h c (Sent y ∷ log) ss f m = marks_longer x h c log ss f.0 m

  -- a longer history
  pub longer_keeps : (x : Change) (h : List Change) (c : ℕ) (ops : List Op) (ch : Channel) → IsKept h c ops ch → IsKept (x ∷ h) c ops ch
  longer_keeps x h c ops ch k = record {
    channel = channel_longer (g.value c) (course_of g c h) (course_of g c (x ∷ h)) (longer c x h) ch k.channel;
    up = k.up;
    marks = marks_longer x h c ch.log (notices g (g.owner c) ops) k.channel.follows k.marks;
  }

  at_head : (h : List Change) (c : ℕ) (ch : Channel) (keys : List Key) → IsFeed g c h ch keys → (k : Key)
      → holds k keys ≡ (is_some ((course_of g c h).best k (length h)) || (is_some (find k ch.marks) || is_some (value_of (account k ch.log))))
  at_head h c ch keys f k = f.are k ∙ ap (λ o. is_some o || (is_some (find k ch.marks) || is_some (value_of (account k ch.log)))) (sym (ap (candidate g c k) (front_all h)))

  -- what is kept once a signal is obeyed
  pub record IsDone (h : List Change) (c : ℕ) (op : Op) (ops : List Op) (m : Signal) (ch : Channel) : Type 0 where
    pub channel : IsChannel (g.value c) (course_of g c h) false false ch
    pub up : is_open ch ≡ signalled m (is_up g (g.owner c) ops)
    pub marks : AreSignals g h c (without_sends ch.log) (with_signal m (op ∷ ops) (notices g (g.owner c) ops))

  low : (h : List Change) (c : ℕ) (b d : Bool) (ch : Channel) → IsChannel (g.value c) (course_of g c h) b d ch → (o : ℕ) → stretch ch.log ≡ Some o → ch.position ≤ length h
  low h c b d ch s o e = omega (arith, (s.lanes o e some_key).within)

  place_here : (h : List Change) (c : ℕ) (op : Op) (ops : List Op) (t : Option ℕ) → (t ≡ None → own (g.owner c) h ≡ changes g (g.owner c) (op ∷ ops)) → IsPlace g h c (length h) (op ∷ ops) t
  place_here h c op ops None own_is = ap (own (g.owner c)) (front_all h) ∙ own_is refl
  place_here h c op ops (Some t) own_is = λ e. absurd (let bad : op ∷ ops ≡ [] = e in cc)

  pub rise_keeps : (h : List Change) (c : ℕ) (op : Op) (ops : List Op) (ch : Channel) (keys : List Key) → (g.target c ≡ None → own (g.owner c) h ≡ changes g (g.owner c) (op ∷ ops)) → is_up g (g.owner c) ops ≡ false → IsFeed g c h (opened (length h) ch) keys
      → IsKept h c ops ch → IsDone h c op ops Rise (fed keys false (length h) (opened (length h) ch))
  rise_keeps h c op ops ch keys own_is fit feed k =
      let course = course_of g c h in
      let up = up_keeps (g.value c) course ch (k.up ∙ fit) (highest_told (g.value c) course ch.log k.channel.follows) k.channel in record {
        channel = fed_keeps (g.value c) course keys false (opened (length h) ch) (λ o e. le_refl (length h)) (at_head h c (opened (length h) ch) keys feed) up;
        up = refl;
        marks = ((refl, place_here h c op ops (g.target c) own_is), k.marks);
      }

  pub fall_keeps : (h : List Change) (c : ℕ) (op : Op) (ops : List Op) (ch : Channel) → is_up g (g.owner c) ops ≡ true → IsKept h c ops ch → IsDone h c op ops Fall (closed ch)
  fall_keeps h c op ops ch fit k = record { channel = down_keeps (g.value c) (course_of g c h) ch (k.up ∙ fit) k.channel; up = refl; marks = (refl, k.marks) }

  pub renew_keeps : (h : List Change) (c : ℕ) (op : Op) (ops : List Op) (ch : Channel) (keys : List Key) → is_up g (g.owner c) ops ≡ true → IsFeed g c h (renewed ch) keys
      → IsKept h c ops ch → IsDone h c op ops Renew (fed keys true (length h) (renewed ch))
  renew_keeps h c op ops ch keys fit feed k =
      let course = course_of g c h in
      let s = reload_keeps (g.value c) course ch (k.up ∙ fit) k.channel in record {
        channel = fed_keeps (g.value c) course keys true (renewed ch) (low h c true true (renewed ch) s) (at_head h c (renewed ch) keys feed) s;
        up = k.up;
        marks = (refl, k.marks);
      }
