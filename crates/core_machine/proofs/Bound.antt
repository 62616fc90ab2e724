-- How many rounds a sync has: by the distance that a source's changes still have to go.
use Rattle.std.proofs.Common.{◌≡◌, ◌≢◌, ℕ, zero, suc, ◌+◌, ◌-◌, ◌<◌, ◌≤◌, inl, inr, Bool, true, false, List, [], ◌∷◌, Option, Some, None, refl, sym, ◌∙◌, ap, subst, arith, length, is_some}
use Rattle.std.specs.Prelude.{◌==◌, ◌&&◌, nat_lt, if◌then◌else◌}
use Rattle.std.proofs.Math.Nat.{le_refl}
use Rattle.std.proofs.lemmas.Bool.{cases_lt}
use Rattle.std.proofs.lemmas.Bool.Decides.{nat_tests, eqb_tells}
use Rattle.attrs.specs.declared.route.Change.{Change}
use Rattle.import_core.specs.declared.operation.Op.{Op}
use Rattle.export_core.specs.declared.log.Key.{Key}
use Rattle.export_core.specs.Keys.{same_key}
use Rattle.export_core.specs.Logs.{stretch}
use Rattle.export_core.proofs.Keys.{key_tells}
use Rattle.export_core.proofs.Pushing.{open_at}
use Rattle.core_machine.specs.Channels.{Channel, answer, is_open, push_one, pushed, take_one, taken, times, value_at}
use Rattle.core_machine.specs.Histories.{entry, own}
use Rattle.core_machine.specs.Lines.{Act, Line}
use Rattle.core_machine.specs.Machine.{Begins, Plays, State, added, arrived, gain, gained, push_at, set, with_channel}
use Rattle.core_machine.specs.Marks.{Marked, find, put}
use Rattle.core_machine.specs.Phases.{Comes}
use Rattle.core_machine.specs.Pipes.{heeds, is_pipe, key_of, passes}
use Rattle.core_machine.specs.Room.{lags, roomed}
use Rattle.core_machine.specs.Rounds.{AreSettled, HasRounds, pushed_out, round, taken_up, turned, turns_to}
use Rattle.core_machine.specs.Rules.{IsRules, Rules}
use Rattle.core_machine.proofs.Contents.{AllOf, none_some, some_same, if_true, if_false, entry_lt, entry_none, those_in, those_out, eqb_yes}
use Rattle.core_machine.proofs.Growing.{more_added, more_arrived, set_here, set_there, some_list}
use Rattle.core_machine.proofs.MarkSteps.{find_here, find_put_other}
use Rattle.core_machine.proofs.OneChannel.{push_keeps, some_key, times_keeps}
use Rattle.core_machine.proofs.PhaseEnds.{comes_keeps}
use Rattle.core_machine.proofs.Tables.{passed_way}
use Rattle.core_machine.proofs.WholeState.{IsRight, IsState, begins_keeps, gained_fits, given, is_target, owned, plays_keeps, pushes_step, rounds_keep, takes_open, takes_step, turns_step}

no : {A : Type 0} → true ≡ false → A
no e = absurd (let bad : true ≡ false = e in cc)

-- ---- one channel: how far takes and pushes go

pub take_position : (g : Rules) (c : ℕ) (h : List Change) (ch : Channel) → ch.position < length h → (take_one g c h ch).position ≡ ch.position + 1
take_position g c h ch lt = elim (entry ch.position h) as (λ o. entry ch.position h ≡ o → (taken g c o ch).position ≡ ch.position + 1) [
  | None ↦ λ e. let high = entry_none ch.position h e in absurd (let bad : 1 ≤ 0 = omega arith in omega (arith, bad))
  | Some x ↦ λ e. refl
] refl

pub takes_position : (g : Rules) (c : ℕ) (h : List Change) (n : ℕ) (ch : Channel) → ch.position + n ≤ length h → (times n (take_one g c h) ch).position ≡ ch.position + n
takes_position g c h zero ch le = omega arith
takes_position g c h (suc n) ch le =
    let p = takes_position g c h n ch (omega arith) in
    take_position g c h (times n (take_one g c h) ch) (omega (arith, p)) ∙ omega (arith, p)

pub push_position : (g : Rules) (c : ℕ) (h : List Change) (ms : List Marked) (ch : Channel) → (pushed g c h ms ch).position ≡ ch.position
push_position g c h [] ch = refl
push_position g c h (m ∷ ms) ch = refl

pub pushes_position : (g : Rules) (c : ℕ) (h : List Change) (n : ℕ) (ch : Channel) → (times n (push_one g c h) ch).position ≡ ch.position
pushes_position g c h zero ch = refl
pushes_position g c h (suc n) ch = let x = times n (push_one g c h) ch in push_position g c h x.marks x ∙ pushes_position g c h n ch

push_marks : (g : Rules) (c : ℕ) (h : List Change) (n : ℕ) (ms : List Marked) (ch : Channel) → ch.marks ≡ ms → length ms ≤ suc n → length (pushed g c h ms ch).marks ≤ n
push_marks g c h n [] ch e le = omega (arith, ap length e)
push_marks g c h n (m ∷ ms) ch e le = omega arith

pub pushes_marks : (g : Rules) (c : ℕ) (h : List Change) (n k : ℕ) (ch : Channel) → length ch.marks ≤ k + n → length (times n (push_one g c h) ch).marks ≤ k
pushes_marks g c h zero k ch le = omega arith
pushes_marks g c h (suc n) k ch le = let x = times n (push_one g c h) ch in push_marks g c h k x.marks x refl (pushes_marks g c h n (suc k) ch (omega arith))

pub no_marks : (ms : List Marked) → length ms ≤ 0 → ms ≡ []
no_marks [] le = refl
no_marks (m ∷ ms) le = absurd (let bad : 1 ≤ 0 = omega arith in omega (arith, bad))

never : {A : Type 0} → 1 ≤ 0 → A
never bad = absurd (omega (arith, bad))

own_entry : (p : ℕ) (h : List Change) (x : Change) → entry p h ≡ Some x → own x.num h ≢ []
own_entry p [] x e = absurd (none_some e)
own_entry p (y ∷ h) x e = elim (eqb_tells (length h) p) [
  | inl w ↦ let yx : y ≡ x = some_same (sym (if_true (length h == p) (Some y) (entry p h) w.0) ∙ e) in λ z. let bad : y ∷ own x.num h ≡ [] = sym (those_in (λ num. num == x.num) y h (eqb_yes y.num x.num (ap (λ c. c.num) yx))) ∙ z in cc
  | inr w ↦ let there = own_entry p h x (sym (if_false (length h == p) (Some y) (entry p h) w.0) ∙ e) in
      λ z. elim (y.num == x.num) as (λ b. (y.num == x.num) ≡ b → ⊥) [
        | true ↦ λ q. let bad : y ∷ own x.num h ≡ [] = sym (those_in (λ num. num == x.num) y h q) ∙ z in cc
        | false ↦ λ q. there (sym (those_out (λ num. num == x.num) y h q) ∙ z)
      ] refl
]

module _ (g : Rules) (ok : IsRules g) where
  -- a source comes to a table by no fewer directions
  abbrev pub IsFar : ℕ → ℕ → ℕ → Type 0
  IsFar t num r = (ds : List ℕ) × (g.hops t num ≡ Some ds) × (r ≤ length ds)

  far_less : (t num r r2 : ℕ) → r2 ≤ r → IsFar t num r → IsFar t num r2
  far_less t num r r2 le f = (f.0, f.1, omega (arith, f.2))

  abbrev pub MarkFar : ℕ → Key → ℕ → Type 0
  MarkFar c k r = (num : ℕ) × (is_pipe g c ≡ true → k.num ≡ num) × IsFar (g.reads c) num r

  -- what a channel has still to do is of sources that come from far
  pub record IsLate (r c : ℕ) (h : List Change) (ch : Channel) : Type 0 where
    pub entries : (p : ℕ) (x : Change) → ch.position ≤ p → entry p h ≡ Some x → IsFar (g.reads c) x.num r
    pub marks : (k : Key) → is_some (find k ch.marks) ≡ true → 1 ≤ r → MarkFar c k r

  late_less : (r r2 c : ℕ) (h : List Change) (ch : Channel) → r2 ≤ r → IsLate r c h ch → IsLate r2 c h ch
  late_less r r2 c h ch le l = record {
    entries = λ p x low e. far_less (g.reads c) x.num r r2 le (l.entries p x low e);
    marks = λ k some one. let m = l.marks k some (omega (arith, le, one)) in (m.0, m.1, far_less (g.reads c) m.0 r r2 le m.2);
  }

  late_taken : (r c : ℕ) (h : List Change) (o : Option Change) (ch : Channel) → entry ch.position h ≡ o → IsLate r c h ch → IsLate r c h (taken g c o ch)
  late_taken r c h None ch e l = l
  late_taken r c h (Some x) ch e l =
      let m : Marked = record { key = key_of g c x; at = ch.position + 1; due = false } in
      let far = l.entries ch.position x (le_refl ch.position) e in
      record {
        entries = λ p y low f. l.entries p y (omega arith) f;
        marks = λ k. elim (nat_lt ch.floor (ch.position + 1) && heeds g c x.num) as (λ b. is_some (find k (if b then put m ch.marks else ch.marks)) ≡ true → 1 ≤ r → MarkFar c k r) [
          | true ↦ elim (key_tells m.key k) [
            | inl w ↦ λ some one. (x.num, λ pipe. ap (λ q. q.num) (sym w.1) ∙ if_true (is_pipe g c) x.num 0 pipe, far)
            | inr w ↦ λ some one. l.marks k (ap is_some (sym (find_put_other k m ch.marks w.1)) ∙ some) one
          ]
          | false ↦ λ some one. l.marks k some one
        ];
      }

  late_take : (r c : ℕ) (h : List Change) (ch : Channel) → IsLate r c h ch → IsLate r c h (take_one g c h ch)
  late_take r c h ch l = late_taken r c h (entry ch.position h) ch refl l

  late_room : (r c : ℕ) (h : List Change) (ch : Channel) → IsLate r c h ch → IsLate r c h (roomed g c h ch)
  late_room r c h ch l = elim (lags g h ch) as (λ b. IsLate r c h (if b then take_one g c h ch else ch)) [ true ↦ late_take r c h ch l | false ↦ l ]

  late_longer : (r c : ℕ) (x : Change) (h : List Change) (ch : Channel) → IsFar (g.reads c) x.num r → IsLate r c h ch → IsLate r c (x ∷ h) ch
  late_longer r c x h ch far l = record {
    entries = λ p y low e. elim (eqb_tells (length h) p) [
      | inl w ↦ subst (λ (z : Change). IsFar (g.reads c) z.num r) (some_same (sym (if_true (length h == p) (Some x) (entry p h) w.0) ∙ e)) far
      | inr w ↦ l.entries p y low (sym (if_false (length h == p) (Some x) (entry p h) w.0) ∙ e)
    ];
    marks = l.marks;
  }

  find_more : (k : Key) (m : Marked) (ms : List Marked) → is_some (find k ms) ≡ true → is_some (find k (m ∷ ms)) ≡ true
  find_more k m ms e = elim (same_key m.key k) as (λ b. is_some (if b then Some m else find k ms) ≡ true) [ true ↦ refl | false ↦ e ]

  late_pushed : (r c : ℕ) (h h2 : List Change) (ms : List Marked) (ch : Channel) → ch.marks ≡ ms → IsLate r c h ch → IsLate r c h (pushed g c h2 ms ch)
  late_pushed r c h h2 [] ch e l = l
  late_pushed r c h h2 (m ∷ ms) ch e l = record { entries = l.entries; marks = λ k some one. l.marks k (ap (λ ms. is_some (find k ms)) e ∙ find_more k m ms some) one }

  -- ---- the state

  abbrev pub AreLate : (ℕ → ℕ) → State → Type 0
  AreLate f s = (c : ℕ) → is_open (s.channels c) ≡ true → IsLate (f c) c (s.history (g.reads c)) (s.channels c)

  late_added : (t : ℕ) (x : Change) (f : ℕ → ℕ) (s : State) → ((c : ℕ) → g.reads c ≡ t → IsFar t x.num (f c)) → AreLate f s → AreLate f (added g t x s)
  late_added t x f s far l = λ c up.
      let h = s.history t in
      let ch = s.channels c in
      let k = l c (ap (λ l. is_some (stretch l)) (sym ((more_added g ok t x s).logs c)) ∙ up) in
      elim (eqb_tells (g.reads c) t) [
        | inl w ↦ subst (λ h2. IsLate (f c) c h2 (if g.reads c == t then roomed g c h ch else ch)) (sym (set_here t (x ∷ h) s.history (g.reads c) (sym w.1)))
            (subst (IsLate (f c) c (x ∷ h)) (sym (if_true (g.reads c == t) (roomed g c h ch) ch w.0))
            (late_longer (f c) c x h (roomed g c h ch) (subst (λ q. IsFar q x.num (f c)) (sym w.1) (far c w.1)) (late_room (f c) c h ch (subst (λ q. IsLate (f c) c (s.history q) ch) w.1 k))))
        | inr w ↦ subst (λ h2. IsLate (f c) c h2 (if g.reads c == t then roomed g c h ch else ch)) (sym (set_there t (x ∷ h) s.history (g.reads c) (λ e. w.1 (sym e))))
            (subst (IsLate (f c) c (s.history (g.reads c))) (sym (if_false (g.reads c == t) (roomed g c h ch) ch w.0)) k)
      ]

  late_one : (n : ℕ) (new : Channel) (f : ℕ → ℕ) (s : State) → (is_open new ≡ true → IsLate (f n) n (s.history (g.reads n)) new) → ((c : ℕ) → n ≢ c → is_open (s.channels c) ≡ true → IsLate (f c) c (s.history (g.reads c)) (s.channels c)) → AreLate f (with_channel n new s)
  late_one n new f s k l = λ c. elim (eqb_tells n c) [
    | inl w ↦ subst (λ q. is_open (set n new s.channels q) ≡ true → IsLate (f q) q (s.history (g.reads q)) (set n new s.channels q)) w.1
        (subst (λ ch. is_open ch ≡ true → IsLate (f n) n (s.history (g.reads n)) ch) (sym (set_here n new s.channels n refl)) k)
    | inr w ↦ subst (λ ch. is_open ch ≡ true → IsLate (f c) c (s.history (g.reads c)) ch) (sym (set_there n new s.channels c w.1)) (l c w.1)
  ]

  -- what a push enters comes from farther
  gained_far : (n t r : ℕ) (h : List Change) (ms : List Marked) (ch : Channel) → g.target n ≡ Some t → AllOf (passes g n) (some_list (gained g n h ms ch)) → ((k : Key) → is_some (find k ms) ≡ true → 1 ≤ r → MarkFar n k r)
      → (x : Change) → gained g n h ms ch ≡ Some x → IsFar t x.num (suc r)
  gained_far n t r h [] ch e a marks x is = absurd (none_some is)
  gained_far n t r h (m ∷ ms) ch e a marks x is = from (answer g n h m ch) a is where
    far : passes g n m.key.num ≡ true → IsFar t m.key.num (suc r)
    far p =
        let q = passed_way g n m.key.num (g.target n) refl p in
        let here : g.hops t m.key.num ≡ Some (n ∷ q.1) = subst (λ y. g.hops y m.key.num ≡ Some (n ∷ q.1)) (some_same (sym q.2 ∙ e)) q.3 in
        let before = (ok.ways.chain t m.key.num n q.1 here).1 in (
          n ∷ q.1,
          here,
          elim (cases_lt 0 r) [
            | inl w ↦ let d = marks m.key (ap is_some (find_here m ms)) (omega (arith, w)) in
                let same : d.2.0 ≡ q.1 = some_same (sym d.2.1 ∙ ap (g.hops (g.reads n)) (sym (d.1 (is_target g n t e))) ∙ before) in
                omega (arith, d.2.2, ap length same)
            | inr w ↦ omega (arith, w)
          ],
        )

    from : (o : Option Bool) → AllOf (passes g n) (some_list (gain g o m (value_at g n h m))) → gain g o m (value_at g n h m) ≡ Some x → IsFar t x.num (suc r)
    from None a is = absurd (none_some is)
    from (Some true) a is = absurd (none_some is)
    from (Some false) a is = subst (λ (z : Change). IsFar t z.num (suc r)) (some_same is) (far a.0)

  push_late : (n r : ℕ) (ops : ℕ → List Op) (f : ℕ → ℕ) (s : State) → IsRight g ok ops s → is_open (s.channels n) ≡ true → f n ≡ r → ((c : ℕ) → f c ≤ suc r) → AreLate f s → AreLate f (push_at g n s)
  push_late n r ops f s is up en top l =
      let h = s.history (g.reads n) in
      let ch = s.channels n in
      let new = push_one g n h ch in
      let o = gained g n h ch.marks ch in
      let mine = l n up in
      elim (g.target n) as (λ q. g.target n ≡ q → AreLate f (with_channel n new (arrived g q o s))) [
        | None ↦ λ e. late_one n new f s (λ _. late_pushed (f n) n h h ch.marks ch refl mine) (λ c other on. l c on)
        | Some t ↦ λ e.
            let k = push_keeps g ok h n (ops n) ch up (is.keeps n) in
            let fits = gained_fits g ok n t h (s.history t) ch.marks ch e k.channel.follows (is.exact.entered n t e) (is.exact.real t) in
            let m = more_arrived g ok t o s in
            let far = gained_far n t r h ch.marks ch e fits.0 (subst (λ q. (k : Key) → is_some (find k ch.marks) ≡ true → 1 ≤ q → MarkFar n k q) en mine.marks) in
            let after : AreLate f (arrived g (Some t) o s) = elim o as (λ w. o ≡ w → AreLate f (arrived g (Some t) w s)) [
              | None ↦ λ _. l
              | Some x ↦ λ is_x. late_added t x f s (λ c on. far_less t x.num (suc r) (f c) (top c) (far x is_x)) l
            ] refl in
            late_one n new f (arrived g (Some t) o s) (λ _. subst (λ h2. IsLate (f n) n h2 new) (sym (m.there (g.reads n) (λ q. ok.apart n t e (sym q)))) (late_pushed (f n) n h h ch.marks ch refl mine)) (λ c other on. after c on)
      ] refl

  pushes_late : (k n r : ℕ) (ops : ℕ → List Op) (f : ℕ → ℕ) (s : State) → IsRight g ok ops s → is_open (s.channels n) ≡ true → f n ≡ r → ((c : ℕ) → f c ≤ suc r) → AreLate f s → AreLate f (times k (push_at g n) s)
  pushes_late zero n r ops f s is up en top l = l
  pushes_late (suc k) n r ops f s is up en top l = let p = pushes_step g ok k n ops s up is in push_late n r ops f (times k (push_at g n) s) p.0.right p.1 en top (pushes_late k n r ops f s is up en top l)

  -- a channel's own pushes, and its table
  push_here : (n : ℕ) (s : State) → ((push_at g n s).channels n ≡ push_one g n (s.history (g.reads n)) (s.channels n)) × ((push_at g n s).history (g.reads n) ≡ s.history (g.reads n))
  push_here n s =
      let h = s.history (g.reads n) in
      let ch = s.channels n in
      let o = gained g n h ch.marks ch in (
        set_here n (push_one g n h ch) (arrived g (g.target n) o s).channels n refl,
        elim (g.target n) as (λ q. g.target n ≡ q → (arrived g q o s).history (g.reads n) ≡ h) [
          | None ↦ λ e. refl
          | Some t ↦ λ e. (more_arrived g ok t o s).there (g.reads n) (λ q. ok.apart n t e (sym q))
        ] refl,
      )

  pushes_here : (k n : ℕ) (s : State) → ((times k (push_at g n) s).channels n ≡ times k (push_one g n (s.history (g.reads n))) (s.channels n)) × ((times k (push_at g n) s).history (g.reads n) ≡ s.history (g.reads n))
  pushes_here zero n s = (refl, refl)
  pushes_here (suc k) n s = let u = times k (push_at g n) s in let a = pushes_here k n s in let b = push_here n u in
      (b.0 ∙ ap (λ h. push_one g n h (u.channels n)) a.1 ∙ ap (push_one g n (s.history (g.reads n))) a.0, b.1 ∙ a.1)

  at_rest : (r c : ℕ) (h : List Change) (ch : Channel) → length h ≤ ch.position → ch.marks ≡ [] → IsLate r c h ch
  at_rest r c h ch high none = record {
    entries = λ p x low e. let lt = entry_lt p h x e in never (omega arith);
    marks = λ k some. absurd (no (sym (ap (λ ms. is_some (find k ms)) (sym none) ∙ some)));
  }

  -- a channel's turn
  turn_late : (n r : ℕ) (ops : ℕ → List Op) (f f2 : ℕ → ℕ) (s : State) → IsRight g ok ops s → f n ≡ r → ((c : ℕ) → f c ≤ suc r) → ((c : ℕ) → n ≢ c → f2 c ≡ f c) → AreLate f s → AreLate f2 (turned g n s)
  turn_late n r ops f f2 s is en top same l = elim (is_open (s.channels n)) as (λ b. is_open (s.channels n) ≡ b → AreLate f2 (if b then pushed_out g n (taken_up g n s) else s)) [
    | false ↦ λ e c up. elim (eqb_tells n c) [ inl w ↦ no (sym up ∙ subst (λ q. is_open (s.channels q) ≡ false) w.1 e) | inr w ↦ subst (λ q. IsLate q c (s.history (g.reads c)) (s.channels c)) (sym (same c w.1)) (l c up) ]
    | true ↦ λ e.
        let h = s.history (g.reads n) in
        let ch = s.channels n in
        let left = length h - ch.position in
        let u = taken_up g n s in
        let took = times left (take_one g n h) ch in
        let t = takes_step g ok n left ops s is in
        let up = takes_open g ok n left s ∙ e in
        let low : ch.position ≤ length h = (let o = open_at (stretch ch.log) e in let w = ((is.keeps n).channel.lanes o.0 o.1 some_key).within in omega (arith, w)) in
        let l2 : AreLate f u = late_one n took f s (λ _. times_keeps (IsLate (f n) n h) (take_one g n h) (late_take (f n) n h) left ch (l n e)) (λ c other on. l c on) in
        let marks = (u.channels n).marks in
        let v = pushed_out g n u in
        let l3 = pushes_late (length marks) n r ops f u t.right up en top l2 in
        let here = pushes_here (length marks) n u in
        let uch : u.channels n ≡ took = set_here n took s.channels n refl in
        let pos : (v.channels n).position ≡ length h = ap (λ c. c.position) here.0 ∙ pushes_position g n (u.history (g.reads n)) (length marks) (u.channels n) ∙ ap (λ c. c.position) uch ∙ takes_position g n h left ch (omega (arith, low)) ∙ omega (arith, low) in
        let none : (v.channels n).marks ≡ [] = ap (λ c. c.marks) here.0 ∙ no_marks (times (length marks) (push_one g n (u.history (g.reads n))) (u.channels n)).marks (pushes_marks g n (u.history (g.reads n)) (length marks) 0 (u.channels n) (omega arith)) in
        λ c on. elim (eqb_tells n c) [
          | inl w ↦ subst (λ q. IsLate (f2 q) q (v.history (g.reads q)) (v.channels q)) w.1 (at_rest (f2 n) n (v.history (g.reads n)) (v.channels n) (omega (arith, ap length here.1, pos)) none)
          | inr w ↦ subst (λ q. IsLate q c (v.history (g.reads c)) (v.channels c)) (sym (same c w.1)) (l3 c on)
        ]
  ] refl

  abbrev pub rank : ℕ → ℕ → ℕ → ℕ
  rank r n c = if nat_lt c n then suc r else r

  rank_own : (r n : ℕ) → rank r n n ≡ r
  rank_own r n = grind (arith, nat_tests)

  rank_top : (r n c : ℕ) → rank r n c ≤ suc r
  rank_top r n c = elim (nat_lt c n) as (λ b. (if b then suc r else r) ≤ suc r) [ true ↦ le_refl (suc r) | false ↦ omega arith ]

  rank_same : (r n c : ℕ) → n ≢ c → rank r (suc n) c ≡ rank r n c
  rank_same r n c other = elim (cases_lt c n) [
    | inl w ↦ if_true (nat_lt c (suc n)) (suc r) r (yes c (suc n) (omega (arith, w))) ∙ sym (if_true (nat_lt c n) (suc r) r (yes c n w))
    | inr w ↦ if_false (nat_lt c (suc n)) (suc r) r (not_lt c (suc n) (elim (cases_lt n c) [ inl z ↦ omega (arith, z) | inr z ↦ absurd (other (omega (arith, w, z))) ])) ∙ sym (if_false (nat_lt c n) (suc r) r (not_lt c n w))
  ] where
    yes : (a b : ℕ) → a < b → nat_lt a b ≡ true
    yes a b w = grind (arith, nat_tests)

    not_lt : (a b : ℕ) → b ≤ a → nat_lt a b ≡ false
    not_lt a b w = grind (arith, nat_tests)

  turns_late : (n r : ℕ) (ops : ℕ → List Op) (s : State) → IsRight g ok ops s → AreLate (λ c. r) s → AreLate (rank r n) (turns_to g n s)
  turns_late zero r ops s is l = λ c up. subst (λ q. IsLate q c (s.history (g.reads c)) (s.channels c)) (sym (rank_zero r c)) (l c up) where
    rank_zero : (r c : ℕ) → rank r 0 c ≡ r
    rank_zero r c = grind (arith, nat_tests)
  turns_late (suc n) r ops s is l = turn_late n r ops (rank r n) (rank r (suc n)) (turns_to g n s) (turns_step g ok n ops s is).right (rank_own r n) (rank_top r n) (λ c other. rank_same r n c other) (turns_late n r ops s is l)

  -- a round
  round_late : (r : ℕ) (s : State) → IsState g ok s → AreLate (λ c. r) s → AreLate (λ c. suc r) (round g s)
  round_late r s is l = λ c up.
      let u = round g s in
      let now = rounds_keep g ok 1 s is in
      elim (cases_lt c g.channels) [
        | inl w ↦ subst (λ q. IsLate q c (u.history (g.reads c)) (u.channels c)) (if_true (nat_lt c g.channels) (suc r) r (yes c g.channels w)) (turns_late g.channels r (owned g ok s) s is l c up)
        | inr w ↦ no (sym up ∙ (now.keeps c).up ∙ ok.no_more c w (given u (g.owner c)))
      ] where
        yes : (a b : ℕ) → a < b → nat_lt a b ≡ true
        yes a b w = grind (arith, nat_tests)

  first_late : (s : State) → IsState g ok s → AreLate (λ c. 0) s
  first_late s is = λ c up. record {
    entries = λ p x low e. elim (g.hops (g.reads c) x.num) as (λ w. g.hops (g.reads c) x.num ≡ w → IsFar (g.reads c) x.num 0) [
      | None ↦ λ q. absurd (own_entry p (s.history (g.reads c)) x e (is.exact.no_others (g.reads c) x.num q))
      | Some ds ↦ λ q. (ds, q, omega arith)
    ] refl;
    marks = λ k some one. never one;
  }

  pub rounds_late : (n : ℕ) (s : State) → IsState g ok s → AreLate (λ c. n) (times n (round g) s)
  rounds_late zero s is = first_late s is
  rounds_late (suc n) s is = round_late n (times n (round g) s) (rounds_keep g ok n s is) (rounds_late n s is)

  module _ (most : ℕ) (short : (t i : ℕ) (ds : List ℕ) → g.hops t i ≡ Some ds → length ds < most) where
    -- nothing comes from so far
    not_far : (t num : ℕ) → IsFar t num most → ⊥
    not_far t num f = let lt = short t num f.0 f.1 in never (omega (arith, f.2, lt))

    some : 1 ≤ most
    some = let lt = short (g.table 0) 0 [] (ok.ways.home 0) in omega (arith, lt)

    rested : (ms : List Marked) → ((k : Key) → is_some (find k ms) ≡ true → ⊥) → ms ≡ []
    rested [] none = refl
    rested (m ∷ ms) none = absurd (none m.key (ap is_some (find_here m ms)))

    pub late_settled : (s : State) → IsState g ok s → AreLate (λ c. most) s → AreSettled g s
    late_settled s is l c up =
        let h = s.history (g.reads c) in
        let ch = s.channels c in
        let k = l c up in
        let o = open_at (stretch ch.log) up in
        let w = ((is.keeps c).channel.lanes o.0 o.1 some_key).within in
        record {
          position = elim (cases_lt ch.position (length h)) [
            | inl z ↦ elim (entry ch.position h) as (λ o. entry ch.position h ≡ o → ch.position ≡ length h) [
              | None ↦ λ e. let high = entry_none ch.position h e in never (omega (arith, z, high))
              | Some x ↦ λ e. absurd (not_far (g.reads c) x.num (k.entries ch.position x (le_refl ch.position) e))
            ] refl
            | inr z ↦ omega (arith, w, z)
          ];
          marks = rested ch.marks (λ q is_some_q. let d = k.marks q is_some_q some in not_far (g.reads c) d.0 d.2);
        }

    pub few : (s : State) (rounds : ℕ) → IsState g ok s → HasRounds g s rounds → rounds ≤ most
    few s rounds is r = elim (cases_lt most rounds) [
      | inl w ↦ absurd (r.each most w (late_settled (times most (round g) s) (rounds_keep g ok most s is) (rounds_late most s is)))
      | inr w ↦ w
    ]

-- a bound on the directions of ways is one on rounds
pub bound_by_ways : (g : Rules) (most : ℕ) (phases : List (List Act × List Line)) (starts : List Act) (lines : List Line) (s b u : State) (rounds : ℕ) → IsRules g → ((t i : ℕ) (ds : List ℕ) → g.hops t i ≡ Some ds → length ds < most)
    → Comes g phases s → Begins g starts (record s { replies = [] }) b → Plays g lines b u → HasRounds g u rounds → rounds ≤ most
bound_by_ways g most phases starts lines s b u rounds ok short c p q r =
    let is = comes_keeps g ok phases s c in
    let now : IsState g ok (record s { replies = [] }) = record { exact = is.exact; keeps = is.keeps } in
    few g ok most short u rounds (plays_keeps g ok lines b u q (begins_keeps g ok starts (record s { replies = [] }) b p now)) r

pub bound : (g : Rules) (phases : List (List Act × List Line)) (starts : List Act) (lines : List Line) (s b u : State) (rounds : ℕ) → IsRules g → Comes g phases s → Begins g starts (record s { replies = [] }) b → Plays g lines b u → HasRounds g u rounds → rounds ≤ g.tables
bound g phases starts lines s b u rounds ok c p q r = bound_by_ways g g.tables phases starts lines s b u rounds ok ok.ways.short c p q r
