-- The machine comes to one state from each script.
use Rattle.std.proofs.Common.{◌≡◌, ◌≢◌, ℕ, zero, suc, ◌-◌, ◌≤◌, inl, inr, Bool, true, false, List, [], ◌∷◌, ◌++◌, Option, Some, None, refl, sym, ◌∙◌, ap, subst, arith, length, is_some, option_and_then}
use Rattle.std.specs.Prelude.{◌||◌, if◌then◌else◌}
use Rattle.std.proofs.lemmas.Bool.{cases_lt}
use Rattle.std.proofs.lemmas.List.{append_assoc}
use Rattle.std.proofs.lemmas.Bool.Decides.{eqb_tells}
use Rattle.attrs.specs.declared.attributes.Attrs.{Attrs}
use Rattle.attrs.specs.declared.route.Change.{Change}
use Rattle.export_core.specs.declared.log.Key.{Key}
use Rattle.export_core.specs.declared.log.LogItem.{LogItem}
use Rattle.export_core.specs.declared.log.LogItem.TheVariants.{Up, Down, Reload, Sent}
use Rattle.export_core.specs.declared.log.Sending.{Sending}
use Rattle.export_core.specs.Keys.{same_key}
use Rattle.export_core.specs.Logs.{Account, account, entered, value_of}
use Rattle.export_core.specs.Marks.{holds}
use Rattle.export_core.proofs.Keys.{key_tells}
use Rattle.core_machine.specs.Channels.{Channel, IsFeed, answer, closed, fed, is_open, logged, opened, push_one, pushed, renewed, take_one, times, value_at}
use Rattle.core_machine.specs.Enters.{standing_keys}
use Rattle.core_machine.specs.Histories.{content_of}
use Rattle.core_machine.specs.Legal.{Joined, Printed, join, nothing, started}
use Rattle.core_machine.specs.Lines.{Act, Line, Apply, Take, Push, Show, turn_of}
use Rattle.core_machine.specs.Machine.{AllObey, Applies, Begins, Feeds, Obeys, Plays, State, Steps, appended, arrived, flushed, gained, if_open, left_by, push_at, start, takes, with_channel, with_turn}
use Rattle.core_machine.specs.Marks.{Marked, find, marked_keys}
use Rattle.core_machine.specs.Phases.{IsPhase, PlaysAll, Prints}
use Rattle.core_machine.specs.Pipes.{candidate, key_of}
use Rattle.core_machine.specs.Rounds.{HasRounds, pushed_out, round, taken_up, turned, turns_to}
use Rattle.core_machine.specs.Rules.{IsRules, Rules, Signal, Stay, Rise, Fall, Renew}
use Rattle.core_machine.proofs.Contents.{if_false}
use Rattle.core_machine.proofs.Growing.{more_appended, more_arrived, more_flushed, set_here, set_there}
use Rattle.core_machine.proofs.KeyLists.{ascending_one, choice, chosen, chosen_ascends}
use Rattle.core_machine.proofs.MarkSteps.{find_past}
use Rattle.core_machine.proofs.OneChannel.{candidate_stays, take_log}
use Rattle.core_machine.proofs.PhaseEnds.{Agrees, joined_agrees, no_route, phase_keeps, phase_told, start_is}
use Rattle.core_machine.proofs.Replying.{turns_of}
use Rattle.core_machine.proofs.Rounds.{least}
use Rattle.core_machine.proofs.WholeState.{IsState, begins_keeps, given, plays_keeps}

-- ---- the keys that may be fed

or_parts : (a b : Bool) → (a || b) ≡ false → (a ≡ false) × (b ≡ false)
or_parts true b e = absurd (let bad : true ≡ false = e in cc)
or_parts false b e = (refl, e)

pub held_append : (k : Key) (xs ys : List Key) → holds k (xs ++ ys) ≡ false → (holds k xs ≡ false) × (holds k ys ≡ false)
held_append k [] ys e = (refl, e)
held_append k (x ∷ xs) ys e =
    let p = or_parts (same_key x k) (holds k (xs ++ ys)) e in
    let r = held_append k xs ys p.1 in
    (ap (λ b. b || holds k xs) p.0 ∙ r.0, r.1)

apart : (a b : Key) → same_key a b ≡ false → a ≢ b
apart a b e = elim (key_tells a b) [ inl w ↦ absurd (let bad : true ≡ false = sym w.0 ∙ e in cc) | inr w ↦ w.1 ]

pub find_none : (k : Key) (ms : List Marked) → holds k (marked_keys ms) ≡ false → find k ms ≡ None
find_none k [] e = refl
find_none k (m ∷ ms) e = let p = or_parts (same_key m.key k) (holds k (marked_keys ms)) e in find_past k m ms (apart m.key k p.0) ∙ find_none k ms p.1

abbrev keys_sent : List LogItem → List Key
keys_sent [] = []
keys_sent (Up h ∷ log) = []
keys_sent (Down ∷ log) = []
keys_sent (Reload ∷ log) = keys_sent log
keys_sent (Sent x ∷ log) = x.key ∷ keys_sent log

last_none : (k : Key) (log : List LogItem) → holds k (keys_sent log) ≡ false → (account k log).last ≡ None
last_none k [] e = refl
last_none k (Up h ∷ log) e = refl
last_none k (Down ∷ log) e = refl
last_none k (Reload ∷ log) e = last_none k log e
last_none k (Sent x ∷ log) e = let p = or_parts (same_key x.key k) (holds k (keys_sent log)) e in
    ap (λ (a : Account). a.last) (if_false (same_key x.key k) (entered x (account k log)) (account k log) p.0) ∙ last_none k log p.1

-- logs grow
abbrev pub Grows : Channel → Channel → Type 0
Grows ch new = (items : List LogItem) × (new.log ≡ items ++ ch.log)

grows_on : (a b c : Channel) → Grows a b → Grows b c → Grows a c
grows_on a b c p q = (q.0 ++ p.0, q.1 ∙ ap (λ l. q.0 ++ l) p.1 ∙ sym (append_assoc q.0 p.0 a.log))

abbrev pub AllGrow : State → State → Type 0
AllGrow s t = (c : ℕ) → Grows (s.channels c) (t.channels c)

all_on : (s t u : State) → AllGrow s t → AllGrow t u → AllGrow s u
all_on s t u a b c = grows_on (s.channels c) (t.channels c) (u.channels c) (a c) (b c)

all_times : (f : State → State) → ((s : State) → AllGrow s (f s)) → (n : ℕ) (s : State) → AllGrow s (times n f s)
all_times f step zero s c = ([], refl)
all_times f step (suc n) s c = all_on s (times n f s) (f (times n f s)) (all_times f step n s) (step (times n f s)) c

all_same : (s t : State) → ((c : ℕ) → (t.channels c).log ≡ (s.channels c).log) → AllGrow s t
all_same s t same c = ([], same c)

one_grows : (c : ℕ) (new : Channel) (s : State) → Grows (s.channels c) new → AllGrow s (with_channel c new s)
one_grows c new s p j = elim (eqb_tells c j) [
  | inl w ↦ subst (λ ch. Grows (s.channels j) ch) (sym (set_here c new s.channels j w.1)) (subst (λ q. Grows (s.channels q) new) w.1 p)
  | inr w ↦ subst (λ ch. Grows (s.channels j) ch) (sym (set_there c new s.channels j w.1)) ([], refl)
]

if_grows : (c : ℕ) (f : State → State) (s : State) → AllGrow s (f s) → AllGrow s (if_open c f s)
if_grows c f s p = elim (is_open (s.channels c)) as (λ b. AllGrow s (if b then f s else s)) [ true ↦ p | false ↦ λ j. ([], refl) ]

logged_grows : (o : Option Bool) (m : Marked) (v : Option Attrs) (log : List LogItem) → (items : List LogItem) × (logged o m v log ≡ items ++ log)
logged_grows None m v log = ([], refl)
logged_grows (Some again) m v log = (Sent (record { at = m.at; key = m.key; value = v; again = again }) ∷ [], refl)

pushed_grows : (g : Rules) (c : ℕ) (h : List Change) (ms : List Marked) (ch : Channel) → Grows ch (pushed g c h ms ch)
pushed_grows g c h [] ch = ([], refl)
pushed_grows g c h (m ∷ ms) ch = logged_grows (answer g c h m ch) m (value_at g c h m) ch.log

takes_log : (g : Rules) (c n : ℕ) (h : List Change) (ch : Channel) → (times n (take_one g c h) ch).log ≡ ch.log
takes_log g c zero h ch = refl
takes_log g c (suc n) h ch = take_log g c h (times n (take_one g c h) ch) ∙ takes_log g c n h ch

module _ (g : Rules) (ok : IsRules g) where
  -- ---- there is a state

  abbrev keys_changed : ℕ → List Change → List Key
  keys_changed c [] = []
  keys_changed c (x ∷ h) = key_of g c x ∷ keys_changed c h

  candidate_none : (c : ℕ) (k : Key) (h : List Change) → holds k (keys_changed c h) ≡ false → candidate g c k h ≡ None
  candidate_none c k [] e = no_route g ok c k
  candidate_none c k (x ∷ h) e = let p = or_parts (same_key (key_of g c x) k) (holds k (keys_changed c h)) e in
      candidate_stays g ok c k x h (λ _ same. apart (key_of g c x) k p.0 (sym same)) ∙ candidate_none c k h p.1

  pub feed_is : (c : ℕ) (h : List Change) (ch : Channel) → (keys : List Key) × IsFeed g c h ch keys
  feed_is c h ch =
      let test = λ (k : Key). is_some (candidate g c k h) || (is_some (find k ch.marks) || is_some (value_of (account k ch.log))) in
      let all = keys_changed c h ++ (marked_keys ch.marks ++ keys_sent ch.log) in (
        chosen test all,
        record {
          ascend = chosen_ascends test all;
          are = choice test all (λ k e.
              let p = held_append k (keys_changed c h) (marked_keys ch.marks ++ keys_sent ch.log) e in
              let q = held_append k (marked_keys ch.marks) (keys_sent ch.log) p.1 in
              ap (λ o. is_some o || (is_some (find k ch.marks) || is_some (value_of (account k ch.log)))) (candidate_none c k h p.0)
              ∙ ap (λ o. is_some o || is_some (value_of (account k ch.log))) (find_none k ch.marks q.0)
              ∙ ap (λ o. is_some (option_and_then (λ (x : Sending). x.value) o)) (last_none k ch.log q.1));
        },
      )

  feeds_is : (c : ℕ) (due : Bool) (ch : Channel) (s : State) → (t : State) × Feeds g c due ch s t
  feeds_is c due ch s = let h = s.history (g.reads c) in let f = feed_is c h ch in let new = fed f.0 due (length h) ch in (with_channel c new s, (new, (f.0, f.1, refl), refl))

  obeys_is : (m : Signal) (c : ℕ) (s : State) → (t : State) × Obeys m g c s t
  obeys_is Stay c s = (s, refl)
  obeys_is Rise c s = feeds_is c false (opened (length (s.history (g.reads c))) (s.channels c)) s
  obeys_is Fall c s = (_, refl)
  obeys_is Renew c s = feeds_is c true (renewed (s.channels c)) s

  all_is : (m : Signal) (cs : List ℕ) (s : State) → (t : State) × AllObey m g cs s t
  all_is m [] s = (s, refl)
  all_is m (c ∷ cs) s = let u = obeys_is m c s in let t = all_is m cs u.0 in (t.0, (u.0, u.1, t.1))

  applies_is : (a : Act) (s : State) → (t : State) × Applies g a s t
  applies_is a s = let effect = g.gives a.protocol (given s a.protocol) a.op in all_is effect.signal (g.belong a.protocol) (with_turn a.protocol (turn_of a) (appended g (g.table a.protocol) effect.changes s))

  steps_is : (line : Line) (s : State) → (t : State) × Steps g line s t
  steps_is (Apply a) s = applies_is a s
  steps_is (Take n) s = (_, refl)
  steps_is (Push n) s = (_, refl)
  steps_is (Show q) s = (_, refl)

  pub plays_is : (lines : List Line) (s : State) → (t : State) × Plays g lines s t
  plays_is [] s = (s, refl)
  plays_is (line ∷ earlier) s = let b = plays_is earlier s in let t = steps_is line b.0 in (t.0, (b.0, b.1, t.1))

  begins_is : (starts : List Act) (s : State) → (t : State) × Begins g starts s t
  begins_is [] s = (s, refl)
  begins_is (a ∷ earlier) s = let b = begins_is earlier s in let t = applies_is a b.0 in (t.0, (b.0, b.1, t.1))

  phase_is : (starts : List Act) (lines : List Line) (s : State) → IsState g ok s → (t : State) × IsPhase g starts lines s t
  phase_is starts lines s is =
      let s0 : State = record s { replies = [] } in
      let now : IsState g ok s0 = record { exact = is.exact; keeps = is.keeps } in
      let b = begins_is starts s0 in
      let u = plays_is lines b.0 in
      let r = least g ok g.tables 0 u.0 (plays_keeps g ok lines b.0 u.0 u.1 (begins_keeps g ok starts s0 b.0 b.1 now)) (omega arith) (λ m lt. absurd (let bad : 1 ≤ 0 = omega arith in omega (arith, bad))) in
      (times r.0 (round g) u.0, record { begun = b.0; played = u.0; rounds = r.0; begins = b.1; plays = u.1; sync = r.1; end = refl })

  -- ---- there is one

  feed_one : (c : ℕ) (h : List Change) (ch : Channel) (keys more : List Key) → IsFeed g c h ch keys → IsFeed g c h ch more → keys ≡ more
  feed_one c h ch keys more f m = ascending_one keys more f.ascend m.ascend (λ k. f.are k ∙ sym (m.are k))

  feeds_one : (c : ℕ) (due : Bool) (ch : Channel) (s t u : State) → Feeds g c due ch s t → Feeds g c due ch s u → t ≡ u
  feeds_one c due ch s t u p q = let h = s.history (g.reads c) in
      p.2 ∙ ap (λ new. with_channel c new s) (p.1.2 ∙ ap (λ keys. fed keys due (length h) ch) (feed_one c h ch p.1.0 q.1.0 p.1.1 q.1.1) ∙ sym q.1.2) ∙ sym q.2

  obeys_one : (m : Signal) (c : ℕ) (s t u : State) → Obeys m g c s t → Obeys m g c s u → t ≡ u
  obeys_one Stay c s t u p q = p ∙ sym q
  obeys_one Rise c s t u p q = feeds_one c false (opened (length (s.history (g.reads c))) (s.channels c)) s t u p q
  obeys_one Fall c s t u p q = p ∙ sym q
  obeys_one Renew c s t u p q = feeds_one c true (renewed (s.channels c)) s t u p q

  all_one : (m : Signal) (cs : List ℕ) (s t u : State) → AllObey m g cs s t → AllObey m g cs s u → t ≡ u
  all_one m [] s t u p q = p ∙ sym q
  all_one m (c ∷ cs) s t u p q = all_one m cs p.0 t u p.2 (subst (λ b. AllObey m g cs b u) (obeys_one m c s q.0 p.0 q.1 p.1) q.2)

  applies_one : (a : Act) (s t u : State) → Applies g a s t → Applies g a s u → t ≡ u
  applies_one a s t u p q = let effect = g.gives a.protocol (given s a.protocol) a.op in all_one effect.signal (g.belong a.protocol) (with_turn a.protocol (turn_of a) (appended g (g.table a.protocol) effect.changes s)) t u p q

  steps_one : (line : Line) (s t u : State) → Steps g line s t → Steps g line s u → t ≡ u
  steps_one (Apply a) s t u p q = applies_one a s t u p q
  steps_one (Take n) s t u p q = p ∙ sym q
  steps_one (Push n) s t u p q = p ∙ sym q
  steps_one (Show a) s t u p q = p ∙ sym q

  plays_one : (lines : List Line) (s t u : State) → Plays g lines s t → Plays g lines s u → t ≡ u
  plays_one [] s t u p q = p ∙ sym q
  plays_one (line ∷ earlier) s t u p q = steps_one line p.0 t u p.2 (subst (λ b. Steps g line b u) (plays_one earlier s q.0 p.0 q.1 p.1) q.2)

  begins_one : (starts : List Act) (s t u : State) → Begins g starts s t → Begins g starts s u → t ≡ u
  begins_one [] s t u p q = p ∙ sym q
  begins_one (a ∷ earlier) s t u p q = applies_one a p.0 t u p.2 (subst (λ b. Applies g a b u) (begins_one earlier s q.0 p.0 q.1 p.1) q.2)

  pub rounds_one : (s : State) (n m : ℕ) → HasRounds g s n → HasRounds g s m → n ≡ m
  rounds_one s n m p q = elim (cases_lt n m) [
    | inl w ↦ absurd (q.each n w p.end)
    | inr w ↦ elim (cases_lt m n) [ inl z ↦ absurd (p.each m z q.end) | inr z ↦ omega (arith, w, z) ]
  ]

  pub phase_one : (starts : List Act) (lines : List Line) (s t u : State) → IsPhase g starts lines s t → IsPhase g starts lines s u → t ≡ u
  phase_one starts lines s t u p q =
      let b = begins_one starts (record s { replies = [] }) q.begun p.begun q.begins p.begins in
      let e = plays_one lines p.begun q.played p.played (subst (λ b. Plays g lines b q.played) b q.plays) p.plays in
      let n = rounds_one p.played p.rounds q.rounds p.sync (subst (λ s. HasRounds g s q.rounds) e q.sync) in
      p.end ∙ ap (λ r. times r (round g) p.played) n ∙ ap (times q.rounds (round g)) (sym e) ∙ sym q.end

  -- ---- it can be printed: logs grow

  arrived_grows : (o : Option ℕ) (x : Option Change) (s : State) → AllGrow s (arrived g o x s)
  arrived_grows None x s = λ c. ([], refl)
  arrived_grows (Some t) x s = all_same s (arrived g (Some t) x s) (more_arrived g ok t x s).logs

  push_grows : (c : ℕ) (s : State) → AllGrow s (push_at g c s)
  push_grows c s =
      let h = s.history (g.reads c) in
      let ch = s.channels c in
      let new = push_one g c h ch in
      let o = gained g c h ch.marks ch in
      let u = arrived g (g.target c) o s in
      let more = arrived_grows (g.target c) o s in
      λ j. elim (eqb_tells c j) [
        | inl w ↦ subst (λ x. Grows (s.channels j) x) (sym (set_here c new u.channels j w.1)) (subst (λ q. Grows (s.channels q) new) w.1 (pushed_grows g c h ch.marks ch))
        | inr w ↦ subst (λ x. Grows (s.channels j) x) (sym (set_there c new u.channels j w.1)) (more j)
      ]

  takes_grow : (c n : ℕ) (s : State) → AllGrow s (takes g c n s)
  takes_grow c n s = let h = s.history (g.reads c) in one_grows c (times n (take_one g c h) (s.channels c)) s ([], takes_log g c n h (s.channels c))

  left_grows : (o : Option ℕ) (ks : List Key) (s : State) → AllGrow s (left_by g o ks s)
  left_grows None ks s = λ c. ([], refl)
  left_grows (Some t) ks s = all_same s (flushed g t ks s) (more_flushed g ok t ks s).logs

  told_grows : (s t u : State) → t ≡ u → AllGrow s u → AllGrow s t
  told_grows s t u e p = subst (AllGrow s) (sym e) p

  obeys_grows : (m : Signal) (c : ℕ) (s t : State) → Obeys m g c s t → AllGrow s t
  obeys_grows Stay c s t d = told_grows s t s d (λ j. ([], refl))
  obeys_grows Rise c s t d = told_grows s t (with_channel c d.0 s) d.2 (one_grows c d.0 s (Up (length (s.history (g.reads c))) ∷ [], ap (λ x. x.log) d.1.2))
  obeys_grows Fall c s t d = let u = left_by g (g.target c) (standing_keys (s.channels c).log) s in told_grows s t (with_channel c (closed (u.channels c)) u) d
      (all_on s u (with_channel c (closed (u.channels c)) u) (left_grows (g.target c) (standing_keys (s.channels c).log) s) (one_grows c (closed (u.channels c)) u (Down ∷ [], refl)))
  obeys_grows Renew c s t d = told_grows s t (with_channel c d.0 s) d.2 (one_grows c d.0 s (Reload ∷ [], ap (λ x. x.log) d.1.2))

  all_grow : (m : Signal) (cs : List ℕ) (s t : State) → AllObey m g cs s t → AllGrow s t
  all_grow m [] s t d = told_grows s t s d (λ j. ([], refl))
  all_grow m (c ∷ cs) s t d = all_on s d.0 t (obeys_grows m c s d.0 d.1) (all_grow m cs d.0 t d.2)

  applies_grow : (a : Act) (s t : State) → Applies g a s t → AllGrow s t
  applies_grow a s t p =
      let effect = g.gives a.protocol (given s a.protocol) a.op in
      let u = appended g (g.table a.protocol) effect.changes s in
      let v = with_turn a.protocol (turn_of a) u in
      all_on s v t (all_same s v (more_appended g ok (g.table a.protocol) effect.changes s).logs) (all_grow effect.signal (g.belong a.protocol) v t p)

  steps_grow : (line : Line) (s t : State) → Steps g line s t → AllGrow s t
  steps_grow (Apply a) s t p = applies_grow a s t p
  steps_grow (Take n) s t p = told_grows s t (if_open n.channel (takes g n.channel n.number) s) p (if_grows n.channel (takes g n.channel n.number) s (takes_grow n.channel n.number s))
  steps_grow (Push n) s t p = told_grows s t (if_open n.channel (times n.number (push_at g n.channel)) s) p (if_grows n.channel (times n.number (push_at g n.channel)) s (all_times (push_at g n.channel) (push_grows n.channel) n.number s))
  steps_grow (Show a) s t p = subst (AllGrow s) (sym p) (λ j. ([], refl))

  plays_grow : (lines : List Line) (s t : State) → Plays g lines s t → AllGrow s t
  plays_grow [] s t p = told_grows s t s p (λ j. ([], refl))
  plays_grow (line ∷ earlier) s t p = all_on s p.0 t (plays_grow earlier s p.0 p.1) (steps_grow line p.0 t p.2)

  begins_grow : (starts : List Act) (s t : State) → Begins g starts s t → AllGrow s t
  begins_grow [] s t p = told_grows s t s p (λ j. ([], refl))
  begins_grow (a ∷ earlier) s t p = all_on s p.0 t (begins_grow earlier s p.0 p.1) (applies_grow a p.0 t p.2)

  turn_grows : (c : ℕ) (s : State) → AllGrow s (turned g c s)
  turn_grows c s = let u = taken_up g c s in if_grows c (λ v. pushed_out g c (taken_up g c v)) s
      (all_on s u (pushed_out g c u) (takes_grow c (length (s.history (g.reads c)) - (s.channels c).position) s) (all_times (push_at g c) (push_grows c) (length (u.channels c).marks) u))

  turns_grow : (n : ℕ) (s : State) → AllGrow s (turns_to g n s)
  turns_grow zero s c = ([], refl)
  turns_grow (suc n) s c = all_on s (turns_to g n s) (turned g n (turns_to g n s)) (turns_grow n s) (turn_grows n (turns_to g n s)) c

  phase_grows : (starts : List Act) (lines : List Line) (s t : State) → IsPhase g starts lines s t → AllGrow s t
  phase_grows starts lines s t p =
      let s0 : State = record s { replies = [] } in
      let end = times p.rounds (round g) p.played in
      told_grows s t end p.end (all_on s p.played end (all_on s p.begun p.played (begins_grow starts s0 p.begun p.begins) (plays_grow lines p.begun p.played p.plays)) (all_times (round g) (turns_grow g.channels) p.rounds p.played))

  -- what the channels' logs have more than was printed
  abbrev AreLater : Joined → State → Type 0
  AreLater past s = (c : ℕ) → (items : List LogItem) × ((s.channels c).log ≡ items ++ past.logs c)

  prints_is : (past : Joined) (starts : List Act) (lines : List Line) (s t : State) → Agrees g ok past s → AreLater past s → IsPhase g starts lines s t → IsState g ok s → (p : Printed) × Prints g past t p
  prints_is past starts lines s t a l ph is =
      let told = phase_told g ok past starts lines s t a ph is in
      let logs = phase_grows starts lines s t ph in (
        record {
          entries = λ n. (told.grown n).0;
          ops = λ i. turns_of i lines ++ started starts i;
          items = λ c. (logs c).0 ++ (l c).0;
          replies = t.replies;
          shown = record {
            rows = λ n. content_of (t.history n);
            modes = λ i. g.mode i (given t i);
            accepted = λ i. length (g.accepted i (given t i));
            up = λ c. is_open (t.channels c);
            standing = λ c k. value_of (account k (t.channels c).log);
          };
        },
        record {
          entries = λ n. (told.grown n).1;
          ops = λ i. told.ops i ∙ sym (append_assoc (turns_of i lines) (started starts i) (past.ops i));
          items = λ c. (logs c).1 ∙ ap (λ x. (logs c).0 ++ x) (l c).1 ∙ sym (append_assoc (logs c).0 (l c).0 (past.logs c));
          replies = refl;
          shown = record { rows = λ n k num. refl; modes = λ i. refl; accepted = λ i. refl; up = λ c. refl; standing = λ c k. refl };
        },
      )

  pub plays_all : (past : Joined) (starts : List Act) (s : State) (scripts : List (List Line)) → Agrees g ok past s → AreLater past s → IsState g ok s → (printed : List Printed) × PlaysAll g starts past s scripts printed
  plays_all past starts s [] a l is = ([], tt)
  plays_all past starts s (lines ∷ more) a l is =
      let t = phase_is starts lines s is in
      let p = prints_is past starts lines s t.0 a l t.1 is in
      let j = joined_agrees g ok past t.0 p.0 p.1 in
      let rest = plays_all (join past p.0) [] t.0 more (record { history = j.history; ops = j.ops }) (λ c. ([], sym (j.logs c))) (phase_keeps g ok starts lines s t.0 t.1 is) in
      (p.0 ∷ rest.0, (t.0, t.1, p.1, rest.1))

nil_append : (log : List LogItem) → log ≡ log ++ []
nil_append [] = refl
nil_append (x ∷ log) = ap (λ l. x ∷ l) (nil_append log)

pub played : (g : Rules) (starts : List Act) (scripts : List (List Line)) → IsRules g → (printed : List Printed) × PlaysAll g starts nothing (start g) scripts printed
played g starts scripts ok = plays_all g ok nothing starts (start g) scripts (record { history = λ t. refl; ops = λ i. refl }) (λ c. (((start g).channels c).log, nil_append ((start g).channels c).log)) (start_is g ok)

pub lines_played : (g : Rules) (lines : List Line) (s : State) → IsRules g → (t : State) × Plays g lines s t
lines_played g lines s ok = plays_is g ok lines s

pub one_state : (g : Rules) (starts : List Act) (lines : List Line) (s t u : State) → IsRules g → IsPhase g starts lines s t → IsPhase g starts lines s u → t ≡ u
one_state g starts lines s t u ok p q = phase_one g ok starts lines s t u p q
