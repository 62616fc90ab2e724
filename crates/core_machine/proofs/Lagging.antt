-- No channel that is up lags by more than the journal.
use Rattle.std.proofs.Common.{◌≡◌, ◌≢◌, ℕ, zero, suc, ◌-◌, ◌≤◌, inl, inr, Bool, true, false, List, [], ◌∷◌, Option, Some, None, refl, sym, ◌∙◌, ap, subst, arith, length, is_some}
use Rattle.std.specs.Prelude.{◌==◌, ◌&&◌, if◌then◌else◌}
use Rattle.std.proofs.lemmas.Bool.{cases_lt}
use Rattle.std.proofs.lemmas.Bool.Decides.{eqb_tells}
use Rattle.attrs.specs.declared.route.Change.{Change}
use Rattle.export_core.specs.declared.log.Key.{Key}
use Rattle.export_core.specs.Logs.{stretch}
use Rattle.core_machine.specs.Channels.{Channel, closed, is_open, new_channel, opened, push_one, renewed, take_one, taken, times}
use Rattle.core_machine.specs.Enters.{standing_keys, withdrawal}
use Rattle.core_machine.specs.Histories.{entry}
use Rattle.core_machine.specs.Lines.{Act, Line, Apply, Take, Push, Show, turn_of}
use Rattle.core_machine.specs.Machine.{AllObey, Applies, Begins, Feeds, Obeys, Plays, State, Steps, added, appended, arrived, flushed, gained, if_open, left_by, push_at, set, start, takes, with_channel, with_turn}
use Rattle.core_machine.specs.Phases.{Comes}
use Rattle.core_machine.specs.Room.{roomed}
use Rattle.core_machine.specs.Rounds.{pushed_out, round, taken_up, turned, turns_to}
use Rattle.core_machine.specs.Rules.{IsRules, Rules, Signal, Stay, Rise, Fall, Renew}
use Rattle.core_machine.proofs.Bound.{push_position}
use Rattle.core_machine.proofs.Contents.{if_true, if_false, entry_none}
use Rattle.core_machine.proofs.Growing.{set_here, set_there}
use Rattle.core_machine.proofs.OneChannel.{times_keeps, taken_log, open_pushed}
use Rattle.core_machine.proofs.WholeState.{given}

no : {A : Type 0} → true ≡ false → A
no e = absurd (let bad : true ≡ false = e in cc)

module _ (g : Rules) (ok : IsRules g) (some : 1 ≤ g.cells) where
  abbrev pub Near : List Change → Channel → Type 0
  Near h ch = is_open ch ≡ true → length h - ch.position ≤ g.cells

  open_taken : (c : ℕ) (o : Option Change) (ch : Channel) → is_open (taken g c o ch) ≡ is_open ch
  open_taken c o ch = ap (λ l. is_some (stretch l)) (taken_log g c o ch)

  up_taken : (c : ℕ) (o : Option Change) (ch : Channel) → ch.position ≤ (taken g c o ch).position
  up_taken c None ch = omega arith
  up_taken c (Some x) ch = omega arith

  near_take : (c : ℕ) (h : List Change) (ch : Channel) → Near h ch → Near h (take_one g c h ch)
  near_take c h ch n up = let o = entry ch.position h in let le = up_taken c o ch in omega (arith, n (sym (open_taken c o ch) ∙ up))

  near_push : (c : ℕ) (h : List Change) (ch : Channel) → Near h ch → Near h (push_one g c h ch)
  near_push c h ch n up = let p = push_position g c h ch.marks ch in omega (arith, n (sym (open_pushed g h c ch.marks ch) ∙ up))

  -- room is made, and a change comes
  pub near_more : (c : ℕ) (x : Change) (h : List Change) (ch : Channel) → Near h ch → Near (x ∷ h) (roomed g c h ch)
  near_more c x h ch n = elim (is_open ch) as (λ b. is_open ch ≡ b → Near (x ∷ h) (if b && (length h - ch.position == g.cells) then take_one g c h ch else ch)) [
    | false ↦ λ e up. no (sym up ∙ e)
    | true ↦ λ e. elim (eqb_tells (length h - ch.position) g.cells) [
      | inl w ↦ subst (λ b. Near (x ∷ h) (if b then take_one g c h ch else ch)) (sym w.0) (λ up. taken_near (entry ch.position h) refl w.1)
      | inr w ↦ subst (λ b. Near (x ∷ h) (if b then take_one g c h ch else ch)) (sym w.0) (λ up. let l = n up in let other : (length h - ch.position) ≢ g.cells = w.1 in less (length h) ch.position g.cells l other)
    ]
  ] refl where
    less : (a p k : ℕ) → a - p ≤ k → (a - p) ≢ k → suc a - p ≤ k
    less a p k le other = elim (eqb_tells (a - p) k) [ inl w ↦ absurd (other w.1) | inr w ↦ elim (cases_lt (a - p) k) [ inl z ↦ omega arith | inr z ↦ absurd (other (omega arith)) ] ]

    taken_near : (o : Option Change) → entry ch.position h ≡ o → length h - ch.position ≡ g.cells → length (x ∷ h) - (taken g c o ch).position ≤ g.cells
    taken_near None e l = let high = entry_none ch.position h e in omega arith
    taken_near (Some d) e l = omega arith

  abbrev pub AllNear : State → Type 0
  AllNear s = (c : ℕ) → Near (s.history (g.reads c)) (s.channels c)

  near_added : (t : ℕ) (x : Change) (s : State) → AllNear s → AllNear (added g t x s)
  near_added t x s n = λ j.
      let h = s.history t in
      let ch = s.channels j in
      elim (eqb_tells (g.reads j) t) [
        | inl w ↦ subst (λ h2. Near h2 (if g.reads j == t then roomed g j h ch else ch)) (sym (set_here t (x ∷ h) s.history (g.reads j) (sym w.1)))
            (subst (Near (x ∷ h)) (sym (if_true (g.reads j == t) (roomed g j h ch) ch w.0)) (near_more j x h ch (subst (λ q. Near (s.history q) ch) w.1 (n j))))
        | inr w ↦ subst (λ h2. Near h2 (if g.reads j == t then roomed g j h ch else ch)) (sym (set_there t (x ∷ h) s.history (g.reads j) (λ e. w.1 (sym e))))
            (subst (Near (s.history (g.reads j))) (sym (if_false (g.reads j == t) (roomed g j h ch) ch w.0)) (n j))
      ]

  near_appended : (t : ℕ) (cs : List Change) (s : State) → AllNear s → AllNear (appended g t cs s)
  near_appended t [] s n = n
  near_appended t (x ∷ cs) s n = near_added t x (appended g t cs s) (near_appended t cs s n)

  near_arrived : (o : Option ℕ) (x : Option Change) (s : State) → AllNear s → AllNear (arrived g o x s)
  near_arrived None x s n = n
  near_arrived (Some t) None s n = n
  near_arrived (Some t) (Some x) s n = near_added t x s n

  near_flushed : (t : ℕ) (ks : List Key) (s : State) → AllNear s → AllNear (flushed g t ks s)
  near_flushed t [] s n = n
  near_flushed t (k ∷ ks) s n = near_flushed t ks (added g t (withdrawal k) s) (near_added t (withdrawal k) s n)

  near_left : (o : Option ℕ) (ks : List Key) (s : State) → AllNear s → AllNear (left_by g o ks s)
  near_left None ks s n = n
  near_left (Some t) ks s n = near_flushed t ks s n

  near_set : (c : ℕ) (new : Channel) (s : State) → Near (s.history (g.reads c)) new → AllNear s → AllNear (with_channel c new s)
  near_set c new s k n = λ j. elim (eqb_tells c j) [
    | inl w ↦ subst (λ q. Near (s.history (g.reads q)) (set c new s.channels q)) w.1 (subst (Near (s.history (g.reads c))) (sym (set_here c new s.channels c refl)) k)
    | inr w ↦ subst (Near (s.history (g.reads j))) (sym (set_there c new s.channels j w.1)) (n j)
  ]

  -- a direction's own table isn't the one that it writes
  kept_history : (c : ℕ) (o : Option ℕ) (x : Option Change) (s : State) → g.target c ≡ o → (arrived g o x s).history (g.reads c) ≡ s.history (g.reads c)
  kept_history c None x s e = refl
  kept_history c (Some t) None s e = refl
  kept_history c (Some t) (Some x) s e = set_there t (x ∷ s.history t) s.history (g.reads c) (λ q. ok.apart c t e (sym q))

  near_push_at : (c : ℕ) (s : State) → AllNear s → AllNear (push_at g c s)
  near_push_at c s n =
      let h = s.history (g.reads c) in
      let ch = s.channels c in
      let o = gained g c h ch.marks ch in
      let u = arrived g (g.target c) o s in
      near_set c (push_one g c h ch) u (subst (λ l. Near l (push_one g c h ch)) (sym (kept_history c (g.target c) o s refl)) (near_push c h ch (n c))) (near_arrived (g.target c) o s n)

  near_takes : (c n : ℕ) (s : State) → AllNear s → AllNear (takes g c n s)
  near_takes c n s k = let h = s.history (g.reads c) in near_set c (times n (take_one g c h) (s.channels c)) s (times_keeps (Near h) (take_one g c h) (near_take c h) n (s.channels c) (k c)) k

  near_open : (c : ℕ) (f : State → State) (s : State) → AllNear (f s) → AllNear s → AllNear (if_open c f s)
  near_open c f s k n = elim (is_open (s.channels c)) as (λ b. AllNear (if b then f s else s)) [ true ↦ k | false ↦ n ]

  near_feeds : (c : ℕ) (due : Bool) (ch : Channel) (s t : State) → ((keys : List Key) → Near (s.history (g.reads c)) (record ch { floor = length (s.history (g.reads c)) })) → Feeds g c due ch s t → AllNear s → AllNear t
  near_feeds c due ch s t near d n = subst AllNear (sym (d.2 ∙ ap (λ x. with_channel c x s) d.1.2)) (near_set c _ s (near []) n)

  near_obeys : (m : Signal) (c : ℕ) (s t : State) → Obeys m g c s t → AllNear s → AllNear t
  near_obeys Stay c s t d n = subst AllNear (sym d) n
  near_obeys Rise c s t d n = let h = s.history (g.reads c) in near_feeds c false (opened (length h) (s.channels c)) s t (λ ks up. omega (arith, some)) d n
  near_obeys Fall c s t d n = let u = left_by g (g.target c) (standing_keys (s.channels c).log) s in subst AllNear (sym d) (near_set c (closed (u.channels c)) u (λ up. no (sym up)) (near_left (g.target c) (standing_keys (s.channels c).log) s n))
  near_obeys Renew c s t d n = near_feeds c true (renewed (s.channels c)) s t (λ ks. n c) d n

  near_all : (m : Signal) (cs : List ℕ) (s t : State) → AllObey m g cs s t → AllNear s → AllNear t
  near_all m [] s t d n = subst AllNear (sym d) n
  near_all m (c ∷ cs) s t d n = near_all m cs d.0 t d.2 (near_obeys m c s d.0 d.1 n)

  near_applies : (a : Act) (s t : State) → Applies g a s t → AllNear s → AllNear t
  near_applies a s t p n =
      let i = a.protocol in
      let effect = g.gives i (given s i) a.op in
      near_all effect.signal (g.belong i) (with_turn i (turn_of a) (appended g (g.table i) effect.changes s)) t p (near_appended (g.table i) effect.changes s n)

  near_pushes : (c n : ℕ) (s : State) → AllNear s → AllNear (times n (push_at g c) s)
  near_pushes c n s k = times_keeps AllNear (push_at g c) (near_push_at c) n s k

  near_steps : (line : Line) (s t : State) → Steps g line s t → AllNear s → AllNear t
  near_steps (Apply a) s t p n = near_applies a s t p n
  near_steps (Take k) s t p n = subst AllNear (sym p) (near_open k.channel (takes g k.channel k.number) s (near_takes k.channel k.number s n) n)
  near_steps (Push k) s t p n = subst AllNear (sym p) (near_open k.channel (times k.number (push_at g k.channel)) s (near_pushes k.channel k.number s n) n)
  near_steps (Show q) s t p n = subst AllNear (sym p) n

  near_plays : (lines : List Line) (s t : State) → Plays g lines s t → AllNear s → AllNear t
  near_plays [] s t p n = subst AllNear (sym p) n
  near_plays (line ∷ earlier) s t p n = near_steps line p.0 t p.2 (near_plays earlier s p.0 p.1 n)

  near_begins : (starts : List Act) (s t : State) → Begins g starts s t → AllNear s → AllNear t
  near_begins [] s t p n = subst AllNear (sym p) n
  near_begins (a ∷ earlier) s t p n = near_applies a p.0 t p.2 (near_begins earlier s p.0 p.1 n)

  near_turn : (c : ℕ) (s : State) → AllNear s → AllNear (turned g c s)
  near_turn c s n = let u = taken_up g c s in near_open c (λ v. pushed_out g c (taken_up g c v)) s (near_pushes c (length (u.channels c).marks) u (near_takes c (length (s.history (g.reads c)) - (s.channels c).position) s n)) n

  near_turns : (c : ℕ) (s : State) → AllNear s → AllNear (turns_to g c s)
  near_turns zero s n = n
  near_turns (suc c) s n = near_turn c (turns_to g c s) (near_turns c s n)

  near_start : AllNear (start g)
  near_start c = elim (g.first (g.owner c)) as (λ b. Near [] (if b then opened 0 new_channel else new_channel)) [ true ↦ λ up. omega arith | false ↦ λ up. no (sym up) ]

  near_comes : (phases : List (List Act × List Line)) (s : State) → Comes g phases s → AllNear s
  near_comes [] s c = subst AllNear (sym c) near_start
  near_comes (phase ∷ earlier) s c =
      let p = c.2 in
      let n = near_plays phase.1 p.begun p.played p.plays (near_begins phase.0 (record c.0 { replies = [] }) p.begun p.begins (near_comes earlier c.0 c.1)) in
      subst AllNear (sym p.end) (times_keeps AllNear (round g) (near_turns g.channels) p.rounds p.played n)

  -- a state between two lines of a phase
  near_between : (phases : List (List Act × List Line)) (starts : List Act) (lines : List Line) (s b u : State) → Comes g phases s → Begins g starts (record s { replies = [] }) b → Plays g lines b u → AllNear u
  near_between phases starts lines s b u c p q = near_plays lines b u q (near_begins starts (record s { replies = [] }) b p (near_comes phases s c))

pub none_lags_more : (g : Rules) (phases : List (List Act × List Line)) (starts : List Act) (lines : List Line) (s b u : State) (c : ℕ) → IsRules g → 1 ≤ g.cells → Comes g phases s → Begins g starts (record s { replies = [] }) b → Plays g lines b u
    → is_open (u.channels c) ≡ true → length (u.history (g.reads c)) - (u.channels c).position ≤ g.cells
none_lags_more g phases starts lines s b u c ok some p q r up = near_between g ok some phases starts lines s b u p q r c up
