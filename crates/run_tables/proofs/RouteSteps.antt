-- Steps of tables and channels, one after another, and the machine's state behind them.
use Rattle.std.proofs.Common.{◌≡◌, ◌≢◌, ℕ, ◌+◌, ◌-◌, ◌<◌, ◌≤◌, inl, inr, Bool, true, false, List, [], ◌∷◌, ◌++◌, length, Option, Some, None, refl, sym, ap, ◌∙◌, arith}
use Rattle.std.specs.Prelude.{◌==◌, ◌&&◌, ◌||◌, nat_lt, slice_get, take, if◌then◌else◌}
use Rattle.std.proofs.Math.Path.{fun_ext}
use Rattle.std.proofs.lemmas.Bool.{cases_lt}
use Rattle.std.proofs.lemmas.Bool.Decides.{eqb_tells, nat_tests}
use Rattle.std.proofs.lemmas.List.{take_all}
use Rattle.bits_ip.specs.Prefix.{Net}
use Rattle.attrs.specs.declared.judge.Verdict.{Verdict}
use Rattle.attrs.specs.declared.route.Change.{Change}
use Rattle.attrs.specs.declared.route.Route.{Route}
use Rattle.export_core.specs.Candidates.{among}
use Rattle.export_core.specs.declared.log.Key.{Key}
use Rattle.core_machine.specs.Channels as machine
use Rattle.core_machine.specs.Channels.{closed, is_open, push_one, pushed, take_one, times}
use Rattle.core_machine.specs.Enters.{withdrawal}
use Rattle.core_machine.specs.Machine.{State, added, arrived, flushed, gained, if_open, push_at, set, takes, with_channel}
use Rattle.core_machine.specs.Room.{in_room, lags, roomed}
use Rattle.core_machine.specs.Rounds.{taken_up}
use Rattle.core_machine.specs.Rules.{Rules}
use Rattle.core_machine.proofs.Contents.{eqb_no, if_false, if_true}
use Rattle.core_machine.proofs.Growing.{set_here as at_here, set_there as at_there}
use Rattle.core_setup.specs.Channels.{channels}
use Rattle.core_setup.specs.Protocols.{rules_of}
use Rattle.core_setup.specs.Setup.{Setup}
use Rattle.core_setup.proofs.PairLemmas.{cases_same, take_one_more}
use Rattle.run_tables.specs.Channels.{if_up}
use Rattle.run_tables.specs.Routes.{AreReaders, AreRoutes, with_room}
use Rattle.run_tables.specs.declared.routes.Routes.{Routes}
use Rattle.run_tables.proofs.Routing.{are_same}
use Rattle.run_tables.proofs.Runs.{takes_up}

-- ---- room

-- a channel that is down makes no room
pub room_down : (rules : Rules) (table : ℕ) (h : List Change) (chs : ℕ → machine.Channel) (j : ℕ) → is_open (chs j) ≡ false → in_room rules table h chs j ≡ chs j
room_down rules table h chs j down = over (rules.reads j == table) where
  still : roomed rules j h (chs j) ≡ chs j
  still = if_false (lags rules h (chs j)) (take_one rules j h (chs j)) (chs j)
      (ap (λ b. b && (length h - (chs j).position == rules.cells)) down)

  over : (b : Bool) → (if b then roomed rules j h (chs j) else chs j) ≡ chs j
  over true = still
  over false = refl

-- some channels of a table have made room
abbrev pub rooms_in : Rules → ℕ → List ℕ → State → State
rooms_in rules table numbers s =
    record s { channels = λ j. if among j numbers then roomed rules j (s.history table) (s.channels j) else s.channels j }

among_last : (j c : ℕ) (xs : List ℕ) → among j (xs ++ c ∷ []) ≡ (among j xs || (c == j))
among_last j c [] = last (c == j) where
  last : (b : Bool) → (b || false) ≡ (false || b)
  last true = refl
  last false = refl
among_last j c (x ∷ xs) = ap (λ b. (x == j) || b) (among_last j c xs) ∙ over (x == j) where
  over : (b : Bool) → (b || (among j xs || (c == j))) ≡ ((b || among j xs) || (c == j))
  over true = refl
  over false = refl

or_true : (b : Bool) → (b || true) ≡ true
or_true true = refl
or_true false = refl

or_false : (b : Bool) → (b || false) ≡ b
or_false true = refl
or_false false = refl

module _ {J : Type 0} (verdict : J → Net → Route → Verdict) (setup : Setup) (table : ℕ) (numbers : List ℕ) (s : State) where
  pub room_begins : (r : Routes J) → AreRoutes verdict setup s r → AreRoutes verdict setup (rooms_in (rules_of setup) table (take 0 numbers) s) r
  room_begins r are = are_same verdict setup s (rooms_in (rules_of setup) table (take 0 numbers) s) r (λ n. refl) (λ j. refl) are

  pub room_more : (place c : ℕ) (r : Routes J) → AreReaders (rules_of setup) (length (channels setup)) table numbers → slice_get numbers place ≡ Some c → (rules_of setup).reads c ≡ table
      → (let u = rooms_in (rules_of setup) table (take place numbers) s in
      AreRoutes verdict setup (with_channel c (roomed (rules_of setup) c (u.history ((rules_of setup).reads c)) (u.channels c)) u) r)
      → AreRoutes verdict setup (rooms_in (rules_of setup) table (take (place + 1) numbers) s) r
  room_more place c r readers at reads are = are_same verdict setup (with_channel c new u) (rooms_in rules table (take (place + 1) numbers) s) r (λ n. refl) same are where
    rules : Rules
    rules = rules_of setup

    u : State
    u = rooms_in (rules_of setup) table (take place numbers) s

    new : machine.Channel
    new = roomed (rules_of setup) c (u.history ((rules_of setup).reads c)) (u.channels c)

    -- it hadn't yet
    before : u.channels c ≡ s.channels c
    before = if_false (among c (take place numbers)) (roomed (rules_of setup) c (s.history table) (s.channels c)) (s.channels c) (readers.once place c at)

    new_is : new ≡ roomed (rules_of setup) c (s.history table) (s.channels c)
    new_is = ap (λ n. roomed (rules_of setup) c (s.history n) (u.channels c)) reads ∙ ap (roomed (rules_of setup) c (s.history table)) before

    listed : (j : ℕ) → among j (take (place + 1) numbers) ≡ (among j (take place numbers) || (c == j))
    listed j = ap (among j) (take_one_more numbers place c at) ∙ among_last j c (take place numbers)

    same : (j : ℕ) → set c new u.channels j ≡ (if among j (take (place + 1) numbers) then roomed (rules_of setup) j (s.history table) (s.channels j) else s.channels j)
    same j = elim (eqb_tells c j) [
      | inl w ↦ at_here c new u.channels j w.1 ∙ new_is ∙ ap (λ n. roomed (rules_of setup) n (s.history table) (s.channels n)) w.1
          ∙ sym (if_true (among j (take (place + 1) numbers)) (roomed (rules_of setup) j (s.history table) (s.channels j)) (s.channels j)
          (listed j ∙ ap (λ b. among j (take place numbers) || b) w.0 ∙ or_true (among j (take place numbers))))
      | inr w ↦ at_there c new u.channels j w.1
          ∙ ap (λ b. if b then roomed (rules_of setup) j (s.history table) (s.channels j) else s.channels j)
          (sym (listed j ∙ ap (λ b. among j (take place numbers) || b) w.0 ∙ or_false (among j (take place numbers))))
    ]

  pub room_ends : (place : ℕ) (old r : Routes J) → AreReaders (rules_of setup) (length (channels setup)) table numbers → place ≡ length numbers → AreRoutes verdict setup s old
      → AreRoutes verdict setup (rooms_in (rules_of setup) table (take place numbers) s) r → AreRoutes verdict setup (with_room (rules_of setup) table s) r
  room_ends place old r readers e before are = are_same verdict setup (rooms_in (rules_of setup) table (take place numbers) s) (with_room (rules_of setup) table s) r (λ n. refl) same are where
    new : ℕ → machine.Channel
    new = in_room (rules_of setup) table (s.history table) s.channels

    listed : (j : ℕ) → among j (take place numbers) ≡ (nat_lt j (length (channels setup)) && ((rules_of setup).reads j == table))
    listed j = ap (among j) (take_all place numbers (omega (arith, e))) ∙ readers.are j

    same : (j : ℕ) → (if among j (take place numbers) then roomed (rules_of setup) j (s.history table) (s.channels j) else s.channels j) ≡ new j
    same j = elim (cases_lt j (length (channels setup))) [
      | inl w ↦ ap (λ b. if b then roomed (rules_of setup) j (s.history table) (s.channels j) else s.channels j)
          (listed j ∙ ap (λ b. b && ((rules_of setup).reads j == table)) (is_lt j (length (channels setup)) w))
      | inr w ↦ if_false (among j (take place numbers)) (roomed (rules_of setup) j (s.history table) (s.channels j)) (s.channels j)
          (listed j ∙ ap (λ b. b && ((rules_of setup).reads j == table)) (not_lt j (length (channels setup)) w))
          ∙ sym (room_down (rules_of setup) table (s.history table) s.channels j (before.beyond j w))
    ] where
      not_lt : (a b : ℕ) → b ≤ a → nat_lt a b ≡ false
      not_lt a b le = grind (arith, nat_tests)

      is_lt : (a b : ℕ) → a < b → nat_lt a b ≡ true
      is_lt a b w = grind (arith, nat_tests)

-- ---- a channel that doesn't read a table sees nothing of its changes

module _ (rules : Rules) (c : ℕ) (new : machine.Channel) where
  pub added_past : (table : ℕ) (x : Change) (s : State) → rules.reads c ≢ table → added rules table x (with_channel c new s) ≡ with_channel c new (added rules table x s)
  added_past table x s apart = ap made (fun_ext same) where
    made : (ℕ → machine.Channel) → State
    made chs = record { history = set table (x ∷ s.history table) s.history; ops = s.ops; channels = chs; replies = s.replies }

    same : (j : ℕ) → in_room rules table (s.history table) (set c new s.channels) j ≡ set c new (in_room rules table (s.history table) s.channels) j
    same j = elim (cases_same c j) [
      | inl e ↦ ap (in_room rules table (s.history table) (set c new s.channels)) (sym e)
          ∙ if_false (rules.reads c == table) (roomed rules c (s.history table) (set c new s.channels c)) (set c new s.channels c) (eqb_no (rules.reads c) table apart)
          ∙ at_here c new s.channels c refl ∙ sym (at_here c new (in_room rules table (s.history table) s.channels) j e)
      | inr e ↦ ap (λ ch. if rules.reads j == table then roomed rules j (s.history table) ch else ch) (at_there c new s.channels j e)
          ∙ sym (at_there c new (in_room rules table (s.history table) s.channels) j e)
    ]

  pub arrived_past : (o : Option ℕ) (x : Option Change) (s : State) → ((table : ℕ) → o ≡ Some table → rules.reads c ≢ table) → arrived rules o x (with_channel c new s) ≡ with_channel c new (arrived rules o x s)
  arrived_past None x s apart = refl
  arrived_past (Some table) None s apart = refl
  arrived_past (Some table) (Some x) s apart = added_past table x s (apart table refl)

  pub flushed_past : (table : ℕ) (keys : List Key) (s : State) → rules.reads c ≢ table → flushed rules table keys (with_channel c new s) ≡ with_channel c new (flushed rules table keys s)
  flushed_past table [] s apart = refl
  flushed_past table (k ∷ keys) s apart =
      ap (flushed rules table keys) (added_past table (withdrawal k) s apart) ∙ flushed_past table keys (added rules table (withdrawal k) s) apart

-- a channel set to what it is
pub with_same : (c : ℕ) (ch : machine.Channel) (s : State) → ch ≡ s.channels c → with_channel c ch s ≡ s
with_same c ch s e = ap made (fun_ext same) where
  made : (ℕ → machine.Channel) → State
  made chs = record { history = s.history; ops = s.ops; channels = chs; replies = s.replies }

  same : (j : ℕ) → set c ch s.channels j ≡ s.channels j
  same j = elim (cases_same c j) [
    | inl w ↦ at_here c ch s.channels j w ∙ e ∙ ap s.channels w
    | inr w ↦ at_there c ch s.channels j w
  ]

-- ---- a channel takes

module _ (rules : Rules) (c : ℕ) where
  pub took : (count : ℕ) (s : State) → with_channel c (if_up (times count (take_one rules c (s.history (rules.reads c)))) (s.channels c)) s ≡ if_open c (takes rules c count) s
  took count s = on (is_open (s.channels c)) where
    on : (b : Bool) → with_channel c (if b then times count (take_one rules c (s.history (rules.reads c))) (s.channels c) else s.channels c) s ≡ (if b then takes rules c count s else s)
    on true = refl
    on false = with_same c (s.channels c) s refl

  -- to the head
  pub took_up : (head : ℕ) (s : State) → head ≡ length (s.history (rules.reads c)) → is_open (s.channels c) ≡ true
      → with_channel c (if_up (times head (take_one rules c (s.history (rules.reads c)))) (s.channels c)) s ≡ taken_up rules c s
  took_up head s at up =
      ap (λ ch. with_channel c ch s)
      (if_true (is_open (s.channels c)) (times head (take_one rules c (s.history (rules.reads c))) (s.channels c)) (s.channels c) up
      ∙ takes_up rules c (s.history (rules.reads c)) head (s.channels c) (omega (arith, at)))

  -- ---- it pushes

  pub push_is : (s : State) (o : Option Change) → ((table : ℕ) → rules.target c ≡ Some table → rules.reads c ≢ table) → gained rules c (s.history (rules.reads c)) (s.channels c).marks (s.channels c) ≡ o
      → arrived rules (rules.target c) o (with_channel c (push_one rules c (s.history (rules.reads c)) (s.channels c)) s) ≡ push_at rules c s
  push_is s o apart gains =
      let new = push_one rules c (s.history (rules.reads c)) (s.channels c) in
      arrived_past rules c new (rules.target c) o s apart ∙ ap (λ x. with_channel c new (arrived rules (rules.target c) x s)) (sym gains)

  nothing_arrives : (o : Option ℕ) (s : State) → arrived rules o None s ≡ s
  nothing_arrives None s = refl
  nothing_arrives (Some table) s = refl

  pub quiet_is : (s : State) → gained rules c (s.history (rules.reads c)) (s.channels c).marks (s.channels c) ≡ None
      → with_channel c (push_one rules c (s.history (rules.reads c)) (s.channels c)) s ≡ push_at rules c s
  quiet_is s none =
      let new = push_one rules c (s.history (rules.reads c)) (s.channels c) in
      ap (with_channel c new) (sym (nothing_arrives (rules.target c) s)) ∙ ap (λ x. with_channel c new (arrived rules (rules.target c) x s)) (sym none)

  -- where nothing is marked
  pub push_nothing : (s : State) → (s.channels c).marks ≡ [] → push_at rules c s ≡ s
  push_nothing s none =
      ap (λ ms. with_channel c (pushed rules c (s.history (rules.reads c)) ms (s.channels c)) (arrived rules (rules.target c) (gained rules c (s.history (rules.reads c)) ms (s.channels c)) s)) none
      ∙ ap (with_channel c (s.channels c)) (nothing_arrives (rules.target c) s) ∙ with_same c (s.channels c) s refl

  pub quiet_none : (s : State) → (s.channels c).marks ≡ [] → with_channel c (push_one rules c (s.history (rules.reads c)) (s.channels c)) s ≡ push_at rules c s
  quiet_none s none = quiet_is s (ap (λ ms. gained rules c (s.history (rules.reads c)) ms (s.channels c)) none)
