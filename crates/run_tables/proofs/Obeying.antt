-- What signals do to a channel of some number, and its turn in a round.
use Rattle.std.proofs.Common.{◌≡◌, ℕ, ◌+◌, ◌-◌, ◌<◌, ◌≤◌, inl, inr, Bool, true, false, List, [], length, set, Option, Some, None, IsTrue, refl, sym, ap, subst, ◌∙◌, arith, is_some}
use Rattle.std.specs.Prelude.{slice_get}
use Rattle.std.proofs.lemmas.Bool.{cases_lt}
use Rattle.bits_ip.specs.Prefix.{Net}
use Rattle.attrs.specs.declared.judge.Verdict.{Verdict}
use Rattle.attrs.specs.declared.route.Route.{Route}
use Rattle.export_core.specs.declared.log.Key.{Key}
use Rattle.export_core.specs.Standing.{is_open as is_log_open}
use Rattle.core_machine.specs.Channels as machine
use Rattle.core_machine.specs.Channels.{IsFed, closed, is_open, times}
use Rattle.core_machine.specs.Enters.{standing_keys}
use Rattle.core_machine.specs.Machine.{Feeds, Obeys, State, flushed, left_by, with_channel}
use Rattle.core_machine.specs.Rounds.{AreSettled, IsSettled, pushed_out, taken_up, turned, turns_to}
use Rattle.core_machine.specs.Rules.{Fall}
use Rattle.core_machine.proofs.Contents.{if_false, if_true}
use Rattle.core_machine.proofs.Growing.{more_flushed}
use Rattle.core_machine.proofs.WholeState.{takes_open}
use Rattle.core_setup.specs.Channels.{channels}
use Rattle.core_setup.specs.Protocols.{rules_of}
use Rattle.core_setup.specs.Setup.{Setup}
use Rattle.run_tables.specs.Channels.{IsChannel}
use Rattle.run_tables.specs.Routes.{AreRoutes}
use Rattle.run_tables.specs.declared.channel.Channel.{Channel}
use Rattle.run_tables.specs.declared.routes.Routes.{Routes}
use Rattle.run_tables.specs.declared.table.Table.{Table}
use Rattle.run_tables.proofs.Routing.{IsRead, Stays, channel_is, channel_there, channels_length, table_of, target_of}
use Rattle.run_tables.proofs.RouteSteps.{flushed_past}
use Rattle.run_tables.proofs.Steps.{log_open}

module _ {J : Type 0} (verdict : J → Net → Route → Verdict) (setup : Setup) (s : State) (r : Routes J) (c : ℕ) (are : AreRoutes verdict setup s r) where
  module _ (held after : Channel J) (table : Table) (read : IsRead verdict setup s c held table) (there : slice_get r.channels.items c ≡ Some held) where
    -- it is fed
    pub fed_state : (new : Routes J) → Stays verdict r new → new.tables.items ≡ r.tables.items → new.channels.items ≡ set r.channels.items c after → (due : Bool) (begun : ℕ → machine.Channel)
        → (x : machine.Channel) × IsFed (rules_of setup) c (s.history held.table) due (begun held.table) x × IsChannel verdict (rules_of setup) c (Some read.family) (s.history held.table) after x
        → (t : State) × Feeds (rules_of setup) c due (begun ((rules_of setup).reads c)) s t × AreRoutes verdict setup t new
    fed_state new stays tables changed due begun made = (
      with_channel c made.0 s,
      (made.0, subst (λ n. IsFed (rules_of setup) c (s.history n) due (begun n) made.0) (table_of verdict setup s r are c held there) made.1, refl),
      channel_is verdict setup s r new c held after table read there stays tables changed made.0 made.2 are,
    )

  module _ (held : Channel J) (there : slice_get r.channels.items c ≡ Some held) where
    pub log_up : is_open (s.channels c) ≡ true → is_log_open held.exporter.log ≡ true
    log_up up =
        let m = channel_there verdict setup s r are c held there in
        log_open verdict (rules_of setup) c (s.history 0) held.exporter (s.channels c) m.exporter.matches.like.resembles.log ∙ up

    every_is : held.exporter.spec.every ≡ is_some held.target
    every_is =
        (channel_there verdict setup s r are c held there).exporter.matches.like.resembles.spec.every ∙ sym (ap is_some (target_of verdict setup s r are c held there))

    pub is_every : (table : ℕ) → held.target ≡ Some table → held.exporter.spec.every ≡ true
    is_every table e = every_is ∙ ap is_some e

    pub none_left : held.target ≡ None → held.exporter.spec.every ≡ true → held.exporter.left ≡ []
    none_left e every = absurd (let bad : true ≡ false = sym every ∙ every_is ∙ ap is_some e in cc)

    pub target_is : (o : Option ℕ) → held.target ≡ o → (rules_of setup).target c ≡ o
    target_is o e = sym (target_of verdict setup s r are c held there) ∙ e

  -- what it brought is withdrawn, and it is down
  pub flushed_state : (table : ℕ) (keys : List Key) → (rules_of setup).target c ≡ Some table → keys ≡ standing_keys (s.channels c).log
      → flushed (rules_of setup) table keys (with_channel c (closed (s.channels c)) s)
      ≡ (let u = flushed (rules_of setup) table (standing_keys (s.channels c).log) s in with_channel c (closed (u.channels c)) u)
  flushed_state table keys target same =
      let rules = rules_of setup in
      let all = standing_keys (s.channels c).log in
      let apart = are.rules_are.apart c table target in
      ap (λ ks. flushed rules table ks (with_channel c (closed (s.channels c)) s)) same
      ∙ flushed_past rules c (closed (s.channels c)) table all s apart
      ∙ ap (λ ch. with_channel c (closed ch) (flushed rules table all s)) (sym ((more_flushed rules are.rules_are table all s).same c apart))

  pub falls_from : (table : ℕ) (t : State) → (rules_of setup).target c ≡ Some table
      → t ≡ (let u = flushed (rules_of setup) table (standing_keys (s.channels c).log) s in with_channel c (closed (u.channels c)) u) → Obeys Fall (rules_of setup) c s t
  falls_from table t target e =
      subst (λ o. t ≡ (let u = left_by (rules_of setup) o (standing_keys (s.channels c).log) s in with_channel c (closed (u.channels c)) u)) (sym target) e

  pub falls_alone : (t : State) → (rules_of setup).target c ≡ None → t ≡ with_channel c (closed (s.channels c)) s → Obeys Fall (rules_of setup) c s t
  falls_alone t target e =
      subst (λ o. t ≡ (let u = left_by (rules_of setup) o (standing_keys (s.channels c).log) s in with_channel c (closed (u.channels c)) u)) (sym target) e

  -- ---- a turn

  pub still_up : is_open (s.channels c) ≡ true → is_open ((taken_up (rules_of setup) c s).channels c) ≡ true
  still_up up = takes_open (rules_of setup) are.rules_are c (length (s.history ((rules_of setup).reads c)) - (s.channels c).position) s ∙ up

  pub turn_up : is_open (s.channels c) ≡ true → pushed_out (rules_of setup) c (taken_up (rules_of setup) c s) ≡ turned (rules_of setup) c s
  turn_up up = sym (if_true (is_open (s.channels c)) (pushed_out (rules_of setup) c (taken_up (rules_of setup) c s)) s up)

  pub turn_down : is_open (s.channels c) ≡ false → s ≡ turned (rules_of setup) c s
  turn_down down = sym (if_false (is_open (s.channels c)) (pushed_out (rules_of setup) c (taken_up (rules_of setup) c s)) s down)

-- ---- all of them

module _ {J : Type 0} (verdict : J → Net → Route → Verdict) (setup : Setup) (s : State) (r : Routes J) (are : AreRoutes verdict setup s r) where
  abbrev pub IsSettledAt : ℕ → Type 0
  IsSettledAt c = is_open (s.channels c) ≡ true → IsSettled (s.history ((rules_of setup).reads c)) (s.channels c)

  -- all that are held are settled, so all are
  pub all_settled : (n : ℕ) → length r.channels.items ≤ n → ((c : ℕ) → c < n → IsSettledAt c) → AreSettled (rules_of setup) s
  all_settled n le so c up = elim (cases_lt c n) [
    | inl w ↦ so c w up
    | inr w ↦ absurd (let bad : false ≡ true = sym (are.beyond c (omega (arith, w, le, channels_length verdict setup s r are))) ∙ up in cc)
  ]

  pub more_settled : (n : ℕ) → ((c : ℕ) → c < n → IsSettledAt c) → IsSettledAt n → (c : ℕ) → c < n + 1 → IsSettledAt c
  more_settled n so last c w = elim (cases_lt c n) [
    | inl less ↦ so c less
    | inr le ↦ let same : n ≡ c = omega (arith, w, le) in subst IsSettledAt same last
  ]

pub true_false : {A : Type 0} (b : Bool) → IsTrue b → b ≡ false → A
true_false b one other = absurd (let bad : true ≡ false = sym one ∙ other in cc)

-- ---- the turns of a round

module _ {J : Type 0} (verdict : J → Net → Route → Verdict) where
  pub turns_end : (setup : Setup) (n : ℕ) (s : State) (old r : Routes J) → n ≡ length old.channels.items → AreRoutes verdict setup s old
      → AreRoutes verdict setup (turns_to (rules_of setup) n s) r → AreRoutes verdict setup (turns_to (rules_of setup) (length (channels setup)) s) r
  turns_end setup n s old r e before are =
      subst (λ m. AreRoutes verdict setup (turns_to (rules_of setup) m s) r) (e ∙ sym (channels_length verdict setup s old before)) are
