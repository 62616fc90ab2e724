-- The rounds of a sync, one after another.
use Rattle.std.proofs.Common.{◌≡◌, ℕ, suc, ◌+◌, ◌<◌, ◌≤◌, inl, inr, length, ap, subst, arith}
use Rattle.std.proofs.lemmas.Bool.{cases_lt}
use Rattle.bits_ip.specs.Prefix.{Net}
use Rattle.attrs.specs.declared.judge.Verdict.{Verdict}
use Rattle.attrs.specs.declared.route.Route.{Route}
use Rattle.core_machine.specs.Channels.{times}
use Rattle.core_machine.specs.Machine.{State}
use Rattle.core_machine.specs.Rounds.{AreSettled, HasRounds, round}
use Rattle.core_setup.specs.Protocols.{rules_of}
use Rattle.core_setup.specs.Setup.{Setup}
use Rattle.run_tables.specs.Routes.{AreRoutes, Ends}
use Rattle.run_tables.specs.declared.routes.Routes.{Routes}
use Rattle.run_tables.proofs.Routing.{as_state, tables_length}

module _ {J : Type 0} (verdict : J → Net → Route → Verdict) where
  pub record Synced (old new : Routes J) (rounds : ℕ) : Type 0 where
    pub are :
        (setup : Setup) (s : State) → AreRoutes verdict setup s old
        → AreRoutes verdict setup (times rounds (round (rules_of setup)) s) new
    pub open_still :
        (setup : Setup) (s : State) → AreRoutes verdict setup s old → (earlier : ℕ)
        → earlier < rounds → AreSettled (rules_of setup) (times earlier (round (rules_of setup)) s) → ⊥

  pub none_synced : (old : Routes J) → Synced old old 0
  none_synced old = record { are = λ setup s are. are; open_still = λ setup s are earlier lt. absurd (omega (arith, lt)) }

  next : (n : ℕ) → suc n ≡ n + 1
  next n = omega arith

  -- one round more, where not all are settled
  pub more_synced : (old mid new : Routes J) (n : ℕ) → Synced old mid n
      → ((setup : Setup) (s : State) → AreRoutes verdict setup s mid → AreSettled (rules_of setup) s → ⊥)
      → ((setup : Setup) (s : State) → AreRoutes verdict setup s mid → AreRoutes verdict setup (round (rules_of setup) s) new)
      → Synced old new (n + 1)
  more_synced old mid new n far waits step = record {
    are = λ setup s are. as_state verdict setup (ap (λ k. times k (round (rules_of setup)) s) (next n)) (step setup (times n (round (rules_of setup)) s) (far.are setup s are));
    open_still = λ setup s are earlier lt settled. elim (cases_lt earlier n) [
      | inl w ↦ far.open_still setup s are earlier w settled
      | inr w ↦ let same : earlier ≡ n = omega (arith, lt, w) in
          waits setup (times n (round (rules_of setup)) s) (far.are setup s are) (subst (λ k. AreSettled (rules_of setup) (times k (round (rules_of setup)) s)) same settled)
    ];
  }

  -- there are more rounds to come
  pub fewer_rounds : (old mid : Routes J) (n : ℕ) → Ends verdict old → Synced old mid n
      → ((setup : Setup) (s : State) → AreRoutes verdict setup s mid → AreSettled (rules_of setup) s → ⊥) → n < length mid.tables.items
  fewer_rounds old mid n ends far waits =
      let setup = ends.0 in
      let s = ends.1 in
      let all = ends.3 in
      let le = ends.5 in
      let now = far.are setup s ends.2 in
      let tables = tables_length verdict setup (times n (round (rules_of setup)) s) mid now in
      elim (cases_lt n all) [
        | inl w ↦ omega (arith, w, le, tables)
        | inr w ↦ absurd (past setup s ends.2 now all w ends.4.end)
      ] where
        past : (setup : Setup) (s : State) → AreRoutes verdict setup s old → AreRoutes verdict setup (times n (round (rules_of setup)) s) mid → (all : ℕ) → all ≤ n → AreSettled (rules_of setup) (times all (round (rules_of setup)) s) → ⊥
        past setup s are now all le settled = elim (cases_lt all n) [
          | inl w ↦ far.open_still setup s are all w settled
          | inr w ↦ let same : all ≡ n = omega (arith, le, w) in
              waits setup (times n (round (rules_of setup)) s) now (subst (λ k. AreSettled (rules_of setup) (times k (round (rules_of setup)) s)) same settled)
        ]

  pub all_synced : (old new : Routes J) (n : ℕ) → Synced old new n → ((setup : Setup) (s : State) → AreRoutes verdict setup s new → AreSettled (rules_of setup) s)
      → (setup : Setup) (s : State) → AreRoutes verdict setup s old → HasRounds (rules_of setup) s n × AreRoutes verdict setup (times n (round (rules_of setup)) s) new
  all_synced old new n far settled setup s are =
      let now = far.are setup s are in
      (record { end = settled setup (times n (round (rules_of setup)) s) now; each = λ earlier lt. far.open_still setup s are earlier lt }, now)
