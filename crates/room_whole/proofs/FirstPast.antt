-- Before the first phase nothing was printed, though the directions of pipes are up.
use Rattle.std.proofs.Common.{◌≡◌, ℕ, inl, inr, Bool, true, false, List, [], ◌∷◌, length, map, reverse, Option, Some, None, refl, sym, ap, ◌∙◌, arith}
use Rattle.std.specs.Prelude.{if◌then◌else◌, slice_get}
use Rattle.attrs.specs.declared.judge.Verdict.{Verdict}
use Rattle.attrs.specs.declared.route.Route.{Route}
use Rattle.bits_ip.specs.Prefix.{Net}
use Rattle.export_core.specs.Histories.{change_of}
use Rattle.export_core.specs.declared.log.LogItem.{LogItem}
use Rattle.export_core.specs.declared.log.LogItem.TheVariants.{Up}
use Rattle.core_machine.specs.Enters.{enters}
use Rattle.core_machine.specs.Legal.{nothing}
use Rattle.core_machine.specs.Rules.{Rise, Rules}
use Rattle.core_machine.specs.Signals.{AreSignals, IsPlace, without_sends}
use Rattle.core_setup.specs.Channels.{Channel, channel_at, owner_at}
use Rattle.core_setup.specs.Protocols.{first_at, is_pipe, rules_of}
use Rattle.core_setup.specs.Setup.{Body, Exports}
use Rattle.core_setup.proofs.Numbered.{beyond_none, none_some, some_same}
use Rattle.import_lock.specs.Terms.{PhaseTerms}
use Rattle.phase_legal.specs.Stamps.{AreUpTo}
use Rattle.phase_room.specs.Rooms.{TableTerms}
use Rattle.phase_open.specs.Standing.{AreStandingChannels, table_stood}
use Rattle.phase_open.specs.declared.standing.StandingChannel.{StandingChannel}
use Rattle.room_open.specs.Standing.{Stands}
use Rattle.room_open.specs.declared.standing.Standing.{Standing}
use Rattle.room_open.specs.declared.standing.StandingMember.{StandingMember}
use Rattle.room_open.specs.declared.standing.StandingMember.TheVariants as stood
use Rattle.room_first.specs.First.{IsFirst}
use Rattle.room_whole.specs.Past.{HasPast, IsChannelOf}

-- the log of a channel before all operations: one that is up then came up at 0
abbrev first_log : Bool → List LogItem
first_log up = if up then Up 0 ∷ [] else []

module _ (rules : Rules) (c : ℕ) where
  place_first : (target : Option ℕ) → IsPlace rules [] c 0 [] target
  place_first None = refl
  place_first (Some table) = λ none. refl

  signals_first : (up : Bool) → AreSignals rules [] c (without_sends (first_log up)) (if up then record { signal = Rise; ops = [] } ∷ [] else [])
  signals_first true = ((refl, place_first (rules.target c)), tt)
  signals_first false = tt

  enters_first : (up : Bool) → [] ≡ enters rules (first_log up)
  enters_first true = refl
  enters_first false = refl

within_first : (up : Bool) → AreUpTo 0 (without_sends (first_log up))
within_first true = ((omega arith), tt)
within_first false = tt

module _ {J : Type 0} (verdict : J → Net → Route → Verdict) (phase : PhaseTerms) (exports : ℕ → Exports) (standing : Standing J) (stands : Stands verdict phase exports standing) (is : IsFirst standing) where
  abbrev rules : Rules
  rules = rules_of phase.setup

  abbrev logs : ℕ → List LogItem
  logs c = first_log (rules.first (rules.owner c))

  -- that of a channel of a protocol that is up before all operations, or isn't
  log_is : (c : ℕ) (channel : Channel) (i : ℕ) (up : Bool) → channel_at phase.setup c ≡ Some channel → channel.owner ≡ i → rules.first i ≡ up → logs c ≡ first_log up
  log_is c channel i up at own first = ap (λ n. first_log (rules.first n)) (ap (owner_at (length phase.setup.protocols)) at ∙ own) ∙ ap first_log first

  own_log : (i : ℕ) (table : TableTerms) (channel : StandingChannel J) → rules.first i ≡ false → (mine : Option Exports) (held : Option (StandingChannel J)) → AreStandingChannels verdict phase exports i table mine held → held ≡ Some channel → logs channel.number ≡ []
  own_log i table channel first None None are e = none_some e
  own_log i table channel first None (Some y) are e = absurd are
  own_log i table channel first (Some x) None are e = absurd are
  own_log i table channel first (Some x) (Some y) are e =
      ap (λ (z : StandingChannel J). logs z.number) (sym (some_same e))
      ∙ log_is y.number are.channel i false are.channel_is are.owner first

  logs_were : (i : ℕ) (held : StandingMember J) (channel : StandingChannel J) → slice_get standing.members.items i ≡ Some held → IsChannelOf held channel → logs channel.number ≡ reverse channel.exporter.log
  logs_were i (stood.Own held) channel at of =
      let s = stands.members i (stood.Own held) at in
      own_log i (table_stood s.stood) channel (ap first_at s.stands.protocol_is ∙ ap (λ (b : Body). is_pipe b) s.stands.body) s.source.exports held.channel s.channels of
      ∙ ap reverse (sym (is.members i (stood.Own held) at channel of))
  logs_were i (stood.Pipe held) channel at of =
      let s = stands.members i (stood.Pipe held) at in
      let up : rules.first i ≡ true = ap first_at s.stands.protocol_is ∙ ap (λ (b : Body). is_pipe b) s.stands.body in
      let were = is.members i (stood.Pipe held) at in
      elim of [
        | inl out ↦
            ap (λ (z : StandingChannel J). logs z.number) (sym out)
            ∙ log_is held.out.number s.out.of.channel i true s.out.of.channel_is s.out.of.owner up
            ∙ ap reverse (sym were.0)
            ∙ ap (λ (z : StandingChannel J). reverse z.exporter.log) out
        | inr back ↦
            ap (λ (z : StandingChannel J). logs z.number) (sym back)
            ∙ log_is held.back.number s.back.of.channel i true s.back.of.channel_is s.back.of.owner up
            ∙ ap reverse (sym were.1)
            ∙ ap (λ (z : StandingChannel J). reverse z.exporter.log) back
      ]

  -- a channel that isn't there is of no protocol
  no_log : (c : ℕ) → channel_at phase.setup c ≡ None → logs c ≡ []
  no_log c none =
      ap (λ n. first_log (rules.first n)) (ap (owner_at (length phase.setup.protocols)) none)
      ∙ ap (λ o. first_log (first_at o)) (beyond_none phase.setup.protocols (length phase.setup.protocols) (omega arith))

  pub nothing_past : HasPast phase.setup nothing standing
  nothing_past = record {
    logs = logs;
    sound = record {
      real = λ t. tt;
      exact = λ i. refl;
      entered = λ d table target. enters_first rules d (rules.first (rules.owner d));
      strangers = λ t i none. refl;
      sourced = λ t. tt;
      within = λ c. within_first (rules.first (rules.owner c));
      signalled = λ c. signals_first rules c (rules.first (rules.owner c));
    };
    printed = λ c. inr refl;
    history = λ t table at. ap (λ es. reverse (map change_of es)) (sym (is.tables t table at));
    no_history = λ t far. refl;
    no_ops = λ i far. refl;
    logs_are = logs_were;
    no_logs = no_log;
  }
