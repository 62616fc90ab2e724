-- A phase that threads have played: it is legal, what is printed of it is what its room has come to,
-- and what stands behind it is what a further phase can begin with.
use Rattle.std.proofs.Common.{◌≡◌, ℕ, List, length, reverse, sym, ap, subst, ◌∙◌}
use Rattle.attrs.specs.declared.journal.JEntry.{JEntry}
use Rattle.attrs.specs.declared.judge.Verdict.{Verdict}
use Rattle.attrs.specs.declared.route.Route.{Route}
use Rattle.bits_ip.specs.Prefix.{Net}
use Rattle.rec_words.specs.Entries.{Spells}
use Rattle.core_machine.specs.Legal.{IsLegal, Joined, Printed, join, started}
use Rattle.core_machine.specs.Lines.{Act}
use Rattle.core_machine.specs.Rules.{IsRules, Rules}
use Rattle.core_machine.proofs.Levels.{are_ways}
use Rattle.core_setup.specs.Protocols.{rules_of}
use Rattle.core_setup.specs.Setup.{Exports}
use Rattle.core_setup.proofs.SetupRules.{setup_rules}
use Rattle.import_lock.specs.Terms.{PhaseTerms}
use Rattle.room_open.specs.Opening.{IsOpening}
use Rattle.room_open.specs.Standing.{Stands}
use Rattle.room_open.specs.declared.opening.Opening.{Opening}
use Rattle.room_open.specs.declared.standing.Standing.{Standing}
use Rattle.room_ends.specs.Played.{AreOfFew, AreStartActs, IsPlayed}
use Rattle.room_ends.specs.declared.played.PlayedRoom.{PlayedRoom}
use Rattle.room_ends.specs.After.{StandsAfter}
use Rattle.room_whole.specs.Past.{HasPast}
use Rattle.room_ends.specs.Prints.{Prints}
use Rattle.room_whole.specs.Starts.{AreOfProtocols}
use Rattle.room_whole.proofs.Bridge.{behind_is, past_is, printed_is}
use Rattle.room_whole.proofs.Chosen.{printed}
use Rattle.room_whole.proofs.Given.{Given, lines_of, rules_in}

module _ {J P : Type 0} (verdict : J → Net → Route → Verdict) (terms : P → PhaseTerms) (exports : P → ℕ → Exports) (rules : P → Rules) where
  -- what follows of what was played
  abbrev pub Result : (next : P) (past : Joined) (after : Standing J) (starts : List Act) (made : PlayedRoom J) → P → Type 0
  Result next past after starts made played =
      (p : Printed)
      × IsLegal (rules_of (terms played).setup) (started starts) past (reverse (terms played).lines) p
      × Prints (terms played).setup (terms played).lines past p made
      × HasPast (terms played).setup (join past p) after
      × ((terms next).past ≡ (join past p).ops → Stands verdict (terms next) (exports next) after)

  module _ (played : P) (past : Joined) (standing : Standing J) (opening : Opening J P) (starts : List Act) (made : PlayedRoom J) (stands : Stands verdict (terms played) (exports played) standing) (was : HasPast (terms played).setup past standing) (same : (terms played).past ≡ past.ops)
      (few : AreOfFew (terms played).starter (length (terms played).setup.protocols) (terms played).lines) (begin : AreStartActs starts) (begins : AreOfProtocols (length (terms played).setup.protocols) starts)
      (opens : IsOpening terms exports rules played standing.tables.items standing.members.items opening) (is : IsPlayed verdict terms exports rules opening.room starts made) where
    abbrev room_is : played ≡ opening.room.played.value
    room_is = sym opens.played_is

    -- all of it, of what the room plays
    abbrev pub given : Given J P
    given = record {
      verdict = verdict;
      terms = terms;
      exports = exports;
      rules = rules;
      old = standing;
      opening = opening;
      starts = starts;
      made = made;
      past = past;
      ruled = subst (λ (z : P). IsRules (rules_of (terms z).setup)) room_is (setup_rules are_ways (terms played).setup stands.setup);
      stands = subst (λ (z : P). Stands verdict (terms z) (exports z) standing) room_is stands;
      was = subst (λ (z : P). HasPast (terms z).setup past standing) room_is was;
      same_past = subst (λ (z : P). (terms z).past ≡ past.ops) room_is same;
      few = subst (λ (z : P). AreOfFew (terms z).starter (length (terms z).setup.protocols) (terms z).lines) room_is few;
      begin = begin;
      begins = subst (λ (z : P). AreOfProtocols (length (terms z).setup.protocols) starts) room_is begins;
      opens = subst (λ (z : P). IsOpening terms exports rules z standing.tables.items standing.members.items opening) room_is opens;
      played = is;
    }

    module _ (next : P) (after : Standing J) (behind : StandsAfter standing made after) (setup : (terms next).setup ≡ (terms played).setup) (passes : exports next ≡ exports played)
        (one : (words : List ℕ) (a b : JEntry) → Spells a words → Spells b words → a ≡ b) (legal : (g : Given J P) → IsLegal (rules_in g) (started g.starts) g.past (reverse (lines_of g)) (printed g)) where
      result_here : Result next past after starts made opening.room.played.value
      result_here = (
        printed given,
        legal given,
        printed_is given after behind one,
        past_is given after behind (started starts) (reverse (lines_of given)) (legal given),
        λ follows. behind_is given after behind (started starts) (reverse (lines_of given)) (legal given) (terms next) (exports next) (setup ∙ ap (λ (z : P). (terms z).setup) room_is) (passes ∙ ap exports room_is) follows,
      )

      pub whole : Result next past after starts made played
      whole = subst (Result next past after starts made) opens.played_is result_here
