-- What is printed of a phase that was played (`printed`): by protocol its turns, of which the first
-- are starts, by table its entries, by channel what its log has more than was printed, and what all
-- actors were told. What it has more than the logs that stood is all of these but for what was not
-- printed yet (`printed_more`).
use Rattle.std.proofs.Common.{◌≡◌, ℕ, ◌+◌, ◌⊎◌, inl, inr, List, [], ◌∷◌, ◌++◌, length, map, reverse, Some, None, refl, sym, ap, subst, ◌∙◌, is_some, append-nil}
use Rattle.std.specs.Prelude.{slice_get}
use Rattle.std.proofs.Math.Path.{fun_ext}
use Rattle.attrs.specs.declared.route.Change.{Change}
use Rattle.core_machine.specs.Histories.{content_of}
use Rattle.core_machine.specs.Legal.{Joined, Printed, join}
use Rattle.core_machine.specs.Lines.{Reply, Turn, ops_of}
use Rattle.core_machine.specs.Rules.{Rules}
use Rattle.core_machine.specs.SyncState.{Shown}
use Rattle.core_setup.specs.Channels.{Channel, channel_at, channels}
use Rattle.export_core.specs.Logs.{account, stretch, value_of}
use Rattle.export_core.specs.declared.log.LogItem.{LogItem}
use Rattle.jour_rule.specs.declared.views.Entry.{Entry}
use Rattle.jour.specs.Seats.{front}
use Rattle.table_shared.specs.Records.{change_of}
use Rattle.phase_legal.specs.Turns.{turns_told}
use Rattle.phase_actors.specs.Acting.{replies_of}
use Rattle.phase_actors.specs.declared.actor.Told.{Told}
use Rattle.phase_ends.specs.Ends.{AreShown}
use Rattle.phase_ends.proofs.Leaving.{by_option}
use Rattle.phase_open.specs.declared.standing.StandingProtocol.{StandingProtocol}
use Rattle.room_open.specs.declared.standing.StandingMember.{StandingMember}
use Rattle.room_open.specs.declared.standing.StandingMember.TheVariants as standing
use Rattle.room_open.specs.declared.standing.StandingPipe.{StandingPipe}
use Rattle.room_whole.proofs.Channelled.{AreItems, items_here}
use Rattle.room_whole.proofs.Choose.{chosen, chosen_at, chosen_none}
use Rattle.room_whole.proofs.Given.{Given, lines_of, logs_of, rules_in, said_of, setup_of}
use Rattle.room_whole.proofs.Protocolled.{HasTurns, IsOfPipe, IsOfProtocol, known, known_pipe, own_turns, pipe_turns}

-- a protocol's turns, of which the first are starts, and what its port has made
pub record Choice : Type 0 where
  pub begun : List Entry
  pub rest : List Entry
  pub made : List (ℕ × Change)

abbrev pub no_choice : Choice
no_choice = record { begun = []; rest = []; made = [] }

-- what actors from a number on were told, each one's in the machine's order
abbrev pub all_replies : ℕ → List (List Told) → List Reply
all_replies n [] = []
all_replies n (told ∷ more) = replies_of n told ++ all_replies (n + 1) more

-- what is printed of a state, as histories, operations and logs have it
abbrev pub shown_of : Rules → Joined → Shown
shown_of rules all = record {
  rows = λ t net num. content_of (all.history t) net num;
  modes = λ i. rules.mode i (ops_of (all.ops i));
  accepted = λ i. length (rules.accepted i (ops_of (all.ops i)));
  up = λ c. is_some (stretch (all.logs c));
  standing = λ c k. value_of (account k (all.logs c));
}

-- what a log has more than was printed of it, where it stood so: that was printed, or nothing
abbrev pub unprinted : {printed stood : List LogItem} → (printed ≡ stood) ⊎ (printed ≡ []) → List LogItem → List LogItem
unprinted {printed} {stood} (inl all) items = items
unprinted {printed} {stood} (inr none) items = items ++ stood

unprinted_log : (printed stood : List LogItem) (was : (printed ≡ stood) ⊎ (printed ≡ [])) (items : List LogItem) → unprinted was items ++ printed ≡ items ++ stood
unprinted_log printed stood (inl all) items = ap (λ l. items ++ l) all
unprinted_log printed stood (inr none) items = ap (λ l. (items ++ stood) ++ l) none ∙ append-nil (items ++ stood)

module _ {J P : Type 0} (g : Given J P) where
  -- ---- by protocol

  pub record IsOwnChoice (i : ℕ) (held : StandingProtocol J) (c : Choice) : Type 0 where
    pub facts : IsOfProtocol g i held
    pub same : c ≡ record { begun = front facts.starter.1; rest = facts.turned.rest; made = facts.done.made }

  -- a pipe's ports make nothing of it
  pub record IsPipeChoice (i : ℕ) (held : StandingPipe J) (c : Choice) : Type 0 where
    pub facts : IsOfPipe g i held
    pub same : c ≡ record { begun = front facts.starter.1; rest = facts.turned.rest; made = [] }

  abbrev pub IsChoice : ℕ → StandingMember J → Choice → Type 0
  IsChoice i (standing.Own held) c = IsOwnChoice i held c
  IsChoice i (standing.Pipe held) c = IsPipeChoice i held c

  pub choose : (i : ℕ) (held : StandingMember J) → slice_get g.old.members.items i ≡ Some held → (c : Choice) × IsChoice i held c
  choose i (standing.Own held) at = let f = known g i held at in (record { begun = front f.starter.1; rest = f.turned.rest; made = f.done.made }, record { facts = f; same = refl })
  choose i (standing.Pipe held) at = let f = known_pipe g i held at in (record { begun = front f.starter.1; rest = f.turned.rest; made = [] }, record { facts = f; same = refl })

  abbrev pub choice : ℕ → Choice
  choice = chosen g.old.members.items IsChoice no_choice choose

  abbrev pub begun : ℕ → List Entry
  begun i = (choice i).begun

  abbrev pub rest : ℕ → List Entry
  rest i = (choice i).rest

  abbrev pub made_of : ℕ → List (ℕ × Change)
  made_of i = (choice i).made

  abbrev pub turns_of : ℕ → List Turn
  turns_of i = turns_told (lines_of g) (begun i ++ rest i)

  pub own_choice : (i : ℕ) (held : StandingProtocol J) → slice_get g.old.members.items i ≡ Some (standing.Own held) → IsOwnChoice i held (choice i)
  own_choice i held at = chosen_at g.old.members.items IsChoice no_choice choose i (standing.Own held) at

  pub pipe_choice : (i : ℕ) (held : StandingPipe J) → slice_get g.old.members.items i ≡ Some (standing.Pipe held) → IsPipeChoice i held (choice i)
  pipe_choice i held at = chosen_at g.old.members.items IsChoice no_choice choose i (standing.Pipe held) at

  pub by_protocol : (i : ℕ) (Q : Type 0) → ((held : StandingProtocol J) → slice_get g.old.members.items i ≡ Some (standing.Own held) → IsOwnChoice i held (choice i) → Q)
      → ((held : StandingPipe J) → slice_get g.old.members.items i ≡ Some (standing.Pipe held) → IsPipeChoice i held (choice i) → Q) → (slice_get g.old.members.items i ≡ None → choice i ≡ no_choice → Q) → Q
  by_protocol i Q own pipe none = by_option (slice_get g.old.members.items i) Q by (λ at. none at (chosen_none g.old.members.items IsChoice no_choice choose i at))
    where
      by : (held : StandingMember J) → slice_get g.old.members.items i ≡ Some held → Q
      by (standing.Own held) at = own held at (own_choice i held at)
      by (standing.Pipe held) at = pipe held at (pipe_choice i held at)

  module _ (i : ℕ) (held : StandingProtocol J) (c : IsOwnChoice i held (choice i)) where
    pub made_is : made_of i ≡ c.facts.done.made
    made_is = ap (λ (z : Choice). z.made) c.same

    all_is : begun i ++ rest i ≡ c.facts.done.list
    all_is = ap (λ (z : Choice). z.begun ++ z.rest) c.same ∙ c.facts.turned.all

    pub turns_are : turns_of i ≡ turns_told (lines_of g) c.facts.done.list
    turns_are = ap (turns_told (lines_of g)) all_is

  module _ (i : ℕ) (held : StandingPipe J) (c : IsPipeChoice i held (choice i)) where
    pipe_all_is : begun i ++ rest i ≡ c.facts.done.list
    pipe_all_is = ap (λ (z : Choice). z.begun ++ z.rest) c.same ∙ c.facts.turned.all

    pub pipe_turns_are : turns_of i ≡ turns_told (lines_of g) c.facts.done.list
    pipe_turns_are = ap (turns_told (lines_of g)) pipe_all_is

  -- the turns of a protocol that is there
  abbrev pub HasTurnsOf : ℕ → Choice → Type 0
  HasTurnsOf i c = HasTurns g i c.begun c.rest

  pub turns_there : (i : ℕ) (held : StandingMember J) → slice_get g.old.members.items i ≡ Some held → HasTurnsOf i (choice i)
  turns_there i (standing.Own held) at = let c = own_choice i held at in subst (HasTurnsOf i) (sym c.same) (own_turns g i held c.facts)
  turns_there i (standing.Pipe held) at = let c = pipe_choice i held at in subst (HasTurnsOf i) (sym c.same) (pipe_turns g i held c.facts)

  -- ---- by channel

  abbrev pub items_of : ℕ → List LogItem
  items_of = chosen (channels (setup_of g)) (AreItems g) [] (items_here g)

  pub items_at : (c : ℕ) (channel : Channel) → channel_at (setup_of g) c ≡ Some channel → AreItems g c channel (items_of c)
  items_at = chosen_at (channels (setup_of g)) (AreItems g) [] (items_here g)

  pub items_none : (c : ℕ) → channel_at (setup_of g) c ≡ None → items_of c ≡ []
  items_none = chosen_none (channels (setup_of g)) (AreItems g) [] (items_here g)

  -- ---- all of it

  abbrev pub told_lists : List (List Told)
  told_lists = map (λ list. list.items) g.made.told.items

  abbrev pub news_of : ℕ → List Change
  news_of t = reverse (map change_of (said_of g t))

  abbrev pub all_of : Joined
  all_of = record { history = λ t. news_of t ++ g.past.history t; ops = λ i. turns_of i ++ g.past.ops i; logs = λ c. items_of c ++ logs_of g c }

  -- what is more than stood
  abbrev pub printed_more : Printed
  printed_more = record { entries = news_of; ops = turns_of; items = items_of; replies = all_replies 0 told_lists; shown = shown_of (rules_in g) all_of }

  -- and more than was printed
  abbrev pub printed : Printed
  printed = record { entries = news_of; ops = turns_of; items = λ c. unprinted (g.was.printed c) (items_of c); replies = all_replies 0 told_lists; shown = shown_of (rules_in g) all_of }

  pub log_is : (c : ℕ) → printed.items c ++ g.past.logs c ≡ items_of c ++ logs_of g c
  log_is c = unprinted_log (g.past.logs c) (logs_of g c) (g.was.printed c) (items_of c)

  pub joined : join g.past printed ≡ all_of
  joined = ap (λ (f : ℕ → List LogItem). record { history = λ t. news_of t ++ g.past.history t; ops = λ i. turns_of i ++ g.past.ops i; logs = f }) (fun_ext log_is)

  -- nothing is printed of a channel that isn't there
  pub no_items : (c : ℕ) → channel_at (setup_of g) c ≡ None → printed.items c ≡ []
  no_items c none = by (g.was.printed c)
    where
      by : (was : (g.past.logs c ≡ logs_of g c) ⊎ (g.past.logs c ≡ [])) → unprinted was (items_of c) ≡ []
      by (inl all) = items_none c none
      by (inr nothing) = λ j. items_none c none j ++ g.was.no_logs c none j

  pub are_shown : AreShown (rules_in g) all_of printed.shown
  are_shown = record {
    rows = λ t net num. refl;
    modes = λ i. refl;
    accepted = λ i. refl;
    up = λ c. refl;
    standing = λ c k. refl;
  }
