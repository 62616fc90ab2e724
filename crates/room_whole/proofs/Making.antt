-- What each protocol's port has made of a phase that was played, or that it made nothing: a pipe
-- imports to no table, and a protocol that isn't there does nothing.
use Rattle.std.proofs.Common.{◌≡◌, ℕ, ◌⊎◌, inl, inr, List, [], ◌∷◌, ◌++◌, length, map, reverse, Option, None, refl, sym, ap, subst, ◌∙◌}
use Rattle.std.specs.Prelude.{slice_get}
use Rattle.attrs.specs.declared.journal.JEntry.{JEntry}
use Rattle.attrs.specs.declared.route.Change.{Change}
use Rattle.import_core.specs.declared.operation.Op.{Op}
use Rattle.core_machine.specs.Histories.{own}
use Rattle.core_machine.specs.Lines.{ops_of}
use Rattle.core_machine.specs.Rules.{Effect}
use Rattle.core_setup.specs.Protocols.{effect_at, effect_in, table_at}
use Rattle.core_setup.specs.Setup.{Body, Protocol}
use Rattle.core_setup.proofs.Numbered.{beyond_none}
use Rattle.table_shared.specs.Phases.{IsRetired as IsPortRetired}
use Rattle.table_shared.specs.Records.{change_of}
use Rattle.phase_legal.specs.Changes.{given}
use Rattle.phase_legal.specs.Turns.{turns_told}
use Rattle.phase_actors.proofs.Places.{get_map}
use Rattle.phase_close.proofs.Making.{makes_all}
use Rattle.phase_ends.specs.Leaves.{IsIdle, MakesAll}
use Rattle.phase_open.specs.declared.standing.StandingProtocol.{StandingProtocol}
use Rattle.room_members.specs.Members.{port_of}
use Rattle.room_members.specs.declared.member.Member.TheVariants as members
use Rattle.room_open.specs.declared.standing.StandingPipe.{StandingPipe}
use Rattle.room_whole.proofs.Chosen.{Choice, IsOwnChoice, by_protocol, choice, made_is, made_of, no_choice, printed_more, turns_are, turns_of}
use Rattle.room_whole.proofs.EndedTurns.{absent, pipe_home}
use Rattle.room_whole.proofs.Given.{Given, entries_of, key_of, lines_of, logs_of, phase_of, rules_in, said_of, seen_of, setup_of}
use Rattle.room_whole.proofs.Protocolled.{IsOfPipe, room_of}
use Rattle.room_whole.proofs.Tabled.{no_table, said_none}

module _ {J P : Type 0} (g : Given J P) where
  abbrev pub Makes : ℕ → List (ℕ × Change) → Type 0
  Makes i made = MakesAll (seen_of g) g.past.history (logs_of g) (entries_of g) (said_of g) (printed_more g) i made

  abbrev pub Idles : ℕ → Type 0
  Idles i = IsIdle (seen_of g) g.past.history (logs_of g) (entries_of g) (said_of g) (printed_more g) i

  makes_here : (i : ℕ) (held : StandingProtocol J) → IsOwnChoice g i held (choice g i) → Makes i (made_of g i)
  makes_here i held c =
      let f = c.facts in
      let key = key_of g f.session in
      let home : (rules_in g).table key.number ≡ f.session.table = ap (rules_in g).table f.is.number_is ∙ f.is.home_is in
      subst (Makes i) (sym (made_is g i held c))
      (subst (λ n. Makes n f.done.made) f.is.number_is
      (makes_all g.verdict (seen_of g) g.past.history (logs_of g) (entries_of g) (said_of g) (printed_more g) key (room_of g key.phase f.is.phase_is) f.hands.items f.ended.importer f.ended.ops.items f.done.port f.done.list f.done.made f.done.imports
      (ap (slice_get (seen_of g).ports) f.is.number_is ∙ get_map (port_of g.terms) g.opening.room.members.items i (members.Own f.session) f.session_at)
      (ap (slice_get g.opening.room.tables.items) home ∙ f.is.table) (ap (turns_of g) f.is.number_is ∙ turns_are g i held c)
      (subst (λ t. IsPortRetired key.port.1 (entries_of g t) f.done.port) (sym home) f.done.retired)))

  -- a table that isn't there has nothing of it
  nothing_said : (i : ℕ) → (rules_in g).table i ≡ length (setup_of g).tables → own i (reverse (map change_of (said_of g ((rules_in g).table i)))) ≡ []
  nothing_said i home = ap (λ t. own i (reverse (map change_of (said_of g t)))) home ∙ ap (λ (l : List JEntry). own i (reverse (map change_of l))) (said_none g (length (setup_of g).tables) (no_table g))

  -- a pipe's operations only tell its directions
  gives_nothing : (i : ℕ) (held : StandingPipe J) → IsOfPipe g i held → (past ops : List Op) → given (rules_in g) i past ops ≡ []
  gives_nothing i held f past [] = refl
  gives_nothing i held f past (op ∷ earlier) =
      let s = f.standing.stands in
      ap (λ (e : Effect). e.changes ++ given (rules_in g) i past earlier)
      (ap (λ (o : Option Protocol). effect_at o (earlier ++ past) op) s.protocol_is ∙ ap (λ (b : Body). effect_in b (earlier ++ past) op) s.body)
      ∙ gives_nothing i held f past earlier

  pipe_idles : (i : ℕ) (held : StandingPipe J) → IsOfPipe g i held → Idles i
  pipe_idles i held f = record {
    none = nothing_said i (pipe_home g i held f);
    gave = gives_nothing i held f (ops_of ((phase_of g).past i)) (ops_of (turns_of g i));
  }

  idles_there : (i : ℕ) → slice_get g.old.members.items i ≡ None → choice g i ≡ no_choice → Idles i
  idles_there i at none = record {
    none = nothing_said i (ap (table_at (length (setup_of g).tables)) (beyond_none (setup_of g).protocols i (absent g i at)));
    gave = ap (λ (c : Choice). given (rules_in g) i (ops_of ((phase_of g).past i)) (ops_of (turns_told (lines_of g) (c.begun ++ c.rest)))) none;
  }

  pub makes : (i : ℕ) → Makes i (made_of g i) ⊎ Idles i
  makes i = by_protocol g i (Makes i (made_of g i) ⊎ Idles i) (λ held at c. inl (makes_here i held c)) (λ held at c. inr (pipe_idles i held c.facts)) (λ at none. inr (idles_there i at none))
