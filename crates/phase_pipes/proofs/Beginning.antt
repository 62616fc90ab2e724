-- What stands of a pipe, with the seats that it is given, is all that its locks begin with, and they
-- are those of its session.
use Rattle.std.proofs.Common.{◌≡◌, ℕ, ◌+◌, arith, Bool, true, false, List, [], ◌∷◌, length, reverse, Some, is_some, refl, sym, ap, subst, ◌∙◌}
use Rattle.std.specs.Prelude.{Contains, slice_get}
use Rattle.atomic_table.specs.Seated.{TableId}
use Rattle.attrs.specs.Table.{route_in}
use Rattle.attrs.specs.declared.journal.JEntry.{JEntry}
use Rattle.attrs.specs.declared.judge.Verdict.{Verdict}
use Rattle.attrs.specs.declared.route.Route.{Route}
use Rattle.bits_ip.specs.Prefix.{Net}
use Rattle.core_machine.specs.Pipes.{passes}
use Rattle.core_machine.specs.Rules.{IsRules, Rules}
use Rattle.core_machine.specs.Signals.{without_sends}
use Rattle.core_setup.specs.Channels.{reads_at, target_at}
use Rattle.core_setup.specs.Protocols.{rules_of}
use Rattle.core_setup.specs.Setup.{Exports, IsSetup, Setup}
use Rattle.export_core.specs.declared.log.LogItem.{LogItem}
use Rattle.export_lock.specs.Begun.{BeginsLane}
use Rattle.export_lock.specs.Lanes.{AreLaneTerms, LaneTerms}
use Rattle.import_lock.specs.Begun.{IsUnused}
use Rattle.import_lock.specs.Terms.{PhaseTerms}
use Rattle.jour_rule.specs.declared.views.Terms.{Terms}
use Rattle.jour_rule.specs.declared.views.View.{View as Seat}
use Rattle.jour.specs.Seats.{AreMakers, front, journal, number_of}
use Rattle.phase_legal.specs.Changes.{IsAlone}
use Rattle.phase_legal.specs.Stamps.{opens}
use Rattle.phase_room.specs.Journals.{marks_terms, turns_terms}
use Rattle.pipe_lock.specs.Begun.{Begins}
use Rattle.pipe_lock.specs.Terms.{AreTerms, DirectionTerms, PipeTerms}
use Rattle.table_shared.specs.Opening.{TableOpening, sources_of}
use Rattle.table_shared.specs.Records.{at_first}
use Rattle.phase_pipes.specs.Locks.{direction_seats, lane_seats, pipe_seats}
use Rattle.phase_pipes.specs.Parts.{ArePipeParts, IsDirectionPart, TableFound}
use Rattle.phase_pipes.specs.Ports.{EntersAlone}
use Rattle.phase_pipes.specs.Sessions.{IsDirectionIn, IsPipeSession}
use Rattle.phase_pipes.specs.Stands.{IsDirectionOf}
use Rattle.phase_pipes.specs.declared.parts.DirectionPart.{DirectionPart}
use Rattle.phase_pipes.specs.declared.parts.PipePart.{PipePart}

pub target_is : (setup : Setup) (number d reads writes : ℕ) → IsDirectionOf setup number d reads writes → (rules_of setup).target d ≡ Some writes
target_is setup number d reads writes of = ap target_at of.channel_is ∙ of.writes_is

reads_are : (setup : Setup) (number d reads writes : ℕ) → IsDirectionOf setup number d reads writes → (rules_of setup).reads d ≡ reads
reads_are setup number d reads writes of = ap (reads_at (length setup.tables)) of.channel_is ∙ of.reads_is

pub seats_are : (number : ℕ) (seen cursor : (TableId × Seat TableOpening) × Bool) (noted stamp marks : TableId × Seat ℕ) → seen ≡ cursor → noted ≡ stamp → journal stamp ≡ journal marks → direction_seats number seen noted ≡ direction_seats number cursor marks
seats_are number seen cursor noted stamp marks a b same =
    ap (λ z. direction_seats number z noted) a
    ∙ ap (λ z. direction_seats number cursor z) b
    ∙ ap (λ m. let made : DirectionTerms = record { number = number; table = journal cursor.0; marks = m } in made) same

-- ---- a direction

module _ {J : Type 0} (verdict : J → Net → Route → Verdict) (phase : PhaseTerms) (exports : ℕ → Exports) (number reads writes : ℕ) (read written : TableFound) (part : DirectionPart J)
    (p : IsDirectionPart verdict phase exports number read written part) (of : IsDirectionOf phase.setup number part.number reads writes) (are : IsRules (rules_of phase.setup)) (marks : TableId × Seat ℕ) where
  every_is : (exports part.number).spec.every ≡ true
  every_is = p.stands.rules.every ∙ ap is_some (target_is phase.setup number part.number reads writes of)

  abbrev lane_at : List LogItem → LaneTerms
  lane_at log = lane_seats (exports part.number) (rules_of phase.setup) part.number part.cursor read.stood.before marks (reverse log) part.port

  start_is : part.cursor.0.1.seen.terms.start ≡ length read.stood.before
  start_is = ap (λ z. z.1.start) p.cursor ∙ read.begins.start

  enters_here : EntersAlone (rules_of phase.setup) part.number part.port.1.seen.terms.opening (number_of part.port.1.role)
  enters_here =
      subst (EntersAlone (rules_of phase.setup) part.number part.port.1.seen.terms.opening) (sym p.port_number)
      (subst (λ (z : TableId × Terms TableOpening). EntersAlone (rules_of phase.setup) part.number z.1.opening number) (sym p.port) p.enters)

  lane_terms_are : AreLaneTerms (lane_at part.exporter.log)
  lane_terms_are = record {
    rules_are = are;
    spec = p.stands.rules;
    every = every_is;
    family = p.stands.same ∙ sym written.begins.family ∙ sym (ap (λ z. z.1.opening.family) p.port);
    mine = enters_here.mine;
    alone = enters_here.alone;
    opening = λ net num goes.
        ap (λ z. at_first z.1.opening net num) p.port
        ∙ ap (λ rows. route_in rows net num) written.begins.rows
        ∙ p.stands.rows net num goes;
  }

  begins_at : marks.1.seen.terms ≡ marks_terms → front marks.1 ≡ [] → BeginsLane verdict (lane_at part.exporter.log) part.exporter part.cursor marks part.port
  begins_at terms unmarked = record {
    terms = lane_terms_are;
    begins = record {
      spec = p.stands.spec;
      filter = p.stands.filter;
      kind = every_is;
      rest = p.stands.rest;
      log = refl;
      stood = p.stands.stands;
      here = refl;
      unread = p.unread;
      start = start_is;
      family = p.stands.family ∙ sym read.begins.family ∙ sym (ap (λ z. z.1.opening.family) p.cursor);
      begun = record {
        told = p.begun.told;
        opening = λ net num.
            ap (λ z. at_first z.1.opening net num) p.cursor
            ∙ ap (λ rows. route_in rows net num) read.begins.rows
            ∙ p.begun.rows net num;
      };
      mode = p.mode;
      position = λ up. (p.stands.position up ∙ sym start_is, p.position up ∙ sym start_is);
      marks = refl;
      makers = ap (λ z. z.opening) terms;
      cursors = ap (λ z. z.cursors) terms;
      unmarked = unmarked;
    };
    port = refl;
    port_number = refl;
    unmade = p.unmade;
  }

  -- for the rules of what is played, and for these entries before the phase
  pub part_begins : (rules : Rules) (before : List JEntry) → rules ≡ rules_of phase.setup → read.stood.before ≡ before → marks.1.seen.terms ≡ marks_terms → front marks.1 ≡ []
      → BeginsLane verdict (lane_seats (exports part.number) rules part.number part.cursor before marks (reverse part.log.value.items) part.port) part.exporter part.cursor marks part.port
  part_begins rules before same stood terms unmarked =
      subst (λ z. BeginsLane verdict (lane_seats (exports part.number) z part.number part.cursor before marks (reverse part.log.value.items) part.port) part.exporter part.cursor marks part.port) (sym same)
      (subst (λ z. BeginsLane verdict (lane_seats (exports part.number) (rules_of phase.setup) part.number part.cursor z marks (reverse part.log.value.items) part.port) part.exporter part.cursor marks part.port) stood
      (subst (λ z. BeginsLane verdict (lane_at z) part.exporter part.cursor marks part.port) (sym p.log) (begins_at terms unmarked)))

-- ---- a pipe

module _ {J : Type 0} (verdict : J → Net → Route → Verdict) (phase : PhaseTerms) (exports : ℕ → Exports) (primary peer : TableFound) (part : PipePart) (out back : DirectionPart J) (p : ArePipeParts verdict phase exports primary peer part out back)
    (hands : ℕ) (turns out_marks back_marks : TableId × Seat ℕ) (terms : turns.1.seen.terms ≡ turns_terms hands) where
  abbrev out_seats : DirectionTerms
  out_seats = direction_seats out.number out.cursor out_marks

  abbrev back_seats : DirectionTerms
  back_seats = direction_seats back.number back.cursor back_marks

  abbrev seats : PipeTerms
  seats = pipe_seats phase part.number turns out_seats back_seats

  abbrev pipe_terms_are : AreTerms seats
  pipe_terms_are = record {
    setup = p.stands.setup;
    protocol = p.stands.protocol;
    protocol_is = p.stands.protocol_is;
    pipe = p.pipe;
    body = p.stands.body;
    belong = p.belong;
    out = record { target = p.pipe.peer; target_is = target_is phase.setup part.number out.number p.pipe.primary p.pipe.peer p.out_of };
    back = record { target = p.pipe.primary; target_is = target_is phase.setup part.number back.number p.pipe.peer p.pipe.primary p.back_of };
    start = ap (λ z. z.start) terms;
    cursors = ap (λ z. z.cursors) terms;
    makers = ap (λ z. z.opening) terms ∙ sym (ap (λ z. z.makers) terms);
  }

  module _ (o b : DirectionTerms) (out_is : o ≡ out_seats) (back_is : b ≡ back_seats) where
    pub pipe_begins : front turns.1 ≡ [] → (out_stamp back_stamp : TableId × Seat ℕ) → journal out_stamp ≡ journal out_marks → IsUnused out_stamp → journal back_stamp ≡ journal back_marks → IsUnused back_stamp
        → Begins (pipe_seats phase part.number turns o b) part.up turns out_stamp back_stamp
    pipe_begins unturned out_stamp back_stamp out_here out_unused back_here back_unused =
        let at : Begins seats part.up turns out_stamp back_stamp = record {
          terms = pipe_terms_are;
          up_is = p.stands.up_is;
          turns = refl;
          unturned = unturned;
          out_is = out_here;
          out_unused = out_unused;
          back_is = back_here;
          back_unused = back_unused;
        } in
        subst (λ z. Begins (pipe_seats phase part.number turns z b) part.up turns out_stamp back_stamp) (sym out_is)
        (subst (λ z. Begins (pipe_seats phase part.number turns out_seats z) part.up turns out_stamp back_stamp) (sym back_is) at)

  -- ---- its session

  module _ (rules : Rules) (same : rules ≡ rules_of phase.setup) (tables : List (TableId × Terms TableOpening)) where
    module _ (number reads writes : ℕ) (read written : TableFound) (mine : DirectionPart J) (marks : TableId × Seat ℕ) (before : List JEntry) (d : IsDirectionPart verdict phase exports part.number read written mine)
        (of : IsDirectionOf phase.setup part.number mine.number reads writes) (marked : marks.1.seen.terms ≡ marks_terms) where
      direction_in : slice_get tables reads ≡ Some (journal mine.cursor.0) → slice_get tables writes ≡ Some (journal mine.port)
          → IsDirectionIn seats tables reads writes (direction_seats mine.number mine.cursor marks) (lane_seats (exports mine.number) rules mine.number mine.cursor before marks (reverse mine.log.value.items) mine.port)
      direction_in here there = record {
        lane_is = record {
          table = refl;
          marks = refl;
          up = ap (λ l. opens false (without_sends (reverse l))) d.log ∙ d.stands.up;
        };
        rules_are = same;
        number_is = refl;
        reads_is = reads_are phase.setup part.number mine.number reads writes of;
        writes_is = target_is phase.setup part.number mine.number reads writes of;
        read = here;
        written = there;
        start = ap (λ z. z.start) marked;
      }

    pub session_is : (out_before back_before : List JEntry) → out_marks.1.seen.terms ≡ marks_terms → back_marks.1.seen.terms ≡ marks_terms → slice_get tables part.primary ≡ Some (journal out.cursor.0) → slice_get tables part.peer ≡ Some (journal back.cursor.0)
        → (o b : DirectionTerms) (pipe : PipeTerms) (there here : LaneTerms) → o ≡ out_seats → b ≡ back_seats → pipe ≡ pipe_seats phase part.number turns o b
        → there ≡ lane_seats (exports out.number) rules out.number out.cursor out_before out_marks (reverse out.log.value.items) out.port
        → here ≡ lane_seats (exports back.number) rules back.number back.cursor back_before back_marks (reverse back.log.value.items) back.port
        → IsPipeSession phase tables part.number part.primary part.peer pipe there here
    session_is out_before back_before out_marked back_marked at_primary at_peer o b pipe there here out_eq back_eq pipe_eq there_eq here_eq =
        let out_of = subst (λ z. IsDirectionOf phase.setup part.number out.number z part.peer) (sym p.primary_is) (subst (λ z. IsDirectionOf phase.setup part.number out.number p.pipe.primary z) (sym p.peer_is) p.out_of) in
        let back_of = subst (λ z. IsDirectionOf phase.setup part.number back.number part.peer z) (sym p.primary_is) (subst (λ z. IsDirectionOf phase.setup part.number back.number z p.pipe.primary) (sym p.peer_is) p.back_of) in
        let out_lane = lane_seats (exports out.number) rules out.number out.cursor out_before out_marks (reverse out.log.value.items) out.port in
        let back_lane = lane_seats (exports back.number) rules back.number back.cursor back_before back_marks (reverse back.log.value.items) back.port in
        let made : IsPipeSession phase tables part.number part.primary part.peer seats out_lane back_lane = record {
          phase_is = refl;
          number_is = refl;
          terms = pipe_terms_are;
          primary_is = sym p.primary_is;
          peer_is = sym p.peer_is;
          out_is = direction_in part.number part.primary part.peer primary peer out out_marks out_before p.out_is out_of out_marked at_primary (at_peer ∙ ap Some (p.back_is.cursor ∙ sym p.out_is.port));
          back_is = direction_in part.number part.peer part.primary peer primary back back_marks back_before p.back_is back_of back_marked at_peer (at_primary ∙ ap Some (p.out_is.cursor ∙ sym p.back_is.port));
        } in
        let is : pipe ≡ seats = pipe_eq ∙ ap (λ z. pipe_seats phase part.number turns z b) out_eq ∙ ap (λ z. pipe_seats phase part.number turns out_seats z) back_eq in
        subst (λ z. IsPipeSession phase tables part.number part.primary part.peer z there here) (sym is)
        (subst (λ z. IsPipeSession phase tables part.number part.primary part.peer seats z here) (sym there_eq)
        (subst (λ z. IsPipeSession phase tables part.number part.primary part.peer seats out_lane z) (sym here_eq) made))

  pub hands_given : (o b : DirectionTerms) (pipe : PipeTerms) (made : List (TableId × Seat ℕ)) → pipe ≡ pipe_seats phase part.number turns o b → AreMakers (journal turns) made → AreMakers pipe.turns made
  hands_given o b pipe made e hands_are = subst (λ z. AreMakers z made) (sym (ap (λ (z : PipeTerms). z.turns) e)) hands_are

  pub new_turns : (o b : DirectionTerms) (pipe : PipeTerms) → pipe ≡ pipe_seats phase part.number turns o b → hands ≡ phase.starter + 1 → pipe.turns.1 ≡ turns_terms (phase.starter + 1)
  new_turns o b pipe e many = ap (λ (z : PipeTerms). z.turns.1) e ∙ terms ∙ ap turns_terms many
