-- A phase that was played and reported is one more of the run, and its runner can go on.
use Rattle.std.proofs.Common.{◌≡◌, ℕ, suc, ◌+◌, ◌<◌, List, [], ◌∷◌, ◌++◌, length, map, reverse, refl, sym, ap, subst, ◌∙◌}
use Rattle.std.specs.declared.alloc.Global.{Global}
use Rattle.std.specs.declared.vec.Vec.{Vec}
use Rattle.std.proofs.lemmas.List.Elements.{All-nil, All-same}
use Rattle.attrs.specs.declared.journal.JEntry.{JEntry}
use Rattle.attrs.specs.declared.judge.Verdict.{Verdict}
use Rattle.attrs.specs.declared.route.Route.{Route}
use Rattle.bits_ip.specs.Prefix.{Net}
use Rattle.core_machine.specs.Legal.{IsLegal, Joined, Printed, join, nothing, started}
use Rattle.core_machine.specs.Lines as machine
use Rattle.core_machine.specs.Lines.{Act}
use Rattle.core_setup.specs.Channels.{channels}
use Rattle.core_setup.specs.Protocols.{rules_of}
use Rattle.core_setup.specs.Reports.{IsReport}
use Rattle.core_setup.specs.Setup.{Setup}
use Rattle.report.specs.declared.phase.PhaseReport.{PhaseReport}
use Rattle.script_lines.specs.declared.script.Line.{Line}
use Rattle.sys_run.specs.Playing.{joined_all}
use Rattle.sys_run.specs.Scripts.{line_of, phase_of}
use Rattle.sys_run.specs.declared.parts.TableParts.{TableParts}
use Rattle.phase_answers.specs.declared.lent.Lent.{Lent}
use Rattle.room_first.specs.Sent.{lent_by, sent_by}
use Rattle.room_open.specs.Opening.{IsOpening}
use Rattle.room_open.specs.Standing.{Stands}
use Rattle.room_open.specs.declared.opening.Opening.{Opening}
use Rattle.room_open.specs.declared.standing.Standing.{Standing}
use Rattle.room_report.specs.Behind.{IsPlayedOver, numbers_in}
use Rattle.room_report.specs.Described.{AreLogged, IsDescribed}
use Rattle.room_report.specs.declared.numbers.ChannelNumbers.{ChannelNumbers}
use Rattle.room_ends.specs.Played.{AreOfFew, AreStartActs, IsPlayed, starts_of}
use Rattle.room_ends.specs.declared.played.PlayedRoom.{PlayedRoom}
use Rattle.room_ends.specs.After.{IsMadeOver, StandsAfter}
use Rattle.room_whole.specs.Past.{HasPast}
use Rattle.room_ends.specs.Prints.{Prints}
use Rattle.room_whole.specs.Starts.{AreOfProtocols}
use Rattle.sys_threads.specs.Playing.{rules_in, sent_in, setup_lent, terms_of, turns_before}
use Rattle.sys_threads.specs.Running.{CanPlay, HasRun, IsNext}
use Rattle.sys_threads.specs.declared.parts.LentParts.{LentParts}
use Rattle.sys_threads.specs.declared.playing.Earlier.{Earlier}
use Rattle.sys_threads.specs.declared.playing.Playing.{Playing}
use Rattle.sys_threads.specs.declared.runner.Runner.{Runner}
use Rattle.sys_threads.proofs.Described.{described, played_over}
use Rattle.sys_threads.proofs.Lines.{few_lines, few_starts, start_acts}
use Rattle.sys_threads.proofs.More.{joined_more, legal_more, length_more, no_starts, reports_more, turns_more}

module _ {J : Type 0} (verdict : J → Net → Route → Verdict) where
  -- a phase that is played over what stands between two phases
  pub record IsPlaying
      (old : Runner J) (lines : List Line) (played : Playing J) (opening : Opening (Lent J) (Playing J)) (made : PlayedRoom (Lent J))
      : Type 0 where
    pub next : IsNext verdict old played
    pub lines_are : played.lines.value.items ≡ lines
    pub opens : IsOpening (terms_of verdict) (sent_in verdict) (rules_in verdict) played old.standing.tables.items old.standing.members.items opening
    pub is : IsPlayed (lent_by verdict) (terms_of verdict) (sent_in verdict) (rules_in verdict) opening.room (starts_of old.statics.items) made

  -- the runner behind such a phase
  pub record IsBehind (old : Runner J) (phase : Earlier J) (after : Standing (Lent J)) (lengths : List ℕ) (new : Runner J)
      : Type 0 where
    pub parts : new.parts ≡ old.parts
    pub actors : new.actors ≡ old.actors
    pub channels : new.channels ≡ old.channels
    pub names : new.names.items ≡ old.names.items
    pub logged : new.logged.items ≡ lengths
    pub earlier : new.earlier.items ≡ old.earlier.items ++ phase ∷ []
    pub standing : new.standing ≡ after
    pub statics : new.statics.items ≡ []

  -- what the laws of phases say of such phases
  pub record AreLaws : Type 0 where
    pub legal :
        (played next : Playing J) (past : Joined) (standing after : Standing (Lent J)) (opening : Opening (Lent J) (Playing J)) (starts : List Act) (made : PlayedRoom (Lent J))
        → Stands (lent_by verdict) (terms_of verdict played) (sent_in verdict played) standing → HasPast (terms_of verdict played).setup past standing → (terms_of verdict played).past ≡ past.ops
        → AreOfFew (terms_of verdict played).starter (length (terms_of verdict played).setup.protocols) (terms_of verdict played).lines → AreStartActs starts → AreOfProtocols (length (terms_of verdict played).setup.protocols) starts
        → IsOpening (terms_of verdict) (sent_in verdict) (rules_in verdict) played standing.tables.items standing.members.items opening → IsPlayed (lent_by verdict) (terms_of verdict) (sent_in verdict) (rules_in verdict) opening.room starts made
        → StandsAfter standing made after → (terms_of verdict next).setup ≡ (terms_of verdict played).setup → sent_in verdict next ≡ sent_in verdict played
        → (p : Printed) × IsLegal (rules_of (terms_of verdict played).setup) (started starts) past (reverse (terms_of verdict played).lines) p × Prints (terms_of verdict played).setup (terms_of verdict played).lines past p made
        × HasPast (terms_of verdict played).setup (join past p) after
        × ((terms_of verdict next).past ≡ (join past p).ops → Stands (lent_by verdict) (terms_of verdict next) (sent_in verdict next) after)
    pub over :
        (played : Playing J) (standing : Standing (Lent J)) (opening : Opening (Lent J) (Playing J)) (starts : List Act) (made : PlayedRoom (Lent J))
        → IsOpening (terms_of verdict) (sent_in verdict) (rules_in verdict) played standing.tables.items standing.members.items opening → IsPlayed (lent_by verdict) (terms_of verdict) (sent_in verdict) (rules_in verdict) opening.room starts made
        → IsMadeOver standing (terms_of verdict played).starter made

  module _ (laws : AreLaws) (old new : Runner J) (lines : List Line) (played : Playing J) (opening : Opening (Lent J) (Playing J)) (made : PlayedRoom (Lent J)) (after : Standing (Lent J)) (phase : Earlier J) (playing : IsPlaying old lines played opening made)
      (phase_lines : phase.lines.value.items ≡ lines) (phase_made : phase.made.value ≡ made) (lengths : List ℕ) (is_behind : IsBehind old phase after lengths new) (actors : List (List ℕ))
      (can : CanPlay (setup_lent verdict played.parts) (length actors) lines) (numbers : List ChannelNumbers) (numbers_are : numbers ≡ map numbers_in old.standing.members.items)
      (before : List (Vec JEntry Global)) (before_are : before ≡ opening.before.items)
      (stands_after : (standing : Standing (Lent J)) → IsPlayedOver standing old.parts.tables.now numbers before made → StandsAfter standing made after)
      (lengths_are : (s : Setup) (tables : List TableParts) (names speakers : List (List ℕ)) (logged : List ℕ) (past : Joined) (ls : List machine.Line) (p : Printed) → IsDescribed s tables names speakers logged past made → Prints s ls past p made → AreLogged s (join past p) lengths) where
    abbrev setup : Setup
    setup = setup_lent verdict played.parts

    abbrev starts : List Act
    starts = starts_of old.statics.items

    module _ (scripts : List (List machine.Line)) (reports : List PhaseReport) (run : HasRun verdict setup actors scripts reports old) where
      abbrev past : Joined
      past = joined_all nothing run.printed

      stands : Stands (lent_by verdict) (terms_of verdict played) (sent_in verdict played) old.standing
      stands = run.rests.stands played playing.next

      tables_are : old.parts.tables.now ≡ played.parts.tables.now
      tables_are = ap (λ (parts : LentParts J). parts.tables.now) (sym playing.next.parts)

      over : IsMadeOver old.standing (length actors) made
      over = subst (λ n. IsMadeOver old.standing n made) (playing.next.actors ∙ run.rests.actors_are) (laws.over played old.standing opening starts made playing.opens playing.is)

      behind : StandsAfter old.standing made after
      behind = stands_after old.standing
          (played_over (lent_by verdict) (terms_of verdict played) (sent_in verdict played) old.standing stands old.parts.tables.now numbers before (length actors) made
          (ap (λ (parts : LentParts J). (setup_lent verdict parts).tables) (sym playing.next.parts)) numbers_are
          (ap (map (λ (list : Vec JEntry Global). list.items)) before_are ∙ playing.opens.before) over)

      few : AreOfFew played.actors (length setup.protocols) (map (line_of setup.queries) played.lines.value.items)
      few = subst (λ n. AreOfFew n (length setup.protocols) (map (line_of setup.queries) played.lines.value.items)) (sym (playing.next.actors ∙ run.rests.actors_are))
          (subst (λ ls. AreOfFew (length actors) (length setup.protocols) (map (line_of setup.queries) ls)) (sym playing.lines_are) (few_lines (length actors) setup lines can))

      same_past : (terms_of verdict played).past ≡ past.ops
      same_past = ap (turns_before setup.queries) playing.next.earlier ∙ run.rests.turns

      printed_for : (next : Playing J) → next.parts ≡ played.parts → (p : Printed) × IsLegal (rules_of setup) (started starts) past (reverse (map (line_of setup.queries) played.lines.value.items)) p × Prints setup (map (line_of setup.queries) played.lines.value.items) past p made
          × HasPast setup (join past p) after
          × ((terms_of verdict next).past ≡ (join past p).ops → Stands (lent_by verdict) (terms_of verdict next) (sent_in verdict next) after)
      printed_for next same =
          laws.legal played next past old.standing after opening starts made stands run.rests.past same_past few (start_acts old.statics.items) (few_starts (length setup.protocols) old.statics.items run.rests.statics) playing.opens playing.is behind
          (ap (setup_lent verdict) same) (ap (λ (parts : LentParts J). sent_by (setup_lent verdict parts)) same)

      turns_are : (p : Printed) → Prints setup (map (line_of setup.queries) played.lines.value.items) past p made → HasPast setup (join past p) after → turns_before setup.queries new.earlier.items ≡ (join past p).ops
      turns_are p prints has =
          ap (turns_before setup.queries) is_behind.earlier
          ∙ turns_more setup past p old.earlier.items phase after
          (subst (λ ls. Prints setup (map (line_of setup.queries) ls) past p phase.made.value) (playing.lines_are ∙ sym phase_lines) (subst (λ m. Prints setup (map (line_of setup.queries) played.lines.value.items) past p m) (sym phase_made) prints))
          has run.rests.turns

      stands_next : (next : Playing J) → IsNext verdict new next → Stands (lent_by verdict) (terms_of verdict next) (sent_by setup) new.standing
      stands_next next is =
          let same : next.parts ≡ played.parts = is.parts ∙ is_behind.parts ∙ sym playing.next.parts in
          let got = printed_for next same in
          let turned : (terms_of verdict next).past ≡ (join past got.0).ops =
          ap (λ (parts : LentParts J). turns_before parts.queries.now.items next.earlier.value.items) same ∙ ap (turns_before setup.queries) is.earlier ∙ turns_are got.0 got.2 got.3 in
          subst (λ (standing : Standing (Lent J)). Stands (lent_by verdict) (terms_of verdict next) (sent_by setup) standing) (sym is_behind.standing)
          (subst (λ (parts : LentParts J). Stands (lent_by verdict) (terms_of verdict next) (sent_by (setup_lent verdict parts)) after) same (got.4 turned))

      -- a phase that comes next, whatever its lines
      abbrev following : Playing J
      following = record { parts = new.parts; actors = new.actors; lines = played.lines; earlier = record played.earlier { value = new.earlier } }

      stands_after_it : Stands (lent_by verdict) (terms_of verdict following) (sent_by setup) after
      stands_after_it = subst (λ (standing : Standing (Lent J)). Stands (lent_by verdict) (terms_of verdict following) (sent_by setup) standing) is_behind.standing
          (stands_next following (record { parts = refl; actors = refl; earlier = refl }))

      told : IsDescribed setup old.parts.tables.now old.names.items actors old.logged.items past made
      told = described (lent_by verdict) (terms_of verdict played) (terms_of verdict following) (sent_in verdict played) (sent_by setup) old.standing after stands stands_after_it old.parts.tables.now old.names.items actors old.logged.items past made
          (ap (λ (parts : LentParts J). (setup_lent verdict parts).tables) (sym playing.next.parts)) run.rests.names_are run.rests.logged_are over behind

      run_here : (report : PhaseReport) → ((s : Setup) (past : Joined) (p : Printed) → IsDescribed s old.parts.tables.now old.names.items actors old.logged.items past made → Prints s (map (line_of s.queries) lines) past p made → IsReport s actors (length old.earlier.items + 1) past p report)
          → HasRun verdict setup actors (scripts ++ phase_of setup.queries lines ∷ []) (reports ++ report ∷ []) new
      run_here report reported =
          let got = printed_for played refl in
          let p = got.0 in
          let joined : joined_all nothing (run.printed ++ p ∷ []) ≡ join past p = joined_more nothing run.printed p in
          record {
            printed = run.printed ++ p ∷ [];
            legal = legal_more setup scripts run.printed (phase_of setup.queries lines) p starts run.legal run.rests.starts_are
                (subst (λ ls. IsLegal (rules_of setup) (started starts) past (reverse (map (line_of setup.queries) ls)) p) playing.lines_are got.1);
            are = reports_more setup actors (length old.earlier.items + 1) run.printed reports p report run.are (ap (λ n. n + 1) run.rests.phases_are)
                (reported setup past p told (subst (λ ls. Prints setup (map (line_of setup.queries) ls) past p made) playing.lines_are got.2));
            rests = record {
              setup_is = ap (setup_lent verdict) (is_behind.parts ∙ sym playing.next.parts);
              few = run.rests.few;
              actors_are = is_behind.actors ∙ run.rests.actors_are;
              channels_are = is_behind.channels ∙ run.rests.channels_are;
              names_are = is_behind.names ∙ run.rests.names_are;
              logged_are = subst (λ (x : Joined). AreLogged setup x new.logged.items) (sym joined) (subst (λ (list : List ℕ). AreLogged setup (join past p) list) (sym is_behind.logged)
                  (lengths_are setup old.parts.tables.now old.names.items actors old.logged.items past (map (line_of setup.queries) played.lines.value.items) p told got.2));
              phases_are = ap length is_behind.earlier ∙ length_more old.earlier.items phase ∙ ap suc run.rests.phases_are ∙ sym (length_more run.printed p);
              starts_are = ap starts_of is_behind.statics ∙ no_starts setup run.printed p;
              statics = All-same (λ (number : ℕ). number < length setup.protocols) new.statics.items [] is_behind.statics (All-nil (λ (number : ℕ). number < length setup.protocols));
              past = subst (λ (x : Joined). HasPast setup x new.standing) (sym joined) (subst (λ (s : Standing (Lent J)). HasPast setup (join past p) s) (sym is_behind.standing) got.3);
              turns = turns_are p got.2 got.3 ∙ sym (ap (λ (x : Joined). x.ops) joined);
              stands = stands_next;
            };
          }

    pub run_more : (report : PhaseReport) → ((s : Setup) (past : Joined) (p : Printed) → IsDescribed s old.parts.tables.now old.names.items actors old.logged.items past made → Prints s (map (line_of s.queries) lines) past p made → IsReport s actors (length old.earlier.items + 1) past p report)
        → (s : Setup) (scripts : List (List machine.Line)) (reports : List PhaseReport) → HasRun verdict s actors scripts reports old → HasRun verdict s actors (scripts ++ phase_of s.queries lines ∷ []) (reports ++ report ∷ []) new
    run_more report reported s scripts reports run =
        let same : setup ≡ s = ap (setup_lent verdict) playing.next.parts ∙ run.rests.setup_is in
        subst (λ (z : Setup). HasRun verdict z actors (scripts ++ phase_of z.queries lines ∷ []) (reports ++ report ∷ []) new) same
        (run_here scripts reports (subst (λ (z : Setup). HasRun verdict z actors scripts reports old) (sym same) run) report reported)
