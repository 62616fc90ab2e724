-- A new runner has run nothing, and what it stands on is what a first phase begins with.
use Rattle.std.proofs.Common.{◌≡◌, ℕ, ◌<◌, ◌≤◌, List, [], refl, sym, ◌∙◌, ap, subst, arith, length, map, replicate, Vec}
use Rattle.std.specs.Prelude.{slice_get}
use Rattle.std.specs.Global.{Global}
use Rattle.std.specs.List.{All}
use Rattle.std.proofs.lemmas.List.{get_or-replicate, length-map, length-replicate}
use Rattle.std.proofs.lemmas.Simd.{map-map}
use denote.RawPtr.{null_ptr}
use Rattle.attrs.specs.declared.judge.Verdict.{Verdict}
use Rattle.attrs.specs.declared.route.Route.{Route}
use Rattle.bits_ip.specs.Prefix.{Net}
use Rattle.core_machine.specs.Legal.{nothing}
use Rattle.core_machine.specs.Lines.{Line}
use Rattle.core_setup.specs.Channels.{channels}
use Rattle.core_setup.specs.Protocols.{starts}
use Rattle.core_setup.specs.Setup.{IsSetup, Protocol, Setup}
use Rattle.core_setup.proofs.PairLemmas.{get_within}
use Rattle.import_lock.specs.Terms.{PhaseTerms}
use Rattle.phase_answers.specs.declared.lent.Lent.{Lent}
use Rattle.phase_room.specs.First.{first_phase}
use Rattle.room_first.specs.Sent.{lent_by, sent_by}
use Rattle.room_open.specs.Standing.{Stands}
use Rattle.room_open.specs.declared.standing.Standing.{Standing}
use Rattle.room_report.specs.Described.{AreLogged}
use Rattle.room_ends.specs.Played.{starts_of}
use Rattle.room_first.specs.First.{IsFirst}
use Rattle.room_whole.specs.Past.{HasPast}
use Rattle.script_lines.specs.declared.script.Line.{Line as ScriptLine}
use Rattle.sys_run.specs.Parts.{protocol_seen, table_seen}
use Rattle.sys_run.specs.Scripts.{line_of}
use Rattle.sys_run.specs.declared.parts.ProtocolParts.{ProtocolParts}
use Rattle.sys_threads.specs.Playing.{sent_in, setup_lent, terms_of, turns_before}
use Rattle.sys_threads.specs.Running.{HasRun, IsFew, IsNext, Rests}
use Rattle.sys_threads.specs.declared.parts.LentParts.{LentParts}
use Rattle.sys_threads.specs.declared.playing.Earlier.{Earlier}
use Rattle.sys_threads.specs.declared.playing.Playing.{Playing}
use Rattle.sys_threads.specs.declared.runner.Runner.{Runner}
use Rattle.sys_threads.proofs.Turns.{item_read}

-- nothing was reported of any channel
pub none_reported : (setup : Setup) (count : ℕ) (logged : List ℕ) → count ≡ length (channels setup) → logged ≡ replicate count 0 → AreLogged setup nothing logged
none_reported setup count logged count_is are = λ c channel at.
    let inside = get_within (channels setup) c channel at in
    let within : c < count = omega (arith, inside, count_is) in
    let many = length-replicate {A = ℕ} count 0 in
    ap (λ list. slice_get list c) are ∙ item_read (replicate count 0) c 0 (omega (arith, within, many)) (sym (get_or-replicate {A = ℕ} count c 0 0 within))

module _ {J : Type 0} (verdict : J → Net → Route → Verdict) where
  pub few_parts : (parts : LentParts J) (actors : ℕ) → IsFew (setup_lent verdict parts) actors → length parts.protocols.now ≤ 512
  few_parts parts actors few =
      let count = length-map parts.protocols.now (protocol_seen verdict) in
      let most = few.protocols in
      omega (arith, count, most)

  pub few_tables : (parts : LentParts J) (actors : ℕ) → IsFew (setup_lent verdict parts) actors → length parts.tables.now ≤ 1024
  few_tables parts actors few =
      let count = length-map parts.tables.now table_seen in
      let most = few.tables in
      omega (arith, count, most)

  -- ---- a new runner

  abbrev no_lines : Vec ScriptLine Global
  no_lines = record { ptr = null_ptr; len = 0; cap = 0; alloc = record { memory = record { seal = tt } }; items = []; ok = (refl, omega arith); small = omega arith }

  pub record IsNew (actors : ℕ) (runner : Runner J) : Type 0 where
    pub fits : IsSetup (setup_lent verdict runner.parts)
    pub few : IsFew (setup_lent verdict runner.parts) actors
    pub stands :
        (lines : List Line) (count : ℕ)
        → Stands (lent_by verdict) (first_phase (setup_lent verdict runner.parts) lines count) (sent_by (setup_lent verdict runner.parts)) runner.standing
    pub first : IsFirst runner.standing
    pub actors_are : runner.actors ≡ actors
    pub channels_are : runner.channels ≡ length (channels (setup_lent verdict runner.parts))
    pub names_are : runner.names.items ≡ map (λ (p : ProtocolParts J). p.name) runner.parts.protocols.now
    pub logged_are : runner.logged.items ≡ replicate runner.channels 0
    pub earlier : runner.earlier.items ≡ []
    pub starts_are : starts_of runner.statics.items ≡ starts (setup_lent verdict runner.parts)
    pub statics : All (λ (number : ℕ). number < length runner.parts.protocols.now) runner.statics.items

  module _
      (no_past : (played : Playing J) (standing : Standing (Lent J)) → Stands (lent_by verdict) (terms_of verdict played) (sent_in verdict played) standing → IsFirst standing → HasPast (terms_of verdict played).setup nothing standing)
      (runner : Runner J) (actors : ℕ) (is : IsNew actors runner) where
    abbrev seen : Setup
    seen = setup_lent verdict runner.parts

    abbrev lines_in : Playing J → List Line
    lines_in played = map (line_of played.parts.queries.now.items) played.lines.value.items

    first_terms : (played : Playing J) → IsNext verdict runner played → terms_of verdict played ≡ first_phase seen (lines_in played) played.actors
    first_terms played next =
        ap (λ (parts : LentParts J). let t : PhaseTerms = record {
          setup = setup_lent verdict parts;
          lines = lines_in played;
          past = turns_before played.parts.queries.now.items played.earlier.value.items;
          starter = played.actors;
        } in t) next.parts
        ∙ ap (λ (earlier : List (Earlier J)). let t : PhaseTerms = record {
          setup = seen;
          lines = lines_in played;
          past = turns_before played.parts.queries.now.items earlier;
          starter = played.actors;
        } in t) (next.earlier ∙ is.earlier)

    next_stands : (played : Playing J) → IsNext verdict runner played → Stands (lent_by verdict) (terms_of verdict played) (sent_by seen) runner.standing
    next_stands played next = subst (λ (t : PhaseTerms). Stands (lent_by verdict) t (sent_by seen) runner.standing) (sym (first_terms played next)) (is.stands (lines_in played) played.actors)

    -- one that comes next
    abbrev some_playing : Playing J
    some_playing = record { parts = runner.parts; actors = runner.actors; lines = record { marker = record {}; value = no_lines }; earlier = record { marker = record {}; value = runner.earlier } }

    past_is : HasPast seen nothing runner.standing
    past_is = no_past some_playing runner.standing (next_stands some_playing (record { parts = refl; actors = refl; earlier = refl })) is.first

    rests : Rests verdict seen actors [] runner
    rests = record {
      setup_is = refl;
      few = is.few;
      actors_are = is.actors_are;
      channels_are = is.channels_are;
      names_are = is.names_are ∙ sym (map-map (λ (p : Protocol). p.name) (protocol_seen verdict) runner.parts.protocols.now);
      logged_are = none_reported seen runner.channels runner.logged.items is.channels_are is.logged_are;
      phases_are = ap length is.earlier;
      starts_are = is.starts_are;
      statics = subst (λ (n : ℕ). All (λ (number : ℕ). number < n) runner.statics.items) (sym (length-map runner.parts.protocols.now (protocol_seen verdict))) is.statics;
      past = past_is;
      turns = ap (turns_before seen.queries) is.earlier;
      stands = next_stands;
    }

    pub has_run : (names : List (List ℕ)) → length names ≡ actors → HasRun verdict seen names [] [] runner
    has_run names same = record {
      printed = [];
      legal = tt;
      are = tt;
      rests = subst (λ (n : ℕ). Rests verdict seen n [] runner) (sym same) rests;
    }
