-- That a room in which a phase is played can be opened, and that its script is one that can be done.
use Rattle.std.proofs.Common.{◌≡◌, ℕ, ◌<◌, ◌≤◌, ◌^◌, List, length, map, Some, sym, ap, subst, ◌∙◌, arith}
use Rattle.std.specs.Prelude.{slice_get}
use Rattle.atomic_table.specs.Seated.{TableId}
use Rattle.attrs.specs.declared.judge.Verdict.{Verdict}
use Rattle.attrs.specs.declared.route.Route.{Route}
use Rattle.bits_ip.specs.Prefix.{Net}
use Rattle.bits_ip.specs.declared.address.Family.{Family}
use Rattle.core_machine.specs.Rules.{Rules}
use Rattle.core_setup.specs.Setup.{Exports, IsSetup, Setup}
use Rattle.core_setup.proofs.PairLemmas.{get_here, get_within}
use Rattle.jour_rule.specs.declared.views.Terms.{Terms}
use Rattle.show_route.specs.declared.query.Query.{Query}
use Rattle.script_lines.specs.declared.script.Line.{Line}
use Rattle.sys_run.specs.Scripts.{FitsLine, line_of}
use Rattle.import_lock.specs.Terms.{PhaseTerms}
use Rattle.table_shared.specs.Opening.{TableOpening}
use Rattle.phase_legal.specs.Shown.{AreBeside}
use Rattle.phase_actors.specs.Script.{IsTableOf, NamesWhatIs}
use Rattle.room_actors.specs.Script.{CanDo, HasAll, IsScript}
use Rattle.room_members.specs.Members.{IsRoom}
use Rattle.room_members.specs.declared.room.Room.{Room}
use Rattle.room_open.specs.Opening.{IsOpening}
use Rattle.room_open.specs.Standing.{Stands}
use Rattle.room_open.specs.declared.opening.Opening.{Opening}
use Rattle.room_open.specs.declared.standing.Standing.{Standing}
use Rattle.sys_threads.specs.Running.{CanPlay, IsFew}
use Rattle.sys_threads.proofs.Lines.{named_at}

-- what stands has seats in a room
pub few_stand : {J : Type 0} (verdict : J → Net → Route → Verdict) (phase : PhaseTerms) (exports : ℕ → Exports) (standing : Standing J) (actors : ℕ) → Stands verdict phase exports standing → IsFew phase.setup actors
    → (length standing.members.items ≤ 1024) × (length standing.tables.items < 2 ^ 32)
few_stand verdict phase exports standing actors stands few =
    let protocols = stands.count in
    let most = few.protocols in
    let tables = stands.tables.count in
    let all = few.tables in
    ((omega (arith, protocols, most)), (omega (arith, tables, all)))

module _ {J P : Type 0} (verdict : J → Net → Route → Verdict) (terms : P → PhaseTerms) (exports : P → ℕ → Exports) (rules : P → Rules) (played : P) (standing : Standing J) (opening : Opening J P)
    (stands : Stands verdict (terms played) (exports played) standing) (opens : IsOpening terms exports rules played standing.tables.items standing.members.items opening) where
  abbrev beside : Setup → Type 0
  beside setup = AreBeside IsTableOf setup.tables opening.room.tables.items

  tables_beside : beside (terms played).setup
  tables_beside = record { count = opens.tables_count ∙ stands.tables.count; each = at }
    where
      at : (i : ℕ) (table : List ℕ × Family) (here : TableId × Terms TableOpening) → slice_get (terms played).setup.tables i ≡ Some table → slice_get opening.room.tables.items i ≡ Some here → IsTableOf table here
      at i table here table_at here_at =
          let inside = get_within (terms played).setup.tables i table table_at in
          let count = stands.tables.count in
          let stood = get_here standing.tables.items i (omega (arith, inside, count)) in
          ap (λ (t : Terms TableOpening). t.opening.family) (opens.tables_are i stood.0 here stood.1 here_at).terms_are ∙ (stands.tables.each i table stood.0 table_at stood.1).family

  has_all : HasAll terms opening.room
  has_all = record {
    tables = subst (λ (q : P). beside (terms q).setup) (sym opens.played_is) tables_beside;
    members = opens.members_count ∙ stands.count ∙ ap (λ (q : P). length (terms q).setup.protocols) (sym opens.played_is);
  }

  pub is_script : (queries : List Query) (lines : List Line) (actors : ℕ)
      → ((room : Room J P) (line : Line) → IsRoom terms exports rules room → HasAll terms room → IsSetup (terms room.played.value).setup → NamesWhatIs (terms room.played.value).setup line → FitsLine (terms room.played.value).setup line → CanDo terms room line)
      → (terms played).setup.queries ≡ queries → (terms played).lines ≡ map (line_of queries) lines → CanPlay (terms played).setup actors lines → IsScript terms opening.room queries lines
  is_script queries lines actors law queries_are lines_are can = record {
    queries_are = ap (λ (q : P). (terms q).setup.queries) opens.played_is ∙ queries_are;
    lines_are = ap (λ (q : P). (terms q).lines) opens.played_is ∙ lines_are;
    can = λ n line at.
        let named = named_at actors (terms played).setup lines n line can at in
        law opening.room line opens.room has_all (subst (λ (q : P). IsSetup (terms q).setup) (sym opens.played_is) stands.setup) (subst (λ (q : P). NamesWhatIs (terms q).setup line) (sym opens.played_is) named.0)
        (subst (λ (q : P). FitsLine (terms q).setup line) (sym opens.played_is) named.1);
    few = can.few;
  }
