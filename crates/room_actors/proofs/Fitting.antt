-- A line that fits what is played can be done.
use Rattle.std.proofs.Common.{◌≡◌, ℕ, ◌<◌, List, length, Some, sym, ap, subst, ◌∙◌, arith}
use Rattle.std.specs.Prelude.{IfSome, option_map, slice_get}
use Rattle.std.specs.List.{All}
use Rattle.std.proofs.lemmas.Option.{get_or_from_slice_get, slice_get_within}
use Rattle.atomic_table.specs.Seated.{TableId}
use Rattle.bits_ip.specs.declared.address.Family.{Family}
use Rattle.core_machine.specs.Rules.{Rules}
use Rattle.import_core.specs.declared.operation.Op.{Op}
use Rattle.jour_rule.specs.declared.views.Terms.{Terms}
use Rattle.core_setup.specs.Announced.{FitsTable, IsOfFamily}
use Rattle.core_setup.specs.Protocols.{protocol_at, table_at, table_in}
use Rattle.core_setup.specs.Setup.{Body, Exports, FitsQuery, IsPipe, IsSetup, IsSource, Protocol, Setup, family_at}
use Rattle.import_lock.specs.Terms.{PhaseTerms}
use Rattle.script_lines.specs.declared.script.Line.{Line}
use Rattle.script_lines.specs.declared.script.Line.TheVariants as lines
use Rattle.sys_run.specs.Scripts.{FitsLine}
use Rattle.table_shared.specs.Opening.{TableOpening}
use Rattle.phase_legal.specs.Shown.{AreBeside}
use Rattle.phase_room.specs.Sessions.{protocol_terms}
use Rattle.phase_actors.specs.Script.{IsTableOf, NamesProtocol, NamesWhatIs}
use Rattle.phase_actors.proofs.Places.{here, partner_back}
use Rattle.room_members.specs.Members.{IsMember, IsRoom}
use Rattle.room_members.specs.declared.member.Member.{Member}
use Rattle.room_members.specs.declared.member.Member.TheVariants.{Own, Pipe}
use Rattle.room_members.specs.declared.room.Room.{Room}
use Rattle.room_actors.specs.Script.{CanApply, CanDo, CanShow, FitsMember, HasAll}

all_at : {X : Type 0} (P : X → Type 0) (xs : List X) (i : ℕ) (x : X) → All P xs → slice_get xs i ≡ Some x → P x
all_at P xs i x all at = subst P (get_or_from_slice_get xs i x x at) (all i x (slice_get_within xs i x at))

-- what an operation announces is of the family of its protocol's table
of_family : (setup : Setup) (tables : List (TableId × Terms TableOpening)) (body : Body) (op : Op) (home : ℕ) (port : TableId × Terms TableOpening)
    → AreBeside IsTableOf setup.tables tables → FitsTable setup.tables body op → table_in (length setup.tables) body ≡ home → slice_get tables home ≡ Some port → IsOfFamily port.1.opening.family op
of_family setup tables (IsSource s) op home port are fits is at =
    let there : slice_get tables s.table ≡ Some port = ap (slice_get tables) is ∙ at in
    let own = partner_back IsTableOf setup.tables tables s.table port are there in
    let family : family_at setup.tables s.table ≡ Some own.0.1 = ap (option_map (λ (t : List ℕ × Family). t.1)) own.1 in
    let said : IsOfFamily own.0.1 op = subst (λ z. IfSome z (λ (f : Family). IsOfFamily f op)) family fits in
    subst (λ z. IsOfFamily z op) (sym (are.each s.table own.0 port own.1 there)) said
of_family setup tables (IsPipe s) op home port are fits is at =
    absurd (let w = slice_get_within tables home port at in let c = are.count in let e : length setup.tables ≡ home = is in omega (arith, w, c, e))

module _ {J P : Type 0} (terms : P → PhaseTerms) (exports : P → ℕ → Exports) (rules : P → Rules) (room : Room J P) (is : IsRoom terms exports rules room) (all : HasAll terms room) where
  fits_member : (member : Member J P) (protocol : ℕ) (op : Op) (p : Protocol) → IsMember terms exports rules (terms room.played.value) room.tables.items protocol member
      → protocol_at (terms room.played.value).setup protocol ≡ Some p → FitsTable (terms room.played.value).setup.tables p.body op → FitsMember terms member op
  fits_member (Own session) protocol op p own at fit =
      let home : table_in (length (terms room.played.value).setup.tables) p.body ≡ session.table = sym (ap (table_at (length (terms room.played.value).setup.tables)) at) ∙ own.home_is in
      of_family (terms room.played.value).setup room.tables.items p.body op session.table (protocol_terms terms session).port all.tables fit home own.table
  fits_member (Pipe pipe) protocol op p own at fit = tt

  can_apply : (protocol : ℕ) (op : Op) → NamesProtocol (terms room.played.value).setup protocol → IfSome (protocol_at (terms room.played.value).setup protocol) (λ p. FitsTable (terms room.played.value).setup.tables p.body op) → CanApply terms room protocol op
  can_apply protocol op named fits =
      let p = here (terms room.played.value).setup.protocols protocol named in
      let member = here room.members.items protocol (let c = all.members in omega (arith, named, c)) in
      let fit : FitsTable (terms room.played.value).setup.tables p.0.body op = subst (λ z. IfSome z (λ (q : Protocol). FitsTable (terms room.played.value).setup.tables q.body op)) p.1 fits in record {
        member = member.0;
        member_at = member.1;
        fits = fits_member member.0 protocol op p.0 (is.members protocol member.0 member.1) p.1 fit;
      }

  can_show : (number : ℕ) → IsSetup (terms room.played.value).setup → number < length (terms room.played.value).setup.queries → CanShow terms room number
  can_show number setup less =
      let query = here (terms room.played.value).setup.queries number less in
      let fits = all_at (FitsQuery (terms room.played.value).setup.tables (terms room.played.value).setup.protocols (terms room.played.value).setup.choices) (terms room.played.value).setup.queries number query.0 setup.queries query.1 in
      let inside = fits.table in
      let c = all.tables.count in record {
        query = query.0;
        query_at = query.1;
        table = omega (arith, inside, c);
        fits = fits;
      }

  pub can_do : (line : Line) → IsSetup (terms room.played.value).setup → NamesWhatIs (terms room.played.value).setup line → FitsLine (terms room.played.value).setup line → CanDo terms room line
  can_do (lines.Take channel count) setup named fits = tt
  can_do (lines.Push channel count) setup named fits = tt
  can_do (lines.Apply actor line protocol op) setup named fits = can_apply protocol op named fits
  can_do (lines.Show actor query) setup named fits = can_show query setup named
