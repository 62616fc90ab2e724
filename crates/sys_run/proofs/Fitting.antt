-- What is announced fits what is played: it does so of each setup that a core is a state of.
use Rattle.std.proofs.Common.{◌≡◌, ℕ, ◌+◌, ◌<◌, List, [], ◌∷◌, ◌++◌, map, Option, Some, None, refl, sym, ap, subst, ◌∙◌}
use Rattle.std.specs.Prelude.{IfSome, slice_get}
use Rattle.bits_ip.specs.Prefix.{Net}
use Rattle.bits_ip.specs.declared.address.Family.{Family}
use Rattle.attrs.specs.declared.judge.Verdict.{Verdict}
use Rattle.attrs.specs.declared.route.Route.{Route}
use Rattle.import_core.specs.declared.operation.Op.{Op}
use Rattle.import_core.specs.declared.operation.Op.TheVariants.{Start}
use Rattle.core_machine.specs.Legal.{Joined}
use Rattle.core_machine.specs.Lines.{ops_of}
use Rattle.core_machine.specs.Machine.{State}
use Rattle.core_setup.specs.Announced.{FitsProtocol, FitsTable, IsOfFamily}
use Rattle.core_setup.specs.Pairs.{Pairs}
use Rattle.core_setup.specs.Setup.{Body as SeenBody, IsPipe, IsSource, Protocol as SeenProtocol, Setup, family_at}
use Rattle.core_setup.proofs.PairLemmas.{get_here, get_one, get_within, one_here, pairs_length}
use Rattle.sys_run.specs.Cores.{Does, IsCore, PlaysAs}
use Rattle.sys_run.specs.declared.parts.TableParts.{TableParts}
use Rattle.sys_run.specs.declared.player.Core.{Core}
use Rattle.sys_run.specs.declared.protocol.Body.{Body}
use Rattle.sys_run.specs.declared.protocol.Body.TheVariants.{Pipe, Source}
use Rattle.sys_run.specs.declared.protocol.Protocol.{Protocol}

-- the tables of a setup are those of the core
tables_of : (n : ℕ) (seen : List (List ℕ × Family)) (held : List TableParts) → Pairs (λ n seen (held : TableParts). (seen ≡ (held.name, held.family))) n seen held → seen ≡ map (λ (held : TableParts). (held.name, held.family)) held
tables_of n [] [] are = refl
tables_of n [] (h ∷ held) are = absurd are
tables_of n (t ∷ seen) [] are = absurd are
tables_of n (t ∷ seen) (h ∷ held) are = ap (λ x. x ∷ seen) are.0 ∙ ap (λ l. (h.name, h.family) ∷ l) (tables_of (n + 1) seen held are.1)

start_some : (o : Option Family) → IfSome o (λ family. IsOfFamily family Start)
start_some None = tt
start_some (Some family) = tt

start_in : (tables : List (List ℕ × Family)) (p : SeenBody) → FitsTable tables p Start
start_in tables (IsSource p) = start_some (family_at tables p.table)
start_in tables (IsPipe p) = tt

-- a start announces nothing
pub start_fits : (setup : Setup) (i : ℕ) → FitsProtocol setup i Start
start_fits setup i = by (slice_get setup.protocols i) where
  by : (o : Option SeenProtocol) → IfSome o (λ p. FitsTable setup.tables p.body Start)
  by None = tt
  by (Some p) = start_in setup.tables p.body

module _ {J : Type 0} (verdict : J → Net → Route → Verdict) where
  body_same : (tables : List (List ℕ × Family)) (p q : SeenBody) (earlier before : List Op) (body : Body J) (op : Op) → Does verdict p earlier body → Does verdict q before body → FitsTable tables p op → FitsTable tables q op
  body_same tables (IsSource p) (IsSource q) earlier before (Source held) op a b fits = subst (λ n. IfSome (family_at tables n) (λ family. IsOfFamily family op)) (sym a.table ∙ b.table) fits
  body_same tables (IsSource p) (IsPipe q) earlier before (Source held) op a b fits = absurd b
  body_same tables (IsSource p) q earlier before (Pipe up) op a b fits = absurd a
  body_same tables (IsPipe p) q earlier before (Source held) op a b fits = absurd a
  body_same tables (IsPipe p) (IsSource q) earlier before (Pipe up) op a b fits = absurd b
  body_same tables (IsPipe p) (IsPipe q) earlier before (Pipe up) op a b fits = tt

  module _ (setup other : Setup) (past base : Joined) (s t : State) (core : Core J) (are : IsCore verdict setup past s core) (is : IsCore verdict other base t core) (i : ℕ) (op : Op) where
    same_tables : setup.tables ≡ other.tables
    same_tables = tables_of 0 setup.tables core.tables.items are.tables ∙ sym (tables_of 0 other.tables core.tables.items is.tables)

    one_same : (p q : SeenProtocol) (held : Protocol J) → PlaysAs verdict setup i p (past.ops i) (s.ops i) held → PlaysAs verdict other i q (base.ops i) (t.ops i) held → FitsTable setup.tables p.body op → FitsTable other.tables q.body op
    one_same p q held a b fits =
        subst (λ tables. FitsTable tables q.body op) same_tables (body_same setup.tables p.body q.body (ops_of (s.ops i)) (ops_of (t.ops i)) held.body op a.body b.body fits)

    pub fits_same : FitsProtocol setup i op → FitsProtocol other i op
    fits_same fits = by (slice_get other.protocols i) refl where
      by : (o : Option SeenProtocol) → slice_get other.protocols i ≡ o → IfSome o (λ p. FitsTable other.tables p.body op)
      by None e = tt
      by (Some q) e =
          let B : ℕ → SeenProtocol → Protocol J → Type 0 = λ j p held. PlaysAs verdict other j p (base.ops j) (t.ops j) held in
          let A : ℕ → SeenProtocol → Protocol J → Type 0 = λ j p held. PlaysAs verdict setup j p (past.ops j) (s.ops j) held in
          let w = get_within other.protocols i q e in
          let many = pairs_length B 0 other.protocols core.protocols.items is.protocols in
          let held = get_here core.protocols.items i (subst (λ n. i < n) many w) in
          let b = one_here B other.protocols core.protocols.items is.protocols i held.0 held.1 in
          let a = one_here A setup.protocols core.protocols.items are.protocols i held.0 held.1 in
          one_same a.0 q held.0 a.2 (subst (λ p. B i p held.0) (get_one other.protocols i b.0 q b.1 e) b.2) (subst (λ o. IfSome o (λ (p : SeenProtocol). FitsTable setup.tables p.body op)) a.1 fits)
