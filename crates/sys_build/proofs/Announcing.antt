-- What a script announces to a protocol is of the family of the protocol's table.
use Rattle.std.proofs.Common.{◌≡◌, sym, subst, refl, ℕ, List, Option, Some, None}
use Rattle.std.specs.Prelude.{IfSome, slice_get}
use Rattle.std.specs.List.{All}
use Rattle.std.proofs.lemmas.List.Elements.{All-weaker}
use Rattle.std.proofs.lemmas.Option.{same_Some}
use Rattle.bits_ip.specs.Address.{family_of}
use Rattle.bits_ip.specs.Prefix.{Net}
use Rattle.bits_ip.specs.declared.address.Family.{Family}
use Rattle.import_core.specs.declared.operation.Given.{Given}
use Rattle.import_core.specs.declared.operation.Op.{Op}
use Rattle.import_core.specs.declared.operation.Op.TheVariants.{Start, SessionUp, Add, Del, SessionDown, Disable, Enable, ReloadIn, ReloadOut, Reload}
use Rattle.core_setup.specs.Announced.{FitsProtocol, FitsTable, IsOfFamily}
use Rattle.core_setup.specs.Pairs.{Pairs}
use Rattle.core_setup.specs.Setup as setup
use Rattle.core_setup.specs.Setup.{Setup, family_at}
use Rattle.core_setup.proofs.PairLemmas.{get_one, one_here}
use Rattle.script_lines.specs.Script.{NamesWhatIs, Suits}
use Rattle.script_lines.specs.declared.named.Named.{Named}
use Rattle.script_lines.specs.declared.named.NamedProtocol.{NamedProtocol}
use Rattle.script_lines.specs.declared.named.ProtocolKind.{ProtocolKind}
use Rattle.script_lines.specs.declared.script.Line.{Line}
use Rattle.script_lines.specs.declared.script.Line.TheVariants as lines
use Rattle.sys_build.specs.Names.{IsKindOf}
use Rattle.sys_run.specs.Scripts.{FitsLine}

op_fits : (o : Option Family) (op : Op) → ((net : Net) (given : Given) → op ≡ Add net given → o ≡ Some (family_of net.addr)) → IfSome o (λ family. IsOfFamily family op)
op_fits None op told = tt
op_fits (Some family) (Add net given) told = sym (same_Some family (family_of net.addr) (told net given refl))
op_fits (Some family) Start told = tt
op_fits (Some family) (SessionUp id) told = tt
op_fits (Some family) (Del net) told = tt
op_fits (Some family) SessionDown told = tt
op_fits (Some family) Disable told = tt
op_fits (Some family) Enable told = tt
op_fits (Some family) ReloadIn told = tt
op_fits (Some family) ReloadOut told = tt
op_fits (Some family) Reload told = tt

body_fits : (tables : List (List ℕ × Family)) (kind : ProtocolKind) (body : setup.Body) (op : Op) → IsKindOf tables kind body → Suits kind op → FitsTable tables body op
body_fits tables kind (setup.IsSource p) op is suits =
    op_fits (family_at tables p.table) op
    (λ net given same. (subst (λ k. IsKindOf tables k (setup.IsSource p)) (subst (Suits kind) same suits).0 is).1)
body_fits tables kind (setup.IsPipe p) op is suits = tt

module _ (named : Named) (played : Setup)
    (kinds : Pairs (λ i (named : NamedProtocol) (p : setup.Protocol). IsKindOf played.tables named.kind p.body) 0 named.protocols played.protocols) where
  protocol_fits : (number : ℕ) (declared : NamedProtocol) (op : Op) → slice_get named.protocols number ≡ Some declared → Suits declared.kind op → FitsProtocol played number op
  protocol_fits number declared op there suits = by (slice_get played.protocols number) refl where
    by : (o : Option setup.Protocol) → slice_get played.protocols number ≡ o → IfSome o (λ p. FitsTable played.tables p.body op)
    by None e = tt
    by (Some p) e =
        let at = one_here (λ i (named : NamedProtocol) (p : setup.Protocol). IsKindOf played.tables named.kind p.body) named.protocols played.protocols kinds number p e in
        body_fits played.tables declared.kind p.body op (subst (λ (d : NamedProtocol). IsKindOf played.tables d.kind p.body) (get_one named.protocols number at.0 declared at.1 there) at.2) suits

  line_fits : (actors : List (List ℕ)) (queries : ℕ) (line : Line) → NamesWhatIs named actors queries line → FitsLine played line
  line_fits actors queries (lines.Take channel count) is = tt
  line_fits actors queries (lines.Push channel count) is = tt
  line_fits actors queries (lines.Apply actor number protocol op) is = protocol_fits protocol is.2 op is.3 is.4
  line_fits actors queries (lines.Show actor query) is = tt

  pub lines_fit : (actors : List (List ℕ)) (queries : ℕ) (phases : List (List Line)) → All (All (NamesWhatIs named actors queries)) phases → All (All (FitsLine played)) phases
  lines_fit actors queries phases all =
      All-weaker (All (NamesWhatIs named actors queries)) (All (FitsLine played)) (All-weaker (NamesWhatIs named actors queries) (FitsLine played) (line_fits actors queries)) phases all
