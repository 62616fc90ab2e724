-- What the parts of a core come to is what is to be played.
use Rattle.std.proofs.Common.{◌≡◌, ◌∙◌, ap, ℕ, List, map, Some, None}
use Rattle.bits_ip.specs.Prefix.{Net}
use Rattle.bits_ip.specs.declared.address.Family.{Family}
use Rattle.attrs.specs.declared.judge.Verdict.{Verdict}
use Rattle.attrs.specs.declared.route.Route.{Route}
use Rattle.export_core.specs.declared.passing.ExportSpec.{ExportSpec}
use Rattle.import_core.specs.declared.import_spec.ImportSpec.{ImportSpec}
use Rattle.core_setup.specs.Setup as setup
use Rattle.core_setup.specs.Setup.{Setup}
use Rattle.show_route.specs.declared.query.Query.{Query}
use Rattle.sys_run.specs.Parts.{body_seen, pipe_seen, protocol_seen, setup_seen, source_seen, table_seen}
use Rattle.sys_run.specs.declared.parts.BodyParts.{BodyParts}
use Rattle.sys_run.specs.declared.parts.ProtocolParts.{ProtocolParts}
use Rattle.sys_run.specs.declared.parts.TableParts.{TableParts}
use Rattle.conf_system.specs.Policies.{Filter}
use Rattle.conf_system.specs.System.{System}
use Rattle.sys_build.specs.Setups.{choices_of, protocols_from, setup_of}

pub handed : {J : Type 0} (verdict : J → Net → Route → Verdict) (tables : List TableParts) (protocols : List (ProtocolParts J)) (choices : List J) (system : System) (cells : ℕ) (conditions : List Filter) (queries : List Query)
    → map table_seen tables ≡ system.tables → map (protocol_seen verdict) protocols ≡ protocols_from 0 system.protocols → map verdict choices ≡ choices_of system conditions
    → setup_seen verdict tables protocols cells choices queries ≡ setup_of system cells conditions queries
unfolding setup_of
handed verdict tables protocols choices system cells conditions queries tables_are protocols_are choices_are =
    ap (λ (t : List (List ℕ × Family)). made t (map (protocol_seen verdict) protocols) (map verdict choices)) tables_are
    ∙ ap (λ (p : List setup.Protocol). made system.tables p (map verdict choices)) protocols_are
    ∙ ap (λ (c : List Filter). made system.tables (protocols_from 0 system.protocols) c) choices_are
  where
    made : List (List ℕ × Family) → List setup.Protocol → List Filter → Setup
    made t p c = record { tables = t; protocols = p; cells = cells; choices = c; queries = queries }

-- ---- one protocol, part by part

module _ {J : Type 0} (verdict : J → Net → Route → Verdict) where
  pub without_channel : (table : ℕ) (spec spec_is : ImportSpec) (judge : J) (import : Filter) → spec ≡ spec_is → verdict judge ≡ import
      → source_seen verdict (record { table = table; spec = spec; judge = judge; exports = None }) ≡ record { table = table; spec = spec_is; filter = import; exports = None }
  without_channel table spec spec_is judge import specs imports =
      ap (λ (s : ImportSpec). made s (verdict judge)) specs
      ∙ ap (λ (f : Filter). made spec_is f) imports
    where
      made : ImportSpec → Filter → setup.Source
      made s f = record { table = table; spec = s; filter = f; exports = None }

  pub with_channel : (table : ℕ) (spec spec_is : ImportSpec) (judge : J) (import : Filter) (gate gate_is : ExportSpec) (sends : J) (export : Filter)
      → spec ≡ spec_is → verdict judge ≡ import → gate ≡ gate_is → verdict sends ≡ export
      → source_seen verdict (record { table = table; spec = spec; judge = judge; exports = Some (record { spec = gate; judge = sends }) })
      ≡ record { table = table; spec = spec_is; filter = import; exports = Some (record { spec = gate_is; filter = export }) }
  with_channel table spec spec_is judge import gate gate_is sends export specs imports gates exports =
      ap (λ (s : ImportSpec). made s (verdict judge) gate (verdict sends)) specs
      ∙ ap (λ (f : Filter). made spec_is f gate (verdict sends)) imports
      ∙ ap (λ (g : ExportSpec). made spec_is import g (verdict sends)) gates
      ∙ ap (λ (f : Filter). made spec_is import gate_is f) exports
    where
      made : ImportSpec → Filter → ExportSpec → Filter → setup.Source
      made s f g e = record { table = table; spec = s; filter = f; exports = Some (record { spec = g; filter = e }) }

  pub both_ways : (primary peer : ℕ) (sends takes : J) (export import : Filter) → verdict sends ≡ export → verdict takes ≡ import
      → pipe_seen verdict (record { primary = primary; peer = peer; export = sends; import = takes }) ≡ record { primary = primary; peer = peer; export = export; import = import }
  both_ways primary peer sends takes export import exports imports =
      ap (λ (f : Filter). made f (verdict takes)) exports ∙ ap (λ (f : Filter). made export f) imports
    where
      made : Filter → Filter → setup.Pipe
      made e i = record { primary = primary; peer = peer; export = e; import = i }

  pub named_body : (name name_is : List ℕ) (body : BodyParts J) (body_is : setup.Body) → name ≡ name_is → body_seen verdict body ≡ body_is
      → protocol_seen verdict (record { name = name; body = body }) ≡ record { name = name_is; body = body_is }
  named_body name name_is body body_is names bodies =
      ap (λ (n : List ℕ). made n (body_seen verdict body)) names ∙ ap (λ (b : setup.Body). made name_is b) bodies
    where
      made : List ℕ → setup.Body → setup.Protocol
      made n b = record { name = n; body = b }
