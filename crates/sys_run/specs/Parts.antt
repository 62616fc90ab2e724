-- What a core is made of, as what is played (`setup_seen`): tables, protocols, the size of
-- journals, the filters by which queries choose routes, and the queries.
-- From: own.
-- Example: a core without protocols is a setup without protocols.
use Rattle.std.specs.Prelude.{ℕ, List, map, option_map}
use Rattle.bits_ip.specs.Prefix.{Net}
use Rattle.bits_ip.specs.declared.address.Family.{Family}
use Rattle.attrs.specs.declared.judge.Verdict.{Verdict}
use Rattle.attrs.specs.declared.route.Route.{Route}
use Rattle.core_setup.specs.Setup as setup
use Rattle.core_setup.specs.Setup.{Exports, Setup}
use Rattle.show_route.specs.declared.query.Query.{Query}
use Rattle.sys_run.specs.declared.parts.BodyParts.{BodyParts}
use Rattle.sys_run.specs.declared.parts.BodyParts.TheVariants.{Pipe, Source}
use Rattle.sys_run.specs.declared.parts.ExportParts.{ExportParts}
use Rattle.sys_run.specs.declared.parts.PipeParts.{PipeParts}
use Rattle.sys_run.specs.declared.parts.ProtocolParts.{ProtocolParts}
use Rattle.sys_run.specs.declared.parts.SourceParts.{SourceParts}
use Rattle.sys_run.specs.declared.parts.TableParts.{TableParts}

abbrev pub table_seen : TableParts → List ℕ × Family
table_seen table = (table.name, table.family)

module _ {J : Type 0} (verdict : J → Net → Route → Verdict) where
  abbrev pub exports_seen : ExportParts J → Exports
  exports_seen exports = record { spec = exports.spec; filter = verdict exports.judge }

  abbrev pub source_seen : SourceParts J → setup.Source
  source_seen p = record {
    table = p.table;
    spec = p.spec;
    filter = verdict p.judge;
    exports = option_map exports_seen p.exports;
  }

  abbrev pub pipe_seen : PipeParts J → setup.Pipe
  pipe_seen p = record {
    primary = p.primary;
    peer = p.peer;
    export = verdict p.export;
    import = verdict p.import;
  }

  abbrev pub body_seen : BodyParts J → setup.Body
  body_seen (Source p) = setup.IsSource (source_seen p)
  body_seen (Pipe p) = setup.IsPipe (pipe_seen p)

  abbrev pub protocol_seen : ProtocolParts J → setup.Protocol
  protocol_seen p = record { name = p.name; body = body_seen p.body }

  abbrev pub setup_seen :
      List TableParts → List (ProtocolParts J) → ℕ → List J → List Query → Setup
  setup_seen tables protocols cells choices queries = record {
    tables = map table_seen tables;
    protocols = map protocol_seen protocols;
    cells = cells;
    choices = map verdict choices;
    queries = queries;
  }
