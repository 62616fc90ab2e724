use Rattle.std.proofs.Common.{◌≡◌, List, length, sym, ap, subst, ◌∙◌, arith}
use Rattle.std.specs.Prelude.{slice_get}
use Rattle.run_tables.specs.declared.channel.Channel.{Channel}
use Rattle.sys_run.specs.Made.{AreLists, readers_in}
use Rattle.sys_run.proofs.MakingRoutes.{reads_within, routes_are, tables_many}
use Rattle.sys_run.proofs.made.make_routes.Goals as goal

pub readers_of-requires : goal.readers_of-requires
readers_of-requires g c = λ d held e.
    let h = c.requires in
    let w = reads_within g.J.Judge.verdict h.0 c.args.channels.items h.1.setup_is h.1.channels_are d held (ap (λ (l : List (Channel g.row.J.Denot)). slice_get l d) (sym c.deref.ensures.value) ∙ e) in
    let many = tables_many g.J.Judge.verdict h.0 c.args.tables.items h.1.tables_are in
    omega (arith, w, many, c.len.ensures, c.args.tables.ok.0)

pub open_pipes-requires : goal.open_pipes-requires
open_pipes-requires g c =
    let h = c.requires in
    let many : length c.in_ok-readers.readers.items ≡ length c.args.tables.items = omega (arith, c.in_ok-readers.ensures.count, c.len.ensures, c.args.tables.ok.0) in (
      h.0,
      routes_are g.J.Judge.verdict h.0 (record { alloc = c.args.alloc; cells = c.args.cells; tables = c.args.tables; readers = c.in_ok-readers.readers; channels = c.args.channels; sources = c.args.sources }) h.1 many
          (subst (λ (l : List (Channel g.row.J.Denot)). AreLists c.in_ok-readers.readers.items (readers_in l)) c.deref.ensures.value c.in_ok-readers.ensures.readers),
    )

pub returns : goal.returns
returns g c = λ setup new.
    let many : length c.in_ok-readers.readers.items ≡ length c.args.tables.items = omega (arith, c.in_ok-readers.ensures.count, c.len.ensures, c.args.tables.ok.0) in
    c.in_ok-open_pipes.ensures setup (routes_are g.J.Judge.verdict setup (record { alloc = c.args.alloc; cells = c.args.cells; tables = c.args.tables; readers = c.in_ok-readers.readers; channels = c.args.channels; sources = c.args.sources }) new many
    (subst (λ (l : List (Channel g.row.J.Denot)). AreLists c.in_ok-readers.readers.items (readers_in l)) c.deref.ensures.value c.in_ok-readers.ensures.readers))
