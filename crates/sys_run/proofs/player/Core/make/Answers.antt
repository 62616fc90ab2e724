use Rattle.std.proofs.Common.{◌≡◌, List, length, map, refl, sym, subst, arith}
use Rattle.core_setup.specs.Pairs.{Pairs}
use Rattle.sys_run.specs.Made.{AreNew, ArePassed, IsMade, IsMadeTable, passed_at}
use Rattle.sys_run.specs.Parts.{setup_seen, table_seen}
use Rattle.sys_run.specs.declared.parts.ProtocolParts.{ProtocolParts}
use Rattle.sys_run.specs.declared.parts.TableParts.{TableParts}
use Rattle.sys_run.proofs.MakingCore.{made_core}
use Rattle.sys_run.proofs.MakingNew.{new_of}
use Rattle.sys_run.proofs.player.Core.make.Goals as goal

pub make_routes-requires : goal.make_routes-requires
make_routes-requires g c =
    let v = g.J.Judge.verdict in
    let tables = c.args.tables.items in
    let protocols = c.args.protocols.items in
    let cells = c.args.cells in
    let choices = c.args.choices.items in
    let queries = c.args.queries.items in
    let made = c.in_ok-made.made in
    let held = c.in_ok-held.held.items in
    let passed = c.in_ok-passed.passed.items in
    let tabled : Pairs IsMadeTable 0 tables held = subst (λ (l : List TableParts). Pairs IsMadeTable 0 l held) c.deref.ensures.value c.in_ok-held.ensures in
    let many : length tables ≡ c.len.result = omega (arith, c.len.ensures, c.args.tables.ok.0) in
    let passing : ArePassed (setup_seen v tables protocols cells choices queries) passed = subst (λ (l : List (ProtocolParts g.row.J.Denot)). ArePassed (setup_seen v tables l cells choices queries) passed) c.deref-2.ensures.value (c.in_ok-passed.ensures tables cells choices queries many) in
    let is_made : IsMade v (map table_seen tables) (passed_at passed) protocols made = subst (λ (l : List TableParts). IsMade v (map table_seen l) (passed_at passed) protocols made) c.deref-3.ensures.value c.in_ok-made.ensures in (
      setup_seen v tables protocols cells choices queries,
      subst (λ n. AreNew v (setup_seen v tables protocols cells choices queries) n held made.channels.items made.sources.items) (sym c.from.ensures)
          (new_of v tables protocols cells choices queries held passed made c.requires.setup tabled passing is_made),
    )

pub returns : goal.returns
returns g c = λ actors.
    let v = g.J.Judge.verdict in
    let tables = c.args.tables.items in
    let protocols = c.args.protocols.items in
    let cells = c.args.cells in
    let choices = c.args.choices.items in
    let queries = c.args.queries.items in
    let made = c.in_ok-made.made in
    let held = c.in_ok-held.held.items in
    let passed = c.in_ok-passed.passed.items in
    let tabled : Pairs IsMadeTable 0 tables held = subst (λ (l : List TableParts). Pairs IsMadeTable 0 l held) c.deref.ensures.value c.in_ok-held.ensures in
    let many : length tables ≡ c.len.result = omega (arith, c.len.ensures, c.args.tables.ok.0) in
    let passing : ArePassed (setup_seen v tables protocols cells choices queries) passed = subst (λ (l : List (ProtocolParts g.row.J.Denot)). ArePassed (setup_seen v tables l cells choices queries) passed) c.deref-2.ensures.value (c.in_ok-passed.ensures tables cells choices queries many) in
    let is_made : IsMade v (map table_seen tables) (passed_at passed) protocols made = subst (λ (l : List TableParts). IsMade v (map table_seen l) (passed_at passed) protocols made) c.deref-3.ensures.value c.in_ok-made.ensures in
    made_core v tables protocols cells choices queries (passed_at passed) made (record {
      alloc = c.args.alloc;
      phases = 0;
      routes = c.in_ok-make_routes.field-0;
      protocols = made.protocols;
      replies = c.new.result;
      tables = c.args.tables;
      names = made.names;
      channels = made.channel_names;
      choices = c.args.choices;
      queries = c.args.queries;
    }) (c.in_ok-make_routes.ensures (setup_seen v tables protocols cells choices queries) (subst (λ n. AreNew v (setup_seen v tables protocols cells choices queries) n held made.channels.items made.sources.items) (sym c.from.ensures)
    (new_of v tables protocols cells choices queries held passed made c.requires.setup tabled passing is_made)))
    is_made refl refl refl refl c.new.ensures.items refl refl refl actors
