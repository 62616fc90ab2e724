-- What the report of a phase asks of a core: names, beginnings and tables are there.
use Rattle.std.proofs.Common.{◌≡◌, ℕ, ◌+◌, ◌<◌, ◌≤◌, List, [], ◌∷◌, ◌++◌, length, map, reverse, Some, sym, ap, ◌∙◌, arith}
use Rattle.std.specs.Prelude.{slice_get}
use Rattle.std.specs.List.{AllByRecursion}
use Rattle.std.specs.declared.alloc.Global.{Global}
use Rattle.std.specs.declared.vec.Vec.{Vec}
use Rattle.std.proofs.lemmas.List.{length-append, length-map, length-reverse}
use Rattle.std.proofs.lemmas.Option.{same_Some}
use Rattle.bits_ip.specs.Prefix.{Net}
use Rattle.bits_ip.specs.declared.address.Family.{Family}
use Rattle.attrs.specs.declared.judge.Verdict.{Verdict}
use Rattle.attrs.specs.declared.route.Route.{Route}
use Rattle.export_core.specs.Histories.{change_of}
use Rattle.core_machine.specs.Legal.{Joined}
use Rattle.core_machine.specs.Machine.{State}
use Rattle.core_machine.specs.Replies.{replies_to}
use Rattle.show_route.specs.declared.query.Query.{Query}
use Rattle.core_setup.specs.Channels as setups
use Rattle.core_setup.specs.Channels.{channels}
use Rattle.core_setup.specs.Pairs.{Pairs}
use Rattle.core_setup.specs.Setup.{FitsQuery, Protocol, Setup}
use Rattle.core_setup.proofs.PairLemmas.{one_here, other_here, pairs_all, pairs_length}
use Rattle.run_tables.specs.declared.channel.Channel.{Channel}
use Rattle.run_tables.specs.declared.table.Table.{Table}
use Rattle.run_tables.proofs.Routing.{ChannelIs, TableIs}
use Rattle.sys_run.specs.Cores.{IsAnswered, IsCore, PlaysAs}
use Rattle.sys_run.specs.Phase.{AreHeads, AreLogged, AreOfTables, BeganAt}
use Rattle.sys_run.specs.declared.parts.TableParts.{TableParts}
use Rattle.sys_run.specs.declared.phase.Begun.{Begun}
use Rattle.sys_run.specs.declared.player.Answered.{Answered}
use Rattle.sys_run.specs.declared.player.Core.{Core}
use Rattle.sys_run.proofs.Answering.{query_fits}

all_by : {X Y : Type 0} (P : ℕ → X → Y → Type 0) (Q : X → Type 0) → ((n : ℕ) (x : X) (y : Y) → P n x y → Q x) → (n : ℕ) (xs : List X) (ys : List Y) → Pairs P n xs ys → AllByRecursion Q xs
all_by P Q gives n [] [] ps = tt
all_by P Q gives n [] (y ∷ ys) ps = absurd ps
all_by P Q gives n (x ∷ xs) [] ps = absurd ps
all_by P Q gives n (x ∷ xs) (y ∷ ys) ps = (gives n x y ps.0, all_by P Q gives (n + 1) xs ys ps.1)

module _ {J : Type 0} (verdict : J → Net → Route → Verdict) (setup : Setup) (past : Joined) (s : State) (core : Core J) (are : IsCore verdict setup past s core) where
  abbrev IsPart : ℕ → List ℕ × Family → TableParts → Type 0
  IsPart n seen held = let pair : List ℕ × Family = (held.name, held.family) in seen ≡ pair

  pub names_many : length core.names.items ≡ length core.protocols.items
  names_many = ap length are.names ∙ length-map setup.protocols (λ (p : Protocol). p.name)
      ∙ pairs_length (λ i p held. PlaysAs verdict setup i p (past.ops i) (s.ops i) held) 0 setup.protocols core.protocols.items are.protocols

  pub channels_many : length core.channels.items ≡ length core.routes.channels.items
  channels_many = ap length are.channels ∙ length-map (channels setup) (λ (c : setups.Channel). c.name)
      ∙ pairs_length (ChannelIs verdict setup s) 0 (channels setup) core.routes.channels.items are.routes.channels

  parts_many : length setup.tables ≡ length core.tables.items
  parts_many = pairs_length IsPart 0 setup.tables core.tables.items are.tables

  tables_there : length setup.tables ≡ length core.routes.tables.items
  tables_there = pairs_length (TableIs setup s) 0 setup.tables core.routes.tables.items are.routes.tables

  -- a query that the core holds fits, and its table is there
  pub query_held : (n : ℕ) (q : Query) → slice_get core.queries.items n ≡ Some q → FitsQuery setup.tables setup.protocols setup.choices q
  query_held n q e = query_fits setup n q are.routes.setup_is (ap (λ (qs : List Query). slice_get qs n) (sym are.queries) ∙ e)

  pub table_held : (q : Query) → FitsQuery setup.tables setup.protocols setup.choices q → q.table < length core.routes.tables.items
  table_held q fits = let w = fits.table in omega (arith, w, tables_there)

  pub parts_held : (q : Query) → FitsQuery setup.tables setup.protocols setup.choices q → q.table < length core.tables.items
  parts_held q fits = let w = fits.table in omega (arith, w, parts_many)

  pub tables_many : length core.tables.items ≡ length core.routes.tables.items
  tables_many = sym parts_many ∙ tables_there

  module _ (begun : Begun) (at : BeganAt setup past begun) where
    pub heads_are : AreHeads core.routes.tables.items begun.heads.items
    heads_are = pairs_all (λ n (table : Table) head. head ≤ length table.entries.items) core.routes.tables.items begun.heads.items
        (sym tables_there ∙ pairs_length (λ n table head. head ≡ length (past.history n)) 0 setup.tables begun.heads.items at.heads)
        (λ j table head et eh.
        let is = one_here (TableIs setup s) setup.tables core.routes.tables.items are.routes.tables j table et in
        let began = other_here (λ n table head. head ≡ length (past.history n)) setup.tables begun.heads.items at.heads j is.0 is.1 in
        let same : head ≡ length (past.history j) = same_Some head began.0 (sym eh ∙ began.1) ∙ began.2 in
        let now : length table.entries.items ≡ length (s.history j) = sym (length-map table.entries.items change_of) ∙ ap length is.2.entries ∙ length-reverse (s.history j) in
        let grown : length (s.history j) ≡ length (are.histories j).0 + length (past.history j) = ap length (are.histories j).1 ∙ length-append (are.histories j).0 (past.history j) in
        omega (arith, same, now, grown))

    pub logged_are : AreLogged core.routes.channels.items begun.logged.items
    logged_are = pairs_all (λ c (held : Channel J) len. len ≤ length held.exporter.log) core.routes.channels.items begun.logged.items
        (sym (pairs_length (ChannelIs verdict setup s) 0 (channels setup) core.routes.channels.items are.routes.channels) ∙ pairs_length (λ c channel len. len ≡ length (past.logs c)) 0 (channels setup) begun.logged.items at.logged)
        (λ j held len ec el.
        let is = one_here (ChannelIs verdict setup s) (channels setup) core.routes.channels.items are.routes.channels j held ec in
        let began = other_here (λ c channel len. len ≡ length (past.logs c)) (channels setup) begun.logged.items at.logged j is.0 is.1 in
        let same : len ≡ length (past.logs j) = same_Some len began.0 (sym el ∙ began.1) ∙ began.2 in
        let now : length held.exporter.log ≡ length (s.channels j).log = sym (length-reverse held.exporter.log) ∙ ap length is.2.exporter.matches.like.resembles.log in
        let grown : length (s.channels j).log ≡ length (are.logs j).0 + length (past.logs j) = ap length (are.logs j).1 ∙ length-append (are.logs j).0 (past.logs j) in
        omega (arith, same, now, grown))

  pub replies_within : (a : ℕ) (held : Vec Answered Global) → slice_get core.replies.items a ≡ Some held → AreOfTables (length core.tables.items) held.items
  replies_within a held e =
      all_by (λ n answered reply. IsAnswered setup s answered reply) (λ (reply : Answered). reply.table < length core.tables.items)
      (λ n answered reply is.
      let fits = query_fits setup reply.query is.query are.routes.setup_is is.query_is in
      omega (arith, fits.table, is.table, parts_many))
      0 held.items (reverse (replies_to a s.replies)) (are.replies a held e)
