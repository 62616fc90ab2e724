-- What a new core's routes are made of.
use Rattle.std.proofs.Common.{◌≡◌, ℕ, ◌<◌, List, [], Option, Some, None, refl, sym, ◌∙◌, ap, subst, arith, length, map}
use Rattle.std.specs.Prelude.{option_map}
use Rattle.std.specs.declared.alloc.Global.{Global}
use Rattle.std.specs.declared.vec.Vec.{Vec}
use Rattle.std.proofs.lemmas.List.{length-map}
use Rattle.std.proofs.lemmas.Option.{same_Some, slice_get-map}
use Rattle.attrs.specs.declared.judge.Verdict.{Verdict}
use Rattle.attrs.specs.declared.route.Route.{Route}
use Rattle.attrs.specs.declared.route.Src.{Src}
use Rattle.bits_ip.specs.Prefix.{Net}
use Rattle.bits_ip.specs.declared.address.Family.{Family}
use Rattle.core_machine.specs.Rules.{Rules}
use Rattle.core_machine.proofs.Levels.{are_ways}
use Rattle.core_setup.specs.Channels.{Channel, channels}
use Rattle.core_setup.specs.Pairs.{Pairs}
use Rattle.core_setup.specs.Protocols.{exports_to, rules_of, sources, src_at}
use Rattle.core_setup.specs.Setup.{IsSetup, Setup}
use Rattle.core_setup.proofs.PairLemmas.{get_here, get_within, one_here, pairs_all, pairs_length, weaker_here}
use Rattle.core_setup.proofs.SetupRules.{setup_rules}
use Rattle.run_tables.specs.Channels.{AreSources}
use Rattle.run_tables.specs.Tables.{IsTable}
use Rattle.run_tables.specs.declared.channel.Channel.{Channel as Held}
use Rattle.run_tables.specs.declared.table.Table.{Table}
use Rattle.sys_run.specs.Made.{AreNew, ArePassed, IsMade, IsMadeTable, IsNewChannel, IsSource, passed_at}
use Rattle.show_route.specs.declared.query.Query.{Query}
use Rattle.sys_run.specs.Parts.{setup_seen, table_seen}
use Rattle.sys_run.specs.declared.made.Made.{Made}
use Rattle.sys_run.specs.declared.parts.ProtocolParts.{ProtocolParts}
use Rattle.sys_run.specs.declared.parts.TableParts.{TableParts}

sources_are : (setup : Setup) (held : List Src) → Pairs IsSource 0 setup.protocols held → AreSources (rules_of setup) held
sources_are setup held are = record {
  count = sym (pairs_length IsSource 0 setup.protocols held are);
  tell = λ num src at attrs.
      let p = one_here IsSource setup.protocols held are num src at in
      ap (λ (s : Src). let r : Route = record { src = s; attrs = attrs } in r) (ap (src_at num) p.1 ∙ sym p.2);
}

tables_are : (parts : List TableParts) (tables : List Table) → Pairs IsMadeTable 0 parts tables → Pairs (λ n (seen : List ℕ × Family) table. (rules : Rules) → IsTable rules seen.1 [] table) 0 (map table_seen parts) tables
tables_are parts tables made = pairs_all (λ n (seen : List ℕ × Family) table. (rules : Rules) → IsTable rules seen.1 [] table) (map table_seen parts) tables (length-map parts table_seen ∙ pairs_length IsMadeTable 0 parts tables made)
    (λ j seen table es et.
    let part = one_here IsMadeTable parts tables made j table et in
    let is : table_seen part.0 ≡ seen = same_Some (table_seen part.0) seen (sym (ap (option_map table_seen) part.1) ∙ sym (slice_get-map table_seen parts j) ∙ es) in
    subst (λ (s : List ℕ × Family). (rules : Rules) → IsTable rules s.1 [] table) is part.2)

module _ {J : Type 0} (verdict : J → Net → Route → Verdict) where
  passes_these : (held : List (Vec ℕ Global)) (setup : Setup) (c : ℕ) → ArePassed setup held → c < length (channels setup) → passed_at held c ≡ sources setup c
  passes_these held setup c are w =
      let h = get_here held c (omega (arith, w, are.count)) in
      ap (λ (o : Option (Vec ℕ Global)). items_in o) h.1 ∙ are.each c h.0 h.1
    where
      items_in : Option (Vec ℕ Global) → List ℕ
      items_in None = []
      items_in (Some v) = v.items

  same_passed : (c : ℕ) (seen : Channel) (held : Held J) (old new : ℕ → List ℕ) → old c ≡ new c → IsNewChannel verdict old c seen held → IsNewChannel verdict new c seen held
  same_passed c seen held old new e is = record {
    table = is.table;
    target = is.target;
    cursor = is.cursor;
    spec = is.spec ∙ ap (λ l. (exports_to seen.target l seen.exports).spec) e;
    filter = is.filter ∙ ap (λ l. (exports_to seen.target l seen.exports).filter) e;
    position = is.position;
    floors = is.floors;
    feed = is.feed;
    marks = is.marks;
    log = is.log;
    rest = is.rest;
  }

  -- what is made of parts is new
  pub new_of : (tables : List TableParts) (protocols : List (ProtocolParts J)) (cells : ℕ) (choices : List J) (queries : List Query) (held : List Table) (passed : List (Vec ℕ Global)) (made : Made J) → IsSetup (setup_seen verdict tables protocols cells choices queries)
      → Pairs IsMadeTable 0 tables held → ArePassed (setup_seen verdict tables protocols cells choices queries) passed → IsMade verdict (map table_seen tables) (passed_at passed) protocols made
      → AreNew verdict (setup_seen verdict tables protocols cells choices queries) cells held made.channels.items made.sources.items
  new_of tables protocols cells choices queries held passed made is tabled passing is_made = record {
    setup_is = is;
    rules_are = setup_rules are_ways setup is;
    cells_are = refl;
    tables_are = tables_are tables held tabled;
    channels_are = weaker_here (IsNewChannel verdict (passed_at passed)) (IsNewChannel verdict (sources setup)) (channels setup) made.channels.items
        (λ c seen x es ex new. same_passed c seen x (passed_at passed) (sources setup) (passes_these passed setup c passing (get_within (channels setup) c seen es)) new) is_made.channels;
    sources_are = sources_are setup made.sources.items is_made.sources;
  } where
    setup : Setup
    setup = setup_seen verdict tables protocols cells choices queries
