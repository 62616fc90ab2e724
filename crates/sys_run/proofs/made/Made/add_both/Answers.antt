use Rattle.std.proofs.Common.{◌≡◌, ◌+◌, ◌++◌, ◌∷◌, [], List, Some, length, map, ap, ◌∙◌, append_assoc, arith}
use Rattle.std.specs.Prelude.{codes}
use Rattle.run_tables.specs.declared.channel.Channel.{Channel}
use Rattle.sys_run.specs.Parts.{table_seen}
use Rattle.sys_run.proofs.MakingProtocols.{direction_new, new_held}
use Rattle.sys_run.proofs.made.Made.add_both.Goals as goal

pub returns-clause-adds : goal.returns-clause-adds
returns-clause-adds g c = λ lists left.
    let v = g.J.Judge.verdict in
    let tables = map table_seen c.args.tables.now in
    let p = c.args.parts in
    let old = c.args.self.now in
    let n = c.len-from.result in
    let first = c.in_ok-add_channel.ensures in
    let second = c.in_ok-add_channel-2.ensures in
    let from : n ≡ length old.channels.items = omega (arith, c.len-from.ensures, old.channels.ok.0) in
    let there = new_held v tables lists p.primary (Some p.peer) c.make-exporter.result in
    let back = new_held v tables lists p.peer (Some p.primary) c.make-importer.result in
    let name_there = c.in_ok-name_there.ensures ∙ ap (λ l. l ++ codes ".export") c.as_slice.ensures in
    let name_back = c.in_ok-name_back.ensures ∙ ap (λ l. l ++ codes ".import") c.as_slice-2.ensures in
    record {
      names = second.names ∙ first.names;
      protocols = second.protocols ∙ first.protocols;
      sources = second.sources ∙ first.sources;
      added = there ∷ back ∷ [];
      channels = second.channels ∙ ap (λ (l : List (Channel g.row.J.Denot)). l ++ back ∷ []) first.channels ∙ append_assoc old.channels.items (there ∷ []) (back ∷ []);
      are = (
        direction_new v tables lists (length old.channels.items) c.args.number c.args.name.now (codes ".export") p.primary p.peer p.export c.direction_gate-there.result c.table_family.result c.take_list.result.items c.make-exporter.result
            c.make-exporter.ensures c.direction_gate-there.ensures c.table_family.ensures
            (c.take_list.ensures.list ∙ left n (omega (arith, from)) ∙ ap lists from),
        (
          direction_new v tables lists (length old.channels.items + 1) c.args.number c.args.name.now (codes ".import") p.peer p.primary p.import c.direction_gate-back.result c.table_family-2.result c.take_list-2.result.items c.make-importer.result
              c.make-importer.ensures c.direction_gate-back.ensures c.table_family-2.ensures
              (c.take_list-2.ensures.list ∙ c.take_list.ensures.others (n + 1) (λ e. omega (arith, e)) ∙ left (n + 1) (omega (arith, from)) ∙ ap (λ m. lists (m + 1)) from),
          tt,
        ),
      );
      channel_names = second.channel_names ∙ ap (λ l. l ++ c.in_ok-name_back.name_back ∷ []) first.channel_names
          ∙ append_assoc old.channel_names.items (c.in_ok-name_there.name_there ∷ []) (c.in_ok-name_back.name_back ∷ [])
          ∙ ap (λ m. old.channel_names.items ++ m ∷ c.in_ok-name_back.name_back ∷ []) name_there
          ∙ ap (λ m. old.channel_names.items ++ (c.args.name.now ++ codes ".export") ∷ m ∷ []) name_back;
    }

pub returns-clause-left : goal.returns-clause-left
returns-clause-left g c = λ lists left d w.
    let n = c.len-from.result in
    let from : n ≡ length c.args.self.now.channels.items = omega (arith, c.len-from.ensures, c.args.self.now.channels.ok.0) in
    c.take_list-2.ensures.others d (λ e. omega (arith, e, w, from)) ∙ c.take_list.ensures.others d (λ e. omega (arith, e, w, from)) ∙ left d (omega (arith, w))
