use Rattle.std.proofs.Common.{◌<◌, length, sym, ap, subst, ◌∙◌}
use Rattle.jour.specs.Seats.{AreCursors}
use Rattle.phase_pipes.specs.Ports.{IsJoined}
use Rattle.room_open.specs.Sources.{AreCounts}
use Rattle.room_open.proofs.tables.add_table.Goals as goal

pub add-requires-clause-opened : goal.add-requires-clause-opened
add-requires-clause-opened g c = c.requires.can.1.opened_is

pub add-requires-clause-counts : goal.add-requires-clause-counts
add-requires-clause-counts g c =
    let opened = c.args.opened.now in
    let made = c.in_ok-table.ensures in (
      sym c.in_ok-table.ports.ok.0 ∙ made.ports.0 ∙ sym c.requires.can.1.ports,
      sym c.in_ok-table.cursors.ok.0 ∙ made.cursors.0 ∙ c.len-cursors.ensures ∙ opened.cursors.ok.0,
      c.in_ok-passes.ensures.count ∙ c.len.ensures ∙ opened.passes.ok.0,
    )

pub add-requires-clause-cursors : goal.add-requires-clause-cursors
add-requires-clause-cursors g c =
    let made = c.in_ok-table.ensures in
    (subst (λ n. AreCursors c.in_ok-table.table n c.in_ok-table.cursors.items) (sym made.start) made.cursors.1, made.unread)

pub add-requires-clause-passes : goal.add-requires-clause-passes
add-requires-clause-passes g c = λ actor pass at. c.in_ok-passes.ensures.here actor pass at ∙ c.in_ok-table.ensures.pass

pub returns : goal.returns
returns g c = λ setup can there.
    let made = c.in_ok-add.ensures in
    let opened = c.args.opened.now in
    let number = c.len-number.ensures ∙ opened.tables.ok.0 in
    let cursors = c.len-cursors.ensures ∙ opened.cursors.ok.0 in
    record {
      can = record {
        opened_is = made.opened;
        counts = subst (λ n. AreCounts setup n c.args.members.now) (sym made.counts.1) can.counts;
        ports = made.counts.0 ∙ can.ports;
      };
      passes = made.counts.2;
      table = c.in_ok-table.table;
      tables = made.tables;
      terms = subst (λ n. IsJoined setup n (record { family = c.args.family; rows = c.args.rows.rows; before = c.args.entries.now.items }) c.in_ok-table.table.1) number
          (c.in_ok-table.ensures.terms setup (subst (λ n. AreCounts setup n c.args.members.now) (sym cursors) can.counts) (subst (λ n. n < length setup.tables) (sym number) there));
    }
