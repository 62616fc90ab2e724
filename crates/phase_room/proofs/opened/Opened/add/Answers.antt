use Rattle.phase_room.proofs.Dealing.{of_each_more}
use Rattle.phase_room.specs.Opened.{IsCursorOf, IsPassOf, IsPortOf}
use Rattle.phase_room.proofs.opened.Opened.add.Goals as goal

pub returns-clause-opened : goal.returns-clause-opened
returns-clause-opened c =
    let old = c.args.self.now in
    let tables = c.push.new.self.items in
    let more = c.in_ok-push.ensures.items in
    let counts = c.requires.counts in
    record {
      ports = of_each_more IsPortOf old.tables.items tables c.args.table old.ports.items c.push_each.new.lists.items c.args.ports.items c.in_ok-push_each.ensures c.requires.opened.ports counts.0
          (λ number port at. let made = c.requires.ports number port at in (made.0, made.1, made.3)) more;
      cursors = of_each_more IsCursorOf old.tables.items tables c.args.table old.cursors.items c.push_each-2.new.lists.items c.args.cursors.items c.in_ok-push_each-2.ensures c.requires.opened.cursors counts.1
          (λ number cursor at. let made = c.requires.cursors.0 number cursor at in (made.0, made.1, c.requires.cursors.1 number cursor at, made.2, made.3)) more;
      passes = of_each_more IsPassOf old.tables.items tables c.args.table old.passes.items c.push_each-3.new.lists.items c.args.passes.items c.in_ok-push_each-3.ensures c.requires.opened.passes counts.2 c.requires.passes more;
    }
