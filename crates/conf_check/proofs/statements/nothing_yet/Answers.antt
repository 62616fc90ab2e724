use Rattle.std.proofs.Common.{length, refl}
use Rattle.conf_check.proofs.Standing.{stands_start}
use Rattle.conf_check.proofs.statements.nothing_yet.Goals as goal

pub returns : goal.returns
returns c =
    let e = c.in_ok-declared.ensures in
    stands_start c.args.text.now (record { declared = c.in_ok-declared.declared; filters = c.new.result; protocols = c.new-2.result; table_places = c.in_ok-table_places.table_places; end = length c.args.text.now })
    (e.known c.args.text.now) c.new.ensures.items c.new-2.ensures.items e.constants e.functions c.in_ok-table_places.ensures refl
