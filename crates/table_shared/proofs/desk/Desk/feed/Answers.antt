use Rattle.std.proofs.Common.{◌≡◌, ◌+◌, length, sym, ap, ◌∙◌, subst}
use Rattle.std.specs.Prelude.{option_copied}
use Rattle.attrs.specs.Select.{rows_from}
use Rattle.attrs.specs.Table.{Shows}
use Rattle.jour_rule.specs.declared.views.Terms.{Terms}
use Rattle.jour.specs.Seats.{journal}
use Rattle.rib.specs.Rib.{AreOfFamily}
use Rattle.table_shared.specs.Opening.{TableOpening}
use Rattle.table_shared.proofs.Families.{family_part}
use Rattle.table_shared.proofs.Keeping.{in_seen}
use Rattle.table_shared.proofs.RowParts.{more_is}
use Rattle.table_shared.proofs.desk.Desk.feed.Goals as goal

pub returns-clause-chunk : goal.returns-clause-chunk
returns-clause-chunk c =
    let kept = c.requires.kept in let t = c.tell_cursor-at.ensures in
    let own = rows_from (option_copied c.args.from) c.args.self.now.rib.rows in
    let writer : c.tell_cursor-at.new.self.1.seen.terms ≡ c.args.cursor.now.0.1.seen.terms = ap (λ j. j.1) (t.here.0 ∙ kept.journal) in
    let cursor : c.tell_cursor-at.new.cursor.0.1.seen.terms ≡ c.args.cursor.now.0.1.seen.terms = ap (λ j. j.1) t.here.1 in
    record {
      all = c.args.self.now.rib.rows;
      told = record {
        known = t.head.1;
        seen = t.head.0 ∙ (λ i. ((writer ∙ sym cursor) i).start + length (sym t.cursor.0 i));
        loads = t.head.2;
      };
      shows = in_seen (journal c.args.cursor.now.0) c.args.self.now c.tell_cursor-at.new.cursor.0.1 (Shows c.args.self.now.rib.rows) kept cursor (t.cursor.0 ∙ t.list) kept.rows;
      begins = c.copy_net.ensures;
      rows = c.from_vec.ensures ∙ c.in_ok-rows.ensures.rows;
      ends = c.in_ok-upto.ensures;
      more = more_is c.args.max own c.in_ok-upto.upto c.is_some.result c.is_some.ensures c.in_ok-upto.ensures;
      family = subst (λ (t : Terms TableOpening). AreOfFamily t.opening.family c.from_vec.result) (sym cursor)
          (family_part c.args.cursor.now.0.1.seen.terms.opening.family (option_copied c.args.from) c.args.max c.args.self.now.rib.rows c.from_vec.result kept.nets (c.from_vec.ensures ∙ c.in_ok-rows.ensures.rows));
    }
