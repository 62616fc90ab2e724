use Rattle.std.proofs.Common.{◌≡◌, ◌+◌, length, sym, ap, ◌∙◌, subst}
use Rattle.attrs.specs.Table.{Shows}
use Rattle.jour_rule.specs.declared.views.Terms.{Terms}
use Rattle.jour.specs.Seats.{journal}
use Rattle.rib.specs.Rib.{AreOfFamily}
use Rattle.table_shared.specs.Opening.{TableOpening}
use Rattle.table_shared.proofs.Families.{family_selected}
use Rattle.table_shared.proofs.Keeping.{in_seen}
use Rattle.table_shared.proofs.desk.Desk.snapshot.Goals as goal

pub returns-clause-view : goal.returns-clause-view
returns-clause-view c =
    let kept = c.requires.kept in let t = c.tell_pass-at.ensures in
    let writer : c.tell_pass-at.new.self.1.seen.terms ≡ c.args.pass.now.1.seen.terms = ap (λ j. j.1) (t.here.0 ∙ kept.journal) in
    let pass : c.tell_pass-at.new.pass.1.seen.terms ≡ c.args.pass.now.1.seen.terms = ap (λ j. j.1) t.here.1 in
    let picked = c.from_vec.ensures ∙ c.in_ok-rows.ensures.rows in
    record {
      all = c.args.self.now.rib.rows;
      told = record {
        known = t.head.1;
        seen = t.head.0 ∙ (λ i. ((writer ∙ sym pass) i).start + length (sym t.pass i));
        loads = t.head.2;
      };
      shows = in_seen (journal c.args.pass.now) c.args.self.now c.tell_pass-at.new.pass.1 (Shows c.args.self.now.rib.rows) kept pass (t.pass ∙ t.list) kept.rows;
      rows = picked;
      total = c.total-total.ensures.count;
      family = subst (λ (t : Terms TableOpening). AreOfFamily t.opening.family c.from_vec.result) (sym pass)
          (family_selected c.args.pass.now.1.seen.terms.opening.family c.args.pick.now c.args.self.now.rib.rows c.from_vec.result kept.nets picked);
    }
