use Rattle.std.proofs.Common.{◌≡◌, ℕ, List, [], ◌∷◌, ◌++◌, length, length-append, refl, sym, ap, ◌∙◌, subst, arith}
use Rattle.attrs.specs.History.{after}
use Rattle.attrs.specs.Table.{IsBestOf}
use Rattle.attrs.specs.declared.journal.JEntry.{JEntry}
use Rattle.jour_rule.specs.declared.views.Terms.{Terms}
use Rattle.jour_rule.specs.Moves.{entry}
use Rattle.jour.specs.Seats.{front, journal, number_of}
use Rattle.rec_words.specs.Entries.{Spells}
use Rattle.table_shared.specs.Opening.{TableOpening}
use Rattle.table_shared.specs.Records.{InContent, IsLawful}
use Rattle.table_shared.specs.Answers.{Differs}
use Rattle.table_shared.proofs.Appending.{MayJoin, content_at, kept_join, lawful_join}
use Rattle.table_shared.proofs.desk.Desk.append.Goals as goal

pub append-position-requires-clause-lawful : goal.append-position-requires-clause-lawful
append-position-requires-clause-lawful c =
    let q = c.requires in
    let spelled = subst (λ (z : JEntry × List ℕ). Spells z.0 z.1) (λ i. (q.copies.said i, sym c.words.ensures i)) c.put_words.ensures.spelled in
    let may : MayJoin (journal c.args.maker.now) c.args.self.now (number_of c.args.maker.now.1.role) c.words.result.now c.args.prepared.said.best c.args.prepared.change q.kept =
    record { spelled = spelled; source = q.change.source; family = q.change.family; route = q.change.route; real = q.real; best_is = q.copies.best } in
    subst (λ (t : Terms TableOpening). IsLawful t.opening (front c.args.self.now.writer.1 ++ entry (number_of c.args.maker.now.1.role) c.words.result.now ∷ []))
    (sym (ap (λ j. j.1) q.kept.journal))
    (lawful_join (journal c.args.maker.now) c.args.self.now (number_of c.args.maker.now.1.role) c.words.result.now c.args.prepared.said.best c.args.prepared.change q.kept may)

pub returns-clause-kept : goal.returns-clause-kept
returns-clause-kept c =
    let q = c.requires in let a = c.append-position.ensures in
    let spelled = subst (λ (z : JEntry × List ℕ). Spells z.0 z.1) (λ i. (q.copies.said i, sym c.words.ensures i)) c.put_words.ensures.spelled in
    let may : MayJoin (journal c.args.maker.now) c.args.self.now (number_of c.args.maker.now.1.role) c.words.result.now c.args.prepared.said.best c.args.prepared.change q.kept =
    record { spelled = spelled; source = q.change.source; family = q.change.family; route = q.change.route; real = q.real; best_is = q.copies.best } in
    let start : c.append-position.new.self.1.seen.terms.start ≡ c.args.maker.now.1.seen.terms.start = ap (λ j. j.1.start) (a.here.0 ∙ q.kept.journal) in
    let long = ap length a.list in
    let more = length-append (front c.args.self.now.writer.1) (entry (number_of c.args.maker.now.1.role) c.words.result.now ∷ []) in
    let told = ap length q.told in
    let below = q.below in
    kept_join (journal c.args.maker.now) c.args.self.now (number_of c.args.maker.now.1.role) c.words.result.now c.args.prepared.said.best c.args.prepared.change q.kept
    (record { writer = c.append-position.new.self; rib = c.change.new.self; start = c.args.self.now.start; records = c.push_reserved.new.self; ports = c.push_reserved-2.new.self })
    may a.here.0 a.list (omega arith) c.change.ensures.rows c.change.ensures.routes c.change.ensures.family refl
    (c.push_reserved.ensures.items ∙ ap (λ (s : JEntry). c.args.self.now.records.items ++ s ∷ []) q.copies.said)
    (c.push_reserved-2.ensures.items ∙ ap (λ (n : ℕ). c.args.self.now.ports.items ++ n ∷ []) (c.number.ensures.number ∙ a.maker.1))

pub returns-clause-entered : goal.returns-clause-entered
returns-clause-entered c =
    let q = c.requires in let a = c.append-position.ensures in
    let spelled = subst (λ (z : JEntry × List ℕ). Spells z.0 z.1) (λ i. (q.copies.said i, sym c.words.ensures i)) c.put_words.ensures.spelled in
    let may : MayJoin (journal c.args.maker.now) c.args.self.now (number_of c.args.maker.now.1.role) c.words.result.now c.args.prepared.said.best c.args.prepared.change q.kept =
    record { spelled = spelled; source = q.change.source; family = q.change.family; route = q.change.route; real = q.real; best_is = q.copies.best } in
    let start : c.append-position.new.self.1.seen.terms.start ≡ c.args.maker.now.1.seen.terms.start = ap (λ j. j.1.start) (a.here.0 ∙ q.kept.journal) in
    let same : c.append-position.new.maker.1.seen.terms.start ≡ c.args.maker.now.1.seen.terms.start = ap (λ j. j.1.start) a.here.1 in
    let long = ap length a.list in
    let more = length-append (front c.args.self.now.writer.1) (entry (number_of c.args.maker.now.1.role) c.words.result.now ∷ []) in
    let told = ap length q.told in
    let seen = ap length a.maker.0 in
    let at = a.head.0 in
    let below = q.below in
    record {
      best = c.args.prepared.said.best;
      before = front c.args.self.now.writer.1;
      words = c.words.result.now;
      spelled = spelled;
      receipt = a.receipts q.told;
      last = a.maker.0 ∙ a.list ∙ ap (λ (n : ℕ). front c.args.self.now.writer.1 ++ entry n c.words.result.now ∷ []) (sym a.maker.1);
      head = omega arith;
      end = omega arith;
      content = subst
          (λ (t : Terms TableOpening). InContent t.opening (front c.args.self.now.writer.1)
          (λ content. Differs c.args.prepared.change content × IsBestOf (after content (c.args.prepared.change ∷ [])) c.args.prepared.change.net c.args.prepared.said.best))
          (sym (ap (λ j. j.1) a.here.1))
          (content_at (journal c.args.maker.now) c.args.self.now (number_of c.args.maker.now.1.role) c.words.result.now c.args.prepared.said.best c.args.prepared.change q.kept may);
    }

pub returns-clause-above : goal.returns-clause-above
returns-clause-above c =
    let q = c.requires in let a = c.append-position.ensures in
    let start : c.append-position.new.self.1.seen.terms.start ≡ c.args.maker.now.1.seen.terms.start = ap (λ j. j.1.start) (a.here.0 ∙ q.kept.journal) in
    let long = ap length a.list in
    let more = length-append (front c.args.self.now.writer.1) (entry (number_of c.args.maker.now.1.role) c.words.result.now ∷ []) in
    let told = ap length q.told in
    let at = a.head.0 in
    omega arith
