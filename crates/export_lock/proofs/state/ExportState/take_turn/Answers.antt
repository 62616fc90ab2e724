use Rattle.std.proofs.Common.{◌≡◌, ◌+◌, ◌-◌, ◌∙◌, ap, sym, refl, subst, [], append-nil, false, true}
use mathlib.Core.List.{IsPrefix}
use mathlib.Core.Option.{some}
use lib.ListN.{get_elem?}
use Rattle.export_core.specs.Calls.{Takes}
use Rattle.export_core.specs.Logs.{Course}
use Rattle.export_core.specs.States.{IsEntryAt, StandsFor}
use Rattle.jour_rule.specs.Moves.{entry, position_of, read_of}
use Rattle.jour.specs.Seats.{front}
use Rattle.rec_words.specs.Entries.{Spells}
use Rattle.export_lock.proofs.Taking.{taken_on}
use Rattle.export_lock.proofs.Marking.{still_on}
use Rattle.export_lock.proofs.Reading.{looks, moves_on, reads_none}
use Rattle.export_lock.proofs.state.ExportState.take_turn.Goals as goal

pub returns-in_default-clause-goes : goal.returns-in_default-clause-goes
returns-in_default-clause-goes g c = λ every key o. still_on g.J.Judge.verdict key c.args.self.now (record { exporter = c.args.self.now.exporter; cursor = c.next.new.self; marks = c.args.self.now.marks }) refl c.next.ensures.same.0
    (subst (λ z. IsPrefix (front c.args.self.now.cursor.0.1) z) (sym c.next.ensures.same.1) ([], append-nil (front c.args.self.now.cursor.0.1))) c.next.ensures.same.4 (λ _. c.next.ensures.same.2) refl refl o

pub returns-in_err-entry-clause-goes : goal.returns-in_err-entry-clause-goes
returns-in_err-entry-clause-goes g c = λ every key o. still_on g.J.Judge.verdict key c.args.self.now (record { exporter = c.args.self.now.exporter; cursor = c.next.new.self; marks = c.args.self.now.marks }) refl c.next.ensures.same.0
    (subst (λ z. IsPrefix (front c.args.self.now.cursor.0.1) z) (sym c.next.ensures.same.1) ([], append-nil (front c.args.self.now.cursor.0.1))) c.next.ensures.same.4 (λ _. c.next.ensures.same.2) refl refl o

pub returns-in_err-take-clause-goes : goal.returns-in_err-take-clause-goes
returns-in_err-take-clause-goes g c = λ every key o. still_on g.J.Judge.verdict key c.args.self.now (record { exporter = c.take.new.self; cursor = c.next.new.self; marks = c.args.self.now.marks }) c.in_err-take.ensures.refused c.next.ensures.same.0
    (subst (λ z. IsPrefix (front c.args.self.now.cursor.0.1) z) (sym c.next.ensures.same.1) ([], append-nil (front c.args.self.now.cursor.0.1))) c.next.ensures.same.4 (λ _. c.next.ensures.same.2) refl refl o

pub take-requires-clause-family : goal.take-requires-clause-family
take-requires-clause-family g c =
    let o = c.requires.held.exporting in
    c.in_ok-entry.ensures.is.family ∙ ap (λ z. z.1.opening.family) (c.next.ensures.same.0 ∙ o.here) ∙ sym o.family ∙ ap (λ z. z.family) (sym o.spec)

pub returns-clause-goes : goal.returns-clause-goes
returns-clause-goes g c = λ every key o.
    let verdict = g.J.Judge.verdict in
    let was = c.args.self.now in
    let p = position_of was.cursor.0.1.role in
    let k = c.advance.ensures.entry.0 in
    let words = read_of c.next.new.self.0.1.role in
    let said = c.in_ok-entry.entry in
    let now = c.advance.new.self in
    let at : c.in-Some.at ≡ p + 1 = c.in-Some.ensures.some.0 ∙ ap (λ z. z + 1) c.next.ensures.same.2 in
    taken_on c.entries_are_told.ensures c.words_spell_one_entry.ensures verdict key was c.take.new.self now k words said
    (sym o.mode ∙ sym c.is_started.ensures ∙ c.if-not-is_started.false) p refl
    (subst (λ z. Takes z said was.exporter c.take.new.self) at c.in_ok-take.ensures.takes)
    (subst (λ z. (course : Course) → IsEntryAt was.exporter.spec course z said → StandsFor verdict course was.exporter → StandsFor verdict course c.take.new.self) at c.in_ok-take.ensures.stands)
    (c.advance.ensures.same.0 ∙ c.next.ensures.same.0)
    (c.advance.ensures.same.4 ∙ c.next.ensures.same.4)
    (c.advance.ensures.position ∙ ap (λ z. z + 1) c.next.ensures.same.2)
    (subst (λ z. IsPrefix z (front now.0.1)) c.next.ensures.same.1 c.advance.ensures.prefix)
    (subst (λ z. get_elem? (front now.0.1) (z - was.cursor.0.1.seen.terms.start) ≡ some (entry k words)) c.next.ensures.same.2
    (subst (λ z. get_elem? (front now.0.1) (position_of c.next.new.self.0.1.role - z) ≡ some (entry k words)) (ap (λ z. z.1.start) c.next.ensures.same.0) c.advance.ensures.entry.1))
    (subst (λ z. Spells said z) (sym c.in-Some.ensures.some.2) c.in_ok-entry.ensures.is.words)
    o

pub returns-clause-took : goal.returns-clause-took
returns-clause-took g c = λ _.
    let o = c.requires.held.exporting in
    c.in_ok-take.ensures.takes.position ∙ c.in-Some.ensures.some.0
    ∙ ap (λ z. z + 1) (c.next.ensures.same.2 ∙ sym (o.position (sym o.mode ∙ sym c.is_started.ensures ∙ c.if-not-is_started.false)))

pub returns-then-not-is_started-clause-none : goal.returns-then-not-is_started-clause-none
returns-then-not-is_started-clause-none g c = λ _. (refl, λ up. absurd (let e : false ≡ true = sym c.if-not-is_started.true ∙ c.is_started.ensures ∙ up in cc))

pub returns-clause-flush : goal.returns-clause-flush
returns-clause-flush g c =
    let took = c.in_ok-take.ensures.takes in
    record { flushing = took.flushing; stays = λ _. (took.log, took.left) }

pub returns-clause-log : goal.returns-clause-log
returns-clause-log g c = c.in_ok-take.ensures.takes.log

pub returns-in_err-take-clause-log : goal.returns-in_err-take-clause-log
returns-in_err-take-clause-log g c = ap (λ z. z.log) c.in_err-take.ensures.refused

pub returns-clause-feed : goal.returns-clause-feed
returns-clause-feed g c = c.in_ok-take.ensures.takes.feed

pub returns-in_err-take-clause-feed : goal.returns-in_err-take-clause-feed
returns-in_err-take-clause-feed g c = ap (λ z. z.feed) c.in_err-take.ensures.refused

pub returns-then-not-is_started-clause-reads : goal.returns-then-not-is_started-clause-reads
returns-then-not-is_started-clause-reads g c = reads_none c.args.self.now.cursor

pub returns-in_default-clause-reads : goal.returns-in_default-clause-reads
returns-in_default-clause-reads g c =
    let same = c.next.ensures.same in
    looks c.args.self.now.cursor c.next.new.self same.0 same.1 same.3 same.4 c.next.ensures.known.0 (λ less. (c.next.ensures.sure less).2)

pub returns-in_err-entry-clause-reads : goal.returns-in_err-entry-clause-reads
returns-in_err-entry-clause-reads g c =
    let same = c.next.ensures.same in
    looks c.args.self.now.cursor c.next.new.self same.0 same.1 same.3 same.4 c.next.ensures.known.0 (λ less. (c.next.ensures.sure less).2)

pub returns-in_err-take-clause-reads : goal.returns-in_err-take-clause-reads
returns-in_err-take-clause-reads g c =
    let same = c.next.ensures.same in
    looks c.args.self.now.cursor c.next.new.self same.0 same.1 same.3 same.4 c.next.ensures.known.0 (λ less. (c.next.ensures.sure less).2)

pub returns-clause-reads : goal.returns-clause-reads
returns-clause-reads g c =
    let same = c.next.ensures.same in
    let past = c.advance.ensures.same in
    moves_on c.args.self.now.cursor c.next.new.self c.advance.new.self
    (looks c.args.self.now.cursor c.next.new.self same.0 same.1 same.3 same.4 c.next.ensures.known.0 (λ less. (c.next.ensures.sure less).2))
    past.0 past.1 past.4 c.advance.ensures.prefix past.2
