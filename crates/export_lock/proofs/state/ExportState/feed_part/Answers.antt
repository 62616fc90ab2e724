use Rattle.std.proofs.Common.{◌∙◌, ap, sym, refl, arith, subst}
use Rattle.std.specs.Prelude.{option_copied}
use Rattle.export_core.specs.declared.floors.FeedState.TheVariants.{From}
use Rattle.table_shared.specs.Records.{IsLawful}
use Rattle.jour_rule.specs.Moves.{position_of}
use Rattle.jour.specs.Seats.{front}
use Rattle.export_lock.proofs.Feeding.{fed_on, fed_still, feeding_more, feeding_on, head_later, keys_are_read, nets_family, part_of, range}
use Rattle.export_lock.proofs.Marking.{still_on}
use Rattle.export_lock.proofs.state.ExportState.feed_part.Goals as goal

pub returns-in_err-chunk-clause-goes : goal.returns-in_err-chunk-clause-goes
returns-in_err-chunk-clause-goes g c = λ every key o. fed_still g.J.Judge.verdict key c.args.self.now c.args.self.now.exporter c.feed.new.cursor refl c.in_err-chunk.ensures.refused o

pub fed-requires-clause-stays : goal.fed-requires-clause-stays
fed-requires-clause-stays g c = c.requires.stays

pub fed-requires-clause-here : goal.fed-requires-clause-here
fed-requires-clause-here g c = c.requires.from ∙ ap From (sym c.as_ref.ensures.value) ∙ ap From (sym c.in_ok-chunk.ensures.chunk.begins)

pub fed-requires-clause-later : goal.fed-requires-clause-later
fed-requires-clause-later g c = λ k.
    let verdict = g.J.Judge.verdict in
    let key = c.requires.held.key in
    let o = c.requires.held.exporting in
    let was = c.args.self.now in
    let lawful = subst (λ z. IsLawful z (front was.cursor.0.1)) (ap (λ z. z.1.opening) o.here) c.position.ensures.lawful in
    let read = (keys_are_read verdict key was o c.requires.stays lawful (sym o.mode ∙ c.requires.up) k).seen in
    let later = head_later c.rows_tell_best.ensures c.words_spell_one_entry.ensures verdict key was o c.feed.new.cursor.0 c.feed.ensures.here.0 c.feed.ensures.prefix (option_copied c.as_ref.result) c.args.max c.in_ok-chunk.chunk c.in_ok-chunk.ensures.chunk in
    omega (arith, read, later)

pub fed-requires-clause-chunk : goal.fed-requires-clause-chunk
fed-requires-clause-chunk g c =
    let o = c.requires.held.exporting in
    range c.rows_tell_best.ensures c.words_spell_one_entry.ensures g.J.Judge.verdict c.requires.held.key c.args.self.now o c.feed.new.cursor.0 c.feed.ensures.here.0 c.feed.ensures.prefix (option_copied c.as_ref.result) c.args.max c.in_ok-chunk.chunk c.in_ok-chunk.ensures.chunk c.args.self.now.exporter.spec

pub fed-requires-clause-family : goal.fed-requires-clause-family
fed-requires-clause-family g c = λ k some.
    let o = c.requires.held.exporting in
    nets_family c.rows_tell_best.ensures c.words_spell_one_entry.ensures g.J.Judge.verdict c.requires.held.key c.args.self.now o c.feed.new.cursor.0 c.feed.ensures.here.0 c.feed.ensures.prefix (option_copied c.as_ref.result) c.args.max c.in_ok-chunk.chunk c.in_ok-chunk.ensures.chunk c.args.self.now.exporter.spec k some
    ∙ sym o.family ∙ ap (λ z. z.family) (sym o.spec)

pub returns-in_err-fed-clause-goes : goal.returns-in_err-fed-clause-goes
returns-in_err-fed-clause-goes g c = λ every key o.
    still_on g.J.Judge.verdict key c.args.self.now (record { exporter = c.fed.new.self; cursor = c.feed.new.cursor; marks = c.args.self.now.marks }) c.in_err-fed.ensures.refused c.feed.ensures.here.0 c.feed.ensures.prefix
    (c.feed.ensures.here.2 ∙ sym c.requires.up) (λ _. ap position_of c.feed.ensures.here.1) refl refl o

pub returns-clause-goes : goal.returns-clause-goes
returns-clause-goes g c = λ every key o.
    feeding_on g.J.Judge.verdict key c.args.self.now c.fed.new.self c.feed.new.cursor c.feed.ensures.here.2
    (fed_on c.rows_tell_best.ensures c.words_spell_one_entry.ensures g.J.Judge.verdict key c.args.self.now o c.feed.new.cursor.0 c.feed.ensures.here.0 c.feed.ensures.prefix (option_copied c.as_ref.result) c.args.max c.in_ok-chunk.chunk c.in_ok-chunk.ensures.chunk
    c.fed.new.self (sym o.mode ∙ c.requires.up) c.in_ok-fed.ensures.feeds c.in_ok-fed.ensures.stands (ap position_of c.feed.ensures.here.1) c.requires.up)

pub returns-clause-feeds : goal.returns-clause-feeds
returns-clause-feeds g c =
    let verdict = g.J.Judge.verdict in
    let key = c.requires.held.key in
    let o = c.requires.held.exporting in
    let was = c.args.self.now in
    let lawful = subst (λ z. IsLawful z (front was.cursor.0.1)) (ap (λ z. z.1.opening) o.here) c.position.ensures.lawful in
    part_of c.rows_tell_best.ensures c.words_spell_one_entry.ensures verdict key was o c.feed.new.cursor.0 c.feed.ensures.here.0 c.feed.ensures.prefix (option_copied c.as_ref.result) c.args.max c.in_ok-chunk.chunk c.in_ok-chunk.ensures.chunk
    c.fed.new.self c.feed.new.cursor.1 c.requires.stays lawful (sym o.mode ∙ c.requires.up) (c.requires.from ∙ ap From (sym c.as_ref.ensures.value)) c.in_ok-fed.ensures.feeds

pub returns-clause-more : goal.returns-clause-more
returns-clause-more g c = c.is_some.ensures ∙ sym (feeding_more c.fed.new.self c.feed.new.cursor c.args.self.now.marks c.in_ok-chunk.chunk c.feed.ensures.here.2 (c.in_ok-fed.ensures.feeds.flushing ∙ c.requires.stays) c.in_ok-fed.ensures.feeds.feed)

pub returns-clause-flush : goal.returns-clause-flush
returns-clause-flush g c =
    let fed = c.in_ok-fed.ensures.feeds in
    record { flushing = fed.flushing; stays = λ _. (fed.log, fed.left) }

pub returns-in_err-fed-clause-flush : goal.returns-in_err-fed-clause-flush
returns-in_err-fed-clause-flush g c =
    let same = c.in_err-fed.ensures.refused in
    record { flushing = ap (λ z. z.flushing) same; stays = λ _. (ap (λ z. z.log) same, ap (λ z. z.left) same) }

pub returns-clause-log : goal.returns-clause-log
returns-clause-log g c = c.in_ok-fed.ensures.feeds.log

pub returns-in_err-fed-clause-log : goal.returns-in_err-fed-clause-log
returns-in_err-fed-clause-log g c = ap (λ z. z.log) c.in_err-fed.ensures.refused
