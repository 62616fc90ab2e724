use Rattle.std.proofs.Common.{ap, sym, ◌∙◌}
use Rattle.jour_rule.specs.Journal.{receipts}
use Rattle.jour.specs.Seats.{front, number_of}
use Rattle.phase_legal.specs.Stamps.{items_in}
use Rattle.phase_close.proofs.Marked.{all_marked}
use Rattle.phase_close.proofs.marks.retire_stamp.Goals as goal

pub returns-clause-marked : goal.returns-clause-marked
returns-clause-marked g c = λ key is number.
    let s = c.args.stamp in
    let told = c.retire.ensures in
    let start = ap (λ z. z.1.start) (c.requires.here ∙ sym told.list.0) in
    let said =
    ap (λ n. receipts n (number_of s.1.role) (front c.args.state.now.marks.1)) start
    ∙ ap (λ z. receipts c.retire.new.self.1.seen.terms.start (number_of s.1.role) z) (sym told.list.1)
    ∙ told.receipts
    in
    ap items_in told.list.1 ∙ all_marked g.J.Judge.verdict key c.args.state.now s said c.lawful.ensures is number
