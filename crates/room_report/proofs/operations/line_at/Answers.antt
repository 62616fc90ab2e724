use Rattle.std.proofs.Common.{None, sym, ap, ◌∙◌, ◌-◌, ◌==◌}
use Rattle.std.specs.Prelude.{slice_get}
use Rattle.std.proofs.lemmas.Bool.{cond-false, ne_eqb}
use Rattle.room_report.specs.Inside.{line_before}
use Rattle.room_report.proofs.operations.line_at.Goals as goal

pub returns-then-place-eq0 : goal.returns-then-place-eq0
returns-then-place-eq0 c = sym (ap (line_before c.args.lines.now) c.if-place-eq0.true)

pub returns-else-place-eq0 : goal.returns-else-place-eq0
returns-else-place-eq0 c =
    c.nth_line.ensures
    ∙ sym (cond-false (c.args.place == 0) None (slice_get c.args.lines.now (c.args.place - 1)) (ne_eqb c.args.place 0 c.if-place-eq0.false))
