-- What the journals of a protocol's turns (`turns_terms`) and of a channel's marks (`marks_terms`)
-- are as a phase begins: one cell, which nobody reads from, and a maker for each hand, or one.
-- From: own.
-- Example: with three actors turns have four hands, the last one for starts.
use Rattle.std.specs.Prelude.{ℕ}
use Rattle.jour_rule.specs.declared.views.Terms.{Terms}

abbrev pub turns_terms : (hands : ℕ) → Terms ℕ
turns_terms hands =
    record { start = 0; cells = 1; cursors = 0; makers = hands; opening = hands }

abbrev pub marks_terms : Terms ℕ
marks_terms = record { start = 0; cells = 1; cursors = 0; makers = 1; opening = 1 }
