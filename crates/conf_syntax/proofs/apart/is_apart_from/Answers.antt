use Rattle.std.proofs.Common.{sym, ◌∙◌}
use Rattle.std.proofs.lemmas.Bool.{false≢true}
use Rattle.conf_syntax.proofs.Never.{option_never, prefix_never}
use Rattle.conf_syntax.proofs.apart.is_apart_from.Goals as goal
use Rattle.conf_syntax.proofs.apart.is_apart_from.Goals.{then-is_prefix, else-is_prefix}

pub returns-then-is_option : goal.returns-then-is_option
returns-then-is_option c = λ none front cut.
    option_never c.args.before.now front c.args.last.now c.args.word.now c.has.result none cut c.has.ensures (sym c.is_option.ensures ∙ c.if-is_option.true)

pub returns-then-is_address : goal.returns-then-is_address
returns-then-is_address c = λ bars front cut.
    c.bars_addresses.ensures bars front cut c.args.word.now (sym c.is_address.ensures ∙ c.if-is_address.true)

pub returns-then-is_end : goal.returns-then-is_end
returns-then-is_end c = λ none front cut. elim c.if-is_prefix.branch [
  | then-is_prefix w ↦ prefix_never c.args.before.now front c.args.last.now c.args.word.now c.has-then-is_end.result none cut c.has-then-is_end.ensures (sym w.is_end.ensures ∙ sym w.value-is ∙ c.if-is_end.true) (sym c.is_prefix.ensures ∙ w.if-is_prefix.true)
  | else-is_prefix w ↦ absurd (false≢true (sym w.if-is_prefix.false ∙ sym w.value-is ∙ c.if-is_end.true))
]
