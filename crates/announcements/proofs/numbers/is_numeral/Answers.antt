use Rattle.std.proofs.Common.{◌<◌, length, arith}
use Rattle.std.proofs.lemmas.Grind.{common_steps}
use Rattle.announcements.proofs.Numerals.{numeral_tells}
use Rattle.announcements.proofs.numbers.is_numeral.Goals as goal

pub returns-then-not-is_empty : goal.returns-then-not-is_empty
returns-then-not-is_empty c =
    let some : 0 < length c.args.word.now = grind (arith, common_steps) in
    numeral_tells c.args.word.now c.are_digits.result c.are_digits.ensures some
