use Rattle.std.proofs.Common.{refl}
use Rattle.text.specs.Lines.{words_of}
use Rattle.announcements.proofs.NumberRuns.{have_none, have_more}
use Rattle.announcements.proofs.add.read_numbers.Goals as goal

pub loop-number-init : goal.loop-number-init
loop-number-init c = have_none (words_of c.args.text.now) _ _ c.new.ensures.items refl

pub loop-number-preserved : goal.loop-number-preserved
loop-number-preserved c =
    have_more (words_of c.args.text.now) (words_of c.loop-number.rest.now) (words_of c.in-Some.after.now) c.loop-number.numbers.numbers.items c.keep_number.new.numbers.numbers.items
    c.loop-number.numbers.fit c.keep_number.new.numbers.fit c.in-Some.number c.loop-number.invariant c.in-Some.ensures.number c.in_ok-keep_number.ensures
