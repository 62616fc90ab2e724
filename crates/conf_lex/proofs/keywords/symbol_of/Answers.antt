use Rattle.std.proofs.Common.{◌≡◌, ◌∙◌, true, length, arith, nat_le, not, ◌&&◌, List, ℕ, ap}
use Rattle.std.proofs.lemmas.Bool.Decides.{nat_tests}
use Rattle.conf_lex.specs.Symbols.{lookup, spellings_of}
use Rattle.conf_lex.proofs.Spelled.{of_length, of_more_is, one_byte}
use Rattle.conf_lex.proofs.keywords.symbol_of.Goals as goal

pub returns-in-1 : goal.returns-in-1
returns-in-1 c = c.of_one.ensures ∙ ap (λ (l : List ℕ). lookup l (spellings_of 1)) (one_byte c.args.bytes.now 0 c.in-1.is) ∙ of_length c.args.bytes.now 1 (omega arith)

pub returns-in-2 : goal.returns-in-2
returns-in-2 c = c.of_two.ensures ∙ of_length c.args.bytes.now 2 (omega arith)

pub returns-in-3 : goal.returns-in-3
returns-in-3 c = c.of_three.ensures ∙ of_length c.args.bytes.now 3 (omega arith)

pub returns-in-4 : goal.returns-in-4
returns-in-4 c = c.of_four.ensures ∙ of_length c.args.bytes.now 4 (omega arith)

pub returns-in-5 : goal.returns-in-5
returns-in-5 c = c.of_five.ensures ∙ of_length c.args.bytes.now 5 (omega arith)

pub returns-in-6 : goal.returns-in-6
returns-in-6 c = c.of_six.ensures ∙ of_length c.args.bytes.now 6 (omega arith)

pub returns-in-7 : goal.returns-in-7
returns-in-7 c = c.of_seven.ensures ∙ of_length c.args.bytes.now 7 (omega arith)

pub returns-in-8 : goal.returns-in-8
returns-in-8 c = c.of_eight.ensures ∙ of_length c.args.bytes.now 8 (omega arith)

pub returns-in_default : goal.returns-in_default
returns-in_default c =
    let other : not (nat_le 1 (length c.args.bytes.now) && nat_le (length c.args.bytes.now) 8) ≡ true = grind (arith, nat_tests) in
    c.of_more.ensures ∙ of_more_is c.args.bytes.now other
