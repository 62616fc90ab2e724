use Rattle.std.proofs.Common.{◌+◌, ◌-◌, ◌≡◌, length, refl, arith}
use Rattle.conf_lex.specs.Grammar.{Bad}
use Rattle.conf_lex.specs.Reading.{Failed}
use Rattle.conf_lex.proofs.PartShapes.{bad_from}
use Rattle.conf_tree.specs.Readers.{whole_at}
use Rattle.conf_tree.proofs.Refusals.{answer_stop, answer_deep, stop_fewer, deep_fewer, stops_in, last_within}
use Rattle.conf_tree.proofs.Whole.{got_sentence}
use Rattle.conf_tree.proofs.read.statements_of.Goals as goal

pub place_in-requires : goal.place_in-requires
place_in-requires c = stop_fewer c.args.words.now c.in-Err-Bad.rest.now (answer_stop c.args.words.now c.args.words.now c.in-Err-Bad.field-0 c.in-Err-Bad.rest refl c.in-Err-Bad.field-0-is c.in-Err-Bad.ensures.read)

pub place_in-requires-in-Err-TooDeep : goal.place_in-requires-in-Err-TooDeep
place_in-requires-in-Err-TooDeep c = deep_fewer c.args.words.now c.in-Err-TooDeep.rest.now (answer_deep c.args.words.now c.args.words.now c.in-Err-TooDeep.field-0 c.in-Err-TooDeep.rest refl c.in-Err-TooDeep.field-0-is c.in-Err-TooDeep.ensures.read)

pub returns-in-Ok-clause-tree : goal.returns-in-Ok-clause-tree
returns-in-Ok-clause-tree c = got_sentence c.args.words.now _ _ c.in-Ok.ensures.read

pub returns-in-Err-Bad-clause-fault : goal.returns-in-Err-Bad-clause-fault
returns-in-Err-Bad-clause-fault c =
    let ws = c.args.words.now in
    let left = c.config.new.unread in
    let within = last_within ws left c.config.ensures.last in
    let failed : whole_at 64 ws ≡ Failed Bad c.in-Err-Bad.rest.now = bad_from c.in-Err-Bad.field-0 c.in-Err-Bad.rest (whole_at 64 ws) c.in-Err-Bad.field-0-is c.in-Err-Bad.ensures.read in
    let begins : (length ws - left) + left ≡ length ws = omega (arith, within) in
    stops_in ws left (length ws - left) c.place_in.result c.in-Err-Bad.rest.now c.config.ensures.last begins c.place_in.ensures failed

pub returns-in-Err-TooDeep-clause-fault : goal.returns-in-Err-TooDeep-clause-fault
returns-in-Err-TooDeep-clause-fault c = (c.in-Err-TooDeep.rest.now, c.place_in-in-Err-TooDeep.ensures, answer_deep c.args.words.now c.args.words.now c.in-Err-TooDeep.field-0 c.in-Err-TooDeep.rest refl c.in-Err-TooDeep.field-0-is c.in-Err-TooDeep.ensures.read)
