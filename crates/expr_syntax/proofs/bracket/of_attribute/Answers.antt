use Rattle.std.proofs.Common.{◌∙◌}
use Rattle.std.proofs.lemmas.Result.{err_from_is_err_and}
use Rattle.conf_lex.specs.Grammar.{Leaf}
use Rattle.conf_lex.specs.Kind.{is_attribute}
use Rattle.conf_lex.proofs.PartShapes.{word_got}
use Rattle.expr_syntax.specs.Levels.{attribute_level}
use Rattle.expr_syntax.proofs.Steps.{level_unopened, level_end_fails, level_got, attribute_inside, attribute_passes, level_attribute_bad}
use Rattle.conf_lex.specs.declared.word.Word.TheVariants as words
use Rattle.expr_syntax.proofs.bracket.of_attribute.Goals as goal

pub returns-in_err-_below : goal.returns-in_err-_below
returns-in_err-_below c =
    let p = err_from_is_err_and c.from_residual.result c.from_residual.ensures.1 in
    rw (p.1, p.2) (level_unopened attribute_level c.args.depth_left c.args.words.now c.in_err-_below.field-0.0 (c.in_err-_below.ensures attribute_level))

pub returns-in_default : goal.returns-in_default
returns-in_default c =
    let u = c.in_ok-_below.inside.now in
    level_attribute_bad c.args.depth_left c.in_ok-_below._below c.in_ok-_below.open c.args.words.now u c.in_ok-_below.ensures.1 c.in_ok-_below.ensures.0 c.in_default.ensures

pub returns-in_err-rest : goal.returns-in_err-rest
returns-in_err-rest c =
    let p = err_from_is_err_and c.from_residual-in_err-rest.result c.from_residual-in_err-rest.ensures.1 in
    let b = c.in_ok-_below._below in
    let u = c.in_ok-_below.inside.now in
    let w = words.Attribute c.in-Some.at c.in-Some.attribute in
    let got = attribute_inside b u ∙ word_got is_attribute u w c.in-Some.end.now c.in-Some.ensures (attribute_passes c.in-Some.at c.in-Some.attribute) in
    rw (p.1, p.2) (level_end_fails attribute_level c.args.depth_left b c.in_ok-_below.open c.args.words.now u (Leaf w) c.in-Some.end.now c.in_err-rest.field-0.0 c.in_ok-_below.ensures.1 c.in_ok-_below.ensures.0 got c.in_err-rest.ensures.gives)

pub returns : goal.returns
returns c =
    let b = c.in_ok-_below._below in
    let u = c.in_ok-_below.inside.now in
    let w = words.Attribute c.in-Some.at c.in-Some.attribute in
    let got = attribute_inside b u ∙ word_got is_attribute u w c.in-Some.end.now c.in-Some.ensures (attribute_passes c.in-Some.at c.in-Some.attribute) in
    level_got attribute_level c.args.depth_left b c.in_ok-_below.open c.args.words.now u (Leaf w) c.in-Some.end.now c.in_ok-rest.rest.now c.in_ok-_below.ensures.1 c.in_ok-_below.ensures.0 got c.in_ok-rest.ensures.gives
