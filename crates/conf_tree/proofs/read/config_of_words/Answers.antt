use Rattle.std.proofs.Common.{List, subst, ◌∙◌}
use Rattle.conf_lex.specs.declared.word.Word.{Word}
use Rattle.conf_tree.specs.Sentence.{IsSentence}
use Rattle.conf_tree.specs.View.{statements_tree}
use Rattle.conf_tree.proofs.Refusals.{stop_at, deep_at}
use Rattle.conf_tree.proofs.read.config_of_words.Goals as goal

pub returns-in-Ok-clause-tree : goal.returns-in-Ok-clause-tree
returns-in-Ok-clause-tree c =
    let words = c.requires.words in
    (words.0, words.1, subst (λ (u : List Word). IsSentence u (statements_tree c.in-Ok.statements.items)) (c.deref.ensures.value ∙ words.2) c.in-Ok.ensures.tree)

pub stopped-requires-clause-stops : goal.stopped-requires-clause-stops
stopped-requires-clause-stops c =
    stop_at c.deref.result.now c.args.walked.now.words.items c.in-Err-Bad.field-0 c.in-Err-Bad.from c.in-Err-Bad.at _ _ c.in-Err-Bad.field-0-is c.in-Err-Bad.from-is c.in-Err-Bad.at-is c.deref.ensures.value c.in-Err-Bad.ensures.fault

pub deepened-requires-clause-deep : goal.deepened-requires-clause-deep
deepened-requires-clause-deep c = deep_at c.deref.result.now c.args.walked.now.words.items c.in-Err-TooDeep.field-0 c.in-Err-TooDeep.at _ c.in-Err-TooDeep.field-0-is c.in-Err-TooDeep.at-is c.deref.ensures.value c.in-Err-TooDeep.ensures.fault
