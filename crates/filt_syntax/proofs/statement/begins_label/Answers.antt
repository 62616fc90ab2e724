use Rattle.std.proofs.Common.{sym as flip, ◌∙◌}
use Rattle.conf_lex.proofs.PartShapes.{next_word}
use Rattle.filt_syntax.proofs.ArmSteps.{label_named, label_unnamed}
use Rattle.filt_syntax.proofs.statement.begins_label.Goals as goal

pub returns-in_default : goal.returns-in_default
returns-in_default c =
    c.begins_item.ensures ∙ flip (label_unnamed c.args.words.now c.in-Some.word c.in-Some.rest.now c.in-Some.ensures c.in_default.not-Name)

pub returns-in-Name : goal.returns-in-Name
returns-in-Name c =
    c.goes_on_as_label.ensures ∙ flip (label_named _ _ _ c.args.words.now c.in-Some.rest.now (next_word c.args.words.now c.in-Some.rest.now c.in-Some.word _ c.in-Some.ensures c.in-Name.is))
