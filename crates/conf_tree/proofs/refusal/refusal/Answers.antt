use Rattle.std.proofs.Common.{List, drop, refl, sym, ap, subst, ◌∙◌}
use Rattle.conf_lex.specs.declared.word.Word.{Word}
use Rattle.conf_lex.specs.Sentences.{IsBegunWithin}
use Rattle.expr_syntax.specs.Syntax.{rule}
use Rattle.filt_syntax.proofs.RefusedTokens.{bad_there, tear_is}
use Rattle.conf_syntax.specs.Syntax.{config}
use Rattle.conf_tree.proofs.Known.{not_both}
use Rattle.conf_tree.proofs.Refusals.{bad_refuses}
use Rattle.conf_tree.proofs.refusal.refusal.Goals as goal

pub bad_behind-requires-clause-begun : goal.bad_behind-requires-clause-begun
bad_behind-requires-clause-begun c = subst (λ (u : List Word). IsBegunWithin rule 64 config u) (sym c.in-Ok-false.ensures.left) c.requires.begun

pub returns-in-Ok-true : goal.returns-in-Ok-true
returns-in-Ok-true c = λ tokens lexes. (refl, (c.in-Ok-true.ensures.known tokens lexes).0 c.in-Ok-true.field-0-test)

pub returns-in-Ok-false : goal.returns-in-Ok-false
returns-in-Ok-false c = λ tokens lexes.
    bad_refuses _ c.args.words.now.items c.args.place 0 c.bad_behind.result (λ known. not_both c.in-Ok-false.field-0 ((c.in-Ok-false.ensures.known tokens lexes).1 known) c.in-Ok-false.field-0-test)
    (bad_there config c.args.words.now.items c.is_known.new.words.items c.args.place 0 c.tear_of-tear.result c.bad_behind.result c.in-Ok-false.ensures.left (tear_is c.tear_of-tear.result c.tail.result.now _ c.tear_of-tear.ensures (c.tail.ensures ∙ ap (λ (u : List Word). drop c.args.place u) c.deref.ensures.value)) c.bad_behind.ensures)
