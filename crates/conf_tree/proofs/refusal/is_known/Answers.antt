use Rattle.std.proofs.Common.{◌≡◌, ◌↔◌, IsTrue, List, drop, ap, sym, subst, ◌∙◌}
use Rattle.std.specs.Prelude.{IfOk, OnOk}
use Rattle.std.proofs.lemmas.Result.{IfOk-weaker}
use Rattle.conf_lex.specs.declared.word.Word.{Word}
use Rattle.conf_lex.specs.Sentences.{IsBegunWithin}
use Rattle.expr_syntax.specs.Syntax.{rule}
use Rattle.conf_syntax.specs.Syntax.{config}
use Rattle.conf_tree.specs.Sentence.{word_bytes, IsUnsupported}
use Rattle.conf_tree.proofs.Known.{known_some, known_none}
use Rattle.conf_tree.proofs.refusal.is_known.Goals as goal

pub is_unsupported-requires : goal.is_unsupported-requires
is_unsupported-requires c = subst (λ (u : List Word). IsBegunWithin rule 64 config u) (sym c.truncate.ensures.items) c.requires.begun

pub returns-in-Some-clause-known : goal.returns-in-Some-clause-known
returns-in-Some-clause-known c = λ tokens lexes.
    let rest = c.tail.ensures ∙ ap (λ (u : List Word). drop c.args.place u) c.deref.ensures.value in
    let is = ap (λ (u : List Word). word_bytes u c.args.text.now tokens) (sym rest) ∙ c.in-Some.ensures tokens lexes in
    IfOk-weaker c.is_unsupported.result _ _ (λ found h. known_some _ c.in-Some.word.now _ is found h)
    (subst (λ (u : List Word). IfOk c.is_unsupported.result (λ found. IsTrue found ↔ IsUnsupported u c.in-Some.word.now)) c.truncate.ensures.items c.is_unsupported.ensures.found)

pub returns-in-Some-clause-left : goal.returns-in-Some-clause-left
returns-in-Some-clause-left c = subst (λ (u : List Word). OnOk c.is_unsupported.result (c.is_unsupported.new.before.items ≡ u)) c.truncate.ensures.items c.is_unsupported.ensures.same

pub returns-in-None-clause-known : goal.returns-in-None-clause-known
returns-in-None-clause-known c = λ tokens lexes.
    let rest = c.tail.ensures ∙ ap (λ (u : List Word). drop c.args.place u) c.deref.ensures.value in
    known_none _ _ (ap (λ (u : List Word). word_bytes u c.args.text.now tokens) (sym rest) ∙ c.in-None.ensures tokens lexes)
