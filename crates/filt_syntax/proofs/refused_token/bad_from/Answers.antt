use Rattle.std.proofs.Common.{List, sym, subst}
use Rattle.conf_lex.specs.declared.word.Word.{Word}
use Rattle.conf_lex.specs.Sentences.{IsBegunWithin}
use Rattle.expr_syntax.specs.Syntax.{rule}
use Rattle.filt_syntax.proofs.RefusedTokens.{bad_there, tear_is}
use Rattle.filt_syntax.proofs.refused_token.bad_from.Goals as goal

pub bad_behind-requires-clause-begun : goal.bad_behind-requires-clause-begun
bad_behind-requires-clause-begun g c = subst (λ (u : List Word). IsBegunWithin rule 64 g.S.Sentences.form u) (sym c.in-Ok.ensures.items) c.requires.begun

pub returns-in-Ok : goal.returns-in-Ok
returns-in-Ok g c = bad_there g.S.Sentences.form c.args.words.now c.in-Ok.before.items c.args.place c.args.start c.tear_of-tear.result c.bad_behind.result c.in-Ok.ensures.items (tear_is c.tear_of-tear.result c.tail.result.now _ c.tear_of-tear.ensures c.tail.ensures) c.bad_behind.ensures
