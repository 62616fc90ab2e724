use Rattle.std.proofs.Common.{List, subst}
use Rattle.conf_lex.specs.declared.word.Word.{Word}
use Rattle.filt_syntax.specs.declared.parse.SyntaxFault.{SyntaxFault}
use Rattle.filt_syntax.specs.Parse.{IsSyntaxFault}
use Rattle.filt_syntax.specs.RefusedToken.{IsBadFrom}
use Rattle.filt_syntax.proofs.RefusedTokens.{bad_told}
use Rattle.filt_syntax.proofs.tokens.told.Goals as goal

pub returns-in-Bad : goal.returns-in-Bad
returns-in-Bad g c =
    bad_told g.S.Sentences.form c.args.words.now.words.items c.args.words.now.starts.items c.args.end c.in-Bad.at c.token_at.result c.args.fault c.bad_from.result c.in-Bad.is c.token_at.ensures (subst (λ (u : List Word). IsBadFrom g.S.Sentences.form u c.in-Bad.at c.token_at.result c.bad_from.result) c.deref.ensures.value c.bad_from.ensures)

pub returns-in-Unsupported : goal.returns-in-Unsupported
returns-in-Unsupported g c = absurd (subst (λ (e : SyntaxFault). IsSyntaxFault g.S.Sentences.form c.args.words.now.words.items 0 e) c.in-Unsupported.is c.requires.refused)
