use Rattle.std.proofs.Common.{sym, subst}
use Rattle.bits_ip.specs.declared.address.Addr.{Addr}
use Rattle.conf_lex.specs.Walks.{IsWordStep}
use Rattle.conf_lex.specs.Words.{prefix_word}
use Rattle.conf_lex.specs.declared.word.Word.{Word}
use Rattle.conf_lex.proofs.Walks.{word_bare, word_prefix}
use Rattle.conf_lex.proofs.ahead.address_word.Goals as goal

pub returns-in-Some : goal.returns-in-Some
returns-in-Some c = λ from t step is.
    let P : Addr → Type 0 = λ a. IsWordStep c.args.text.now from (prefix_word c.args.at a c.in-Some.len) c.in-Some.end in
    subst (λ (w : Word). IsWordStep c.args.text.now from w c.in-Some.end) (sym c.prefix_word.ensures)
    (subst P (sym c.addr.ensures) (word_prefix c.args.text.now from c.args.behind c.in-Some.end t c.args.at c.args.addr c.in-Some.len step is c.in-Some.ensures))

pub returns-in-None : goal.returns-in-None
returns-in-None c = λ from t step is. word_bare c.args.text.now from c.args.behind t c.args.at c.args.addr step is c.in-None.ensures
