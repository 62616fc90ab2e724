use Rattle.std.proofs.Common.{List, [], ◌∷◌, ◌++◌, sym, subst}
use Rattle.conf_lex.specs.declared.word.Word.{Word}
use Rattle.conf_lex.specs.Sentences.{IsBegun}
use Rattle.expr_syntax.specs.Syntax.{rule}
use Rattle.conf_syntax.specs.Syntax.{config}
use Rattle.conf_syntax.proofs.joined.end_before_prefix.Goals as goal

pub returns-in-Some : goal.returns-in-Some
returns-in-Some c = λ yes begun w net.
    let cut = c.in-Some.ensures.cases.0 in
    subst (λ (u : List Word). IsBegun rule config (u ++ w ∷ [])) (sym cut) (c.takes_prefix.ensures yes (subst (IsBegun rule config) cut begun) w net)
