use Rattle.std.proofs.Common.{sym, subst, ℕ, List}
use Rattle.queries.specs.Question.{IsQuestion}
use Rattle.queries.specs.Seen.{asked}
use Rattle.text.specs.Lines.{behind_word, words_of}
use Rattle.script_lines.proofs.CommandParts.{no_show, show_acts}
use Rattle.script_lines.proofs.commands.show_line.Goals as goal

pub returns-in-Some-read_question : goal.returns-in-Some-read_question
returns-in-Some-read_question c =
    let bytes = behind_word c.args.rest.now in
    let question = asked c.in-Some-read_question.question in
    let P : List ℕ → Type 0 = λ l. IsQuestion l question in
    show_acts bytes c.args.named.now c.args.actor.now (words_of c.args.rest.now) (words_of c.in-Some.more.now) question c.judge_show.result c.in-Some.ensures.word
    (subst P c.in-Some.ensures.behind c.in-Some-read_question.ensures) c.judge_show.ensures

pub returns-in-None : goal.returns-in-None
returns-in-None c =
    let bytes = behind_word c.args.rest.now in
    no_show bytes (words_of c.args.rest.now)
    (λ more question cut is. c.in-None.ensures question (subst (λ l. IsQuestion l question) (sym c.in-Some.ensures.behind) is))
