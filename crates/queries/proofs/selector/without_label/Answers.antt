use Rattle.text.specs.Lines.{words_of}
use Rattle.queries.proofs.Selectors.{selects_exact, selects_all}
use Rattle.queries.proofs.selector.without_label.Goals as goal

pub returns-in-Some : goal.returns-in-Some
returns-in-Some c = selects_exact c.args.text.now c.args.word.now c.args.behind.now c.in-Some.net c.requires.cut c.requires.behind c.in-Some.ensures

pub returns-in-None : goal.returns-in-None
returns-in-None c = selects_all c.args.text.now c.args.word.now (words_of c.args.behind.now) c.requires.cut c.requires.no_for c.requires.no_in c.in-None.ensures
