use Rattle.birdcore_top.specs.Command.{command_of}
use Rattle.birdcore_top.proofs.Sure.{none_failed, none_rose, sink_takes}
use Rattle.birdcore_top.proofs.surely.do_surely.Goals as goal

pub returns-clause-complete : goal.returns-clause-complete
returns-clause-complete g c = λ o required.
    c.top.ensures.exact o required (none_failed (command_of c.args.words.now) o (λ name. 0) (λ name. 0) (λ name. none_rose)) (sink_takes o 0 0 none_rose)
