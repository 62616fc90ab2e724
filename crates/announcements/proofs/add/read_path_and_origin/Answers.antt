use Rattle.text.specs.Lines.{words_of}
use Rattle.announcements.proofs.AddParts.{no_origin}
use Rattle.announcements.proofs.add.read_path_and_origin.Goals as goal

pub returns-in_default : goal.returns-in_default
returns-in_default c =
    no_origin (words_of c.args.rest.now) (words_of c.in_ok-numbers.rest.now) c.in_ok-numbers.ensures.raw c.in_ok-numbers.ensures.begin c.in_default.ensures
