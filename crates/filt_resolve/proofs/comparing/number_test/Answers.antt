use Rattle.std.proofs.Common.{Ok, sym, ap, ◌∙◌}
use Rattle.filt_meaning.specs.Values.{Val, VInt}
use Rattle.filt_meaning.specs.Flow.{Run}
use Rattle.filt_meaning.specs.Meaning.{given, on_two, compare_of}
use Rattle.filt_resolve.proofs.Tested.{access_is}
use Rattle.filt_resolve.proofs.comparing.number_test.Goals as goal

pub returns-in_ok-found-in-Access : goal.returns-in_ok-found-in-Access
returns-in_ok-found-in-Access c = λ t. c.in_ok-found-in-Access.ensures t ∙ ap (λ (r : Run Val). on_two r (given (Ok (VInt c.args.number))) (compare_of c.args.op)) (sym (access_is t c.in-Access.of c.in-Access.more c.args.left.now c.deref.result.now c.deref-in-Access.result.now c.in-Access.is c.deref.ensures c.deref-in-Access.ensures.value))
