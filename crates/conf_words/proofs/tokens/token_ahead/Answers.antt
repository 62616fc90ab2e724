use Rattle.conf_scan.proofs.Spots.{no_more, none_stuck}
use Rattle.conf_words.proofs.tokens.token_ahead.Goals as goal

pub returns-in-Ok : goal.returns-in-Ok
returns-in-Ok c = no_more c.args.text.now c.args.spot c.in-Ok.found c.in-Ok.ensures.token

pub returns-in-Err : goal.returns-in-Err
returns-in-Err c = none_stuck c.args.text.now c.args.spot c.in-Err.field-0 c.in-Err.ensures.bad
