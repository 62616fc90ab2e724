use Rattle.std.proofs.Common.{refl}
use Rattle.conf_scan.proofs.Spots.{stepped}
use Rattle.conf_scan.proofs.lexer.next_token.Goals as goal

pub returns-clause-token : goal.returns-clause-token
returns-clause-token c =
    stepped c.args.text.now c.tail.result.now c.tail-rest.result.now c.args.spot.at c.gap_len.result c.requires.within c.tail.ensures c.gap_len.ensures.within c.gap_len.ensures.gap c.tail-rest.ensures
    c.args.spot _ c.in-Some.kind c.in-Some.len refl refl c.in-Some.ensures c.plain_until-plain.ensures.plain
