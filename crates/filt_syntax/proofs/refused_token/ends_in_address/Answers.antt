use Rattle.std.proofs.Common.{◌↔◌, IsTrue, List, sym, subst, arith}
use Rattle.std.specs.Prelude.{IfOk}
use Rattle.conf_lex.specs.declared.word.Word.{Word}
use Rattle.filt_syntax.specs.RefusedToken.{EndInAddress}
use Rattle.filt_syntax.proofs.Follows.{begun_before}
use Rattle.filt_syntax.proofs.RefusedTokens.{none_ends}
use Rattle.filt_syntax.proofs.refused_token.ends_in_address.Goals as goal

pub is_prefix_place-requires : goal.is_prefix_place-requires
is_prefix_place-requires g c = begun_before g.S.Sentences.form c.args.before.now.items c.pop.new.self.items c.in-Some.last c.in-Some.ensures.items c.requires

pub returns-in-Some : goal.returns-in-Some
returns-in-Some g c = subst (λ (u : List Word). IfOk c.is_prefix_place.result (λ found. IsTrue found ↔ EndInAddress g.S.Sentences.form u)) (sym c.in-Some.ensures.items) c.is_prefix_place.ensures

pub returns-in-None : goal.returns-in-None
returns-in-None g c = none_ends g.S.Sentences.form c.args.before.now.items (omega (arith, c.in-None.ensures.cases.0, c.args.before.now.ok))
