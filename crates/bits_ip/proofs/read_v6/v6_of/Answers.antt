use Rattle.std.proofs.Common.{◌≡◌, [], ◌∷◌, sym, ◌∙◌, arith}
use Rattle.std.proofs.lemmas.Grind.{common_steps}
use Rattle.std.proofs.lemmas.Str.Pattern.{split_text_parts}
use Rattle.bits_ip.proofs.Colons.{v6_is_utf8, v6_shortened, v6_whole}
use Rattle.bits_ip.proofs.read_v6.v6_of.Goals as goal

pub returns-in_err-text : goal.returns-in_err-text
returns-in_err-text c = rw c.from_residual.ensures (λ n is.
    let utf8 = v6_is_utf8 c.args.text.now n is in grind (arith, common_steps))

pub returns-in-Some : goal.returns-in-Some
returns-in-Some c =
    let same : c.in_ok-text.text.now ≡ c.args.text.now = grind (arith, common_steps) in
    let parts = split_text_parts (58 ∷ 58 ∷ []) c.in_ok-text.text.now c.split_once.result c.split_once.ensures.cases in
    let cut = rw c.in-Some.is at parts in
    v6_shortened c.args.text.now c.in-Some.front.now c.in-Some.back.now c.shortened_of.result (sym same ∙ cut) c.shortened_of.ensures

pub returns-in-None : goal.returns-in-None
returns-in-None c =
    let same : c.in_ok-text.text.now ≡ c.args.text.now = grind (arith, common_steps) in
    let parts = split_text_parts (58 ∷ 58 ∷ []) c.in_ok-text.text.now c.split_once.result c.split_once.ensures.cases in
    let lacks = rw c.in-None.is at parts in
    let whole = v6_whole c.in_ok-text.text.now c.whole_of.result lacks c.whole_of.ensures in
    rw (← same) whole
