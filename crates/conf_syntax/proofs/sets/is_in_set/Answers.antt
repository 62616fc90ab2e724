use Rattle.std.proofs.Common.{[], refl, sym, ◌∙◌, append-nil}
use Rattle.conf_syntax.proofs.LastBracket.{last_gone, bracket_here, none_yet}
use Rattle.conf_syntax.proofs.sets.is_in_set.Goals as goal

pub loop-left-init : goal.loop-left-init
loop-left-init c = ([], sym (append-nil c.args.words.now), refl)

pub returns-then-is_bracket : goal.returns-then-is_bracket
returns-then-is_bracket c = λ yes.
    let i = c.loop-left.invariant in
    bracket_here c.args.words.now c.loop-left.left.now i.0 _ _ c.in-len1-up.len_at_least c.word-item.is i.1 i.2 (sym c.opens_set.ensures ∙ yes)

pub loop-left-preserved : goal.loop-left-preserved
loop-left-preserved c =
    let i = c.loop-left.invariant in
    (_, last_gone c.args.words.now c.loop-left.left.now i.0 _ c.in-len1-up.len_at_least i.1, none_yet _ _ i.0 c.word-item.is (sym c.is_bracket.ensures ∙ c.if-is_bracket.false) i.2)
