use Rattle.std.proofs.Common.{refl}
use Rattle.std.proofs.lemmas.Result.{IfOk-weaker}
use Rattle.expr_syntax.specs.Syntax.{block}
use Rattle.filt_syntax.proofs.Follows.{begun_by, stands_follow, fault_follow}
use Rattle.filt_syntax.proofs.followed.BlocksSentences.is_begun.Goals as goal
use Rattle.filt_syntax.proofs.followed.BlocksSentences.is_begun.Goals.{in-Ok, in-Err}

pub returns : goal.returns
returns c =
    let words = c.args.words.now in
    let next = c.requires in
    elim c.match-parse_block_words.branch [
      | in-Ok w ↦ rw w.result-is (begun_by block words next.0 next.1 next.2 _ (stands_follow block refl words next.0 next.1 next.2 _ w.in-Ok.end w.in-Ok.ensures.tree _ refl))
      | in-Err w ↦ rw w.result-is (IfOk-weaker w.ends_by.result _ _ (λ can h. begun_by block words next.0 next.1 next.2 can (fault_follow block refl words next.0 next.1 next.2 w.in-Err.fault next.3 w.in-Err.ensures.fault can h)) w.ends_by.ensures)
    ]
