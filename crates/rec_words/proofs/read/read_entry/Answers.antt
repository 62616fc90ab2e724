use Rattle.std.proofs.Common.{sym, subst, arith, ◌∙◌}
use Rattle.std.proofs.lemmas.Bool.{eqb-true}
use Rattle.std.proofs.lemmas.List.{nil_from_length}
use Rattle.rec_words.proofs.Routes.{told_once}
use Rattle.rec_words.proofs.Takes.{IsWords, IsWords-drop}
use Rattle.rec_words.proofs.read.read_entry.Goals as goal

pub returns-clause-told : goal.returns-clause-told
returns-clause-told c = λ twice.
    let fits : IsWords c.split_at.result.1.now = subst IsWords (sym c.split_at.ensures.back) (IsWords-drop 5 c.args.words.now (λ i. omega (arith, c.type_inv.words i))) in
    let none = nil_from_length c.in_ok-best.end.now (eqb-true _ _ (sym c.is_empty.ensures ∙ c.if-not-is_empty.false)) in
    told_once _ _ _ _ _ _ _ fits c.in_ok-new.ensures c.in_ok-best.ensures none (c.is_one_route-is_new_best.ensures.new twice) (c.is_one_route-is_new_best.ensures.best twice) (c.is_one_route-is_new_best.ensures.twice twice)
