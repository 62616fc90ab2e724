use Rattle.std.proofs.Common.{refl, ◌∙◌}
use Rattle.std.proofs.lemmas.Result.{err_from_is_err_and}
use Rattle.conf_lex.proofs.PartShapes.{fails_then}
use Rattle.expr_syntax.proofs.ItemSteps.{mask_atom_one, mask_atom_any, mask_atom_part}
use Rattle.expr_syntax.proofs.items.mask_atom.Goals as goal

pub returns-in-Some : goal.returns-in-Some
returns-in-Some c =
    mask_atom_one 0 c.args.words.now c.in-Some.rest.now c.in-Some.ensures

pub returns-in-Some-after : goal.returns-in-Some-after
returns-in-Some-after c =
    mask_atom_any 0 c.args.words.now c.in-Some-after.rest.now c.in-Some-after.ensures

pub returns-in_err-part-in-None : goal.returns-in_err-part-in-None
returns-in_err-part-in-None c =
    let p = err_from_is_err_and c.from_residual.result c.from_residual.ensures.1 in
    rw (p.1, p.2, mask_atom_part 0 c.args.words.now c.in_default.ensures c.in-None.ensures) (fails_then _ _ _ c.in_err-part-in-None.ensures)

pub returns-in_ok-part-in-None : goal.returns-in_ok-part-in-None
returns-in_ok-part-in-None c =
    mask_atom_part 0 c.args.words.now c.in_default.ensures c.in-None.ensures ∙ rw c.in_ok-part-in-None.ensures refl
