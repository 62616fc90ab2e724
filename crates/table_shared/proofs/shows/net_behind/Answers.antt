use Rattle.std.proofs.Common.{◌-◌, ◌∙◌, subst}
use Rattle.std.specs.Prelude.{option_copied}
use Rattle.std.specs.Slice.{IsItemAt}
use Rattle.std.proofs.lemmas.Result.{IfOk-weaker}
use Rattle.table_shared.proofs.RowParts.{net_behind, nothing_behind}
use Rattle.table_shared.proofs.shows.net_behind.Goals as goal

pub returns-in-Some : goal.returns-in-Some
returns-in-Some c =
    let at = subst (λ r. IsItemAt c.args.rows.now (c.args.max - 1) r) c.in-Some.is c.get.ensures.lookup in
    IfOk-weaker c.net_after.result _ _
    (λ net is. is ∙ net_behind (option_copied c.args.from) c.args.rib.now.rows c.args.max c.args.rows.now c.in-Some.row.now c.requires.some c.requires.are_rows c.requires.rows at.3.0 at.1)
    c.net_after.ensures

pub returns-in-None : goal.returns-in-None
returns-in-None c =
    let at = subst (λ r. IsItemAt c.args.rows.now (c.args.max - 1) r) c.in-None.is c.get.ensures.lookup in
    nothing_behind (option_copied c.args.from) c.args.rib.now.rows c.args.max c.args.rows.now c.requires.some c.requires.rows at.3
