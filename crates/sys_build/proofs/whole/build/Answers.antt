use Rattle.std.proofs.Common.{[], subst, sym}
use Rattle.std.proofs.lemmas.Result.{IfOk-weaker}
use Rattle.core_setup.specs.Setup.{IsSetup}
use Rattle.conf_system.specs.contracts.passes.PassesJudge.TheImpl as passes
use Rattle.sys_run.specs.Playing.{HasPlayed}
use Rattle.sys_build.proofs.whole.build.Goals as goal

pub make-requires-clause-few : goal.make-requires-clause-few
make-requires-clause-few c = c.in_ok-tables.ensures.few

pub make-requires-clause-setup : goal.make-requires-clause-setup
make-requires-clause-setup c =
    subst IsSetup (sym (c.in_ok-tables.ensures.setup c.args.cells c.args.queries.items)) c.requires.setup

pub returns : goal.returns
returns c =
    IfOk-weaker c.make.result _ _
    (λ core made actors.
    subst (λ s. HasPlayed (passes.ghosts).verdict s actors [] [] core)
    (c.in_ok-tables.ensures.setup c.args.cells c.args.queries.items)
    (made actors))
    c.make.ensures
