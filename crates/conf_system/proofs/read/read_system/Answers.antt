use Rattle.std.proofs.Common.{[], append-nil, sym}
use Rattle.conf_ast.specs.Configurations.{configuration_of}
use Rattle.conf_system.proofs.Ordered.{ordered}
use Rattle.conf_system.proofs.Told.{check_told, held_told}
use Rattle.conf_system.proofs.Unrefused.{weighs}
use Rattle.conf_system.proofs.read.read_system.Goals as goal

pub returns-in-Err-check_config-clause-fault : goal.returns-in-Err-check_config-clause-fault
returns-in-Err-check_config-clause-fault c =
    check_told c.args.text.now c.in-Ok.tree.statements.items c.in-Err-check_config.fault c.refused-in-Err-check_config.result c.in-Ok.ensures.tree
    (rw c.in-Ok.ensures.text at c.in-Err-check_config.ensures.answer) c.refused-in-Err-check_config.ensures

pub returns-in-Ok-names-clause-system : goal.returns-in-Ok-names-clause-system
returns-in-Ok-names-clause-system c =
    held_told c.args.text.now c.in-Ok.tree.statements.items _ c.in-Ok.ensures.tree (rw c.in-Ok.ensures.text at c.in-Ok-check_config.ensures.answer)
    (rw c.in-Ok.ensures.text at c.in-Ok-check_config.ensures.checked) (rw c.deref.ensures.value at c.in-Ok-names.ensures)

pub returns-in-Ok-names-clause-ordered : goal.returns-in-Ok-names-clause-ordered
returns-in-Ok-names-clause-ordered c =
    let ds = configuration_of c.in-Ok.tree.statements.items in
    let none = rw c.in-Ok.ensures.text at c.in-Ok-check_config.ensures.answer in
    ordered c.args.text.now ds _ (rw c.in-Ok.ensures.text at c.in-Ok-check_config.ensures.checked)
    (λ before ss written. c.accepted_filters_are_never_stuck.ensures.stuck c.args.text.now ds before ss none written)
    (λ before ss written. weighs c.what_runs_agrees_with_what_is_declared.ensures.sorts c.what_runs_agrees_with_what_is_declared.ensures.weights c.what_runs_agrees_with_what_is_declared.ensures.refused c.args.text.now ds before ss none written)
    (c.what_runs_agrees_with_what_is_declared.ensures.sorts c.args.text.now ds ds [] none (sym (append-nil ds)))
