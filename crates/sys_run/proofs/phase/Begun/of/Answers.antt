use Rattle.std.proofs.Common.{◌==◌, length, map, ap, ◌∙◌}
use Rattle.run_tables.specs.declared.table.Table.{Table}
use Rattle.sys_run.specs.Phase.{logged_in}
use Rattle.sys_run.proofs.Reporting.{began}
use Rattle.sys_run.proofs.phase.Begun.of.Goals as goal

pub returns : goal.returns
returns g c = λ setup past phases s rests.
    began g.J.Judge.verdict setup phases past s c.args.core.now (record { heads = c.in_ok-heads_of.field-0; logged = c.in_ok-logged_of.field-0 }) rests
    (c.in_ok-heads_of.ensures ∙ ap (map (λ (table : Table). length table.entries.items)) c.deref.ensures.value)
    (c.in_ok-logged_of.ensures ∙ ap (map (logged_in (c.args.core.now.phases == 0))) c.deref-2.ensures.value)
