use Rattle.std.proofs.Common.{None, refl, sym, subst, ◌∙◌}
use Rattle.export_core.specs.Standing.{standing_at}
use Rattle.core_setup.specs.Reports.{IsStandingReport}
use Rattle.room_report.proofs.exports.report_standing.Goals as goal

pub returns-else-is_up : goal.returns-else-is_up
returns-else-is_up g c = λ may.
    subst (λ up. IsStandingReport up (λ k. standing_at k c.args.exporter.now.log) None) (sym c.if-is_up.false ∙ c.is_up.ensures) refl
