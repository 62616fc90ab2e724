use Rattle.std.proofs.Common.{ap, false, reverse, subst, sym, ◌∙◌}
use Rattle.export_lock.specs.Kept.{IsExports}
use Rattle.phase_room.specs.Locks.{export_terms}
use Rattle.phase_room.proofs.locks.lock_export.Goals as goal

pub new-requires : goal.new-requires
new-requires g c =
    let log = reverse c.args.log.value.items in
    let exports = g.P.Sends.exports c.args.played.now c.args.number in
    subst (λ z. IsExports g.J.Judge.verdict z c.begin-state.result)
    (sym
    (ap (λ z. export_terms (g.P.Sends.exports z c.args.number) c.of-2.result.value c.of-3.result.value.items c.of-4.result.value log) c.of.ensures
    ∙ ap (λ z. export_terms exports z c.of-3.result.value.items c.of-4.result.value log) c.of-2.ensures
    ∙ ap (λ z. export_terms exports c.args.cursor z.items c.of-4.result.value log) c.of-3.ensures
    ∙ ap (λ z. export_terms exports c.args.cursor c.args.before.now.items z log) c.of-4.ensures))
    (c.begin-state.ensures false (export_terms exports c.args.cursor c.args.before.now.items c.args.marks log) c.requires)
