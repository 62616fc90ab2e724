use Rattle.std.proofs.Common.{refl, sym, ◌∙◌}
use Rattle.core_machine.specs.Lines.{Act}
use Rattle.import_core.specs.declared.operation.Op.TheVariants.{Start}
use Rattle.run_tables.proofs.Routing.{item_read}
use Rattle.sys_run.proofs.Fitting.{start_fits}
use Rattle.sys_run.proofs.Starting.{starts_one, waits_one}
use Rattle.sys_run.proofs.player.Core.start_one.Goals as goal

pub apply-requires : goal.apply-requires
apply-requires g c = let h = c.requires.holds in (h.0, h.1, h.2, h.3, start_fits h.0 c.args.number)

pub returns-in_ok-apply-clause-core : goal.returns-in_ok-apply-clause-core
returns-in_ok-apply-clause-core g c = λ setup past s p are e.
    let core = c.args.self.now in
    let held = c.index.result.now in
    let act : Act = record { actor = 0; line = 0; protocol = c.args.number; op = Start } in
    let got = c.in_ok-apply.ensures.core setup past s act are refl refl in (
      got.0,
      starts_one g.J.Judge.verdict setup past s core are c.args.number p held got.0 e (item_read core.protocols.items c.args.number held c.requires.there c.index.ensures)
          (sym c.is_static.ensures ∙ c.if-is_static.true) got.1,
      got.2,
    )

pub returns-else-is_static-clause-core : goal.returns-else-is_static-clause-core
returns-else-is_static-clause-core g c = λ setup past s p are e.
    let core = c.args.self.now in
    let held = c.index.result.now in (
      s,
      waits_one g.J.Judge.verdict setup past s core are c.args.number p held e (item_read core.protocols.items c.args.number held c.requires.there c.index.ensures)
          (sym c.is_static.ensures ∙ c.if-is_static.false),
      are,
    )
