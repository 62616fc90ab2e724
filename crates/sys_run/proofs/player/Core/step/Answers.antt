use Rattle.std.proofs.Common.{refl, sym, subst}
use Rattle.std.proofs.lemmas.Result.{on_ok_weaker}
use Rattle.core_machine.specs.Machine.{Steps}
use Rattle.core_setup.specs.Protocols.{rules_of}
use Rattle.sys_run.specs.Scripts.{FitsLine, line_of}
use Rattle.sys_run.proofs.player.Core.step.Goals as goal

pub take-requires : goal.take-requires
take-requires g c = let h = c.requires.holds in (h.0, h.1, h.2, h.3)

pub push-requires : goal.push-requires
push-requires g c = let h = c.requires.holds in (h.0, h.1, h.2, h.3)

pub apply-requires : goal.apply-requires
apply-requires g c = let h = c.requires.holds in (h.0, h.1, h.2, h.3, subst (FitsLine h.0) c.in-Apply.is h.4)

pub show-requires-clause-holds : goal.show-requires-clause-holds
show-requires-clause-holds g c = let h = c.requires.holds in (h.0, h.1, h.2, h.3)

pub returns-in-Apply-clause-core : goal.returns-in-Apply-clause-core
returns-in-Apply-clause-core g c = on_ok_weaker c.apply.result (λ done setup past s are.
    let got = done setup past s (record { actor = c.in-Apply.actor; line = c.in-Apply.line; protocol = c.in-Apply.protocol; op = c.in-Apply.op }) are refl refl in
    (got.0, subst (λ l. Steps (rules_of setup) (line_of setup.queries l) s got.0) (sym c.in-Apply.is) got.1, got.2)) c.apply.ensures.core
