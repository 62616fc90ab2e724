use Rattle.std.proofs.Common.{refl}
use Rattle.filt_code.specs.declared.code.Routine.{Routine}
use Rattle.filt_compile.specs.declared.seen.Seen.{Seen}
use Rattle.filt_compile.proofs.Compiling as cm
use Rattle.filt_compile.proofs.drafts.routine.Goals as goal

pub returns : goal.returns
returns c =
    let seen : Seen = record { alloc = c.args.alloc; constants = c.first.result; routines = c.args.routines } in
    let made : Routine = record { parameters = c.deref-3.result; gives = c.args.function.now.gives; code = c.in_ok-code.code } in
    (cm.function_code seen c.args.constants.now c.args.routines.now c.args.function.now made c.deref.result.now c.deref-2.result.now c.first.ensures refl c.deref.ensures.value c.deref-2.ensures.value refl c.in_ok-code.ensures.0, cm.costs_of c.deref.result.now c.args.function.now.sorts.items c.deref-2.result.now c.args.function.now.body.items c.in_ok-code.code.items c.deref.ensures.value c.deref-2.ensures.value c.in_ok-code.ensures.1)
