use Rattle.std.proofs.Common.{List, length, ap}
use Rattle.filt_code.specs.declared.code.Draft.{Draft}
use Rattle.filt_code.specs.declared.code.Routine.{Routine}
use Rattle.filt_compile.specs.declared.seen.Seen.{Seen}
use Rattle.filt_compile.proofs.Compiling as cm
use Rattle.filt_compile.proofs.drafts.compile.Goals as goal

pub returns-clause-means : goal.returns-clause-means
returns-clause-means c =
    let seen : Seen = record { alloc = c.args.alloc; constants = c.first.result; routines = c.first-routines.result } in
    let draft : Draft = record { functions = length c.first-routines.result.now; code = c.in_ok-code.code } in
    cm.code_flows seen c.args.constants.now c.args.routines.now c.args.filter.now draft c.deref.result.now c.deref-2.result.now c.first.ensures c.first-routines.ensures (ap (λ (rs : List Routine). length rs) c.first-routines.ensures) c.deref.ensures.value c.deref-2.ensures.value c.in_ok-code.ensures.0

pub returns-clause-cost : goal.returns-clause-cost
returns-clause-cost c =
    cm.costs_of c.deref.result.now c.args.filter.now.sorts.items c.deref-2.result.now c.args.filter.now.body.items c.in_ok-code.code.items c.deref.ensures.value c.deref-2.ensures.value c.in_ok-code.ensures.1
