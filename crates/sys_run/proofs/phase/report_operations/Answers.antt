use Rattle.std.proofs.Common.{◌≡◌, ◌<◌, ◌≤◌, List, [], length, refl, sym, ap, subst, ◌∙◌, arith}
use Rattle.std.specs.declared.alloc.Global.{Global}
use Rattle.std.specs.declared.vec.Vec.{Vec}
use Rattle.import_core.specs.declared.step.Done.{Done}
use Rattle.core_setup.specs.Pairs.{Pairs}
use Rattle.core_setup.proofs.PairLemmas.{one_here, pairs_end, pairs_length, pairs_turn}
use Rattle.report.specs.declared.phase.ProtocolReport.{ProtocolReport}
use Rattle.sys_run.specs.Phase.{IsOperationsOf}
use Rattle.sys_run.proofs.ReportingLoops.{IsEmptiedTo, emptied_all, emptied_more, emptied_none}
use Rattle.run_tables.proofs.Routing.{item_read}
use Rattle.sys_run.proofs.phase.report_operations.Goals as goal

pub copy_name-requires : goal.copy_name-requires
copy_name-requires g c = omega (arith, c.args.protocols.now.ok.0, c.requires)

pub loop-number-init : goal.loop-number-init
loop-number-init g c =
    (subst (λ (l : List ProtocolReport). Pairs (IsOperationsOf {J = g.row.J.Denot} c.args.names.now) 0 [] l) (sym c.new-reports.ensures) tt, emptied_none c.args.protocols.now.items)

pub loop-number-preserved : goal.loop-number-preserved
loop-number-preserved g c =
    let old = c.args.protocols.now.items in
    let now = c.loop-number.protocols.items in
    let k = c.loop-number.number in
    let held = c.index_mut.result.now in
    let is = c.loop-number.invariant.1 in
    let w : k < length now = omega (arith, c.args.protocols.now.ok.0, pairs_length (IsEmptiedTo k) 0 old now is) in
    let eh = item_read now k held w c.index_mut.ensures.value in
    let first = one_here (IsEmptiedTo k) old now is k held eh in
    let none : c.replace-done.new.dest.items ≡ [] = ap (λ (v : Vec Done Global). v.items) c.replace-done.ensures.after ∙ c.new.ensures.items in (
      pairs_turn (IsOperationsOf c.args.names.now) old c.loop-number.reports c.push.new.self k first.0 (record { name = c.in_ok-name.name; ops = c.from_vec-ops.result }) first.1 c.in_ok-push.ensures.pushed c.loop-number.invariant.0
          (record { name = c.in_ok-name.ensures; ops = c.from_vec-ops.ensures ∙ ap (λ (v : Vec Done Global). v.items) c.replace-done.ensures.value ∙ first.2.rest (let le : k ≤ k = omega arith in le) }),
      emptied_more k old now held _ eh refl refl refl none is,
    )

pub returns-clause-reports : goal.returns-clause-reports
returns-clause-reports g c =
    pairs_end (IsOperationsOf c.args.names.now) c.args.protocols.now.items c.loop-number.reports c.loop-number.number (omega (arith, c.args.protocols.now.ok.0)) c.loop-number.invariant.0

pub returns-clause-emptied : goal.returns-clause-emptied
returns-clause-emptied g c =
    emptied_all c.loop-number.number c.args.protocols.now.items c.loop-number.protocols.items (omega (arith, c.args.protocols.now.ok.0)) c.loop-number.invariant.1
