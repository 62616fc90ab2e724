use Rattle.std.proofs.Common.{◌≡◌, [], subst, arith}
use Rattle.sys_run.specs.Made.{AreFound, found_from}
use Rattle.sys_run.proofs.MakingWays.{found_none, found_push}
use Rattle.sys_run.proofs.ways.begun.Goals as goal

pub loop-table-init : goal.loop-table-init
loop-table-init c = found_none c.new-found.result.items (found_from [] c.args.home 0) c.new-found.ensures.items

pub loop-table-preserved : goal.loop-table-preserved
loop-table-preserved c = found_push c.loop-table.table c.loop-table.found.items c.push.new.self.items c.begin_at.result (found_from [] c.args.home 0) c.in_ok-push.ensures.items c.begin_at.ensures c.loop-table.invariant

pub returns : goal.returns
returns c = subst (λ n. AreFound n c.loop-table.found.items (found_from [] c.args.home 0)) (let e : c.loop-table.table ≡ c.args.tables = omega (arith, c.loop-table-test.false, c.loop-table.auto.table-end) in e) c.loop-table.invariant
