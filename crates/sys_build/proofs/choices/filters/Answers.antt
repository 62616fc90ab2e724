use Rattle.std.proofs.Common.{ℕ, List, map, arith}
use Rattle.std.proofs.lemmas.List.{length-map}
use Rattle.conf_system.specs.contracts.passes.PassesJudge.TheImpl as passes
use Rattle.conf_system.specs.Policies.{Filter}
use Rattle.conf_system.specs.Seen.{system_of}
use Rattle.sys_build.proofs.Turns.{got_next, took_all}
use Rattle.sys_build.proofs.choices.filters.Goals as goal

pub loop-number-preserved : goal.loop-number-preserved
loop-number-preserved c =
    got_next (passes.ghosts).verdict (map (λ (f : List ℕ × Filter). f.1) (system_of c.args.system.now).filters) c.loop-number.filters.items c.push.new.self.items c.loop-number.number c.numbered.result
    c.loop-number.invariant c.in_ok-push.ensures.items c.numbered.ensures

pub returns : goal.returns
returns c =
    let filters = (system_of c.args.system.now).filters in
    took_all (map (λ (f : List ℕ × Filter). f.1) filters) (map (passes.ghosts).verdict c.loop-number.filters.items) c.loop-number.number c.loop-number.invariant
    (omega (arith, c.loop-number-test.false, c.filter_count-number-end.ensures, length-map filters (λ (f : List ℕ × Filter). f.1)))
