use Rattle.std.proofs.Common.{◌∙◌, ap, arith, length, sym}
use Rattle.rib.specs.Entries.{count_of}
use Rattle.rib.proofs.NetSteps.{count-written}
use Rattle.rib.proofs.nets.Nets.grow.Goals as goal
use Rattle.rib.proofs.nets.Nets.grow.Goals.{in-Some, in-None}

pub returns-clause-count : goal.returns-clause-count
returns-clause-count c = elim c.match-get_mut.branch [
  | in-Some w ↦
      let written = count-written c.args.net.now w.in-Some.routes.now w.grow_routes.new.routes c.self.inside.map.entries _ (sym w.in-Some.ensures.value)
      (c.get_mut.follows.holds w.grow_routes.new.routes).0 in
      omega (arith, written, ap length w.grow_routes.ensures.same, ap count_of c.self.view_is, ap (λ i. count_of i.map.entries) w.self-inside-is)
  | in-None w ↦
      ap (λ i. count_of i.map.entries) w.self-inside-is
      ∙ ap (λ m. count_of m.entries) c.get_mut.follows.holds-at-none
      ∙ ap count_of c.self.view_is
]
