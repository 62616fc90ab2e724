use Rattle.std.proofs.Common.{◌∙◌, ℕ, ◌-◌, ap, arith}
use Rattle.rib.specs.Entries.{rows_of}
use Rattle.rib.specs.Picks.{front}
use Rattle.rib.proofs.Longest.{bare-all, bare-first, bare-found, bare-next}
use Rattle.rib.proofs.nets.Nets.longest_cover.Goals as goal

pub loop-gone-init : goal.loop-gone-init
loop-gone-init c = bare-first c.args.asked.now (rows_of c.args.self.now)

pub returns-then-not-is_empty : goal.returns-then-not-is_empty
returns-then-not-is_empty c =
    bare-found c.args.asked.now c.front-net.result (rows_of c.args.self.now) c.loop-gone.gone c.routes.result.now c.is_empty.result c.loop-gone.invariant
    (omega (arith, c.loop-gone-test.true, c.len-gone-end.ensures)) (c.front-net.ensures ∙ ap (λ (k : ℕ). front c.args.asked.now (k - c.loop-gone.gone)) c.len.ensures)
    c.routes.ensures c.is_empty.ensures c.if-not-is_empty.true

pub loop-gone-preserved : goal.loop-gone-preserved
loop-gone-preserved c =
    bare-next c.args.asked.now c.front-net.result (rows_of c.args.self.now) c.loop-gone.gone c.routes.result.now c.is_empty.result c.loop-gone.invariant
    (omega (arith, c.loop-gone-test.true, c.len-gone-end.ensures)) (c.front-net.ensures ∙ ap (λ (k : ℕ). front c.args.asked.now (k - c.loop-gone.gone)) c.len.ensures)
    c.routes.ensures c.is_empty.ensures c.if-not-is_empty.false

pub returns : goal.returns
returns c = bare-all c.args.asked.now (rows_of c.args.self.now) c.loop-gone.gone c.loop-gone.invariant (omega (arith, c.loop-gone-test.false, c.len-gone-end.ensures))
