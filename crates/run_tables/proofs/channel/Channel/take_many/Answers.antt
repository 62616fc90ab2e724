use Rattle.std.proofs.Common.{◌≡◌, ℕ, subst, sym, rules}
use Rattle.run_tables.specs.Channels.{left_of}
use Rattle.run_tables.proofs.Kept.{all_takes, none_taken, one_take, still_reads}
use Rattle.run_tables.proofs.channel.Channel.take_many.Goals as goal

pub loop-init : goal.loop-init
loop-init g c = record { below = search rules; far = none_taken g.J.Judge.verdict c.args.table.now c.args.self.now }

pub take-requires : goal.take-requires
take-requires g c = still_reads g.J.Judge.verdict c.args.table.now c.args.self.now c.loop.self c.loop.counter c.requires c.loop.invariant.far

pub loop-preserved : goal.loop-preserved
loop-preserved g c = record {
  below = search rules;
  far = one_take g.J.Judge.verdict c.args.table.now c.args.self.now c.loop.self c.take.new.self c.loop.counter c.loop.invariant.far c.in_ok-take.ensures;
}

pub returns : goal.returns
returns g c =
    let e : c.loop.counter ≡ c.left-left.result = search rules in
    all_takes g.J.Judge.verdict c.args.table.now c.args.self.now c.loop.self c.loop.counter c.head.result c.args.count c.loop.invariant.far (subst (λ (n : ℕ). n ≡ left_of c.args.self.now.cursor c.head.result c.args.count) (sym e) c.left-left.ensures) c.head.ensures
