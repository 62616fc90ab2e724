use Rattle.std.proofs.Common.{◌≡◌, ap, sym, ◌∙◌, drop, eqb}
use Rattle.std.specs.List.{prefix_len}
use Rattle.std.proofs.lemmas.List.{take_rest}
use Rattle.bits_ip.specs.Text.{zero_run}
use Rattle.bits_ip.proofs.Groups.{larger_is, longest_step, zero_run_is}
use Rattle.bits_ip.proofs.ipv6.longest_run.Goals as goal

pub loop-start-preserved : goal.loop-start-preserved
loop-start-preserved c =
    let rest = drop c.loop-start.start c.args.groups.now in
    let run : c.zero_run.result ≡ zero_run rest = c.zero_run.ensures ∙ ap (prefix_len (λ g. eqb g 0)) (take_rest c.args.groups.now c.loop-start.start) ∙ sym (zero_run_is rest) in
    rw (c.max-longest.ensures ∙ larger_is c.loop-start.longest c.zero_run.result)
    (longest_step c.args.groups.now c.loop-start.start c.loop-start.longest c.zero_run.result c.loop-start-test.true c.loop-start.invariant run)
