use Rattle.std.proofs.Common.{◌≡◌, ap, sym, ◌∙◌, drop, eqb, arith}
use Rattle.std.specs.List.{prefix_len}
use Rattle.std.proofs.lemmas.List.{at_drop_all, take_rest}
use Rattle.bits_ip.specs.Text.{run_start, zero_run}
use Rattle.bits_ip.proofs.Groups.{start_here, start_later, start_within, zero_run_is}
use Rattle.bits_ip.proofs.ipv6.run_start.Goals as goal

pub loop-start-preserved : goal.loop-start-preserved
loop-start-preserved c =
    let rest = drop c.loop-start.start c.args.groups.now in
    let run : c.zero_run.result ≡ zero_run rest = c.zero_run.ensures ∙ ap (prefix_len (λ g. eqb g 0)) (take_rest c.args.groups.now c.loop-start.start) ∙ sym (zero_run_is rest) in
    omega (arith, start_later c.args.run c.args.groups.now c.loop-start.start c.loop-start-test.true (λ e. c.if-zero_run-run.false (run ∙ e)))

pub returns-then-zero_run-run-clause-start : goal.returns-then-zero_run-run-clause-start
returns-then-zero_run-run-clause-start c =
    let rest = drop c.loop-start.start c.args.groups.now in
    let run : c.zero_run.result ≡ zero_run rest = c.zero_run.ensures ∙ ap (prefix_len (λ g. eqb g 0)) (take_rest c.args.groups.now c.loop-start.start) ∙ sym (zero_run_is rest) in
    omega (arith, start_here c.args.run c.args.groups.now c.loop-start.start c.loop-start-test.true (sym run ∙ c.if-zero_run-run.true))

pub returns-then-zero_run-run-clause-within : goal.returns-then-zero_run-run-clause-within
returns-then-zero_run-run-clause-within c =
    let start = returns-then-zero_run-run-clause-start c in
    omega (arith, start, start_within c.args.run c.args.groups.now c.requires)

pub returns-clause-within : goal.returns-clause-within
returns-clause-within c =
    let none = at_drop_all (run_start c.args.run) c.args.groups.now c.loop-start.start c.loop-start-test.false in
    omega (arith, none, start_within c.args.run c.args.groups.now c.requires)
