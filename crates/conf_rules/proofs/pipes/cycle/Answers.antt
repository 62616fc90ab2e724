use Rattle.std.proofs.Common.{List, ℕ, arith, map, sym}
use Rattle.std.proofs.lemmas.List.{length-map}
use Rattle.bits_ip.specs.declared.address.Family.{Family}
use Rattle.conf_ast.specs.Configurations.{pipe_setting_of}
use Rattle.conf_names.specs.Seen.{known_of}
use Rattle.conf_rules.proofs.Places.{joint_within}
use Rattle.conf_rules.proofs.pipes.cycle.Goals as goal

pub is_joined-requires-clause-joint : goal.is_joined-requires-clause-joint
is_joined-requires-clause-joint c =
    let known = known_of c.args.text.now c.args.declared.now in
    let within = joint_within known (map pipe_setting_of c.args.options.now) c.in-Some.joint (sym c.in-Some.ensures) in
    let count = length-map {B = List ℕ × Family} c.args.declared.now.tables.entries (λ e. (e.0.items, e.1)) in
    (omega (arith, within.0, count, c.len.ensures.len), omega (arith, within.1, count, c.len.ensures.len))
