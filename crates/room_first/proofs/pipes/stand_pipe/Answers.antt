use Rattle.std.proofs.Common.{◌≡◌, ◌+◌, ℕ, List, map, ap, refl, subst, ◌∙◌, arith}
use Rattle.bits_ip.specs.declared.address.Family.{Family}
use Rattle.core_setup.specs.Channels.{family_or_first}
use Rattle.core_setup.specs.Setup.{family_at}
use Rattle.export_core.specs.declared.passing.ExportSpec.{ExportSpec}
use Rattle.sys_run.specs.Parts.{table_seen}
use Rattle.room_first.specs.Inside.{IsFirstDirection, gate_with}
use Rattle.room_first.proofs.pipes.stand_pipe.Goals as goal

gate_is : (gate : ExportSpec) (family other : Family) (number : ℕ) (taken passed : List ℕ) → gate ≡ gate_with family number taken → family ≡ other → taken ≡ passed → gate ≡ gate_with other number passed
gate_is gate family other number taken passed is same all = is ∙ ap (λ f. gate_with f number taken) same ∙ ap (gate_with other number) all

pub returns-clause-first : goal.returns-clause-first
returns-clause-first g c = λ lists left.
    let v = g.J.Judge.verdict in
    let n = c.args.channel in
    let number = c.args.number in
    let there = c.take_list.ensures.list ∙ left n (omega arith) in
    let here = c.take_list-2.ensures.list ∙ c.take_list.ensures.others (n + 1) (λ e. omega (arith, e)) ∙ left (n + 1) (omega arith) in
    let tables = map table_seen c.args.tables.now in
    let out_gate = gate_is c.direction_gate-there.result c.table_family.result (family_or_first (family_at tables c.args.pipe.now.primary)) number c.take_list.result.items (lists n) c.direction_gate-there.ensures c.table_family.ensures there in
    let back_gate = gate_is c.direction_gate-here.result c.table_family-2.result (family_or_first (family_at tables c.args.pipe.now.peer)) number c.take_list-2.result.items (lists (n + 1)) c.direction_gate-here.ensures c.table_family-2.ensures here in
    record {
      primary = refl;
      peer = refl;
      up = refl;
      out = subst (λ gate. IsFirstDirection v n gate c.args.pipe.now.export c.in_ok-out.out) out_gate c.in_ok-out.ensures;
      back = subst (λ gate. IsFirstDirection v (n + 1) gate c.args.pipe.now.import c.in_ok-back.back) back_gate c.in_ok-back.ensures;
    }

pub returns-clause-left : goal.returns-clause-left
returns-clause-left g c = λ lists left d w.
    c.take_list-2.ensures.others d (λ e. omega (arith, e, w)) ∙ c.take_list.ensures.others d (λ e. omega (arith, e, w)) ∙ left d (omega (arith, w))
