use Rattle.std.proofs.Common.{ℕ, arith, ◌+◌, ◌-◌, ◌++◌, List, decimal, ap, ◌∙◌, sym}
use Rattle.conf_names.specs.Known.{is_declared}
use Rattle.conf_names.specs.Names.{free_from, free_number}
use Rattle.conf_names.specs.Seen.{known_of}
use Rattle.conf_names.proofs.Numbers.{found_here, found_later}
use Rattle.conf_names.proofs.names.free_name.Goals as goal

pub loop-left-init : goal.loop-left-init
loop-left-init c = record {
  room = omega (arith, c.names-left.ensures.small);
  free = λ text. ap (λ (n : ℕ). free_from (known_of text c.args.declared.now) c.args.stem.now n 1) (sym (c.names-left.ensures.count text));
}

pub returns-then-not-is_declared : goal.returns-then-not-is_declared
returns-then-not-is_declared c text =
    let same = c.deref.ensures.value ∙ c.in_ok-bytes.ensures in
    let free = ap (λ (n : List ℕ). is_declared (known_of text c.args.declared.now) n) (sym same) ∙ sym (c.is_declared.ensures text) ∙ c.if-not-is_declared.true in
    let is = found_here (known_of text c.args.declared.now) c.args.stem.now c.loop-left.left c.loop-left.number (free_number (known_of text c.args.declared.now) c.args.stem.now) (omega (arith, c.loop-left-test.true)) free (c.loop-left.invariant.free text) in
    c.in_ok-bytes.ensures ∙ ap (λ (n : ℕ). c.args.stem.now ++ decimal n) (sym is)

pub loop-left-preserved : goal.loop-left-preserved
loop-left-preserved c =
    let same = c.deref.ensures.value ∙ c.in_ok-bytes.ensures in
    record {
      room = omega (arith, c.loop-left.invariant.room, c.loop-left-test.true);
      free = λ text. found_later (known_of text c.args.declared.now) c.args.stem.now c.loop-left.left c.loop-left.number (free_number (known_of text c.args.declared.now) c.args.stem.now) (c.loop-left.left - 1) (c.loop-left.number + 1) (omega (arith, c.loop-left-test.true))
          (ap (λ (n : List ℕ). is_declared (known_of text c.args.declared.now) n) (sym same) ∙ sym (c.is_declared.ensures text) ∙ c.if-not-is_declared.false) (c.loop-left.invariant.free text) (omega (arith, c.loop-left-test.true)) (omega arith);
    }
