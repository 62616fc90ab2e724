use Rattle.std.proofs.Common.{sym, ◌∙◌, ◌≡◌, false, ◌+◌, drop, ◌==◌}
use Rattle.conf_scan.specs.Shapes.{first_passes}
use Rattle.conf_scan.proofs.Between.{close_no_slash, close_no_star}
use Rattle.conf_scan.proofs.trivia.close_len.Goals as goal
use Rattle.conf_scan.proofs.trivia.close_len.Goals.{else-byte-eq42-via-then-byte-eq42+else-begins_with, else-byte-eq42-via-else-byte-eq42}

pub loop-place-preserved : goal.loop-place-preserved
loop-place-preserved c =
    let text = c.args.text.now in
    let i = c.loop-place.place in
    elim c.else-byte-eq42.branch [
      | else-byte-eq42-via-then-byte-eq42+else-begins_with w ↦
          let tested = sym w.begins_with.ensures ∙ w.if-begins_with.false in
          let other : first_passes (λ b. b == 47) (drop (i + 1) text) ≡ false = rw w.tail.ensures at tested in
          close_no_slash text i c.loop-place-test.true other c.loop-place.invariant
      | else-byte-eq42-via-else-byte-eq42 w ↦ close_no_star text i c.loop-place-test.true w.if-byte-eq42.false c.loop-place.invariant
    ]
