use Rattle.bits_ip.proofs.Groups.{hex_written_more, hex_written_one}
use Rattle.std.proofs.Common.{arith, ap, ◌∙◌, ◌++◌, ◌∷◌, []}
use Rattle.std.proofs.lemmas.Result.{on_ok_weaker}
use Rattle.bits_ip.proofs.ipv6.+write_hex.Goals as goal
use Rattle.bits_ip.proofs.ipv6.+write_hex.Goals.{then-number-ge16+in_ok-write_hex, else-number-ge16}

pub returns-clause-written : goal.returns-clause-written
returns-clause-written g t c = elim c.if-number-ge16.branch [
  | then-number-ge16+in_ok-write_hex w ↦
      on_ok_weaker c.put.result
      (λ e. e ∙ ap (λ o. g.W.TextOut.written o ++ c.hex_digit.result ∷ []) w.out-is ∙ hex_written_more c.args.number c.hex_digit.result (g.W.TextOut.written c.args.out.now) _ w.if-number-ge16.true (omega arith) w.in_ok-write_hex.ensures.written c.hex_digit.ensures)
      c.put.ensures.written
  | else-number-ge16 w ↦
      on_ok_weaker c.put.result
      (λ e. e ∙ ap (λ o. g.W.TextOut.written o ++ c.hex_digit.result ∷ []) w.out-is ∙ hex_written_one c.args.number c.hex_digit.result (g.W.TextOut.written c.args.out.now) w.if-number-ge16.false c.hex_digit.ensures)
      c.put.ensures.written
]
