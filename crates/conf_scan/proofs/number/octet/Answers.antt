use Rattle.std.proofs.Common.{◌≡◌, ◌<◌, length, take, get_or, sym, ◌∙◌, arith}
use Rattle.std.proofs.lemmas.List.{length-take}
use Rattle.conf_scan.proofs.Decimals.{octet_is, no_zero}
use Rattle.conf_scan.proofs.number.octet.Goals.{else-begins_with-via-then-begins_with+else-found-gt1, else-begins_with-via-else-begins_with}
use Rattle.conf_scan.proofs.number.octet.Goals as goal

pub returns : goal.returns
returns c =
    let text = c.args.text.now in
    let found = c.digits-found.result in
    let told = c.digits-found.ensures in
    let some : 0 < found.len = omega (arith, c.if-found-eq0.false) in
    let small : found.value < 256 = omega (arith, c.if-found-gt255.false) in
    let plainly : get_or (take found.len text) 0 0 ≡ 48 → length (take found.len text) ≡ 1 = λ zero. elim c.else-begins_with.branch [
      | else-begins_with-via-then-begins_with+else-found-gt1 w ↦ omega (arith, length-take found.len text, told.within, some, w.if-found-gt1.false)
      | else-begins_with-via-else-begins_with w ↦ absurd (no_zero text found.len some (sym c.begins_with.ensures ∙ w.if-begins_with.false) zero)
    ] in
    record {
      small = small;
      some = some;
      within = told.within;
      len = told.len;
      whole = octet_is text found.len found.value told.len (omega (arith, length-take found.len text, told.within, some)) small (told.value (omega (arith, small))) plainly;
    }
