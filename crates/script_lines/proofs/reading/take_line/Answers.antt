use Rattle.std.proofs.Common.{◌∷◌, refl}
use Rattle.std.specs.Prelude.{codes}
use Rattle.std.proofs.lemmas.Result.{err_from_is_err_and}
use Rattle.text.specs.Lines.{behind_words, words_of}
use Rattle.script_lines.specs.Inside.{state_of}
use Rattle.script_lines.proofs.LineParts.{take_read, take_refused, line_put, refuses}
use Rattle.script_lines.proofs.reading.take_line.Goals as goal

pub returns-in_err-channel : goal.returns-in_err-channel
returns-in_err-channel c = λ number. (
    let p = err_from_is_err_and c.from_residual.result c.from_residual.ensures.1 in
    let bytes = behind_words 2 c.args.rest.now in
    let old = state_of c.args.reading.now in
    rw (p.1, p.2)
    (refuses bytes c.args.named.now (codes "!take" ∷ words_of c.args.rest.now) old old _ refl
    (take_refused bytes c.args.named.now c.args.reading.now.actors.items (words_of c.args.rest.now) _ c.in_err-channel.ensures)))

pub returns : goal.returns
returns c = λ number.
    take_read (behind_words 2 c.args.rest.now) c.args.named.now number (words_of c.args.rest.now) (state_of c.args.reading.now) _ c.in_ok-channel.channel c.in_ok-channel.count c.in_ok-channel.ensures
    (line_put (behind_words 2 c.args.rest.now) _ _ _ refl refl c.in_ok-push.ensures.items refl refl)
