use Rattle.std.proofs.Common.{◌≡◌, ◌<◌, ◌∙◌, List, ℕ, ap, arith, length, take}
use Rattle.std.specs.Prelude.{slice_set}
use Rattle.std.proofs.lemmas.List.{length-take}
use Rattle.std.proofs.Math.Seq.{take-set-lt}
use Rattle.jour_rule.proofs.buf.Buf.set.Goals as goal

pub returns : goal.returns
returns c =
    let seen : take c.self.inside.len c.self.inside.words ≡ c.args.self.now = c.self.view_is in
    let inside : c.args.index < c.self.inside.len = omega (arith, length-take c.self.inside.len c.self.inside.words, c.requires.0, ap length seen) in
    take-set-lt c.self.inside.len c.self.inside.words c.args.index c.args.word inside ∙ ap (λ (l : List ℕ). slice_set l c.args.index c.args.word) seen
