use Rattle.std.proofs.Common.{refl}
use Rattle.std.proofs.lemmas.Bool.{false≢true}
use Rattle.conf_tree.proofs.Whole.{got_can, bad_can, deep_can}
use Rattle.conf_tree.proofs.followed.ConfigurationsSentences.is_begun.Goals as goal
use Rattle.conf_tree.proofs.followed.ConfigurationsSentences.is_begun.Goals.{in-Ok, in-Err-Memory, in-Err-Bad, in-Err-TooDeep}

pub returns-then-is_apart : goal.returns-then-is_apart
returns-then-is_apart c = (λ yes. absurd (false≢true yes), λ begun. absurd (c.is_apart.ensures c.if-is_apart.true begun))

pub returns-then-is_joined : goal.returns-then-is_joined
returns-then-is_joined c =
    let next = c.requires in
    let before = next.3 in
    (λ yes. c.is_joined.ensures c.if-is_joined.true next.0 next.1 next.2 (before.0, before.1, before.2, before.3), λ begun. refl)

pub returns : goal.returns
returns c =
    let words = c.args.words.now in
    let next = c.requires in
    elim c.match-config.branch [
      | in-Ok w ↦ rw w.result-is (got_can words words _ _ refl w.in-Ok.ensures.read)
      | in-Err-Memory w ↦ rw w.result-is tt
      | in-Err-Bad w ↦ rw w.result-is (bad_can words words w.in-Err-Bad.field-0 w.in-Err-Bad.rest w.is_empty.result refl w.in-Err-Bad.field-0-is w.in-Err-Bad.ensures.read w.is_empty.ensures)
      | in-Err-TooDeep w ↦ rw w.result-is (deep_can words next.0 next.1 w.in-Err-TooDeep.field-0 w.in-Err-TooDeep.field-0-0 next.2 next.3 w.in-Err-TooDeep.field-0-is w.in-Err-TooDeep.ensures.read)
    ]
