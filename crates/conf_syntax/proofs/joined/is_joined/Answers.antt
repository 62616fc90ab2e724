use Rattle.std.proofs.Common.{sym, ◌∙◌}
use Rattle.conf_syntax.proofs.BehindNets.{blackhole_behind}
use Rattle.conf_syntax.proofs.Prefixes.{joined_is}
use Rattle.conf_syntax.proofs.joined.is_joined.Goals as goal

pub returns-then-is_prefix : goal.returns-then-is_prefix
returns-then-is_prefix c = λ yes front w cut begun.
    joined_is c.args.words.now c.in-Some.before.now front c.in-Some.word.now w c.in-Some.ensures.cases.0
    (λ first. c.end_before_prefix.ensures yes first c.in-Some.word.now (sym c.is_prefix.ensures ∙ c.if-is_prefix.true)) cut begun

pub returns-then-is_blackhole : goal.returns-then-is_blackhole
returns-then-is_blackhole c = λ yes front w cut begun.
    joined_is c.args.words.now c.in-Some.before.now front c.in-Some.word.now w c.in-Some.ensures.cases.0
    (blackhole_behind c.in-Some.before.now (c.ends_net.ensures yes) c.in-Some.word.now (sym c.is_blackhole.ensures ∙ c.if-is_blackhole.true)) cut begun
