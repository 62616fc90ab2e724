-- What the filters of the cases say: they accept routes from a preference on, and may give them
-- another.
-- Not modelled: anything else that filters do.
-- From: own.
-- Example: from 150 on a route of preference 100 is rejected.
use Rattle.std.specs.Prelude.{ℕ, Bool, nat_le, if◌then◌else◌, Option, Some, None}
use Rattle.attrs.specs.declared.attributes.Attrs.{Attrs}
use Rattle.attrs.specs.declared.judge.Verdict.{Verdict}
use Rattle.attrs.specs.declared.judge.Verdict.TheVariants.{Accept, Reject}
use Rattle.attrs.specs.declared.route.Route.{Route}

abbrev pub with_preference : Option ℕ → Attrs → Attrs
with_preference None attrs = attrs
with_preference (Some pref) attrs = record attrs { pref = pref }

abbrev pub verdict_of : ℕ → Option ℕ → Route → Verdict
verdict_of least given route =
    if nat_le least route.attrs.pref then Accept (with_preference given route.attrs) else Reject None
