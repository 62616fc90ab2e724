-- What a policy says of the routes of nets: a filter, seen as a function (`says`).
-- From: BIRD User's Guide, "Channel options", `import` and `export`, and "Filters".
-- Example: `all` accepts each route as it is, `none` rejects each.
use Rattle.std.specs.Prelude.{ℕ, List, Option, Some, None, slice_get}
use Rattle.bits_ip.specs.Prefix.{Net}
use Rattle.attrs.specs.declared.judge.Verdict.{Verdict}
use Rattle.attrs.specs.declared.judge.Verdict.TheVariants as verdicts
use Rattle.attrs.specs.declared.route.Route.{Route}
use Rattle.conf_ast.specs.Configurations as conf
use Rattle.conf_ast.specs.Configurations.{Passing, PassAll, PassNone, PassByFilter, PassByBlock, PassWhere}
use Rattle.filt_meaning.specs.Configuration.{filter_where, verdict}
use Rattle.conf_check.specs.Behind.{at_start, behind}
use Rattle.conf_check.specs.Checked.{Source, filter_number}

-- what a filter says of the routes of nets
abbrev pub Filter : Type 0
Filter = Net → Route → Verdict

-- A filter by name does what its statements do behind the statements before it.
abbrev pub by_source : (text : List ℕ) → (names : List (List ℕ)) → Option Source → Filter
by_source text names None net route = verdicts.Reject None
by_source text names (Some source) net route = verdict text source.0 names source.1 net route

-- What a policy says behind these statements, in a configuration with these filters by name. The
-- names are those of all protocols, by their numbers.
unfoldable pub says : (text : List ℕ) → (names : List (List ℕ)) → (filters : List Source)
    → (before : List conf.Declaration) → Passing → Filter
says text names filters before PassAll net route = verdicts.Accept route.attrs
says text names filters before PassNone net route = verdicts.Reject None
says text names filters before (PassByFilter at name) net route =
    by_source text names
    (slice_get filters (filter_number (behind (at_start text) before) name)) net route
says text names filters before (PassByBlock at ss) net route =
    verdict text before names ss net route
says text names filters before (PassWhere at e) net route =
    verdict text before names (filter_where e) net route
