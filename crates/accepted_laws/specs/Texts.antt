-- For the laws: what is claimed of the policies of a system that a text comes to: each that runs a
-- filter runs one that is written in the text, is never stuck and ends within 10,000,000 steps
-- (`IsSafePolicy`).
-- From: own.
-- Example: `import where bgp_path.len > 10;` is a filter of its own.
use Rattle.std.specs.Prelude.{◌≡◌, ◌≤◌, ◌⊎◌, ℕ, List, [], None}
use Rattle.bits_ip.specs.Prefix.{Net}
use Rattle.attrs.specs.declared.attributes.Attrs.{Attrs}
use Rattle.attrs.specs.declared.judge.Verdict.TheVariants as verdicts
use Rattle.attrs.specs.declared.route.Route.{Route}
use Rattle.conf_ast.specs.Configurations as conf
use Rattle.conf_ast.specs.Filters.{Statements}
use Rattle.filt_meaning.specs.Configuration.{body, verdict}
use Rattle.filt_meaning.specs.Flow.{Stuck, Stopped}
use Rattle.filt_meaning.specs.Names.{Around}
use Rattle.filt_steps.specs.Limits.{AttrsAreWithin}
use Rattle.filt_steps.specs.Steps.{filter_steps}
use Rattle.conf_system.specs.Policies.{Filter}
use Rattle.conf_system.specs.System.{Body, IsBgp, IsPipe, IsStatic, names_in}
use Rattle.conf_system.specs.Behind.{context_behind, counts_behind}
use Rattle.conf_system.specs.Written.{IsWritten}

-- Behind these statements the filter is never stuck, and takes few steps, whatever the route.
pub record IsSafe (text : List ℕ) (before : List conf.Declaration) (ss : Statements)
    : Type 0 where
  pub never_stuck : (around : Around) (attrs after : Attrs)
      → body (context_behind text around before) [] ss [] attrs ≡ Stopped Stuck after → ⊥
  pub few_steps : (around : Around) (attrs : Attrs) → AttrsAreWithin attrs
      → filter_steps (context_behind text around before) (counts_behind text around before) ss
      attrs ≤ 10000000

-- The policy says of each route what a safe filter says that is written in the configuration.
pub record IsOfFilter (text : List ℕ) (ds : List conf.Declaration) (policy : Filter)
    : Type 0 where
  pub before : List conf.Declaration
  pub filter : Statements
  pub written : IsWritten ds before filter
  pub safe : IsSafe text before filter
  pub says : (net : Net) (route : Route)
      → policy net route ≡ verdict text before (names_in text ds) filter net route

-- It runs no filter, and accepts each route as it is or rejects each; or it runs a safe one.
abbrev pub IsSafePolicy : (text : List ℕ) → List conf.Declaration → Filter → Type 0
IsSafePolicy text ds policy =
    ((net : Net) (route : Route) → policy net route ≡ verdicts.Accept route.attrs)
    ⊎ ((net : Net) (route : Route) → policy net route ≡ verdicts.Reject None)
    ⊎ IsOfFilter text ds policy

-- both policies of a protocol: of its one channel, or of a pipe
abbrev pub BothPolicies : (Filter → Type 0) → Body → Type 0
BothPolicies Is (IsStatic p) = Is p.channel.import × Is p.channel.export
BothPolicies Is (IsBgp p) = Is p.channel.import × Is p.channel.export
BothPolicies Is (IsPipe p) = Is p.import × Is p.export
