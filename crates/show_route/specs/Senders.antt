-- What a channel of a bgp protocol would send of a route (`sender_of`): what its gate lets pass and
-- its filter accepts.
-- From: BIRD User's Guide, "Remote control", `show route export`.
-- Example: none of a route of the protocol itself.
use Rattle.attrs.specs.declared.judge.Verdict.{Verdict}
use Rattle.attrs.specs.declared.route.Route.{Route}
use Rattle.bits_ip.specs.Prefix.{Net}
use Rattle.export_core.specs.declared.passing.ExportSpec.{ExportSpec}
use Rattle.export_core.specs.Keys.{key_of}
use Rattle.export_core.specs.Passing.{value_by}
use Rattle.show_route.specs.Shown.{Sender}

abbrev pub sender_of : ExportSpec → (Net → Route → Verdict) → Sender
sender_of spec verdict net route = value_by spec verdict (key_of net) route
