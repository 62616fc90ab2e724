-- What a query asks of what is played: the filter by which it chooses routes (`choice_of`), and
-- what the channel of the protocol that it names sends (`sends_of`), whether it is up or down.
-- From: BIRD User's Guide, "Remote control", `show route`.
-- Example: `show route export p1` asks for what the channel of p1 would send of each best route.
use Rattle.std.specs.Prelude.{ℕ, List, Option, None, option_and_then, option_map, slice_get}
use Rattle.show_route.specs.Senders.{sender_of}
use Rattle.show_route.specs.Shown.{Choice, Sender}
use Rattle.show_route.specs.declared.query.Query.{Query}
use Rattle.core_setup.specs.Setup.{Body, Exports, IsPipe, IsSource, Protocol, Setup}

-- what the filter says that the query names
abbrev pub choice_of : Setup → Query → Option Choice
choice_of setup query =
    option_and_then (λ (number : ℕ). slice_get setup.choices number) query.choice

-- the channel of a protocol to its neighbour, which a pipe has not
abbrev pub exports_in : Body → Option Exports
exports_in (IsSource p) = p.exports
exports_in (IsPipe p) = None

abbrev pub exports_at : List Protocol → ℕ → Option Exports
exports_at protocols number =
    option_and_then (λ (p : Protocol). exports_in p.body) (slice_get protocols number)

-- what the channel sends of the protocol that the query names
abbrev pub sends_of : Setup → Query → Option Sender
sends_of setup query =
    option_map (λ (exports : Exports). sender_of exports.spec exports.filter)
    (option_and_then (exports_at setup.protocols) query.export)
