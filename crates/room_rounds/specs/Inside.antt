-- What a channel needs for its turns (`IsReader`), and when all are at rest (`HaveRested`).
-- From: own.
-- Example: of two members of one table, whose ports have seen 5 and 7, both have rested once each one's
-- channel is at rest at 7, or is down.
use Rattle.std.specs.Prelude.{◌≡◌, ℕ, false, List, Option, IfSome}
use Rattle.std.specs.List.{AllByRecursion}
use Rattle.atomic_table.specs.Seated.{TableId}
use Rattle.attrs.specs.declared.judge.Verdict.{Verdict}
use Rattle.attrs.specs.declared.route.Route.{Route}
use Rattle.bits_ip.specs.Prefix.{Net}
use Rattle.jour_rule.specs.declared.views.Terms.{Terms}
use Rattle.jour.specs.Seats.{journal}
use Rattle.table_shared.specs.Opening.{TableOpening}
use Rattle.export_lock.specs.Kept.{IsOfKind}
use Rattle.export_lock.specs.declared.state.ExportState.{ExportState}
use Rattle.pipe_rest.specs.Heads.{AreHeads, HasRead}
use Rattle.pipe_rest.specs.declared.member.MemberLeft.{MemberLeft}

-- where there is a channel, it is one to a neighbour, which reads this table
abbrev pub IsReader :
    {J : Type 0} → (J → Net → Route → Verdict) → TableId × Terms TableOpening
    → Option (ExportState J) → Type 0
IsReader verdict table channel =
    IfSome channel (λ state. IsOfKind verdict false state × (journal state.cursor.0 ≡ table))

-- all that is up is at rest, at no less than what the ports of so many tables have seen
abbrev pub HaveRested : {J : Type 0} → ℕ → List (MemberLeft J) → Type 0
HaveRested tables members =
    (heads : List ℕ) × AreHeads tables members heads × AllByRecursion (HasRead heads) members
