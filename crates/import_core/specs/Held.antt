-- For private contracts alone: how a protocol's routes are kept, an entry for each received net,
-- with what of it is accepted.
use Rattle.std.specs.Prelude.{◌≡◌, ◌≢◌, ◌⊎◌, ℕ, ◌+◌, Bool, true, false, not, ◌&&◌, ◌||◌, nat_le, List, [], ◌∷◌, ◌++◌, fold, is_some, Option, Some, None, option_map, map, filter_map, length, if◌then◌else◌}
use Rattle.std.specs.BTreeMap.{is_at}
use Rattle.std.specs.Map.{keys_of}
use Rattle.bits_ip.specs.Prefix.{Net, net_cmp}
use Rattle.attrs.specs.declared.route.Change.{Change}
use Rattle.attrs.specs.declared.route.Route.{Route}
use Rattle.import_core.specs.declared.held.Accepted.{Accepted}
use Rattle.import_core.specs.declared.held.Accepted.TheVariants.{Nothing, AsReceived, With}
use Rattle.import_core.specs.declared.held.Decision.{Decision}
use Rattle.import_core.specs.declared.held.Decision.TheVariants as decision
use Rattle.import_core.specs.declared.held.Held.{Held}
use Rattle.import_core.specs.declared.nets.Plan.{Plan}
use Rattle.import_core.specs.declared.nets.Rebuilt.{Rebuilt}
use Rattle.import_core.specs.declared.import_spec.Action.{Action}
use Rattle.import_core.specs.declared.import_spec.Action.TheVariants.{Warn, Block, Disable}
use Rattle.import_core.specs.declared.import_spec.ImportSpec.{ImportSpec}
use Rattle.import_core.specs.declared.import_spec.Limit.{Limit}
use Rattle.import_core.specs.declared.mode.Mode.TheVariants as mode
use Rattle.import_core.specs.declared.step.Mark.TheVariants as mark
use Rattle.import_core.specs.Imports.{Routes, Imports, with_route, without}
use Rattle.import_core.specs.Changes.{IsDifference}
use Rattle.import_core.specs.Decisions.{Filter, Outcome, left_received, mark_of, rebuilt, switched_off}

abbrev pub is_nothing : Accepted → Bool
is_nothing Nothing = true
is_nothing AsReceived = false
is_nothing (With attrs) = false

-- what is accepted of a received route
abbrev pub accepted_route : Route → Accepted → Option Route
accepted_route route Nothing = None
accepted_route route AsReceived = Some route
accepted_route route (With attrs) = Some (record { src = route.src; attrs = attrs })

abbrev pub accepted_of : Held → Option Route
accepted_of held = accepted_route held.route held.accepted

abbrev pub received_in : List (Net × Held) → Routes
received_in entries = map (λ e. (e.0, e.1.route)) entries

abbrev pub accepted_in : List (Net × Held) → Routes
accepted_in entries = filter_map (λ e. option_map (λ r. (e.0, r)) (accepted_of e.1)) entries

-- the received and the accepted routes
pub record Kept : Type 0 where
  pub received : Routes
  pub accepted : Routes

abbrev pub kept_in : List (Net × Held) → Kept
kept_in entries = record { received = received_in entries; accepted = accepted_in entries }

abbrev pub none_kept : Kept
none_kept = record { received = []; accepted = [] }

-- with this route of the net, or without one
abbrev pub placed : Net → Option Route → Routes → Routes
placed net None routes = without net routes
placed net (Some route) routes = with_route net route routes

-- a net with what is held of it
abbrev pub holding : Net → Held → Kept → Kept
holding net held kept = record {
  received = with_route net held.route kept.received;
  accepted = placed net (accepted_of held) kept.accepted;
}

abbrev pub missing : Net → Kept → Kept
missing net kept = record {
  received = without net kept.received;
  accepted = without net kept.accepted;
}

-- What is done with a route over the limit.
abbrev pub excessive : Action → Accepted → Decision
excessive Warn accepted = decision.Stored accepted true
excessive Block accepted = decision.Stored Nothing true
excessive Disable accepted = decision.Limited

abbrev pub limited_by : Option Limit → Accepted → Bool → ℕ → Decision
limited_by None accepted is_accepted count = decision.Stored accepted false
limited_by (Some limit) accepted is_accepted count =
    if not is_accepted && nat_le limit.count count
    then excessive limit.action accepted
    else decision.Stored accepted false

-- How a net is decided of which the filter leaves this, where so many nets are accepted.
abbrev pub settled : Option Limit → Accepted → Bool → ℕ → Decision
settled limit accepted is_accepted count =
    if is_nothing accepted
    then decision.Stored Nothing false
    else limited_by limit accepted is_accepted count

-- what a decision comes to
abbrev pub decided_by : ImportSpec → Net → Route → Decision → Imports → Outcome
decided_by spec net route (decision.Stored accepted over) i = record {
  imports = record i { accepted = placed net (accepted_route route accepted) i.accepted };
  over = over;
  mark = mark.Stay;
}
decided_by spec net route decision.Limited i = record {
  imports = switched_off spec mode.Limited i;
  over = true;
  mark = mark_of spec.kind mark.Down;
}

-- The entries with these decisions, which are of their nets and in their order.
abbrev pub decided_as : List (Net × Accepted) → List (Net × Held) → List (Net × Held)
decided_as [] entries = []
decided_as (d ∷ ds) [] = []
decided_as (d ∷ ds) (e ∷ es) =
    (e.0, record { route = e.1.route; accepted = d.1 }) ∷ decided_as ds es

-- what a rebuild comes to
abbrev pub rebuilt_as : ImportSpec → Bool → Bool → Routes → Imports → Outcome
rebuilt_as spec limited over accepted i =
    if limited
    then record {
      imports = switched_off spec mode.Limited i;
      over = true;
      mark = mark_of spec.kind mark.Down;
    }
    else record { imports = record i { accepted = accepted }; over = over; mark = mark.Stay }

-- the change that a net has this route now, or none
abbrev pub change_to : ℕ → Net → Option Route → Change
change_to num net new = record { net = net; num = num; new = new }

-- The net's change is put behind the others, where its accepted route is another one.
abbrev pub IsNoted :
    ℕ → Net → Option Route → Option Route → List Change → List Change → Type 0
IsNoted num net before after old new =
    ((before ≡ after) × (new ≡ old))
    ⊎ ((before ≢ after) × (new ≡ old ++ change_to num net after ∷ []))

-- the entries with one decision, and with several
abbrev pub write_one : Net → Accepted → List (Net × Held) → List (Net × Held)
write_one net accepted [] = []
write_one net accepted (e ∷ es) =
    if is_at (net_cmp net) e.0
    then (e.0, record { route = e.1.route; accepted = accepted }) ∷ es
    else e ∷ write_one net accepted es

abbrev pub write_all : List (Net × Accepted) → List (Net × Held) → List (Net × Held)
write_all decisions entries = fold (λ es d. write_one d.0 d.1 es) entries decisions

-- a plan decides each net of the entries
pub record IsPlan (num : ℕ) (entries : List (Net × Held)) (plan : Plan) : Type 0 where
  pub nets : keys_of plan.decisions.items ≡ keys_of entries
  pub changes :
      IsDifference num (accepted_in entries)
      (accepted_in (decided_as plan.decisions.items entries)) plan.changes
  pub count : plan.count ≡ length (accepted_in (decided_as plan.decisions.items entries))

-- A plan is what a rebuild comes to, from each state with these received routes that is up; there
-- is none where the rebuild ends at the limit.
abbrev pub IsRebuild :
    ImportSpec → Filter → List (Net × Held) → Imports → Option Plan → Type 0
IsRebuild spec verdict entries i None = rebuilt spec verdict i ≡ rebuilt_as spec true true [] i
IsRebuild spec verdict entries i (Some plan) =
    (rebuilt spec verdict i
    ≡ rebuilt_as spec false plan.over (accepted_in (decided_as plan.decisions.items entries)) i)
    × IsPlan spec.src.num entries plan

abbrev pub tally : Option Route → ℕ
tally o = if is_some o then 1 else 0

-- one more net is decided in a plan
pub record IsStored
    (num : ℕ) (net : Net) (held : Held) (accepted : Accepted) (over : Bool) (p p' : Plan)
    : Type 0 where
  pub decisions : p'.decisions.items ≡ p.decisions.items ++ (net, accepted) ∷ []
  pub changes :
      IsNoted num net (accepted_of held) (accepted_route held.route accepted) p.changes p'.changes
  pub count : p'.count ≡ p.count + tally (accepted_route held.route accepted)
  pub over_limit : p'.over ≡ (p.over || over)

-- What a rebuild did to what is kept, from each state that is up and received it; `before` was
-- accepted before it.
pub record IsRebuiltBy
    (spec : ImportSpec) (verdict : Filter) (i : Imports) (before : Routes) (kept : Kept)
    (r : Rebuilt) : Type 0 where
  pub outcome : rebuilt spec verdict i ≡ rebuilt_as spec r.limited r.over kept.accepted i
  pub received :
      kept.received ≡ (if r.limited then left_received spec.kind i.received else i.received)
  pub nothing : r.limited ≡ true → (kept.accepted ≡ []) × (r.over ≡ true)
  pub changes : IsDifference spec.src.num before kept.accepted r.changes
