-- Signals: the channel of a protocol of BGP is up exactly where its imports are, a static protocol tells nothing, and a pipe
-- what fits it.
use Rattle.std.proofs.Common.{◌≡◌, ◌≢◌, ℕ, Bool, true, false, List, [], ◌∷◌, Option, Some, None, refl, sym, ◌∙◌, ap, subst}
use Rattle.std.specs.Prelude.{◌||◌, fold, if◌then◌else◌}
use Rattle.bits_ip.specs.Prefix.{Net}
use Rattle.attrs.specs.declared.attributes.Kind.{Kind}
use Rattle.attrs.specs.declared.attributes.Kind.TheVariants.{Bgp, Static}
use Rattle.attrs.specs.declared.route.Route.{Route}
use Rattle.import_core.specs.declared.import_spec.Action.{Action}
use Rattle.import_core.specs.declared.import_spec.Action.TheVariants as action
use Rattle.import_core.specs.declared.import_spec.ImportSpec.{ImportSpec}
use Rattle.import_core.specs.declared.import_spec.Limit.{Limit}
use Rattle.import_core.specs.declared.mode.Mode.{Mode}
use Rattle.import_core.specs.declared.mode.Mode.TheVariants as mode
use Rattle.import_core.specs.declared.operation.Op.{Op}
use Rattle.import_core.specs.declared.operation.Op.TheVariants.{Start, SessionUp, Add, Del, SessionDown, Disable, Enable, ReloadIn, ReloadOut, Reload}
use Rattle.import_core.specs.declared.step.Mark.{Mark}
use Rattle.import_core.specs.declared.step.Mark.TheVariants as mark
use Rattle.import_core.specs.Decisions.{Filter, Outcome, accepting, at_limit, beyond, decided, decided_next, is_over, left_of, mark_of, only, rebuilt, taken}
use Rattle.import_core.specs.Import.{imported_route}
use Rattle.import_core.specs.Imports.{Imports, Routes, is_up, with_route}
use Rattle.import_core.specs.Operations.{also_refreshed, configured, done, done_in, enabled, opened, refreshed, started, up_with}
use Rattle.core_machine.specs.Rules.{Fits, signalled}
use Rattle.core_setup.specs.Protocols.{effect_after, imports_after, pipe_is_up, pipe_signal, signal_of}
use Rattle.core_setup.specs.Setup.{Source}

no_bgp : {A : Type 0} → Static ≡ Bgp → A
no_bgp e = cc

no_static : {A : Type 0} → Bgp ≡ Static → A
no_static e = cc

-- ---- a static protocol

module _ (spec : ImportSpec) (verdict : Filter) (static : spec.kind ≡ Static) where
  quiet_mark : (m : Mark) → mark_of spec.kind m ≡ mark.Stay
  quiet_mark m = ap (λ k. mark_of k m) static

  quiet_beyond : (a : Action) (net : Net) (route : Route) (i : Imports) → (beyond spec a net route i).mark ≡ mark.Stay
  quiet_beyond action.Warn net route i = refl
  quiet_beyond action.Block net route i = refl
  quiet_beyond action.Disable net route i = quiet_mark mark.Down

  quiet_limit : (l : Option Limit) (net : Net) (route : Route) (i : Imports) → (at_limit spec l net route i).mark ≡ mark.Stay
  quiet_limit None net route i = refl
  quiet_limit (Some limit) net route i = by (is_over (Some limit) net i.accepted) where
    by : (t : Bool) → (if t then beyond spec limit.action net route i else only (accepting net route i)).mark ≡ mark.Stay
    by true = quiet_beyond limit.action net route i
    by false = refl

  quiet_taken : (net : Net) (o : Option Route) (i : Imports) → (taken spec net o i).mark ≡ mark.Stay
  quiet_taken net None i = refl
  quiet_taken net (Some route) i = quiet_limit spec.limit net route i

  quiet_next : (o : Outcome) (e : Net × Route) → o.mark ≡ mark.Stay → (decided_next spec verdict o e).mark ≡ mark.Stay
  quiet_next o e h = by (is_up o.imports.mode) where
    next : Outcome
    next = decided spec verdict e.0 e.1 o.imports

    by : (t : Bool) → (if t then record { imports = next.imports; over = o.over || next.over; mark = next.mark } else o).mark ≡ mark.Stay
    by true = quiet_taken e.0 (left_of verdict e.0 e.1) o.imports
    by false = h

  quiet_all : (es : Routes) (o : Outcome) → o.mark ≡ mark.Stay → (fold (decided_next spec verdict) o es).mark ≡ mark.Stay
  quiet_all [] o h = h
  quiet_all (e ∷ es) o h = quiet_all es (decided_next spec verdict o e) (quiet_next o e h)

  quiet_rebuilt : (i : Imports) → (rebuilt spec verdict i).mark ≡ mark.Stay
  quiet_rebuilt i = quiet_all i.received (only (record i { accepted = [] })) refl

  quiet_up : (received : Routes) (i : Imports) → (up_with spec verdict received i).mark ≡ mark.Stay
  quiet_up received i = quiet_rebuilt (record i { mode = mode.Up; received = received })

  quiet_start : (k : Kind) (i : Imports) → (started spec verdict k i).mark ≡ mark.Stay
  quiet_start Static i = quiet_up (configured spec) i
  quiet_start Bgp i = refl

  quiet_open : (k : Kind) (id : ℕ) (i : Imports) → k ≡ Static → (opened k id i).mark ≡ mark.Stay
  quiet_open Static id i e = refl
  quiet_open Bgp id i e = no_static e

  quiet_enable : (k : Kind) (i : Imports) → (enabled spec verdict k i).mark ≡ mark.Stay
  quiet_enable Static i = quiet_up i.received i
  quiet_enable Bgp i = refl

  quiet_also : (o : Outcome) → o.mark ≡ mark.Stay → (also_refreshed spec o).mark ≡ mark.Stay
  quiet_also o h = by (is_up o.imports.mode) where
    by : (t : Bool) → (if t then record o { mark = (refreshed spec o.imports).mark } else o).mark ≡ mark.Stay
    by true = quiet_mark mark.Refresh
    by false = h

  -- no operation says anything to its channel
  pub quiet_done : (op : Op) (m : Mode) (i : Imports) → (done_in spec verdict op m i).mark ≡ mark.Stay
  quiet_done Start mode.Idle i = quiet_start spec.kind i
  quiet_done (SessionUp id) mode.Idle i = quiet_open spec.kind id i static
  quiet_done (Add net given) mode.Up i =
      let route = imported_route spec i.id given in
      quiet_taken net (left_of verdict net route) (record i { received = with_route net route i.received })
  quiet_done (Del net) mode.Up i = refl
  quiet_done SessionDown mode.Up i = quiet_mark mark.Down
  quiet_done Disable mode.Idle i = quiet_mark mark.Stay
  quiet_done Disable mode.Up i = quiet_mark mark.Down
  quiet_done Disable mode.Limited i = quiet_mark mark.Stay
  quiet_done Enable mode.Disabled i = quiet_enable spec.kind i
  quiet_done Enable mode.Limited i = quiet_enable spec.kind i
  quiet_done ReloadIn mode.Up i = quiet_rebuilt i
  quiet_done ReloadOut mode.Up i = quiet_mark mark.Refresh
  quiet_done Reload mode.Up i = quiet_also (rebuilt spec verdict i) (quiet_rebuilt i)
  quiet_done op m i = refl

-- ---- a protocol of BGP

-- a mark comes where it may: whether the imports were up before, and whether they are
abbrev Moves : Mark → Bool → Bool → Type 0
Moves mark.Stay old new = new ≡ old
Moves mark.Up old new = (old ≡ false) × (new ≡ true)
Moves mark.Down old new = (old ≡ true) × (new ≡ false)
Moves mark.Refresh old new = (old ≡ true) × (new ≡ true)

abbrev Goes : Bool → Outcome → Type 0
Goes old o = Moves o.mark old (is_up o.imports.mode)

module _ (spec : ImportSpec) (verdict : Filter) (bgp : spec.kind ≡ Bgp) where
  moves_told : (m : Mark) (old new : Bool) → Moves m old new → Moves (mark_of spec.kind m) old new
  moves_told m old new h = subst (λ k. Moves (mark_of k m) old new) (sym bgp) h

  beyond_moves : (a : Action) (net : Net) (route : Route) (i : Imports) → is_up i.mode ≡ true → Goes true (beyond spec a net route i)
  beyond_moves action.Warn net route i up = up
  beyond_moves action.Block net route i up = up
  beyond_moves action.Disable net route i up = moves_told mark.Down true false (refl, refl)

  limit_moves : (l : Option Limit) (net : Net) (route : Route) (i : Imports) → is_up i.mode ≡ true → Goes true (at_limit spec l net route i)
  limit_moves None net route i up = up
  limit_moves (Some limit) net route i up = by (is_over (Some limit) net i.accepted) where
    by : (t : Bool) → Goes true (if t then beyond spec limit.action net route i else only (accepting net route i))
    by true = beyond_moves limit.action net route i up
    by false = up

  taken_moves : (net : Net) (o : Option Route) (i : Imports) → is_up i.mode ≡ true → Goes true (taken spec net o i)
  taken_moves net None i up = up
  taken_moves net (Some route) i up = limit_moves spec.limit net route i up

  next_moves : (o : Outcome) (e : Net × Route) → Goes true o → Goes true (decided_next spec verdict o e)
  next_moves o e h = by (is_up o.imports.mode) refl where
    next : Outcome
    next = decided spec verdict e.0 e.1 o.imports

    by : (t : Bool) → is_up o.imports.mode ≡ t → Goes true (if t then record { imports = next.imports; over = o.over || next.over; mark = next.mark } else o)
    by true up = taken_moves e.0 (left_of verdict e.0 e.1) o.imports up
    by false off = h

  all_move : (es : Routes) (o : Outcome) → Goes true o → Goes true (fold (decided_next spec verdict) o es)
  all_move [] o h = h
  all_move (e ∷ es) o h = all_move es (decided_next spec verdict o e) (next_moves o e h)

  rebuilt_moves : (i : Imports) → is_up i.mode ≡ true → Goes true (rebuilt spec verdict i)
  rebuilt_moves i up = all_move i.received (only (record i { accepted = [] })) up

  start_moves : (k : Kind) (i : Imports) → k ≡ Bgp → is_up i.mode ≡ false → Goes false (started spec verdict k i)
  start_moves Static i e off = no_bgp e
  start_moves Bgp i e off = off

  open_moves : (k : Kind) (id : ℕ) (i : Imports) → k ≡ Bgp → Goes false (opened k id i)
  open_moves Static id i e = no_bgp e
  open_moves Bgp id i e = (refl, refl)

  enable_moves : (k : Kind) (i : Imports) → k ≡ Bgp → Goes false (enabled spec verdict k i)
  enable_moves Static i e = no_bgp e
  enable_moves Bgp i e = refl

  also_moves : (o : Outcome) → Goes true o → Goes true (also_refreshed spec o)
  also_moves o h = by (is_up o.imports.mode) refl where
    by : (t : Bool) → is_up o.imports.mode ≡ t → Goes true (if t then record o { mark = (refreshed spec o.imports).mark } else o)
    by true up = moves_told mark.Refresh true (is_up o.imports.mode) (refl, up)
    by false off = h

  done_moves : (op : Op) (m : Mode) (i : Imports) → i.mode ≡ m → Goes (is_up m) (done_in spec verdict op m i)
  done_moves Start mode.Idle i e = start_moves spec.kind i bgp (ap is_up e)
  done_moves (SessionUp id) mode.Idle i e = open_moves spec.kind id i bgp
  done_moves (Add net given) mode.Up i e =
      let route = imported_route spec i.id given in
      taken_moves net (left_of verdict net route) (record i { received = with_route net route i.received }) (ap is_up e)
  done_moves (Del net) mode.Up i e = ap is_up e
  done_moves SessionDown mode.Up i e = moves_told mark.Down true false (refl, refl)
  done_moves Disable mode.Idle i e = moves_told mark.Stay false false refl
  done_moves Disable mode.Up i e = moves_told mark.Down true false (refl, refl)
  done_moves Disable mode.Limited i e = moves_told mark.Stay false false refl
  done_moves Enable mode.Disabled i e = enable_moves spec.kind i bgp
  done_moves Enable mode.Limited i e = enable_moves spec.kind i bgp
  done_moves ReloadIn mode.Up i e = rebuilt_moves i (ap is_up e)
  done_moves ReloadOut mode.Up i e = moves_told mark.Refresh true (is_up i.mode) (refl, ap is_up e)
  done_moves Reload mode.Up i e = also_moves (rebuilt spec verdict i) (rebuilt_moves i (ap is_up e))
  done_moves op m i e = ap is_up e

-- ---- the channel

fits_from : (m : Mark) (up old new : Bool) → up ≡ old → Moves m old new → Fits (signal_of m) up
fits_from mark.Stay up old new e h = tt
fits_from mark.Up up old new e h = e ∙ h.0
fits_from mark.Down up old new e h = e ∙ h.0
fits_from mark.Refresh up old new e h = e ∙ h.0

follows_from : (m : Mark) (up old new : Bool) → up ≡ old → Moves m old new → signalled (signal_of m) up ≡ new
follows_from mark.Stay up old new e h = e ∙ sym h
follows_from mark.Up up old new e h = sym h.1
follows_from mark.Down up old new e h = sym h.1
follows_from mark.Refresh up old new e h = e ∙ h.0 ∙ sym h.1

fits_quiet : (m : Mark) (up : Bool) → m ≡ mark.Stay → Fits (signal_of m) up
fits_quiet m up e = subst (λ (x : Mark). Fits (signal_of x) up) (sym e) tt

module _ (p : Source) where
  -- whether the channel is up behind operations
  abbrev pub up_of : List Op → Bool
  up_of [] = false
  up_of (op ∷ earlier) = signalled (effect_after p earlier op).signal (up_of earlier)

  moves_after : p.spec.kind ≡ Bgp → (earlier : List Op) (op : Op)
      → Moves (done p.spec p.filter op (imports_after p earlier)).mark (is_up (imports_after p earlier).mode) (is_up (imports_after p (op ∷ earlier)).mode)
  moves_after bgp earlier op = done_moves p.spec p.filter bgp op (imports_after p earlier).mode (imports_after p earlier) refl

  -- the channel is up where the imports are
  pub up_is_up : p.spec.kind ≡ Bgp → (ops : List Op) → up_of ops ≡ is_up (imports_after p ops).mode
  up_is_up bgp [] = refl
  up_is_up bgp (op ∷ earlier) =
      let i = imports_after p earlier in
      follows_from (done p.spec p.filter op i).mark (up_of earlier) (is_up i.mode) (is_up (imports_after p (op ∷ earlier)).mode) (up_is_up bgp earlier) (moves_after bgp earlier op)

  by_kind : (k : Kind) → p.spec.kind ≡ k → (earlier : List Op) (op : Op) → Fits (effect_after p earlier op).signal (up_of earlier)
  by_kind Static e earlier op =
      let i = imports_after p earlier in
      fits_quiet (done p.spec p.filter op i).mark (up_of earlier) (quiet_done p.spec p.filter e op i.mode i)
  by_kind Bgp e earlier op =
      let i = imports_after p earlier in
      fits_from (done p.spec p.filter op i).mark (up_of earlier) (is_up i.mode) (is_up (imports_after p (op ∷ earlier)).mode) (up_is_up e earlier) (moves_after e earlier op)

  pub signals_fit : (earlier : List Op) (op : Op) → Fits (effect_after p earlier op).signal (up_of earlier)
  signals_fit = by_kind p.spec.kind refl

-- ---- a pipe

pub pipe_fits : (up : Bool) (op : Op) → Fits (pipe_signal up op) up
pipe_fits true Disable = refl
pipe_fits false Enable = refl
pipe_fits true ReloadIn = refl
pipe_fits true ReloadOut = refl
pipe_fits true Reload = refl
pipe_fits up op = tt

enabled_by : (up : Bool) → signalled (pipe_signal up Enable) up ≡ true
enabled_by true = refl
enabled_by false = refl

disabled_by : (up : Bool) → signalled (pipe_signal up Disable) up ≡ false
disabled_by true = refl
disabled_by false = refl

other_word : (up : Bool) (op : Op) → op ≢ Enable → op ≢ Disable → signalled (pipe_signal up op) up ≡ up
other_word up Enable enable disable = absurd (enable refl)
other_word up Disable enable disable = absurd (disable refl)
other_word true op enable disable = refl
other_word false op enable disable = refl

pub enabled_up : (earlier : List Op) → pipe_is_up (Enable ∷ earlier) ≡ true
enabled_up earlier = enabled_by (pipe_is_up earlier)

pub disabled_down : (earlier : List Op) → pipe_is_up (Disable ∷ earlier) ≡ false
disabled_down earlier = disabled_by (pipe_is_up earlier)

pub others_stay : (op : Op) (earlier : List Op) → op ≢ Enable → op ≢ Disable → pipe_is_up (op ∷ earlier) ≡ pipe_is_up earlier
others_stay op earlier enable disable = other_word (pipe_is_up earlier) op enable disable
