-- A feed of the whole table.
use Rattle.std.proofs.Common.{◌≡◌, ℕ, ◌≤◌, max, Bool, true, false, List, [], ◌∷◌, Option, Some, None, refl, sym, ◌∙◌, ap, subst, arith, length}
use Rattle.std.specs.Prelude.{◌==◌, ◌&&◌, IsSome, slice_get, if◌then◌else◌}
use Rattle.bits_ip.specs.Address.{family_of}
use Rattle.bits_ip.specs.Prefix.{Net}
use Rattle.bits_ip.specs.declared.address.Family.{Family}
use Rattle.attrs.specs.declared.journal.Chunk.{Chunk}
use Rattle.attrs.specs.declared.judge.Verdict.{Verdict}
use Rattle.attrs.specs.declared.route.Change.{Change}
use Rattle.attrs.specs.declared.route.Route.{Route}
use Rattle.attrs.specs.Table.{route_of, routes_of}
use Rattle.attrs.proofs.Rows.{first_found}
use Rattle.export_core.specs.declared.floors.FeedState.TheVariants.{Done, From}
use Rattle.export_core.specs.declared.log.Key.{Key}
use Rattle.export_core.specs.declared.passing.ExportSpec.{ExportSpec}
use Rattle.export_core.specs.Calls.{Feeds}
use Rattle.export_core.specs.Candidates.{IsChunk, best_in, covers, floor_of, is_below, is_from}
use Rattle.export_core.specs.States.{State, feed_after, is_ahead, reach_of}
use Rattle.core_machine.specs.Channels.{Channel, IsFed, is_open, opened, renewed}
use Rattle.core_machine.specs.Channels as machine
use Rattle.core_machine.specs.Histories.{content_of}
use Rattle.core_machine.specs.Match.{IsHeadChunk, IsSpecOf, Matches, MatchesFed}
use Rattle.core_machine.specs.Pipes.{candidate, is_pipe, passes}
use Rattle.core_machine.specs.Rules.{IsRules, Rules}
use Rattle.core_machine.proofs.Contents.{none_some}
use Rattle.core_machine.proofs.Fed.{chunk_matches, feed_matches}
use Rattle.core_machine.proofs.OneChannel.{pipe_candidate, plain_candidate}
use Rattle.core_machine.proofs.ToldRows.{rows_candidate, rows_tell}
use Rattle.run_tables.specs.Channels.{HasBegun}
use Rattle.run_tables.specs.declared.table.Table.{Table}
use Rattle.run_tables.specs.Tables.{IsTable, IsWhole}
use Rattle.run_tables.proofs.Journals.{change_family, content_family, sourced_none}

-- the range is all
covers_all : (chunk : Chunk) → chunk.from ≡ None → chunk.upto ≡ None → (k : Key) → covers (floor_of chunk) k ≡ true
covers_all chunk from upto k = ap (λ (f : Option Net). is_from f k.net && is_below chunk.upto k.net) from ∙ ap (λ (u : Option Net). is_below u k.net) upto

module _ (rules : Rules) (c : ℕ) (family : Family) (h : List Change) (t : Table) (ok : IsRules rules) (is : IsTable rules family h t) (spec : ExportSpec) (fits : IsSpecOf rules c spec) (chunk : Chunk) (w : IsWhole h chunk) where
  beyond : (net : Net) (num : ℕ) → rules.protocols ≤ num → content_of h net num ≡ None
  beyond net num le = sourced_none rules h is.sources net num le

  told : (k : Key) → best_in spec k chunk.rows ≡ candidate rules c k h
  told k = rows_candidate rules c spec (content_of h) chunk.rows k ok fits (λ num le. beyond k.net num le) w.shows

  pub whole_range : IsChunk spec chunk
  whole_range = record {
    forward = λ end e. absurd (none_some (sym w.upto ∙ e));
    within = λ k e. absurd (let bad : true ≡ false = sym (covers_all chunk w.from w.upto k) ∙ e in cc);
  }

  pub whole_head : IsHeadChunk rules c spec h chunk
  whole_head = record { at = w.at; range = whole_range; best = λ k e. told k }

  net_family : (k : Net) (num : ℕ) → IsSome (content_of h k num) → family_of k.addr ≡ family
  net_family k num some = content_family family h (change_family rules family h t is) k num some

  rows_family : (k : Net) (rows : List Route) → routes_of k chunk.rows ≡ rows → IsSome (slice_get rows 0) → family_of k.addr ≡ family
  rows_family k [] e some = absurd (let bad : false ≡ true = some in cc)
  rows_family k (r ∷ rows) e some =
      let found : content_of h k r.src.num ≡ Some r = sym (w.shows.routes_are k r.src.num) ∙ ap (route_of r.src.num) e ∙ first_found r rows in
      net_family k r.src.num (subst IsSome (sym found) refl)

  either : (b : Bool) (o : Option Route) → IsSome (if b then o else None) → IsSome o
  either true o some = some
  either false o some = absurd (let bad : false ≡ true = some in cc)

  pub whole_family : (k : Key) → IsSome (best_in spec k chunk.rows) → family_of k.net.addr ≡ family
  whole_family k some = on (is_pipe rules c) refl (subst IsSome (told k) some) where
    on : (b : Bool) → is_pipe rules c ≡ b → IsSome (candidate rules c k h) → family_of k.net.addr ≡ family
    on true pipe some = net_family k.net k.num (either (passes rules c k.num) (content_of h k.net k.num) (subst IsSome (pipe_candidate rules c k (content_of h) pipe) some))
    on false plain some =
        rows_family k.net (routes_of k.net chunk.rows) refl
        (subst IsSome (sym (rows_tell rules (content_of h) chunk.rows k.net ok (λ num le. beyond k.net num le) w.shows))
        (either (k.num == 0) (rules.choose (content_of h k.net)) (subst IsSome (plain_candidate rules c k (content_of h) plain) some)))

-- ---- what a feed wants of the exporter

by_ahead : (b : Bool) (a c head : ℕ) → a ≤ head → c ≤ head → (if b then a else c) ≤ head
by_ahead true a c head ea ec = ea
by_ahead false a c head ea ec = ec

module _ {J : Type 0} (verdict : J → Net → Route → Verdict) (table : Table) (e : State J) (begun : HasBegun verdict e table) (chunk : Chunk)
    (made : (rules : Rules) (family : Family) (h : List Change) → IsTable rules family h table → IsWhole h chunk) where
  whole : IsWhole begun.history chunk
  whole = made begun.rules begun.family begun.history begun.is

  pub feed_here : e.feed ≡ From chunk.from
  feed_here = begun.feed_is ∙ ap From (sym whole.from)

  pub feed_later : (k : Key) → reach_of e k ≤ chunk.at
  feed_later k =
      let now = begun.begun in
      let low = now.within.read now.up in
      let head = whole.at in
      subst (λ n. n ≤ chunk.at) (sym (now.read k))
      (by_ahead (is_ahead e.feed k) (max begun.ch.position begun.ch.floor) (max (max begun.ch.position begun.ch.floor) (length begun.history)) chunk.at (omega (arith, low.0, low.1, head)) (omega (arith, low.0, low.1, head)))

  pub feed_range : IsChunk e.spec chunk
  feed_range = whole_range begun.rules begun.c begun.family begun.history table begun.rules_are begun.is e.spec begun.begun.resembles.spec chunk whole

  pub feed_family : (k : Key) → IsSome (best_in e.spec k chunk.rows) → family_of k.net.addr ≡ e.spec.family
  feed_family k some = whole_family begun.rules begun.c begun.family begun.history table begun.rules_are begun.is e.spec begun.begun.resembles.spec chunk whole k some ∙ sym begun.family_is

-- ---- what it comes to

module _ {J : Type 0} (verdict : J → Net → Route → Verdict) (table : Table) (e e' : State J) (chunk : Chunk)
    (made : (rules : Rules) (family : Family) (h : List Change) → IsTable rules family h table → IsWhole h chunk) (feeds : Feeds chunk e e') (was : e.feed ≡ From None) where
  pub feed_ends : (rules : Rules) (c : ℕ) (family : Family) (h : List Change) (due : Bool) (ch : Channel) → IsRules rules → IsTable rules family h table
      → MatchesFed verdict rules c h due [] e ch → (new : Channel) × IsFed rules c h due ch new × Matches verdict rules c h e' new
  feed_ends rules c family h due ch ok is m =
      let w = made rules family h is in
      let next = chunk_matches verdict rules c h due [] chunk e e' ch m (was ∙ ap From (sym w.from)) (whole_head rules c family h table ok is e.spec m.resembles.spec chunk w) feeds in
      let done : e'.feed ≡ Done = feeds.feed ∙ ap feed_after w.upto in
      let end = feed_matches verdict rules c h due next.0 e' ch done next.1 in
      (machine.fed next.0 due (length h) ch, end.0, end.1)
