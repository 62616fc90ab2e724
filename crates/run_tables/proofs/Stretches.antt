-- How a channel's stretches begin, go on and end.
use Rattle.std.proofs.Common.{◌≡◌, ℕ, Bool, true, false, List, [], ◌∷◌, ◌++◌, ◌<◌, Option, Some, arith, sym, ◌∙◌, ap, subst, length, is_some, refl}
use Rattle.std.specs.Prelude.{IsSome, ◌||◌}
use Rattle.std.specs.List.{AllByRecursion}
use Rattle.std.specs.Map.{keys_of}
use Rattle.bits_ip.specs.Address.{family_of}
use Rattle.bits_ip.specs.Prefix.{Net}
use Rattle.bits_ip.specs.declared.address.Family.{Family}
use Rattle.attrs.specs.declared.attributes.Attrs.{Attrs}
use Rattle.attrs.specs.declared.judge.Verdict.{Verdict}
use Rattle.attrs.specs.declared.route.Change.{Change}
use Rattle.attrs.specs.declared.route.Route.{Route}
use Rattle.export_core.specs.declared.log.Key.{Key}
use Rattle.export_core.specs.declared.log.Sending.{Sending}
use Rattle.export_core.specs.declared.exporter.Pushed.{Pushed}
use Rattle.export_core.specs.declared.exporter.Pushed.TheVariants as answers
use Rattle.export_core.specs.declared.floors.FeedState.TheVariants.{Done}
use Rattle.export_core.specs.declared.floors.Floor.{Floor}
use Rattle.export_core.specs.declared.log.LogItem.{LogItem}
use Rattle.export_core.specs.declared.log.LogItem.TheVariants.{Down}
use Rattle.export_core.specs.declared.passing.ExportSpec.{ExportSpec}
use Rattle.export_core.specs.Calls.{AreStanding, Flushes, FlushesBy, begun, ended, refreshed}
use Rattle.export_core.specs.Keys.{same_key}
use Rattle.export_core.specs.Marks.{at, holds}
use Rattle.export_core.specs.Sends.{IsStanding}
use Rattle.export_core.specs.Standing.{standing_at}
use Rattle.export_core.specs.States.{State}
use Rattle.export_core.proofs.Keys.{holds-keys_of, same_key_itself}
use Rattle.core_machine.specs.Channels.{Channel, IsFed, is_open, opened, renewed}
use Rattle.core_machine.specs.Enters.{standing_keys}
use Rattle.core_machine.specs.Match.{Matches, MatchesFed}
use Rattle.core_machine.specs.Rules.{IsRules, Rules}
use Rattle.core_machine.proofs.Contents.{some_same}
use Rattle.core_machine.proofs.Fed.{flush_begins, refresh_matches, up_matches}
use Rattle.run_tables.specs.Channels.{HasBegun, IsExporter, IsOver, Withdraws}
use Rattle.run_tables.specs.declared.table.Table.{Table}
use Rattle.run_tables.specs.Tables.{IsTable}
use Rattle.run_tables.proofs.Journals.{head_is}
use Rattle.run_tables.proofs.Steps.{fed_is, opened_told}

module _ {J : Type 0} (verdict : J → Net → Route → Verdict) (table : Table) (old mid : State J) where
  -- what a feed owes, of the exporter with which it begins
  abbrev pub Feeds : State J → Type 0
  Feeds new =
      (rules : Rules) (c : ℕ) (family : Family) (h : List Change) (due : Bool) (ch : Channel) → IsRules rules → IsTable rules family h table
      → MatchesFed verdict rules c h due [] mid ch → (fed : Channel) × IsFed rules c h due ch fed × Matches verdict rules c h new fed

  opens : (rules : Rules) (c : ℕ) (family : Family) (h : List Change) (ch : Channel) (head : ℕ) → head ≡ length table.entries.items → mid ≡ begun head old
      → IsTable rules family h table → IsExporter verdict rules c (Some family) h old ch → MatchesFed verdict rules c h false [] mid (opened (length h) ch)
  opens rules c family h ch head at same is m =
      subst (λ e. MatchesFed verdict rules c h false [] e (opened (length h) ch)) (sym (same ∙ ap (λ n. begun n old) (at ∙ head_is rules family h table is)))
      (up_matches verdict rules c h old ch m.matches)

  renews : (rules : Rules) (c : ℕ) (family : Family) (h : List Change) (ch : Channel) → mid ≡ refreshed old → is_open ch ≡ true
      → IsExporter verdict rules c (Some family) h old ch → MatchesFed verdict rules c h true [] mid (renewed ch)
  renews rules c family h ch same up m = subst (λ e. MatchesFed verdict rules c h true [] e (renewed ch)) (sym same) (refresh_matches verdict rules c h old ch up m.matches)

  family_of_spec : (family : Family) → mid.spec ≡ old.spec → Some family ≡ Some old.spec.family → mid.spec.family ≡ family
  family_of_spec family same is = ap (λ (s : ExportSpec). s.family) same ∙ sym (some_same is)

  pub rise_begins : (head : ℕ) → head ≡ length table.entries.items → mid ≡ begun head old → IsOver verdict old table false → HasBegun verdict mid table
  rise_begins head at same over = record {
    rules = over.rules;
    c = over.c;
    family = over.family;
    history = over.history;
    due = false;
    ch = opened (length over.history) over.ch;
    rules_are = over.rules_are;
    is = over.is;
    family_is = family_of_spec over.family (ap (λ (e : State J). e.spec) same) over.exporter.family_is;
    feed_is = ap (λ (e : State J). e.feed) same;
    begun = opens over.rules over.c over.family over.history over.ch head at same over.is over.exporter;
  }

  pub renew_begins : mid ≡ refreshed old → IsOver verdict old table true → HasBegun verdict mid table
  renew_begins same over = record {
    rules = over.rules;
    c = over.c;
    family = over.family;
    history = over.history;
    due = true;
    ch = renewed over.ch;
    rules_are = over.rules_are;
    is = over.is;
    family_is = family_of_spec over.family (ap (λ (e : State J). e.spec) same) over.exporter.family_is;
    feed_is = ap (λ (e : State J). e.feed) same;
    begun = renews over.rules over.c over.family over.history over.ch same over.is_up over.exporter;
  }

  module _ (new : State J) (spec : new.spec ≡ mid.spec) (feeds : Feeds new) (rules : Rules) (c : ℕ) (family : Family) (h : List Change) (ch : Channel)
      (ok : IsRules rules) (is : IsTable rules family h table) (m : IsExporter verdict rules c (Some family) h old ch) where
    pub rise_is : (head : ℕ) → head ≡ length table.entries.items → mid ≡ begun head old
        → (fed : Channel) × IsFed rules c h false (opened (length h) ch) fed × IsExporter verdict rules c (Some family) h new fed
    rise_is head at same =
        let end = feeds rules c family h false (opened (length h) ch) ok is (opens rules c family h ch head at same is m) in
        (end.0, end.1, fed_is verdict rules c h (Some family) false old new (opened (length h) ch) end.0 m.family_is (spec ∙ ap (λ (e : State J). e.spec) same) (opened_told verdict rules c h ch m.told) end.1 end.2)

    pub renew_is : mid ≡ refreshed old → is_open ch ≡ true
        → (fed : Channel) × IsFed rules c h true (renewed ch) fed × IsExporter verdict rules c (Some family) h new fed
    renew_is same up =
        let end = feeds rules c family h true (renewed ch) ok is (renews rules c family h ch same up m) in
        (end.0, end.1, fed_is verdict rules c h (Some family) true old new (renewed ch) end.0 m.family_is (spec ∙ ap (λ (e : State J). e.spec) same) m.told end.1 end.2)

-- ---- what stands is withdrawn

module _ {J : Type 0} where
  abbrev made : ExportSpec → J → ℕ → List Floor → Bool → List LogItem → State J
  made spec judge position floors refreshing log = record {
    spec = spec;
    judge = judge;
    position = position;
    floors = floors;
    feed = Done;
    refreshing = refreshing;
    marks = [];
    log = log ++ Down ∷ [];
    flushing = false;
    left = [];
  }

  -- what is being withdrawn is nothing of how a stretch ends
  pub ends_as : (x : Sending) (e e' : State J) → Flushes x e e' → ended e' ≡ ended e
  ends_as x e e' f =
      ap (λ s. made s e'.judge e'.position e'.floors e'.refreshing e'.log) f.spec ∙ ap (λ s. made e.spec s e'.position e'.floors e'.refreshing e'.log) f.judge
      ∙ ap (λ s. made e.spec e.judge s e'.floors e'.refreshing e'.log) f.position ∙ ap (λ s. made e.spec e.judge e.position s e'.refreshing e'.log) f.floors
      ∙ ap (λ s. made e.spec e.judge e.position e.floors s e'.log) f.refreshing ∙ ap (λ s. made e.spec e.judge e.position e.floors e.refreshing s) f.log

  pub withdrawn_one : (p : Pushed) (told told' : Option (List Sending)) (e e' : State J) → FlushesBy e e' told told' p → p ≡ answers.Sent → Withdraws e e' true
  withdrawn_one answers.Sent told told' e e' f same = (f.0.key, f.1.left, ends_as f.0 e e' f.1, f.1.log, f.1.spec)
  withdrawn_one answers.Quiet told told' e e' f same = absurd f
  withdrawn_one answers.Nothing told told' e e' f same = absurd (let bad : answers.Nothing ≡ answers.Sent = same in cc)

  pub none_withdrawn : (p : Pushed) (told told' : Option (List Sending)) (e e' : State J) → FlushesBy e e' told told' p → p ≡ answers.Nothing → Withdraws e e' false
  none_withdrawn answers.Nothing told told' e e' f same = (f.0, f.1)
  none_withdrawn answers.Quiet told told' e e' f same = absurd f
  none_withdrawn answers.Sent told told' e e' f same = absurd (let bad : answers.Sent ≡ answers.Nothing = same in cc)

  pub never_quiet : (p : Pushed) (told told' : Option (List Sending)) (e e' : State J) (b : Bool) → FlushesBy e e' told told' p → p ≡ answers.Quiet → Withdraws e e' b
  never_quiet answers.Quiet told told' e e' b f same = absurd f
  never_quiet answers.Sent told told' e e' b f same = absurd (let bad : answers.Sent ≡ answers.Quiet = same in cc)
  never_quiet answers.Nothing told told' e e' b f same = absurd (let bad : answers.Nothing ≡ answers.Quiet = same in cc)

  -- withdrawals so far
  pub record WithdrawnSoFar (e e' : State J) : Type 0 where
    pub ends : ended e' ≡ ended e
    pub log : e'.log ≡ e.log
    pub spec : e'.spec ≡ e.spec

  pub withdrawn_more : (e mid e' : State J) → WithdrawnSoFar e mid → Withdraws mid e' true → WithdrawnSoFar e e'
  withdrawn_more e mid e' far w = record { ends = w.2 ∙ far.ends; log = w.3 ∙ far.log; spec = w.4 ∙ far.spec }

  pub fewer_left : (mid e' : State J) → Withdraws mid e' true → length e'.left < length mid.left
  fewer_left mid e' w = let le = ap length w.1 in omega (arith, le)

module _ {J : Type 0} (verdict : J → Net → Route → Verdict) (rules : Rules) (c : ℕ) (h : List Change) where
  -- the keys of what stands are the machine's
  pub keys_stand : (e : State J) (ch : Channel) (items : List (Key × Attrs)) → IsStanding e.log items → Matches verdict rules c h e ch → keys_of items ≡ standing_keys ch.log
  keys_stand e ch items is m = (flush_begins verdict rules c h (with_left e (keys_of items)) ch standing like).left where
    with_left : State J → List Key → State J
    with_left e keys = record {
      spec = e.spec;
      judge = e.judge;
      position = e.position;
      floors = e.floors;
      feed = e.feed;
      refreshing = e.refreshing;
      marks = e.marks;
      log = e.log;
      flushing = e.flushing;
      left = keys;
    }

    standing : AreStanding e.log (keys_of items)
    standing = record { ascend = is.ascend; are = λ k. holds-keys_of k items ∙ ap is_some (is.values k) }

    like : Matches verdict rules c h (with_left e (keys_of items)) ch
    like = record {
      like = record {
        within = m.like.within;
        resembles = record {
          spec = m.like.resembles.spec;
          value = m.like.resembles.value;
          position = m.like.resembles.position;
          order = m.like.resembles.order;
          marks = m.like.resembles.marks;
          log = m.like.resembles.log;
        };
        read = m.like.read;
        feed = m.like.feed;
      };
      rest = m.rest;
    }

-- what holds of each key that stands in a list
each_held : (P : Key → Type 0) (keys : List Key) → ((k : Key) → holds k keys ≡ true → P k) → AllByRecursion P keys
each_held P [] all = tt
each_held P (x ∷ keys) all = (all x (ap (λ b. b || holds x keys) (same_key_itself x)), each_held P keys (λ k there. all k (or_there (same_key x k) (holds k keys) there))) where
  or_there : (a b : Bool) → b ≡ true → (a || b) ≡ true
  or_there true b e = refl
  or_there false b e = e

-- the nets of what stands are of one family
pub keys_family : (family : Family) (log : List LogItem) (items : List (Key × Attrs)) → IsStanding log items → ((k : Key) → IsSome (standing_at k log) → family_of k.net.addr ≡ family)
    → (keys : List Key) → keys ≡ keys_of items → AllByRecursion (λ (k : Key). family_of k.net.addr ≡ family) keys
keys_family family log items is all keys same =
    each_held (λ (k : Key). family_of k.net.addr ≡ family) keys
    (λ k there. all k (ap is_some (sym (is.values k)) ∙ sym (holds-keys_of k items) ∙ ap (holds k) (sym same) ∙ there))
