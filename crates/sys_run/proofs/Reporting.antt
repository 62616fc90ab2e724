-- The report of a phase: its parts are those of what is printed.
use Rattle.std.proofs.Common.{◌≡◌, ℕ, zero, suc, ◌+◌, ◌-◌, ◌==◌, Bool, true, false, List, [], ◌∷◌, ◌++◌, length, map, drop, reverse, Option, Some, None, is_some, refl, sym, ap, subst, ◌∙◌, arith}
use Rattle.std.specs.Prelude.{slice_get, option_map, if◌then◌else◌}
use Rattle.std.specs.declared.alloc.Global.{Global}
use Rattle.std.specs.declared.vec.Vec.{Vec}
use Rattle.std.proofs.lemmas.Bool.{cond-false, ne_eqb}
use Rattle.std.proofs.lemmas.List.{append_cancel_right, length-reverse, reverse-append, reverse-reverse}
use Rattle.std.proofs.lemmas.Option.{none-some, same_Some, slice_get-map}
use Rattle.bits_ip.specs.Prefix.{Net}
use Rattle.bits_ip.specs.declared.address.Family.{Family}
use Rattle.attrs.specs.declared.attributes.Attrs.{Attrs}
use Rattle.attrs.specs.declared.judge.Verdict.{Verdict}
use Rattle.attrs.specs.declared.route.Change.{Change}
use Rattle.attrs.specs.declared.route.Route.{Route}
use Rattle.export_core.specs.declared.log.Key.{Key}
use Rattle.export_core.specs.declared.log.LogItem.{LogItem}
use Rattle.export_core.specs.Logs.{account, value_of}
use Rattle.import_core.specs.Imports.{is_up}
use Rattle.import_core.specs.declared.operation.Op.{Op}
use Rattle.import_core.specs.declared.step.Done.{Done}
use Rattle.core_machine.specs.Channels as machine
use Rattle.core_machine.specs.Channels.{is_open}
use Rattle.core_machine.specs.Histories.{content_of, front}
use Rattle.core_machine.specs.Legal.{Joined, Printed, join}
use Rattle.core_machine.specs.Lines.{Reply, ops_of}
use Rattle.core_machine.specs.Machine.{State}
use Rattle.core_machine.specs.Phases.{Prints}
use Rattle.core_machine.specs.Replies.{replies_to}
use Rattle.core_machine.specs.SyncState.{Shown}
use Rattle.core_setup.specs.Channels as setups
use Rattle.core_setup.specs.Channels.{channels, target_at}
use Rattle.core_setup.specs.Pairs.{Pairs}
use Rattle.core_setup.specs.Protocols.{accepted_at, accepted_in, mode_at, mode_in, pipe_is_up, pipe_mode, rules_of}
use Rattle.core_setup.specs.Queries.{choice_of, sends_of}
use Rattle.core_setup.specs.Reports.{IsExportReport, IsReplyReport, IsStandingReport, IsTableReport, channel_report, dones, is_direction, journal_report, mode_report, name_in, protocol_names, protocol_report, replies_from, state_in, table_name}
use Rattle.core_setup.specs.Setup.{Body as SeenBody, IsPipe, IsSource, Protocol, Setup}
use Rattle.core_setup.proofs.PairLemmas.{other_here, pairs_append, pairs_mapped, pairs_through, weaker_here}
use Rattle.show_route.specs.Shown.{IsReply}
use Rattle.report.specs.declared.phase.ChannelReport.{ChannelReport}
use Rattle.report.specs.declared.phase.ExportReport.{ExportReport}
use Rattle.report.specs.declared.phase.JournalReport.{JournalReport}
use Rattle.report.specs.declared.phase.ModeReport.{ModeReport}
use Rattle.report.specs.declared.phase.ProtocolReport.{ProtocolReport}
use Rattle.report.specs.declared.phase.ProtocolState.{ProtocolState}
use Rattle.report.specs.declared.phase.ProtocolState.TheVariants as states
use Rattle.report.specs.declared.phase.ReplyReport.{ReplyReport}
use Rattle.report.specs.declared.phase.Standing.{Standing}
use Rattle.report.specs.declared.phase.TableReport.{TableReport}
use Rattle.run_tables.specs.Channels.{TellsStanding}
use Rattle.run_tables.specs.declared.channel.Channel.{Channel}
use Rattle.run_tables.specs.declared.table.Table.{Table}
use Rattle.run_tables.proofs.Routing.{ChannelIs, TableIs, are_same}
use Rattle.sys_run.specs.Cores.{Does, IsAnswered, IsCore, PlaysAs, counted}
use Rattle.sys_run.specs.Phase.{BeganAt, IsEmptied, IsExportOf, IsJournalOf, IsLogOf, IsModeOf, IsOperationsOf, IsTableOf, logged_in, name_at, name_of, reply_of, standing_in, state_of, told}
use Rattle.sys_run.specs.Playing.{Rests, silent}
use Rattle.sys_run.specs.declared.parts.TableParts.{TableParts}
use Rattle.sys_run.specs.declared.phase.Begun.{Begun}
use Rattle.sys_run.specs.declared.player.Answered.{Answered}
use Rattle.sys_run.specs.declared.player.Core.{Core}
use Rattle.sys_run.specs.declared.protocol.Body.{Body}
use Rattle.sys_run.specs.declared.protocol.Body.TheVariants.{Pipe, Source}
use Rattle.sys_run.specs.declared.protocol.Protocol.{Protocol as HeldProtocol}
use Rattle.sys_run.proofs.ReportingLoops.{heads_began, logged_began}

drop_first : {A : Type 0} (xs ys : List A) → drop (length xs) (xs ++ ys) ≡ ys
drop_first [] ys = refl
drop_first (x ∷ xs) ys = drop_first xs ys

-- what a list that is read backwards has more, in the order of time
behind : {A : Type 0} (n : ℕ) (xs more base : List A) → xs ≡ more ++ base → n ≡ length base → drop n (reverse xs) ≡ reverse more
behind n xs more base e en =
    ap (λ k. drop k (reverse xs)) (en ∙ sym (length-reverse base)) ∙ ap (λ l. drop (length (reverse base)) (reverse l)) e
    ∙ ap (drop (length (reverse base))) (reverse-append more base) ∙ drop_first (reverse base) (reverse more)

name_one : (ps : List Protocol) (j : ℕ) (q : Protocol) (name : List ℕ) → slice_get ps j ≡ Some q → slice_get (map (λ (p : Protocol). p.name) ps) j ≡ Some name → name ≡ q.name
name_one ps j q name e en = same_Some name q.name (sym en ∙ slice_get-map (λ (p : Protocol). p.name) ps j ∙ ap (option_map (λ (p : Protocol). p.name)) e)

channel_one : (cs : List setups.Channel) (j : ℕ) (c : setups.Channel) (name : List ℕ) → slice_get cs j ≡ Some c → slice_get (map (λ (c : setups.Channel). c.name) cs) j ≡ Some name → name ≡ c.name
channel_one cs j c name e en = same_Some name c.name (sym en ∙ slice_get-map (λ (c : setups.Channel). c.name) cs j ∙ ap (option_map (λ (c : setups.Channel). c.name)) e)

up_is : (up : Bool) → up ≡ is_up (pipe_mode up)
up_is true = refl
up_is false = refl

-- behind a phase there is one
behind_first : {A : Type 0} (n : ℕ) (xs : List A) → xs ≡ (if n + 1 == 0 then [] else xs)
behind_first n xs = sym (cond-false (n + 1 == 0) [] xs (ne_eqb (n + 1) 0 (λ e. omega (arith, e))))

module _ {J : Type 0} (verdict : J → Net → Route → Verdict) where
  -- where a phase began
  pub began : (setup : Setup) (phases : ℕ) (past : Joined) (s : State) (core : Core J) (begun : Begun) → Rests verdict setup phases past s core
      → begun.heads.items ≡ map (λ (table : Table). length table.entries.items) core.routes.tables.items
      → begun.logged.items ≡ map (logged_in (core.phases == 0)) core.routes.channels.items → BeganAt setup past begun
  began setup phases past s core begun rests eh el = record {
    heads = weaker_here (λ n table head. head ≡ length (s.history n)) (λ n table head. head ≡ length (past.history n)) setup.tables begun.heads.items
        (λ j x y _ _ e. e ∙ sym (ap length (rests.agrees.history j)))
        (heads_began setup (silent s) core.routes.tables.items begun.heads.items rests.core_is.routes.tables eh);
    logged = weaker_here (λ c channel len. len ≡ length (if core.phases == 0 then [] else (s.channels c).log)) (λ c channel len. len ≡ length (past.logs c)) (channels setup) begun.logged.items
        (λ j x y _ _ e. e ∙ ap (λ n. length (if n == 0 then [] else (s.channels j).log)) rests.phases_are ∙ sym (ap length (rests.agrees.logs j)))
        (logged_began verdict setup (silent s) (core.phases == 0) core.routes.channels.items begun.logged.items rests.core_is.routes.channels el);
  }

  state_is : (body : SeenBody) (i : ℕ) (ops : List Op) (shown : Shown) (held : Body J) → shown.modes i ≡ mode_in body ops → shown.accepted i ≡ length (accepted_in body ops)
      → Does verdict body ops held → state_of held ≡ state_in body shown i
  state_is (IsSource p) i ops shown (Source held) em ea is =
      ap (λ m. states.Imports m (length held.importer.imports.accepted)) (ap (λ e. e.mode) is.imports ∙ sym em)
      ∙ ap (λ n. states.Imports (shown.modes i) n) (ap (λ e. length e.accepted) is.imports ∙ sym ea)
  state_is (IsSource p) i ops shown (Pipe up) em ea is = absurd is
  state_is (IsPipe p) i ops shown (Source held) em ea is = absurd is
  state_is (IsPipe p) i ops shown (Pipe up) em ea is = ap states.Pipe (is ∙ up_is (pipe_is_up ops) ∙ ap is_up (sym em))

-- ---- what is printed

module _ {J : Type 0} (verdict : J → Net → Route → Verdict) (setup : Setup) (past : Joined) (s : State) (core : Core J) (are : IsCore verdict setup past s core) where
  abbrev pub printed : Printed
  printed = record {
    entries = λ n. (are.histories n).0;
    ops = λ i. (are.operations i).0;
    items = λ c. (are.logs c).0;
    replies = s.replies;
    shown = record {
      rows = λ n. content_of (s.history n);
      modes = λ i. (rules_of setup).mode i (ops_of (s.ops i));
      accepted = λ i. length ((rules_of setup).accepted i (ops_of (s.ops i)));
      up = λ c. is_open (s.channels c);
      standing = λ c k. value_of (account k (s.channels c).log);
    };
  }

  pub prints : Prints (rules_of setup) past s printed
  prints = record {
    entries = λ n. (are.histories n).1;
    ops = λ i. (are.operations i).1;
    items = λ c. (are.logs c).1;
    replies = refl;
    shown = record { rows = λ n net num. refl; modes = λ i. refl; accepted = λ i. refl; up = λ c. refl; standing = λ c k. refl };
  }

  new_ops : (i : ℕ) (p : Protocol) (held : HeldProtocol J) (is : PlaysAs verdict setup i p (past.ops i) (s.ops i) held) → is.new ≡ printed.ops i
  new_ops i p held is = append_cancel_right is.new (printed.ops i) (past.ops i) (sym is.since ∙ (are.operations i).1)

  named : (j : ℕ) (q : Protocol) (name : List ℕ) → slice_get setup.protocols j ≡ Some q → slice_get core.names.items j ≡ Some name → name ≡ q.name
  named j q name e en = name_one setup.protocols j q name e (ap (λ names. slice_get names j) (sym are.names) ∙ en)

  channel_named : (j : ℕ) (c : setups.Channel) (name : List ℕ) → slice_get (channels setup) j ≡ Some c → slice_get core.channels.items j ≡ Some name → name ≡ c.name
  channel_named j c name e en = channel_one (channels setup) j c name e (ap (λ names. slice_get names j) (sym are.channels) ∙ en)

  table_named : (j : ℕ) (seen : List ℕ × Family) (name : List ℕ) → slice_get setup.tables j ≡ Some seen → name_at j core.tables.items ≡ Some name → name ≡ seen.0
  table_named j seen name e en =
      let held = other_here (λ n seen (held : TableParts). let pair : List ℕ × Family = (held.name, held.family) in seen ≡ pair) setup.tables core.tables.items are.tables j seen e in
      same_Some name seen.0 (sym en ∙ ap (option_map (λ (table : TableParts). table.name)) held.1 ∙ ap (λ (t : List ℕ × Family). Some t.0) (sym held.2))

  pub operations_reported : (reports : List ProtocolReport) → Pairs (IsOperationsOf core.names.items) 0 core.protocols.items reports
      → Pairs (λ i q r. r ≡ protocol_report (rules_of setup) past printed i q) 0 setup.protocols reports
  operations_reported reports told_of =
      pairs_through (λ i q held. PlaysAs verdict setup i q (past.ops i) (s.ops i) held) (IsOperationsOf core.names.items) (λ i q r. r ≡ protocol_report (rules_of setup) past printed i q)
      setup.protocols core.protocols.items reports
      (λ j q held r eq _ _ is of. same r q.name (reverse (dones (rules_of setup) j (ops_of (past.ops j)) (ops_of (printed.ops j)))) (named j q r.name eq of.name)
      (of.ops ∙ is.done ∙ ap (λ turns. reverse (dones (rules_of setup) j (ops_of (past.ops j)) (ops_of turns))) (new_ops j q held is)))
      are.protocols told_of
    where
      same : (r : ProtocolReport) (name : List ℕ) (ops : List Done) → r.name ≡ name → r.ops ≡ ops → r ≡ record { name = name; ops = ops }
      same r name ops en eo = λ i. record { name = en i; ops = eo i }

  pub journals_reported : (begun : Begun) (reports : List JournalReport) → BeganAt setup past begun → Pairs (IsJournalOf core.tables.items begun.heads.items) 0 core.routes.tables.items reports
      → Pairs (λ n table r. r ≡ journal_report past printed n table) 0 setup.tables reports
  journals_reported begun reports at told_of =
      pairs_through (TableIs setup s) (IsJournalOf core.tables.items begun.heads.items) (λ n table r. r ≡ journal_report past printed n table)
      setup.tables core.routes.tables.items reports
      (λ j seen table r es _ _ is of.
      let head = other_here (λ n seen head. head ≡ length (past.history n)) setup.tables begun.heads.items at.heads j seen es in
      let start : r.from ≡ length (past.history j) = same_Some r.from head.0 (sym of.from_is ∙ head.1) ∙ head.2 in
      same r seen.0 (length (past.history j)) (reverse (printed.entries j)) (table_named j seen r.table es of.name) start
      (of.entries ∙ ap (drop r.from) is.entries ∙ behind r.from (s.history j) (printed.entries j) (past.history j) (are.histories j).1 start))
      are.routes.tables told_of
    where
      same : (r : JournalReport) (table : List ℕ) (start : ℕ) (entries : List Change) → r.table ≡ table → r.from ≡ start → r.entries ≡ entries → r ≡ record { table = table; from = start; entries = entries }
      same r table start entries et ef ee = λ i. record { table = et i; from = ef i; entries = ee i }

  directed : (j : ℕ) (c : setups.Channel) (held : Channel J) → slice_get (channels setup) j ≡ Some c → ChannelIs verdict setup s j c held → is_some held.target ≡ is_direction c
  directed j c held e is = ap (λ (t : Option ℕ). is_some t) (is.target ∙ ap target_at e)

  pub logs_reported : (begun : Begun) (reports : List ChannelReport) → BeganAt setup past begun
      → Pairs (IsLogOf core.channels.items begun.logged.items) 0 core.routes.channels.items reports
      → Pairs (λ c channel r. r ≡ channel_report printed c channel) 0 (channels setup) reports
  logs_reported begun reports at told_of =
      pairs_through (ChannelIs verdict setup s) (IsLogOf core.channels.items begun.logged.items) (λ c channel r. r ≡ channel_report printed c channel)
      (channels setup) core.routes.channels.items reports
      (λ j channel held r ec _ _ is of.
      let first = other_here (λ c channel len. len ≡ length (past.logs c)) (channels setup) begun.logged.items at.logged j channel ec in
      let start : of.began ≡ length (past.logs j) = same_Some of.began first.0 (sym of.begun ∙ first.1) ∙ first.2 in
      let log : held.exporter.log ≡ reverse (s.channels j).log = sym (reverse-reverse held.exporter.log) ∙ ap reverse is.exporter.matches.like.resembles.log in
      same r channel.name (is_direction channel) (reverse (printed.items j)) (channel_named j channel r.name ec of.name) (of.pipe ∙ directed j channel held ec is)
      (of.items ∙ ap (drop of.began) log ∙ behind of.began (s.channels j).log (printed.items j) (past.logs j) (are.logs j).1 start))
      are.routes.channels told_of
    where
      same : (r : ChannelReport) (name : List ℕ) (pipe : Bool) (items : List LogItem) → r.name ≡ name → r.pipe ≡ pipe → r.items ≡ items → r ≡ record { name = name; pipe = pipe; items = items }
      same r name pipe items en ep ei = λ i. record { name = en i; pipe = ep i; items = ei i }

  pub tables_reported : (reports : List TableReport) → Pairs (IsTableOf core.tables.items) 0 core.routes.tables.items reports → Pairs (IsTableReport printed) 0 setup.tables reports
  tables_reported reports told_of =
      pairs_through (TableIs setup s) (IsTableOf core.tables.items) (IsTableReport printed) setup.tables core.routes.tables.items reports
      (λ j seen table r es _ _ is of. record { name = table_named j seen r.name es of.name; rows = of.rows (rules_of setup) seen.1 (s.history j) is })
      are.routes.tables told_of

  -- ---- protocols behind the report

  pub modes_reported : (protocols : List (HeldProtocol J)) (reports : List ModeReport) → Pairs IsEmptied 0 core.protocols.items protocols → Pairs (IsModeOf core.names.items) 0 protocols reports
      → Pairs (λ i q r. r ≡ mode_report printed i q) 0 setup.protocols reports
  modes_reported protocols reports of told_of =
      pairs_through (λ i (q : Protocol) (new : HeldProtocol J). Does verdict q.body (ops_of (s.ops i)) new.body) (IsModeOf core.names.items) (λ i q r. r ≡ mode_report printed i q) setup.protocols protocols reports
      (λ j q new r eq _ _ is t. same r q.name (state_in q.body printed.shown j) (named j q r.name eq t.name)
      (t.state ∙ state_is verdict q.body j (ops_of (s.ops j)) printed.shown new.body (ap (λ o. mode_at o (ops_of (s.ops j))) eq) (ap (λ o. length (accepted_at o (ops_of (s.ops j)))) eq) is))
      (pairs_through (λ i q held. PlaysAs verdict setup i q (past.ops i) (s.ops i) held) IsEmptied (λ i (q : Protocol) (new : HeldProtocol J). Does verdict q.body (ops_of (s.ops i)) new.body)
      setup.protocols core.protocols.items protocols (λ j q held new _ _ _ is e. subst (λ b. Does verdict q.body (ops_of (s.ops j)) b) (sym e.body) is.body) are.protocols of)
      told_of
    where
      same : (r : ModeReport) (name : List ℕ) (state : ProtocolState) → r.name ≡ name → r.state ≡ state → r ≡ record { name = name; state = state }
      same r name state en es = λ i. record { name = en i; state = es i }

  -- ---- exports

  standing_is : (ch : machine.Channel) (up : Bool) (values : Option (Vec (Key × Attrs) Global)) (reported : Option (List Standing)) → is_open ch ≡ up → TellsStanding ch values
      → reported ≡ option_map (λ (held : Vec (Key × Attrs) Global). map standing_in held.items) values → IsStandingReport up (λ k. value_of (account k ch.log)) reported
  standing_is ch up None reported eu down e = subst (λ u. IsStandingReport u (λ k. value_of (account k ch.log)) reported) (sym down ∙ eu) e
  standing_is ch up (Some values) reported eu told_of e =
      subst (λ u. IsStandingReport u (λ k. value_of (account k ch.log)) reported) (sym told_of.0 ∙ eu)
      (subst (λ r. IsStandingReport true (λ k. value_of (account k ch.log)) r) (sym e) (record {
        entries = values.items;
        items_are = refl;
        ascend = told_of.1.ascend;
        values = told_of.1.values;
      }))

  pub exports_reported : (reports : List ExportReport) → Pairs (IsExportOf verdict core.channels.items) 0 core.routes.channels.items reports
      → Pairs (λ c channel r. IsExportReport printed c channel r) 0 (channels setup) reports
  exports_reported reports told_of =
      pairs_through (ChannelIs verdict setup s) (IsExportOf verdict core.channels.items) (λ c channel r. IsExportReport printed c channel r)
      (channels setup) core.routes.channels.items reports
      (λ j channel held r ec _ _ is of. record {
        name = channel_named j channel r.name ec of.name;
        pipe = of.pipe ∙ directed j channel held ec is;
        standing = standing_is (s.channels j) (is_open (s.channels j)) of.values r.standing refl (of.told (rules_of setup) j _ _ (s.channels j) is) of.standing;
      })
      are.routes.channels told_of

  -- ---- replies

  parts_named : (n : ℕ) → name_of (slice_get core.tables.items n) ≡ table_name setup n
  parts_named n = by 0 n setup.tables core.tables.items are.tables where
    by : (k n : ℕ) (seen : List (List ℕ × Family)) (held : List TableParts) → Pairs (λ n seen (held : TableParts). let pair : List ℕ × Family = (held.name, held.family) in seen ≡ pair) k seen held
        → name_of (slice_get held n) ≡ name_in (slice_get seen n)
    by k n [] [] ps = refl
    by k n [] (y ∷ ys) ps = absurd ps
    by k n (x ∷ xs) [] ps = absurd ps
    by k zero (x ∷ xs) (y ∷ ys) ps = ap (λ (t : List ℕ × Family). t.0) (sym ps.0)
    by k (suc n) (x ∷ xs) (y ∷ ys) ps = by (k + 1) n xs ys ps.1

  reply_is : (name : List ℕ) (held : Answered) (reply : Reply) → IsAnswered setup s held reply
      → IsReplyReport setup (join past printed) (name, reply) (reply_of core.tables.items name held)
  reply_is name held reply is = record {
    query = is.query;
    query_is = is.query_is;
    table_is = is.table_is;
    actor = refl;
    table = parts_named held.table ∙ ap (table_name setup) is.table;
    at = is.at;
    text = subst (λ h. IsReply (protocol_names setup) (table_name setup is.query.table) is.query (choice_of setup is.query) (sends_of setup is.query) (content_of (front reply.at h)) held.text.items)
        (are.histories is.query.table).1 is.text;
  }

  replies_are : (n : ℕ) (actors : List (List ℕ)) (replies : List (Vec Answered Global)) → length replies ≡ length actors
      → ((k : ℕ) (held : Vec Answered Global) → slice_get replies k ≡ Some held → Pairs (λ _ answered reply. IsAnswered setup s answered reply) 0 held.items (reverse (replies_to (n + k) s.replies)))
      → Pairs (λ _ reply r. IsReplyReport setup (join past printed) reply r) 0 (replies_from n actors s.replies) (told core.tables.items actors replies)
  replies_are n [] replies e each = tt
  replies_are n (name ∷ actors) [] e each = absurd (omega (arith, e))
  replies_are n (name ∷ actors) (held ∷ more) e each =
      let here : n + 0 ≡ n = omega arith in
      pairs_append (λ reply r. IsReplyReport setup (join past printed) reply r) 0 0 0 _ _ _ _
      (pairs_mapped (λ answered reply. IsAnswered setup s answered reply) (λ reply r. IsReplyReport setup (join past printed) reply r)
      (reply_of core.tables.items name) (λ r. (name, r)) 0 0 held.items (reverse (replies_to n s.replies)) (λ answered reply is. reply_is name answered reply is)
      (subst (λ m. Pairs (λ _ answered reply. IsAnswered setup s answered reply) 0 held.items (reverse (replies_to m s.replies))) here (each 0 held refl)))
      (replies_are (n + 1) actors more (omega (arith, e)) (λ k x ex.
      let further : n + suc k ≡ n + 1 + k = omega arith in
      subst (λ m. Pairs (λ _ answered reply. IsAnswered setup s answered reply) 0 x.items (reverse (replies_to m s.replies))) further (each (suc k) x ex)))

  pub replies_reported : (actors : List (List ℕ)) (reports : List ReplyReport) → length core.replies.items ≡ length actors → reports ≡ told core.tables.items actors core.replies.items
      → Pairs (λ n reply r. IsReplyReport setup (join past printed) reply r) 0 (replies_from 0 actors printed.replies) reports
  replies_reported actors reports e told_of =
      subst (λ (rs : List ReplyReport). Pairs (λ n reply r. IsReplyReport setup (join past printed) reply r) 0 (replies_from 0 actors printed.replies) rs) (sym told_of)
      (replies_are 0 actors core.replies.items e (λ k held ek.
      let at : k ≡ 0 + k = omega arith in
      subst (λ m. Pairs (λ _ answered reply. IsAnswered setup s answered reply) 0 held.items (reverse (replies_to m s.replies))) at (are.replies k held ek)))

  -- ---- the core behind the report

  emptied_is : (j : ℕ) (q : Protocol) (held new : HeldProtocol J) → PlaysAs verdict setup j q (past.ops j) (s.ops j) held → IsEmptied j held new → PlaysAs verdict setup j q ((join past printed).ops j) (s.ops j) new
  emptied_is j q held new is of = record {
    body = subst (λ b. Does verdict q.body (ops_of (s.ops j)) b) (sym of.body) is.body;
    ordered = let o = is.ordered in let f = of.from_is in let u = of.upto_is in omega (arith, o, f, u);
    within = let w = is.within in let u = of.upto_is in omega (arith, w, u);
    belong = is.belong ∙ ap (λ n. counted n (held.upto - n)) (sym of.from_is) ∙ ap (λ n. counted new.from (n - new.from)) (sym of.upto_is);
    fits = is.fits;
    new = [];
    since = (are.operations j).1;
    done = of.done;
  }

  pub rests : (protocols : Vec (HeldProtocol J) Global) (replies : Vec (Vec Answered Global) Global) (phases : ℕ) → Pairs IsEmptied 0 core.protocols.items protocols.items → replies.items ≡ [] → phases ≡ core.phases + 1
      → Rests verdict setup (core.phases + 1) (join past printed) s (record core { protocols = protocols; replies = replies; phases = phases })
  rests protocols replies phases of none e = record {
    core_is = record {
      routes = are_same verdict setup s (silent s) core.routes (λ n. refl) (λ i. refl) are.routes;
      protocols = pairs_through (λ i q held. PlaysAs verdict setup i q (past.ops i) (s.ops i) held) IsEmptied (λ i q held. PlaysAs verdict setup i q ((join past printed).ops i) (s.ops i) held)
          setup.protocols core.protocols.items protocols.items (λ j q held new _ _ _ is e. emptied_is j q held new is e) are.protocols of;
      up = are.up;
      histories = λ n. ([], (are.histories n).1);
      operations = λ i. ([], (are.operations i).1);
      logs = λ c. ([], (are.logs c).1);
      replies = λ actor held e. absurd (none-some held (ap (λ (xs : List (Vec Answered Global)). slice_get xs actor) (sym none) ∙ e));
      channels = are.channels;
      tables = are.tables;
      names = are.names;
      choices = are.choices;
      queries = are.queries;
    };
    agrees = record {
      history = λ n. sym (are.histories n).1;
      ops = λ i. sym (are.operations i).1;
      logs = λ c. sym (are.logs c).1 ∙ behind_first core.phases (s.channels c).log;
    };
    phases_are = e;
  }
