-- The parts of a report are those of what is printed of the phase.
use Rattle.std.proofs.Common.{◌≡◌, ℕ, zero, suc, ◌+◌, ◌-◌, ◌==◌, Bool, true, false, List, [], ◌∷◌, ◌++◌, length, map, drop, reverse, Option, Some, None, refl, sym, ap, subst, ◌∙◌, arith, zero-add}
use Rattle.std.specs.Prelude.{slice_get, option_map}
use Rattle.std.specs.List.{All}
use Rattle.std.specs.declared.alloc.Global.{Global}
use Rattle.std.specs.declared.vec.Vec.{Vec}
use Rattle.std.proofs.Math.Path.{fun_ext}
use Rattle.std.proofs.lemmas.Bool.{cond-false, ne_eqb}
use Rattle.std.proofs.lemmas.List.{length-reverse, reverse-append, reverse-reverse}
use Rattle.std.proofs.lemmas.Option.{get_or_from_slice_get, slice_get-map, slice_get_within}
use Rattle.bits_ip.specs.declared.address.Family.{Family}
use Rattle.attrs.specs.Table.{Shows}
use Rattle.attrs.specs.declared.attributes.Attrs.{Attrs}
use Rattle.attrs.specs.declared.route.Change.{Change}
use Rattle.attrs.specs.declared.route.Row.{Row}
use Rattle.export_core.specs.Histories.{change_of}
use Rattle.export_core.specs.Standing.{standing_at}
use Rattle.export_core.specs.States.{State}
use Rattle.export_core.specs.declared.log.Key.{Key}
use Rattle.import_core.specs.Imports.{is_up}
use Rattle.import_core.specs.declared.mode.Mode.{Mode}
use Rattle.import_core.specs.declared.step.Done.{Done}
use Rattle.core_machine.specs.Histories.{content_of, front}
use Rattle.core_machine.specs.Legal.{Joined, Printed, join}
use Rattle.core_machine.specs.Lines.{Line as Asked, Reply, ops_of}
use Rattle.core_machine.specs.Replies.{replies_to}
use Rattle.script_lines.specs.declared.script.Line.{Line}
use Rattle.script_lines.specs.declared.script.Line.TheVariants as lines
use Rattle.show_route.specs.declared.query.Query.{Query}
use Rattle.report.specs.declared.phase.ChannelReport.{ChannelReport}
use Rattle.report.specs.declared.phase.ExportReport.{ExportReport}
use Rattle.report.specs.declared.phase.JournalReport.{JournalReport}
use Rattle.report.specs.declared.phase.ModeReport.{ModeReport}
use Rattle.report.specs.declared.phase.PhaseReport.{PhaseReport}
use Rattle.report.specs.declared.phase.ProtocolReport.{ProtocolReport}
use Rattle.report.specs.declared.phase.ProtocolState.TheVariants.{Imports, Pipe as IsPiped}
use Rattle.report.specs.declared.phase.ReplyReport.{ReplyReport}
use Rattle.report.specs.declared.phase.TableReport.{TableReport}
use Rattle.core_setup.specs.Channels.{channels}
use Rattle.core_setup.specs.Pairs.{Pairs}
use Rattle.core_setup.specs.Protocols.{pipe_mode, rules_of}
use Rattle.core_setup.specs.Reports.{IsExportReport, IsReplyReport, IsReport, IsStandingReport, IsTableReport, channel_report, dones, journal_report, mode_report, name_in, protocol_report, replies_from, state_in, table_name}
use Rattle.core_setup.specs.Setup.{Protocol, Setup}
use Rattle.core_setup.proofs.PairLemmas.{one_here, pair_of, pairs_all, pairs_append, pairs_length, pairs_through}
use Rattle.sys_run.specs.Parts.{table_seen}
use Rattle.sys_run.specs.Scripts.{line_of}
use Rattle.sys_run.specs.declared.parts.TableParts.{TableParts}
use Rattle.import_lock.specs.declared.state.OpRecord.{OpRecord}
use Rattle.phase_legal.specs.Turns.{line_at, turn_in}
use Rattle.phase_actors.specs.Acting as acting
use Rattle.phase_actors.specs.Texts.{IsAnswer}
use Rattle.phase_actors.specs.declared.actor.Told.{Told}
use Rattle.room_ends.specs.declared.ended.MemberEnded.{MemberEnded}
use Rattle.room_ends.specs.declared.ended.MemberEnded.TheVariants.{Own, Pipe}
use Rattle.room_ends.specs.declared.played.PlayedRoom.{PlayedRoom}
use Rattle.room_ends.specs.Prints.{Prints, PrintsMember, PrintsReplies, PrintsText, done_of}
use Rattle.room_report.specs.Described.{AreLogged, IsDescribed, IsMemberOf}
use Rattle.room_report.specs.Inside.{IsExportOf, IsLogOf, Reports, Served, Serves, all_lengths, done_in, journal_of, length_of, line_before, mode_of, name_of, name_or_none, op_in, operations_of, ops_in, own_lengths, own_served, replies_told, reply_of, rows_of, served, state_of, text_of}
use Rattle.room_report.proofs.Serving.{Fits, channels_fit}

-- ---- what has come behind

drop_first : {A : Type 0} (xs ys : List A) → drop (length xs) (xs ++ ys) ≡ ys
drop_first [] ys = refl
drop_first (x ∷ xs) ys = drop_first xs ys

-- what a list in the order of time has more than one that is read backwards
behind : {A : Type 0} (n : ℕ) (xs more base : List A) → reverse xs ≡ more ++ base → n ≡ length base → drop n xs ≡ reverse more
behind n xs more base e en =
    ap (drop n) (sym (reverse-reverse xs) ∙ ap reverse e ∙ reverse-append more base) ∙ ap (λ k. drop k (reverse base ++ reverse more)) (en ∙ sym (length-reverse base))
    ∙ drop_first (reverse base) (reverse more)

-- ---- names

seen_name : (o : Option TableParts) → name_of o ≡ name_in (option_map table_seen o)
seen_name None = refl
seen_name (Some table) = refl

name_one : (ps : List Protocol) (j : ℕ) (q : Protocol) → slice_get ps j ≡ Some q → name_or_none (slice_get (map (λ (p : Protocol). p.name) ps) j) ≡ q.name
name_one ps j q e = ap name_or_none (slice_get-map (λ (p : Protocol). p.name) ps j ∙ ap (option_map (λ (p : Protocol). p.name)) e)

-- ---- operations

map_same : {A B : Type 0} (f g : A → B) → ((x : A) → f x ≡ g x) → (xs : List A) → map f xs ≡ map g xs
map_same f g same [] = refl
map_same f g same (x ∷ xs) = ap (λ y. y ∷ map f xs) (same x) ∙ ap (λ ys. g x ∷ ys) (map_same f g same xs)

asked_same : (queries : List Query) (o : Option Line) → (turn_in (option_map (line_of queries) o)).op ≡ op_in o
asked_same queries None = refl
asked_same queries (Some (lines.Take channel count)) = refl
asked_same queries (Some (lines.Push channel count)) = refl
asked_same queries (Some (lines.Apply actor line protocol op)) = refl
asked_same queries (Some (lines.Show actor query)) = refl

line_same : (queries : List Query) (all : List Line) (place : ℕ) → line_at (map (line_of queries) all) place ≡ option_map (line_of queries) (line_before all place)
line_same queries all zero = refl
line_same queries all (suc n) =
    let less : suc n - 1 ≡ n = omega arith in
    slice_get-map (line_of queries) all n
    ∙ ap (option_map (line_of queries)) (sym (cond-false (suc n == 0) None (slice_get all (suc n - 1)) (ne_eqb (suc n) 0 (λ e. omega (arith, e))) ∙ ap (slice_get all) less))

done_same : (queries : List Query) (all : List Line) (turn : OpRecord) → done_in all turn ≡ done_of (map (line_of queries) all) turn
done_same queries all turn =
    let op : op_in (line_before all turn.line) ≡ (turn_in (line_at (map (line_of queries) all) turn.line)).op =
    sym (asked_same queries (line_before all turn.line)) ∙ ap (λ l. (turn_in l).op) (sym (line_same queries all turn.line)) in
    λ i. record { op = op i; over = turn.over }

-- ---- a protocol of either kind

up_same : (up : Bool) → up ≡ is_up (pipe_mode up)
up_same true = refl
up_same false = refl

module _ {J : Type 0} (setup : Setup) (lines : List Asked) (past : Joined) (p : Printed) where
  member_ops : (i : ℕ) (member : MemberEnded J) → PrintsMember setup lines past p i member
      → reverse (dones (rules_of setup) i (ops_of (past.ops i)) (ops_of (p.ops i))) ≡ map (done_of lines) (ops_in member)
  member_ops i (Own session) prints = prints.ops.dones
  member_ops i (Pipe pipe) prints = prints.ops.dones

  member_state : (i : ℕ) (q : Protocol) (member : MemberEnded J) → IsMemberOf q member → PrintsMember setup lines past p i member → state_of member ≡ state_in q.body p.shown i
  member_state i q (Own session) of prints =
      ap (λ (m : Mode). Imports m (length session.importer.imports.accepted)) (sym prints.mode) ∙ ap (λ n. Imports (p.shown.modes i) n) (sym prints.accepted) ∙ ap (λ b. state_in b p.shown i) (sym of.body)
  member_state i q (Pipe pipe) of prints = ap IsPiped (up_same pipe.up ∙ ap is_up (sym prints.mode)) ∙ ap (λ b. state_in b p.shown i) (sym of.body)

-- ---- the whole

module _ {J : Type 0} (setup : Setup) (tables : List TableParts) (names actors : List (List ℕ)) (all : List Line) (logged : List ℕ) (past : Joined) (p : Printed) (made : PlayedRoom J)
    (described : IsDescribed setup tables names actors logged past made) (prints : Prints setup (map (line_of setup.queries) all) past p made) where
  protocol_named : (j : ℕ) (q : Protocol) → slice_get setup.protocols j ≡ Some q → name_or_none (slice_get names j) ≡ q.name
  protocol_named j q e = ap (λ (ns : List (List ℕ)). name_or_none (slice_get ns j)) described.names_are ∙ name_one setup.protocols j q e

  table_named : (n : ℕ) → name_of (slice_get tables n) ≡ table_name setup n
  table_named n = seen_name (slice_get tables n) ∙ ap name_in (sym (slice_get-map table_seen tables n) ∙ ap (λ (ts : List (List ℕ × Family)). slice_get ts n) described.tables_are)

  named_as : (n : ℕ) (table : List ℕ × Family) → slice_get setup.tables n ≡ Some table → name_of (slice_get tables n) ≡ table.0
  named_as n table e = table_named n ∙ ap name_in e

  pub operations_written : (reports : List ProtocolReport) → Reports (operations_of names all) made.ended.members.items reports
      → Pairs (λ i q r. r ≡ protocol_report (rules_of setup) past p i q) 0 setup.protocols reports
  operations_written reports told_of =
      pairs_all (λ i q r. r ≡ protocol_report (rules_of setup) past p i q) setup.protocols reports
      (sym prints.members_count ∙ pairs_length (λ i x r. r ≡ operations_of names all i x) 0 made.ended.members.items reports told_of)
      (λ j q r eq er.
      let s = one_here (λ i x r. r ≡ operations_of names all i x) made.ended.members.items reports told_of j r er in
      let name = protocol_named j q eq in
      let ops : map (done_in all) (ops_in s.0) ≡ reverse (dones (rules_of setup) j (ops_of (past.ops j)) (ops_of (p.ops j))) =
      map_same (done_in all) (done_of (map (line_of setup.queries) all)) (done_same setup.queries all) (ops_in s.0) ∙ sym (member_ops setup (map (line_of setup.queries) all) past p j s.0 (prints.members j s.0 s.1)) in
      s.2 ∙ same (name_or_none (slice_get names j)) q.name (map (done_in all) (ops_in s.0)) _ name ops)
    where
      same : (a b : List ℕ) (xs ys : List Done) → a ≡ b → xs ≡ ys → (let r : ProtocolReport = record { name = a; ops = xs } in r) ≡ record { name = b; ops = ys }
      same a b xs ys en eo = λ i. record { name = en i; ops = eo i }

  pub journals_written : (reports : List JournalReport) → Reports (journal_of tables) made.ended.phases.items reports → Pairs (λ n table r. r ≡ journal_report past p n table) 0 setup.tables reports
  journals_written reports told_of =
      pairs_all (λ n table r. r ≡ journal_report past p n table) setup.tables reports
      (sym prints.tables_count ∙ pairs_length (λ n x r. r ≡ journal_of tables n x) 0 made.ended.phases.items reports told_of)
      (λ j table r et er.
      let s = one_here (λ n x r. r ≡ journal_of tables n x) made.ended.phases.items reports told_of j r er in
      let is = prints.tables j s.0 s.1 in
      let entries : map change_of s.0.entries ≡ reverse (p.entries j) = sym (ap reverse is.entries ∙ reverse-reverse (map change_of s.0.entries)) in
      s.2 ∙ same (name_of (slice_get tables j)) table.0 s.0.from (length (past.history j)) (map change_of s.0.entries) (reverse (p.entries j)) (named_as j table et) is.from_is entries)
    where
      same : (a b : List ℕ) (m n : ℕ) (xs ys : List Change) → a ≡ b → m ≡ n → xs ≡ ys → (let r : JournalReport = record { table = a; from = m; entries = xs } in r) ≡ record { table = b; from = n; entries = ys }
      same a b m n xs ys et ef ee = λ i. record { table = et i; from = ef i; entries = ee i }

  pub tables_written : (reports : List TableReport) → Reports (rows_of tables) made.ended.phases.items reports → Pairs (IsTableReport p) 0 setup.tables reports
  tables_written reports told_of =
      pairs_all (IsTableReport p) setup.tables reports (sym prints.tables_count ∙ pairs_length (λ n x r. r ≡ rows_of tables n x) 0 made.ended.phases.items reports told_of)
      (λ j table r et er.
      let s = one_here (λ n x r. r ≡ rows_of tables n x) made.ended.phases.items reports told_of j r er in
      record {
        name = ap (λ (x : TableReport). x.name) s.2 ∙ named_as j table et;
        rows = subst (λ (rows : List Row). Shows rows (p.shown.rows j)) (sym (ap (λ (x : TableReport). x.rows) s.2)) (prints.tables j s.0 s.1).rows;
      })

  pub modes_written : (reports : List ModeReport) → Reports (mode_of names) made.ended.members.items reports → Pairs (λ i q r. r ≡ mode_report p i q) 0 setup.protocols reports
  modes_written reports told_of =
      pairs_all (λ i q r. r ≡ mode_report p i q) setup.protocols reports (sym prints.members_count ∙ pairs_length (λ i x r. r ≡ mode_of names i x) 0 made.ended.members.items reports told_of)
      (λ j q r eq er.
      let s = one_here (λ i x r. r ≡ mode_of names i x) made.ended.members.items reports told_of j r er in
      let name = protocol_named j q eq in
      let state = member_state setup (map (line_of setup.queries) all) past p j q s.0 (described.members j q s.0 eq s.1) (prints.members j s.0 s.1) in
      s.2 ∙ (λ i. record { name = name i; state = state i }))

  -- ---- channels

  fitting : Pairs (Fits {J = J} setup (map (line_of setup.queries) all) past p) 0 (channels setup) (served 0 made.ended.members.items)
  fitting = channels_fit setup (map (line_of setup.queries) all) past p made.ended.members.items prints.members_count described.members prints.members

  pub logs_written : (reports : List ChannelReport) → Serves (IsLogOf names logged) made.ended.members.items reports → Pairs (λ c channel r. r ≡ channel_report p c channel) 0 (channels setup) reports
  logs_written reports told_of =
      pairs_through (Fits {J = J} setup (map (line_of setup.queries) all) past p) (IsLogOf {J = J} names logged) (λ c channel r. r ≡ channel_report p c channel) (channels setup) (served 0 made.ended.members.items) reports
      (λ c channel s r ec es er is so.
      let name : name_or_none (slice_get names s.owner) ++ text_of s.kind ≡ channel.name = ap (λ (n : List ℕ). n ++ text_of s.kind) (protocol_named s.owner is.protocol is.protocol_at) ∙ is.name in
      let pipe = is.target in
      let count : length_of (slice_get logged c) ≡ length (past.logs c) = ap length_of (described.logged_are c channel ec) in
      let items : drop (length_of (slice_get logged c)) s.exporter.log ≡ reverse (p.items c) = behind (length_of (slice_get logged c)) s.exporter.log (p.items c) (past.logs c) is.printed.items count in
      so ∙ (λ i. record { name = name i; pipe = pipe i; items = items i }))
      fitting told_of

  pub exports_written : (reports : List ExportReport) → Serves (IsExportOf names) made.ended.members.items reports → Pairs (λ c channel r. IsExportReport p c channel r) 0 (channels setup) reports
  exports_written reports told_of =
      pairs_through (Fits {J = J} setup (map (line_of setup.queries) all) past p) (IsExportOf {J = J} names) (λ c channel r. IsExportReport p c channel r) (channels setup) (served 0 made.ended.members.items) reports
      (λ c channel s r ec es er is so.
      let name : name_or_none (slice_get names s.owner) ++ text_of s.kind ≡ channel.name = ap (λ (n : List ℕ). n ++ text_of s.kind) (protocol_named s.owner is.protocol is.protocol_at) ∙ is.name in
      record {
        name = so.name ∙ name;
        pipe = so.pipe ∙ is.target;
        standing = subst (λ (f : Key → Option Attrs). IsStandingReport (p.shown.up c) f r.standing) (fun_ext (λ key. sym (is.printed.standing key)))
            (subst (λ up. IsStandingReport up (λ key. standing_at key s.exporter.log) r.standing) (sym is.printed.up) (so.standing is.may));
      })
      fitting told_of

  -- ---- replies

  reply_is : (name : List ℕ) (actor : ℕ) (t : Told) → PrintsText setup (map (line_of setup.queries) all) past p t → IsReplyReport setup (join past p) (name, acting.reply_of actor t) (reply_of tables name t)
  reply_is name actor t is = record {
    query = is.query;
    query_is = is.query_is;
    table_is = is.table_is;
    actor = refl;
    table = table_named t.table ∙ ap (table_name setup) is.table_is;
    at = refl;
    text = subst (λ n. IsAnswer setup is.query (content_of (front t.at ((join past p).history n))) t.text.items) is.table_is is.text;
  }

  texts_are : (name : List ℕ) (actor n : ℕ) (told : List Told) → ((k : ℕ) (t : Told) → slice_get told k ≡ Some t → PrintsText setup (map (line_of setup.queries) all) past p t)
      → Pairs (λ _ reply r. IsReplyReport setup (join past p) reply r) n (map (λ r. (name, r)) (map (acting.reply_of actor) told)) (map (reply_of tables name) told)
  texts_are name actor n [] each = tt
  texts_are name actor n (t ∷ told) each = (reply_is name actor t (each 0 t refl), texts_are name actor (n + 1) told (λ k u e. each (suc k) u e))

  one_text : (told : List Told) → All (PrintsText setup (map (line_of setup.queries) all) past p) told → (k : ℕ) (t : Told) → slice_get told k ≡ Some t → PrintsText setup (map (line_of setup.queries) all) past p t
  one_text told each k t e = subst (PrintsText setup (map (line_of setup.queries) all) past p) (get_or_from_slice_get told k t t e) (each k t (slice_get_within told k t e))

  replies_are : (n : ℕ) (those : List (List ℕ)) (told : List (Vec Told Global)) → length told ≡ length those → ((k : ℕ) → slice_get actors (n + k) ≡ slice_get those k)
      → ((k : ℕ) (held : Vec Told Global) → slice_get told k ≡ Some held → PrintsReplies setup (map (line_of setup.queries) all) past p (n + k) held.items)
      → Pairs (λ _ reply r. IsReplyReport setup (join past p) reply r) 0 (replies_from n those p.replies) (replies_told tables actors n told)
  replies_are n [] [] count at each = tt
  replies_are n [] (held ∷ told) count at each = absurd (omega (arith, count))
  replies_are n (a ∷ those) [] count at each = absurd (omega (arith, count))
  replies_are n (a ∷ those) (held ∷ told) count at each =
      let none : n + 0 ≡ n = omega arith in
      let is = subst (λ m. PrintsReplies setup (map (line_of setup.queries) all) past p m held.items) none (each 0 held refl) in
      let name : a ≡ name_or_none (slice_get actors n) = ap name_or_none (sym (ap (slice_get actors) (sym none) ∙ at 0)) in
      let mine : map (acting.reply_of n) held.items ≡ reverse (replies_to n p.replies) = sym (ap reverse is.replies ∙ reverse-reverse (map (acting.reply_of n) held.items)) in
      pairs_append (λ reply r. IsReplyReport setup (join past p) reply r) 0 0 0 _ _ _ _
      (subst (λ (x : List ℕ). Pairs (λ _ reply r. IsReplyReport setup (join past p) reply r) 0 (map (λ r. (a, r)) (reverse (replies_to n p.replies))) (map (reply_of tables x) held.items)) name
      (subst (λ (rs : List Reply). Pairs (λ _ reply r. IsReplyReport setup (join past p) reply r) 0 (map (λ r. (a, r)) rs) (map (reply_of tables a) held.items)) mine
      (texts_are a n 0 held.items (one_text held.items is.texts))))
      (replies_are (n + 1) those told (omega (arith, count)) (λ k. let next : n + 1 + k ≡ n + suc k = omega arith in ap (slice_get actors) next ∙ at (suc k))
      (λ k x e. let next : n + suc k ≡ n + 1 + k = omega arith in subst (λ m. PrintsReplies setup (map (line_of setup.queries) all) past p m x.items) next (each (suc k) x e)))

  pub replies_written : (reports : List ReplyReport) → reports ≡ replies_told tables actors 0 made.told.items
      → Pairs (λ n reply r. IsReplyReport setup (join past p) reply r) 0 (replies_from 0 actors p.replies) reports
  replies_written reports told_of =
      subst (λ (rs : List ReplyReport). Pairs (λ n reply r. IsReplyReport setup (join past p) reply r) 0 (replies_from 0 actors p.replies) rs) (sym told_of)
      (replies_are 0 actors made.told.items described.actors_count (λ k. ap (slice_get actors) (zero-add k))
      (λ k held e.
      subst (λ m. PrintsReplies setup (map (line_of setup.queries) all) past p m held.items) (sym (zero-add k))
      (prints.replies k held.items (slice_get-map (λ (list : Vec Told Global). list.items) made.told.items k ∙ ap (option_map (λ (list : Vec Told Global). list.items)) e))))

  -- all its parts
  pub is_report : (report : PhaseReport) (number : ℕ) → report.number ≡ number → Reports (operations_of names all) made.ended.members.items report.protocols
      → Reports (journal_of tables) made.ended.phases.items report.journals → Serves (IsLogOf names logged) made.ended.members.items report.channels
      → report.replies ≡ replies_told tables actors 0 made.told.items → Reports (rows_of tables) made.ended.phases.items report.tables
      → Reports (mode_of names) made.ended.members.items report.modes → Serves (IsExportOf names) made.ended.members.items report.exports
      → IsReport setup actors number past p report
  is_report report number en operations journals logs replies rows modes exports = record {
    number_is = en;
    protocols = operations_written report.protocols operations;
    journals = journals_written report.journals journals;
    channel_logs = logs_written report.channels logs;
    replies = replies_written report.replies replies;
    tables = tables_written report.tables rows;
    modes = modes_written report.modes modes;
    exports = exports_written report.exports exports;
  }

-- ---- lengths of logs

module _ {J : Type 0} where
  abbrev length_in : Served J → ℕ
  length_in s = length s.exporter.log

  own_are : (n : ℕ) (held : Option (State J)) (xs : List ℕ) (more : List (Served J)) → xs ≡ map length_in more → own_lengths held ++ xs ≡ map length_in (own_served n held ++ more)
  own_are n None xs more e = e
  own_are n (Some exporter) xs more e = ap (λ l. length exporter.log ∷ l) e

  lengths_are : (n : ℕ) (ms : List (MemberEnded J)) → all_lengths ms ≡ map length_in (served n ms)
  lengths_are n [] = refl
  lengths_are n (Own session ∷ ms) = own_are n session.exporter (all_lengths ms) (served (n + 1) ms) (lengths_are (n + 1) ms)
  lengths_are n (Pipe pipe ∷ ms) = ap (λ l. length pipe.out.log ∷ length pipe.back.log ∷ l) (lengths_are (n + 1) ms)

  pub lengths_written : (setup : Setup) (tables : List TableParts) (names actors : List (List ℕ)) (logged : List ℕ) (past : Joined) (lines : List Asked) (p : Printed) (made : PlayedRoom J)
      → IsDescribed setup tables names actors logged past made → Prints setup lines past p made → AreLogged setup (join past p) (all_lengths made.ended.members.items)
  lengths_written setup tables names actors logged past lines p made described prints = λ c channel at.
      let fits = channels_fit setup lines past p made.ended.members.items prints.members_count described.members prints.members in
      let s = pair_of (Fits {J = J} setup lines past p) 0 (channels setup) (served 0 made.ended.members.items) fits c channel at in
      let printed = (subst (λ n. Fits setup lines past p n channel s.0) (zero-add c) s.2).printed in
      ap (λ (l : List ℕ). slice_get l c) (lengths_are 0 made.ended.members.items) ∙ slice_get-map length_in (served 0 made.ended.members.items) c ∙ ap (option_map length_in) s.1
      ∙ ap Some (sym (length-reverse s.0.exporter.log) ∙ ap length printed.items)
