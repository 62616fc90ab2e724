-- Scripts come to one list of reports.
use Rattle.std.proofs.Common.{◌≡◌, ◌≤◌, ℕ, ◌+◌, Bool, true, false, List, [], ◌∷◌, map, Option, Some, None, refl, sym, ◌∙◌, ap, subst}
use Rattle.std.proofs.lemmas.List.{append_cancel_right}
use Rattle.bits_ip.specs.Prefix.{Net}
use Rattle.bits_ip.specs.declared.address.Family.{Family}
use Rattle.attrs.specs.History.{Content}
use Rattle.attrs.specs.declared.attributes.Attrs.{Attrs}
use Rattle.attrs.proofs.Shown.{Shows-one}
use Rattle.export_core.specs.declared.log.Key.{Key}
use Rattle.report.specs.declared.phase.ChannelReport.{ChannelReport}
use Rattle.report.specs.declared.phase.ExportReport.{ExportReport}
use Rattle.report.specs.declared.phase.JournalReport.{JournalReport}
use Rattle.report.specs.declared.phase.ModeReport.{ModeReport}
use Rattle.report.specs.declared.phase.PhaseReport.{PhaseReport}
use Rattle.report.specs.declared.phase.ProtocolReport.{ProtocolReport}
use Rattle.report.specs.declared.phase.ReplyReport.{ReplyReport}
use Rattle.report.specs.declared.phase.Standing.{Standing}
use Rattle.report.specs.declared.phase.TableReport.{TableReport}
use Rattle.show_route.specs.Shown.{Choice, IsReply, Sender}
use Rattle.show_route.specs.declared.query.Query.{Query}
use Rattle.core_machine.specs.Histories.{content_of, front}
use Rattle.core_machine.specs.Legal.{Joined, Printed, join, nothing}
use Rattle.core_machine.specs.Lines.{Act, Line, Reply}
use Rattle.core_machine.specs.Machine.{State, start}
use Rattle.core_machine.specs.Phases.{IsPhase, PlaysAll, Prints}
use Rattle.core_machine.specs.Rules.{AreWays, IsRules, Rules}
use Rattle.core_machine.specs.Ways.{HasWays}
use Rattle.core_setup.specs.Channels.{Channel, channels}
use Rattle.core_setup.specs.Pairs.{Pairs}
use Rattle.core_setup.specs.Plays.{IsPlay}
use Rattle.core_setup.specs.Protocols.{rules_of, starts}
use Rattle.core_setup.specs.Queries.{choice_of, sends_of}
use Rattle.core_setup.specs.Reports.{AreReports, AreStanding, IsExportReport, IsReplyReport, IsReport, IsStandingReport, IsTableReport, channel_report, journal_report, mode_report, protocol_names, protocol_report, replies_from, standing_of, table_name}
use Rattle.core_setup.specs.Setup.{IsSetup, Protocol, Setup}
use Rattle.core_setup.proofs.SetupRules.{setup_rules}
use Rattle.core_setup.proofs.Standings.{same_entries}

-- ---- what is printed

module _
    (g : Rules) (ok : IsRules g)
    (one_state : (rules : Rules) (starts : List Act) (lines : List Line) (s t u : State) → IsRules rules → IsPhase rules starts lines s t → IsPhase rules starts lines s u → t ≡ u)
  where
    prints_one : (past : Joined) (t : State) (p q : Printed) → Prints g past t p → Prints g past t q → p ≡ q
    prints_one past t p q a b =
        let entries : (n : ℕ) → p.entries n ≡ q.entries n = λ n. append_cancel_right (p.entries n) (q.entries n) (past.history n) (sym (a.entries n) ∙ b.entries n) in
        let ops : (i : ℕ) → p.ops i ≡ q.ops i = λ i. append_cancel_right (p.ops i) (q.ops i) (past.ops i) (sym (a.ops i) ∙ b.ops i) in
        let items : (i : ℕ) → p.items i ≡ q.items i = λ i. append_cancel_right (p.items i) (q.items i) (past.logs i) (sym (a.items i) ∙ b.items i) in
        let replies : p.replies ≡ q.replies = sym a.replies ∙ b.replies in
        let rows : (n : ℕ) (k : Net) (num : ℕ) → p.shown.rows n k num ≡ q.shown.rows n k num = λ n k num. a.shown.rows n k num ∙ sym (b.shown.rows n k num) in
        let modes : (i : ℕ) → p.shown.modes i ≡ q.shown.modes i = λ i. a.shown.modes i ∙ sym (b.shown.modes i) in
        let accepted : (i : ℕ) → p.shown.accepted i ≡ q.shown.accepted i = λ i. a.shown.accepted i ∙ sym (b.shown.accepted i) in
        let up : (i : ℕ) → p.shown.up i ≡ q.shown.up i = λ i. a.shown.up i ∙ sym (b.shown.up i) in
        let standing : (i : ℕ) (k : Key) → p.shown.standing i k ≡ q.shown.standing i k = λ i k. a.shown.standing i k ∙ sym (b.shown.standing i k) in
        λ j. record {
          entries = λ n. entries n j;
          ops = λ i. ops i j;
          items = λ i. items i j;
          replies = replies j;
          shown = record {
            rows = λ n k num. rows n k num j;
            modes = λ i. modes i j;
            accepted = λ i. accepted i j;
            up = λ i. up i j;
            standing = λ i k. standing i k j;
          };
        }

    printed_one : (starts : List Act) (past : Joined) (s : State) (scripts : List (List Line)) (ps qs : List Printed) → PlaysAll g starts past s scripts ps → PlaysAll g starts past s scripts qs → ps ≡ qs
    printed_one starts past s [] [] [] a b = refl
    printed_one starts past s [] [] (q ∷ qs) a b = absurd b
    printed_one starts past s [] (p ∷ ps) qs a b = absurd a
    printed_one starts past s (lines ∷ more) [] qs a b = absurd a
    printed_one starts past s (lines ∷ more) (p ∷ ps) [] a b = absurd b
    printed_one starts past s (lines ∷ more) (p ∷ ps) (q ∷ qs) a b =
        let same : b.0 ≡ a.0 = one_state g starts lines s b.0 a.0 ok b.1 a.1 in
        let first : p ≡ q = prints_one past a.0 p q a.2 (subst (λ t. Prints g past t q) same b.2) in
        let there : PlaysAll g [] (join past p) a.0 more qs = subst (λ x. PlaysAll g [] (join past x) a.0 more qs) (sym first) (subst (λ t. PlaysAll g [] (join past q) t more qs) same b.3) in
        let rest : ps ≡ qs = printed_one [] (join past p) a.0 more ps qs a.3 there in
        λ j. first j ∷ rest j

pairs_one : {X Y : Type 0} (P : ℕ → X → Y → Type 0) → ((n : ℕ) (x : X) (y z : Y) → P n x y → P n x z → y ≡ z) → (n : ℕ) (xs : List X) (ys zs : List Y) → Pairs P n xs ys → Pairs P n xs zs → ys ≡ zs
pairs_one P one n [] [] [] a b = refl
pairs_one P one n [] [] (z ∷ zs) a b = absurd b
pairs_one P one n [] (y ∷ ys) zs a b = absurd a
pairs_one P one n (x ∷ xs) [] zs a b = absurd a
pairs_one P one n (x ∷ xs) (y ∷ ys) [] a b = absurd b
pairs_one P one n (x ∷ xs) (y ∷ ys) (z ∷ zs) a b =
    let first : y ≡ z = one n x y z a.0 b.0 in
    let rest : ys ≡ zs = pairs_one P one (n + 1) xs ys zs a.1 b.1 in
    λ j. first j ∷ rest j

-- what a function gives
given_one : {X Y : Type 0} (f : ℕ → X → Y) (n : ℕ) (xs : List X) (ys zs : List Y) → Pairs (λ n x y. y ≡ f n x) n xs ys → Pairs (λ n x y. y ≡ f n x) n xs zs → ys ≡ zs
given_one f n xs ys zs a b = pairs_one (λ n x y. y ≡ f n x) (λ n x y z e h. e ∙ sym h) n xs ys zs a b

standing_one : (standing : Key → Option Attrs) (xs ys : List Standing) → AreStanding standing xs → AreStanding standing ys → xs ≡ ys
standing_one standing xs ys a b =
    a.items_are ∙ ap (map standing_of) (same_entries a.entries b.entries a.ascend b.ascend (λ k. a.values k ∙ sym (b.values k))) ∙ sym b.items_are

reported_one : (up : Bool) (standing : Key → Option Attrs) (x y : Option (List Standing)) → IsStandingReport up standing x → IsStandingReport up standing y → x ≡ y
reported_one false standing x y a b = a ∙ sym b
reported_one true standing None y a b = absurd a
reported_one true standing (Some xs) None a b = absurd b
reported_one true standing (Some xs) (Some ys) a b = ap Some (standing_one standing xs ys a b)

export_one : (p : Printed) (c : ℕ) (channel : Channel) (r q : ExportReport) → IsExportReport p c channel r → IsExportReport p c channel q → r ≡ q
export_one p c channel r q a b =
    let name : r.name ≡ q.name = a.name ∙ sym b.name in
    let pipe : r.pipe ≡ q.pipe = a.pipe ∙ sym b.pipe in
    let standing : r.standing ≡ q.standing = reported_one (p.shown.up c) (p.shown.standing c) r.standing q.standing a.standing b.standing in
    λ j. record { name = name j; pipe = pipe j; standing = standing j }

table_one : (p : Printed) (n : ℕ) (table : List ℕ × Family) (r q : TableReport) → IsTableReport p n table r → IsTableReport p n table q → r ≡ q
table_one p n table r q a b =
    let name : r.name ≡ q.name = a.name ∙ sym b.name in
    let rows : r.rows ≡ q.rows = Shows-one r.rows q.rows (p.shown.rows n) a.rows b.rows in
    λ j. record { name = name j; rows = rows j }

-- that a query has one reply over a content is a law of replies
abbrev AreOneReply : Type 0
AreOneReply = (names : List (List ℕ)) (table : List ℕ) (query : Query) (choice : Option Choice) (sends : Option Sender) (content : Content) (a b : List ℕ)
    → IsReply names table query choice sends content a → IsReply names table query choice sends content b → a ≡ b

some_one : {X : Type 0} {x y : X} → Some x ≡ Some y → x ≡ y
some_one {X} {x} {y} e = cc

module _ (one : AreOneReply) (setup : Setup) (actors : List (List ℕ)) where
  -- the text of a query, over the content of a table
  abbrev IsTextOf : (content : ℕ → Content) → Query → List ℕ → Type 0
  IsTextOf content query text = IsReply (protocol_names setup) (table_name setup query.table) query (choice_of setup query) (sends_of setup query) (content query.table) text

  reply_one : (all : Joined) (n : ℕ) (reply : List ℕ × Reply) (r q : ReplyReport) → IsReplyReport setup all reply r → IsReplyReport setup all reply q → r ≡ q
  reply_one all n reply r q a b =
      let same : b.query ≡ a.query = some_one (sym b.query_is ∙ a.query_is) in
      let content : ℕ → Content = λ table. content_of (front reply.1.at (all.history table)) in
      let other : IsTextOf content a.query q.text = subst (λ x. IsTextOf content x q.text) same b.text in
      let actor : r.actor ≡ q.actor = a.actor ∙ sym b.actor in
      let table : r.table ≡ q.table = a.table ∙ ap (λ (x : Query). table_name setup x.table) (sym same) ∙ sym b.table in
      let at : r.at ≡ q.at = a.at ∙ sym b.at in
      let text : r.text ≡ q.text =
      one (protocol_names setup) (table_name setup a.query.table) a.query (choice_of setup a.query) (sends_of setup a.query) (content a.query.table) r.text q.text a.text other in
      λ j. record { actor = actor j; table = table j; at = at j; text = text j }

  report_one : (number : ℕ) (past : Joined) (p : Printed) (r q : PhaseReport) → IsReport setup actors number past p r → IsReport setup actors number past p q → r ≡ q
  report_one number past p r q a b =
      let first : r.number ≡ q.number = a.number_is ∙ sym b.number_is in
      let protocols : r.protocols ≡ q.protocols = given_one {X = Protocol} {Y = ProtocolReport} (λ i protocol. protocol_report (rules_of setup) past p i protocol) 0 setup.protocols r.protocols q.protocols a.protocols b.protocols in
      let journals : r.journals ≡ q.journals = given_one {X = List ℕ × Family} {Y = JournalReport} (λ n table. journal_report past p n table) 0 setup.tables r.journals q.journals a.journals b.journals in
      let logs : r.channels ≡ q.channels = given_one {X = Channel} {Y = ChannelReport} (λ c channel. channel_report p c channel) 0 (channels setup) r.channels q.channels a.channel_logs b.channel_logs in
      let replies : r.replies ≡ q.replies = pairs_one {X = List ℕ × Reply} {Y = ReplyReport} (λ n reply r. IsReplyReport setup (join past p) reply r) (reply_one (join past p)) 0 (replies_from 0 actors p.replies) r.replies q.replies a.replies b.replies in
      let tables : r.tables ≡ q.tables = pairs_one {X = List ℕ × Family} {Y = TableReport} (IsTableReport p) (table_one p) 0 setup.tables r.tables q.tables a.tables b.tables in
      let modes : r.modes ≡ q.modes = given_one {X = Protocol} {Y = ModeReport} (λ i protocol. mode_report p i protocol) 0 setup.protocols r.modes q.modes a.modes b.modes in
      let exports : r.exports ≡ q.exports = pairs_one {X = Channel} {Y = ExportReport} (λ c channel r. IsExportReport p c channel r) (export_one p) 0 (channels setup) r.exports q.exports a.exports b.exports in
      λ j. record {
        number = first j;
        protocols = protocols j;
        journals = journals j;
        channels = logs j;
        replies = replies j;
        tables = tables j;
        modes = modes j;
        exports = exports j;
      }

  reports_one : (number : ℕ) (past : Joined) (ps : List Printed) (rs qs : List PhaseReport) → AreReports setup actors number past ps rs → AreReports setup actors number past ps qs → rs ≡ qs
  reports_one number past [] [] [] a b = refl
  reports_one number past [] [] (q ∷ qs) a b = absurd b
  reports_one number past [] (r ∷ rs) qs a b = absurd a
  reports_one number past (p ∷ ps) [] qs a b = absurd a
  reports_one number past (p ∷ ps) (r ∷ rs) [] a b = absurd b
  reports_one number past (p ∷ ps) (r ∷ rs) (q ∷ qs) a b =
      let first : r ≡ q = report_one number past p r q a.0 b.0 in
      let rest : rs ≡ qs = reports_one (number + 1) (join past p) ps rs qs a.1 b.1 in
      λ j. first j ∷ rest j

module _
    (ways : (rules : Rules) → 1 ≤ rules.tables → HasWays rules → AreWays rules)
    (one_state : (rules : Rules) (starts : List Act) (lines : List Line) (s t u : State) → IsRules rules → IsPhase rules starts lines s t → IsPhase rules starts lines s u → t ≡ u)
    (one_reply : AreOneReply)
  where
    pub reports_determined : (setup : Setup) (actors : List (List ℕ)) (scripts : List (List Line)) (reports others : List PhaseReport) → IsSetup setup → IsPlay setup actors scripts reports → IsPlay setup actors scripts others → reports ≡ others
    reports_determined setup actors scripts reports others is a b =
        let same : b.printed ≡ a.printed = printed_one (rules_of setup) (setup_rules ways setup is) one_state (starts setup) nothing (start (rules_of setup)) scripts b.printed a.printed b.plays a.plays in
        reports_one one_reply setup actors 1 nothing a.printed reports others a.are (subst (λ ps. AreReports setup actors 1 nothing ps others) same b.are)
