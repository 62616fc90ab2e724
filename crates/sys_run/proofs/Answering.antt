-- What a query names is there, and says what the setup says of it.
use Rattle.std.proofs.Common.{◌≡◌, ℕ, zero, suc, ◌+◌, ◌-◌, ◌<◌, ◌≤◌, true, List, length, map, Option, Some, None, is_some, refl, sym, ap, subst, ◌∙◌, arith}
use Rattle.std.specs.Prelude.{◌==◌, ◌||◌, IfSome, option_and_then, option_copied, option_map, slice_get}
use denote.Bor.{Bor}
use Rattle.std.proofs.lemmas.Bool.{false≢true}
use Rattle.std.proofs.lemmas.List.{length-map, length-reverse}
use Rattle.std.proofs.lemmas.Option.{get_or_from_slice_get, slice_get-map, slice_get_within}
use Rattle.bits_ip.specs.Prefix.{Net}
use Rattle.bits_ip.specs.declared.address.Family.{Family}
use Rattle.attrs.specs.History.{Content}
use Rattle.attrs.specs.Table.{Shows}
use Rattle.attrs.specs.declared.judge.Verdict.{Verdict}
use Rattle.attrs.specs.declared.route.Change.{Change}
use Rattle.attrs.specs.declared.route.Route.{Route}
use Rattle.export_core.specs.Candidates.{among}
use Rattle.export_core.specs.Histories.{change_of}
use Rattle.export_core.specs.Keys.{key_of}
use Rattle.export_core.specs.declared.passing.Through.{Through}
use Rattle.show_route.specs.Senders.{sender_of}
use Rattle.show_route.specs.Shown.{Choice, IsReply, Sender}
use Rattle.show_route.specs.declared.query.Query.{Query}
use Rattle.core_machine.specs.Histories.{content_of, front}
use Rattle.core_machine.specs.Legal.{Joined}
use Rattle.core_machine.specs.Lines.{Reply}
use Rattle.core_machine.specs.Machine.{State}
use Rattle.core_machine.proofs.Contents.{front_all}
use Rattle.core_setup.specs.Channels.{channels, numbers_of}
use Rattle.core_setup.specs.Protocols.{value_at}
use Rattle.core_setup.specs.Queries.{choice_of, exports_at, sends_of}
use Rattle.core_setup.specs.Reports.{name_in, protocol_names, table_name}
use Rattle.core_setup.specs.Setup.{Exports, ExportsFrom, FitsQuery, IsSetup, Protocol as SeenProtocol, Setup}
use Rattle.core_setup.proofs.Numbered.{exports_listed, exports_own, itself_is, listed_owner}
use Rattle.core_setup.proofs.PairLemmas.{get_here, one_here, other_here}
use Rattle.run_tables.specs.declared.channel.Channel.{Channel}
use Rattle.run_tables.specs.declared.table.Table.{Table}
use Rattle.run_tables.proofs.Routing.{ChannelIs, TableIs}
use Rattle.sys_run.specs.Cores.{IsAnswered, IsCore, PlaysAs, channel_of, choice_in, counted, export_in, through_of}
use Rattle.sys_run.specs.Scripts.{asked_table, table_in}
use Rattle.sys_run.specs.declared.parts.TableParts.{TableParts}
use Rattle.sys_run.specs.declared.player.Answered.{Answered}
use Rattle.sys_run.specs.declared.player.Core.{Core}
use Rattle.sys_run.specs.declared.protocol.Protocol.{Protocol as HeldProtocol}

-- a query that is there fits
pub query_fits : (setup : Setup) (n : ℕ) (q : Query) → IsSetup setup → slice_get setup.queries n ≡ Some q → FitsQuery setup.tables setup.protocols setup.choices q
query_fits setup n q is e =
    subst (FitsQuery setup.tables setup.protocols setup.choices) (get_or_from_slice_get setup.queries n q q e) (is.queries n q (slice_get_within setup.queries n q e))

pub some_copied : {X : Type 0} (o : Option (Bor X)) → is_some (option_copied o) ≡ is_some o
some_copied None = refl
some_copied (Some x) = refl

is_there : {X : Type 0} (xs : List X) (n : ℕ) → n < length xs → true ≡ is_some (slice_get xs n)
is_there xs n w = sym (ap is_some (get_here xs n w).1)

-- numbers in a row begin with the first
first_counted : (low many c : ℕ) → among c (counted low many) ≡ true → among low (counted low many) ≡ true
first_counted low zero c e = absurd (false≢true e)
first_counted low (suc many) c e = ap (λ t. t || among low (counted (low + 1) many)) (itself_is low)

-- the channel of a protocol whose exports are asked for
module _ {J : Type 0} (core : Core J) (q : Query) (n : ℕ) (is : q.export ≡ Some n) where
  by_number : export_in core q ≡ option_map through_of (channel_of core n)
  by_number = ap (λ o. option_map through_of (option_and_then (channel_of core) o)) is

  pub exported : (held : HeldProtocol J) → slice_get core.protocols.items n ≡ Some held → option_map through_of (slice_get core.routes.channels.items held.from) ≡ export_in core q
  exported held there = sym (by_number ∙ ap (λ o. option_map through_of (option_and_then (λ (p : HeldProtocol J). slice_get core.routes.channels.items p.from) o)) there)

  pub unexported : slice_get core.protocols.items n ≡ None → None ≡ export_in core q
  unexported none = sym (by_number ∙ ap (λ o. option_map through_of (option_and_then (λ (p : HeldProtocol J). slice_get core.routes.channels.items p.from) o)) none)

module _ {J : Type 0} (verdict : J → Net → Route → Verdict) (setup : Setup) (past : Joined) (s : State) (core : Core J) (are : IsCore verdict setup past s core) (q : Query)
    (fits : FitsQuery setup.tables setup.protocols setup.choices q)
  where
    abbrev pub sends_by : Through J → Sender
    sends_by through = sender_of through.spec (verdict through.judge)

    chosen : option_map verdict (choice_in core q) ≡ choice_of setup q
    chosen = by q.choice where
      by : (o : Option ℕ) → option_map verdict (option_and_then (λ (n : ℕ). slice_get core.choices.items n) o) ≡ option_and_then (λ (n : ℕ). slice_get setup.choices n) o
      by None = refl
      by (Some n) = sym (slice_get-map verdict core.choices.items n) ∙ ap (λ l. slice_get l n) are.choices

    pub choice_there : is_some q.choice ≡ is_some (choice_in core q)
    choice_there = by q.choice fits.choice where
      by : (o : Option ℕ) → IfSome o (λ (n : ℕ). n < length setup.choices) → is_some o ≡ is_some (option_and_then (λ (n : ℕ). slice_get core.choices.items n) o)
      by None w = refl
      by (Some n) w = is_there core.choices.items n (omega (arith, w, ap length are.choices, length-map core.choices.items verdict))

    -- the protocol whose exports are asked for is there
    abbrev Exporting : ℕ → Type 0
    Exporting n = (p : SeenProtocol) × (slice_get setup.protocols n ≡ Some p) × ExportsFrom q.table p.body

    -- the channel is its one
    record IsItsChannel (n : ℕ) : Type 0 where
      held : Channel J
      there : channel_of core n ≡ Some held
      exports : Exports
      exports_are : exports_at setup.protocols n ≡ Some exports
      same : sends_by (through_of held) ≡ sender_of exports.spec exports.filter

    its_channel : (n : ℕ) → Exporting n → IsItsChannel n
    its_channel n is =
        let held = other_here (λ i p held. PlaysAs verdict setup i p (past.ops i) (s.ops i) held) setup.protocols core.protocols.items are.protocols n is.0 is.1 in
        let listed = exports_listed setup n q.table is.0 is.1 is.2 in
        let low = held.0.from in
        let many = held.0.upto - held.0.from in
        let begins : among low (numbers_of n 0 (channels setup)) ≡ true =
        ap (among low) held.2.belong ∙ first_counted low many listed.0 (sym (ap (among listed.0) held.2.belong) ∙ listed.1) in
        let seen = listed_owner setup n low begins in
        let ch = other_here (ChannelIs verdict setup s) (channels setup) core.routes.channels.items are.routes.channels low seen.0 seen.1 in
        let value : (net : Net) (route : Route) → sends_by (through_of ch.0) net route ≡ sender_of seen.0.exports.spec seen.0.exports.filter net route =
        λ net route. ch.2.exporter.matches.like.resembles.value (key_of net) route ∙ ap (λ o. value_at o (key_of net) route) seen.1 in
        record {
          held = ch.0;
          there = ap (option_and_then (λ (p : HeldProtocol J). slice_get core.routes.channels.items p.from)) held.1 ∙ ch.1;
          exports = seen.0.exports;
          exports_are = exports_own setup n q.table is.0 is.1 is.2 low seen.0 are.routes.setup_is seen.1 seen.2;
          same = λ j net route. value net route j;
        }

    sent : option_map sends_by (export_in core q) ≡ sends_of setup q
    sent = by q.export fits.export where
      by : (o : Option ℕ) → IfSome o Exporting
          → option_map sends_by (option_map through_of (option_and_then (channel_of core) o)) ≡ option_map (λ (e : Exports). sender_of e.spec e.filter) (option_and_then (exports_at setup.protocols) o)
      by None w = refl
      by (Some n) w =
          let is = its_channel n w in
          ap (λ (o : Option (Channel J)). option_map sends_by (option_map through_of o)) is.there ∙ ap Some is.same ∙ sym (ap (option_map (λ (e : Exports). sender_of e.spec e.filter)) is.exports_are)

    pub export_there : is_some q.export ≡ is_some (export_in core q)
    export_there = by q.export fits.export where
      by : (o : Option ℕ) → IfSome o Exporting → is_some o ≡ is_some (option_map through_of (option_and_then (channel_of core) o))
      by None w = refl
      by (Some n) w = sym (ap (λ (o : Option (Channel J)). is_some (option_map through_of o)) (its_channel n w).there)

    table_there : (table : Table) → slice_get core.routes.tables.items q.table ≡ Some table → Shows table.rib.rows (content_of (s.history q.table)) × (length table.entries.items ≡ length (s.history q.table))
    table_there table e =
        let is = one_here (TableIs setup s) setup.tables core.routes.tables.items are.routes.tables q.table table e in
        (is.2.shows, sym (length-map table.entries.items change_of) ∙ ap length is.2.entries ∙ length-reverse (s.history q.table))

    named : (parts : TableParts) → slice_get core.tables.items q.table ≡ Some parts → parts.name ≡ table_name setup q.table
    named parts e =
        let is = one_here (λ n seen (held : TableParts). let pair : List ℕ × Family = (held.name, held.family) in seen ≡ pair) setup.tables core.tables.items are.tables q.table parts e in
        ap (λ (t : List ℕ × Family). t.0) (sym is.2) ∙ sym (ap name_in is.1)

    -- what is answered to it over its table
    pub answered : (held : Answered) (reply : Reply) (table : Table) (parts : TableParts) (names : List (List ℕ)) (name : List ℕ) (choice : Option Choice) (sends : Option Sender)
        → slice_get setup.queries reply.query ≡ Some q → reply.table ≡ asked_table setup.queries reply.query → reply.at ≡ length (s.history reply.table)
        → slice_get core.routes.tables.items q.table ≡ Some table → slice_get core.tables.items q.table ≡ Some parts
        → names ≡ core.names.items → name ≡ parts.name → choice ≡ option_map verdict (choice_in core q) → sends ≡ option_map sends_by (export_in core q)
        → held.table ≡ q.table → held.at ≡ length table.entries.items
        → ((content : Content) → Shows table.rib.rows content → IsReply names name q choice sends content held.text.items)
        → IsAnswered setup s held reply
    answered held reply table parts names name choice sends eq et ea er ep en em ec es eh el is = record {
      query = q;
      query_is = eq;
      table_is = same;
      table = eh;
      at = el ∙ read.1 ∙ sym now;
      within = omega (arith, now);
      text = moved names (protocol_names setup) name (table_name setup q.table) choice (choice_of setup q) sends (sends_of setup q) (s.history q.table) (front reply.at (s.history q.table)) (en ∙ are.names) (em ∙ named parts ep) (ec ∙ chosen)
          (es ∙ sent) (sym (front_all (s.history q.table)) ∙ ap (λ n. front n (s.history q.table)) (sym now)) (is (content_of (s.history q.table)) read.0);
    } where
      same : reply.table ≡ q.table
      same = et ∙ ap table_in eq

      now : reply.at ≡ length (s.history q.table)
      now = ea ∙ ap (λ n. length (s.history n)) same

      read : Shows table.rib.rows (content_of (s.history q.table)) × (length table.entries.items ≡ length (s.history q.table))
      read = table_there table er

      moved : (ns ms : List (List ℕ)) (n m : List ℕ) (c d : Option Choice) (x y : Option Sender) (h k : List Change) → ns ≡ ms → n ≡ m → c ≡ d → x ≡ y → h ≡ k
          → IsReply ns n q c x (content_of h) held.text.items → IsReply ms m q d y (content_of k) held.text.items
      moved ns ms n m c d x y h k e f g i l is =
          subst (λ h. IsReply ms m q d y (content_of h) held.text.items) l
          (subst (λ x. IsReply ms m q d x (content_of h) held.text.items) i
          (subst (λ c. IsReply ms m q c x (content_of h) held.text.items) g
          (subst (λ n. IsReply ms n q c x (content_of h) held.text.items) f
          (subst (λ ns. IsReply ns n q c x (content_of h) held.text.items) e is))))
