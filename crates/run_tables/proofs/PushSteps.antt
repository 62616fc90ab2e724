-- A push of a channel of some number, and what comes of it in the table that it writes.
use Rattle.std.proofs.Common.{◌≡◌, ◌≢◌, ℕ, zero, suc, ◌+◌, ◌<◌, ◌≤◌, Bool, true, false, List, [], ◌∷◌, length, get_or, set, Option, Some, None, refl, sym, ap, subst, ◌∙◌, arith, reverse}
use Rattle.std.specs.Prelude.{IsSome, is_some, option_map, slice_get, if◌then◌else◌}
use Rattle.std.specs.List.{AllByRecursion}
use Rattle.bits_ip.specs.Address.{family_of}
use Rattle.bits_ip.specs.Prefix.{Net}
use Rattle.bits_ip.specs.declared.address.Family.{Family}
use Rattle.attrs.specs.declared.judge.Verdict.{Verdict}
use Rattle.attrs.specs.declared.route.Change.{Change}
use Rattle.attrs.specs.declared.route.Route.{Route}
use Rattle.attrs.specs.declared.attributes.Attrs.{Attrs}
use Rattle.export_core.specs.declared.exporter.Pushed.{Pushed}
use Rattle.export_core.specs.declared.exporter.Pushed.TheVariants as answers
use Rattle.export_core.specs.declared.log.LogItem.{LogItem}
use Rattle.export_core.specs.declared.log.LogItem.TheVariants.{Sent}
use Rattle.export_core.specs.declared.log.Sending.{Sending}
use Rattle.core_machine.specs.Channels as machine
use Rattle.core_machine.specs.Channels.{is_open, push_one}
use Rattle.core_machine.specs.Enters.{change_to}
use Rattle.core_machine.specs.Machine.{State, gained, with_channel}
use Rattle.core_machine.specs.Match.{change_of_sending}
use Rattle.core_machine.specs.Pipes.{is_pipe}
use Rattle.core_machine.specs.Rules.{IsRules, Rules}
use Rattle.core_machine.proofs.Contents.{none_some, some_same}
use Rattle.core_machine.proofs.Growing.{set_here as at_here}
use Rattle.core_setup.specs.Channels.{channel_at, channels, channels_from, channels_in, reads_at, session, target_at}
use Rattle.core_setup.specs.Channels as setups
use Rattle.core_setup.specs.Protocols.{rules_of}
use Rattle.core_setup.specs.Setup.{AreProtocols, Body, Exports, FitsBody, IsPipe, IsSource, Protocol, Setup, family_at}
use Rattle.core_setup.proofs.Numbered.{all_append}
use Rattle.core_setup.proofs.PairLemmas.{one_here}
use Rattle.run_tables.specs.Channels.{IsChannel, IsOfProtocol, Tells, TellsPush, cursor_of}
use Rattle.run_tables.specs.Routes.{AdmitsAt, AreRoutes}
use Rattle.run_tables.specs.Tables.{IsTable, TellsSource}
use Rattle.run_tables.specs.declared.channel.Channel.{Channel}
use Rattle.run_tables.specs.declared.routes.Routes.{Routes}
use Rattle.run_tables.specs.declared.table.Table.{Table}
use Rattle.run_tables.proofs.Kept.{open_of}
use Rattle.run_tables.proofs.Reading.{found_one}
use Rattle.run_tables.proofs.Routing.{Stays, TableIs, channel_is, channel_there, table_of, target_of, tables_length}

-- ---- a table that a direction writes is there

abbrev WritesIn : List (List ℕ × Family) → setups.Channel → Type 0
WritesIn tables ch = (table : ℕ) → ch.target ≡ Some table → table < length tables

session_writes : (tables : List (List ℕ × Family)) (n : ℕ) (name : List ℕ) (table : ℕ) (o : Option Exports) → AllByRecursion (WritesIn tables) (session tables n name table o)
session_writes tables n name table None = tt
session_writes tables n name table (Some exports) = (λ t e. absurd (none_some e), tt)

body_writes : (tables : List (List ℕ × Family)) (n : ℕ) (name : List ℕ) (b : Body) → FitsBody tables n b → AllByRecursion (WritesIn tables) (channels_in tables n name b)
body_writes tables n name (IsSource p) fits = session_writes tables n name p.table p.exports
body_writes tables n name (IsPipe p) fits = (
  λ t e. subst (λ m. m < length tables) (some_same e) fits.peer,
  (λ t e. subst (λ m. m < length tables) (some_same e) fits.primary, tt),
)

all_write : (tables : List (List ℕ × Family)) (n : ℕ) (ps : List Protocol) → AreProtocols tables n ps → AllByRecursion (WritesIn tables) (channels_from tables n ps)
all_write tables n [] are = tt
all_write tables n (p ∷ ps) are =
    all_append (WritesIn tables) (channels_in tables n p.name p.body) (channels_from tables (n + 1) ps) (body_writes tables n p.name p.body are.0) (all_write tables (n + 1) ps are.1)

at_place : {X : Type 0} (P : X → Type 0) (xs : List X) (c : ℕ) (x : X) → AllByRecursion P xs → slice_get xs c ≡ Some x → P x
at_place P [] c x all e = absurd (none_some e)
at_place P (y ∷ xs) zero x all e = subst P (some_same e) all.0
at_place P (y ∷ xs) (suc c) x all e = at_place P xs c x all.1 e

target_there : (setup : Setup) (c table : ℕ) (o : Option setups.Channel) → AreProtocols setup.tables 0 setup.protocols → channel_at setup c ≡ o → target_at o ≡ Some table → table < length setup.tables
target_there setup c table None are e t = absurd (none_some t)
target_there setup c table (Some ch) are e t = at_place (WritesIn setup.tables) (channels setup) c ch (all_write setup.tables 0 setup.protocols are) e table t

-- ---- and of the family of the one that it reads

abbrev JoinsIn : List (List ℕ × Family) → setups.Channel → Type 0
JoinsIn tables ch = (table : ℕ) → ch.target ≡ Some table → family_at tables ch.reads ≡ family_at tables table

session_joins : (tables : List (List ℕ × Family)) (n : ℕ) (name : List ℕ) (table : ℕ) (o : Option Exports) → AllByRecursion (JoinsIn tables) (session tables n name table o)
session_joins tables n name table None = tt
session_joins tables n name table (Some exports) = (λ t e. absurd (none_some e), tt)

body_joins : (tables : List (List ℕ × Family)) (n : ℕ) (name : List ℕ) (b : Body) → FitsBody tables n b → AllByRecursion (JoinsIn tables) (channels_in tables n name b)
body_joins tables n name (IsSource p) fits = session_joins tables n name p.table p.exports
body_joins tables n name (IsPipe p) fits = (
  λ t e. fits.family ∙ ap (family_at tables) (some_same e),
  (λ t e. sym fits.family ∙ ap (family_at tables) (some_same e), tt),
)

all_join : (tables : List (List ℕ × Family)) (n : ℕ) (ps : List Protocol) → AreProtocols tables n ps → AllByRecursion (JoinsIn tables) (channels_from tables n ps)
all_join tables n [] are = tt
all_join tables n (p ∷ ps) are =
    all_append (JoinsIn tables) (channels_in tables n p.name p.body) (channels_from tables (n + 1) ps) (body_joins tables n p.name p.body are.0) (all_join tables (n + 1) ps are.1)

target_joined : (setup : Setup) (c table : ℕ) (o : Option setups.Channel) → AreProtocols setup.tables 0 setup.protocols → channel_at setup c ≡ o → target_at o ≡ Some table
    → family_at setup.tables (reads_at (length setup.tables) o) ≡ family_at setup.tables table
target_joined setup c table None are e t = absurd (none_some t)
target_joined setup c table (Some ch) are e t = at_place (JoinsIn setup.tables) (channels setup) c ch (all_join setup.tables 0 setup.protocols are) e table t

-- a route that comes of attributes tells its source
tells_source : (rules : Rules) (ok : IsRules rules) (num : ℕ) (value : Option Attrs) → TellsSource num (option_map (rules.route num) value)
tells_source rules ok num None = tt
tells_source rules ok num (Some attrs) = ok.source num attrs

-- ---- a channel that is down

pub shut_of : (ch : machine.Channel) → cursor_of ch ≡ None → is_open ch ≡ false
shut_of ch e = on (is_open ch) e where
  on : (b : Bool) → (if b then Some ch.position else None) ≡ None → b ≡ false
  on true e = absurd (none_some (sym e))
  on false e = refl

module _ {J : Type 0} (verdict : J → Net → Route → Verdict) (setup : Setup) (s : State) (r : Routes J) (c : ℕ) (are : AreRoutes verdict setup s r) where
  pub apart_of : (table : ℕ) → (rules_of setup).target c ≡ Some table → (rules_of setup).reads c ≢ table
  apart_of table e = are.rules_are.apart c table e

  module _ (held : Channel J) (there : slice_get r.channels.items c ≡ Some held) where
    pub shut_is : held.cursor ≡ None → is_open (s.channels c) ≡ false
    shut_is none = shut_of (s.channels c) (sym (channel_there verdict setup s r are c held there).cursor ∙ none)

    pub open_is : (p : ℕ) → held.cursor ≡ Some p → is_open (s.channels c) ≡ true
    open_is p some = open_of (s.channels c) p (sym (channel_there verdict setup s r are c held there).cursor ∙ some)

    log_is : reverse held.exporter.log ≡ (s.channels c).log
    log_is = (channel_there verdict setup s r are c held there).exporter.matches.like.resembles.log

    pub writes_there : (table : ℕ) → held.target ≡ Some table → table < length r.tables.items
    writes_there table e =
        let w = target_there setup c table (channel_at setup c) are.setup_is.protocols refl (sym (target_of verdict setup s r are c held there) ∙ e) in
        omega (arith, w, tables_length verdict setup s r are)

    -- a change of the family of the table that it reads is one of the table that it writes
    pub admits_there : (table : ℕ) → held.target ≡ Some table → (net : Net) (num : ℕ) (new : Option Route) → family_at setup.tables ((rules_of setup).reads c) ≡ Some (family_of net.addr) → TellsSource num new
        → AdmitsAt table r (record { net = net; num = num; new = new })
    admits_there table e net num new is tells written et =
        let at = one_here (TableIs setup s) setup.tables r.tables.items are.tables table written et in
        let joined = target_joined setup c table (channel_at setup c) are.setup_is.protocols refl (sym (target_of verdict setup s r are c held there) ∙ e) in
        let same : family_of net.addr ≡ at.0.1 = some_same (sym is ∙ joined ∙ ap (option_map (λ (t : List ℕ × Family). t.1)) at.1) in
        record { family_is = same ∙ sym at.2.family_is; source = tells }

    module _ (x : Sending) (earlier : List LogItem) (last : (s.channels c).log ≡ Sent x ∷ earlier) where
      pub last_is : reverse held.exporter.log ≡ Sent x ∷ earlier
      last_is = log_is ∙ last

      pub tells_sources : (table : ℕ) → held.target ≡ Some table → IsOfProtocol (rules_of setup) c x → Tells held.exporter.log r.sources.items
      tells_sources table e of y before ey some =
          let same : x ≡ y = (let both : Sent x ∷ earlier ≡ Sent y ∷ before = sym last_is ∙ ey in cc) in
          let pipe : is_pipe (rules_of setup) c ≡ true = ap is_some (sym (target_of verdict setup s r are c held there) ∙ e) in
          let low = subst (λ (y : Sending). y.key.num < (rules_of setup).protocols) same (of pipe (subst (λ (y : Sending). IsSome y.value) (sym same) some)) in
          let count = are.sources.count in
          omega (arith, low, count)

-- the change of what was sent
some_value : (f : Attrs → Route) (o : Option Attrs) → IsSome (option_map f o) → IsSome o
some_value f None some = some
some_value f (Some a) some = refl

made_of : (rules : Rules) (x : Sending) (b : Bool) (change : Change) → (if b then None else Some (change_to rules x.key x.value)) ≡ Some change → change_to rules x.key x.value ≡ change
made_of rules x true change e = absurd (none_some e)
made_of rules x false change e = some_same e

pub change_sourced : (rules : Rules) (c n : ℕ) (x : Sending) (change : Change) → change_of_sending rules x ≡ Some change → (IsSome x.value → x.key.num < n) → IsSome change.new → change.num < n
change_sourced rules c n x change e low some =
    let is = made_of rules x x.again change e in
    subst (λ (y : Change). y.num < n) is (low (some_value (rules.route x.key.num) x.value (subst (λ (y : Change). IsSome y.new) (sym is) some)))

-- it is one of the table that is written
pub sent_admits : {J : Type 0} (verdict : J → Net → Route → Verdict) (setup : Setup) (s : State) (r : Routes J) (c : ℕ) (are : AreRoutes verdict setup s r) (held : Channel J) → slice_get r.channels.items c ≡ Some held
    → (table : ℕ) → held.target ≡ Some table → (x : Sending) → family_at setup.tables ((rules_of setup).reads c) ≡ Some (family_of x.key.net.addr)
    → (change : Change) → change_of_sending (rules_of setup) x ≡ Some change → AdmitsAt table r change
sent_admits verdict setup s r c are held there table e x is change made =
    subst (AdmitsAt table r) (made_of (rules_of setup) x x.again change made)
    (admits_there verdict setup s r c are held there table e x.key.net x.key.num (option_map ((rules_of setup).route x.key.num) x.value) is (tells_source (rules_of setup) are.rules_are x.key.num x.value))

-- ---- a push

module _ {J : Type 0} (verdict : J → Net → Route → Verdict) (setup : Setup) (s : State) (r : Routes J) (c : ℕ) (are : AreRoutes verdict setup s r) (w : c < length r.channels.items)
    (held after : Channel J) (e : held ≡ get_or r.channels.items c held)
    (pushes : (rules : Rules) (c : ℕ) (family : Family) (h : List Change) (ch : machine.Channel) → IsChannel verdict rules c (Some family) h held ch → IsChannel verdict rules c (Some family) h after (push_one rules c h ch)) where
  abbrev pub new_channel : machine.Channel
  new_channel = push_one (rules_of setup) c (s.history ((rules_of setup).reads c)) (s.channels c)

  abbrev pub pushed : State
  pushed = with_channel c new_channel s

  at : held.table ≡ (rules_of setup).reads c
  at = table_of verdict setup s r are c held (found_one verdict setup s r c are w held e).1

  abbrev family : Family
  family = (found_one verdict setup s r c are w held e).2.family

  is_now : IsChannel verdict (rules_of setup) c (Some family) (s.history held.table) after new_channel
  is_now =
      let f = found_one verdict setup s r c are w held e in
      subst (λ n. IsChannel verdict (rules_of setup) c (Some family) (s.history held.table) after (push_one (rules_of setup) c (s.history n) (s.channels c))) at
      (pushes (rules_of setup) c f.2.family (s.history held.table) (s.channels c) f.2.channel)

  pub push_leaves : (new : Routes J) → Stays verdict r new → new.tables.items ≡ r.tables.items → new.channels.items ≡ set r.channels.items c after → AreRoutes verdict setup pushed new
  push_leaves new stays tables changed =
      let f = found_one verdict setup s r c are w held e in
      channel_is verdict setup s r new c held after f.0 f.2 f.1 stays tables changed new_channel is_now are

  -- what it tells
  module _ (answer : Pushed) (tells : (rules : Rules) (c : ℕ) (family : Family) (h : List Change) (ch : machine.Channel) (table : Table) → IsTable rules family h table → IsChannel verdict rules c (Some family) h held ch
      → TellsPush rules c family h held.exporter.log after.exporter.log ch answer) where
    pub push_told : TellsPush (rules_of setup) c family (s.history ((rules_of setup).reads c)) held.exporter.log after.exporter.log (s.channels c) answer
    push_told =
        let f = found_one verdict setup s r c are w held e in
        subst (λ n. TellsPush (rules_of setup) c family (s.history n) held.exporter.log after.exporter.log (s.channels c) answer) at
        (tells (rules_of setup) c f.2.family (s.history held.table) (s.channels c) f.0 f.2.is f.2.channel)

    pub record IsSent : Type 0 where
      pub marked : 1 ≤ length (s.channels c).marks
      pub x : Sending
      pub log : ((pushed).channels c).log ≡ Sent x ∷ reverse held.exporter.log
      pub gains : gained (rules_of setup) c (s.history ((rules_of setup).reads c)) (s.channels c).marks (s.channels c) ≡ change_of_sending (rules_of setup) x
      pub of_protocol : IsOfProtocol (rules_of setup) c x
      pub of_family : family_at setup.tables ((rules_of setup).reads c) ≡ Some (family_of x.key.net.addr)

    pub sent_is : answer ≡ answers.Sent → IsSent
    sent_is same =
        let t = subst (TellsPush (rules_of setup) c family (s.history ((rules_of setup).reads c)) held.exporter.log after.exporter.log (s.channels c)) same push_told in
        record {
          marked = t.0;
          x = t.1;
          log = ap (λ (ch : machine.Channel). ch.log) (at_here c new_channel s.channels c refl) ∙ sym is_now.exporter.matches.like.resembles.log ∙ t.2;
          gains = t.3;
          of_protocol = t.4;
          of_family = ap (family_at setup.tables) (sym at) ∙ (found_one verdict setup s r c are w held e).2.family_is ∙ ap Some (sym t.5);
        }

    pub quiet_told : answer ≡ answers.Quiet → (1 ≤ length (s.channels c).marks) × (gained (rules_of setup) c (s.history ((rules_of setup).reads c)) (s.channels c).marks (s.channels c) ≡ None)
    quiet_told same = subst (TellsPush (rules_of setup) c family (s.history ((rules_of setup).reads c)) held.exporter.log after.exporter.log (s.channels c)) same push_told

    pub nothing_told : answer ≡ answers.Nothing → (s.channels c).marks ≡ []
    nothing_told same = subst (TellsPush (rules_of setup) c family (s.history ((rules_of setup).reads c)) held.exporter.log after.exporter.log (s.channels c)) same push_told
