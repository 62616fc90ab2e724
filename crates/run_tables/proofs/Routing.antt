-- All tables and channels beside the machine's state of them: what is read there, and what one
-- change of a channel or of a table leaves.
use Rattle.std.proofs.Common.{◌≡◌, ℕ, ◌<◌, ◌≤◌, ◌⊎◌, inl, inr, List, ◌∷◌, length, get_or, set, Option, Some, refl, sym, ap, subst, ◌∙◌, arith}
use Rattle.std.specs.Prelude.{slice_get, option_map}
use Rattle.std.specs.declared.alloc.Global.{Global}
use Rattle.std.specs.declared.vec.Vec.{Vec}
use Rattle.std.proofs.lemmas.Option.{slice_get_read}
use Rattle.bits_ip.specs.Prefix.{Net}
use Rattle.bits_ip.specs.declared.address.Family.{Family}
use Rattle.attrs.specs.declared.judge.Verdict.{Verdict}
use Rattle.attrs.specs.declared.route.Change.{Change}
use Rattle.attrs.specs.declared.route.Route.{Route}
use Rattle.attrs.specs.declared.route.Src.{Src}
use Rattle.core_machine.specs.Channels as machine
use Rattle.core_machine.specs.Channels.{is_open}
use Rattle.core_machine.specs.Machine.{State, with_channel}
use Rattle.core_machine.specs.Machine.{set as at_set}
use Rattle.core_machine.specs.Rules.{Rules}
use Rattle.core_machine.proofs.Growing.{set_here as at_here, set_there as at_there}
use Rattle.core_machine.proofs.Matching.{longer_matches}
use Rattle.core_setup.specs.Channels.{channel_at, channels, reads_at, target_at}
use Rattle.core_setup.specs.Channels as setups
use Rattle.core_setup.specs.Pairs.{Pairs}
use Rattle.core_setup.specs.Protocols.{rules_of}
use Rattle.core_setup.specs.Setup.{Setup, family_at}
use Rattle.core_setup.proofs.Numbered.{channel_belongs}
use Rattle.core_setup.proofs.PairLemmas.{cases_same, get_here, get_one, get_within, one_here, pairs_length, set_here, weaker_here}
use Rattle.run_tables.specs.Channels.{AreSources, IsChannel}
use Rattle.run_tables.specs.Routes.{AdmitsAt, AreReaders, AreRoutes}
use Rattle.run_tables.specs.Tables.{Admits, IsTable}
use Rattle.run_tables.specs.declared.channel.Channel.{Channel}
use Rattle.run_tables.specs.declared.routes.Routes.{Routes}
use Rattle.run_tables.specs.declared.table.Table.{Table}

-- a change comes to a table, where room is made
abbrev pub with_change : ℕ → Change → State → State
with_change table x s = record s { history = at_set table (x ∷ s.history table) s.history }

module _ {J : Type 0} (verdict : J → Net → Route → Verdict) (rules : Rules) (c : ℕ) (family : Option Family) (h : List Change) where
  -- a change of the table changes nothing between a channel and the machine's
  pub longer_channel : (x : Change) (held : Channel J) (ch : machine.Channel) → IsChannel verdict rules c family h held ch → IsChannel verdict rules c family (x ∷ h) held ch
  longer_channel x held ch m = record {
    table = m.table;
    target = m.target;
    cursor = m.cursor;
    exporter = record {
      matches = longer_matches verdict rules c h x held.exporter ch m.exporter.matches;
      family_is = m.exporter.family_is;
      told = let t = m.exporter.told in omega (arith, t);
    };
  }

-- what holds of the table of a number, and of the channel of one
abbrev pub TableIs : Setup → State → ℕ → List ℕ × Family → Table → Type 0
TableIs setup s n seen table = IsTable (rules_of setup) seen.1 (s.history n) table

abbrev pub ReadersAre : Setup → ℕ → List ℕ × Family → Vec ℕ Global → Type 0
ReadersAre setup n seen numbers = AreReaders (rules_of setup) (length (channels setup)) n numbers.items

module _ {J : Type 0} (verdict : J → Net → Route → Verdict) where
  abbrev pub ChannelIs : Setup → State → ℕ → setups.Channel → Channel J → Type 0
  ChannelIs setup s c seen held =
      IsChannel verdict (rules_of setup) c (family_at setup.tables seen.reads) (s.history seen.reads) held (s.channels c)

  -- a channel over a table, which is the one that it reads
  pub record IsRead (setup : Setup) (s : State) (c : ℕ) (held : Channel J) (table : Table) : Type 0 where
    pub family : Family
    pub family_is : family_at setup.tables held.table ≡ Some family
    pub is : IsTable (rules_of setup) family (s.history held.table) table
    pub channel : IsChannel verdict (rules_of setup) c (Some family) (s.history held.table) held (s.channels c)

  module _ (setup : Setup) (s : State) (r : Routes J) (are : AreRoutes verdict setup s r) where
    -- how many there are
    pub channels_length : length (channels setup) ≡ length r.channels.items
    channels_length = pairs_length (ChannelIs setup s) 0 (channels setup) r.channels.items are.channels

    pub tables_length : length setup.tables ≡ length r.tables.items
    tables_length = pairs_length (TableIs setup s) 0 setup.tables r.tables.items are.tables

    pub readers_length : length setup.tables ≡ length r.readers.items
    readers_length = pairs_length (ReadersAre setup) 0 setup.tables r.readers.items are.readers

    module _ (c : ℕ) (held : Channel J) (e : slice_get r.channels.items c ≡ Some held) where
      abbrev pub one : (seen : setups.Channel) × (slice_get (channels setup) c ≡ Some seen) × ChannelIs setup s c seen held
      one = one_here (ChannelIs setup s) (channels setup) r.channels.items are.channels c held e

      pub channel_there : IsChannel verdict (rules_of setup) c (family_at setup.tables one.0.reads) (s.history one.0.reads) held (s.channels c)
      channel_there = one.2

      pub table_of : held.table ≡ (rules_of setup).reads c
      table_of = one.2.table

      pub target_of : held.target ≡ (rules_of setup).target c
      target_of = one.2.target

      seen_table : held.table ≡ one.0.reads
      seen_table = one.2.table ∙ ap (reads_at (length setup.tables)) one.1

      pub table_there : held.table < length r.tables.items
      table_there =
          let w = (channel_belongs setup c one.0 are.setup_is one.1).within in
          omega (arith, seen_table, w, tables_length)

      pub read_of : (table : Table) → slice_get r.tables.items held.table ≡ Some table → IsRead setup s c held table
      read_of table et =
          let a = one in
          let b = one_here (TableIs setup s) setup.tables r.tables.items are.tables held.table table et in
          let to : held.table ≡ a.0.reads = seen_table in
          let family_is : family_at setup.tables held.table ≡ Some b.0.1 = ap (option_map (λ (t : List ℕ × Family). t.1)) b.1 in
          let family : family_at setup.tables a.0.reads ≡ Some b.0.1 = ap (family_at setup.tables) (sym to) ∙ family_is in
          record {
            family = b.0.1;
            family_is = family_is;
            is = b.2;
            channel = subst (λ f. IsChannel verdict (rules_of setup) c f (s.history held.table) held (s.channels c)) family
                (subst (λ n. IsChannel verdict (rules_of setup) c (family_at setup.tables a.0.reads) (s.history n) held (s.channels c)) (sym to) a.2);
          }

      pub in_list : c < length (channels setup)
      in_list = let w = get_within r.channels.items c held e in omega (arith, w, channels_length)

  -- a table admits what it admitted before, since its family stays
  pub admits_still : (setup : Setup) (s t : State) (r new : Routes J) → AreRoutes verdict setup s r → AreRoutes verdict setup t new → (n : ℕ) → n < length r.tables.items → (c : Change) → AdmitsAt n r c → AdmitsAt n new c
  admits_still setup s t r new are now n w c admits table there =
      let old = get_here r.tables.items n w in
      let was = one_here (TableIs setup s) setup.tables r.tables.items are.tables n old.0 old.1 in
      let is = one_here (TableIs setup t) setup.tables new.tables.items now.tables n table there in
      subst (λ (family : Family). Admits family c)
      (was.2.family_is ∙ ap (λ (seen : List ℕ × Family). seen.1) (get_one setup.tables n was.0 is.0 was.1 is.1) ∙ sym is.2.family_is)
      (admits old.0 old.1)

  -- ---- what is the same at each number

  pub are_same : (setup : Setup) (s t : State) (r : Routes J) → ((n : ℕ) → s.history n ≡ t.history n) → ((c : ℕ) → s.channels c ≡ t.channels c)
      → AreRoutes verdict setup s r → AreRoutes verdict setup t r
  are_same setup s t r histories same are = record {
    setup_is = are.setup_is;
    rules_are = are.rules_are;
    cells = are.cells;
    tables = weaker_here (TableIs setup s) (TableIs setup t) setup.tables r.tables.items
        (λ n seen table _ _ is. subst (λ h. IsTable (rules_of setup) seen.1 h table) (histories n) is) are.tables;
    readers = are.readers;
    channels = weaker_here (ChannelIs setup s) (ChannelIs setup t) (channels setup) r.channels.items
        (λ c p held _ _ is. subst (λ h. IsChannel verdict (rules_of setup) c (family_at setup.tables p.reads) h held (t.channels c)) (histories p.reads)
        (subst (λ ch. IsChannel verdict (rules_of setup) c (family_at setup.tables p.reads) (s.history p.reads) held ch) (same c) is)) are.channels;
    beyond = λ c w. ap is_open (sym (same c)) ∙ are.beyond c w;
    sources = are.sources;
  }

  -- the same state, written otherwise
  pub as_state : (setup : Setup) {s t : State} {r : Routes J} → s ≡ t → AreRoutes verdict setup s r → AreRoutes verdict setup t r
  as_state setup {r = r} e are = subst (λ u. AreRoutes verdict setup u r) e are

  -- ---- a channel is another one

  -- all but tables and channels is as it was
  pub record Stays (r new : Routes J) : Type 0 where
    pub cells : new.cells ≡ r.cells
    pub readers : new.readers.items ≡ r.readers.items
    pub sources : new.sources.items ≡ r.sources.items

  pub channel_changed : (setup : Setup) (s t : State) (r new : Routes J) (c : ℕ) (held after : Channel J) (table : Table) (read : IsRead setup s c held table)
      → slice_get r.channels.items c ≡ Some held
      → Stays r new → new.tables.items ≡ r.tables.items → new.channels.items ≡ set r.channels.items c after
      → ((n : ℕ) → s.history n ≡ t.history n) → ((j : ℕ) → (j ≡ c → ⊥) → s.channels j ≡ t.channels j)
      → IsChannel verdict (rules_of setup) c (Some read.family) (s.history held.table) after (t.channels c)
      → AreRoutes verdict setup s r → AreRoutes verdict setup t new
  channel_changed setup s t r new c held after table read e stays tables changed histories others new_is are = record {
    setup_is = are.setup_is;
    rules_are = are.rules_are;
    cells = stays.cells ∙ are.cells;
    tables = subst (λ (xs : List Table). Pairs (TableIs setup t) 0 setup.tables xs) (sym tables)
        (weaker_here (TableIs setup s) (TableIs setup t) setup.tables r.tables.items
        (λ n seen table _ _ is. subst (λ h. IsTable (rules_of setup) seen.1 h table) (histories n) is) are.tables);
    readers = subst (λ (xs : List (Vec ℕ Global)). Pairs (ReadersAre setup) 0 setup.tables xs) (sym stays.readers) are.readers;
    channels = subst (λ (xs : List (Channel J)). Pairs (ChannelIs setup t) 0 (channels setup) xs) (sym changed)
        (set_here (ChannelIs setup s) (ChannelIs setup t) (channels setup) r.channels.items c after
        (λ j p old apart _ _ is. moved j p old (t.channels j) (subst (λ ch. IsChannel verdict (rules_of setup) j (family_at setup.tables p.reads) (s.history p.reads) old ch) (others j apart) is))
        (λ p old ep eo is. moved c p after (t.channels c) (here p (table_is p old ep eo is))) are.channels);
    beyond = λ j w. ap is_open (sym (others j (far j w))) ∙ are.beyond j w;
    sources = subst (λ (xs : List Src). AreSources (rules_of setup) xs) (sym stays.sources) are.sources;
  } where
    moved : (j : ℕ) (p : setups.Channel) (held : Channel J) (ch : machine.Channel) → IsChannel verdict (rules_of setup) j (family_at setup.tables p.reads) (s.history p.reads) held ch
        → IsChannel verdict (rules_of setup) j (family_at setup.tables p.reads) (t.history p.reads) held ch
    moved j p held ch is = subst (λ h. IsChannel verdict (rules_of setup) j (family_at setup.tables p.reads) h held ch) (histories p.reads) is

    -- the table is the one that the channel reads
    table_is : (p : setups.Channel) (old : Channel J) → slice_get (channels setup) c ≡ Some p → slice_get r.channels.items c ≡ Some old → ChannelIs setup s c p old
        → (held.table ≡ p.reads) × (family_at setup.tables p.reads ≡ Some read.family)
    table_is p old ep eo is =
        let to : held.table ≡ p.reads = table_of setup s r are c held e ∙ ap (reads_at (length setup.tables)) ep in
        (to, ap (family_at setup.tables) (sym to) ∙ read.family_is)

    here : (p : setups.Channel) → (held.table ≡ p.reads) × (family_at setup.tables p.reads ≡ Some read.family) → IsChannel verdict (rules_of setup) c (family_at setup.tables p.reads) (s.history p.reads) after (t.channels c)
    here p is = subst (λ f. IsChannel verdict (rules_of setup) c f (s.history p.reads) after (t.channels c)) (sym is.1)
        (subst (λ n. IsChannel verdict (rules_of setup) c (Some read.family) (s.history n) after (t.channels c)) is.0 new_is)

    far : (j : ℕ) → length (channels setup) ≤ j → j ≡ c → ⊥
    far j w same =
        let in_list = get_within r.channels.items c held e in
        let l = channels_length setup s r are in
        omega (arith, in_list, l, w, same)

  pub channel_is : (setup : Setup) (s : State) (r new : Routes J) (c : ℕ) (held after : Channel J) (table : Table) (read : IsRead setup s c held table)
      → slice_get r.channels.items c ≡ Some held
      → Stays r new → new.tables.items ≡ r.tables.items → new.channels.items ≡ set r.channels.items c after → (ch : machine.Channel)
      → IsChannel verdict (rules_of setup) c (Some read.family) (s.history held.table) after ch
      → AreRoutes verdict setup s r → AreRoutes verdict setup (with_channel c ch s) new
  channel_is setup s r new c held after table read e stays tables changed ch is are =
      channel_changed setup s (with_channel c ch s) r new c held after table read e stays tables changed (λ n. refl)
      (λ j apart. sym (at_there c ch s.channels j (λ same. apart (sym same))))
      (subst (IsChannel verdict (rules_of setup) c (Some read.family) (s.history held.table) after) (sym (at_here c ch s.channels c refl)) is) are

  -- no other than it was
  pub channel_stays : (setup : Setup) (s : State) (r : Routes J) (c : ℕ) (ch : machine.Channel) → ch ≡ s.channels c → AreRoutes verdict setup s r → AreRoutes verdict setup (with_channel c ch s) r
  channel_stays setup s r c ch e are = are_same setup s (with_channel c ch s) r (λ n. refl) (λ j. there j (cases_same c j)) are where
    there : (j : ℕ) → ((c ≡ j) ⊎ (c ≡ j → ⊥)) → s.channels j ≡ (with_channel c ch s).channels j
    there j (inl same) = ap s.channels (sym same) ∙ sym e ∙ sym (at_here c ch s.channels j same)
    there j (inr apart) = sym (at_there c ch s.channels j apart)

  -- ---- a table has one more change

  pub table_changed : (setup : Setup) (s : State) (r new : Routes J) (n : ℕ) (x : Change) (held after : Table) → slice_get r.tables.items n ≡ Some held
      → Stays r new → new.tables.items ≡ set r.tables.items n after → new.channels.items ≡ r.channels.items
      → ((family : Family) → IsTable (rules_of setup) family (s.history n) held → IsTable (rules_of setup) family (x ∷ s.history n) after)
      → AreRoutes verdict setup s r → AreRoutes verdict setup (with_change n x s) new
  table_changed setup s r new n x held after e stays tables kept step are = record {
    setup_is = are.setup_is;
    rules_are = are.rules_are;
    cells = stays.cells ∙ are.cells;
    tables = subst (λ (xs : List Table). Pairs (TableIs setup t) 0 setup.tables xs) (sym tables)
        (set_here (TableIs setup s) (TableIs setup t) setup.tables r.tables.items n after
        (λ j seen old apart _ _ is. subst (λ h. IsTable (rules_of setup) seen.1 h old) (sym (there j (λ same. apart (sym same)))) is)
        (λ seen old _ eo is. subst (λ h. IsTable (rules_of setup) seen.1 h after) (sym here)
        (step seen.1 (subst (IsTable (rules_of setup) seen.1 (s.history n)) (get_one r.tables.items n old held eo e) is))) are.tables);
    readers = subst (λ (xs : List (Vec ℕ Global)). Pairs (ReadersAre setup) 0 setup.tables xs) (sym stays.readers) are.readers;
    channels = subst (λ (xs : List (Channel J)). Pairs (ChannelIs setup t) 0 (channels setup) xs) (sym kept)
        (weaker_here (ChannelIs setup s) (ChannelIs setup t) (channels setup) r.channels.items
        (λ c p old _ _ is. longer c p old is (cases_same p.reads n)) are.channels);
    beyond = are.beyond;
    sources = subst (λ (xs : List Src). AreSources (rules_of setup) xs) (sym stays.sources) are.sources;
  } where
    t : State
    t = with_change n x s

    here : t.history n ≡ x ∷ s.history n
    here = at_here n (x ∷ s.history n) s.history n refl

    there : (j : ℕ) → (n ≡ j → ⊥) → t.history j ≡ s.history j
    there j apart = at_there n (x ∷ s.history n) s.history j apart

    longer : (c : ℕ) (p : setups.Channel) (old : Channel J) → ChannelIs setup s c p old → ((p.reads ≡ n) ⊎ (p.reads ≡ n → ⊥)) → ChannelIs setup t c p old
    longer c p old is (inl same) =
        let more : IsChannel verdict (rules_of setup) c (family_at setup.tables p.reads) (x ∷ s.history p.reads) old (s.channels c) =
        longer_channel verdict (rules_of setup) c (family_at setup.tables p.reads) (s.history p.reads) x old (s.channels c) is in
        let grown : x ∷ s.history p.reads ≡ t.history p.reads = ap (λ m. x ∷ s.history m) same ∙ sym here ∙ ap t.history (sym same) in
        subst (λ h. IsChannel verdict (rules_of setup) c (family_at setup.tables p.reads) h old (s.channels c)) grown more
    longer c p old is (inr apart) =
        subst (λ h. IsChannel verdict (rules_of setup) c (family_at setup.tables p.reads) h old (s.channels c)) (sym (there p.reads (λ same. apart (sym same)))) is

-- ---- what code reads

pub item_read : {X : Type 0} (xs : List X) (i : ℕ) (x : X) → i < length xs → x ≡ get_or xs i x → slice_get xs i ≡ Some x
item_read xs i x w e = slice_get_read xs (length xs) i x refl w e
