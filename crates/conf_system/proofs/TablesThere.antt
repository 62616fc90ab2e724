-- The tables of channels: each is there, and is of its channel's family, where nothing is refused.
use Rattle.std.proofs.Common.{◌≡◌, ◌∙◌, sym, ap, subst, refl, ℕ, zero, suc, Bool, true, false, List, [], ◌∷◌, ◌++◌, length, map, Option, Some, None, codes, arith, true≢false, append-nil, append_assoc, fold}
use Rattle.std.specs.Prelude.{⊤, slice_get, if◌then◌else◌}
use Rattle.std.proofs.lemmas.Option.{none-some, same_Some}
use Rattle.bits_ip.specs.declared.address.Family.{Family}
use Rattle.bits_ip.specs.declared.address.Family.TheVariants as families
use Rattle.conf_ast.specs.declared.named.Name.{Name}
use Rattle.conf_ast.specs.Names.{name_bytes}
use Rattle.conf_ast.specs.declared.kind.ConfKind.{ConfKind}
use Rattle.conf_ast.specs.Configurations as conf
use Rattle.conf_ast.specs.Configurations.{Passing, ChannelSetting, ChannelTable, ChannelImport, ChannelExport, ChannelPreference, ChannelLimit, ChannelNextHop, FamilyChannel, Instance, StaticSetting, StaticChannel, StaticRoute, BgpSetting, BgpChannel, BgpLocal, BgpNeighbor, BgpMedMetric, BgpInterpretCommunities, BgpDefaultMed, BgpDefaultLocalPref, BgpTransport, PipeSetting, PipeTable, PipePeerTable, PipeImport, PipeExport}
use Rattle.filt_meaning.specs.Names.{named_in, same_name}
use Rattle.filt_types.specs.Items.{is_none}
use Rattle.conf_names.specs.declared.refusal.Refusal.{Refusal}
use Rattle.conf_options.specs.Defaults.{bgp_preference, static_preference}
use Rattle.conf_options.specs.Options.{ChannelOptions, PipeOptions, no_channel_options, no_pipe_options, pipe_options, with_channel_option, with_pipe_option}
use Rattle.conf_rules.specs.Channels as channels
use Rattle.conf_rules.specs.Channels.{channel, family_of_table, is_other_family, one_channel, options_of, settings, settings_of}
use Rattle.conf_names.specs.Known as known_rules
use Rattle.conf_names.specs.Known.{Known, place_in, table_number, table_of}
use Rattle.conf_names.specs.Names as of_names
use Rattle.conf_rules.specs.Protocols as rules
use Rattle.conf_rules.specs.Protocols.{bgp_channels, bgp_settings, static_channels, static_routes, static_settings}
use Rattle.conf_names.specs.Names.{bgp_stem, own_name, static_stem}
use Rattle.conf_names.specs.Refusals.{refused_if}
use Rattle.conf_rules.specs.Statements.{is_master, master, refusals}
use Rattle.conf_check.specs.Behind.{at_start, behind, behind_one, with_table}
use Rattle.conf_check.specs.Checked.{or_v4, route_of, table_name}
use Rattle.conf_check.specs.declared.checked.StaticRoute.{StaticRoute as Routed}
use Rattle.conf_check.proofs.Allowed.{nil_left, nil_right}
use Rattle.conf_system.specs.Policies.{Filter}
use Rattle.conf_system.specs.System as of
use Rattle.conf_system.specs.System.{Body, IsBgp, IsPipe, IsStatic}
use Rattle.conf_system.specs.Tables.{BodyFits, Fits, Has, Tables}

-- ---- numbers of tables

placed_turn : (t : List ℕ × Family) (ts : Tables) (b : Bool) (rest : Option Family) (place : ℕ) (f : Family) → (if b then Some t.1 else rest) ≡ Some f → (rest ≡ Some f → Has ts place f)
    → Has (t ∷ ts) (if b then 0 else suc place) f
placed_turn t ts true rest place f h again = (t, refl, same_Some t.1 f h)
placed_turn t ts false rest place f h again = again h

-- a name that is found has a number
placed : (ts : Tables) (name : List ℕ) (f : Family) → named_in ts name ≡ Some f → Has ts (place_in (map (λ t. t.0) ts) name) f
placed [] name f h = absurd (none-some f h)
placed (t ∷ ts) name f h = placed_turn t ts (same_name t.0 name) (named_in ts name) (place_in (map (λ (x : List ℕ × Family). x.0) ts) name) f h (placed ts name f)

-- the tables that are always there
abbrev pub Masters : Tables → Tables
Masters more = (master families.V4, families.V4) ∷ (master families.V6, families.V6) ∷ more

master_at : (f : Family) (more : Tables) → Has (Masters more) (place_in (map (λ t. t.0) (Masters more)) (master f)) f
master_at families.V4 more = ((master families.V4, families.V4), refl, refl)
master_at families.V6 more = ((master families.V6, families.V6), refl, refl)

master_placed : (f : Family) (ts more : Tables) → ts ≡ Masters more → Has ts (place_in (map (λ t. t.0) ts) (master f)) f
master_placed f ts more is = subst (λ (l : Tables). Has l (place_in (map (λ (x : List ℕ × Family). x.0) l) (master f)) f) (sym is) (master_at f more)

got_more : (xs ys : Tables) (i : ℕ) (x : List ℕ × Family) → slice_get xs i ≡ Some x → slice_get (xs ++ ys) i ≡ Some x
got_more [] ys i x h = absurd (none-some x h)
got_more (y ∷ xs) ys zero x h = h
got_more (y ∷ xs) ys (suc i) x h = got_more xs ys i x h

has_more : (before after more : Tables) (number : ℕ) (f : Family) → after ≡ before ++ more → Has before number f → Has after number f
has_more before after more number f is has = (has.0, ap (λ (l : Tables). slice_get l number) is ∙ got_more before more number has.0 has.1, has.2)

-- ---- channels in which nothing is refused

pub not_refused : (b : Bool) (at : ℕ) (kind : ConfKind) → refused_if b at kind ≡ [] → b ≡ false
not_refused true at kind h = absurd (omega (arith, ap (λ (l : List Refusal). length l) h))
not_refused false at kind h = refl

-- where a table is named it is known
abbrev IsKnown : Known → Option Name → Type 0
IsKnown known None = ⊤
IsKnown known (Some n) = is_none (table_of known n) ≡ false

named_known : (known : Known) (n : Name) → known_rules.table known n ≡ [] → IsKnown known (Some n)
named_known known n h = not_refused (is_none (table_of known n)) n.at _ h

last_known : (known : Known) (o : ChannelOptions) (ss : List ChannelSetting) → IsKnown known o.table → settings known ss ≡ [] → IsKnown known (fold with_channel_option o ss).table
last_known known o [] is h = is
last_known known o (ChannelTable n ∷ ss) is h =
    last_known known (with_channel_option o (ChannelTable n)) ss (named_known known n (nil_left (known_rules.table known n) (settings known ss) h)) (nil_right (known_rules.table known n) (settings known ss) h)
last_known known o (ChannelImport p ∷ ss) is h = last_known known (with_channel_option o (ChannelImport p)) ss is (nil_right (channels.passing known p) (settings known ss) h)
last_known known o (ChannelExport p ∷ ss) is h = last_known known (with_channel_option o (ChannelExport p)) ss is (nil_right (channels.passing known p) (settings known ss) h)
last_known known o (ChannelPreference at n ∷ ss) is h = last_known known (with_channel_option o (ChannelPreference at n)) ss is (nil_right (known_rules.number known n) (settings known ss) h)
last_known known o (ChannelLimit l ∷ ss) is h = last_known known (with_channel_option o (ChannelLimit l)) ss is (nil_right (channels.limit known l) (settings known ss) h)
last_known known o (ChannelNextHop hop ∷ ss) is h = last_known known (with_channel_option o (ChannelNextHop hop)) ss is h

family_found : (f : Family) (o : Option Family) → is_none o ≡ false → is_other_family f o ≡ false → o ≡ Some f
family_found f None named other = absurd (true≢false named)
family_found families.V4 (Some families.V4) named other = refl
family_found families.V6 (Some families.V6) named other = refl
family_found families.V4 (Some families.V6) named other = absurd (true≢false other)
family_found families.V6 (Some families.V4) named other = absurd (true≢false other)

-- the table that counts
chosen : (known : Known) (f : Family) (n : Option Name) (more : Tables) → known.tables ≡ Masters more → IsKnown known n → family_of_table known f n ≡ []
    → Has known.tables (table_number known (table_name known.scene.text f n)) f
chosen known f None more masters is h = master_placed f known.tables more masters
chosen known f (Some n) more masters is h =
    placed known.tables (name_bytes known.scene.text n) f (family_found f (table_of known n) is (not_refused (is_other_family f (table_of known n)) n.at _ h))

module _ (said : Passing → Filter) (known : Known) (more : Tables) (masters : known.tables ≡ Masters more) where
  channel_fits : (preference : ℕ) (c : FamilyChannel) → channel known c ≡ [] → Fits known.tables (of.channel_of said known preference c)
  channel_fits preference c h =
      let named = (options_of c).table in
      chosen known c.family named more masters
      (last_known known no_channel_options (settings_of c) tt (nil_left (settings known (settings_of c)) (family_of_table known c.family named) h))
      (nil_right (settings known (settings_of c)) (family_of_table known c.family named) h)

-- ---- pipes in which nothing is refused

pipe_table_known : (known : Known) (o : PipeOptions) (ss : List PipeSetting) → IsKnown known o.table → rules.pipe_settings known ss ≡ [] → IsKnown known (fold with_pipe_option o ss).table
pipe_table_known known o [] is h = is
pipe_table_known known o (PipeTable n ∷ ss) is h =
    pipe_table_known known (with_pipe_option o (PipeTable n)) ss (named_known known n (nil_left (known_rules.table known n) (rules.pipe_settings known ss) h)) (nil_right (known_rules.table known n) (rules.pipe_settings known ss) h)
pipe_table_known known o (PipePeerTable n ∷ ss) is h = pipe_table_known known (with_pipe_option o (PipePeerTable n)) ss is (nil_right (known_rules.table known n) (rules.pipe_settings known ss) h)
pipe_table_known known o (PipeImport p ∷ ss) is h = pipe_table_known known (with_pipe_option o (PipeImport p)) ss is (nil_right (channels.passing known p) (rules.pipe_settings known ss) h)
pipe_table_known known o (PipeExport p ∷ ss) is h = pipe_table_known known (with_pipe_option o (PipeExport p)) ss is (nil_right (channels.passing known p) (rules.pipe_settings known ss) h)

pipe_peer_known : (known : Known) (o : PipeOptions) (ss : List PipeSetting) → IsKnown known o.peer → rules.pipe_settings known ss ≡ [] → IsKnown known (fold with_pipe_option o ss).peer
pipe_peer_known known o [] is h = is
pipe_peer_known known o (PipeTable n ∷ ss) is h = pipe_peer_known known (with_pipe_option o (PipeTable n)) ss is (nil_right (known_rules.table known n) (rules.pipe_settings known ss) h)
pipe_peer_known known o (PipePeerTable n ∷ ss) is h =
    pipe_peer_known known (with_pipe_option o (PipePeerTable n)) ss (named_known known n (nil_left (known_rules.table known n) (rules.pipe_settings known ss) h)) (nil_right (known_rules.table known n) (rules.pipe_settings known ss) h)
pipe_peer_known known o (PipeImport p ∷ ss) is h = pipe_peer_known known (with_pipe_option o (PipeImport p)) ss is (nil_right (channels.passing known p) (rules.pipe_settings known ss) h)
pipe_peer_known known o (PipeExport p ∷ ss) is h = pipe_peer_known known (with_pipe_option o (PipeExport p)) ss is (nil_right (channels.passing known p) (rules.pipe_settings known ss) h)

primary_known : (known : Known) (n : Option Name) (more : Tables) → known.tables ≡ Masters more → IsKnown known n → is_none (rules.primary_family known n) ≡ false
primary_known known None more masters is = subst (λ (ts : Tables). is_none (named_in ts (codes "master4")) ≡ false) (sym masters) refl
primary_known known (Some n) more masters is = is

or_v4_is : (o : Option Family) → is_none o ≡ false → o ≡ Some (or_v4 o)
or_v4_is None h = absurd (true≢false h)
or_v4_is (Some f) h = refl

one_family : (o p : Option Family) → is_none o ≡ false → is_none p ≡ false → rules.differ o p ≡ false → o ≡ Some (or_v4 p)
one_family None p h k same = absurd (true≢false h)
one_family (Some f) None h k same = absurd (true≢false k)
one_family (Some families.V4) (Some families.V4) h k same = refl
one_family (Some families.V6) (Some families.V6) h k same = refl
one_family (Some families.V4) (Some families.V6) h k same = absurd (true≢false same)
one_family (Some families.V6) (Some families.V4) h k same = absurd (true≢false same)

-- The two tables of a pipe by their names, where nothing is refused of it and it has this peer.
pub record AreTwo (known : Known) (ss : List PipeSetting) (peer : Name) : Type 0 where
  pub primary : rules.primary_family known (pipe_options ss).table ≡ Some (or_v4 (table_of known peer))
  pub other : table_of known peer ≡ Some (or_v4 (table_of known peer))

two_known : (known : Known) (ss : List PipeSetting) (peer : Name) (more : Tables) → known.tables ≡ Masters more → rules.pipe_settings known ss ≡ [] → IsKnown known (Some peer)
    → rules.peer_family known (pipe_options ss).table (Some peer) ≡ [] → AreTwo known ss peer
two_known known ss peer more masters written is h =
    let primary = rules.primary_family known (pipe_options ss).table in
    record {
      primary = one_family primary (table_of known peer) (primary_known known (pipe_options ss).table more masters (pipe_table_known known no_pipe_options ss tt written)) is
          (not_refused (rules.differ primary (table_of known peer)) peer.at _ h);
      other = or_v4_is (table_of known peer) is;
    }

-- what is refused of a pipe but for a cycle
abbrev pub pipe_front : Known → Instance PipeSetting → List Refusal
pipe_front known p =
    of_names.declaring known p.at p.name (of_names.pipe_names (own_name known of_names.pipe_stem p.name)) ++ rules.pipe_settings known p.settings ++ rules.lacks (of_names.place_of p.at p.name) (pipe_options p.settings).peer
    ++ rules.peer_family known (pipe_options p.settings).table (pipe_options p.settings).peer

pub are_two : (known : Known) (p : Instance PipeSetting) (peer : Name) (more : Tables) → known.tables ≡ Masters more → (pipe_options p.settings).peer ≡ Some peer → rules.pipe known p ≡ [] → AreTwo known p.settings peer
are_two known p peer more masters is h =
    let a = of_names.declaring known p.at p.name (of_names.pipe_names (own_name known of_names.pipe_stem p.name)) in
    let b = rules.pipe_settings known p.settings in
    let d = rules.lacks (of_names.place_of p.at p.name) (pipe_options p.settings).peer in
    let e = rules.peer_family known (pipe_options p.settings).table (pipe_options p.settings).peer in
    let front = nil_left (pipe_front known p) (rules.cycle known (of_names.place_of p.at p.name) (rules.joint_of known p.settings)) h in
    let written = nil_right a b (nil_left (a ++ b) d (nil_left (a ++ b ++ d) e front)) in
    two_known known p.settings peer more masters written
    (subst (λ (o : Option Name). IsKnown known o) is (pipe_peer_known known no_pipe_options p.settings tt written))
    (subst (λ (o : Option Name). rules.peer_family known (pipe_options p.settings).table o ≡ []) is (nil_right (a ++ b ++ d) e front))

pub no_cycle : (known : Known) (p : Instance PipeSetting) → rules.pipe known p ≡ [] → rules.cycle known (of_names.place_of p.at p.name) (rules.joint_of known p.settings) ≡ []
no_cycle known p h = nil_right (pipe_front known p) _ h

pub has_peer : (known : Known) (p : Instance PipeSetting) → rules.pipe known p ≡ [] → (pipe_options p.settings).peer ≡ None → ⊥
has_peer known p h none =
    let a = of_names.declaring known p.at p.name (of_names.pipe_names (own_name known of_names.pipe_stem p.name)) in
    let b = rules.pipe_settings known p.settings in
    let d = rules.lacks (of_names.place_of p.at p.name) (pipe_options p.settings).peer in
    let e = rules.peer_family known (pipe_options p.settings).table (pipe_options p.settings).peer in
    let lacking = nil_right (a ++ b) d (nil_left (a ++ b ++ d) e (nil_left (pipe_front known p) (rules.cycle known (of_names.place_of p.at p.name) (rules.joint_of known p.settings)) h)) in
    absurd (omega (arith, ap (λ (l : List Refusal). length l) (sym (ap (λ (o : Option Name). rules.lacks (of_names.place_of p.at p.name) o) none) ∙ lacking)))

-- ---- protocols in which nothing is refused

-- what a statement says of a protocol, where it does
abbrev pub StatementFits : Tables → Option Body → Type 0
StatementFits tables None = ⊤
StatementFits tables (Some body) = BodyFits tables body

second_of_five : (a b c d e : List Refusal) → a ++ b ++ c ++ d ++ e ≡ [] → b ≡ []
second_of_five a b c d e h = nil_right a b (nil_left (a ++ b) c (nil_left (a ++ b ++ c) d (nil_left (a ++ b ++ c ++ d) e h)))

second_of_four : (a b c d : List Refusal) → a ++ b ++ c ++ d ≡ [] → b ≡ []
second_of_four a b c d h = nil_right a b (nil_left (a ++ b) c (nil_left (a ++ b ++ c) d h))

-- nothing is refused in these channels
abbrev AreFine : Known → List FamilyChannel → Type 0
AreFine known [] = ⊤
AreFine known (c ∷ cs) = (channel known c ≡ []) × AreFine known cs

static_fine : (known : Known) (ss : List StaticSetting) → static_settings known ss ≡ [] → AreFine known (static_channels ss)
static_fine known [] h = tt
static_fine known (StaticChannel c ∷ ss) h = (nil_left (channel known c) (static_settings known ss) h, static_fine known ss (nil_right (channel known c) (static_settings known ss) h))
static_fine known (StaticRoute r ∷ ss) h = static_fine known ss h

bgp_fine : (known : Known) (ss : List BgpSetting) → bgp_settings known ss ≡ [] → AreFine known (bgp_channels ss)
bgp_fine known [] h = tt
bgp_fine known (BgpChannel c ∷ ss) h = (nil_left (channel known c) (bgp_settings known ss) h, bgp_fine known ss (nil_right (channel known c) (bgp_settings known ss) h))
bgp_fine known (BgpLocal a n ∷ ss) h = bgp_fine known ss (nil_right (known_rules.number known n) (bgp_settings known ss) h)
bgp_fine known (BgpNeighbor a n ∷ ss) h = bgp_fine known ss (nil_right (known_rules.number known n) (bgp_settings known ss) h)
bgp_fine known (BgpMedMetric s ∷ ss) h = bgp_fine known ss h
bgp_fine known (BgpInterpretCommunities s ∷ ss) h = bgp_fine known ss h
bgp_fine known (BgpDefaultMed at n ∷ ss) h = bgp_fine known ss (nil_right (known_rules.number known n) (bgp_settings known ss) h)
bgp_fine known (BgpDefaultLocalPref at n ∷ ss) h = bgp_fine known ss (nil_right (known_rules.number known n) (bgp_settings known ss) h)
bgp_fine known (BgpTransport t ∷ ss) h = bgp_fine known ss (nil_right (rules.transport known t) (bgp_settings known ss) h)

module _ (said : Passing → Filter) (known : Known) (more : Tables) (masters : known.tables ≡ Masters more) where
  static_fits : (cs : List FamilyChannel) (routes : List Routed) → AreFine known cs → StatementFits known.tables (of.static_with said known cs routes)
  static_fits [] routes fine = tt
  static_fits (c ∷ []) routes fine = channel_fits said known more masters static_preference c fine.0
  static_fits (c ∷ d ∷ cs) routes fine = tt

  bgp_fits : (cs : List FamilyChannel) (ss : List BgpSetting) → AreFine known cs → StatementFits known.tables (of.bgp_with said known cs ss)
  bgp_fits [] ss fine = tt
  bgp_fits (c ∷ []) ss fine = channel_fits said known more masters bgp_preference c fine.0
  bgp_fits (c ∷ d ∷ cs) ss fine = tt

  pipe_fits : (p : Instance PipeSetting) (peer : Option Name) → (pipe_options p.settings).peer ≡ peer → rules.pipe known p ≡ [] → StatementFits known.tables (of.pipe_with said known peer p.settings)
  pipe_fits p None is h = tt
  pipe_fits p (Some n) is h =
      let two = are_two known p n more masters is h in
      (placed known.tables (rules.primary_name known.scene.text (pipe_options p.settings).table) (or_v4 (table_of known n)) two.primary, placed known.tables (name_bytes known.scene.text n) (or_v4 (table_of known n)) two.other)

  pub body_fits : (d : conf.Declaration) → refusals known d ≡ [] → StatementFits known.tables (of.body_of said known d)
  body_fits (conf.Static p) h =
      static_fits (static_channels p.settings) (map route_of (static_routes p.settings))
      (static_fine known p.settings
      (second_of_five (of_names.declaring known p.at p.name (own_name known static_stem p.name ∷ [])) (static_settings known p.settings) (one_channel (of_names.place_of p.at p.name) (static_channels p.settings))
      (rules.nettypes (static_channels p.settings) (static_routes p.settings)) (rules.repeated [] (static_routes p.settings)) h))
  body_fits (conf.Bgp p) h =
      bgp_fits (bgp_channels p.settings) p.settings
      (bgp_fine known p.settings
      (second_of_four (of_names.declaring known p.at p.name (own_name known bgp_stem p.name ∷ [])) (bgp_settings known p.settings) (one_channel (of_names.place_of p.at p.name) (bgp_channels p.settings))
      (rules.session known (of_names.place_of p.at p.name) p.settings) h))
  body_fits (conf.Pipe p) h = pipe_fits p (pipe_options p.settings).peer refl h
  body_fits (conf.RouterId a) h = tt
  body_fits conf.Log h = tt
  body_fits (conf.Define name v) h = tt
  body_fits (conf.Table at family name) h = tt
  body_fits (conf.DefineFunction f) h = tt
  body_fits (conf.DefineFilter at name ss) h = tt
  body_fits (conf.Device name semicolon) h = tt

-- with more tables
pub fits_more : (before after more : Tables) (body : Option Body) → after ≡ before ++ more → StatementFits before body → StatementFits after body
fits_more before after more None is fits = tt
fits_more before after more (Some (IsStatic p)) is fits = has_more before after more p.channel.table p.channel.family is fits
fits_more before after more (Some (IsBgp p)) is fits = has_more before after more p.channel.table p.channel.family is fits
fits_more before after more (Some (IsPipe p)) is fits = (has_more before after more p.table p.family is fits.0, has_more before after more p.peer p.family is fits.1)

-- ---- tables only grow

abbrev pub Grows : Tables → Tables → Type 0
Grows before after = (more : Tables) × (after ≡ before ++ more)

table_grows : (known : Known) (b : Bool) (name : List ℕ) (f : Family) → Grows known.tables (if b then known else with_table known name f).tables
table_grows known true name f = ([], sym (append-nil known.tables))
table_grows known false name f = ((name, f) ∷ [], refl)

stays : (ts : Tables) → Grows ts ts
stays ts = ([], sym (append-nil ts))

one_grows : (known : Known) (d : conf.Declaration) → Grows known.tables (behind_one known d).tables
one_grows known (conf.Table at family name) = table_grows known (is_master known family name) (name_bytes known.scene.text name) family
one_grows known (conf.RouterId a) = stays known.tables
one_grows known conf.Log = stays known.tables
one_grows known (conf.Define name v) = stays known.tables
one_grows known (conf.DefineFunction f) = stays known.tables
one_grows known (conf.DefineFilter at name ss) = stays known.tables
one_grows known (conf.Device name semicolon) = stays known.tables
one_grows known (conf.Static p) = stays known.tables
one_grows known (conf.Bgp p) = stays known.tables
one_grows known (conf.Pipe p) = stays known.tables

pub all_grow : (known : Known) (ds : List conf.Declaration) → Grows known.tables (behind known ds).tables
all_grow known [] = stays known.tables
all_grow known (d ∷ ds) =
    let one = one_grows known d in
    let others = all_grow (behind_one known d) ds in
    (one.0 ++ others.0, others.1 ∙ ap (λ (l : Tables). l ++ others.0) one.1 ∙ append_assoc known.tables one.0 others.0)

pub masters_first : (text : List ℕ) (ds : List conf.Declaration) → (more : Tables) × ((behind (at_start text) ds).tables ≡ Masters more)
masters_first text ds = let grown = all_grow (at_start text) ds in (grown.0, grown.1)
