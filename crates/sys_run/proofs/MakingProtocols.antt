-- Protocols and channels that are made.
use Rattle.std.proofs.Common.{◌≡◌, ℕ, zero, suc, ◌+◌, ◌≤◌, true, false, List, [], ◌∷◌, ◌++◌, Option, Some, None, refl, sym, ◌∙◌, ap, subst, arith, length, map, take}
use Rattle.std.specs.declared.alloc.Global.{Global}
use Rattle.std.specs.declared.vec.Vec.{Vec}
use Rattle.std.proofs.lemmas.List.{length-append, length-map}
use Rattle.attrs.specs.declared.judge.Verdict.{Verdict}
use Rattle.attrs.specs.declared.route.Route.{Route}
use Rattle.attrs.specs.declared.route.Src.{Src}
use Rattle.bits_ip.specs.Prefix.{Net}
use Rattle.bits_ip.specs.declared.address.Family.{Family}
use Rattle.export_core.specs.declared.floors.FeedState.TheVariants.{Done}
use Rattle.export_core.specs.declared.passing.ExportSpec.{ExportSpec}
use Rattle.export_core.specs.States.{State as Exporter}
use Rattle.core_setup.specs.Channels as setups
use Rattle.core_setup.specs.Channels.{channels_in, direction, family_or_first, session}
use Rattle.core_setup.specs.Pairs.{Pairs}
use Rattle.core_setup.specs.Protocols.{src_in}
use Rattle.core_setup.specs.Setup as setup
use Rattle.core_setup.specs.Setup.{family_at}
use Rattle.core_setup.proofs.PairLemmas.{pairs_length, pairs_push, pairs_weaker, get_within}
use Rattle.run_tables.specs.declared.channel.Channel.{Channel}
use Rattle.sys_run.specs.Made.{Adds, AddsChannels, IsMade, IsMadeBody, IsMadeProtocol, IsNewChannel, IsSource, Left, channels_before, seen_in}
use Rattle.sys_run.specs.Parts.{body_seen, exports_seen, protocol_seen}
use Rattle.sys_run.specs.declared.made.Made.{Made}
use Rattle.sys_run.specs.declared.parts.BodyParts.{BodyParts}
use Rattle.sys_run.specs.declared.parts.ExportParts.{ExportParts}
use Rattle.sys_run.specs.declared.parts.ProtocolParts.{ProtocolParts}
use Rattle.sys_run.specs.declared.protocol.Body.{Body}
use Rattle.sys_run.specs.declared.protocol.Protocol.{Protocol}
use Rattle.sys_run.proofs.MakingParts.{of_parts, seen_push}

-- pairs end to end
pairs_join : {X Y : Type 0} (P : ℕ → X → Y → Type 0) (n : ℕ) (xs more : List X) (ys others : List Y) → Pairs P n xs ys → Pairs P (n + length ys) more others → Pairs P n (xs ++ more) (ys ++ others)
pairs_join P n [] more [] others ps qs = subst (λ m. Pairs P m more others) (let e : n + 0 ≡ n = omega arith in e) qs
pairs_join P n [] more (y ∷ ys) others ps qs = absurd ps
pairs_join P n (x ∷ xs) more [] others ps qs = absurd ps
pairs_join P n (x ∷ xs) more (y ∷ ys) others ps qs =
    (ps.0, pairs_join P (n + 1) xs more ys others ps.1 (subst (λ m. Pairs P m more others) (let e : n + suc (length ys) ≡ n + 1 + length ys = omega arith in e) qs))

take_front : {X : Type 0} (k : ℕ) (xs ys : List X) → k ≤ length xs → take k (xs ++ ys) ≡ take k xs
take_front zero xs ys le = refl
take_front (suc k) [] ys le = absurd (let bad : 1 ≤ 0 = omega (arith, le) in omega (arith, bad))
take_front (suc k) (x ∷ xs) ys le = ap (λ l. x ∷ l) (take_front k xs ys (omega (arith, le)))

take_whole : {X : Type 0} (xs : List X) → take (length xs) xs ≡ xs
take_whole [] = refl
take_whole (x ∷ xs) = ap (λ l. x ∷ l) (take_whole xs)

map_push : {X Y : Type 0} (f : X → Y) (xs : List X) (x : X) → map f (xs ++ x ∷ []) ≡ map f xs ++ f x ∷ []
map_push f [] x = refl
map_push f (y ∷ xs) x = ap (λ l. f y ∷ l) (map_push f xs x)

map_join : {X Y : Type 0} (f : X → Y) (xs ys : List X) → map f (xs ++ ys) ≡ map f xs ++ map f ys
map_join f [] ys = refl
map_join f (y ∷ xs) ys = ap (λ l. f y ∷ l) (map_join f xs ys)

length_push : {X : Type 0} (xs : List X) (x : X) → length (xs ++ x ∷ []) ≡ suc (length xs)
length_push [] x = refl
length_push (y ∷ xs) x = ap suc (length_push xs x)

module _ {J : Type 0} (verdict : J → Net → Route → Verdict) (tables : List (List ℕ × Family)) (passed : ℕ → List ℕ) where
  -- one more protocol
  pub made_more : (ps : List (ProtocolParts J)) (p : ProtocolParts J) (old mid new : Made J) (number : ℕ) → number ≡ length old.names.items → IsMade verdict tables passed ps old
      → Adds verdict tables passed number p.name p.body old mid
      → new.names.items ≡ mid.names.items ++ p.name ∷ [] → new.protocols ≡ mid.protocols → new.channels ≡ mid.channels → new.channel_names ≡ mid.channel_names → new.sources ≡ mid.sources
      → IsMade verdict tables passed (ps ++ p ∷ []) new
  made_more ps p old mid new number at is adds names protocols channels channel_names sources = record {
    names = names ∙ ap (λ l. l ++ p.name ∷ []) (ap (λ (v : Vec (List ℕ) Global). v.items) adds.names ∙ is.names) ∙ sym (map_push (λ (q : ProtocolParts J). q.name) ps p);
    bodies = subst (λ (l : List (Protocol J)). Pairs (IsMadeProtocol verdict tables (ps ++ p ∷ [])) 0 (ps ++ p ∷ []) l) (sym (ap (λ (v : Vec (Protocol J) Global). v.items) protocols ∙ adds.protocols))
        (pairs_push (IsMadeProtocol verdict tables (ps ++ p ∷ [])) 0 ps old.protocols.items p adds.held
        (pairs_weaker (IsMadeProtocol verdict tables ps) (IsMadeProtocol verdict tables (ps ++ p ∷ [])) 0 ps old.protocols.items (λ j x y ex ey held.
        let w = get_within ps j x ex in record {
          body = held.body;
          from = held.from ∙ ap length (sym (before (0 + j) (omega (arith, w))));
          upto = held.upto ∙ ap length (sym (before (suc (0 + j)) (omega (arith, w))));
          done = held.done;
        }) is.bodies)
        (record {
          body = adds.body;
          from = adds.from ∙ sym seen_old ∙ ap length (sym (ap whole_of (take_front (0 + length ps) ps (p ∷ []) (omega arith)) ∙ ap (λ n. whole_of (take n ps)) zero_on ∙ ap whole_of (take_whole ps)));
          upto = adds.upto ∙ sym seen_new ∙ ap length (sym (ap (λ n. whole_of (take n (ps ++ p ∷ []))) (ap suc zero_on ∙ sym (length_push ps p)) ∙ ap whole_of (take_whole (ps ++ p ∷ []))));
          done = adds.done;
        }));
    channels = subst (λ (l : List (Channel J)). Pairs (IsNewChannel verdict passed) 0 (seen_in verdict tables (ps ++ p ∷ [])) l) (sym (ap (λ (v : Vec (Channel J) Global). v.items) channels ∙ adds.channels)) here;
    channel_names = ap (λ (v : Vec (List ℕ) Global). v.items) channel_names ∙ adds.channel_names
        ∙ ap (λ l. l ++ map (λ (c : setups.Channel). c.name) (channels_in tables number p.name (body_seen verdict p.body))) is.channel_names
        ∙ ap (λ n. map (λ (c : setups.Channel). c.name) (seen_in verdict tables ps) ++ map (λ (c : setups.Channel). c.name) (of_parts verdict tables n p)) place
        ∙ sym (map_join (λ (c : setups.Channel). c.name) (seen_in verdict tables ps) (of_parts verdict tables (length ps) p))
        ∙ sym (ap (map (λ (c : setups.Channel). c.name)) (seen_push verdict tables ps p));
    sources = subst (λ (l : List Src). Pairs IsSource 0 (map (protocol_seen verdict) (ps ++ p ∷ [])) l) (sym (ap (λ (v : Vec Src Global). v.items) sources ∙ adds.sources))
        (subst (λ (l : List setup.Protocol). Pairs IsSource 0 l (old.sources.items ++ adds.src ∷ [])) (sym (map_push (protocol_seen verdict) ps p))
        (pairs_push IsSource 0 (map (protocol_seen verdict) ps) old.sources.items (protocol_seen verdict p) adds.src is.sources
        (subst (λ n. IsSource n (protocol_seen verdict p) adds.src) (place ∙ (let e : length ps ≡ 0 + length (map (protocol_seen verdict) ps) = omega (arith, length-map ps (protocol_seen verdict)) in e)) adds.source)));
  } where
    place : number ≡ length ps
    place = at ∙ ap length is.names ∙ length-map ps (λ (q : ProtocolParts J). q.name)

    zero_on : 0 + length ps ≡ length ps
    zero_on = omega arith

    whole_of : List (ProtocolParts J) → List setups.Channel
    whole_of l = seen_in verdict tables l

    before : (k : ℕ) → k ≤ length ps → channels_before verdict tables (ps ++ p ∷ []) k ≡ channels_before verdict tables ps k
    before k le = ap whole_of (take_front k ps (p ∷ []) le)

    seen_old : length (seen_in verdict tables ps) ≡ length old.channels.items
    seen_old = pairs_length (IsNewChannel verdict passed) 0 (seen_in verdict tables ps) old.channels.items is.channels

    here : Pairs (IsNewChannel verdict passed) 0 (seen_in verdict tables (ps ++ p ∷ [])) (old.channels.items ++ adds.added)
    here = subst (λ (l : List setups.Channel). Pairs (IsNewChannel verdict passed) 0 l (old.channels.items ++ adds.added)) (sym (seen_push verdict tables ps p))
        (pairs_join (IsNewChannel verdict passed) 0 (seen_in verdict tables ps) (of_parts verdict tables (length ps) p) old.channels.items adds.added is.channels
        (subst (λ n. Pairs (IsNewChannel verdict passed) n (of_parts verdict tables (length ps) p) adds.added) (let e : length old.channels.items ≡ 0 + length old.channels.items = omega arith in e)
        (subst (λ n. Pairs (IsNewChannel verdict passed) (length old.channels.items) (of_parts verdict tables n p) adds.added) place adds.are)))

    seen_new : length (seen_in verdict tables (ps ++ p ∷ [])) ≡ length mid.channels.items
    seen_new = pairs_length (IsNewChannel verdict passed) 0 (seen_in verdict tables (ps ++ p ∷ [])) (old.channels.items ++ adds.added) here ∙ sym (ap length adds.channels)

  pub made_none : (made : Made J) → made.names.items ≡ [] → made.protocols.items ≡ [] → made.channels.items ≡ [] → made.channel_names.items ≡ [] → made.sources.items ≡ [] → IsMade verdict tables passed [] made
  made_none made names protocols channels channel_names sources = record {
    names = names;
    bodies = subst (λ (l : List (Protocol J)). Pairs (IsMadeProtocol verdict tables []) 0 [] l) (sym protocols) tt;
    channels = subst (λ (l : List (Channel J)). Pairs (IsNewChannel verdict passed) 0 [] l) (sym channels) tt;
    channel_names = channel_names;
    sources = subst (λ (l : List Src). Pairs IsSource 0 [] l) (sym sources) tt;
  }

  pub adds_all : (number : ℕ) (name : List ℕ) (p : BodyParts J) (old mid new : Made J) (held : Protocol J) (src : Src) (body : Body J)
      → AddsChannels verdict passed (channels_in tables number name (body_seen verdict p)) old mid
      → new.names ≡ mid.names → new.channels ≡ mid.channels → new.channel_names ≡ mid.channel_names → new.sources.items ≡ mid.sources.items ++ src ∷ [] → src ≡ src_in number (body_seen verdict p)
      → new.protocols.items ≡ mid.protocols.items ++ held ∷ [] → held.body ≡ body → IsMadeBody verdict p body → held.from ≡ length old.channels.items → held.upto ≡ length mid.channels.items → held.done.items ≡ []
      → Adds verdict tables passed number name p old new
  adds_all number name p old mid new held src body adds names channels channel_names sources source protocols same is from upto done = record {
    names = names ∙ adds.names;
    held = held;
    protocols = protocols ∙ ap (λ (v : Vec (Protocol J) Global). v.items ++ held ∷ []) adds.protocols;
    body = subst (IsMadeBody verdict p) (sym same) is;
    from = from;
    upto = upto ∙ ap (λ (v : Vec (Channel J) Global). length v.items) (sym channels);
    done = done;
    added = adds.added;
    channels = ap (λ (v : Vec (Channel J) Global). v.items) channels ∙ adds.channels;
    are = adds.are;
    channel_names = ap (λ (v : Vec (List ℕ) Global). v.items) channel_names ∙ adds.channel_names;
    src = src;
    sources = sources ∙ ap (λ (v : Vec Src Global). v.items ++ src ∷ []) adds.sources;
    source = source;
  }

  pub left_more : (from upto : ℕ) (held : List (Vec ℕ Global)) → from ≤ upto → Left from held passed → Left upto held passed
  left_more from upto held le left = λ c w. left c (omega (arith, le, w))

  -- an exporter that has sent nothing
  abbrev pub new_exporter : ExportSpec → J → Exporter J
  new_exporter spec judge = record {
    spec = spec;
    judge = judge;
    position = 0;
    floors = [];
    feed = Done;
    refreshing = false;
    marks = [];
    log = [];
    flushing = false;
    left = [];
  }

  abbrev pub new_held : ℕ → Option ℕ → Exporter J → Channel J
  new_held table target e = record { table = table; target = target; exporter = e; cursor = None }

  pub session_new : (c number : ℕ) (name : List ℕ) (table : ℕ) (x : ExportParts J) (e : Exporter J) → e ≡ new_exporter x.spec x.judge
      → IsNewChannel verdict passed c (record { name = name; owner = number; reads = table; target = None; exports = exports_seen verdict x }) (new_held table None e)
  session_new c number name table x e is = record {
    table = refl;
    target = refl;
    cursor = refl;
    spec = ap (λ (f : Exporter J). f.spec) is;
    filter = ap (λ (f : Exporter J). verdict f.judge) is;
    position = ap (λ (f : Exporter J). f.position) is;
    floors = ap (λ (f : Exporter J). f.floors) is;
    feed = ap (λ (f : Exporter J). f.feed) is;
    marks = ap (λ (f : Exporter J). f.marks) is;
    log = ap (λ (f : Exporter J). f.log) is;
    rest = ap (λ (f : Exporter J). f.flushing) is;
  }

  abbrev pub gate_with : Family → ℕ → List ℕ → ExportSpec
  gate_with family number l = record { family = family; own = number; to_ebgp = false; interpret = false; every = true; sources = l }

  pub direction_new : (c number : ℕ) (name way : List ℕ) (reads writes : ℕ) (judge : J) (gate : ExportSpec) (family : Family) (l : List ℕ) (e : Exporter J) → e ≡ new_exporter gate judge → gate ≡ gate_with family number l
      → family ≡ family_or_first (family_at tables reads) → l ≡ passed c
      → IsNewChannel verdict passed c (direction tables number name way reads writes (verdict judge)) (new_held reads (Some writes) e)
  direction_new c number name way reads writes judge gate family l e is gated of list = record {
    table = refl;
    target = refl;
    cursor = refl;
    spec = ap (λ (f : Exporter J). f.spec) is ∙ gated ∙ ap (λ f. gate_with f number l) of ∙ ap (gate_with (family_or_first (family_at tables reads)) number) list;
    filter = ap (λ (f : Exporter J). verdict f.judge) is;
    position = ap (λ (f : Exporter J). f.position) is;
    floors = ap (λ (f : Exporter J). f.floors) is;
    feed = ap (λ (f : Exporter J). f.feed) is;
    marks = ap (λ (f : Exporter J). f.marks) is;
    log = ap (λ (f : Exporter J). f.log) is;
    rest = ap (λ (f : Exporter J). f.flushing) is;
  }

  pub added_many : (seen : List setups.Channel) (old new : Made J) → AddsChannels verdict passed seen old new → length new.channels.items ≡ length old.channels.items + length seen
  added_many seen old new adds =
      let whole = ap length adds.channels ∙ length-append old.channels.items adds.added in
      let same = pairs_length (IsNewChannel verdict passed) (length old.channels.items) seen adds.added adds.are in
      omega (arith, whole, same)

  pub adds_grows : (number : ℕ) (name : List ℕ) (p : BodyParts J) (old new : Made J) → Adds verdict tables passed number name p old new → length old.channels.items ≤ length new.channels.items
  adds_grows number name p old new adds =
      let whole = ap length adds.channels ∙ length-append old.channels.items adds.added in
      omega (arith, whole)
