-- An entry in words, worked by hand: 10.0.0.0/8 is a black hole by the static protocol of number 0,
-- and this is the best route. Its shape is 16, a static route with the destination 1, and its
-- preference 200 stands in the high half. Not modelled: nothing. From: worked by hand from this
-- project's own format.
use Rattle.std.specs.Prelude.{ℕ, false, List, [], ◌∷◌, Some, None}
use Rattle.bits_ip.specs.declared.address.Addr.TheVariants.{V4}
use Rattle.attrs.specs.declared.attributes.Kind.TheVariants.{Static}
use Rattle.attrs.specs.declared.attributes.Dest.TheVariants.{Blackhole}
use Rattle.attrs.specs.declared.route.Route.{Route}
use Rattle.attrs.specs.declared.journal.JEntry.{JEntry}

abbrev pub black_hole : Route
black_hole = record {
  src = record { num = 0; def_med = 0; def_lp = 0 };
  attrs = record {
    pref = 200;
    kind = Static;
    dest = Blackhole;
    gw = None;
    sender = None;
    peer_id = 0;
    ebgp = false;
    path = [];
    origin = None;
    next_hop = None;
    med = None;
    lp = None;
    igp = None;
    coms = [];
  };
}

abbrev pub worked : JEntry
worked = record {
  net = record { addr = V4 167772160; len = 8 };
  num = 0;
  new = Some black_hole;
  best = Some black_hole;
}

abbrev pub worked_words : List ℕ
worked_words =
    196629 ∷ 1032 ∷ 0 ∷ 167772160 ∷ 0
    ∷ 0 ∷ 858993459200 ∷ 16 ∷ 0 ∷ 0 ∷ 0 ∷ 0 ∷ 0
    ∷ 0 ∷ 858993459200 ∷ 16 ∷ 0 ∷ 0 ∷ 0 ∷ 0 ∷ 0 ∷ []
