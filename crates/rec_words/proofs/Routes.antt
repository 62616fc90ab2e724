-- Routes in words.
use Rattle.std.proofs.Common.{◌≡◌, ℕ, ◌<◌, ◌≤◌, ◌^◌, Bool, true, false, ◌==◌, ltb, List, [], ◌∷◌, ◌++◌, length, map, take, drop, Option, Some, None, refl, sym, ap, subst, ◌∙◌, append_assoc, arith}
use Rattle.std.specs.Prelude.{IfSome, slice_index}
use Rattle.std.proofs.lemmas.Bool.{eqb-true, ltb-false, le-ltb}
use Rattle.std.proofs.lemmas.List.{append_cancel_right, append-nil, take-append-drop}
use Rattle.std.specs.Option.{is_some}
use Rattle.attrs.specs.declared.route.Route.{Route}
use Rattle.rec_words.specs.declared.parts.Head.{Head}
use Rattle.rec_words.specs.declared.parts.Ways.{Ways}
use Rattle.rec_words.specs.Spelling.{addr_words, head_words, joined, number_words, optional_route_words, or_zero, pair_number, route_words, shape_word}
use Rattle.rec_words.specs.Entries.{IsAddr, IsNumber, IsPath, IsRoute}
use Rattle.rec_words.specs.Reading.{◌>>=◌, addr_at, coms_at, head_at, head_in, high_half, low_half, numbers_at, optional_at, optional_route_at, pair_of, path_at, route_at, route_of, shape_at, shape_of, ways_at, word_of}
use Rattle.rec_words.proofs.Takes.{IsWords, IsWords-drop, IsWords-take, bind_some, guard_some, unless_some, some_is, Takes, Takes-then}
use Rattle.rec_words.proofs.Halves.{high_back, high_small, joined_back, low_back, low_small, numbers_again, numbers_takes}
use Rattle.rec_words.proofs.Communities.{coms_again, coms_takes, pairs_back}
use Rattle.rec_words.proofs.Shapes.{shape_again, shape_takes}
use Rattle.rec_words.proofs.Addresses.{addr_again, addr_takes}

optional_again : (number : Option ℕ) → optional_at (is_some number) (or_zero number) ≡ Some number
optional_again None = refl
optional_again (Some n) = refl

record IsOptional (there : Bool) (n : ℕ) (number : Option ℕ) : Type 0 where
  pub there_is : is_some number ≡ there
  pub zero_or : or_zero number ≡ n
  pub small : IfSome number IsNumber

optional_takes : (there : Bool) (n : ℕ) (number : Option ℕ) → n < 2 ^ 32 → optional_at there n ≡ Some number → IsOptional there n number
optional_takes true n number small e = subst (λ (o : Option ℕ). IsOptional true n o) (some_is (Some n) number e) (record { there_is = refl; zero_or = refl; small = small })
optional_takes false n number small e =
    let g = guard_some (n == 0) (Some None) number e in
    subst (λ (o : Option ℕ). IsOptional false n o) (some_is None number g.1) (record { there_is = refl; zero_or = sym (eqb-true n 0 g.0); small = tt })

-- what the first five words of a route hold
abbrev pub head_of : Route → Head
head_of r = record {
  src = r.src;
  pref = r.attrs.pref;
  shape = shape_of r.attrs;
  peer_id = r.attrs.peer_id;
  med = r.attrs.med;
  lp = r.attrs.lp;
  igp = r.attrs.igp;
}

zero_small : (number : Option ℕ) → IfSome number IsNumber → or_zero number < 2 ^ 32
zero_small None is = omega arith
zero_small (Some n) is = is

head_in_again : (r : Route) → IsRoute r → head_in (head_words r) ≡ Some (head_of r)
unfolding head_in
head_in_again r is =
    let med = zero_small r.attrs.med is.numbers.med in
    let lp = zero_small r.attrs.lp is.numbers.lp in
    let shape : shape_at (shape_word r.attrs) ≡ Some (shape_of r.attrs) = shape_again (shape_of r.attrs) (omega (arith, is.path.short)) (omega (arith, is.coms.list.short)) in
    rw (
      shape,
      low_back r.src.num r.src.def_med is.numbers.src.num,
      high_back r.src.num r.src.def_med is.numbers.src.num,
      low_back r.src.def_lp r.attrs.pref is.numbers.src.def_lp,
      high_back r.src.def_lp r.attrs.pref is.numbers.src.def_lp,
      low_back r.attrs.peer_id (or_zero r.attrs.med) is.numbers.peer_id,
      high_back r.attrs.peer_id (or_zero r.attrs.med) is.numbers.peer_id,
      low_back (or_zero r.attrs.lp) (or_zero r.attrs.igp) lp,
      high_back (or_zero r.attrs.lp) (or_zero r.attrs.igp) lp,
      optional_again r.attrs.med,
      optional_again r.attrs.lp,
      optional_again r.attrs.igp,
    )
    refl

head_again : (r : Route) (rest : List ℕ) → IsRoute r → head_at (head_words r ++ rest) ≡ Some (head_of r, rest)
unfolding head_at
head_again r rest is =
    let long : ltb (length (head_words r ++ rest)) 5 ≡ false = le-ltb _ _ (omega arith) in
    rw (long, head_in_again r is) refl

abbrev words_of : Head → List ℕ
words_of h =
    joined h.src.num h.src.def_med ∷ joined h.src.def_lp h.pref ∷ word_of h.shape ∷ joined h.peer_id (or_zero h.med) ∷ joined (or_zero h.lp) (or_zero h.igp) ∷ []

record IsHead (h : Head) : Type 0 where
  pub num : IsNumber h.src.num
  pub def_med : IsNumber h.src.def_med
  pub def_lp : IsNumber h.src.def_lp
  pub pref_small : IsNumber h.pref
  pub peer_small : IsNumber h.peer_id
  pub med_is : is_some h.med ≡ h.shape.has_med
  pub lp_is : is_some h.lp ≡ h.shape.has_lp
  pub igp_is : is_some h.igp ≡ h.shape.has_igp
  pub med_small : IfSome h.med IsNumber
  pub lp_small : IfSome h.lp IsNumber
  pub igp_small : IfSome h.igp IsNumber

abbrev pub five : (a b c d e : ℕ) → List ℕ
five a b c d e = a ∷ b ∷ c ∷ d ∷ e ∷ []

pub five_words : (ws : List ℕ) → 5 ≤ length ws → take 5 ws ≡ five (slice_index ws 0) (slice_index ws 1) (slice_index ws 2) (slice_index ws 3) (slice_index ws 4)
five_words [] long = absurd (omega (arith, long))
five_words (a ∷ []) long = absurd (omega (arith, long))
five_words (a ∷ b ∷ []) long = absurd (omega (arith, long))
five_words (a ∷ b ∷ c ∷ []) long = absurd (omega (arith, long))
five_words (a ∷ b ∷ c ∷ d ∷ []) long = absurd (omega (arith, long))
five_words (a ∷ b ∷ c ∷ d ∷ e ∷ ws) long = refl

head_in_takes : (a b c d e : ℕ) (h : Head) → IsWords (five a b c d e) → head_in (five a b c d e) ≡ Some h → (five a b c d e ≡ words_of h) × IsHead h
unfolding head_in
head_in_takes a b c d e h fits read =
    let s = bind_some (shape_at c) (λ shape. optional_at shape.has_med (high_half d) >>= λ med. optional_at shape.has_lp (low_half e) >>= λ lp. optional_at shape.has_igp (high_half e) >>= λ igp. Some record { src = record { num = low_half a; def_med = high_half a; def_lp = low_half b }; pref = high_half b; shape = shape; peer_id = low_half d; med = med; lp = lp; igp = igp }) h read in
    let shape = s.0 in
    let m = bind_some (optional_at shape.has_med (high_half d)) (λ med. optional_at shape.has_lp (low_half e) >>= λ lp. optional_at shape.has_igp (high_half e) >>= λ igp. Some record { src = record { num = low_half a; def_med = high_half a; def_lp = low_half b }; pref = high_half b; shape = shape; peer_id = low_half d; med = med; lp = lp; igp = igp }) h s.2 in
    let l = bind_some (optional_at shape.has_lp (low_half e)) (λ lp. optional_at shape.has_igp (high_half e) >>= λ igp. Some record { src = record { num = low_half a; def_med = high_half a; def_lp = low_half b }; pref = high_half b; shape = shape; peer_id = low_half d; med = m.0; lp = lp; igp = igp }) h m.2 in
    let g = bind_some (optional_at shape.has_igp (high_half e)) (λ igp. Some record { src = record { num = low_half a; def_med = high_half a; def_lp = low_half b }; pref = high_half b; shape = shape; peer_id = low_half d; med = m.0; lp = l.0; igp = igp }) h l.2 in
    let made : Head = record { src = record { num = low_half a; def_med = high_half a; def_lp = low_half b }; pref = high_half b; shape = shape; peer_id = low_half d; med = m.0; lp = l.0; igp = g.0 } in
    let med = optional_takes shape.has_med (high_half d) m.0 (high_small d (fits 3)) m.1 in
    let lp = optional_takes shape.has_lp (low_half e) l.0 (low_small e) l.1 in
    let igp = optional_takes shape.has_igp (high_half e) g.0 (high_small e (fits 4)) g.1 in
    let one : joined (low_half a) (high_half a) ≡ a = joined_back a in
    let two : joined (low_half b) (high_half b) ≡ b = joined_back b in
    let three : word_of shape ≡ c = sym (shape_takes c shape s.1) in
    let four : joined (low_half d) (or_zero m.0) ≡ d = ap (λ (n : ℕ). joined (low_half d) n) med.zero_or ∙ joined_back d in
    let last : joined (or_zero l.0) (or_zero g.0) ≡ e = ap (λ (n : ℕ). joined n (or_zero g.0)) lp.zero_or ∙ ap (λ (n : ℕ). joined (low_half e) n) igp.zero_or ∙ joined_back e in
    let words : five a b c d e ≡ words_of made = λ i. five (sym one i) (sym two i) (sym three i) (sym four i) (sym last i) in
    subst
    (λ (x : Head). (five a b c d e ≡ words_of x) × IsHead x)
    (some_is made h g.2) (
      words,
      record {
        num = low_small a;
        def_med = high_small a (fits 0);
        def_lp = low_small b;
        pref_small = high_small b (fits 1);
        peer_small = low_small d;
        med_is = med.there_is;
        lp_is = lp.there_is;
        igp_is = igp.there_is;
        med_small = med.small;
        lp_small = lp.small;
        igp_small = igp.small;
      },
    )

head_takes : (ws : List ℕ) (h : Head) (rest : List ℕ) → IsWords ws → head_at ws ≡ Some (h, rest) → Takes ws (words_of h) rest × IsHead h
unfolding head_at
head_takes ws h rest fits read =
    let g = unless_some (ltb (length ws) 5) (head_in (take 5 ws) >>= λ head. Some (head, drop 5 ws)) (h, rest) read in
    let b = bind_some (head_in (take 5 ws)) (λ head. Some (head, drop 5 ws)) (h, rest) g.1 in
    let cut = five_words ws (ltb-false _ _ g.0) in
    let front_fits : IsWords (five (slice_index ws 0) (slice_index ws 1) (slice_index ws 2) (slice_index ws 3) (slice_index ws 4)) = subst IsWords cut (IsWords-take 5 ws fits) in
    let front = head_in_takes (slice_index ws 0) (slice_index ws 1) (slice_index ws 2) (slice_index ws 3) (slice_index ws 4) b.0 front_fits (ap head_in (sym cut) ∙ b.1) in
    let parts : ws ≡ words_of b.0 ++ drop 5 ws = sym (take-append-drop 5 ws) ∙ ap (λ (t : List ℕ). t ++ drop 5 ws) (cut ∙ front.0) in
    subst (λ (x : Head × List ℕ). Takes ws (words_of x.0) x.1 × IsHead x.0) (some_is (b.0, drop 5 ws) (h, rest) b.2) (record { parts = parts; rest_fits = IsWords-drop 5 ws fits }, front.1)

-- addresses

abbrev ways_words : Ways → List ℕ
ways_words ways = addr_words ways.gw ++ addr_words ways.sender ++ addr_words ways.next_hop

record AreWays (ways : Ways) : Type 0 where
  pub first : IfSome ways.gw IsAddr
  pub second : IfSome ways.sender IsAddr
  pub third : IfSome ways.next_hop IsAddr

ways_again : (ways : Ways) (rest : List ℕ) → AreWays ways → ways_at (addr_words ways.gw ++ (addr_words ways.sender ++ (addr_words ways.next_hop ++ rest))) ≡ Some (ways, rest)
unfolding ways_at
ways_again ways rest are =
    rw (addr_again ways.gw (addr_words ways.sender ++ (addr_words ways.next_hop ++ rest)) are.first, addr_again ways.sender (addr_words ways.next_hop ++ rest) are.second, addr_again ways.next_hop rest are.third) refl

ways_takes : (ws : List ℕ) (ways : Ways) (rest : List ℕ) → IsWords ws → ways_at ws ≡ Some (ways, rest) → Takes ws (ways_words ways) rest × AreWays ways
unfolding ways_at
ways_takes ws ways rest fits read =
    let g = bind_some (addr_at ws) (λ gw. addr_at gw.1 >>= λ sender. addr_at sender.1 >>= λ next_hop. Some (record { gw = gw.0; sender = sender.0; next_hop = next_hop.0 }, next_hop.1)) (ways, rest) read in
    let s = bind_some (addr_at g.0.1) (λ sender. addr_at sender.1 >>= λ next_hop. Some (record { gw = g.0.0; sender = sender.0; next_hop = next_hop.0 }, next_hop.1)) (ways, rest) g.2 in
    let n = bind_some (addr_at s.0.1) (λ next_hop. Some (record { gw = g.0.0; sender = s.0.0; next_hop = next_hop.0 }, next_hop.1)) (ways, rest) s.2 in
    let one = addr_takes ws g.0.0 g.0.1 fits g.1 in
    let two = addr_takes g.0.1 s.0.0 s.0.1 one.0.rest_fits s.1 in
    let three = addr_takes s.0.1 n.0.0 n.0.1 two.0.rest_fits n.1 in
    let made : Ways = record { gw = g.0.0; sender = s.0.0; next_hop = n.0.0 } in
    subst
    (λ (x : Ways × List ℕ). Takes ws (ways_words x.0) x.1 × AreWays x.0)
    (some_is (made, n.0.1) (ways, rest) n.2)
    (Takes-then ws (addr_words g.0.0 ++ addr_words s.0.0) s.0.1 (addr_words n.0.0) n.0.1 (Takes-then ws (addr_words g.0.0) g.0.1 (addr_words s.0.0) s.0.1 one.0 two.0) three.0, record { first = one.1; second = two.1; third = three.1 })

-- paths

path_again : (path rest : List ℕ) → IsPath path → path_at (length path) (number_words path ++ rest) ≡ Some (path, rest)
unfolding path_at
path_again path rest is =
    let few : ltb 120 (length path) ≡ false = le-ltb _ _ is.short in
    rw (few, numbers_again path rest is.numbers) refl

path_takes : (count : ℕ) (ws path rest : List ℕ) → IsWords ws → path_at count ws ≡ Some (path, rest) → Takes ws (number_words path) rest × (length path ≡ count) × IsPath path
unfolding path_at
path_takes count ws path rest fits read =
    let g = unless_some (ltb 120 count) (numbers_at count ws) (path, rest) read in
    let t = numbers_takes count ws path rest fits g.1 in
    (t.0, t.1.many, record { short = omega (arith, t.1.many, ltb-false _ _ g.0); numbers = t.1.fit })

-- routes

regroup : (h a b c p q rest : List ℕ) → h ++ a ++ b ++ c ++ p ++ q ++ rest ≡ h ++ (a ++ (b ++ (c ++ (p ++ (q ++ rest)))))
regroup h a b c p q rest =
    append_assoc (h ++ a ++ b ++ c ++ p) q rest ∙ append_assoc (h ++ a ++ b ++ c) p (q ++ rest) ∙ append_assoc (h ++ a ++ b) c (p ++ (q ++ rest))
    ∙ append_assoc (h ++ a) b (c ++ (p ++ (q ++ rest))) ∙ append_assoc h a (b ++ (c ++ (p ++ (q ++ rest))))

pub route_again : (r : Route) (rest : List ℕ) → IsRoute r → route_at (route_words r ++ rest) ≡ Some (r, rest)
unfolding route_at route_words
route_again r rest is =
    let path = r.attrs.path in
    let coms = map pair_number r.attrs.coms in
    let ways : Ways = record { gw = r.attrs.gw; sender = r.attrs.sender; next_hop = r.attrs.next_hop } in
    let after_ways = number_words path ++ (number_words coms ++ rest) in
    let after_head = addr_words r.attrs.gw ++ (addr_words r.attrs.sender ++ (addr_words r.attrs.next_hop ++ after_ways)) in
    let are : AreWays ways = record { first = is.addrs.gw; second = is.addrs.sender; third = is.addrs.next_hop } in
    let whole = regroup (head_words r) (addr_words r.attrs.gw) (addr_words r.attrs.sender) (addr_words r.attrs.next_hop) (number_words path) (number_words coms) rest in
    let made : Some (route_of (head_of r) ways path coms, rest) ≡ Some (r, rest) = ap (λ (cs : List (ℕ × ℕ)). Some (record r { attrs = record r.attrs { coms = cs } }, rest)) (pairs_back r.attrs.coms is.coms.pairs) in
    ap route_at whole ∙ rw (head_again r after_head is, ways_again ways after_ways are, path_again path (number_words coms ++ rest) is.path, coms_again r.attrs.coms rest is.coms) made

shape_is : (h : Head) (ways : Ways) (path ns : List ℕ) → IsHead h → length path ≡ h.shape.path_len → length (map pair_of ns) ≡ h.shape.com_len → shape_word (route_of h ways path ns).attrs ≡ word_of h.shape
shape_is h ways path ns is long many = rw (is.med_is, is.lp_is, is.igp_is, long, many) refl

pub route_takes : (ws : List ℕ) (r : Route) (rest : List ℕ) → IsWords ws → route_at ws ≡ Some (r, rest) → Takes ws (route_words r) rest × IsRoute r
unfolding route_at route_words
route_takes ws r rest fits read =
    let h = bind_some (head_at ws) (λ head. ways_at head.1 >>= λ ways. path_at head.0.shape.path_len ways.1 >>= λ path. coms_at head.0.shape.com_len path.1 >>= λ coms. Some (route_of head.0 ways.0 path.0 coms.0, coms.1)) (r, rest) read in
    let w = bind_some (ways_at h.0.1) (λ ways. path_at h.0.0.shape.path_len ways.1 >>= λ path. coms_at h.0.0.shape.com_len path.1 >>= λ coms. Some (route_of h.0.0 ways.0 path.0 coms.0, coms.1)) (r, rest) h.2 in
    let p = bind_some (path_at h.0.0.shape.path_len w.0.1) (λ path. coms_at h.0.0.shape.com_len path.1 >>= λ coms. Some (route_of h.0.0 w.0.0 path.0 coms.0, coms.1)) (r, rest) w.2 in
    let c = bind_some (coms_at h.0.0.shape.com_len p.0.1) (λ coms. Some (route_of h.0.0 w.0.0 p.0.0 coms.0, coms.1)) (r, rest) p.2 in
    let head = head_takes ws h.0.0 h.0.1 fits h.1 in
    let ways = ways_takes h.0.1 w.0.0 w.0.1 head.0.rest_fits w.1 in
    let path = path_takes h.0.0.shape.path_len w.0.1 p.0.0 p.0.1 ways.0.rest_fits p.1 in
    let coms = coms_takes h.0.0.shape.com_len p.0.1 c.0.0 c.0.1 path.0.rest_fits c.1 in
    let made = route_of h.0.0 w.0.0 p.0.0 c.0.0 in
    let shape = shape_is h.0.0 w.0.0 p.0.0 c.0.0 head.1 path.1 coms.1.many in
    let hw = words_of h.0.0 in
    let g = addr_words w.0.0.gw in
    let s = addr_words w.0.0.sender in
    let n = addr_words w.0.0.next_hop in
    let pw = number_words p.0.0 in
    let cw = number_words (map pair_number (map pair_of c.0.0)) in
    let first : Takes ws (hw ++ (g ++ s ++ n)) w.0.1 = Takes-then ws hw h.0.1 (g ++ s ++ n) w.0.1 head.0 ways.0 in
    let second : Takes ws (hw ++ (g ++ s ++ n) ++ pw) p.0.1 = Takes-then ws (hw ++ (g ++ s ++ n)) w.0.1 pw p.0.1 first path.0 in
    let third : Takes ws (hw ++ (g ++ s ++ n) ++ pw ++ cw) c.0.1 = Takes-then ws (hw ++ (g ++ s ++ n) ++ pw) p.0.1 cw c.0.1 second coms.0 in
    let flat : hw ++ (g ++ s ++ n) ≡ hw ++ g ++ s ++ n = sym (append_assoc hw (g ++ s) n) ∙ ap (λ (t : List ℕ). t ++ n) (sym (append_assoc hw g s)) in
    let spelled : hw ++ (g ++ s ++ n) ++ pw ++ cw ≡ route_words made = ap (λ (t : List ℕ). t ++ pw ++ cw) flat ∙ ap (λ (c : ℕ). five (joined h.0.0.src.num h.0.0.src.def_med) (joined h.0.0.src.def_lp h.0.0.pref) c (joined h.0.0.peer_id (or_zero h.0.0.med)) (joined (or_zero h.0.0.lp) (or_zero h.0.0.igp)) ++ g ++ s ++ n ++ pw ++ cw) (sym shape) in
    let is : IsRoute made = record {
      numbers = record { src = record { num = head.1.num; def_med = head.1.def_med; def_lp = head.1.def_lp }; pref = head.1.pref_small; peer_id = head.1.peer_small; med = head.1.med_small; lp = head.1.lp_small; igp = head.1.igp_small };
      addrs = record { gw = ways.1.first; sender = ways.1.second; next_hop = ways.1.third };
      path = path.2;
      coms = coms.1.are;
    } in
    subst
    (λ (x : Route × List ℕ). Takes ws (route_words x.0) x.1 × IsRoute x.0)
    (some_is (made, c.0.1) (r, rest) c.2)
    (subst (λ (t : List ℕ). Takes ws t c.0.1) spelled third, is)

pub optional_route_again : (r : Option Route) (rest : List ℕ) → IfSome r IsRoute → optional_route_at (is_some r) (optional_route_words r ++ rest) ≡ Some (r, rest)
unfolding optional_route_at
optional_route_again None rest is = refl
optional_route_again (Some r) rest is = rw (route_again r rest is) refl

pub optional_route_takes : (there : Bool) (ws : List ℕ) (r : Option Route) (rest : List ℕ) → IsWords ws → optional_route_at there ws ≡ Some (r, rest) → Takes ws (optional_route_words r) rest × (is_some r ≡ there) × IfSome r IsRoute
unfolding optional_route_at
optional_route_takes false ws r rest fits read =
    subst (λ (x : Option Route × List ℕ). Takes ws (optional_route_words x.0) x.1 × (is_some x.0 ≡ false) × IfSome x.0 IsRoute) (some_is (None, ws) (r, rest) read) (record { parts = refl; rest_fits = fits }, refl, tt)
optional_route_takes true ws r rest fits read =
    let b = bind_some (route_at ws) (λ route. Some (Some route.0, route.1)) (r, rest) read in
    let t = route_takes ws b.0.0 b.0.1 fits b.1 in
    subst
    (λ (x : Option Route × List ℕ). Takes ws (optional_route_words x.0) x.1 × (is_some x.0 ≡ true) × IfSome x.0 IsRoute)
    (some_is (Some b.0.0, b.0.1) (r, rest) b.2)
    (t.0, refl, t.1)

-- the same words twice say the same of both routes
same_routes : (ws : List ℕ) (a b : Option Route) → IsWords (ws ++ ws) → optional_route_at true (ws ++ ws) ≡ Some (a, ws) → optional_route_at true ws ≡ Some (b, []) → a ≡ b
same_routes ws a b fits first second =
    let one = optional_route_takes true (ws ++ ws) a ws fits first in
    let of_one : optional_route_words a ≡ ws = sym (append_cancel_right ws (optional_route_words a) ws one.0.parts) in
    let again : optional_route_at (is_some a) (optional_route_words a ++ []) ≡ Some (a, []) = optional_route_again a [] one.2 in
    let read : optional_route_at true ws ≡ Some (a, []) =
    subst (λ (there : Bool). optional_route_at there ws ≡ Some (a, [])) one.1 (subst (λ (xs : List ℕ). optional_route_at (is_some a) xs ≡ Some (a, [])) (append-nil (optional_route_words a) ∙ of_one) again) in
    ap (λ (x : Option Route × List ℕ). x.0) (some_is (a, []) (b, []) (sym read ∙ second))

pub told_once : (has_new has_best : Bool) (ws behind end : List ℕ) (new best : Option Route) → IsWords ws → optional_route_at has_new ws ≡ Some (new, behind) → optional_route_at has_best behind ≡ Some (best, end) → end ≡ [] → has_new ≡ true → has_best ≡ true → ws ≡ behind ++ behind → new ≡ best
told_once has_new has_best ws behind end new best fits first second none is_new is_best twice =
    same_routes behind new best (subst IsWords twice fits)
    (subst (λ (there : Bool). optional_route_at there (behind ++ behind) ≡ Some (new, behind)) is_new (subst (λ (xs : List ℕ). optional_route_at has_new xs ≡ Some (new, behind)) twice first))
    (subst (λ (there : Bool). optional_route_at there behind ≡ Some (best, [])) is_best (subst (λ (xs : List ℕ). optional_route_at has_best behind ≡ Some (best, xs)) none second))
