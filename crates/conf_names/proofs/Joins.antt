-- What pipes join: regions of tables, and what follows of the definition.
use Rattle.std.proofs.Common.{◌≡◌, ℕ, zero, suc, ◌+◌, ◌-◌, ◌==◌, ◌<◌, ◌≤◌, Bool, true, false, not, ◌&&◌, ◌||◌, if◌then◌else◌, List, [], ◌∷◌, ◌++◌, length, get_or, take, drop, refl, sym, ap, ◌∙◌, subst, arith, true≢false, append_assoc, append-nil, below_more}
use Rattle.std.proofs.lemmas.List.{get_or_append_left, get_or_push, length-append, take_all, take_more}
use Rattle.std.specs.Prelude.{⊤}
use Rattle.std.specs.List.{All}
use Rattle.std.proofs.lemmas.Bool.{eq-eqb, eqb-true}
use Rattle.std.proofs.lemmas.Grind.{get_or_default_zero}
use Rattle.filt_types.proofs.Lookups.{nothing_left}
use Rattle.conf_names.specs.declared.joints.Joint.{Joint}
use Rattle.conf_names.specs.Joints.{IsBridge, IsForest, IsWithin, JoinsApart, joined}
use Rattle.conf_names.specs.Regions.{AreRegions, region, renamed}

-- ---- truths

or_false : (a : Bool) → (a || false) ≡ a
or_false true = refl
or_false false = refl

and_true : (a : Bool) → (a && true) ≡ a
and_true true = refl
and_true false = refl

and_false : (a : Bool) → (a && false) ≡ false
and_false true = refl
and_false false = refl

same_flip : (a b : ℕ) → (a == b) ≡ (b == a)
same_flip a b = by (a == b) (b == a) refl refl
  where
    by : (x y : Bool) → (a == b) ≡ x → (b == a) ≡ y → x ≡ y
    by true true p q = refl
    by false false p q = refl
    by true false p q = sym (eq-eqb b a (sym (eqb-true a b p))) ∙ q
    by false true p q = sym p ∙ eq-eqb a b (sym (eqb-true b a q))

-- ---- regions

-- two tables behind one pipe more
step_by : (a b t p : ℕ) (x y : Bool) → (a == p) ≡ x → (b == p) ≡ y
    → ((if x then t else a) == (if y then t else b)) ≡ ((a == b) || (((a == t) && (p == b)) || (x && (t == b))))
step_by a b t p true true is js = eq-eqb t t refl ∙ sym (ap (λ (z : Bool). z || (((a == t) && (p == b)) || (t == b))) (eq-eqb a b (eqb-true a p is ∙ sym (eqb-true b p js))))
step_by a b t p true false is js =
    let pb : (p == b) ≡ false = same_flip p b ∙ js in
    let ab : (a == b) ≡ false = ap (λ (n : ℕ). n == b) (eqb-true a p is) ∙ pb in
    rw (ab, pb, and_false (a == t)) refl
step_by a b t p false true is js =
    let pb : (p == b) ≡ true = eq-eqb p b (sym (eqb-true b p js)) in
    let ab : (a == b) ≡ false = ap (λ (n : ℕ). a == n) (eqb-true b p js) ∙ is in
    rw (ab, pb, and_true (a == t), or_false (a == t)) refl
step_by a b t p false false is js =
    let pb : (p == b) ≡ false = same_flip p b ∙ js in
    rw (pb, and_false (a == t), or_false (a == b)) refl

-- tables are joined where their regions are one
pub joined_is : (pipes : List Joint) (a b : ℕ) → joined pipes a b ≡ (region pipes a == region pipes b)
unfolding joined region
joined_is [] a b = refl
joined_is (p ∷ pipes) a b =
    rw (joined_is pipes a b, joined_is pipes a p.table, joined_is pipes p.peer b, joined_is pipes a p.peer, joined_is pipes p.table b)
    (sym (step_by (region pipes a) (region pipes b) (region pipes p.table) (region pipes p.peer) (region pipes a == region pipes p.peer) (region pipes b == region pipes p.peer) refl refl))

pub apart_more : (n : ℕ) (old new : List ℕ) → AreRegions [] n old → new ≡ old ++ n ∷ [] → AreRegions [] (n + 1) new
unfolding region
apart_more n old new is push = (
  omega (arith, is.0, length-append old (n ∷ []), ap (λ (l : List ℕ). length l) push),
  λ t lt. ap (λ (l : List ℕ). get_or l t 0) push ∙ below_more (λ (k : ℕ). get_or (old ++ n ∷ []) k 0 ≡ k) n
      (λ k lt. get_or_append_left old (n ∷ []) 0 k (omega (arith, is.0, lt)) ∙ is.1 k lt) (get_or_push old n 0 n is.0) t lt,
)

-- what was written back
written_back : (old new : List ℕ) (n : ℕ) → length new ≡ length old → length old ≡ n → take n (new ++ drop (length new) old) ≡ new
written_back old new n same len =
    ap (λ (l : List ℕ). take n (new ++ l)) (nothing_left old (length new) (omega (arith, same)))
    ∙ ap (λ (l : List ℕ). take n l) (append-nil new) ∙ take_all n new (omega (arith, same, len))

-- the regions behind one pipe more
pub regions_join : (p : Joint) (pipes : List Joint) (n : ℕ) (old new : List ℕ) → AreRegions pipes n old → IsWithin n p → length new ≡ length old
    → ((t : ℕ) → t < length old → get_or new t 0 ≡ renamed (get_or old p.peer 0) (get_or old p.table 0) (get_or old t 0)) → AreRegions (p ∷ pipes) n new
unfolding region
regions_join p pipes n old new is within len by =
    (len ∙ is.0, λ t lt. by t (omega (arith, is.0, lt)) ∙ rw (is.1 p.peer within.1, is.1 p.table within.0, is.1 t lt) refl)

-- the same where the regions were written in place
pub regions_written : (p : Joint) (old new back : List ℕ) (len from to : ℕ) → IsWithin (length old) p → length new ≡ length old → len ≡ length old → back ≡ take len (new ++ drop (length new) old)
    → from ≡ get_or old p.peer 0 → to ≡ get_or old p.table 0 → ((t : ℕ) → t < length old → get_or new t 0 ≡ renamed from to (get_or old t 0))
    → (pipes : List Joint) (n : ℕ) → AreRegions pipes n old → AreRegions (p ∷ pipes) n back
regions_written p old new back len from to within same long is first second by pipes n are =
    subst (λ (l : List ℕ). AreRegions (p ∷ pipes) n l) (sym (is ∙ written_back old new len same (sym long)))
    (regions_join p pipes n old new are (omega (arith, within.0, are.0), omega (arith, within.1, are.0)) same
    (λ t lt. by t lt ∙ ap (λ (x : ℕ). renamed x to (get_or old t 0)) first ∙ ap (λ (x : ℕ). renamed (get_or old p.peer 0) x (get_or old t 0)) second))

pub last_gone : (pipes left gone : List Joint) (d : Joint) → 1 ≤ length left → pipes ≡ left ++ gone → pipes ≡ take (length left - 1) left ++ get_or left (length left - 1) d ∷ gone
last_gone pipes left gone d some is =
    let i = length left - 1 in
    let whole : left ≡ take i left ++ get_or left i d ∷ [] = sym (take_all (i + 1) left (omega arith)) ∙ take_more left i d (omega arith) in
    is ∙ ap (λ (l : List Joint). l ++ gone) whole ∙ append_assoc (take i left) (get_or left i d ∷ []) gone

pub found_joined : (pipes : List Joint) (n : ℕ) (regions : List ℕ) (p : Joint) (a b : ℕ) → AreRegions pipes n regions → IsWithin n p → a ≡ get_or regions p.table a → b ≡ get_or regions p.peer b → (a == b) ≡ joined pipes p.table p.peer
found_joined pipes n regions p a b are within first second =
    ap (λ (x : ℕ). x == b) (first ∙ get_or_default_zero regions p.table a (omega (arith, within.0, are.0)) ∙ are.1 p.table within.0)
    ∙ ap (λ (x : ℕ). region pipes p.table == x) (second ∙ get_or_default_zero regions p.peer b (omega (arith, within.1, are.0)) ∙ are.1 p.peer within.1)
    ∙ sym (joined_is pipes p.table p.peer)

-- ---- what is joined

or_true : (a : Bool) → (a || true) ≡ true
or_true true = refl
or_true false = refl

pub joined_same : (pipes : List Joint) (a : ℕ) → joined pipes a a ≡ true
joined_same pipes a = joined_is pipes a a ∙ eq-eqb (region pipes a) (region pipes a) refl

pub joined_flip : (pipes : List Joint) (a b : ℕ) → joined pipes a b ≡ joined pipes b a
joined_flip pipes a b = joined_is pipes a b ∙ same_flip (region pipes a) (region pipes b) ∙ sym (joined_is pipes b a)

one_region : (pipes : List Joint) (a b : ℕ) → joined pipes a b ≡ true → region pipes a ≡ region pipes b
one_region pipes a b h = eqb-true (region pipes a) (region pipes b) (sym (joined_is pipes a b) ∙ h)

pub joined_on : (pipes : List Joint) (a b c : ℕ) → joined pipes a b ≡ true → joined pipes b c ≡ true → joined pipes a c ≡ true
joined_on pipes a b c h k = joined_is pipes a c ∙ eq-eqb (region pipes a) (region pipes c) (one_region pipes a b h ∙ one_region pipes b c k)

pub each_joined : (front back : List Joint) (p : Joint) → joined (front ++ p ∷ back) p.table p.peer ≡ true
unfolding joined
each_joined [] back p = rw (joined_same back p.table, joined_same back p.peer) (or_true (joined back p.table p.peer))
each_joined (q ∷ front) back p = rw (each_joined front back p) refl

either : (P : Type 0) (x y : Bool) → (x || y) ≡ true → (x ≡ true → P) → (y ≡ true → P) → P
either P true y h first second = first refl
either P false y h first second = second h

both : (P : Type 0) (x y : Bool) → (x && y) ≡ true → (x ≡ true → y ≡ true → P) → P
both P true y h last = last refl h
both P false y h last = absurd (true≢false (sym h))

pub no_more_joined : (pipes : List Joint) (colour : ℕ → ℕ) → All (λ (p : Joint). colour p.table ≡ colour p.peer) pipes → (a b : ℕ) → joined pipes a b ≡ true → colour a ≡ colour b
unfolding joined
no_more_joined [] colour keeps a b h = ap colour (eqb-true a b h)
no_more_joined (p ∷ pipes) colour keeps a b h =
    let one : colour p.table ≡ colour p.peer = keeps zero p (omega arith) in
    let same : (c d : ℕ) → joined pipes c d ≡ true → colour c ≡ colour d = no_more_joined pipes colour (λ k d lt. keeps (suc k) d (omega (arith, lt))) in
    either (colour a ≡ colour b) (joined pipes a b) ((joined pipes a p.table && joined pipes p.peer b) || (joined pipes a p.peer && joined pipes p.table b)) h
    (λ x. same a b x)
    (λ y. either (colour a ≡ colour b) (joined pipes a p.table && joined pipes p.peer b) (joined pipes a p.peer && joined pipes p.table b) y
    (λ z. both (colour a ≡ colour b) (joined pipes a p.table) (joined pipes p.peer b) z (λ u v. same a p.table u ∙ one ∙ same p.peer b v))
    (λ z. both (colour a ≡ colour b) (joined pipes a p.peer) (joined pipes p.table b) z (λ u v. same a p.peer u ∙ sym one ∙ same p.table b v)))

-- ---- forests

abbrev Each : (Joint → Type 0) → List Joint → Type 0
Each P [] = ⊤
Each P (p ∷ more) = P p × Each P more

each_all : (P : Joint → Type 0) (ps : List Joint) → Each P ps → All P ps
each_all P [] h k d lt = absurd (omega (arith, lt))
each_all P (p ∷ ps) h zero d lt = h.0
each_all P (p ∷ ps) h (suc k) d lt = each_all P ps h.1 k d (omega (arith, lt))

each_push : (P : Joint → Type 0) (ps : List Joint) (p : Joint) → Each P ps → P p → Each P (ps ++ p ∷ [])
each_push P [] p h is = (is, tt)
each_push P (q ∷ ps) p h is = (h.0, each_push P ps p h.1 is)

each_map : (P Q : Joint → Type 0) (ps : List Joint) → ((p : Joint) → P p → Q p) → Each P ps → Each Q ps
each_map P Q [] f h = tt
each_map P Q (p ∷ ps) f h = (f p h.0, each_map P Q ps f h.1)

-- both tables of the pipe lie in one region
abbrev InOne : List Joint → Joint → Type 0
InOne pipes p = region pipes p.table ≡ region pipes p.peer

each_in_one : (front pipes : List Joint) → Each (InOne (front ++ pipes)) pipes
each_in_one front [] = tt
each_in_one front (p ∷ pipes) = (
  one_region (front ++ p ∷ pipes) p.table p.peer (each_joined front pipes p),
  subst (λ (all : List Joint). Each (InOne all) pipes) (append_assoc front (p ∷ []) pipes) (each_in_one (front ++ p ∷ []) pipes),
)

record Sides (p : Joint) (others : List Joint) : Type 0 where
  side : ℕ → Bool
  across : side p.table ≡ not (side p.peer)
  along : Each (λ (q : Joint). side q.table ≡ side q.peer) others

one_side : (pipes : List Joint) (c a b : ℕ) → region pipes a ≡ region pipes b → joined pipes c a ≡ joined pipes c b
one_side pipes c a b is = joined_is pipes c a ∙ ap (λ (r : ℕ). region pipes c == r) is ∙ sym (joined_is pipes c b)

-- the last pipe
last_sides : (before : List Joint) (p : Joint) → joined before p.table p.peer ≡ false → Sides p before
last_sides before p apart = record {
  side = λ t. joined before p.table t;
  across = joined_same before p.table ∙ ap (λ (b : Bool). not b) (sym apart);
  along = each_map (InOne before) (λ (q : Joint). joined before p.table q.table ≡ joined before p.table q.peer) before (λ q is. one_side before p.table q.table q.peer is) (each_in_one [] before);
}

abbrev differ : Bool → Bool → Bool
differ true b = not b
differ false b = b

abbrev turned : Bool → Bool → Bool
turned true b = not b
turned false b = b

turned_not : (d b : Bool) → turned d (not b) ≡ not (turned d b)
turned_not true b = refl
turned_not false b = refl

turned_back : (x y : Bool) → x ≡ turned (differ x y) y
turned_back true true = refl
turned_back true false = refl
turned_back false true = refl
turned_back false false = refl

across_by : (j d x y : Bool) → x ≡ not y → (if j then turned d x else x) ≡ not (if j then turned d y else y)
across_by true d x y is = ap (λ (b : Bool). turned d b) is ∙ turned_not d y
across_by false d x y is = is

-- one pipe more behind
more_sides : (before others : List Joint) (p q : Joint) → joined before q.table q.peer ≡ false → InOne before p → Each (InOne before) others → Sides p others → Sides p (others ++ q ∷ [])
more_sides before others p q apart mine theirs s =
    let d : Bool = differ (s.side q.table) (s.side q.peer) in
    let moved : ℕ → Bool = λ t. if joined before q.peer t then turned d (s.side t) else s.side t in
    record {
      side = moved;
      across = ap (λ (j : Bool). if j then turned d (s.side p.table) else s.side p.table) (one_side before q.peer p.table p.peer mine) ∙ across_by (joined before q.peer p.peer) d (s.side p.table) (s.side p.peer) s.across;
      along = each_push (λ (r : Joint). moved r.table ≡ moved r.peer) others q (kept others theirs s.along)
          (ap (λ (j : Bool). if j then turned d (s.side q.table) else s.side q.table) (joined_flip before q.peer q.table ∙ apart) ∙ turned_back (s.side q.table) (s.side q.peer)
          ∙ sym (ap (λ (j : Bool). if j then turned d (s.side q.peer) else s.side q.peer) (joined_same before q.peer)));
    }
  where
    kept : (rs : List Joint) → Each (InOne before) rs → Each (λ (r : Joint). s.side r.table ≡ s.side r.peer) rs
        → Each (λ (r : Joint). (if joined before q.peer r.table then turned (differ (s.side q.table) (s.side q.peer)) (s.side r.table) else s.side r.table) ≡ (if joined before q.peer r.peer then turned (differ (s.side q.table) (s.side q.peer)) (s.side r.peer) else s.side r.peer)) rs
    kept [] in_one along = tt
    kept (r ∷ rs) in_one along = (
      ap (λ (j : Bool). if j then turned (differ (s.side q.table) (s.side q.peer)) (s.side r.table) else s.side r.table) (one_side before q.peer r.table r.peer in_one.0)
          ∙ ap (λ (x : Bool). if joined before q.peer r.peer then turned (differ (s.side q.table) (s.side q.peer)) x else x) along.0,
      kept rs in_one.1 along.1,
    )

apart_behind : (before xs ys : List Joint) → JoinsApart before (xs ++ ys) → JoinsApart (before ++ xs) ys
apart_behind before [] ys h = subst (λ (l : List Joint). JoinsApart l ys) (sym (append-nil before)) h
apart_behind before (x ∷ xs) ys h = subst (λ (l : List Joint). JoinsApart l ys) (append_assoc before (x ∷ []) xs) (apart_behind (before ++ x ∷ []) xs ys h.1)

-- without the pipe in the middle
without : (P : Joint → Type 0) (front done : List Joint) (p : Joint) → Each P (front ++ p ∷ done) → Each P (front ++ done)
without P [] done p h = h.1
without P (q ∷ front) done p h = (h.0, without P front done p h.1)

all_sides : (front done back : List Joint) (p : Joint) → Sides p (front ++ done) → JoinsApart (front ++ p ∷ done) back → Sides p (front ++ (done ++ back))
all_sides front done [] p s h = subst (λ (l : List Joint). Sides p (front ++ l)) (sym (append-nil done)) s
all_sides front done (q ∷ back) p s h =
    subst (λ (l : List Joint). Sides p (front ++ l)) (append_assoc done (q ∷ []) back)
    (all_sides front (done ++ q ∷ []) back p
    (subst (λ (l : List Joint). Sides p l) (append_assoc front done (q ∷ []))
    (more_sides (front ++ p ∷ done) (front ++ done) p q h.0 (one_region (front ++ p ∷ done) p.table p.peer (each_joined front done p)) (without (InOne (front ++ p ∷ done)) front done p (each_in_one [] (front ++ p ∷ done))) s))
    (subst (λ (l : List Joint). JoinsApart l back) (append_assoc front (p ∷ done) (q ∷ [])) h.1))

pub bridge : (front back : List Joint) (p : Joint) → IsForest (front ++ p ∷ back) → IsBridge p (front ++ back)
bridge front back p h =
    let behind : JoinsApart front (p ∷ back) = apart_behind [] front (p ∷ back) h in
    let s : Sides p (front ++ back) = all_sides front [] back p (subst (λ (l : List Joint). Sides p l) (sym (append-nil front)) (last_sides front p behind.0)) behind.1 in
    record { side = s.side; across = s.across; along = each_all (λ (q : Joint). s.side q.table ≡ s.side q.peer) (front ++ back) s.along }
