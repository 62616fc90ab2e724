-- The word of a route's shape.
use Rattle.std.proofs.Common.{◌≡◌, ℕ, ◌+◌, ◌*◌, ◌/◌, ◌%◌, ◌<◌, ◌≤◌, ◌^◌, Bool, true, false, ◌==◌, cond, Option, Some, None, refl, sym, ap, subst, ◌∙◌, arith}
use Rattle.std.proofs.lemmas.Bool.{eqb-true}
use Rattle.std.proofs.lemmas.Bool.Decides.{nat_tests}
use Rattle.attrs.specs.declared.attributes.Kind.{Kind}
use Rattle.attrs.specs.declared.attributes.Kind.TheVariants.{Static, Bgp}
use Rattle.attrs.specs.declared.attributes.Dest.{Dest}
use Rattle.attrs.specs.declared.attributes.Dest.TheVariants.{Unicast, Blackhole, Unreachable, Prohibit}
use Rattle.attrs.specs.declared.attributes.Origin.{Origin}
use Rattle.attrs.specs.declared.attributes.Origin.TheVariants.{Igp, Egp, Incomplete}
use Rattle.rec_words.specs.declared.shape.Shape.{Shape}
use Rattle.rec_words.specs.Spelling.{dest_number, flag, kind_number, origin_number}
use Rattle.rec_words.specs.Reading.{bit_at, dest_of, kind_of, origin_of, shape_at, shape_in, word_of}
use Rattle.rec_words.proofs.Takes.{found, guard_some, some_is}

kind_small : (kind : Kind) → kind_number kind ≤ 1
kind_small Static = omega arith
kind_small Bgp = omega arith

kind_back : (kind : Kind) → kind_of (kind_number kind) ≡ kind
kind_back Static = refl
kind_back Bgp = refl

dest_small : (dest : Dest) → dest_number dest ≤ 3
dest_small Unicast = omega arith
dest_small Blackhole = omega arith
dest_small Unreachable = omega arith
dest_small Prohibit = omega arith

dest_back : (dest : Dest) → dest_of (dest_number dest) ≡ dest
dest_back Unicast = refl
dest_back Blackhole = refl
dest_back Unreachable = refl
dest_back Prohibit = refl

origin_small : (origin : Option Origin) → origin_number origin ≤ 3
origin_small None = omega arith
origin_small (Some Igp) = omega arith
origin_small (Some Egp) = omega arith
origin_small (Some Incomplete) = omega arith

origin_back : (origin : Option Origin) → origin_of (origin_number origin) ≡ origin
origin_back None = refl
origin_back (Some Igp) = refl
origin_back (Some Egp) = refl
origin_back (Some Incomplete) = refl

pub flag_small : (b : Bool) → flag b ≤ 1
flag_small false = omega arith
flag_small true = omega arith

pub flag_back : (b : Bool) → (flag b == 1) ≡ b
flag_back false = refl
flag_back true = refl

-- the numbers of a word that is made of small ones
record Digits (w k d e o m l g p c : ℕ) : Type 0 where
  pub kind : w % 2 ≡ k
  pub dest : w / 2 ^ 4 % 4 ≡ d
  pub ebgp : w / 2 ^ 8 % 2 ≡ e
  pub origin : w / 2 ^ 12 % 4 ≡ o
  pub med : w / 2 ^ 16 % 2 ≡ m
  pub lp : w / 2 ^ 17 % 2 ≡ l
  pub igp : w / 2 ^ 18 % 2 ≡ g
  pub path : w / 2 ^ 24 % 256 ≡ p
  pub coms : w / 2 ^ 32 % 256 ≡ c

digits : (w k d e o m l g p c : ℕ) → w ≡ k + d * 2 ^ 4 + e * 2 ^ 8 + o * 2 ^ 12 + m * 2 ^ 16 + l * 2 ^ 17 + g * 2 ^ 18 + p * 2 ^ 24 + c * 2 ^ 32 → k ≤ 1 → d ≤ 3 → e ≤ 1 → o ≤ 3 → m ≤ 1 → l ≤ 1 → g ≤ 1 → p ≤ 255 → c ≤ 255 → Digits w k d e o m l g p c
digits w k d e o m l g p c is k1 d3 e1 o3 m1 l1 g1 p255 c255 = record {
  kind = omega (arith, is, k1);
  dest = omega (arith, is, k1, d3);
  ebgp = omega (arith, is, k1, d3, e1);
  origin = omega (arith, is, k1, d3, e1, o3);
  med = omega (arith, is, k1, d3, e1, o3, m1);
  lp = omega (arith, is, k1, d3, e1, o3, m1, l1);
  igp = omega (arith, is, k1, d3, e1, o3, m1, l1, g1);
  path = omega (arith, is, k1, d3, e1, o3, m1, l1, g1, p255);
  coms = omega (arith, is, k1, d3, e1, o3, m1, l1, g1, p255, c255);
}

bit_back : (word bit : ℕ) (b : Bool) → word / 2 ^ bit % 2 ≡ flag b → bit_at bit word ≡ b
bit_back word bit b is = ap (λ (n : ℕ). n == 1) is ∙ flag_back b

shape_back : (s : Shape) → s.path_len < 256 → s.com_len < 256 → shape_in (word_of s) ≡ s
shape_back s path coms =
    let w = word_of s in
    let all = digits w (kind_number s.kind) (dest_number s.dest) (flag s.ebgp) (origin_number s.origin) (flag s.has_med) (flag s.has_lp) (flag s.has_igp) s.path_len s.com_len refl (kind_small s.kind) (dest_small s.dest) (flag_small s.ebgp) (origin_small s.origin) (flag_small s.has_med) (flag_small s.has_lp) (flag_small s.has_igp) (omega (arith, path)) (omega (arith, coms)) in
    let kind : kind_of (w % 2) ≡ s.kind = ap kind_of all.kind ∙ kind_back s.kind in
    let dest : dest_of (w / 2 ^ 4 % 4) ≡ s.dest = ap dest_of all.dest ∙ dest_back s.dest in
    let origin : origin_of (w / 2 ^ 12 % 4) ≡ s.origin = ap origin_of all.origin ∙ origin_back s.origin in
    let ebgp = bit_back w 8 s.ebgp all.ebgp in
    let med = bit_back w 16 s.has_med all.med in
    let lp = bit_back w 17 s.has_lp all.lp in
    let igp = bit_back w 18 s.has_igp all.igp in
    λ i. record {
      kind = kind i;
      dest = dest i;
      ebgp = ebgp i;
      origin = origin i;
      has_med = med i;
      has_lp = lp i;
      has_igp = igp i;
      path_len = all.path i;
      com_len = all.coms i;
    }

pub eqb_same : (n : ℕ) → (n == n) ≡ true
eqb_same n = grind (arith, nat_tests)

pub shape_again : (s : Shape) → s.path_len < 256 → s.com_len < 256 → shape_at (word_of s) ≡ Some s
unfolding shape_at
shape_again s path coms =
    subst
    (λ (x : Shape). cond (word_of x == word_of s) (found x) None ≡ found s)
    (sym (shape_back s path coms))
    (ap (λ (b : Bool). cond b (found s) None) (eqb_same (word_of s)))

pub shape_takes : (word : ℕ) (s : Shape) → shape_at word ≡ Some s → word ≡ word_of s
unfolding shape_at
shape_takes word s e =
    let g = guard_some (word_of (shape_in word) == word) (Some (shape_in word)) s e in
    sym (eqb-true _ _ g.0) ∙ ap word_of (some_is (shape_in word) s g.1)
