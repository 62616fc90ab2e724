-- Two numbers in a word, and lists of numbers in words.
use Rattle.std.proofs.Common.{◌≡◌, ℕ, ◌+◌, ◌*◌, ◌/◌, ◌%◌, ◌<◌, ◌^◌, Bool, true, false, ◌==◌, ltb, List, [], ◌∷◌, ◌++◌, length, take, drop, Option, Some, None, refl, sym, ap, subst, ◌∙◌, append_assoc, arith}
use Rattle.std.specs.Prelude.{IfSome}
use Rattle.std.specs.List.{flat_map, AllByRecursion}
use Rattle.std.proofs.lemmas.Bool.{ltb-true, ltb-false, lt-ltb, le-ltb}
use Rattle.std.proofs.lemmas.List.{take_at, drop_at, take-append-drop, length-append, length-take}
use Rattle.std.specs.Option.{is_some}
use Rattle.rec_words.specs.Spelling.{joined, number_words}
use Rattle.rec_words.specs.Entries.{IsNumber}
use Rattle.rec_words.specs.Reading.{◌>>=◌, low_half, high_half, number_at, last_at, listed, split_word, numbers_at}
use Rattle.rec_words.proofs.Takes.{IsWords, IsWords-drop, IsWords-take, IsWords-rest, bind_some, guard_some, unless_some, some_is, Takes}

pub low_back : (low high : ℕ) → low < 2 ^ 32 → low_half (joined low high) ≡ low
low_back low high small = omega (arith, small)

pub high_back : (low high : ℕ) → low < 2 ^ 32 → high_half (joined low high) ≡ high
high_back low high small = omega (arith, small)

pub joined_back : (word : ℕ) → joined (low_half word) (high_half word) ≡ word
joined_back word = omega arith

pub low_small : (word : ℕ) → low_half word < 2 ^ 32
low_small word = omega arith

pub high_small : (word : ℕ) → word < 2 ^ 64 → high_half word < 2 ^ 32
high_small word small = omega (arith, small)

pub number_again : (n : ℕ) → n < 2 ^ 32 → number_at n ≡ Some n
number_again n small = rw (lt-ltb n (2 ^ 32) small) refl

pub number_takes : (word n : ℕ) → number_at word ≡ Some n → (word ≡ n) × (n < 2 ^ 32)
number_takes word n e =
    let g = guard_some (ltb word (2 ^ 32)) (Some word) n e in
    let same : word ≡ n = some_is word n g.1 in
    (same, subst (λ (m : ℕ). m < 2 ^ 32) same (ltb-true _ _ g.0))

pub last_again : (last : Option ℕ) (rest : List ℕ) → IfSome last IsNumber → last_at (is_some last) (listed last ++ rest) ≡ Some (last, rest)
unfolding last_at
last_again None rest fits = refl
last_again (Some n) rest fits = rw (number_again n fits) refl

pub last_takes : (there : Bool) (ws : List ℕ) (last : Option ℕ) (rest : List ℕ) → IsWords ws → last_at there ws ≡ Some (last, rest) → Takes ws (listed last) rest × (is_some last ≡ there) × IfSome last IsNumber
unfolding last_at
last_takes false ws last rest fits e =
    subst (λ (x : Option ℕ × List ℕ). Takes ws (listed x.0) x.1 × (is_some x.0 ≡ false) × IfSome x.0 IsNumber) (some_is (None, ws) (last, rest) e) (record { parts = refl; rest_fits = fits }, refl, tt)
last_takes true [] last rest fits e = absurd cc
last_takes true (word ∷ ws) last rest fits e =
    let b = bind_some (number_at word) (λ n. Some (Some n, ws)) (last, rest) e in
    let n = number_takes word b.0 b.1 in
    subst
    (λ (x : Option ℕ × List ℕ). Takes (word ∷ ws) (listed x.0) x.1 × (is_some x.0 ≡ true) × IfSome x.0 IsNumber)
    (some_is (Some b.0, ws) (last, rest) b.2)
    (record { parts = ap (λ (m : ℕ). m ∷ ws) n.0; rest_fits = IsWords-rest word ws fits }, refl, n.1)

-- words with two numbers each, and the one that is alone
record Cut (xs : List ℕ) : Type 0 where
  pub pairs : List ℕ
  pub last : Option ℕ
  pub words : number_words xs ≡ pairs ++ listed last
  pub many : length pairs ≡ length xs / 2
  pub back : flat_map split_word pairs ++ listed last ≡ xs
  pub odd : (length xs % 2 == 1) ≡ is_some last
  pub fits : IfSome last IsNumber

cut : (xs : List ℕ) → AllByRecursion IsNumber xs → Cut xs
cut [] fits = record { pairs = []; last = None; words = refl; many = refl; back = refl; odd = refl; fits = tt }
cut (n ∷ []) fits = record { pairs = []; last = Some n; words = refl; many = refl; back = refl; odd = refl; fits = fits.0 }
cut (a ∷ b ∷ xs) fits =
    let c = cut xs fits.1.1 in
    let odd : length (a ∷ b ∷ xs) % 2 ≡ length xs % 2 = omega arith in
    record {
      pairs = joined a b ∷ c.pairs;
      last = c.last;
      words = ap (λ (t : List ℕ). joined a b ∷ t) c.words;
      many = omega (arith, c.many);
      back = rw (low_back a b fits.0, high_back a b fits.0) (ap (λ (t : List ℕ). a ∷ b ∷ t) c.back);
      odd = ap (λ (m : ℕ). m == 1) odd ∙ c.odd;
      fits = c.fits;
    }

pub numbers_again : (xs rest : List ℕ) → AllByRecursion IsNumber xs → numbers_at (length xs) (number_words xs ++ rest) ≡ Some (xs, rest)
unfolding numbers_at
numbers_again xs rest fits =
    let c = cut xs fits in
    let whole : number_words xs ++ rest ≡ c.pairs ++ (listed c.last ++ rest) = ap (λ (t : List ℕ). t ++ rest) c.words ∙ append_assoc c.pairs (listed c.last) rest in
    let long : ltb (length (c.pairs ++ (listed c.last ++ rest))) (length xs / 2) ≡ false = le-ltb _ _ (omega (arith, length-append c.pairs (listed c.last ++ rest), c.many)) in
    rw
    (whole, long, take_at c.pairs (listed c.last ++ rest) (length xs / 2) c.many, drop_at c.pairs (listed c.last ++ rest) (length xs / 2) c.many, c.odd, last_again c.last rest c.fits, c.back)
    refl

numbers_back : (pairs : List ℕ) (last : Option ℕ) → number_words (flat_map split_word pairs ++ listed last) ≡ pairs ++ listed last
numbers_back [] None = refl
numbers_back [] (Some n) = refl
numbers_back (p ∷ pairs) last = rw (joined_back p) (ap (λ (t : List ℕ). p ∷ t) (numbers_back pairs last))

numbers_many : (pairs : List ℕ) (last : Option ℕ) → length (flat_map split_word pairs ++ listed last) ≡ 2 * length pairs + length (listed last)
numbers_many [] last = omega arith
numbers_many (p ∷ pairs) last = omega (arith, numbers_many pairs last)

numbers_fit : (pairs : List ℕ) (last : Option ℕ) → IsWords pairs → IfSome last IsNumber → AllByRecursion IsNumber (flat_map split_word pairs ++ listed last)
numbers_fit [] None words fits = tt
numbers_fit [] (Some n) words fits = (fits, tt)
numbers_fit (p ∷ pairs) last words fits = (low_small p, (high_small p (words 0), numbers_fit pairs last (IsWords-rest p pairs words) fits))

odd_many : (count : ℕ) (last : Option ℕ) → is_some last ≡ (count % 2 == 1) → 2 * (count / 2) + length (listed last) ≡ count
odd_many count None odd = grind (arith, odd)
odd_many count (Some n) odd = grind (arith, odd)

pub record AreNumbers (count : ℕ) (xs : List ℕ) : Type 0 where
  pub many : length xs ≡ count
  pub fit : AllByRecursion IsNumber xs

pub numbers_takes : (count : ℕ) (ws xs rest : List ℕ) → IsWords ws → numbers_at count ws ≡ Some (xs, rest) → Takes ws (number_words xs) rest × AreNumbers count xs
unfolding numbers_at
numbers_takes count ws xs rest fits e =
    let half = count / 2 in
    let g = unless_some (ltb (length ws) half) (last_at (count % 2 == 1) (drop half ws) >>= λ last. Some (flat_map split_word (take half ws) ++ listed last.0, last.1)) (xs, rest) e in
    let b = bind_some (last_at (count % 2 == 1) (drop half ws)) (λ last. Some (flat_map split_word (take half ws) ++ listed last.0, last.1)) (xs, rest) g.1 in
    let last = b.0.0 in
    let t = last_takes (count % 2 == 1) (drop half ws) last b.0.1 (IsWords-drop half ws fits) b.1 in
    let pairs = take half ws in
    let long : length pairs ≡ half = omega (arith, length-take half ws, ltb-false _ _ g.0) in
    let whole : ws ≡ number_words (flat_map split_word pairs ++ listed last) ++ b.0.1 =
    sym (take-append-drop half ws) ∙ ap (λ (d : List ℕ). pairs ++ d) t.0.parts ∙ sym (append_assoc pairs (listed last) b.0.1) ∙ ap (λ (d : List ℕ). d ++ b.0.1) (sym (numbers_back pairs last)) in
    let many : length (flat_map split_word pairs ++ listed last) ≡ count = omega (arith, numbers_many pairs last, long, odd_many count last t.1) in
    subst
    (λ (x : List ℕ × List ℕ). Takes ws (number_words x.0) x.1 × AreNumbers count x.0)
    (some_is (flat_map split_word pairs ++ listed last, b.0.1) (xs, rest) b.2)
    (record { parts = whole; rest_fits = t.0.rest_fits }, record { many = many; fit = numbers_fit pairs last (IsWords-take half ws fits) t.2 })
