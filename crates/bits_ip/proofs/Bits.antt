-- Groups of sixteen bits and the number that they make.
use Rattle.std.proofs.Common.{◌≡◌, ℕ, zero, suc, ◌<◌, ◌≤◌, ◌+◌, ◌-◌, ◌*◌, ◌%◌, ◌^◌, List, [], ◌∷◌, ◌++◌, length, sym, ap, ◌∙◌, refl, subst, get_or, Option, Some, None, ⊎_elim, arith}
use Rattle.std.specs.Prelude.{replicate}
use Rattle.std.specs.Int.Digits.{number_from_digits, number_from_digits_after, AllBelowBase}
use Rattle.std.specs.Str.Parse.{digits_value}
use Rattle.std.proofs.Math.Nat.{mod-eq_of_lt, mul-le-mul_right, mul_assoc, one-le-pow, pow-le-pow_right, pow-suc, pow-succ'}
use Rattle.std.specs.Option.{SomeIff, unwrap_or}
use Rattle.std.proofs.lemmas.Bool.{cases_eq}
use Rattle.std.proofs.lemmas.Int.Digits.{digits_value-lt, number_lt, number_after_append, number_push}
use Rattle.std.proofs.lemmas.List.{length-map, map-append, length-append, length-replicate}
use Rattle.std.proofs.lemmas.Nat.{pow-add}
use Rattle.bits_ip.specs.Parts.{group_words, values, AreWords, AreBeside, IsRow}
use Rattle.bits_ip.specs.Text.{groups, IsGroup, AreGroups, IsWhole}
use Rattle.bits_ip.proofs.Colons.{beside_length, whole_from, whole_words}

group_below : (word : List ℕ) (g : ℕ) → IsGroup word g → g < 65536
group_below word g is =
    let short : 16 ^ length word ≤ 16 ^ 4 = pow-le-pow_right (omega arith) is.1 in
    let small : digits_value 16 word < 16 ^ length word = digits_value-lt 16 word is.0.1 in
    omega (arith, short, small, is.2)

pub groups_below : (words : List (List ℕ)) (gs : List ℕ) → AreGroups words gs → AllBelowBase 65536 gs
groups_below [] [] is = tt
groups_below [] (g ∷ gs) is = absurd is
groups_below (word ∷ words) [] is = absurd is
groups_below (word ∷ words) (g ∷ gs) is = (group_below word g is.0, groups_below words gs is.1)

both : {X : Type 0} (x y : X) (xs ys : List X) → x ≡ y → xs ≡ ys → x ∷ xs ≡ y ∷ ys
both x y xs ys e f = ap (λ h. h ∷ xs) e ∙ ap (λ t. y ∷ t) f

eight : (a b c d e f g h n : ℕ) → AllBelowBase 65536 (a ∷ b ∷ c ∷ d ∷ e ∷ f ∷ g ∷ h ∷ []) → number_from_digits 65536 (a ∷ b ∷ c ∷ d ∷ e ∷ f ∷ g ∷ h ∷ []) ≡ n → groups n ≡ a ∷ b ∷ c ∷ d ∷ e ∷ f ∷ g ∷ h ∷ []
eight a b c d e f g h n below number =
    both _ _ _ _ (omega (arith, number, below)) (both _ _ _ _ (omega (arith, number, below)) (both _ _ _ _ (omega (arith, number, below)) (both _ _ _ _ (omega (arith, number, below))
    (both _ _ _ _ (omega (arith, number, below)) (both _ _ _ _ (omega (arith, number, below)) (both _ _ _ _ (omega (arith, number, below)) (both _ _ _ _ (omega (arith, number, below)) refl)))))))

-- eight groups are those of the number that they make
pub groups_back : (gs : List ℕ) (n : ℕ) → length gs ≡ 8 → AllBelowBase 65536 gs → number_from_digits 65536 gs ≡ n → groups n ≡ gs
groups_back [] n long below number = absurd (omega arith)
groups_back (a ∷ []) n long below number = absurd (omega arith)
groups_back (a ∷ b ∷ []) n long below number = absurd (omega arith)
groups_back (a ∷ b ∷ c ∷ []) n long below number = absurd (omega arith)
groups_back (a ∷ b ∷ c ∷ d ∷ []) n long below number = absurd (omega arith)
groups_back (a ∷ b ∷ c ∷ d ∷ e ∷ []) n long below number = absurd (omega arith)
groups_back (a ∷ b ∷ c ∷ d ∷ e ∷ f ∷ []) n long below number = absurd (omega arith)
groups_back (a ∷ b ∷ c ∷ d ∷ e ∷ f ∷ g ∷ []) n long below number = absurd (omega arith)
groups_back (a ∷ b ∷ c ∷ d ∷ e ∷ f ∷ g ∷ h ∷ []) n long below number = eight a b c d e f g h n below number
groups_back (a ∷ b ∷ c ∷ d ∷ e ∷ f ∷ g ∷ h ∷ i ∷ gs) n long below number = absurd (omega arith)

-- a number is the one that its groups make
pub groups_number : (n : ℕ) → n < 2 ^ 128 → number_from_digits 65536 (groups n) ≡ n
groups_number n small = omega arith

after_is : (n : ℕ) (ds : List ℕ) → number_from_digits_after 65536 n ds ≡ n * 65536 ^ length ds + number_from_digits 65536 ds
after_is n [] = omega arith
after_is n (d ∷ ds) =
    let power = ap (λ p. n * p) (pow-suc 65536 (length ds)) in
    omega (arith, after_is (n * 65536 + d) ds, after_is (0 * 65536 + d) ds, power)

zeros_number : (zeros : ℕ) → number_from_digits 65536 (replicate zeros 0) ≡ 0
zeros_number zero = refl
zeros_number (suc zeros) = zeros_number zeros

zeros_after : (n zeros : ℕ) → number_from_digits_after 65536 n (replicate zeros 0) ≡ n * 65536 ^ zeros
zeros_after n zeros =
    let long = ap (λ k. n * 65536 ^ k) (length-replicate {A = ℕ} zeros 0) in
    omega (arith, after_is n (replicate zeros 0), zeros_number zeros, long)

-- the number of groups with zeros between
pub beside_number : (xs ys : List ℕ) (zeros k : ℕ) → zeros + length ys ≡ k → number_from_digits 65536 (xs ++ replicate zeros 0 ++ ys) ≡ number_from_digits 65536 xs * 65536 ^ k + number_from_digits 65536 ys
beside_number xs ys zeros k e =
    let front : number_from_digits 65536 (xs ++ replicate zeros 0) ≡ number_from_digits 65536 xs * 65536 ^ zeros = number_after_append 65536 0 xs (replicate zeros 0) ∙ zeros_after (number_from_digits 65536 xs) zeros in
    let whole = number_after_append 65536 0 (xs ++ replicate zeros 0) ys ∙ after_is (number_from_digits 65536 (xs ++ replicate zeros 0)) ys in
    let moved : number_from_digits 65536 (xs ++ replicate zeros 0) * 65536 ^ length ys ≡ number_from_digits 65536 xs * 65536 ^ k =
    ap (λ m. m * 65536 ^ length ys) front ∙ mul_assoc (number_from_digits 65536 xs) (65536 ^ zeros) (65536 ^ length ys)
    ∙ ap (λ p. number_from_digits 65536 xs * p) (sym (pow-add 65536 zeros (length ys))) ∙ ap (λ j. number_from_digits 65536 xs * 65536 ^ j) e in
    whole ∙ ap (λ m. m + number_from_digits 65536 ys) moved

below_append : (xs ys : List ℕ) → AllBelowBase 65536 xs → AllBelowBase 65536 ys → AllBelowBase 65536 (xs ++ ys)
below_append [] ys one other = other
below_append (x ∷ xs) ys one other = (one.0, below_append xs ys one.1 other)

below_zeros : (zeros : ℕ) → AllBelowBase 65536 (replicate zeros 0)
below_zeros zero = tt
below_zeros (suc zeros) = (omega arith, below_zeros zeros)

-- all eight groups of a text make the number that it spells
pub row_whole : (text : List ℕ) (count bits : ℕ) → AreWords (group_words text) → IsRow (values (group_words text)) count bits → count ≡ 8 → (bits < 2 ^ 128) × IsWhole text (groups bits)
row_whole text count bits are row eight_are =
    let gs = values (group_words text) in
    let below = groups_below (group_words text) gs are in
    let long : length gs ≡ 8 = row.counted ∙ eight_are in
    let small : number_from_digits 65536 gs < 65536 ^ 8 = subst (λ k. number_from_digits 65536 gs < 65536 ^ k) long (number_lt 65536 gs below) in
    let same = groups_back gs bits long below row.number in
    (omega (arith, small, row.number), subst (λ (l : List ℕ). IsWhole text l) (sym same) (whole_from text are))

pub whole_count : (text : List ℕ) (n : ℕ) → IsWhole text (groups n) → AreWords (group_words text) × (length (group_words text) ≡ 8) × (length (values (group_words text)) ≡ 8)
whole_count text n is =
    let words = whole_words text (groups n) is in
    let long : 8 ≡ length (values (group_words text)) = ap length words.1 in
    (words.0, sym (length-map (group_words text) (λ word. digits_value 16 word)) ∙ sym long, sym long)

pub beside_count : (front back : List ℕ) (n : ℕ) → AreBeside front back (groups n) → (length (group_words front) + length (group_words back) < 8) × (length (values (group_words front)) + length (values (group_words back)) < 8)
beside_count front back n is =
    let xs = values (group_words front) in let ys = values (group_words back) in
    let long : 8 ≡ length xs + is.zeros + length ys = ap length is.groups_are ∙ beside_length xs is.zeros ys in
    (omega (arith, long, is.some, length-map (group_words front) (λ word. digits_value 16 word), length-map (group_words back) (λ word. digits_value 16 word)), omega (arith, long, is.some))

-- groups at the front and the back make the number that they spell with zeros between
pub row_beside : (front back : List ℕ) (c d x y n : ℕ) → AreWords (group_words front) → AreWords (group_words back) → IsRow (values (group_words front)) c x → IsRow (values (group_words back)) d y → c + d < 8 → n ≡ x * 65536 ^ (8 - c) + y → (n < 2 ^ 128) × AreBeside front back (groups n)
row_beside front back c d x y n one other row row' few is =
    let xs = values (group_words front) in let ys = values (group_words back) in
    let zeros = 8 - (c + d) in
    let gs = xs ++ replicate zeros 0 ++ ys in
    let below : AllBelowBase 65536 gs = below_append (xs ++ replicate zeros 0) ys (below_append xs (replicate zeros 0) (groups_below (group_words front) xs one) (below_zeros zeros)) (groups_below (group_words back) ys other) in
    let long : length gs ≡ 8 = omega (arith, beside_length xs zeros ys, row.counted, row'.counted, few) in
    let small : number_from_digits 65536 gs < 65536 ^ 8 = subst (λ k. number_from_digits 65536 gs < 65536 ^ k) long (number_lt 65536 gs below) in
    let number = beside_number xs ys zeros (8 - c) (omega (arith, row'.counted, few)) in
    let sum : number_from_digits 65536 gs ≡ n = number ∙ ap (λ k. k * 65536 ^ (8 - c) + number_from_digits 65536 ys) row.number ∙ ap (λ k. x * 65536 ^ (8 - c) + k) row'.number ∙ sym is in
    let same = groups_back gs n long below sum in
    (omega (arith, small, sum), record { front_are = one; back_are = other; zeros = zeros; some = omega (arith, few); groups_are = same })

pub row_fits : (text : List ℕ) (count bits : ℕ) → AreWords (group_words text) → IsRow (values (group_words text)) count bits → bits < 65536 ^ count
row_fits text count bits are row =
    let gs = values (group_words text) in
    subst (λ b. b < 65536 ^ count) row.number (subst (λ k. number_from_digits 65536 gs < 65536 ^ k) row.counted (number_lt 65536 gs (groups_below (group_words text) gs are)))

-- a further word and its group
pub are_push : (words : List (List ℕ)) (word : List ℕ) (g : ℕ) → AreWords words → IsGroup word g → AreWords (words ++ word ∷ [])
are_push [] word g are is = ((is.0, is.1, refl), tt)
are_push (first ∷ words) word g are is = (are.0, are_push words word g are.1 is)

pub row_push : (words : List (List ℕ)) (word : List ℕ) (g count bits count' bits' : ℕ) → IsRow (values words) count bits → IsGroup word g → count < 8 → count' ≡ count + 1 → bits' ≡ bits * 65536 + g → IsRow (values (words ++ word ∷ [])) count' bits'
row_push words word g count bits count' bits' row is few counted number =
    let more : values (words ++ word ∷ []) ≡ values words ++ digits_value 16 word ∷ [] = map-append (λ w. digits_value 16 w) words (word ∷ []) in
    let long = ap length more ∙ length-append (values words) (digits_value 16 word ∷ []) in
    let sum = ap (λ gs. number_from_digits 65536 gs) more ∙ number_push 65536 (values words) (digits_value 16 word) in
    record {
      counted = omega (arith, long, row.counted, counted);
      within = omega (arith, few, counted);
      number = omega (arith, sum, row.number, is.2, number);
    }

pub are_at : (words : List (List ℕ)) (k : ℕ) (d : List ℕ) → AreWords words → k < length words → IsGroup (get_or words k d) (digits_value 16 (get_or words k d))
are_at [] k d are within = absurd (omega arith)
are_at (word ∷ words) zero d are within = are.0
are_at (word ∷ words) (suc k) d are within = are_at words k d are.1 (omega arith)

pub row_values_fit : (words : List (List ℕ)) (count bits : ℕ) → AreWords words → IsRow (values words) count bits → bits < 65536 ^ count
row_values_fit words count bits are row =
    subst (λ b. b < 65536 ^ count) row.number (subst (λ k. number_from_digits 65536 (values words) < 65536 ^ k) row.counted (number_lt 65536 (values words) (groups_below words (values words) are)))

-- bits of fewer than eight groups have room for one more
pub room_left : (bits count : ℕ) → count < 8 → bits < 65536 ^ count → bits < 65536 ^ 7
room_left bits count few fits =
    let below : count ≤ 7 = omega (arith, few) in
    let short : 65536 ^ count ≤ 65536 ^ 7 = pow-le-pow_right (omega arith) below in
    omega (arith, short, fits)

sixteen_bits : (k : ℕ) → 2 ^ (16 * k) ≡ 65536 ^ k
sixteen_bits zero = refl
sixteen_bits (suc k) =
    let more : 16 * suc k ≡ 16 + 16 * k = omega arith in
    ap (λ j. 2 ^ j) more ∙ pow-add 2 16 (16 * k) ∙ ap (λ p. 65536 * p) (sixteen_bits k) ∙ sym (pow-succ' 65536 k)

moved_fits : (bits count : ℕ) → count ≤ 8 → bits < 65536 ^ count → bits * 65536 ^ (8 - count) < 2 ^ 128
moved_fits bits count within fits =
    let room = 65536 ^ (8 - count) in
    let whole : count + (8 - count) ≡ 8 = omega (arith, within) in
    let some : 1 ≤ room = one-le-pow (8 - count) 65536 (omega arith) in
    let more : bits + 1 ≤ 65536 ^ count = omega (arith, fits) in
    let most : (bits + 1) * room ≤ 65536 ^ count * room = mul-le-mul_right room more in
    let all : 65536 ^ count * room ≡ 65536 ^ 8 = sym (pow-add 65536 count (8 - count)) ∙ ap (λ k. 65536 ^ k) whole in
    omega (arith, some, most, all)

-- the bits of so many groups, moved to the front of eight
pub moved_to_front : (bits count shift : ℕ) (r : Option ℕ) → count ≤ 8 → bits < 65536 ^ count → shift ≡ 128 - 16 * count → SomeIff r (shift < 128) ((bits * 2 ^ shift) % 2 ^ 128) → unwrap_or r 0 ≡ bits * 65536 ^ (8 - count)
moved_to_front bits count shift None within fits is shifted =
    let long : (shift < 128) → ⊥ = shifted in
    let none : count ≡ 0 = ⊎_elim (λ e. e) (λ some. absurd (long (omega (arith, is, some)))) (cases_eq count 0) in
    let power : 65536 ^ count ≡ 1 = ap (λ k. 65536 ^ k) none in
    let zero : bits ≡ 0 = omega (arith, power, fits) in
    omega (arith, ap (λ b. b * 65536 ^ (8 - count)) zero)
moved_to_front bits count shift (Some v) within fits is shifted =
    let power : 2 ^ shift ≡ 65536 ^ (8 - count) = ap (λ k. 2 ^ k) (omega (arith, is, within)) ∙ sixteen_bits (8 - count) in
    shifted.1 ∙ ap (λ p. (bits * p) % 2 ^ 128) power ∙ mod-eq_of_lt (moved_fits bits count within fits)

-- a word that a text has is a group
pub word_at : (all : List (List ℕ)) (k : ℕ) (word : List ℕ) → AreWords all → k < length all → word ≡ get_or all k word → IsGroup word (digits_value 16 word)
word_at all k word are within e = subst (λ (w : List ℕ). IsGroup w (digits_value 16 w)) (sym e) (are_at all k word are within)
