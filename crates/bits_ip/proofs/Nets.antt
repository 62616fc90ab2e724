-- Laws of prefixes: their order, and the bytes of their texts.
use Rattle.std.proofs.Common.{◌≡◌, ℕ, ◌<◌, ◌≤◌, ◌+◌, ◌/◌, ◌%◌, ◌^◌, Bool, true, false, cond, not, ◌||◌, ◌==◌, nat_le, zero, suc, take, drop, List, [], ◌∷◌, ◌++◌, length, get_or, All, ap, ◌∙◌, refl, subst, sym, arith, Ordering, Less, Equal, Greater}
use Rattle.std.specs.Cmp.{IsTotalOrder}
use Rattle.std.specs.Fmt.{decimal, digits, digits_onto, digit_glyph}
use Rattle.std.specs.List.{list_all, take_while}
use Rattle.std.specs.Ordering.{nat_cmp, ordering_then}
use Rattle.std.proofs.lemmas.Bool.Decides.{nat_tests}
use Rattle.std.proofs.lemmas.Cmp.{nat_cmp_total, on_total, then_total}
use Rattle.std.proofs.lemmas.List.{length-append}
use Rattle.std.proofs.lemmas.List.Elements.{All-append, All-cons, All-head, All-nil, All-tail, All-weaker}
use Rattle.std.proofs.lemmas.List.Sums.{list_all-from_AllPass, take_while-cons}
use Rattle.std.proofs.lemmas.Nat.{mod_below}
use Rattle.bits_ip.specs.declared.address.Addr.{Addr}
use Rattle.bits_ip.specs.declared.address.Addr.TheVariants.{V4, V6}
use Rattle.bits_ip.specs.Address.{family_rank, number_of, width_of}
use Rattle.bits_ip.specs.Prefix.{Net, IsPrefix, net_cmp}
use Rattle.bits_ip.specs.Text.{v4_text, v6_text, groups, colon_text, short_text, longest_run, run_start, addr_text, net_text, is_addr_byte, is_net_byte, addr_run, net_run, IsAddrText, IsNetText}
use Rattle.std.specs.Char.{digit_value}
use Rattle.bits_ip.proofs.Colons.{v6_all}
use Rattle.bits_ip.proofs.Dotted.{texts_agree}
use Rattle.bits_ip.proofs.Spelled.{v6_text_spells}
use Rattle.bits_ip.proofs.Slashed.{len_below, net_parts, net_split}
use Rattle.std.proofs.lemmas.Fmt.{decimal_injective}

-- the order is total
pub net_cmp_total : IsTotalOrder net_cmp
net_cmp_total =
    then_total (on_total (λ n. family_rank n.addr) nat_cmp_total)
    (then_total (on_total (λ n. number_of n.addr) nat_cmp_total) (on_total (λ n. n.len) nat_cmp_total))

both_equal : (o p : Ordering) → ordering_then o p ≡ Equal → (o ≡ Equal) × (p ≡ Equal)
both_equal Less p e = cc
both_equal Equal p e = (refl, e)
both_equal Greater p e = cc

nat_cmp_equal : (m n : ℕ) → nat_cmp m n ≡ Equal → m ≡ n
nat_cmp_equal m n e = grind (arith, nat_tests)

same_addr : (a b : Addr) → family_rank a ≡ family_rank b → number_of a ≡ number_of b → a ≡ b
same_addr (V4 m) (V4 n) family number = ap (λ k. V4 k) number
same_addr (V4 m) (V6 n) family number = absurd (omega arith)
same_addr (V6 m) (V4 n) family number = absurd (omega arith)
same_addr (V6 m) (V6 n) family number = ap (λ k. V6 k) number

abbrev pub net_of : Addr → ℕ → Net
net_of addr len = record { addr = addr; len = len }

-- only a prefix itself is equal to it
pub net_cmp_equal : (a b : Net) → net_cmp a b ≡ Equal → a ≡ b
net_cmp_equal a b e =
    let family = both_equal (nat_cmp (family_rank a.addr) (family_rank b.addr)) _ e in
    let rest = both_equal (nat_cmp (number_of a.addr) (number_of b.addr)) _ family.1 in
    let addr : a.addr ≡ b.addr = same_addr a.addr b.addr (nat_cmp_equal _ _ family.0) (nat_cmp_equal _ _ rest.0) in
    let len : a.len ≡ b.len = nat_cmp_equal _ _ rest.1 in
    ap (λ x. net_of x a.len) addr ∙ ap (λ k. net_of b.addr k) len

-- what P holds of each byte that digits are written with, it holds of the text of a number
digits_onto_all : (P : ℕ → Type 0) (base : ℕ) → 0 < base → ((d : ℕ) → d < base → P (digit_glyph false d)) → (k n : ℕ) (acc : List ℕ) → All P acc → All P (digits_onto k base false n acc)
digits_onto_all P base some glyph zero n acc rest = rest
digits_onto_all P base some glyph (suc k) n acc rest =
    let more : All P (digit_glyph false (n % base) ∷ acc) = All-cons P (digit_glyph false (n % base)) acc (glyph (n % base) (mod_below n base some)) rest in
    elim (n / base == 0) as (λ t. All P (cond t (digit_glyph false (n % base) ∷ acc) (digits_onto k base false (n / base) (digit_glyph false (n % base) ∷ acc)))) [
      | true ↦ more
      | false ↦ digits_onto_all P base some glyph k (n / base) (digit_glyph false (n % base) ∷ acc) more
    ]

digits_all : (P : ℕ → Type 0) (base : ℕ) → 0 < base → ((d : ℕ) → d < base → P (digit_glyph false d)) → (n : ℕ) → All P (digits base false n)
unfolding digits
digits_all P base some glyph n = digits_onto_all P base some glyph 64 n [] (All-nil P)

glyph_is_addr_byte : (d : ℕ) → d < 16 → is_addr_byte (digit_glyph false d) ≡ true
glyph_is_addr_byte d small = grind (arith, nat_tests)

abbrev IsAddrByte : ℕ → Type 0
IsAddrByte b = is_addr_byte b ≡ true

hex_all : (n : ℕ) → All IsAddrByte (digits 16 false n)
hex_all n = digits_all IsAddrByte 16 (omega arith) glyph_is_addr_byte n

decimal_all : (n : ℕ) → All IsAddrByte (decimal n)
decimal_all n = digits_all IsAddrByte 10 (omega arith) (λ d small. glyph_is_addr_byte d (omega arith)) n

dot_all : All IsAddrByte (46 ∷ [])
dot_all = All-cons IsAddrByte 46 [] refl (All-nil IsAddrByte)

joined_all : (xs ys : List ℕ) → All IsAddrByte xs → All IsAddrByte ys → All IsAddrByte (xs ++ ys)
joined_all xs ys one other = All-append IsAddrByte xs ys one other

v4_text_all : (n : ℕ) → All IsAddrByte (v4_text n)
v4_text_all n =
    let first = joined_all (decimal (n / 2 ^ 24)) _ (decimal_all _) dot_all in
    let second = joined_all _ _ (joined_all _ (decimal (n / 2 ^ 16 % 256)) first (decimal_all _)) dot_all in
    let third = joined_all _ _ (joined_all _ (decimal (n / 2 ^ 8 % 256)) second (decimal_all _)) dot_all in
    joined_all _ (decimal (n % 256)) third (decimal_all _)

colon_text_all : (gs : List ℕ) → All IsAddrByte (colon_text gs)
colon_text_all [] = All-nil IsAddrByte
colon_text_all (g ∷ []) = hex_all g
colon_text_all (g ∷ h ∷ gs) =
    joined_all (digits 16 false g) (58 ∷ colon_text (h ∷ gs)) (hex_all g) (All-cons IsAddrByte 58 (colon_text (h ∷ gs)) refl (colon_text_all (h ∷ gs)))

short_text_all : (start len : ℕ) (gs : List ℕ) → All IsAddrByte (short_text start len gs)
short_text_all start len gs =
    let back = colon_text (drop (start + len) gs) in
    let colons : All IsAddrByte (58 ∷ 58 ∷ back) = All-cons IsAddrByte 58 (58 ∷ back) refl (All-cons IsAddrByte 58 back refl (colon_text_all (drop (start + len) gs))) in
    joined_all (colon_text (take start gs)) (58 ∷ 58 ∷ back) (colon_text_all (take start gs)) colons

either_all : (t : Bool) (xs ys : List ℕ) → All IsAddrByte xs → All IsAddrByte ys → All IsAddrByte (cond t xs ys)
either_all true xs ys one other = one
either_all false xs ys one other = other

v6_text_all : (n : ℕ) → All IsAddrByte (v6_text n)
v6_text_all n =
    let gs = groups n in let len = longest_run gs in
    either_all (nat_le len 1) (colon_text gs) (short_text (run_start len gs) len gs) (colon_text_all gs) (short_text_all (run_start len gs) len gs)

-- each byte of an address is a byte of addresses
pub addr_text_bytes : (addr : Addr) → All (λ b. is_addr_byte b ≡ true) (addr_text addr)
addr_text_bytes (V4 n) = v4_text_all n
addr_text_bytes (V6 n) = v6_text_all n

addr_byte_is_net_byte : (b : ℕ) → is_addr_byte b ≡ true → is_net_byte b ≡ true
addr_byte_is_net_byte b e = rw e refl

-- each byte of a prefix is a byte of prefixes
pub net_text_bytes : (net : Net) → All (λ b. is_net_byte b ≡ true) (net_text net)
net_text_bytes net =
    let IsNetByte : ℕ → Type 0 = λ b. is_net_byte b ≡ true in
    let front = All-weaker IsAddrByte IsNetByte addr_byte_is_net_byte (addr_text net.addr) (addr_text_bytes net.addr) in
    let len = All-weaker IsAddrByte IsNetByte addr_byte_is_net_byte (decimal net.len) (decimal_all net.len) in
    All-append IsNetByte (addr_text net.addr) (47 ∷ decimal net.len) front (All-cons IsNetByte 47 (decimal net.len) refl len)

-- the same by recursion on the text
pub addr_text_all : (addr : Addr) → list_all is_addr_byte (addr_text addr) ≡ true
addr_text_all addr = list_all-from_AllPass is_addr_byte (addr_text addr) (addr_text_bytes addr)

pub net_text_all : (net : Net) → list_all is_net_byte (net_text net) ≡ true
net_text_all net = list_all-from_AllPass is_net_byte (net_text net) (net_text_bytes net)

-- a test that each such byte passes
pub addr_text_passes : (test : ℕ → Bool) → ((b : ℕ) → is_addr_byte b ≡ true → test b ≡ true) → (addr : Addr) → list_all test (addr_text addr) ≡ true
addr_text_passes test passes addr =
    list_all-from_AllPass test (addr_text addr) (All-weaker IsAddrByte (λ b. test b ≡ true) passes (addr_text addr) (addr_text_bytes addr))

pub net_text_passes : (test : ℕ → Bool) → ((b : ℕ) → is_net_byte b ≡ true → test b ≡ true) → (net : Net) → list_all test (net_text net) ≡ true
net_text_passes test passes net =
    list_all-from_AllPass test (net_text net) (All-weaker (λ b. is_net_byte b ≡ true) (λ b. test b ≡ true) passes (net_text net) (net_text_bytes net))

-- no such byte is a blank or ends a line: space, tab, newline, carriage return
abbrev pub is_blank : ℕ → Bool
is_blank b = (b == 32) || (b == 9) || (b == 10) || (b == 13)

pub net_byte_not_blank : (b : ℕ) → is_net_byte b ≡ true → not (is_blank b) ≡ true
net_byte_not_blank b e = grind (arith, nat_tests)

pub addr_text_not_blank : (addr : Addr) → list_all (λ b. not (is_blank b)) (addr_text addr) ≡ true
addr_text_not_blank addr = addr_text_passes (λ b. not (is_blank b)) (λ b e. net_byte_not_blank b (addr_byte_is_net_byte b e)) addr

pub net_text_not_blank : (net : Net) → list_all (λ b. not (is_blank b)) (net_text net) ≡ true
net_text_not_blank net = net_text_passes (λ b. not (is_blank b)) net_byte_not_blank net

-- no such text is empty
some_right : (xs ys : List ℕ) → 0 < length ys → 0 < length (xs ++ ys)
some_right xs ys some = omega (arith, length-append xs ys)

some_left : (xs ys : List ℕ) → 0 < length xs → 0 < length (xs ++ ys)
some_left xs ys some = omega (arith, length-append xs ys)

some_more : (x : ℕ) (xs : List ℕ) → 0 < length (x ∷ xs)
some_more x xs = omega arith

either_some : (t : Bool) (xs ys : List ℕ) → 0 < length xs → 0 < length ys → 0 < length (cond t xs ys)
either_some true xs ys one other = one
either_some false xs ys one other = other

colons_some : (gs : List ℕ) → 2 ≤ length gs → 0 < length (colon_text gs)
colons_some [] long = absurd (omega arith)
colons_some (g ∷ []) long = absurd (omega arith)
colons_some (g ∷ h ∷ gs) long = some_right (digits 16 false g) (58 ∷ colon_text (h ∷ gs)) (some_more 58 (colon_text (h ∷ gs)))

short_some : (start len : ℕ) (gs : List ℕ) → 0 < length (short_text start len gs)
short_some start len gs =
    let back = colon_text (drop (start + len) gs) in
    some_right (colon_text (take start gs)) (58 ∷ 58 ∷ back) (some_more 58 (58 ∷ back))

v4_some : (front back : List ℕ) → 0 < length (front ++ 46 ∷ [] ++ back)
v4_some front back = some_left (front ++ 46 ∷ []) back (some_right front (46 ∷ []) (some_more 46 []))

pub addr_text_some : (addr : Addr) → 0 < length (addr_text addr)
addr_text_some (V4 n) = v4_some _ (decimal (n % 256))
addr_text_some (V6 n) =
    let gs = groups n in let len = longest_run gs in
    either_some (nat_le len 1) (colon_text gs) (short_text (run_start len gs) len gs) (colons_some gs (omega arith)) (short_some (run_start len gs) len gs)

pub net_text_some : (net : Net) → 0 < length (net_text net)
net_text_some net = some_left (addr_text net.addr) (47 ∷ decimal net.len) (addr_text_some net.addr)

-- what reading takes of a text that goes on behind such a run
run_before : (p : ℕ → Bool) (xs ys : List ℕ) → All (λ b. p b ≡ true) xs → p (get_or ys 0 0) ≡ false → take_while p (xs ++ ys) ≡ xs
run_before p [] [] passes stops = refl
run_before p [] (y ∷ ys) passes stops = take_while-cons p y ys ∙ ap (λ t. cond t (y ∷ take_while p ys) []) stops
run_before p (x ∷ xs) ys passes stops =
    let Passes : ℕ → Type 0 = λ b. p b ≡ true in
    take_while-cons p x (xs ++ ys) ∙ ap (λ t. cond t (x ∷ take_while p (xs ++ ys)) []) (All-head Passes x xs passes)
    ∙ ap (λ r. x ∷ r) (run_before p xs ys (All-tail Passes x xs passes) stops)

-- the text of an address is the whole run, where no byte of addresses follows
pub addr_run_before : (addr : Addr) (rest : List ℕ) → is_addr_byte (get_or rest 0 0) ≡ false → addr_run (addr_text addr ++ rest) ≡ addr_text addr
addr_run_before addr rest stops = run_before is_addr_byte (addr_text addr) rest (addr_text_bytes addr) stops

-- and that of a prefix, where no byte of prefixes follows
pub net_run_before : (net : Net) (rest : List ℕ) → is_net_byte (get_or rest 0 0) ≡ false → net_run (net_text net ++ rest) ≡ net_text net
net_run_before net rest stops = run_before is_net_byte (net_text net) rest (net_text_bytes net) stops

hex_is_addr_byte : (b : ℕ) → digit_value b < 16 → is_addr_byte b ≡ true
hex_is_addr_byte b small = grind (arith, nat_tests)

-- each byte of a spelling is a byte of addresses, or of prefixes
pub addr_spelling_bytes : (text : List ℕ) (addr : Addr) → IsAddrText text addr → All (λ b. is_addr_byte b ≡ true) text
addr_spelling_bytes text (V4 n) is = subst (λ (t : List ℕ). All IsAddrByte t) (sym is.1) (v4_text_all n)
addr_spelling_bytes text (V6 n) is = v6_all IsAddrByte hex_is_addr_byte refl text n is

pub net_spelling_bytes : (text : List ℕ) (net : Net) → IsNetText text net → All (λ b. is_net_byte b ≡ true) text
net_spelling_bytes text net is =
    let IsNetByte : ℕ → Type 0 = λ b. is_net_byte b ≡ true in
    let front = All-weaker IsAddrByte IsNetByte addr_byte_is_net_byte is.front (addr_spelling_bytes is.front net.addr is.addr) in
    let len = All-weaker IsAddrByte IsNetByte addr_byte_is_net_byte (decimal net.len) (decimal_all net.len) in
    subst (λ (t : List ℕ). All IsNetByte t) (sym is.whole) (All-append IsNetByte is.front (47 ∷ decimal net.len) front (All-cons IsNetByte 47 (decimal net.len) refl len))

-- so a spelling is the whole run, where no such byte follows
pub addr_spelling_run : (text rest : List ℕ) (addr : Addr) → IsAddrText text addr → is_addr_byte (get_or rest 0 0) ≡ false → addr_run (text ++ rest) ≡ text
addr_spelling_run text rest addr is stops = run_before is_addr_byte text rest (addr_spelling_bytes text addr is) stops

pub net_spelling_run : (text rest : List ℕ) (net : Net) → IsNetText text net → is_net_byte (get_or rest 0 0) ≡ false → net_run (text ++ rest) ≡ text
net_spelling_run text rest net is stops = run_before is_net_byte text rest (net_spelling_bytes text net is) stops

-- the text of an IPv4 prefix spells it
pub net_text_spells : (n len : ℕ) → n < 2 ^ 32 → IsPrefix (V4 n) len → IsNetText (net_text (net_of (V4 n) len)) (net_of (V4 n) len)
net_text_spells n len small prefix = record { prefix = prefix; front = v4_text n; addr = (small, refl); whole = refl }

-- the text of an address spells it, where its number is within the family's
pub addr_text_spells : (addr : Addr) → number_of addr < 2 ^ width_of addr → IsAddrText (addr_text addr) addr
addr_text_spells (V4 n) small = (small, refl)
addr_text_spells (V6 n) small = v6_text_spells n small

-- and that of a prefix spells it
pub net_texts_spell : (net : Net) → number_of net.addr < 2 ^ width_of net.addr → IsPrefix net.addr net.len → IsNetText (net_text net) net
net_texts_spell net small prefix = record { prefix = prefix; front = addr_text net.addr; addr = addr_text_spells net.addr small; whole = refl }

-- a text spells one address
pub addr_texts_agree : (text : List ℕ) (a b : Addr) → IsAddrText text a → IsAddrText text b → a ≡ b
addr_texts_agree = texts_agree

-- a text spells one prefix
pub net_texts_agree : (text : List ℕ) (a b : Net) → IsNetText text a → IsNetText text b → a ≡ b
net_texts_agree text a b one other =
    let parts = net_parts text one.front (decimal a.len) b (net_split text a one) other in
    let addr : a.addr ≡ b.addr = texts_agree one.front a.addr b.addr one.addr parts.0 in
    let len : a.len ≡ b.len = decimal_injective a.len b.len (omega (arith, len_below a.addr a.len one.prefix)) (omega (arith, parts.1.0)) parts.1.1 in
    ap (λ x. net_of x a.len) addr ∙ ap (λ k. net_of b.addr k) len
