-- How addresses and prefixes are written (`v4_text`, `v6_text`, `net_text`), which bytes spell them
-- (`IsAddrText`, `IsNetText`, `IsV6Text`), and the run of bytes that is read (`addr_run`,
-- `net_run`). IPv4: four decimals, one spelling for each address. IPv6: eight groups, or two colons
-- once in place of one or more groups of zeros; a group (`IsGroup`) has one to four hexadecimal
-- digits.
-- Not modelled: IPv6 addresses that end in an IPv4 address (`::ffff:1.2.3.4`).
-- From: dotted decimals, in one spelling: own; RFC 4291, section 2.2, forms 1 and 2; RFC 5952,
-- section 4, for the one IPv6 text that is written.
-- Example: 203.0.113.0/24, 2001:db8::1 and 2001:0:0:1::1 are written so. `10.0.0/8`, `010.0.0.0/8`,
-- `10.0.0.0/08`, `256.0.0.0/8` spell nothing. `2001:DB8:0:0:8:800:200C:417A`, `FF01::101`, `::`,
-- `1:2:3:4:5:6:7::` are spellings; `1:2:3:4:5:6:7:8::`, `1::2::3`, `12345::`, `:1`,
-- `::ffff:1.2.3.4`, `2001:db8::1/32` and `::/032` spell nothing.
use Rattle.std.specs.Prelude.{◌≡◌, ℕ, ◌+◌, ◌*◌, ◌-◌, ◌/◌, ◌%◌, ◌^◌, ◌<◌, Bool, ◌&&◌, ◌||◌, ◌==◌, nat_le, if◌then◌else◌, max, List, [], ◌∷◌, ◌++◌, map, take, drop, take_while, decimal, false, length, ◌≤◌, ◌⊎◌, ⊤, replicate}
use Rattle.std.specs.Fmt.{digits}
use Rattle.std.specs.Char.{is_ascii_digit}
use Rattle.std.specs.List.{join_with_byte}
use Rattle.std.specs.Str.Parse.{IsNumeral, digits_value}
use Rattle.bits_ip.specs.declared.address.Addr.{Addr}
use Rattle.bits_ip.specs.declared.address.Addr.TheVariants.{V4, V6}
use Rattle.bits_ip.specs.Prefix.{Net, IsPrefix}

-- IPv4: four numbers joined by dots, each without leading zeros
abbrev pub v4_text : ℕ → List ℕ
v4_text n =
    decimal (n / 2 ^ 24) ++ 46 ∷ [] ++ decimal (n / 2 ^ 16 % 256) ++ 46 ∷ []
    ++ decimal (n / 2 ^ 8 % 256) ++ 46 ∷ [] ++ decimal (n % 256)

-- IPv6: the eight groups of sixteen bits
abbrev pub groups : ℕ → List ℕ
groups n = map (λ i. n / 2 ^ (112 - 16 * i) % 2 ^ 16) (0 ∷ 1 ∷ 2 ∷ 3 ∷ 4 ∷ 5 ∷ 6 ∷ 7 ∷ [])

-- groups in hexadecimal, joined by colons
abbrev pub colon_text : List ℕ → List ℕ
colon_text [] = []
colon_text (g ∷ []) = digits 16 false g
colon_text (g ∷ h ∷ gs) = digits 16 false g ++ 58 ∷ colon_text (h ∷ gs)

-- how many zero groups stand at the front
abbrev pub zero_run : List ℕ → ℕ
zero_run [] = 0
zero_run (g ∷ gs) = if g == 0 then zero_run gs + 1 else 0

-- how many stand in the longest run of zero groups
abbrev pub longest_run : List ℕ → ℕ
longest_run [] = 0
longest_run (g ∷ gs) = max (zero_run (g ∷ gs)) (longest_run gs)

-- where the first run of this length begins
abbrev pub run_start : ℕ → List ℕ → ℕ
run_start len [] = 0
run_start len (g ∷ gs) = if zero_run (g ∷ gs) == len then 0 else run_start len gs + 1

-- two colons in place of the first of the longest runs of zero groups
abbrev pub short_text : ℕ → ℕ → List ℕ → List ℕ
short_text start len gs = colon_text (take start gs) ++ 58 ∷ 58 ∷ colon_text (drop (start + len) gs)

-- RFC 5952, section 4: small letters, no leading zeros, and the longest run of two or more zero
-- groups left out
abbrev pub v6_text : ℕ → List ℕ
v6_text n =
    let gs = groups n in let len = longest_run gs in
    if nat_le len 1 then colon_text gs else short_text (run_start len gs) len gs

-- So many zeros stand together between these groups: more stand together nowhere, and as many nowhere
-- earlier.
pub record IsLongestRun (front : List ℕ) (len : ℕ) (back gs : List ℕ) : Type 0 where
  pub whole : gs ≡ front ++ replicate len 0 ++ back
  pub longest : (before : List ℕ) (n : ℕ) (behind : List ℕ) → gs ≡ before ++ replicate n 0 ++ behind
      → (n ≤ len) × (n ≡ len → length front ≤ length before)

-- RFC 5952, section 4.2, in its own words: two colons stand for the longest run of zeros, for the
-- first of the longest, and never for a single group.
pub record IsShortText (text gs : List ℕ) : Type 0 where
  pub front : List ℕ
  pub len : ℕ
  pub back : List ℕ
  pub run : IsLongestRun front len back gs
  pub text_is : text
      ≡ (if nat_le len 1 then colon_text gs else colon_text front ++ 58 ∷ 58 ∷ colon_text back)

abbrev pub addr_text : Addr → List ℕ
addr_text (V4 n) = v4_text n
addr_text (V6 n) = v6_text n

abbrev pub net_text : Net → List ℕ
net_text net = addr_text net.addr ++ 47 ∷ decimal net.len

-- The bytes of addresses are hexadecimal digits, dots and colons; those of prefixes have slashes
-- too.
abbrev pub is_addr_byte : ℕ → Bool
is_addr_byte b =
    is_ascii_digit b || (nat_le 65 b && nat_le b 70) || (nat_le 97 b && nat_le b 102)
    || (b == 46) || (b == 58)

abbrev pub is_net_byte : ℕ → Bool
is_net_byte b = is_addr_byte b || (b == 47)

-- the longest front of a text that is made of such bytes
abbrev pub addr_run : List ℕ → List ℕ
addr_run text = take_while is_addr_byte text

abbrev pub net_run : List ℕ → List ℕ
net_run text = take_while is_net_byte text

-- one to four hexadecimal digits, small or capital letters, spell a group of sixteen bits
abbrev pub IsGroup : List ℕ → ℕ → Type 0
IsGroup word g = IsNumeral 16 word × (length word ≤ 4) × (digits_value 16 word ≡ g)

-- these words spell these groups, one each
abbrev pub AreGroups : List (List ℕ) → List ℕ → Type 0
AreGroups [] [] = ⊤
AreGroups (word ∷ words) (g ∷ gs) = IsGroup word g × AreGroups words gs
AreGroups _ _ = ⊥

-- words with a colon between each two
abbrev pub joined : List (List ℕ) → List ℕ
joined words = join_with_byte 58 words

-- all groups are written
pub record IsWhole (text gs : List ℕ) : Type 0 where
  pub words : List (List ℕ)
  pub whole : text ≡ joined words
  pub groups_are : AreGroups words gs

-- two colons stand in place of one or more groups of zeros, once
pub record IsShortened (text gs : List ℕ) : Type 0 where
  pub front : List (List ℕ)
  pub back : List (List ℕ)
  pub before : List ℕ
  pub behind : List ℕ
  pub zeros : ℕ
  pub whole : text ≡ joined front ++ 58 ∷ 58 ∷ joined back
  pub front_are : AreGroups front before
  pub back_are : AreGroups back behind
  pub some : 1 ≤ zeros
  pub groups_are : gs ≡ before ++ replicate zeros 0 ++ behind

-- IPv6 is read as RFC 4291, section 2.2, says in its first two forms.
abbrev pub IsV6Text : List ℕ → ℕ → Type 0
IsV6Text text n = (n < 2 ^ 128) × (IsWhole text (groups n) ⊎ IsShortened text (groups n))

-- The text spells this address. An IPv4 address has one spelling.
abbrev pub IsAddrText : List ℕ → Addr → Type 0
IsAddrText text (V4 n) = (n < 2 ^ 32) × (text ≡ v4_text n)
IsAddrText text (V6 n) = IsV6Text text n

-- The text spells this prefix: its address, a slash and the length without leading zeros.
pub record IsNetText (text : List ℕ) (net : Net) : Type 0 where
  pub prefix : IsPrefix net.addr net.len
  pub front : List ℕ
  pub addr : IsAddrText front net.addr
  pub whole : text ≡ front ++ 47 ∷ decimal net.len
