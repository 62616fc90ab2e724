-- Four numbers with dots between them.
use Rattle.std.proofs.Common.{◌≡◌, ℕ, ◌/◌, ◌%◌, ◌^◌, List, ◌∷◌, ◌++◌, Some, refl, sym, ap, ◌∙◌, arith, append_assoc}
use Rattle.std.specs.Fmt.{decimal}
use Rattle.std.proofs.lemmas.Fmt.{decimal_injective}
use Rattle.std.proofs.lemmas.Option.{some_pair_parts}
use Rattle.bits_ip.specs.declared.address.Addr.{Addr}
use Rattle.bits_ip.specs.declared.address.Addr.TheVariants.{V4, V6}
use Rattle.bits_ip.specs.Parts.{split_first, IsOctet, IsOctetFirst}
use Rattle.std.specs.Int.Digits.{number_from_digits}
use Rattle.bits_ip.specs.Text.{v4_text, groups, IsAddrText, IsV6Text}
use Rattle.bits_ip.proofs.Bits.{groups_number}
use Rattle.bits_ip.proofs.Colons.{groups_agree, v6_lacks_dot}
use Rattle.bits_ip.proofs.Octets.{octet_lacks}
use Rattle.bits_ip.proofs.Splits.{split_at_mark}

-- an octet and what follows it are told apart by the dot
pub octet_split : (text : List ℕ) (n : ℕ) (rest : List ℕ) → IsOctetFirst text n rest → split_first 46 text ≡ Some (decimal n, rest)
octet_split text n rest is = rw is.1 (split_at_mark 46 (decimal n) rest (octet_lacks n 46 is.0 (λ r. omega arith)))

pub octets_agree : (text : List ℕ) (m : ℕ) (r : List ℕ) (n : ℕ) (s : List ℕ) → IsOctetFirst text m r → IsOctetFirst text n s → (m ≡ n) × (r ≡ s)
octets_agree text m r n s one other =
    let same = some_pair_parts (decimal m) (decimal n) r s (sym (octet_split text m r one) ∙ octet_split text n s other) in
    (decimal_injective m n (omega (arith, one.0)) (omega (arith, other.0)) same.0, same.1)

-- what stands behind the second dot of an address, and behind the first
abbrev pub behind_second : ℕ → List ℕ
behind_second n = decimal (n / 2 ^ 8 % 256) ++ 46 ∷ decimal (n % 256)

abbrev pub behind_first : ℕ → List ℕ
behind_first n = decimal (n / 2 ^ 16 % 256) ++ 46 ∷ behind_second n

pub v4_text_is : (n : ℕ) → v4_text n ≡ decimal (n / 2 ^ 24) ++ 46 ∷ behind_first n
v4_text_is n = simp append_assoc

pub first_octet : (text : List ℕ) (n : ℕ) → IsAddrText text (V4 n) → IsOctetFirst text (n / 2 ^ 24) (behind_first n)
first_octet text n is = (omega (arith, is.0), is.1 ∙ v4_text_is n)

pub second_octet : (text : List ℕ) (n a : ℕ) (r : List ℕ) → IsAddrText text (V4 n) → IsOctetFirst text a r → IsOctetFirst r (n / 2 ^ 16 % 256) (behind_second n)
second_octet text n a r is one = (omega arith, (octets_agree text a r _ _ one (first_octet text n is)).1)

pub third_octet : (text : List ℕ) (n a : ℕ) (r : List ℕ) (b : ℕ) (s : List ℕ) → IsAddrText text (V4 n) → IsOctetFirst text a r → IsOctetFirst r b s → IsOctetFirst s (n / 2 ^ 8 % 256) (decimal (n % 256))
third_octet text n a r b s is one two = (omega arith, (octets_agree r b s _ _ two (second_octet text n a r is one)).1)

pub fourth_octet : (text : List ℕ) (n a : ℕ) (r : List ℕ) (b : ℕ) (s : List ℕ) (c : ℕ) (t : List ℕ) → IsAddrText text (V4 n) → IsOctetFirst text a r → IsOctetFirst r b s → IsOctetFirst s c t → IsOctet t (n % 256)
fourth_octet text n a r b s c t is one two three = (omega arith, (octets_agree s c t _ _ three (third_octet text n a r b s is one two)).1)

-- a text spells one address
v4_texts_agree : (text : List ℕ) (m n : ℕ) → IsAddrText text (V4 m) → IsAddrText text (V4 n) → m ≡ n
v4_texts_agree text m n one other =
    let a = first_octet text m one in
    let first = octets_agree text _ _ _ _ a (first_octet text n other) in
    let b = second_octet text m _ _ one a in
    let second = octets_agree _ _ _ _ _ b (second_octet text n _ _ other a) in
    let c = third_octet text m _ _ _ _ one a b in
    let third = octets_agree _ _ _ _ _ c (third_octet text n _ _ _ _ other a b) in
    let fourth = decimal_injective (m % 256) (n % 256) (omega arith) (omega arith) third.1 in
    omega (arith, first.0, second.0, third.0, fourth)

v6_texts_agree : (text : List ℕ) (m n : ℕ) → IsV6Text text m → IsV6Text text n → m ≡ n
v6_texts_agree text m n one other =
    let same = groups_agree text (groups m) (groups n) one.1 other.1 refl in
    sym (groups_number m one.0) ∙ ap (λ gs. number_from_digits 65536 gs) same ∙ groups_number n other.0

families_differ : (text : List ℕ) (m n : ℕ) → IsAddrText text (V4 m) → IsV6Text text n → ⊥
families_differ text m n one other = v6_lacks_dot text (decimal (m / 2 ^ 24)) (behind_first m) n other (one.1 ∙ v4_text_is m)

pub texts_agree : (text : List ℕ) (a b : Addr) → IsAddrText text a → IsAddrText text b → a ≡ b
texts_agree text (V4 m) (V4 n) one other = ap (λ k. V4 k) (v4_texts_agree text m n one other)
texts_agree text (V4 m) (V6 n) one other = absurd (families_differ text m n one other)
texts_agree text (V6 m) (V4 n) one other = absurd (families_differ text n m other one)
texts_agree text (V6 m) (V6 n) one other = ap (λ k. V6 k) (v6_texts_agree text m n one other)

pub no_address : (text : List ℕ) → ((n : ℕ) → IsAddrText text (V4 n) → ⊥) → ((n : ℕ) → IsV6Text text n → ⊥) → (addr : Addr) → IsAddrText text addr → ⊥
no_address text one other (V4 n) is = one n is
no_address text one other (V6 n) is = other n is
