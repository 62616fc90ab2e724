-- An address, a slash and a length.
use Rattle.std.proofs.Common.{◌≡◌, ◌≢◌, ℕ, ◌<◌, ◌/◌, ◌%◌, ◌^◌, List, ◌∷◌, ◌++◌, All, Some, Result, Ok, Err, IfOk, OnErr, MatchOption, sym, ap, ◌∙◌, arith}
use Rattle.std.specs.Result.{result_ok}
use Rattle.std.specs.Fmt.{decimal}
use Rattle.std.proofs.lemmas.List.Elements.{All-append, All-cons}
use Rattle.std.proofs.lemmas.Fmt.{decimal_injective}
use Rattle.std.proofs.lemmas.Option.{some_pair_parts}
use Rattle.bits_ip.specs.declared.address.Addr.{Addr}
use Rattle.bits_ip.specs.declared.address.Addr.TheVariants.{V4, V6}
use Rattle.bits_ip.specs.Parts.{split_first, IsOctet}
use Rattle.bits_ip.specs.Prefix.{Net, IsPrefix}
use Rattle.bits_ip.specs.Text.{v4_text, IsAddrText, IsNetText}
use Rattle.bits_ip.proofs.Colons.{v6_lacks_slash}
use Rattle.bits_ip.proofs.Dotted.{behind_first, behind_second, v4_text_is, texts_agree}
use Rattle.bits_ip.proofs.Octets.{octet_lacks}
use Rattle.bits_ip.proofs.Splits.{joined_parts, split_at_mark}

abbrev NoSlash : ℕ → Type 0
NoSlash b = b ≢ 47

octet_lacks_slash : (n : ℕ) → n < 256 → All NoSlash (decimal n)
octet_lacks_slash n small = octet_lacks n 47 small (λ r. omega arith)

-- a number, a dot and more
behind_dot_lacks_slash : (n : ℕ) (rest : List ℕ) → n < 256 → All NoSlash rest → All NoSlash (decimal n ++ 46 ∷ rest)
behind_dot_lacks_slash n rest small clear =
    All-append NoSlash (decimal n) (46 ∷ rest) (octet_lacks_slash n small) (All-cons NoSlash 46 rest (λ e. omega arith) clear)

v4_text_lacks_slash : (n : ℕ) → n < 2 ^ 32 → All NoSlash (v4_text n)
v4_text_lacks_slash n small =
    let fourth = octet_lacks_slash (n % 256) (omega arith) in
    let third = behind_dot_lacks_slash (n / 2 ^ 8 % 256) _ (omega arith) fourth in
    let second = behind_dot_lacks_slash (n / 2 ^ 16 % 256) (behind_second n) (omega arith) third in
    rw v4_text_is (behind_dot_lacks_slash (n / 2 ^ 24) (behind_first n) (omega arith) second)

address_lacks_slash : (text : List ℕ) (addr : Addr) → IsAddrText text addr → All NoSlash text
address_lacks_slash text (V4 n) is = rw is.1 (v4_text_lacks_slash n is.0)
address_lacks_slash text (V6 n) is = v6_lacks_slash text n is

-- a prefix's text is told apart by its slash
pub net_split : (text : List ℕ) (net : Net) (is : IsNetText text net) → split_first 47 text ≡ Some (is.front, decimal net.len)
net_split text net is = rw is.whole (split_at_mark 47 is.front (decimal net.len) (address_lacks_slash is.front net.addr is.addr))

pub len_below : (addr : Addr) (len : ℕ) → IsPrefix addr len → len < 256
len_below (V4 n) len is = omega (arith, is.within)
len_below (V6 n) len is = omega (arith, is.within)

-- both parts of a prefix's text
pub net_parts : (text front digits : List ℕ) (net : Net) → split_first 47 text ≡ Some (front, digits) → IsNetText text net → IsAddrText front net.addr × IsOctet digits net.len
net_parts text front digits net split is =
    let same = some_pair_parts is.front front (decimal net.len) digits (sym (net_split text net is) ∙ split) in
    (rw (← same.0) is.addr, (len_below net.addr net.len is.prefix, sym same.1))

-- what both parts spell is the prefix
net_is : (text front digits : List ℕ) (addr : Addr) (len : ℕ) (net : Net) → split_first 47 text ≡ Some (front, digits) → IsAddrText front addr → IsOctet digits len → IsNetText text net → IsPrefix addr len
net_is text front digits addr len net split spelled octet is =
    let parts = net_parts text front digits net split is in
    let addr_is : net.addr ≡ addr = texts_agree front net.addr addr parts.0 spelled in
    let len_is : net.len ≡ len = decimal_injective net.len len (omega (arith, parts.1.0)) (omega (arith, octet.0)) (sym parts.1.1 ∙ octet.1) in
    rw (← addr_is, ← len_is) is.prefix

-- the prefix that is made of both parts has that text, and none has it where none is made
pub net_made : {E : Type 0} (text front digits : List ℕ) (addr : Addr) (len : ℕ) (r : Result Net E) → split_first 47 text ≡ Some (front, digits) → IsAddrText front addr → IsOctet digits len → IfOk r (λ net. (net.addr ≡ addr) × (net.len ≡ len)) → IfOk r (λ net. IsPrefix addr len) → OnErr r (IsPrefix addr len → ⊥) → MatchOption (result_ok r) ((net : Net) → IsNetText text net → ⊥) (λ net. IsNetText text net)
net_made text front digits addr len (Ok net) split spelled octet made is refused = record {
  prefix = rw (made.0, made.1) is;
  front = front;
  addr = rw made.0 spelled;
  whole = rw made.1 (joined_parts 47 text front digits split ∙ ap (λ d. front ++ 47 ∷ d) octet.1);
}
net_made text front digits addr len (Err e) split spelled octet made is refused =
    λ net spells. refused (net_is text front digits addr len net split spelled octet spells)
