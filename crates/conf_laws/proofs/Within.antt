-- A word that is refused at a later token than its first: the tokens before begin a configuration
-- where they become another word.
use Rattle.std.proofs.Common.{◌≡◌, ℕ, zero, suc, ◌-◌, ◌%◌, Bool, true, false, cond, ◌&&◌, List, [], ◌∷◌, ◌++◌, Some, None, refl, sym, ap, subst, ◌∙◌, arith, append_assoc, inl, inr, ◌⊎◌}
use Rattle.std.specs.Prelude.{codes}
use Rattle.bits_ip.specs.declared.address.Addr.{Addr}
use Rattle.bits_ip.specs.declared.address.Addr.TheVariants.{V4, V6}
use Rattle.conf_lex.specs.Symbols.{symbol_of, is_else, is_colon, is_slash}
use Rattle.conf_lex.specs.Words.{kind_symbol}
use Rattle.conf_scan.specs.declared.scan.Lexeme.TheVariants as lexemes
use Rattle.conf_scan.specs.declared.token.TokenKind.{TokenKind}
use Rattle.conf_scan.specs.declared.token.TokenKind.TheVariants as token_kinds
use Rattle.conf_lex.specs.declared.word.Word.{Word}
use Rattle.conf_lex.specs.declared.word.Word.TheVariants as words
use Rattle.conf_lex.specs.Kind.{Kind, IsAddress, IsPrefix, IsNoPrefix, kind_of}
use Rattle.filt_syntax.specs.RefusedToken.{torn_of, some_prefix, some_address}
use Rattle.filt_syntax.specs.declared.refused_token.Torn.TheVariants as torns
use Rattle.conf_words.specs.declared.significant.Region.{Region}
use Rattle.conf_words.specs.declared.significant.Region.TheVariants as regions
use Rattle.conf_laws.proofs.Marks.{Mark, sym_of, colon_first, slash_first, sort_first, behind_one, folded, or_kind, first_kind, behind_kind, is_significant_kind, heard, front_heard, state}
use Rattle.conf_laws.proofs.ByTokens.{alone_by_kind, else_no_net, ip_first, is_net, is_open, not_both, open_address, open_says, slash_kind, slash_of_kind, torn_cond}
use Rattle.conf_laws.specs.Spaced.{IsSpelling}
use Rattle.conf_laws.proofs.Pieces.{IsPiece, is_number, heard_then}

-- ---- which tokens a word is made of

net_by : (slice : List ℕ) (k : TokenKind) (ms : List Mark) → is_net (first_kind (slice, k) ms).0 ≡ true → (addr : Addr) × (k ≡ token_kinds.Ip addr)
net_by slice (token_kinds.Ip addr) ms e = (addr, refl)
net_by slice token_kinds.Name ms e = absurd (not_both _ e (else_no_net (is_else (symbol_of slice) && colon_first ms) slice (symbol_of slice)))
net_by slice token_kinds.Punctuation ms e = absurd (not_both _ e (else_no_net (is_else (symbol_of slice) && colon_first ms) slice (symbol_of slice)))
net_by slice token_kinds.QuotedName ms e = absurd cc
net_by slice (token_kinds.Number n) ms e = absurd cc
net_by slice token_kinds.Text ms e = absurd cc

-- a word of addresses begins with an address
pub net_mark : (m : Mark) (ms : List Mark) → is_net (first_kind m ms).0 ≡ true → (addr : Addr) × (m.1 ≡ token_kinds.Ip addr)
net_mark m ms e = net_by m.0 m.1 ms e

-- a slash is one token
pub slash_mark : (m : Mark) (ms : List Mark) → (first_kind m ms).0 ≡ slash_kind → is_slash (sym_of m) ≡ true
slash_mark m ms e = slash_of_kind m.0 m.1 ms e

pub address_alone : (m : Mark) (ms : List Mark) → (first_kind m ms).0 ≡ IsAddress → first_kind m ms ≡ (IsAddress, 1)
address_alone m ms e =
    let a = net_mark m ms (ap is_net e) in
    let first = ip_first m ms a.0 a.1 in
    first ∙ alone_by_kind a.0 (slash_first ms) (sort_first (behind_one ms)) (ap (λ (k : Kind × ℕ). k.0) (sym first) ∙ e)

-- ---- regions in which addresses say something

pub address_open : (q : Region) (k : Kind) → is_net k ≡ true → is_significant_kind q k ≡ true → is_open q ≡ true
address_open regions.Statements k net e = refl
address_open regions.Protocol k net e = refl
address_open regions.Device k net e = refl
address_open regions.Named k net e = refl
address_open regions.Log IsAddress net e = absurd cc
address_open regions.Log IsPrefix net e = absurd cc
address_open regions.Log IsNoPrefix net e = absurd cc
address_open regions.Log _ net e = absurd cc
address_open (regions.Inside zero) IsAddress net e = absurd cc
address_open (regions.Inside zero) IsPrefix net e = absurd cc
address_open (regions.Inside zero) IsNoPrefix net e = absurd cc
address_open (regions.Inside zero) _ net e = absurd cc
address_open (regions.Inside (suc n)) k net e = absurd cc

-- ---- pieces that begin with tokens of the text

no_word : (k : TokenKind) (slice : List ℕ) (addr : Addr) → k ≡ token_kinds.Ip addr → kind_symbol slice k ≡ None
no_word k slice addr e = rw e refl

ip_no_number : (k : TokenKind) (addr : Addr) → k ≡ token_kinds.Ip addr → is_number (Some k) ≡ false
ip_no_number k addr e = rw e refl

one_heard : (r : Region) (m : Mark) (rest : List Mark) (k : Kind) → first_kind m rest ≡ (k, 1) → heard r 0 (m ∷ rest) ≡ heard_then r k rest
one_heard r m rest k e = ap (λ (j : Kind × ℕ). cond (is_significant_kind r j.0) (j.0 ∷ heard (behind_kind r j.0) (j.1 - 1) rest) (heard (behind_kind r j.0) (j.1 - 1) rest)) e

address_first : (m : Mark) (rest : List Mark) (addr : Addr) → m.1 ≡ token_kinds.Ip addr → slash_first rest ≡ false → first_kind m rest ≡ (IsAddress, 1)
address_first m rest addr e none = ip_first m rest addr e ∙ ap (λ (b : Bool). or_kind (folded (token_kinds.Ip addr) b (sort_first (behind_one rest))) IsAddress) none

-- an address of the text, alone
pub address_piece : (m : Mark) (addr : Addr) → m.1 ≡ token_kinds.Ip addr → IsSpelling m → IsPiece (some_address, m ∷ [])
address_piece m addr e is = record {
  spelled = (is, tt);
  heard = λ r rest calm. one_heard r m rest IsAddress (address_first m rest addr e calm);
  no_slash = λ rest. ap is_slash (no_word m.1 m.0 addr e);
  no_number = λ rest. ip_no_number m.1 addr e;
  colon = λ rest c. absurd (let never : is_colon None ≡ true = ap is_colon (sym (no_word m.1 m.0 addr e)) ∙ c in cc);
}

-- the length with which each address is a prefix
abbrev pub whole_mark : Addr → Mark
whole_mark (V4 n) = (codes "32", token_kinds.Number 32)
whole_mark (V6 n) = (codes "128", token_kinds.Number 128)

whole_spelling : (addr : Addr) → IsSpelling (whole_mark addr)
whole_spelling (V4 n) = record { sort = lexemes.Decimal; shape = (omega arith, refl); value = record { some = omega arith; value = refl; fits = omega arith } }
whole_spelling (V6 n) = record { sort = lexemes.Decimal; shape = (omega arith, refl); value = record { some = omega arith; value = refl; fits = omega arith } }

by_one : (n : ℕ) → n % 1 ≡ 0
by_one n = omega arith

pub whole_first : (m s : Mark) (rest : List Mark) (addr : Addr) → m.1 ≡ token_kinds.Ip addr → is_slash (sym_of s) ≡ true → first_kind m (s ∷ whole_mark addr ∷ rest) ≡ (IsPrefix, 3)
whole_first m s rest (V4 n) e slash =
    let one : n % 1 ≡ 0 = by_one n in
    ip_first m (s ∷ whole_mark (V4 n) ∷ rest) (V4 n) e ∙ ap (λ (b : Bool). or_kind (folded (token_kinds.Ip (V4 n)) b (Some (token_kinds.Number 32))) IsAddress) slash ∙ rw one refl
whole_first m s rest (V6 n) e slash =
    let one : n % 1 ≡ 0 = by_one n in
    ip_first m (s ∷ whole_mark (V6 n) ∷ rest) (V6 n) e ∙ ap (λ (b : Bool). or_kind (folded (token_kinds.Ip (V6 n)) b (Some (token_kinds.Number 128))) IsAddress) slash ∙ rw one refl

-- an address of the text, a slash and its whole length
pub prefix_piece : (m s : Mark) (addr : Addr) → m.1 ≡ token_kinds.Ip addr → is_slash (sym_of s) ≡ true → IsSpelling m → IsSpelling s → IsPiece (some_prefix, m ∷ s ∷ whole_mark addr ∷ [])
prefix_piece m s addr e slash is two = record {
  spelled = (is, (two, (whole_spelling addr, tt)));
  heard = λ r rest calm. ap (λ (j : Kind × ℕ). cond (is_significant_kind r j.0) (j.0 ∷ heard (behind_kind r j.0) (j.1 - 1) (s ∷ whole_mark addr ∷ rest)) (heard (behind_kind r j.0) (j.1 - 1) (s ∷ whole_mark addr ∷ rest))) (whole_first m s rest addr e slash);
  no_slash = λ rest. ap is_slash (no_word m.1 m.0 addr e);
  no_number = λ rest. ip_no_number m.1 addr e;
  colon = λ rest c. absurd (let never : is_colon None ≡ true = ap is_colon (sym (no_word m.1 m.0 addr e)) ∙ c in cc);
}

pub sign_slash : is_slash (sym_of (codes "/", token_kinds.Punctuation)) ≡ true
unfolding symbol_of
sign_slash = refl

pub sign_spelling : IsSpelling (codes "/", token_kinds.Punctuation)
sign_spelling = record { sort = lexemes.Punctuation; shape = (refl, λ e. refl); value = tt }

-- ---- a front whose last word is an address

pub record EndsInIp (r : Region) (skip : ℕ) (c rest : List Mark) (ks : List Kind) : Type 0 where
  pub front : List Mark
  pub mark : Mark
  pub addr : Addr
  pub cut : c ≡ front ++ mark ∷ []
  pub ip : mark.1 ≡ token_kinds.Ip addr
  pub heard : front_heard r skip front (mark ∷ rest) ≡ ks
  pub done : (state r skip front (mark ∷ rest)).1 ≡ 0

abbrev LastOf : Bool → Kind → List Kind → List Kind → Type 0
LastOf b k fh ks =
    ((fh ≡ []) × (b ≡ true) × (k ≡ IsAddress) × (ks ≡ []))
    ⊎ ((js : List Kind) × (fh ≡ js ++ IsAddress ∷ []) × (cond b (k ∷ js) js ≡ ks))

last_of : (b : Bool) (k : Kind) (fh ks : List Kind) → cond b (k ∷ fh) fh ≡ ks ++ IsAddress ∷ [] → LastOf b k fh ks
last_of false k fh ks e = inr (ks, e, refl)
last_of true k fh [] e = let head : k ≡ IsAddress = cc in let tail : fh ≡ [] = cc in inl (tail, refl, head, refl)
last_of true k fh (j ∷ ks) e =
    let head : k ≡ j = cc in
    let tail : fh ≡ ks ++ IsAddress ∷ [] = cc in
    inr (ks, tail, ap (λ (i : Kind). i ∷ ks) head)

-- where the region is open the next word says something
some_significant : (q : Region) (m : Mark) (ms rest : List Mark) → is_open q ≡ true → front_heard q 0 (m ∷ ms) rest ≡ [] → ⊥
some_significant q m ms rest free e =
    let k = first_kind m (ms ++ rest) in
    let fh = front_heard (behind_kind q k.0) (k.1 - 1) ms rest in
    let significant : front_heard q 0 (m ∷ ms) rest ≡ k.0 ∷ fh = ap (λ (b : Bool). cond b (k.0 ∷ fh) fh) (open_says q k.0 free) in
    let never : k.0 ∷ fh ≡ [] = sym significant ∙ e in
    cc

pub ends_in_ip : (r : Region) (skip : ℕ) (c rest : List Mark) (ks : List Kind) → front_heard r skip c rest ≡ ks ++ IsAddress ∷ [] → (state r skip c rest).1 ≡ 0 → EndsInIp r skip c rest ks
ends_in_ip r skip [] rest [] e done = absurd cc
ends_in_ip r skip [] rest (k ∷ ks) e done = absurd cc
ends_in_ip r (suc skip) (m ∷ ms) rest ks e done =
    let x = ends_in_ip r skip ms rest ks e done in
    record { front = m ∷ x.front; mark = x.mark; addr = x.addr; cut = ap (λ (l : List Mark). m ∷ l) x.cut; ip = x.ip; heard = x.heard; done = x.done }
ends_in_ip r zero (m ∷ ms) rest ks e done =
    let k = first_kind m (ms ++ rest) in
    by ks (last_of (is_significant_kind r k.0) k.0 (front_heard (behind_kind r k.0) (k.1 - 1) ms rest) ks e) (λ js f. ends_in_ip (behind_kind r k.0) (k.1 - 1) ms rest js f done)
  where
    ended : (ms : List Mark) → is_significant_kind r (first_kind m (ms ++ rest)).0 ≡ true → (first_kind m (ms ++ rest)).0 ≡ IsAddress → front_heard (behind_kind r (first_kind m (ms ++ rest)).0) ((first_kind m (ms ++ rest)).1 - 1) ms rest ≡ [] → EndsInIp r zero (m ∷ ms) rest []
    ended [] says is none =
        let a = net_mark m rest (ap is_net is) in
        record { front = []; mark = m; addr = a.0; cut = refl; ip = a.1; heard = refl; done = refl }
    ended (n ∷ ms) says is none =
        let k = first_kind m (n ∷ (ms ++ rest)) in
        let one = address_alone m (n ∷ (ms ++ rest)) is in
        let free = address_open r k.0 (ap is_net is) says in
        absurd (some_significant (behind_kind r IsAddress) n ms rest (open_address r free)
        (sym (ap (λ (j : Kind × ℕ). front_heard (behind_kind r j.0) (j.1 - 1) (n ∷ ms) rest) one) ∙ none))

    by : (ks : List Kind) → LastOf (is_significant_kind r (first_kind m (ms ++ rest)).0) (first_kind m (ms ++ rest)).0 (front_heard (behind_kind r (first_kind m (ms ++ rest)).0) ((first_kind m (ms ++ rest)).1 - 1) ms rest) ks
        → ((js : List Kind) → front_heard (behind_kind r (first_kind m (ms ++ rest)).0) ((first_kind m (ms ++ rest)).1 - 1) ms rest ≡ js ++ IsAddress ∷ [] → EndsInIp (behind_kind r (first_kind m (ms ++ rest)).0) ((first_kind m (ms ++ rest)).1 - 1) ms rest js)
        → EndsInIp r zero (m ∷ ms) rest ks
    by ks (inl h) more = subst (λ (l : List Kind). EndsInIp r zero (m ∷ ms) rest l) (sym h.3) (ended ms h.1 h.2 h.0)
    by ks (inr h) more =
        let x = more h.0 h.1 in
        let there : ms ++ rest ≡ x.front ++ x.mark ∷ rest = ap (λ (l : List Mark). l ++ rest) x.cut ∙ append_assoc x.front (x.mark ∷ []) rest in
        record {
          front = m ∷ x.front;
          mark = x.mark;
          addr = x.addr;
          cut = ap (λ (l : List Mark). m ∷ l) x.cut;
          ip = x.ip;
          heard = ap (λ (l : List Mark). cond (is_significant_kind r (first_kind m l).0) ((first_kind m l).0 ∷ front_heard (behind_kind r (first_kind m l).0) ((first_kind m l).1 - 1) x.front (x.mark ∷ rest)) (front_heard (behind_kind r (first_kind m l).0) ((first_kind m l).1 - 1) x.front (x.mark ∷ rest))) (sym there)
              ∙ ap (λ (l : List Kind). cond (is_significant_kind r (first_kind m (ms ++ rest)).0) ((first_kind m (ms ++ rest)).0 ∷ l) l) x.heard ∙ h.2;
          done = ap (λ (l : List Mark). (state (behind_kind r (first_kind m l).0) ((first_kind m l).1 - 1) x.front (x.mark ∷ rest)).1) (sym there) ∙ x.done;
        }

-- ---- the kinds of refused words

pub prefix_word : (w : Word) → torn_of w ≡ torns.Prefix → is_net (kind_of w) ≡ true
prefix_word (words.Prefix at net) e = refl
prefix_word (words.BadPrefix at) e = refl
prefix_word (words.Symbol s) e = absurd ((torn_cond s (is_slash (Some s)) refl).1 e)
prefix_word (words.Ip at addr) e = absurd cc
prefix_word (words.Name at start len) e = absurd cc
prefix_word (words.Number at value) e = absurd cc
prefix_word (words.Text at start len) e = absurd cc
prefix_word (words.Attribute at a) e = absurd cc
prefix_word (words.Constant at c) e = absurd cc
prefix_word (words.Placed at s) e = absurd cc
