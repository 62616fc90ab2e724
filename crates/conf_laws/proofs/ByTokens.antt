-- A refused token is the first that no sentence has there.
use Rattle.std.proofs.Common.{◌≡◌, ℕ, zero, suc, ◌-◌, ◌≤◌, Bool, true, false, cond, ◌&&◌, List, [], ◌∷◌, ◌++◌, length, Option, Some, None, refl, sym, ap, subst, ◌∙◌, arith, append_assoc, inl, inr, ◌⊎◌}
use Rattle.std.specs.Prelude.{if◌then◌else◌}
use Rattle.bits_ip.specs.declared.address.Addr.{Addr}
use Rattle.conf_lex.specs.Attributes.{attribute_of, constant_of}
use Rattle.conf_lex.specs.Symbols.{symbol_of, is_else, is_colon, is_slash}
use Rattle.conf_lex.specs.Words.{kind_symbol, is_prefix}
use Rattle.conf_ast.specs.declared.attribute.Attribute.{Attribute}
use Rattle.conf_ast.specs.declared.attribute.Constant.{Constant}
use Rattle.conf_lex.specs.declared.symbol.Symbol.{Symbol}
use Rattle.conf_lex.specs.declared.symbol.Symbol.TheVariants as symbols
use Rattle.conf_scan.specs.declared.token.TokenKind.{TokenKind}
use Rattle.conf_scan.specs.declared.token.TokenKind.TheVariants as token_kinds
use Rattle.conf_lex.specs.declared.word.Word.{Word}
use Rattle.conf_lex.specs.declared.word.Word.TheVariants as words
use Rattle.conf_lex.specs.Symbols.{is_placed}
use Rattle.conf_lex.specs.Kind.{Kind, IsNumber, IsName, IsText, IsAddress, IsPrefix, IsNoPrefix, IsAttribute, IsConstant, IsSymbol, IsStray, kind_of, symbol}
use Rattle.conf_lex.specs.Grammar.{ParseTree, yield, begins, DerivesLongest}
use Rattle.conf_lex.specs.Sentences.{IsBegun}
use Rattle.conf_lex.proofs.Symbols.{is_symbol_word}
use Rattle.expr_syntax.specs.Syntax.{rule}
use Rattle.filt_syntax.specs.RefusedToken.{CanFollow, some_prefix, some_address, torn_of, EndInAddress, IsPast}
use Rattle.filt_syntax.specs.declared.refused_token.Torn.{Torn}
use Rattle.filt_syntax.specs.declared.refused_token.Torn.TheVariants as torns
use Rattle.conf_syntax.specs.Syntax.{config}
use Rattle.conf_words.specs.declared.significant.Region.{Region}
use Rattle.conf_words.specs.declared.significant.Region.TheVariants as regions
use Rattle.conf_laws.proofs.KindTrees.{kinds_of, begun_alike, never_bad_prefix}
use Rattle.conf_laws.proofs.SlashTrees.{prefix_follows}
use Rattle.conf_laws.proofs.Marks.{Mark, sym_of, constant_kind, named_kind, unquoted, spelled_kind, alone, prefix_kind, colon_first, slash_first, sort_first, behind_one, folded, or_kind, first_kind, no_second, no_slash, behind_kind, is_significant_kind, heard, front_heard, state, heard_both, IsNext}

-- ---- marks

look_same : (m : Mark) (xs ys : List Mark) → colon_first xs ≡ colon_first ys → folded m.1 (slash_first xs) (sort_first (behind_one xs)) ≡ folded m.1 (slash_first ys) (sort_first (behind_one ys)) → first_kind m xs ≡ first_kind m ys
look_same m xs ys e f = rw (e, f) refl

same_if : (b c d : Bool) (u v w : Kind × ℕ) → (b ≡ true → c ≡ d) → v ≡ w → (if b && c then u else v) ≡ (if b && d then u else w)
same_if true c d u v w f e = rw (f refl, e) refl
same_if false c d u v w f e = e

abbrev is_ip : TokenKind → Bool
is_ip (token_kinds.Ip addr) = true
is_ip _ = false

no_ip : (k : TokenKind) (b : Bool) (o : Option TokenKind) → is_ip k ≡ false → folded k b o ≡ None
no_ip (token_kinds.Ip addr) b o e = absurd cc
no_ip token_kinds.Name b o e = refl
no_ip token_kinds.QuotedName b o e = refl
no_ip (token_kinds.Number n) b o e = refl
no_ip token_kinds.Text b o e = refl
no_ip token_kinds.Punctuation b o e = refl

ip_is : (k : TokenKind) → is_ip k ≡ true → (addr : Addr) × (k ≡ token_kinds.Ip addr)
ip_is (token_kinds.Ip addr) e = (addr, refl)
ip_is token_kinds.Name e = absurd cc
ip_is token_kinds.QuotedName e = absurd cc
ip_is (token_kinds.Number n) e = absurd cc
ip_is token_kinds.Text e = absurd cc
ip_is token_kinds.Punctuation e = absurd cc

same_first : (m : Mark) (xs ys : List Mark) → (is_else (sym_of m) ≡ true → colon_first xs ≡ colon_first ys) → is_ip m.1 ≡ false → first_kind m xs ≡ first_kind m ys
same_first m xs ys colons plain =
    same_if (is_else (sym_of m)) (colon_first xs) (colon_first ys) _ _ _ colons
    (ap (λ (o : Option Kind). or_kind o (alone m.0 m.1)) (no_ip m.1 (slash_first xs) (sort_first (behind_one xs)) plain ∙ sym (no_ip m.1 (slash_first ys) (sort_first (behind_one ys)) plain)))

slash_is : (o : Option Symbol) → is_slash o ≡ true → o ≡ Some symbols.Slash
slash_is None e = absurd cc
slash_is (Some symbols.Slash) e = refl
slash_is (Some _) e = absurd cc

abbrev pub slash_kind : Kind
slash_kind = IsSymbol symbols.Slash

-- a slash is a word of its own
slash_alone : (slice : List ℕ) (k : TokenKind) (ms : List Mark) → is_slash (kind_symbol slice k) ≡ true → first_kind (slice, k) ms ≡ (slash_kind, 1)
slash_alone slice token_kinds.Name ms e = rw (slash_is (symbol_of slice) e) refl
slash_alone slice token_kinds.Punctuation ms e = rw (slash_is (symbol_of slice) e) refl
slash_alone slice token_kinds.QuotedName ms e = absurd cc
slash_alone slice (token_kinds.Number n) ms e = absurd cc
slash_alone slice (token_kinds.Ip addr) ms e = absurd cc
slash_alone slice token_kinds.Text ms e = absurd cc

slash_first_kind : (m : Mark) (ms : List Mark) → is_slash (sym_of m) ≡ true → first_kind m ms ≡ (slash_kind, 1)
slash_first_kind m ms e = slash_alone m.0 m.1 ms e

-- an address makes a prefix or stands alone
pub ip_first : (m : Mark) (ms : List Mark) (addr : Addr) → m.1 ≡ token_kinds.Ip addr → first_kind m ms ≡ or_kind (folded (token_kinds.Ip addr) (slash_first ms) (sort_first (behind_one ms))) IsAddress
ip_first m ms addr e = rw e refl

abbrev pub is_net : Kind → Bool
is_net IsAddress = true
is_net IsPrefix = true
is_net IsNoPrefix = true
is_net _ = false

constant_no_net : (o : Option Constant) → is_net (constant_kind o) ≡ false
constant_no_net None = refl
constant_no_net (Some c) = refl

named_no_net : (k : Kind) (o : Option Attribute) → is_net k ≡ false → is_net (named_kind k o) ≡ false
named_no_net k None e = e
named_no_net k (Some a) e = refl

unquoted_no_net : (slice : List ℕ) → is_net (unquoted slice) ≡ false
unquoted_no_net slice = named_no_net (constant_kind (constant_of slice)) (attribute_of slice) (constant_no_net (constant_of slice))

spelled_no_net : (slice : List ℕ) (o : Option Symbol) → is_net (spelled_kind (unquoted slice) o) ≡ false
spelled_no_net slice None = unquoted_no_net slice
spelled_no_net slice (Some s) = refl

abbrev else_or : Bool → Kind → Kind × ℕ
else_or b k = if b then (IsSymbol symbols.ElseColon, 2) else (k, 1)

pub else_no_net : (b : Bool) (slice : List ℕ) (o : Option Symbol) → is_net (else_or b (spelled_kind (unquoted slice) o)).0 ≡ false
else_no_net true slice o = refl
else_no_net false slice o = spelled_no_net slice o

pub not_both : (b : Bool) → b ≡ true → b ≡ false → ⊥
not_both b e h = let both : true ≡ false = sym e ∙ h in cc

net_is_ip : (slice : List ℕ) (k : TokenKind) (ms : List Mark) → is_net (first_kind (slice, k) ms).0 ≡ true → is_ip k ≡ true
net_is_ip slice (token_kinds.Ip addr) ms e = refl
net_is_ip slice token_kinds.Name ms e = absurd (not_both _ e (else_no_net (is_else (symbol_of slice) && colon_first ms) slice (symbol_of slice)))
net_is_ip slice token_kinds.Punctuation ms e = absurd (not_both _ e (else_no_net (is_else (symbol_of slice) && colon_first ms) slice (symbol_of slice)))
net_is_ip slice token_kinds.QuotedName ms e = absurd cc
net_is_ip slice (token_kinds.Number n) ms e = absurd cc
net_is_ip slice token_kinds.Text ms e = absurd cc

prefix_net : (addr : Addr) (n : ℕ) (b : Bool) → is_prefix addr n ≡ b → is_net (prefix_kind addr n) ≡ true
prefix_net addr n true is = rw is refl
prefix_net addr n false is = rw is refl

fold_net : (addr : Addr) (b : Bool) (o : Option TokenKind) → is_net (or_kind (folded (token_kinds.Ip addr) b o) IsAddress).0 ≡ true
fold_net addr true (Some (token_kinds.Number n)) = prefix_net addr n (is_prefix addr n) refl
fold_net addr true (Some token_kinds.Name) = refl
fold_net addr true (Some token_kinds.QuotedName) = refl
fold_net addr true (Some (token_kinds.Ip a)) = refl
fold_net addr true (Some token_kinds.Text) = refl
fold_net addr true (Some token_kinds.Punctuation) = refl
fold_net addr true None = refl
fold_net addr false o = refl

ip_is_net : (m : Mark) (ms : List Mark) (b : Bool) → is_ip m.1 ≡ b → is_net (first_kind m ms).0 ≡ false → b ≡ false
ip_is_net m ms true e none =
    let a = ip_is m.1 e in
    absurd (not_both _ (ap (λ (k : Kind × ℕ). is_net k.0) (ip_first m ms a.0 a.1) ∙ fold_net a.0 (slash_first ms) (sort_first (behind_one ms))) none)
ip_is_net m ms false e none = refl

-- ---- regions

abbrev pub is_open : Region → Bool
is_open regions.Log = false
is_open (regions.Inside n) = false
is_open _ = true

open_of : (q : Region) (k : Kind) → is_significant_kind q k ≡ true → symbol symbols.Semicolon k ≡ false → symbol symbols.CloseBrace k ≡ false → is_open q ≡ true
open_of regions.Statements k e f g = refl
open_of regions.Log k e f g = absurd (not_both _ e f)
open_of regions.Protocol k e f g = refl
open_of regions.Device k e f g = refl
open_of regions.Named k e f g = refl
open_of (regions.Inside zero) k e f g = absurd (not_both _ e g)
open_of (regions.Inside (suc n)) k e f g = absurd cc

pub open_says : (q : Region) (k : Kind) → is_open q ≡ true → is_significant_kind q k ≡ true
open_says regions.Statements k e = refl
open_says regions.Log k e = absurd cc
open_says regions.Protocol k e = refl
open_says regions.Device k e = refl
open_says regions.Named k e = refl
open_says (regions.Inside zero) k e = absurd cc
open_says (regions.Inside (suc n)) k e = absurd cc

pub open_address : (q : Region) → is_open q ≡ true → is_open (behind_kind q IsAddress) ≡ true
open_address regions.Statements e = refl
open_address regions.Log e = absurd cc
open_address regions.Protocol e = refl
open_address regions.Device e = refl
open_address regions.Named e = refl
open_address (regions.Inside zero) e = absurd cc
open_address (regions.Inside (suc n)) e = absurd cc

open_back : (q : Region) → is_open (behind_kind q IsAddress) ≡ true → is_open q ≡ true
open_back regions.Statements e = refl
open_back regions.Log e = absurd cc
open_back regions.Protocol e = refl
open_back regions.Device e = refl
open_back regions.Named e = refl
open_back (regions.Inside zero) e = absurd cc
open_back (regions.Inside (suc n)) e = absurd cc

net_open : (q : Region) (k : Kind) → is_significant_kind q k ≡ true → is_net k ≡ true → is_open q ≡ true
net_open q IsAddress e h = open_of q IsAddress e refl refl
net_open q IsPrefix e h = open_of q IsPrefix e refl refl
net_open q IsNoPrefix e h = open_of q IsNoPrefix e refl refl
net_open q IsNumber e h = absurd cc
net_open q IsName e h = absurd cc
net_open q IsText e h = absurd cc
net_open q (IsAttribute a) e h = absurd cc
net_open q IsConstant e h = absurd cc
net_open q (IsSymbol s) e h = absurd cc
net_open q IsStray e h = absurd cc

-- ---- fronts that are heard alike

abbrev LastIs : List Mark → (Mark → Type 0) → Type 0
LastIs [] P = Unit {0}
LastIs (m ∷ []) P = P m
LastIs (m ∷ n ∷ ms) P = LastIs (n ∷ ms) P

last_any : (ms : List Mark) (P : Mark → Type 0) → ((m : Mark) → P m) → LastIs ms P
last_any [] P all = tt
last_any (m ∷ []) P all = all m
last_any (m ∷ n ∷ ms) P all = last_any (n ∷ ms) P all

last_tail : (m : Mark) (ms : List Mark) (P : Mark → Type 0) → LastIs (m ∷ ms) P → LastIs ms P
last_tail m [] P last = tt
last_tail m (n ∷ ms) P last = last

-- the last mark of a front makes the same of either
abbrev Folds : Mark → List Mark → List Mark → Mark → Type 0
Folds p xs ys m = folded m.1 (is_slash (sym_of p)) (sort_first xs) ≡ folded m.1 (is_slash (sym_of p)) (sort_first ys)

front_first : (m : Mark) (ms : List Mark) (p : Mark) (xs ys : List Mark) → LastIs (m ∷ ms) (Folds p xs ys) → first_kind m (ms ++ p ∷ xs) ≡ first_kind m (ms ++ p ∷ ys)
front_first m [] p xs ys last = look_same m (p ∷ xs) (p ∷ ys) refl last
front_first m (n ∷ []) p xs ys last = look_same m (n ∷ p ∷ xs) (n ∷ p ∷ ys) refl refl
front_first m (n ∷ o ∷ ms) p xs ys last = look_same m (n ∷ o ∷ (ms ++ p ∷ xs)) (n ∷ o ∷ (ms ++ p ∷ ys)) refl refl

front_alike : (r : Region) (skip : ℕ) (ms : List Mark) (p : Mark) (xs ys : List Mark) → LastIs ms (Folds p xs ys) → front_heard r skip ms (p ∷ xs) ≡ front_heard r skip ms (p ∷ ys)
front_alike r skip [] p xs ys last = refl
front_alike r (suc skip) (m ∷ ms) p xs ys last = front_alike r skip ms p xs ys (last_tail m ms (Folds p xs ys) last)
front_alike r zero (m ∷ ms) p xs ys last =
    let k = first_kind m (ms ++ p ∷ ys) in
    ap (λ (j : Kind × ℕ). cond (is_significant_kind r j.0) (j.0 ∷ front_heard (behind_kind r j.0) (j.1 - 1) ms (p ∷ xs)) (front_heard (behind_kind r j.0) (j.1 - 1) ms (p ∷ xs))) (front_first m ms p xs ys last)
    ∙ ap (λ (l : List Kind). cond (is_significant_kind r k.0) (k.0 ∷ l) l) (front_alike (behind_kind r k.0) (k.1 - 1) ms p xs ys (last_tail m ms (Folds p xs ys) last))

state_alike : (r : Region) (skip : ℕ) (ms : List Mark) (p : Mark) (xs ys : List Mark) → LastIs ms (Folds p xs ys) → state r skip ms (p ∷ xs) ≡ state r skip ms (p ∷ ys)
state_alike r skip [] p xs ys last = refl
state_alike r (suc skip) (m ∷ ms) p xs ys last = state_alike r skip ms p xs ys (last_tail m ms (Folds p xs ys) last)
state_alike r zero (m ∷ ms) p xs ys last =
    let k = first_kind m (ms ++ p ∷ ys) in
    ap (λ (j : Kind × ℕ). state (behind_kind r j.0) (j.1 - 1) ms (p ∷ xs)) (front_first m ms p xs ys last)
    ∙ state_alike (behind_kind r k.0) (k.1 - 1) ms p xs ys (last_tail m ms (Folds p xs ys) last)

-- ---- what other tokens begin

pub record Cut (ws : List Word) (ks : List Kind) : Type 0 where
  pub one : List Word
  pub two : List Word
  pub cut : ws ≡ one ++ two
  pub are : kinds_of one ≡ ks

pub cut_kinds : (ws : List Word) (ks js : List Kind) → kinds_of ws ≡ ks ++ js → Cut ws ks
cut_kinds ws [] js e = record { one = []; two = ws; cut = refl; are = refl }
cut_kinds [] (k ∷ ks) js e = absurd cc
cut_kinds (w ∷ ws) (k ∷ ks) js e =
    let head : kind_of w ≡ k = cc in
    let tail : kinds_of ws ≡ ks ++ js = cc in
    let c = cut_kinds ws ks js tail in
    record { one = w ∷ c.one; two = c.two; cut = ap (λ (l : List Word). w ∷ l) c.cut; are = rw (head, c.are) refl }

begun_kinds : (tree : ParseTree) → DerivesLongest rule tree config → (ws : List Word) (js : List Kind) → kinds_of (yield tree) ≡ kinds_of ws ++ js → IsBegun rule config ws
begun_kinds tree fits ws js e =
    let c = cut_kinds (yield tree) (kinds_of ws) js e in
    begun_alike config c.one ws c.are (tree, c.two, fits, c.cut)

pub kinds_both : (xs ys : List Word) → kinds_of (xs ++ ys) ≡ kinds_of xs ++ kinds_of ys
kinds_both [] ys = refl
kinds_both (x ∷ xs) ys = ap (λ (l : List Kind). kind_of x ∷ l) (kinds_both xs ys)

pub heard_first : (q : Region) (p : Mark) (xs : List Mark) → is_significant_kind q (first_kind p xs).0 ≡ true → heard q 0 (p ∷ xs) ≡ (first_kind p xs).0 ∷ heard (behind_kind q (first_kind p xs).0) ((first_kind p xs).1 - 1) xs
heard_first q p xs e = rw e refl

-- The words of a front, and a tree whose words are those of other tokens with this front and the first token behind.
record Other (front : List Mark) (p : Mark) (xs ys : List Mark) (before : List Word) (tree : ParseTree) : Type 0 where
  fits : DerivesLongest rule tree config
  are : kinds_of before ≡ front_heard regions.Statements 0 front (p ∷ xs)
  done : (state regions.Statements 0 front (p ∷ xs)).1 ≡ 0
  reads : kinds_of (yield tree) ≡ heard regions.Statements 0 (front ++ p ∷ ys)
  steady : LastIs front (Folds p xs ys)

abbrev region : List Mark → Mark → List Mark → Region
region front p xs = (state regions.Statements 0 front (p ∷ xs)).0

heard_here : (front : List Mark) (p : Mark) (xs ys : List Mark) (before : List Word) (tree : ParseTree) → Other front p xs ys before tree → kinds_of (yield tree) ≡ kinds_of before ++ heard (region front p xs) 0 (p ∷ ys)
heard_here front p xs ys before tree o =
    o.reads ∙ heard_both regions.Statements 0 front (p ∷ ys)
    ∙ ap (λ (l : List Kind). l ++ heard (state regions.Statements 0 front (p ∷ ys)).0 (state regions.Statements 0 front (p ∷ ys)).1 (p ∷ ys)) (sym (front_alike regions.Statements 0 front p xs ys o.steady) ∙ sym o.are)
    ∙ ap (λ (s : Region × ℕ). kinds_of before ++ heard s.0 s.1 (p ∷ ys)) (sym (state_alike regions.Statements 0 front p xs ys o.steady))
    ∙ ap (λ (n : ℕ). kinds_of before ++ heard (region front p xs) n (p ∷ ys)) o.done

follows : (front : List Mark) (p : Mark) (xs ys : List Mark) (before : List Word) (tree : ParseTree) → Other front p xs ys before tree → (v : Word) → (first_kind p ys).0 ≡ kind_of v → is_significant_kind (region front p xs) (kind_of v) ≡ true → IsBegun rule config (before ++ v ∷ [])
follows front p xs ys before tree o v is is_significant =
    let q = region front p xs in
    let tail = heard (behind_kind q (first_kind p ys).0) ((first_kind p ys).1 - 1) ys in
    begun_kinds tree o.fits (before ++ v ∷ []) tail
    (heard_here front p xs ys before tree o ∙ ap (λ (l : List Kind). kinds_of before ++ l) (heard_first q p ys (ap (is_significant_kind q) is ∙ is_significant) ∙ ap (λ (k : Kind). k ∷ tail) is)
    ∙ sym (append_assoc (kinds_of before) (kind_of v ∷ []) tail) ∙ ap (λ (l : List Kind). l ++ tail) (sym (kinds_both before (v ∷ []))))

-- an address alone, and the slash behind it
follows_two : (front : List Mark) (p m : Mark) (xs ys : List Mark) (before : List Word) (tree : ParseTree) → Other front p xs (m ∷ ys) before tree → first_kind p (m ∷ ys) ≡ (IsAddress, 1) → is_slash (sym_of m) ≡ true → is_open (region front p xs) ≡ true → (v z : Word) → kind_of v ≡ IsAddress → kind_of z ≡ slash_kind → IsBegun rule config (before ++ v ∷ z ∷ [])
follows_two front p m xs ys before tree o is slashed opened v z v-is z-is =
    let q = region front p xs in
    let r = behind_kind q IsAddress in
    let one : heard q 0 (p ∷ m ∷ ys) ≡ IsAddress ∷ heard (behind_kind q IsAddress) 0 (m ∷ ys) =
    heard_first q p (m ∷ ys) (ap (λ (j : Kind × ℕ). is_significant_kind q j.0) is ∙ open_says q IsAddress opened)
    ∙ ap (λ (j : Kind × ℕ). j.0 ∷ heard (behind_kind q j.0) (j.1 - 1) (m ∷ ys)) is in
    let slash = slash_first_kind m ys slashed in
    let two : heard (behind_kind q IsAddress) 0 (m ∷ ys) ≡ slash_kind ∷ heard (behind_kind (behind_kind q IsAddress) slash_kind) 0 ys =
    heard_first r m ys (ap (λ (j : Kind × ℕ). is_significant_kind r j.0) slash ∙ open_says r slash_kind (open_address q opened))
    ∙ ap (λ (j : Kind × ℕ). j.0 ∷ heard (behind_kind r j.0) (j.1 - 1) ys) slash in
    let tail = heard (behind_kind (behind_kind q IsAddress) slash_kind) 0 ys in
    let kinds : kinds_of (v ∷ z ∷ []) ≡ IsAddress ∷ slash_kind ∷ [] = rw (v-is, z-is) refl in
    begun_kinds tree o.fits (before ++ v ∷ z ∷ []) tail
    (heard_here front p xs (m ∷ ys) before tree o ∙ ap (λ (l : List Kind). kinds_of before ++ l) (one ∙ ap (λ (l : List Kind). IsAddress ∷ l) two)
    ∙ sym (append_assoc (kinds_of before) (IsAddress ∷ slash_kind ∷ []) tail) ∙ ap (λ (l : List Kind). l ++ tail) (ap (λ (l : List Kind). kinds_of before ++ l) (sym kinds) ∙ sym (kinds_both before (v ∷ z ∷ []))))

-- ---- the refused word

-- The word that begins with the mark is refused, and these are the words behind it.
record Refuses (front : List Mark) (p : Mark) (xs : List Mark) (before : List Word) (w : Word) (ws : List Word) : Type 0 where
  last : IsBegun rule config (before ++ w ∷ []) → ⊥
  kind : (first_kind p xs).0 ≡ kind_of w
  is_significant : is_significant_kind (region front p xs) (kind_of w) ≡ true
  behind : kinds_of ws ≡ heard (behind_kind (region front p xs) (first_kind p xs).0) ((first_kind p xs).1 - 1) xs

begun_as : (before : List Word) (v w : Word) → kind_of v ≡ kind_of w → IsBegun rule config (before ++ v ∷ []) → IsBegun rule config (before ++ w ∷ [])
begun_as before v w e b =
    begun_alike config (before ++ v ∷ []) (before ++ w ∷ []) (kinds_both before (v ∷ []) ∙ ap (λ (k : Kind). kinds_of before ++ k ∷ []) e ∙ sym (kinds_both before (w ∷ []))) b

same_case : (front : List Mark) (p : Mark) (xs ys : List Mark) (before : List Word) (tree : ParseTree) (w : Word) (ws : List Word) → Other front p xs ys before tree → Refuses front p xs before w ws → (first_kind p ys).0 ≡ kind_of w → ⊥
same_case front p xs ys before tree w ws o r is = r.last (follows front p xs ys before tree o w is r.is_significant)

opened : (front : List Mark) (p : Mark) (xs : List Mark) (before : List Word) (w : Word) (ws : List Word) → Refuses front p xs before w ws → is_net (kind_of w) ≡ true → is_open (region front p xs) ≡ true
opened front p xs before w ws r net = net_open (region front p xs) (kind_of w) r.is_significant net

-- where neither an address nor a prefix can stand, no word that begins with an address can
net_case : (front : List Mark) (p : Mark) (xs ys : List Mark) (before : List Word) (tree : ParseTree) → Other front p xs ys before tree → is_open (region front p xs) ≡ true → (k : Kind) → (first_kind p ys).0 ≡ k → is_net k ≡ true → (k ≡ IsPrefix → ⊥) → (k ≡ IsAddress → ⊥) → ⊥
net_case front p xs ys before tree o free IsAddress is net no_prefix no_address = no_address refl
net_case front p xs ys before tree o free IsPrefix is net no_prefix no_address = no_prefix refl
net_case front p xs ys before tree o free IsNoPrefix is net no_prefix no_address = never_bad_prefix before (words.BadPrefix 0) refl (follows front p xs ys before tree o (words.BadPrefix 0) is (open_says (region front p xs) IsNoPrefix free))
net_case front p xs ys before tree o free IsNumber is net no_prefix no_address = cc
net_case front p xs ys before tree o free IsName is net no_prefix no_address = cc
net_case front p xs ys before tree o free IsText is net no_prefix no_address = cc
net_case front p xs ys before tree o free (IsAttribute a) is net no_prefix no_address = cc
net_case front p xs ys before tree o free IsConstant is net no_prefix no_address = cc
net_case front p xs ys before tree o free (IsSymbol s) is net no_prefix no_address = cc
net_case front p xs ys before tree o free IsStray is net no_prefix no_address = cc

prefix_stands : (front : List Mark) (p : Mark) (xs ys : List Mark) (before : List Word) (tree : ParseTree) → Other front p xs ys before tree → is_open (region front p xs) ≡ true → (first_kind p ys).0 ≡ IsPrefix → CanFollow config before some_prefix
prefix_stands front p xs ys before tree o free is = follows front p xs ys before tree o some_prefix is (open_says (region front p xs) IsPrefix free)

address_stands : (front : List Mark) (p : Mark) (xs ys : List Mark) (before : List Word) (tree : ParseTree) → Other front p xs ys before tree → is_open (region front p xs) ≡ true → (first_kind p ys).0 ≡ IsAddress → CanFollow config before some_address
address_stands front p xs ys before tree o free is = follows front p xs ys before tree o some_address is (open_says (region front p xs) IsAddress free)

-- ---- an address and what it makes

prefix_no_address : (addr : Addr) (n : ℕ) (b : Bool) → is_prefix addr n ≡ b → prefix_kind addr n ≡ IsAddress → ⊥
prefix_no_address addr n true is e = let same : IsPrefix ≡ IsAddress = rw is at e in cc
prefix_no_address addr n false is e = let same : IsNoPrefix ≡ IsAddress = rw is at e in cc

pub alone_by_kind : (addr : Addr) (b : Bool) (o : Option TokenKind) → (or_kind (folded (token_kinds.Ip addr) b o) IsAddress).0 ≡ IsAddress → or_kind (folded (token_kinds.Ip addr) b o) IsAddress ≡ (IsAddress, 1)
alone_by_kind addr true (Some (token_kinds.Number n)) e = absurd (prefix_no_address addr n (is_prefix addr n) refl e)
alone_by_kind addr true (Some token_kinds.Name) e = refl
alone_by_kind addr true (Some token_kinds.QuotedName) e = refl
alone_by_kind addr true (Some (token_kinds.Ip a)) e = refl
alone_by_kind addr true (Some token_kinds.Text) e = refl
alone_by_kind addr true (Some token_kinds.Punctuation) e = refl
alone_by_kind addr true None e = refl
alone_by_kind addr false o e = refl

alone_by_size : (o : Option Kind) → (or_kind o IsAddress).1 - 1 ≡ 0 → or_kind o IsAddress ≡ (IsAddress, 1)
alone_by_size None e = refl
alone_by_size (Some k) e = absurd (omega (arith, e))

address_alone : (m : Mark) (ms : List Mark) → is_ip m.1 ≡ true → (first_kind m ms).0 ≡ IsAddress → first_kind m ms ≡ (IsAddress, 1)
address_alone m ms ip e =
    let a = ip_is m.1 ip in
    let first = ip_first m ms a.0 a.1 in
    first ∙ alone_by_kind a.0 (slash_first ms) (sort_first (behind_one ms)) (ap (λ (k : Kind × ℕ). k.0) (sym first) ∙ e)

no_slash_alone : (m : Mark) (ms : List Mark) → is_ip m.1 ≡ true → slash_first ms ≡ false → first_kind m ms ≡ (IsAddress, 1)
no_slash_alone m ms ip none =
    let a = ip_is m.1 ip in
    ip_first m ms a.0 a.1 ∙ ap (λ (b : Bool). or_kind (folded (token_kinds.Ip a.0) b (sort_first (behind_one ms))) IsAddress) none

slash_there : (m : Mark) (ms : List Mark) (b : Bool) → is_ip m.1 ≡ true → slash_first ms ≡ b → ((first_kind m ms).0 ≡ IsAddress → ⊥) → b ≡ true
slash_there m ms true ip is other = refl
slash_there m ms false ip is other = absurd (other (ap (λ (k : Kind × ℕ). k.0) (no_slash_alone m ms ip is)))

first_is_net : (m : Mark) (ms : List Mark) → is_ip m.1 ≡ true → is_net (first_kind m ms).0 ≡ true
first_is_net m ms ip = let a = ip_is m.1 ip in ap (λ (k : Kind × ℕ). is_net k.0) (ip_first m ms a.0 a.1) ∙ fold_net a.0 (slash_first ms) (sort_first (behind_one ms))

ip_no_slash : (slice : List ℕ) (k : TokenKind) → is_ip k ≡ true → is_slash (kind_symbol slice k) ≡ false
ip_no_slash slice (token_kinds.Ip addr) e = refl
ip_no_slash slice token_kinds.Name e = absurd cc
ip_no_slash slice token_kinds.QuotedName e = absurd cc
ip_no_slash slice (token_kinds.Number n) e = absurd cc
ip_no_slash slice token_kinds.Text e = absurd cc
ip_no_slash slice token_kinds.Punctuation e = absurd cc

-- ---- the kinds of a refused word

kind_other : (w : Word) → torn_of w ≡ torns.Other → is_net (kind_of w) ≡ false
kind_other (words.Name at start len) e = refl
kind_other (words.Number at value) e = refl
kind_other (words.Text at start len) e = refl
kind_other (words.Ip at addr) e = absurd cc
kind_other (words.Prefix at net) e = absurd cc
kind_other (words.BadPrefix at) e = absurd cc
kind_other (words.Attribute at a) e = refl
kind_other (words.Constant at c) e = refl
kind_other (words.Symbol s) e = by (is_placed s) refl
  where
    by : (b : Bool) → is_placed s ≡ b → is_net (kind_of (words.Symbol s)) ≡ false
    by true is = rw is refl
    by false is = rw is refl
kind_other (words.Placed at s) e = by (is_placed s) refl
  where
    by : (b : Bool) → is_placed s ≡ b → is_net (kind_of (words.Placed at s)) ≡ false
    by true is = rw is refl
    by false is = rw is refl

kind_no_slash : (w : Word) → torn_of w ≡ torns.Other → kind_of w ≡ slash_kind → ⊥
kind_no_slash w e is =
    let same : w ≡ words.Symbol symbols.Slash = is_symbol_word w symbols.Slash refl (ap (symbol symbols.Slash) is) in
    let torn : torns.Slash ≡ torns.Other = ap torn_of (sym same) ∙ e in
    cc

pub is_slash_word : (w : Word) → torn_of w ≡ torns.Slash → kind_of w ≡ slash_kind
is_slash_word (words.Symbol s) e = ap (λ (v : Word). kind_of v) (ap (λ (r : Symbol). words.Symbol r) (by_slash s e))
  where
    torn_if : (b : Bool) → (if b then torns.Slash else torns.Other) ≡ torns.Slash → b ≡ true
    torn_if true h = refl
    torn_if false h = absurd cc

    by_slash : (r : Symbol) → (if is_slash (Some r) then torns.Slash else torns.Other) ≡ torns.Slash → r ≡ symbols.Slash
    by_slash r h = let same = slash_is (Some r) (torn_if (is_slash (Some r)) h) in cc
is_slash_word (words.Name at start len) e = absurd cc
is_slash_word (words.Number at value) e = absurd cc
is_slash_word (words.Text at start len) e = absurd cc
is_slash_word (words.Ip at addr) e = absurd cc
is_slash_word (words.Prefix at net) e = absurd cc
is_slash_word (words.BadPrefix at) e = absurd cc
is_slash_word (words.Attribute at a) e = absurd cc
is_slash_word (words.Constant at c) e = absurd cc
is_slash_word (words.Placed at s) e = absurd cc

pub torn_cond : (s : Symbol) (b : Bool) → is_slash (Some s) ≡ b → (torn_of (words.Symbol s) ≡ torns.Address → ⊥) × (torn_of (words.Symbol s) ≡ torns.Prefix → ⊥)
torn_cond s true is = (λ e. let same : torns.Slash ≡ torns.Address = rw is at e in cc, λ e. let same : torns.Slash ≡ torns.Prefix = rw is at e in cc)
torn_cond s false is = (λ e. let same : torns.Other ≡ torns.Address = rw is at e in cc, λ e. let same : torns.Other ≡ torns.Prefix = rw is at e in cc)

pub is_address : (w : Word) → torn_of w ≡ torns.Address → kind_of w ≡ IsAddress
is_address (words.Ip at addr) e = refl
is_address (words.Symbol s) e = absurd ((torn_cond s (is_slash (Some s)) refl).0 e)
is_address (words.Name at start len) e = absurd cc
is_address (words.Number at value) e = absurd cc
is_address (words.Text at start len) e = absurd cc
is_address (words.Prefix at net) e = absurd cc
is_address (words.BadPrefix at) e = absurd cc
is_address (words.Attribute at a) e = absurd cc
is_address (words.Constant at c) e = absurd cc
is_address (words.Placed at s) e = absurd cc

is_any_prefix : (w : Word) → torn_of w ≡ torns.Prefix → (kind_of w ≡ IsPrefix) ⊎ (kind_of w ≡ IsNoPrefix)
is_any_prefix (words.Prefix at net) e = inl refl
is_any_prefix (words.BadPrefix at) e = inr refl
is_any_prefix (words.Symbol s) e = absurd ((torn_cond s (is_slash (Some s)) refl).1 e)
is_any_prefix (words.Ip at addr) e = absurd cc
is_any_prefix (words.Name at start len) e = absurd cc
is_any_prefix (words.Number at value) e = absurd cc
is_any_prefix (words.Text at start len) e = absurd cc
is_any_prefix (words.Attribute at a) e = absurd cc
is_any_prefix (words.Constant at c) e = absurd cc
is_any_prefix (words.Placed at s) e = absurd cc

ip_here : (p : Mark) (xs : List Mark) (w : Word) → (first_kind p xs).0 ≡ kind_of w → is_net (kind_of w) ≡ true → is_ip p.1 ≡ true
ip_here p xs w is net = net_is_ip p.0 p.1 xs (ap is_net is ∙ net)

no_ip_here : (p : Mark) (xs : List Mark) (w : Word) → (first_kind p xs).0 ≡ kind_of w → is_net (kind_of w) ≡ false → is_ip p.1 ≡ false
no_ip_here p xs w is net = ip_is_net p xs (is_ip p.1) refl (ap is_net is ∙ net)

-- ---- one token further on

-- a prefix in an address's place, at its slash
prefix_one : (front : List Mark) (p m : Mark) (xs ys : List Mark) (before : List Word) (tree : ParseTree) (w : Word) (ws : List Word) → Other front p (m ∷ xs) (m ∷ ys) before tree → Refuses front p (m ∷ xs) before w ws → torn_of w ≡ torns.Prefix → (CanFollow config before some_prefix → ⊥) → ⊥
prefix_one front p m xs ys before tree w ws o r torn no_prefix =
    let net : is_net (kind_of w) ≡ true = elim (is_any_prefix w torn) [ inl e ↦ ap is_net e | inr e ↦ ap is_net e ] in
    let ip = ip_here p (m ∷ xs) w r.kind net in
    let free = opened front p (m ∷ xs) before w ws r net in
    let other : (first_kind p (m ∷ xs)).0 ≡ IsAddress → ⊥ = λ e. elim (is_any_prefix w torn) [ inl f ↦ (let same : IsAddress ≡ IsPrefix = sym e ∙ r.kind ∙ f in cc) | inr f ↦ (let same : IsAddress ≡ IsNoPrefix = sym e ∙ r.kind ∙ f in cc) ] in
    let slashed : is_slash (sym_of m) ≡ true = slash_there p (m ∷ xs) (is_slash (sym_of m)) ip refl other in
    net_case front p (m ∷ xs) (m ∷ ys) before tree o free (first_kind p (m ∷ ys)).0 refl (first_is_net p (m ∷ ys) ip)
    (λ e. no_prefix (prefix_stands front p (m ∷ xs) (m ∷ ys) before tree o free e))
    (λ e. no_prefix (prefix_follows before some_address (words.Symbol symbols.Slash ∷ []) refl refl
    (follows_two front p m (m ∷ xs) ys before tree o (address_alone p (m ∷ ys) ip e) slashed free some_address (words.Symbol symbols.Slash) refl refl)))

pub one_no_zero : ◌≡◌ {A = ℕ} 1 0 → ⊥
one_no_zero e = omega (arith, e)

two_or_one : (b : Bool) → ◌≡◌ {A = ℕ} 1 (if b then 2 else 1) → b ≡ false
two_or_one true e = absurd (omega (arith, e))
two_or_one false e = refl

-- an address in a prefix's place, at what is no slash
address_one : (front : List Mark) (p m : Mark) (xs ys : List Mark) (before : List Word) (tree : ParseTree) (w : Word) (ws : List Word) → Other front p (m ∷ xs) (m ∷ ys) before tree → Refuses front p (m ∷ xs) before w ws → torn_of w ≡ torns.Address → begins (symbol symbols.Slash) ws ≡ false → ⊥
address_one front p m xs ys before tree w ws o r torn none =
    let is = is_address w torn in
    let ip = ip_here p (m ∷ xs) w r.kind (ap is_net is) in
    let free = opened front p (m ∷ xs) before w ws r (ap is_net is) in
    let q = region front p (m ∷ xs) in
    let one = address_alone p (m ∷ xs) ip (r.kind ∙ is) in
    let behind : kinds_of ws ≡ heard (behind_kind q IsAddress) 0 (m ∷ xs) = r.behind ∙ ap (λ (j : Kind × ℕ). heard (behind_kind q j.0) (j.1 - 1) (m ∷ xs)) one in
    by_slash (is_slash (sym_of m)) refl (is) ip free behind
  where
    begins_kind : (vs : List Word) (ks : List Kind) → kinds_of vs ≡ slash_kind ∷ ks → begins (symbol symbols.Slash) vs ≡ true
    begins_kind [] ks e = absurd cc
    begins_kind (v ∷ vs) ks e = let head : kind_of v ≡ slash_kind = cc in ap (symbol symbols.Slash) head

    by_slash : (b : Bool) → is_slash (sym_of m) ≡ b → kind_of w ≡ IsAddress → is_ip p.1 ≡ true → is_open (region front p (m ∷ xs)) ≡ true → kinds_of ws ≡ heard (behind_kind (region front p (m ∷ xs)) IsAddress) 0 (m ∷ xs) → ⊥
    by_slash false is kind ip free behind = same_case front p (m ∷ xs) (m ∷ ys) before tree w ws o r (ap (λ (j : Kind × ℕ). j.0) (no_slash_alone p (m ∷ ys) ip is) ∙ sym kind)
    by_slash true is kind ip free behind =
        let t = behind_kind (region front p (m ∷ xs)) IsAddress in
        let slash = slash_first_kind m xs is in
        let first : heard t 0 (m ∷ xs) ≡ slash_kind ∷ heard (behind_kind t slash_kind) 0 xs =
        heard_first t m xs (ap (λ (j : Kind × ℕ). is_significant_kind t j.0) slash ∙ open_says t slash_kind (open_address (region front p (m ∷ xs)) free))
        ∙ ap (λ (j : Kind × ℕ). j.0 ∷ heard (behind_kind t j.0) (j.1 - 1) xs) slash in
        not_both (begins (symbol symbols.Slash) ws) (begins_kind ws _ (behind ∙ first)) none

-- where the next token is alike too
past_one : (front : List Mark) (p m : Mark) (xs ys : List Mark) (before : List Word) (tree : ParseTree) (w : Word) (ws : List Word) (t : Torn) → Other front p (m ∷ xs) (m ∷ ys) before tree → Refuses front p (m ∷ xs) before w ws → torn_of w ≡ t → IsPast config before t (begins (symbol symbols.Slash) ws) 1 → ⊥
past_one front p m xs ys before tree w ws torns.Prefix o r torn (inl h) = prefix_one front p m xs ys before tree w ws o r torn h.0.1
past_one front p m xs ys before tree w ws torns.Prefix o r torn (inr h) = one_no_zero h.1
past_one front p m xs ys before tree w ws torns.Address o r torn (inl h) = address_one front p m xs ys before tree w ws o r torn (two_or_one (begins (symbol symbols.Slash) ws) h.1)
past_one front p m xs ys before tree w ws torns.Address o r torn (inr h) = one_no_zero h.1
past_one front p m xs ys before tree w ws torns.Slash o r torn h =
    let is = is_slash_word w torn in
    let plain = no_ip_here p (m ∷ xs) w r.kind (ap is_net is) in
    same_case front p (m ∷ xs) (m ∷ ys) before tree w ws o r (ap (λ (j : Kind × ℕ). j.0) (sym (same_first p (m ∷ xs) (m ∷ ys) (λ e. refl) plain)) ∙ r.kind)
past_one front p m xs ys before tree w ws torns.Other o r torn h = one_no_zero h

-- where two more are
past_two : (front : List Mark) (p n m : Mark) (xs ys : List Mark) (before : List Word) (tree : ParseTree) (w : Word) (ws : List Word) → Other front p (n ∷ m ∷ xs) (n ∷ m ∷ ys) before tree → Refuses front p (n ∷ m ∷ xs) before w ws → ⊥
past_two front p n m xs ys before tree w ws o r =
    same_case front p (n ∷ m ∷ xs) (n ∷ m ∷ ys) before tree w ws o r (ap (λ (j : Kind × ℕ). j.0) (sym (look_same p (n ∷ m ∷ xs) (n ∷ m ∷ ys) refl refl)) ∙ r.kind)

-- ---- at the first token

-- a bad prefix, by marks
pub record IsBad (m : Mark) (ms : List Mark) : Type 0 where
  pub addr : Addr
  pub n : ℕ
  pub first : m.1 ≡ token_kinds.Ip addr
  pub second : slash_first ms ≡ true
  pub third : sort_first (behind_one ms) ≡ Some (token_kinds.Number n)
  pub none : is_prefix addr n ≡ false

bad_first : (m : Mark) (ms : List Mark) → IsBad m ms → (first_kind m ms).0 ≡ IsNoPrefix
bad_first m ms b = ap (λ (k : Kind × ℕ). k.0) (ip_first m ms b.addr b.first) ∙ rw (b.second, b.third, b.none) refl

abbrev Told : Addr → Bool → Option TokenKind → Type 0
Told addr b o = (n : ℕ) × (b ≡ true) × (o ≡ Some (token_kinds.Number n)) × (is_prefix addr n ≡ false)

prefix_told : (addr : Addr) (n : ℕ) (b : Bool) → is_prefix addr n ≡ b → prefix_kind addr n ≡ IsNoPrefix → b ≡ false
prefix_told addr n true is e = let same : IsPrefix ≡ IsNoPrefix = rw is at e in absurd cc
prefix_told addr n false is e = refl

told_bad : (addr : Addr) (b : Bool) (o : Option TokenKind) → (or_kind (folded (token_kinds.Ip addr) b o) IsAddress).0 ≡ IsNoPrefix → Told addr b o
told_bad addr true (Some (token_kinds.Number n)) e = (n, refl, refl, prefix_told addr n (is_prefix addr n) refl e)
told_bad addr true (Some token_kinds.Name) e = absurd cc
told_bad addr true (Some token_kinds.QuotedName) e = absurd cc
told_bad addr true (Some (token_kinds.Ip a)) e = absurd cc
told_bad addr true (Some token_kinds.Text) e = absurd cc
told_bad addr true (Some token_kinds.Punctuation) e = absurd cc
told_bad addr true None e = absurd cc
told_bad addr false o e = absurd cc

is_bad : (m : Mark) (ms : List Mark) → is_ip m.1 ≡ true → (first_kind m ms).0 ≡ IsNoPrefix → IsBad m ms
is_bad m ms ip e =
    let a = ip_is m.1 ip in
    let t = told_bad a.0 (slash_first ms) (sort_first (behind_one ms)) (ap (λ (k : Kind × ℕ). k.0) (sym (ip_first m ms a.0 a.1)) ∙ e) in
    record { addr = a.0; n = t.0; first = a.1; second = t.1; third = t.2; none = t.3 }

prefix_zero : (front : List Mark) (p : Mark) (xs ys : List Mark) (before : List Word) (tree : ParseTree) (w : Word) (ws : List Word) → Other front p xs ys before tree → Refuses front p xs before w ws → torn_of w ≡ torns.Prefix → (CanFollow config before some_address × (CanFollow config before some_prefix → ⊥) → ⊥) → (IsBad p xs → CanFollow config before some_prefix → IsBad p ys) → ⊥
prefix_zero front p xs ys before tree w ws o r torn none bad = elim (is_any_prefix w torn) [
  | inr is ↦
      let ip = ip_here p xs w r.kind (ap is_net is) in
      let free = opened front p xs before w ws r (ap is_net is) in
      let no_prefix : CanFollow config before some_prefix → ⊥ =
      λ can. same_case front p xs ys before tree w ws o r (bad_first p ys (bad (is_bad p xs ip (r.kind ∙ is)) can) ∙ sym is) in
      net_case front p xs ys before tree o free (first_kind p ys).0 refl (first_is_net p ys ip)
      (λ e. no_prefix (prefix_stands front p xs ys before tree o free e))
      (λ e. none (address_stands front p xs ys before tree o free e, no_prefix))
  | inl is ↦
      let ip = ip_here p xs w r.kind (ap is_net is) in
      let free = opened front p xs before w ws r (ap is_net is) in
      net_case front p xs ys before tree o free (first_kind p ys).0 refl (first_is_net p ys ip)
      (λ e. same_case front p xs ys before tree w ws o r (e ∙ sym is))
      (λ e. none (address_stands front p xs ys before tree o free e, λ can. r.last (begun_as before some_prefix w (sym is) can)))
]

address_zero : (front : List Mark) (p : Mark) (xs ys : List Mark) (before : List Word) (tree : ParseTree) (w : Word) (ws : List Word) → Other front p xs ys before tree → Refuses front p xs before w ws → torn_of w ≡ torns.Address → (CanFollow config before some_prefix × (CanFollow config before some_address → ⊥) → ⊥) → ⊥
address_zero front p xs ys before tree w ws o r torn none =
    let is = is_address w torn in
    let ip = ip_here p xs w r.kind (ap is_net is) in
    let free = opened front p xs before w ws r (ap is_net is) in
    net_case front p xs ys before tree o free (first_kind p ys).0 refl (first_is_net p ys ip)
    (λ e. none (prefix_stands front p xs ys before tree o free e, λ can. r.last (begun_as before some_address w (sym is) can)))
    (λ e. same_case front p xs ys before tree w ws o r (e ∙ sym is))

-- ---- a front that ends in an address

record Ended (ms : List Mark) : Type 0 where
  front : List Mark
  mark : Mark
  cut : ms ≡ front ++ mark ∷ []
  ip : is_ip mark.1 ≡ true

ended_by : (m : Mark) (b : Bool) → is_ip m.1 ≡ b → LastIs (m ∷ []) (λ n. is_ip n.1 ≡ false) ⊎ Ended (m ∷ [])
ended_by m true is = inr (record { front = []; mark = m; cut = refl; ip = is })
ended_by m false is = inl is

ended : (ms : List Mark) → LastIs ms (λ n. is_ip n.1 ≡ false) ⊎ Ended ms
ended [] = inl tt
ended (m ∷ []) = ended_by m (is_ip m.1) refl
ended (m ∷ n ∷ ms) = elim (ended (n ∷ ms)) [
  | inl last ↦ inl last
  | inr e ↦ inr (record { front = m ∷ e.front; mark = e.mark; cut = ap (λ (l : List Mark). m ∷ l) e.cut; ip = e.ip })
]

steady_plain : (ms : List Mark) (p : Mark) (xs ys : List Mark) → LastIs ms (λ n. is_ip n.1 ≡ false) → LastIs ms (Folds p xs ys)
steady_plain [] p xs ys last = tt
steady_plain (m ∷ []) p xs ys last = no_ip m.1 (is_slash (sym_of p)) (sort_first xs) last ∙ sym (no_ip m.1 (is_slash (sym_of p)) (sort_first ys) last)
steady_plain (m ∷ n ∷ ms) p xs ys last = steady_plain (n ∷ ms) p xs ys last

steady_other : (ms : List Mark) (p : Mark) (xs ys : List Mark) → is_slash (sym_of p) ≡ false → LastIs ms (Folds p xs ys)
steady_other ms p xs ys none = last_any ms (Folds p xs ys) (λ m. ap (λ (b : Bool). folded m.1 b (sort_first xs)) none ∙ no_slash m.1 (sort_first xs) ∙ sym (no_slash m.1 (sort_first ys)) ∙ ap (λ (b : Bool). folded m.1 b (sort_first ys)) (sym none))

-- the marks that belong to a word begun before are no addresses
abbrev Heads : ℕ → List Mark → Type 0
Heads zero ms = Unit {0}
Heads (suc n) [] = Unit {0}
Heads (suc n) (m ∷ ms) = (is_ip m.1 ≡ false) × Heads n ms

pub front_both : (r : Region) (skip : ℕ) (ms ns rest : List Mark) → front_heard r skip (ms ++ ns) rest ≡ front_heard r skip ms (ns ++ rest) ++ front_heard (state r skip ms (ns ++ rest)).0 (state r skip ms (ns ++ rest)).1 ns rest
front_both r skip [] ns rest = refl
front_both r (suc skip) (m ∷ ms) ns rest = front_both r skip ms ns rest
front_both r zero (m ∷ ms) ns rest =
    let k = first_kind m (ms ++ (ns ++ rest)) in
    ap (λ (j : Kind × ℕ). cond (is_significant_kind r j.0) (j.0 ∷ front_heard (behind_kind r j.0) (j.1 - 1) (ms ++ ns) rest) (front_heard (behind_kind r j.0) (j.1 - 1) (ms ++ ns) rest)) (ap (first_kind m) (append_assoc ms ns rest))
    ∙ ap (λ (l : List Kind). cond (is_significant_kind r k.0) (k.0 ∷ l) l) (front_both (behind_kind r k.0) (k.1 - 1) ms ns rest)
    ∙ cond_both (is_significant_kind r k.0) k.0 (front_heard (behind_kind r k.0) (k.1 - 1) ms (ns ++ rest)) _
  where
    cond_both : (b : Bool) (k : Kind) (xs ys : List Kind) → cond b (k ∷ (xs ++ ys)) (xs ++ ys) ≡ cond b (k ∷ xs) xs ++ ys
    cond_both true k xs ys = refl
    cond_both false k xs ys = refl

pub state_both : (r : Region) (skip : ℕ) (ms ns rest : List Mark) → state r skip (ms ++ ns) rest ≡ state (state r skip ms (ns ++ rest)).0 (state r skip ms (ns ++ rest)).1 ns rest
state_both r skip [] ns rest = refl
state_both r (suc skip) (m ∷ ms) ns rest = state_both r skip ms ns rest
state_both r zero (m ∷ ms) ns rest =
    let k = first_kind m (ms ++ (ns ++ rest)) in
    ap (λ (j : Kind × ℕ). state (behind_kind r j.0) (j.1 - 1) (ms ++ ns) rest) (ap (first_kind m) (append_assoc ms ns rest))
    ∙ state_both (behind_kind r k.0) (k.1 - 1) ms ns rest

sign_no_ip : (slice : List ℕ) (k : TokenKind) (b : Bool) → is_ip k ≡ b → (kind_symbol slice k ≡ None → ⊥) → b ≡ false
sign_no_ip slice (token_kinds.Ip addr) b is some = absurd (some refl)
sign_no_ip slice token_kinds.Name b is some = sym is
sign_no_ip slice token_kinds.QuotedName b is some = sym is
sign_no_ip slice (token_kinds.Number n) b is some = sym is
sign_no_ip slice token_kinds.Text b is some = sym is
sign_no_ip slice token_kinds.Punctuation b is some = sym is

colon_heads : (ms : List Mark) → colon_first ms ≡ true → Heads 1 ms
colon_heads [] e = absurd cc
colon_heads (m ∷ ms) e = (sign_no_ip m.0 m.1 (is_ip m.1) refl (λ none. (let never : is_colon None ≡ true = ap is_colon (sym none) ∙ e in cc)), tt)

ip_third : (k : TokenKind) (b : Bool) (a : Addr) → folded k b (Some (token_kinds.Ip a)) ≡ None
ip_third (token_kinds.Ip addr) true a = refl
ip_third (token_kinds.Ip addr) false a = refl
ip_third token_kinds.Name b a = refl
ip_third token_kinds.QuotedName b a = refl
ip_third (token_kinds.Number n) b a = refl
ip_third token_kinds.Text b a = refl
ip_third token_kinds.Punctuation b a = refl

fold_heads : (k : TokenKind) (ms : List Mark) (l : Kind) → (o : Option Kind) → folded k (slash_first ms) (sort_first (behind_one ms)) ≡ o → Heads ((or_kind o l).1 - 1) ms
fold_heads k ms l None e = tt
fold_heads k [] l (Some j) e = tt
fold_heads k (m ∷ []) l (Some j) e = absurd (let never = sym (no_second k (is_slash (sym_of m))) ∙ e in cc)
fold_heads k (m ∷ n ∷ ms) l (Some j) e = (slashed (is_slash (sym_of m)) refl, (numbered n.1 (is_slash (sym_of m)) e, tt))
  where
    slashed : (b : Bool) → is_slash (sym_of m) ≡ b → is_ip m.1 ≡ false
    slashed true is = sign_no_ip m.0 m.1 (is_ip m.1) refl (λ none. (let never : is_slash None ≡ true = ap is_slash (sym none) ∙ is in cc))
    slashed false is = absurd (let never = sym (no_slash k (Some n.1)) ∙ ap (λ (b : Bool). folded k b (Some n.1)) (sym is) ∙ e in cc)

    numbered : (s : TokenKind) (b : Bool) → folded k b (Some s) ≡ Some j → is_ip s ≡ false
    numbered (token_kinds.Ip a) b h = absurd (let never = sym (ip_third k b a) ∙ h in cc)
    numbered token_kinds.Name b h = refl
    numbered token_kinds.QuotedName b h = refl
    numbered (token_kinds.Number i) b h = refl
    numbered token_kinds.Text b h = refl
    numbered token_kinds.Punctuation b h = refl

first_heads : (m : Mark) (ms : List Mark) → Heads ((first_kind m ms).1 - 1) ms
first_heads m ms = by (is_else (sym_of m)) (colon_first ms) refl
  where
    by : (b c : Bool) → colon_first ms ≡ c → Heads ((if b && c then (IsSymbol symbols.ElseColon, 2) else or_kind (folded m.1 (slash_first ms) (sort_first (behind_one ms))) (alone m.0 m.1)).1 - 1) ms
    by true true is = colon_heads ms is
    by true false is = fold_heads m.1 ms (alone m.0 m.1) (folded m.1 (slash_first ms) (sort_first (behind_one ms))) refl
    by false c is = fold_heads m.1 ms (alone m.0 m.1) (folded m.1 (slash_first ms) (sort_first (behind_one ms))) refl

state_heads : (r : Region) (skip : ℕ) (ms rest : List Mark) → Heads skip (ms ++ rest) → Heads (state r skip ms rest).1 rest
state_heads r skip [] rest h = h
state_heads r (suc skip) (m ∷ ms) rest h = state_heads r skip ms rest h.1
state_heads r zero (m ∷ ms) rest h = state_heads (behind_kind r (first_kind m (ms ++ rest)).0) ((first_kind m (ms ++ rest)).1 - 1) ms rest (first_heads m (ms ++ rest))

no_head : (n : ℕ) (m : Mark) (ms : List Mark) → is_ip m.1 ≡ true → Heads n (m ∷ ms) → n ≡ 0
no_head zero m ms ip h = refl
no_head (suc n) m ms ip h = absurd (not_both (is_ip m.1) ip h.0)

abbrev no_slash_kind : Kind → Bool
no_slash_kind (IsSymbol s) = false
no_slash_kind _ = true

constant_no_slash : (o : Option Constant) → no_slash_kind (constant_kind o) ≡ true
constant_no_slash None = refl
constant_no_slash (Some c) = refl

named_no_slash : (k : Kind) (o : Option Attribute) → no_slash_kind k ≡ true → no_slash_kind (named_kind k o) ≡ true
named_no_slash k None e = e
named_no_slash k (Some a) e = refl

unquoted_no_slash : (slice : List ℕ) → unquoted slice ≡ slash_kind → ⊥
unquoted_no_slash slice e =
    not_both (no_slash_kind (unquoted slice)) (named_no_slash (constant_kind (constant_of slice)) (attribute_of slice) (constant_no_slash (constant_of slice))) (ap no_slash_kind e)

spelled_slash : (b : Bool) (slice : List ℕ) (o : Option Symbol) → (else_or b (spelled_kind (unquoted slice) o)).0 ≡ slash_kind → is_slash o ≡ true
spelled_slash true slice o e = absurd (let never : symbol symbols.Slash (IsSymbol symbols.ElseColon) ≡ true = ap (symbol symbols.Slash) e in cc)
spelled_slash false slice None e = absurd (unquoted_no_slash slice e)
spelled_slash false slice (Some s) e = let same : s ≡ symbols.Slash = cc in ap (λ (r : Symbol). is_slash (Some r)) same

pub slash_of_kind : (slice : List ℕ) (k : TokenKind) (ms : List Mark) → (first_kind (slice, k) ms).0 ≡ slash_kind → is_slash (kind_symbol slice k) ≡ true
slash_of_kind slice token_kinds.Name ms e = spelled_slash (is_else (symbol_of slice) && colon_first ms) slice (symbol_of slice) e
slash_of_kind slice token_kinds.Punctuation ms e = spelled_slash (is_else (symbol_of slice) && colon_first ms) slice (symbol_of slice) e
slash_of_kind slice token_kinds.QuotedName ms e = absurd cc
slash_of_kind slice (token_kinds.Number n) ms e = absurd cc
slash_of_kind slice token_kinds.Text ms e = absurd cc
slash_of_kind slice (token_kinds.Ip addr) ms e = absurd (not_both _ (fold_net addr (slash_first ms) (sort_first (behind_one ms))) (ap is_net e))

pub record LastKind (ws : List Word) (ks : List Kind) (k : Kind) : Type 0 where
  pub front : List Word
  pub word : Word
  pub cut : ws ≡ front ++ word ∷ []
  pub are : kinds_of front ≡ ks
  pub kind : kind_of word ≡ k

no_more : (ws : List Word) → kinds_of ws ≡ [] → ws ≡ []
no_more [] e = refl
no_more (w ∷ ws) e = absurd cc

pub last_kind : (ws : List Word) (ks : List Kind) (k : Kind) → kinds_of ws ≡ ks ++ k ∷ [] → LastKind ws ks k
last_kind [] [] k e = absurd cc
last_kind [] (j ∷ ks) k e = absurd cc
last_kind (w ∷ ws) [] k e =
    let head : kind_of w ≡ k = cc in
    let tail : kinds_of ws ≡ [] = cc in
    record { front = []; word = w; cut = ap (λ (l : List Word). w ∷ l) (no_more ws tail); are = refl; kind = head }
last_kind (w ∷ ws) (j ∷ ks) k e =
    let head : kind_of w ≡ j = cc in
    let tail : kinds_of ws ≡ ks ++ k ∷ [] = cc in
    let l = last_kind ws ks k tail in
    record { front = w ∷ l.front; word = l.word; cut = ap (λ (u : List Word). w ∷ u) l.cut; are = rw (head, l.are) refl; kind = l.kind }

ip_word : (w : Word) → kind_of w ≡ IsAddress → (at : ℕ) × (addr : Addr) × (w ≡ words.Ip at addr)
ip_word (words.Ip at addr) e = (at, addr, refl)
ip_word (words.Name at start len) e = absurd cc
ip_word (words.Number at value) e = absurd cc
ip_word (words.Text at start len) e = absurd cc
ip_word (words.Prefix at net) e = absurd cc
ip_word (words.BadPrefix at) e = absurd cc
ip_word (words.Attribute at a) e = absurd cc
ip_word (words.Constant at c) e = absurd cc
ip_word (words.Symbol s) e = absurd (by (is_placed s) refl)
  where
    by : (b : Bool) → is_placed s ≡ b → ⊥
    by true is = let never : IsStray ≡ IsAddress = rw is at e in cc
    by false is = let never : IsSymbol s ≡ IsAddress = rw is at e in cc
ip_word (words.Placed at s) e = absurd (by (is_placed s) refl)
  where
    by : (b : Bool) → is_placed s ≡ b → ⊥
    by true is = let never : IsSymbol s ≡ IsAddress = rw is at e in cc
    by false is = let never : IsStray ≡ IsAddress = rw is at e in cc

-- a slash behind an address that can't be a prefix's
slash_zero : (front : List Mark) (p : Mark) (xs ys : List Mark) (before : List Word) (tree : ParseTree) (w : Word) (ws : List Word) → DerivesLongest rule tree config → kinds_of before ≡ front_heard regions.Statements 0 front (p ∷ xs) → (state regions.Statements 0 front (p ∷ xs)).1 ≡ 0 → kinds_of (yield tree) ≡ heard regions.Statements 0 (front ++ p ∷ ys) → Refuses front p xs before w ws → kind_of w ≡ slash_kind → (EndInAddress config before → ⊥) → Ended front → ⊥
slash_zero front p xs ys before tree w ws fits are done reads r kind none e =
    let start = state regions.Statements 0 e.front (e.mark ∷ p ∷ xs) in
    let significant = front_heard regions.Statements 0 e.front (e.mark ∷ p ∷ xs) in
    let at : start.1 ≡ 0 = no_head start.1 e.mark (p ∷ xs) e.ip (state_heads regions.Statements 0 e.front (e.mark ∷ p ∷ xs) tt) in
    let made = first_kind e.mark (p ∷ xs) in
    let a = ip_is e.mark.1 e.ip in
    let first = ip_first e.mark (p ∷ xs) a.0 a.1 in
    let behind : state regions.Statements 0 front (p ∷ xs) ≡ state start.0 0 (e.mark ∷ []) (p ∷ xs) =
    ap (λ (l : List Mark). state regions.Statements 0 l (p ∷ xs)) e.cut ∙ state_both regions.Statements 0 e.front (e.mark ∷ []) (p ∷ xs) ∙ ap (λ (n : ℕ). state start.0 n (e.mark ∷ []) (p ∷ xs)) at in
    let size : made.1 - 1 ≡ 0 = sym (ap (λ (s : Region × ℕ). s.1) behind) ∙ done in
    let one : made ≡ (IsAddress, 1) = first ∙ alone_by_size (folded (token_kinds.Ip a.0) (slash_first (p ∷ xs)) (sort_first (behind_one (p ∷ xs)))) (ap (λ (k : Kind × ℕ). k.1 - 1) (sym first) ∙ size) in
    let here : region front p xs ≡ behind_kind start.0 IsAddress = ap (λ (s : Region × ℕ). s.0) behind ∙ ap (λ (k : Kind × ℕ). behind_kind start.0 k.0) one in
    let free : is_open (region front p xs) ≡ true = open_of (region front p xs) slash_kind (ap (is_significant_kind (region front p xs)) (sym kind) ∙ r.is_significant) refl refl in
    let before_free : is_open start.0 ≡ true = open_back start.0 (ap is_open (sym here) ∙ free) in
    let heard_one : front_heard start.0 0 (e.mark ∷ []) (p ∷ xs) ≡ IsAddress ∷ [] =
    ap (λ (k : Kind × ℕ). cond (is_significant_kind start.0 k.0) (k.0 ∷ []) []) one ∙ ap (λ (b : Bool). cond b (IsAddress ∷ []) []) (open_says start.0 IsAddress before_free) in
    let kinds : kinds_of before ≡ significant ++ IsAddress ∷ [] =
    are ∙ ap (λ (l : List Mark). front_heard regions.Statements 0 l (p ∷ xs)) e.cut ∙ front_both regions.Statements 0 e.front (e.mark ∷ []) (p ∷ xs)
    ∙ ap (λ (n : ℕ). significant ++ front_heard start.0 n (e.mark ∷ []) (p ∷ xs)) at ∙ ap (λ (l : List Kind). significant ++ l) heard_one in
    let l = last_kind before significant IsAddress kinds in
    let ip = ip_word l.word l.kind in
    let no_prefix : CanFollow config l.front some_prefix → ⊥ = λ can. none (record { front = l.front; at = ip.0; addr = ip.1; cut = l.cut ∙ ap (λ (x : Word). l.front ++ x ∷ []) ip.2; prefix = can }) in
    let o : Other e.front e.mark (p ∷ xs) (p ∷ ys) l.front tree = record {
      fits = fits;
      are = l.are;
      done = at;
      reads = reads ∙ ap (λ (u : List Mark). heard regions.Statements 0 u) (ap (λ (u : List Mark). u ++ p ∷ ys) e.cut ∙ append_assoc e.front (e.mark ∷ []) (p ∷ ys));
      steady = last_any e.front (Folds e.mark (p ∷ xs) (p ∷ ys)) (λ m. refl);
    } in
    let slashed = slash_of_kind p.0 p.1 xs (r.kind ∙ kind) in
    net_case e.front e.mark (p ∷ xs) (p ∷ ys) l.front tree o before_free (first_kind e.mark (p ∷ ys)).0 refl (first_is_net e.mark (p ∷ ys) e.ip)
    (λ is. no_prefix (prefix_stands e.front e.mark (p ∷ xs) (p ∷ ys) l.front tree o before_free is))
    (λ is. r.last (subst (λ (u : List Word). IsBegun rule config u) (sym (append_assoc l.front (l.word ∷ []) (w ∷ [])) ∙ ap (λ (u : List Word). u ++ w ∷ []) (sym l.cut))
    (follows_two e.front e.mark p (p ∷ xs) ys l.front tree o (address_alone e.mark (p ∷ ys) e.ip is) slashed before_free l.word w l.kind kind)))

zero_no_one : ◌≡◌ {A = ℕ} 0 1 → ⊥
zero_no_one e = omega (arith, e)

zero_no_two : (b : Bool) → ◌≡◌ {A = ℕ} 0 (if b then 2 else 1) → ⊥
zero_no_two true e = omega (arith, e)
zero_no_two false e = omega (arith, e)

no_slash_here : (p : Mark) (xs : List Mark) (w : Word) (b : Bool) → (first_kind p xs).0 ≡ kind_of w → torn_of w ≡ torns.Other → is_slash (sym_of p) ≡ b → b ≡ false
no_slash_here p xs w true is torn e = absurd (kind_no_slash w torn (sym is ∙ ap (λ (k : Kind × ℕ). k.0) (slash_first_kind p xs e)))
no_slash_here p xs w false is torn e = refl

past_zero : (front : List Mark) (p : Mark) (xs ys : List Mark) (before : List Word) (tree : ParseTree) (w : Word) (ws : List Word) (t : Torn) (slash : Bool) → DerivesLongest rule tree config → kinds_of before ≡ front_heard regions.Statements 0 front (p ∷ xs) → (state regions.Statements 0 front (p ∷ xs)).1 ≡ 0 → kinds_of (yield tree) ≡ heard regions.Statements 0 (front ++ p ∷ ys) → Refuses front p xs before w ws → torn_of w ≡ t → IsPast config before t slash 0 → (is_else (sym_of p) ≡ true → colon_first xs ≡ colon_first ys) → (IsBad p xs → CanFollow config before some_prefix → IsBad p ys) → ⊥
past_zero front p xs ys before tree w ws torns.Prefix slash fits are done reads r torn (inl h) colons bad = zero_no_one h.1
past_zero front p xs ys before tree w ws torns.Prefix slash fits are done reads r torn (inr h) colons bad =
    let net : is_net (kind_of w) ≡ true = elim (is_any_prefix w torn) [ inl e ↦ ap is_net e | inr e ↦ ap is_net e ] in
    let plain = ip_no_slash p.0 p.1 (ip_here p xs w r.kind net) in
    prefix_zero front p xs ys before tree w ws (record { fits = fits; are = are; done = done; reads = reads; steady = steady_other front p xs ys plain }) r torn h.0 bad
past_zero front p xs ys before tree w ws torns.Address slash fits are done reads r torn (inl h) colons bad = zero_no_two slash h.1
past_zero front p xs ys before tree w ws torns.Address slash fits are done reads r torn (inr h) colons bad =
    let plain = ip_no_slash p.0 p.1 (ip_here p xs w r.kind (ap is_net (is_address w torn))) in
    address_zero front p xs ys before tree w ws (record { fits = fits; are = are; done = done; reads = reads; steady = steady_other front p xs ys plain }) r torn h.0
past_zero front p xs ys before tree w ws torns.Slash slash fits are done reads r torn (inl h) colons bad = zero_no_one h.1
past_zero front p xs ys before tree w ws torns.Slash slash fits are done reads r torn (inr h) colons bad =
    let kind = is_slash_word w torn in
    let plain = no_ip_here p xs w r.kind (ap is_net kind) in
    elim (ended front) [
      | inl last ↦
          same_case front p xs ys before tree w ws (record { fits = fits; are = are; done = done; reads = reads; steady = steady_plain front p xs ys last }) r
          (ap (λ (k : Kind × ℕ). k.0) (sym (same_first p xs ys colons plain)) ∙ r.kind)
      | inr e ↦ slash_zero front p xs ys before tree w ws fits are done reads r kind h.0 e
    ]
past_zero front p xs ys before tree w ws torns.Other slash fits are done reads r torn h colons bad =
    let plain = no_ip_here p xs w r.kind (kind_other w torn) in
    let steady = steady_other front p xs ys (no_slash_here p xs w (is_slash (sym_of p)) r.kind torn refl) in
    same_case front p xs ys before tree w ws (record { fits = fits; are = are; done = done; reads = reads; steady = steady }) r
    (ap (λ (k : Kind × ℕ). k.0) (sym (same_first p xs ys colons plain)) ∙ r.kind)

-- ---- all of them

refuses : (front : List Mark) (p : Mark) (xs : List Mark) (before : List Word) (w : Word) (ws : List Word) → (state regions.Statements 0 front (p ∷ xs)).1 ≡ 0 → is_significant_kind (region front p xs) (first_kind p xs).0 ≡ true → kinds_of (w ∷ ws) ≡ heard (region front p xs) (state regions.Statements 0 front (p ∷ xs)).1 (p ∷ xs) → (IsBegun rule config (before ++ w ∷ []) → ⊥) → Refuses front p xs before w ws
refuses front p xs before w ws done is_significant kinds last =
    let all : kind_of w ∷ kinds_of ws ≡ (first_kind p xs).0 ∷ heard (behind_kind (region front p xs) (first_kind p xs).0) ((first_kind p xs).1 - 1) xs =
    kinds ∙ ap (λ (n : ℕ). heard (region front p xs) n (p ∷ xs)) done ∙ heard_first (region front p xs) p xs is_significant in
    let head : kind_of w ≡ (first_kind p xs).0 = cc in
    let tail : kinds_of ws ≡ heard (behind_kind (region front p xs) (first_kind p xs).0) ((first_kind p xs).1 - 1) xs = cc in
    record { last = last; kind = sym head; is_significant = ap (is_significant_kind (region front p xs)) head ∙ is_significant; behind = tail }

few : (before : List Word) (t : Torn) (slash : Bool) (n : ℕ) → IsPast config before t slash n → n ≤ 2
few before torns.Prefix slash n (inl h) = omega (arith, h.1)
few before torns.Prefix slash n (inr h) = omega (arith, h.1)
few before torns.Address true n (inl h) = omega (arith, h.1)
few before torns.Address false n (inl h) = omega (arith, h.1)
few before torns.Address slash n (inr h) = omega (arith, h.1)
few before torns.Slash slash n (inl h) = omega (arith, h.1)
few before torns.Slash slash n (inr h) = omega (arith, h.1)
few before torns.Other slash n h = omega (arith, h)

pub refuted : (front gone : List Mark) (before : List Word) (w : Word) (ws : List Word) (m : Mark) (xs ys : List Mark) (tree : ParseTree) → DerivesLongest rule tree config
    → kinds_of before ≡ front_heard regions.Statements 0 front (gone ++ m ∷ xs)
    → IsNext (state regions.Statements 0 front (gone ++ m ∷ xs)) (gone ++ m ∷ xs)
    → kinds_of (w ∷ ws) ≡ heard (state regions.Statements 0 front (gone ++ m ∷ xs)).0 (state regions.Statements 0 front (gone ++ m ∷ xs)).1 (gone ++ m ∷ xs)
    → (IsBegun rule config (before ++ w ∷ []) → ⊥) → IsPast config before (torn_of w) (begins (symbol symbols.Slash) ws) (length gone)
    → kinds_of (yield tree) ≡ heard regions.Statements 0 (front ++ (gone ++ m ∷ ys))
    → (is_else (sym_of m) ≡ true → colon_first xs ≡ colon_first ys) → (length gone ≡ 0 → IsBad m xs → CanFollow config before some_prefix → IsBad m ys) → ⊥
refuted front [] before w ws m xs ys tree fits are next kinds last past reads colons bad =
    past_zero front m xs ys before tree w ws (torn_of w) _ fits are next.0 reads (refuses front m xs before w ws next.0 next.1 kinds last) refl past colons (bad refl)
refuted front (g ∷ []) before w ws m xs ys tree fits are next kinds last past reads colons bad =
    past_one front g m xs ys before tree w ws (torn_of w)
    (record { fits = fits; are = are; done = next.0; reads = reads; steady = last_any front (Folds g (m ∷ xs) (m ∷ ys)) (λ k. refl) })
    (refuses front g (m ∷ xs) before w ws next.0 next.1 kinds last) refl past
refuted front (g ∷ h ∷ []) before w ws m xs ys tree fits are next kinds last past reads colons bad =
    past_two front g h m xs ys before tree w ws
    (record { fits = fits; are = are; done = next.0; reads = reads; steady = last_any front (Folds g (h ∷ m ∷ xs) (h ∷ m ∷ ys)) (λ k. refl) })
    (refuses front g (h ∷ m ∷ xs) before w ws next.0 next.1 kinds last)
refuted front (g ∷ h ∷ i ∷ gone) before w ws m xs ys tree fits are next kinds last past reads colons bad =
    omega (arith, few before (torn_of w) (begins (symbol symbols.Slash) ws) (length (g ∷ h ∷ i ∷ gone)) past)
