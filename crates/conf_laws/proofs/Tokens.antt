-- What stands before a refused token begins a configuration.
use Rattle.std.proofs.Common.{◌≡◌, ℕ, zero, suc, ◌+◌, ◌-◌, ◌≤◌, Bool, true, false, cond, List, [], ◌∷◌, ◌++◌, length, take, drop, slice_index_or, refl, sym, ap, subst, ◌∙◌, arith, append_assoc, append-nil, inl, inr, ◌<◌, ◌⊎◌}
use Rattle.std.specs.Prelude.{if◌then◌else◌, codes}
use Rattle.std.proofs.lemmas.List.{length-append}
use Rattle.conf_lex.specs.Symbols.{is_slash}
use Rattle.conf_scan.specs.Lex.{Lexes}
use Rattle.conf_scan.specs.Spans.{IsSpan, IsBetween}
use Rattle.conf_lex.specs.declared.symbol.Symbol.TheVariants as symbols
use Rattle.conf_scan.specs.declared.token.Token.{Token}
use Rattle.conf_scan.specs.declared.token.TokenKind.TheVariants as token_kinds
use Rattle.conf_lex.specs.declared.word.Word.{Word}
use Rattle.conf_lex.specs.declared.word.Word.TheVariants as words
use Rattle.conf_lex.specs.Kind.{Kind, IsAddress, kind_of, symbol}
use Rattle.conf_lex.specs.Grammar.{ParseTree, yield, begins}
use Rattle.conf_lex.specs.Sentences.{IsBegun, IsBegunWithin}
use Rattle.expr_syntax.specs.Syntax.{rule}
use Rattle.filt_syntax.specs.RefusedToken.{some_prefix, some_address, torn_of, IsPast, IsPastFirst}
use Rattle.filt_syntax.specs.declared.parse.SyntaxFault.TheVariants as faults
use Rattle.filt_syntax.specs.declared.refused_token.Torn.{Torn}
use Rattle.filt_syntax.specs.declared.refused_token.Torn.TheVariants as torns
use Rattle.conf_syntax.specs.Syntax.{config}
use Rattle.conf_words.specs.Bytes.{byte_of}
use Rattle.conf_words.specs.Significant.{significant_words}
use Rattle.conf_tree.specs.Sentence.{IsRefused}
use Rattle.conf_tree.specs.Read.{IsRefusedText}
use Rattle.conf_ast.specs.declared.kind.ConfKind.TheVariants as kinds
use Rattle.conf_words.specs.declared.significant.Region.{Region}
use Rattle.conf_words.specs.declared.significant.Region.TheVariants as regions
use Rattle.conf_laws.proofs.KindTrees.{kinds_of}
use Rattle.conf_laws.proofs.Marks.{Mark, mark, marks, marks_both, sym_of, first_kind, behind_kind, is_significant_kind, heard, front_heard, state, IsNext}
use Rattle.syntax_laws.proofs.Pasts.{front_begun}
use Rattle.bits_ip.specs.declared.address.Addr.{Addr}
use Rattle.conf_laws.proofs.TokenPlaces.{Rise, one_place, starts, within}
use Rattle.conf_laws.proofs.ByTokens.{heard_first, is_address, is_net, is_slash_word, kinds_both, one_no_zero, open_address, open_says, state_both}
use Rattle.conf_laws.proofs.TokenLaw.{gone_of, len_map}
use Rattle.conf_laws.proofs.Levels.{Opens}
use Rattle.conf_laws.specs.Spaced.{AreSpellings, IsSpelling}
use Rattle.conf_laws.specs.Begun.{BeginSome}
use Rattle.conf_laws.proofs.Pieces.{IsPiece, Good}
use Rattle.conf_laws.proofs.Complete.{words_of, completed, fits_spells}
use Rattle.conf_laws.proofs.Regions.{kind_is}
use Rattle.conf_laws.proofs.Joined.{spell, spelled, spellings_both}
use Rattle.conf_laws.proofs.Begins.{core, text_of, before_place, spelled_front, LateIn, front_late, Ends, begun_ends, halves}
use Rattle.conf_laws.proofs.Within.{whole_mark, net_mark, slash_mark, address_alone, address_open, address_piece, prefix_piece, sign_slash, sign_spelling, ends_in_ip, prefix_word, whole_first}

-- ---- a completion that begins with a word of the front

-- Where two marks of a piece belong to the front, the word goes on behind the second.
abbrev GoesOn : List Mark → List Mark → Type 0
GoesOn gone added =
    (good : List Good) (q : Region) (x : Mark) (g : List Mark) → gone ≡ x ∷ g → 1 ≤ length g
    → (state q 0 (x ∷ []) ((g ++ added) ++ spell good)).1 ≡ 2

one_goes_on : (m : Mark) (added : List Mark) → GoesOn (m ∷ []) added
one_goes_on m added good q x g e low = absurd (omega (arith, low, ap (λ (l : List Mark). length l) e))

two_go_on : (m s : Mark) (addr : Addr) → m.1 ≡ token_kinds.Ip addr → is_slash (sym_of s) ≡ true → GoesOn (m ∷ s ∷ []) (whole_mark addr ∷ [])
two_go_on m s addr ip slash good q x g e low =
    let head : m ≡ x = cc in
    let tail : s ∷ [] ≡ g = cc in
    subst (λ (n : Mark). (state q 0 (n ∷ []) ((g ++ whole_mark addr ∷ []) ++ spell good)).1 ≡ 2) head
    (subst (λ (l : List Mark). (state q 0 (m ∷ []) ((l ++ whole_mark addr ∷ []) ++ spell good)).1 ≡ 2) tail
    (ap (λ (j : Kind × ℕ). j.1 - 1) (whole_first m s (spell good) addr ip slash)))

less_or : (a b : ℕ) → (a < b) ⊎ (b ≤ a)
less_or a zero = inr (omega arith)
less_or zero (suc b) = inl (omega arith)
less_or (suc a) (suc b) = elim (less_or a b) [ inl l ↦ inl (omega (arith, l)) | inr l ↦ inr (omega (arith, l)) ]

-- a front, marks of the piece that belong to it, and the others
module _ (c gone added : List Mark) (W : List Word) (v : Word) (is : IsPiece (v, gone ++ added)) (net : is_net (kind_of v) ≡ true) (few : length gone ≤ 2) (torn : GoesOn gone added) where
  -- the refused word isn't that of the piece
  not_there : (ks : List Kind) (u : ParseTree) (r : List Word) (o : Opens u r) → kinds_of (yield u) ≡ kinds_of W ++ kind_of v ∷ ks → length W ≡ length o.before → ⊥
  not_there ks u r o kinds same =
      let all : kinds_of o.before ++ kind_of o.opener ∷ kinds_of o.more ≡ kinds_of W ++ kind_of v ∷ ks = sym (kinds_both o.before (o.opener ∷ o.more)) ∙ ap kinds_of (sym o.reads) ∙ kinds in
      let h = halves (kinds_of o.before) (kind_of o.opener ∷ kinds_of o.more) (kinds_of W) (kind_of v ∷ ks) all (omega (arith, same, len_map kind_of o.before, len_map kind_of W)) in
      let tail : kind_of o.opener ∷ kinds_of o.more ≡ kind_of v ∷ ks = h.1 in
      let head : kind_of o.opener ≡ kind_of v = cc in
      let yes : is_net (kind_of o.opener) ≡ true = ap is_net head ∙ net in
      let never : true ≡ false = sym yes ∙ o.net in
      cc

  torn_there : (good : List Good) (x y z : Mark) (front back : List Mark) → gone ≡ y ∷ z ∷ [] → front ≡ c ++ x ∷ [] → (gone ++ added) ++ spell good ≡ x ∷ back
      → (state regions.Statements 0 c ((gone ++ added) ++ spell good)).1 ≡ 0 → IsNext (state regions.Statements 0 front back) back → ⊥
  torn_there good x y z front back two is_front is_rest done next =
      let ns : y ∷ z ∷ (added ++ spell good) ≡ x ∷ back = ap (λ (l : List Mark). (l ++ added) ++ spell good) (sym two) ∙ is_rest in
      let head : y ≡ x = cc in
      let tail : z ∷ (added ++ spell good) ≡ back = cc in
      let st = state regions.Statements 0 c (x ∷ back) in
      let start : st.1 ≡ 0 = ap (λ (l : List Mark). (state regions.Statements 0 c l).1) (sym is_rest) ∙ done in
      let goes = torn good st.0 x (z ∷ []) (two ∙ ap (λ (m : Mark). m ∷ z ∷ []) head) (omega arith) in
      let at : state regions.Statements 0 front back ≡ state st.0 st.1 (x ∷ []) back = ap (λ (l : List Mark). state regions.Statements 0 l back) is_front ∙ state_both regions.Statements 0 c (x ∷ []) back in
      let size : (state regions.Statements 0 front back).1 ≡ 2 =
      ap (λ (s : Region × ℕ). s.1) at ∙ ap (λ (n : ℕ). (state st.0 n (x ∷ []) back).1) start ∙ ap (λ (l : List Mark). (state st.0 0 (x ∷ []) l).1) (sym tail) ∙ goes in
      let there : IsNext (state regions.Statements 0 front back) (z ∷ (added ++ spell good)) = subst (λ (l : List Mark). IsNext (state regions.Statements 0 front back) l) (sym tail) next in
      omega (arith, size, there.0)

  behind_there : (good : List Good) (x : Mark) (g gs front back : List Mark) → gone ≡ gs → front ≡ c ++ x ∷ g → (gone ++ added) ++ spell good ≡ x ∷ (g ++ back) → length front < length (c ++ gone)
      → (state regions.Statements 0 c ((gone ++ added) ++ spell good)).1 ≡ 0 → IsNext (state regions.Statements 0 front back) back → ⊥
  behind_there good x g [] front back is_gone is_front is_rest low done next =
      omega (arith, low, ap (λ (l : List Mark). length l) is_front, length-append c (x ∷ g), length-append c gone, ap (λ (l : List Mark). length l) is_gone)
  behind_there good x g (y ∷ []) front back is_gone is_front is_rest low done next =
      omega (arith, low, ap (λ (l : List Mark). length l) is_front, length-append c (x ∷ g), length-append c gone, ap (λ (l : List Mark). length l) is_gone)
  behind_there good x [] (y ∷ z ∷ []) front back is_gone is_front is_rest low done next = torn_there good x y z front back is_gone is_front is_rest done next
  behind_there good x (m ∷ g) (y ∷ z ∷ []) front back is_gone is_front is_rest low done next =
      omega (arith, low, ap (λ (l : List Mark). length l) is_front, length-append c (x ∷ m ∷ g), length-append c gone, ap (λ (l : List Mark). length l) is_gone)
  behind_there good x g (y ∷ z ∷ w ∷ gs) front back is_gone is_front is_rest low done next = omega (arith, few, ap (λ (l : List Mark). length l) is_gone)

  behind_front : (good : List Good) (u : ParseTree) (r : List Word) (o : Opens u r) (g front back : List Mark) → front ≡ c ++ g → (gone ++ added) ++ spell good ≡ g ++ back → length front < length (c ++ gone)
      → front_heard regions.Statements 0 c ((gone ++ added) ++ spell good) ≡ kinds_of W → (state regions.Statements 0 c ((gone ++ added) ++ spell good)).1 ≡ 0
      → kinds_of (yield u) ≡ kinds_of W ++ kind_of v ∷ kinds_of (words_of good) → length (front_heard regions.Statements 0 front back) ≡ length o.before → IsNext (state regions.Statements 0 front back) back → ⊥
  behind_front good u r o [] front back is_front is_rest low are done all size next =
      let flat : front ≡ c = is_front ∙ append-nil c in
      let same : front_heard regions.Statements 0 front back ≡ kinds_of W =
      ap (λ (l : List Mark). front_heard regions.Statements 0 l back) flat ∙ ap (λ (l : List Mark). front_heard regions.Statements 0 c l) (sym is_rest) ∙ are in
      not_there (kinds_of (words_of good)) u r o all (omega (arith, size, ap (λ (l : List Kind). length l) same, len_map kind_of W))
  behind_front good u r o (x ∷ g) front back is_front is_rest low are done all size next = behind_there good x g gone front back refl is_front is_rest low done next

  piece_late : (good : List Good) → IsBegunWithin rule 64 config W → front_heard regions.Statements 0 c ((gone ++ added) ++ spell good) ≡ kinds_of W → (state regions.Statements 0 c ((gone ++ added) ++ spell good)).1 ≡ 0
      → heard regions.Statements 0 (c ++ ((gone ++ added) ++ spell good)) ≡ kinds_of W ++ kind_of v ∷ kinds_of (words_of good) → LateIn (c ++ gone) (added ++ spell good)
  piece_late good b are done kinds u r h e o reads front back cut next size low =
      let same : (c ++ gone) ++ (added ++ spell good) ≡ c ++ ((gone ++ added) ++ spell good) = append_assoc c gone (added ++ spell good) ∙ ap (λ (l : List Mark). c ++ l) (sym (append_assoc gone added (spell good))) in
      let there : c ++ ((gone ++ added) ++ spell good) ≡ front ++ back = sym same ∙ cut in
      let all : kinds_of (yield u) ≡ heard regions.Statements 0 (c ++ ((gone ++ added) ++ spell good)) = reads ∙ ap (heard regions.Statements 0) same in
      elim (less_or (length front) (length c)) [
        | inl less ↦ front_late c ((gone ++ added) ++ spell good) W b are u r h e o all front back there next size less
        | inr more ↦
            let g = gone_of c ((gone ++ added) ++ spell good) front back there more in
            behind_front good u r o g.gone front back g.whole g.rest low are done (all ∙ kinds) size next
      ]

  -- a piece that belongs to the front in part, and a completion
  pieced : (rest : List Mark) → is_significant_kind (regions.Inside 0) (kind_of v) ≡ false → AreSpellings added → kinds_of W ≡ front_heard regions.Statements 0 c rest → (state regions.Statements 0 c rest).1 ≡ 0
      → IsBegunWithin rule 64 config W → IsBegun rule config (W ++ v ∷ []) → Ends (c ++ gone)
  pieced rest unsaid spellings are done within b =
      let x = completed b.0 (W ++ v ∷ []) b.1 (fits_spells b.0 config b.2) b.3 in
      let k = core c rest W (((v, gone ++ added), is) ∷ x.good) x.tree x.spells (x.reads ∙ append_assoc W (v ∷ []) (words_of x.good)) are done in
      let all : k.all ≡ ((v, gone ++ added), is) ∷ x.good = k.same ((v, gone ++ added), is) x.good refl unsaid in
      let ns : spell k.all ≡ (gone ++ added) ++ spell x.good = ap spell all in
      let cut : c ++ ((gone ++ added) ++ spell x.good) ≡ (c ++ gone) ++ (added ++ spell x.good) = ap (λ (l : List Mark). c ++ l) (append_assoc gone added (spell x.good)) ∙ sym (append_assoc c gone (added ++ spell x.good)) in
      let reads : kinds_of (yield k.tree) ≡ heard regions.Statements 0 (c ++ ((gone ++ added) ++ spell x.good)) = k.reads ∙ ap (λ (l : List Mark). heard regions.Statements 0 (c ++ l)) ns in
      record {
        zs = added ++ spell x.good;
        tree = k.tree;
        fits = k.fits;
        spellings = spellings_both added (spell x.good) spellings (spelled x.good);
        reads = reads ∙ ap (heard regions.Statements 0) cut;
        late = piece_late x.good within (ap (λ (l : List Mark). front_heard regions.Statements 0 c l) (sym ns) ∙ k.front) (ap (λ (l : List Mark). (state regions.Statements 0 c l).1) (sym ns) ∙ k.done) (sym reads ∙ k.kinds);
      }

-- ---- the tokens of a refused word

spelled_at : (xs : List Mark) (m : Mark) (ys : List Mark) → AreSpellings (xs ++ m ∷ ys) → IsSpelling m
spelled_at [] m ys are = are.0
spelled_at (x ∷ xs) m ys are = spelled_at xs m ys are.1

two_no_one : ◌≡◌ {A = ℕ} 2 1 → ⊥
two_no_one e = omega (arith, e)

two_no_zero : ◌≡◌ {A = ℕ} 2 0 → ⊥
two_no_zero e = omega (arith, e)

is_two : (b : Bool) → ◌≡◌ {A = ℕ} 2 (if b then 2 else 1) → b ≡ true
is_two true e = refl
is_two false e = absurd (omega (arith, e))

-- What is known where a word is refused, and some of its marks stand before the refused token.
record Here (c rest : List Mark) (W ws : List Word) : Type 0 where
  are : kinds_of W ≡ front_heard regions.Statements 0 c rest
  done : (state regions.Statements 0 c rest).1 ≡ 0
  next : IsNext (state regions.Statements 0 c rest) rest
  left : kinds_of ws ≡ heard (state regions.Statements 0 c rest).0 (state regions.Statements 0 c rest).1 rest
  begun : IsBegunWithin rule 64 config W

-- the first of the words begins with the first of the marks
record Heads (q : Region) (x : Mark) (behind : List Mark) (w : Word) (ws : List Word) : Type 0 where
  kind : (first_kind x behind).0 ≡ kind_of w
  says : is_significant_kind q (first_kind x behind).0 ≡ true
  tail : kinds_of ws ≡ heard (behind_kind q (first_kind x behind).0) ((first_kind x behind).1 - 1) behind

heads : (c : List Mark) (x : Mark) (behind : List Mark) (W : List Word) (w : Word) (ws : List Word) → Here c (x ∷ behind) W (w ∷ ws) → Heads (state regions.Statements 0 c (x ∷ behind)).0 x behind w ws
heads c x behind W w ws h =
    let q = (state regions.Statements 0 c (x ∷ behind)).0 in
    let all : kind_of w ∷ kinds_of ws ≡ (first_kind x behind).0 ∷ heard (behind_kind q (first_kind x behind).0) ((first_kind x behind).1 - 1) behind =
    h.left ∙ ap (λ (n : ℕ). heard q n (x ∷ behind)) h.done ∙ heard_first q x behind h.next.1 in
    let head : kind_of w ≡ (first_kind x behind).0 = cc in
    let tail : kinds_of ws ≡ heard (behind_kind q (first_kind x behind).0) ((first_kind x behind).1 - 1) behind = cc in
    record { kind = sym head; says = h.next.1; tail = tail }

-- a word behind an address is a slash, and so is the mark
slash_second : (q : Region) (x y : Mark) (behind : List Mark) (w : Word) (ws : List Word) → Heads q x (y ∷ behind) w ws → kind_of w ≡ IsAddress → begins (symbol symbols.Slash) ws ≡ true → is_slash (sym_of y) ≡ true
slash_second q x y behind w [] h is slash = absurd cc
slash_second q x y behind w (v ∷ ws) h is slash =
    let one = address_alone x (y ∷ behind) (h.kind ∙ is) in
    let net : is_net (first_kind x (y ∷ behind)).0 ≡ true = ap (λ (j : Kind × ℕ). is_net j.0) one in
    let free = address_open q (first_kind x (y ∷ behind)).0 net h.says in
    let p = behind_kind q IsAddress in
    let tail : kind_of v ∷ kinds_of ws ≡ (first_kind y behind).0 ∷ heard (behind_kind p (first_kind y behind).0) ((first_kind y behind).1 - 1) behind =
    h.tail ∙ ap (λ (j : Kind × ℕ). heard (behind_kind q j.0) (j.1 - 1) (y ∷ behind)) one ∙ heard_first p y behind (open_says p (first_kind y behind).0 (open_address q free)) in
    let head : kind_of v ≡ (first_kind y behind).0 = cc in
    slash_mark y behind (sym head ∙ kind_is (kind_of v) symbols.Slash slash)

-- one mark of the word stands before
one_mark : (c : List Mark) (x : Mark) (behind ms : List Mark) (W : List Word) (w : Word) (ws : List Word) (t : Torn) → ms ≡ c ++ x ∷ [] → AreSpellings ms → Here c (x ∷ behind) W (w ∷ ws) → torn_of w ≡ t → IsPast config W t (begins (symbol symbols.Slash) ws) 1 → Ends ms
one_mark c x behind ms W w ws torns.Prefix cut are h torn (inl p) =
    let e = heads c x behind W w ws h in
    let a = net_mark x behind (ap is_net e.kind ∙ prefix_word w torn) in
    let is = spelled_at c x [] (subst AreSpellings cut are) in
    subst Ends (sym cut) (pieced c (x ∷ []) [] W some_address (address_piece x a.0 a.1 is) refl (omega arith) (one_goes_on x []) (x ∷ behind) refl tt h.are h.done h.begun p.0.0)
one_mark c x behind ms W w ws torns.Prefix cut are h torn (inr p) = absurd (one_no_zero p.1)
one_mark c x behind ms W w ws torns.Address cut are h torn (inl p) =
    let e = heads c x behind W w ws h in
    let a = net_mark x behind (ap is_net (e.kind ∙ is_address w torn)) in
    let is = spelled_at c x [] (subst AreSpellings cut are) in
    let piece = prefix_piece x (codes "/", token_kinds.Punctuation) a.0 a.1 sign_slash is sign_spelling in
    subst Ends (sym cut) (pieced c (x ∷ []) ((codes "/", token_kinds.Punctuation) ∷ whole_mark a.0 ∷ []) W some_prefix piece refl (omega arith) (one_goes_on x ((codes "/", token_kinds.Punctuation) ∷ whole_mark a.0 ∷ [])) (x ∷ behind) refl piece.spelled.1 h.are h.done h.begun p.0.0)
one_mark c x behind ms W w ws torns.Address cut are h torn (inr p) = absurd (one_no_zero p.1)
one_mark c x behind ms W w ws torns.Slash cut are h torn (inl p) =
    let e = heads c x behind W w ws h in
    let slash = slash_mark x behind (e.kind ∙ is_slash_word w torn) in
    let last : front_heard regions.Statements 0 c (x ∷ behind) ≡ kinds_of p.0.front ++ IsAddress ∷ [] =
    sym h.are ∙ ap kinds_of p.0.cut ∙ kinds_both p.0.front (words.Ip p.0.at p.0.addr ∷ []) in
    let z = ends_in_ip regions.Statements 0 c (x ∷ behind) (kinds_of p.0.front) last h.done in
    let all : ms ≡ z.front ++ z.mark ∷ x ∷ [] = cut ∙ ap (λ (l : List Mark). l ++ x ∷ []) z.cut ∙ append_assoc z.front (z.mark ∷ []) (x ∷ []) in
    let spellings = subst AreSpellings all are in
    let other = subst AreSpellings (all ∙ sym (append_assoc z.front (z.mark ∷ []) (x ∷ []))) are in
    let piece = prefix_piece z.mark x z.addr z.ip slash (spelled_at z.front z.mark (x ∷ []) spellings) (spelled_at (z.front ++ z.mark ∷ []) x [] other) in
    subst Ends (sym all) (pieced z.front (z.mark ∷ x ∷ []) (whole_mark z.addr ∷ []) p.0.front some_prefix piece refl (omega arith) (two_go_on z.mark x z.addr z.ip slash) (z.mark ∷ x ∷ behind) refl piece.spelled.1.1 (sym z.heard) z.done (front_begun config W p.0.front (words.Ip p.0.at p.0.addr) p.0.cut h.begun) p.0.prefix)
one_mark c x behind ms W w ws torns.Slash cut are h torn (inr p) = absurd (one_no_zero p.1)
one_mark c x behind ms W w ws torns.Other cut are h torn p = absurd (one_no_zero p)

-- two marks do
two_marks : (c : List Mark) (x y : Mark) (behind ms : List Mark) (W : List Word) (w : Word) (ws : List Word) (t : Torn) → ms ≡ c ++ x ∷ y ∷ [] → AreSpellings ms → Here c (x ∷ y ∷ behind) W (w ∷ ws) → torn_of w ≡ t → IsPast config W t (begins (symbol symbols.Slash) ws) 2 → Ends ms
two_marks c x y behind ms W w ws torns.Prefix cut are h torn (inl p) = absurd (two_no_one p.1)
two_marks c x y behind ms W w ws torns.Prefix cut are h torn (inr p) = absurd (two_no_zero p.1)
two_marks c x y behind ms W w ws torns.Address cut are h torn (inl p) =
    let q = (state regions.Statements 0 c (x ∷ y ∷ behind)).0 in
    let e = heads c x (y ∷ behind) W w ws h in
    let is = is_address w torn in
    let a = net_mark x (y ∷ behind) (ap is_net (e.kind ∙ is)) in
    let slash = slash_second q x y behind w ws e is (is_two (begins (symbol symbols.Slash) ws) p.1) in
    let spellings = subst AreSpellings cut are in
    let other = subst AreSpellings (cut ∙ sym (append_assoc c (x ∷ []) (y ∷ []))) are in
    let piece = prefix_piece x y a.0 a.1 slash (spelled_at c x (y ∷ []) spellings) (spelled_at (c ++ x ∷ []) y [] other) in
    subst Ends (sym cut) (pieced c (x ∷ y ∷ []) (whole_mark a.0 ∷ []) W some_prefix piece refl (omega arith) (two_go_on x y a.0 a.1 slash) (x ∷ y ∷ behind) refl piece.spelled.1.1 h.are h.done h.begun p.0.0)
two_marks c x y behind ms W w ws torns.Address cut are h torn (inr p) = absurd (two_no_zero p.1)
two_marks c x y behind ms W w ws torns.Slash cut are h torn (inl p) = absurd (two_no_one p.1)
two_marks c x y behind ms W w ws torns.Slash cut are h torn (inr p) = absurd (two_no_zero p.1)
two_marks c x y behind ms W w ws torns.Other cut are h torn p = absurd (two_no_zero p)

few : (before : List Word) (t : Torn) (slash : Bool) (n m : ℕ) → (slash ≡ true → 1 ≤ m) → IsPast config before t slash n → (n ≤ 2) × (n ≤ suc m)
few before torns.Prefix slash n m some (inl h) = (omega (arith, h.1), omega (arith, h.1))
few before torns.Prefix slash n m some (inr h) = (omega (arith, h.1), omega (arith, h.1))
few before torns.Address true n m some (inl h) = (omega (arith, h.1), omega (arith, h.1, some refl))
few before torns.Address false n m some (inl h) = (omega (arith, h.1), omega (arith, h.1))
few before torns.Address slash n m some (inr h) = (omega (arith, h.1), omega (arith, h.1))
few before torns.Slash slash n m some (inl h) = (omega (arith, h.1), omega (arith, h.1))
few before torns.Slash slash n m some (inr h) = (omega (arith, h.1), omega (arith, h.1))
few before torns.Other slash n m some h = (omega (arith, h), omega (arith, h))

some_words : (ws : List Word) → begins (symbol symbols.Slash) ws ≡ true → 1 ≤ length ws
some_words [] e = absurd cc
some_words (w ∷ ws) e = omega arith

-- the marks of the word that stand before
by_gone : (c gone behind ms : List Mark) (W ws : List Word) → ms ≡ c ++ gone → AreSpellings ms → Here c (gone ++ behind) W ws → IsPastFirst config W ws (length gone) → Ends ms
by_gone c [] behind ms W ws cut are h past =
    let e = begun_ends c behind W h.are h.done h.begun in
    subst Ends (sym (cut ∙ append-nil c)) e
by_gone c (x ∷ gone) behind ms W [] cut are h past = absurd (omega (arith, past))
by_gone c (x ∷ []) behind ms W (w ∷ ws) cut are h past = one_mark c x behind ms W w ws (torn_of w) cut are h refl past
by_gone c (x ∷ y ∷ []) behind ms W (w ∷ ws) cut are h past = two_marks c x y behind ms W w ws (torn_of w) cut are h refl past
by_gone c (x ∷ y ∷ z ∷ gone) behind ms W (w ∷ ws) cut are h past =
    absurd (omega (arith, (few W (torn_of w) (begins (symbol symbols.Slash) ws) (length (x ∷ y ∷ z ∷ gone)) (length ws) (some_words ws) past).0))

-- ---- a place in the tokens

cond_short : (b : Bool) (k : Kind) (ks : List Kind) (n : ℕ) → length ks ≤ n → length (cond b (k ∷ ks) ks) ≤ suc n
cond_short true k ks n low = omega (arith, low)
cond_short false k ks n low = omega (arith, low)

heard_short : (r : Region) (skip : ℕ) (ms : List Mark) → length (heard r skip ms) ≤ length ms
heard_short r skip [] = omega arith
heard_short r (suc skip) (m ∷ ms) = omega (arith, heard_short r skip ms)
heard_short r zero (m ∷ ms) =
    let k = first_kind m ms in
    cond_short (is_significant_kind r k.0) k.0 (heard (behind_kind r k.0) (k.1 - 1) ms) (length ms) (heard_short (behind_kind r k.0) (k.1 - 1) ms)

past_words : (W ws : List Word) (n : ℕ) → IsPastFirst config W ws n → n ≤ length ws
past_words W [] n past = omega (arith, past)
past_words W (w ∷ ws) n past = (few W (torn_of w) (begins (symbol symbols.Slash) ws) n (length ws) (some_words ws) past).1

-- a refused token is one of the tokens, or the end
refused_within : (text : List ℕ) (tokens : List Token) (at : ℕ) → IsRefused text tokens (faults.Bad at) → at ≤ length tokens
refused_within text tokens at h =
    let a = before_place text tokens h.0 h.1.start h.1.stops in
    let W = take h.0 (significant_words text tokens) in
    let ws = drop h.0 (significant_words text tokens) in
    let st = state regions.Statements 0 a.front a.rest in
    omega (
      arith,
      h.1.token,
      a.at,
      past_words W ws h.1.past h.1.is_past,
      len_map kind_of ws,
      ap (λ (l : List Kind). length l) a.left,
      heard_short st.0 st.1 a.rest,
      ap (λ (l : List Mark). length l) a.cut,
      length-append a.front a.rest,
      len_map (mark text) tokens,
    )

before_refused : (text : List ℕ) (front back : List Token) → AreSpellings (marks text front) → IsRefused text (front ++ back) (faults.Bad (length front)) → BeginSome text front
before_refused text front back are h =
    let tokens = front ++ back in
    let a = before_place text (front ++ back) h.0 h.1.start h.1.stops in
    let W = take h.0 (significant_words text (front ++ back)) in
    let ws = drop h.0 (significant_words text (front ++ back)) in
    let cut : a.front ++ a.rest ≡ marks text front ++ marks text back = sym a.cut ∙ marks_both text front back in
    let g = gone_of a.front a.rest (marks text front) (marks text back) cut (omega (arith, a.at, h.1.token, len_map (mark text) front)) in
    let size : h.1.past ≡ length g.gone = omega (arith, a.at, h.1.token, len_map (mark text) front, ap (λ (l : List Mark). length l) g.whole, length-append a.front g.gone) in
    let here : Here a.front a.rest W ws = record { are = a.are; done = a.done; next = a.next; left = a.left; begun = a.begun } in
    let e = by_gone a.front g.gone (marks text back) (marks text front) W ws g.whole are
    (subst (λ (r : List Mark). Here a.front r W ws) g.rest here)
    (subst (λ (n : ℕ). IsPastFirst config W ws n) size h.1.is_past) in
    text_of text front e.zs e.tree are e.spellings e.fits e.reads e.late

-- ---- a place in the text

low_end : (low end : ℕ) (ts : List Token) → Rise low end ts → low ≤ end
low_end low end [] h = h
low_end low end (t ∷ ts) h = let more = low_end (t.at + 1) end ts h.1 in omega (arith, h.0, more)

end_place : (low end : ℕ) (ts : List Token) → Rise low end ts → (i : ℕ) → slice_index_or (starts ts) i end ≡ end → length ts ≤ i
end_place low end [] h i e = omega arith
end_place low end (t ∷ ts) h zero e = absurd (omega (arith, low_end (t.at + 1) end ts h.1, e))
end_place low end (t ∷ ts) h (suc i) e = let more = end_place (t.at + 1) end ts h.1 i e in omega (arith, more)

module _ (once : (text : List ℕ) (ts us : List Token) → Lexes 0 text ts → Lexes 0 text us → ts ≡ us)
    (slices : (text : List ℕ) (front back : List Token) (t : Token) → Lexes 0 text (front ++ t ∷ back) → IsSpan text t)
    (rising : (text : List ℕ) (front back : List Token) (t u : Token) → Lexes 0 text (front ++ t ∷ u ∷ back) → IsBetween text (t.at + t.len) u.at) where
  rise_behind : (text : List ℕ) (front : List Token) (t : Token) (ts : List Token) → Lexes 0 text (front ++ t ∷ ts) → Rise (t.at + 1) (length text) ts
  rise_behind text front t [] lexes = let s = slices text front [] t lexes in omega (arith, s.some, s.within)
  rise_behind text front t (u ∷ us) lexes =
      let s = slices text front (u ∷ us) t lexes in
      let b = rising text front us t u lexes in (
        omega (arith, s.some, b.rises),
        rise_behind text (front ++ t ∷ []) u us (subst (λ (l : List Token). Lexes 0 text l) (sym (append_assoc front (t ∷ []) (u ∷ us))) lexes),
      )

  rise_all : (text : List ℕ) (ts : List Token) → Lexes 0 text ts → Rise 0 (length text) ts
  rise_all text [] lexes = omega arith
  rise_all text (t ∷ ts) lexes = (omega arith, rise_behind text [] t ts lexes)

  pub before_token : (text : List ℕ) (front back : List Token) (t : Token) → Lexes 0 text (front ++ t ∷ back) → IsRefusedText text t.at kinds.Syntax → BeginSome text front
  before_token text front back t lexes h =
      let same : h.0 ≡ front ++ t ∷ back = once text h.0 (front ++ t ∷ back) h.2 lexes in
      let refused : IsRefused text (front ++ t ∷ back) (faults.Bad h.1) = subst (λ (l : List Token). IsRefused text l (faults.Bad h.1)) same h.3 in
      let at : t.at ≡ byte_of text (front ++ t ∷ back) h.1 = subst (λ (l : List Token). t.at ≡ byte_of text l h.1) same h.4 in
      let place = one_place 0 (length text) front t back (rise_all text (front ++ t ∷ back) lexes) h.1 (sym at) in
      before_refused text front (t ∷ back) (spelled_front slices text front (t ∷ back) lexes) (subst (λ (n : ℕ). IsRefused text (front ++ t ∷ back) (faults.Bad n)) place refused)

  pub before_end : (text : List ℕ) (tokens : List Token) → Lexes 0 text tokens → IsRefusedText text (length text) kinds.Syntax → BeginSome text tokens
  before_end text tokens lexes h =
      let same : h.0 ≡ tokens = once text h.0 tokens h.2 lexes in
      let refused : IsRefused text tokens (faults.Bad h.1) = subst (λ (l : List Token). IsRefused text l (faults.Bad h.1)) same h.3 in
      let at : length text ≡ byte_of text tokens h.1 = subst (λ (l : List Token). length text ≡ byte_of text l h.1) same h.4 in
      let low = end_place 0 (length text) tokens (rise_all text tokens lexes) h.1 (sym at) in
      let place : h.1 ≡ length tokens = omega (arith, low, refused_within text tokens h.1 refused) in
      let all : tokens ≡ tokens ++ [] = sym (append-nil tokens) in
      before_refused text tokens [] (spelled_front slices text tokens [] (subst (λ (l : List Token). Lexes 0 text l) all lexes))
      (subst (λ (l : List Token). IsRefused text l (faults.Bad (length tokens))) all (subst (λ (n : ℕ). IsRefused text tokens (faults.Bad n)) place refused))
