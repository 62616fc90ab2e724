-- A word that is refused behind complete statements is refused as it is behind none.
use Rattle.std.proofs.Common.{◌≡◌, ◌↔◌, ℕ, ◌+◌, ◌-◌, ◌≤◌, Bool, false, if◌then◌else◌, List, [], ◌∷◌, ◌++◌, length, take, drop, Option, Some, None, IsSomeAnd, refl, sym, ap, subst, ◌∙◌, append_assoc, arith, inl, inr}
use Rattle.std.proofs.lemmas.List.{length-append}
use Rattle.conf_lex.specs.declared.symbol.Symbol.{Symbol}
use Rattle.conf_lex.specs.declared.symbol.Symbol.TheVariants as symbols
use Rattle.conf_lex.specs.declared.word.Word.{Word}
use Rattle.conf_lex.specs.declared.word.Word.TheVariants as words
use Rattle.conf_lex.specs.Kind.{kind_of, symbol}
use Rattle.conf_lex.specs.Grammar.{begins}
use Rattle.conf_lex.specs.Sentences.{IsBegunWithin}
use Rattle.conf_scan.specs.declared.token.Token.{Token}
use Rattle.expr_syntax.specs.Syntax.{rule}
use Rattle.filt_syntax.specs.RefusedToken.{CanFollow, some_prefix, some_address, EndInAddress, IsCount, IsPast, IsPastFirst, IsPastAt, torn_of}
use Rattle.filt_syntax.specs.declared.parse.SyntaxFault.{SyntaxFault}
use Rattle.filt_syntax.specs.declared.parse.SyntaxFault.TheVariants as faults
use Rattle.filt_syntax.specs.declared.refused_token.Torn.{Torn}
use Rattle.filt_syntax.specs.declared.refused_token.Torn.TheVariants as torns
use Rattle.conf_syntax.specs.Syntax.{config}
use Rattle.conf_tree.specs.Sentence.{CanStand, EndsIn, IsUnsupported, a_kind, a_statement, a_bgp_option, a_channel_option, an_import, an_export, an_action, a_route, word_bytes, Refuses}
use Rattle.conf_tree.specs.Readers.{StopsIn}
use Rattle.conf_tree.proofs.Refusals.{rest_at, front_at}
use Rattle.conf_tree.proofs.Behind.{IsBehind, follows_behind, behind_before, last_behind}

module _ (front last : List Word) (h : IsBehind front last) where
  can_stand : (s : Symbol) → symbol symbols.Semicolon (kind_of (words.Symbol s)) ≡ false → CanStand s (front ++ last) ↔ CanStand s last
  can_stand s plain = follows_behind front last h (words.Symbol s) plain

  -- words that end in a symbol, before which another one can stand or nothing is said
  kind_behind : EndsIn symbols.Protocol (front ++ last) (λ g. Unit {0}) → EndsIn symbols.Protocol last (λ g. Unit {0})
  kind_behind e = let s = last_behind front last e.0 (words.Symbol symbols.Protocol) h refl e.1 in (s.before, s.cut, tt)

  end_whole : (g : List Word) (w : Word) → last ≡ g ++ w ∷ [] → front ++ last ≡ (front ++ g) ++ w ∷ []
  end_whole g w e = ap (λ (u : List Word). front ++ u) e ∙ sym (append_assoc front g (w ∷ []))

  stand_before : (s : Symbol) → symbol symbols.Semicolon (kind_of (words.Symbol s)) ≡ false → (g : List Word) (w : Word) → last ≡ g ++ w ∷ [] → CanStand s (front ++ g) ↔ CanStand s g
  stand_before s plain g w e = follows_behind front g (behind_before front last g w e h) (words.Symbol s) plain

  export_behind : EndsIn symbols.Export (front ++ last) (CanStand symbols.Next) → EndsIn symbols.Export last (CanStand symbols.Next)
  export_behind e =
      let s = last_behind front last e.0 (words.Symbol symbols.Export) h refl e.1 in
      (s.before, s.cut, (stand_before symbols.Next refl s.before (words.Symbol symbols.Export) s.cut).0 (subst (λ (u : List Word). CanStand symbols.Next u) s.whole e.2))

  export_again : EndsIn symbols.Export last (CanStand symbols.Next) → EndsIn symbols.Export (front ++ last) (CanStand symbols.Next)
  export_again e = (front ++ e.0, end_whole e.0 (words.Symbol symbols.Export) e.1, (stand_before symbols.Next refl e.0 (words.Symbol symbols.Export) e.1).1 e.2)

  known_alone : (word : List ℕ) → IsUnsupported (front ++ last) word → IsUnsupported last word
  known_alone word (a_kind e) = a_kind (kind_behind e)
  known_alone word (a_statement one can) = a_statement one ((can_stand symbols.Define refl).0 can)
  known_alone word (a_bgp_option one can) = a_bgp_option one ((can_stand symbols.Neighbor refl).0 can)
  known_alone word (a_channel_option one can) = a_channel_option one ((can_stand symbols.Next refl).0 can)
  known_alone word (an_import one can) = an_import one ((can_stand symbols.Limit refl).0 can)
  known_alone word (an_export is e) = an_export is (export_behind e)
  known_alone word (an_action is can) = an_action is ((can_stand symbols.Warn refl).0 can)
  known_alone word (a_route is can) = a_route is ((can_stand symbols.Blackhole refl).0 can)

  known_behind : (word : List ℕ) → IsUnsupported last word → IsUnsupported (front ++ last) word
  known_behind word (a_kind e) = a_kind (front ++ e.0, end_whole e.0 (words.Symbol symbols.Protocol) e.1, tt)
  known_behind word (a_statement one can) = a_statement one ((can_stand symbols.Define refl).1 can)
  known_behind word (a_bgp_option one can) = a_bgp_option one ((can_stand symbols.Neighbor refl).1 can)
  known_behind word (a_channel_option one can) = a_channel_option one ((can_stand symbols.Next refl).1 can)
  known_behind word (an_import one can) = an_import one ((can_stand symbols.Limit refl).1 can)
  known_behind word (an_export is e) = an_export is (export_again e)
  known_behind word (an_action is can) = an_action is ((can_stand symbols.Warn refl).1 can)
  known_behind word (a_route is can) = a_route is ((can_stand symbols.Blackhole refl).1 can)

  some_known : (word : Option (List ℕ)) → IsSomeAnd word (IsUnsupported (front ++ last)) ↔ IsSomeAnd word (IsUnsupported last)
  some_known None = (λ known. known, λ known. known)
  some_known (Some word) = (known_alone word, known_behind word)

  -- ---- how far behind its first token

  address_behind : EndInAddress config (front ++ last) ↔ EndInAddress config last
  address_behind = (
    λ e.
        let w : Word = words.Ip e.at e.addr in
        let s = last_behind front last e.front w h refl e.cut in
        let can = (follows_behind front s.before (behind_before front last s.before w s.cut h) some_prefix refl).0 (subst (λ (u : List Word). CanFollow config u some_prefix) s.whole e.prefix) in
        record { front = s.before; at = e.at; addr = e.addr; cut = s.cut; prefix = can },
    λ e.
        let w : Word = words.Ip e.at e.addr in
        let can = (follows_behind front e.front (behind_before front last e.front w e.cut h) some_prefix refl).1 e.prefix in
        record { front = front ++ e.front; at = e.at; addr = e.addr; cut = end_whole e.front w e.cut; prefix = can },
  )

  alone_behind : (one other : Word) → symbol symbols.Semicolon (kind_of one) ≡ false → symbol symbols.Semicolon (kind_of other) ≡ false
      → (CanFollow config (front ++ last) one × (CanFollow config (front ++ last) other → ⊥)) ↔ (CanFollow config last one × (CanFollow config last other → ⊥))
  alone_behind one other plain also =
      let a = follows_behind front last h one plain in
      let b = follows_behind front last h other also in
      (λ p. (a.0 p.0, λ can. p.1 (b.1 can)), λ p. (a.1 p.0, λ can. p.1 (b.0 can)))

  count_behind : (P Q : Type 0) (most n : ℕ) → P ↔ Q → IsCount Q most n → IsCount P most n
  count_behind P Q most n same (inl c) = inl (same.1 c.0, c.1)
  count_behind P Q most n same (inr c) = inr (λ p. c.0 (same.0 p), c.1)

  past_behind : (torn : Torn) (slash : Bool) (n : ℕ) → IsPast config last torn slash n → IsPast config (front ++ last) torn slash n
  past_behind torns.Prefix slash n past = count_behind _ _ 1 n (alone_behind some_address some_prefix refl refl) past
  past_behind torns.Address slash n past = count_behind _ _ (if slash then 2 else 1) n (alone_behind some_prefix some_address refl refl) past
  past_behind torns.Slash slash n past = count_behind _ _ 1 n address_behind past
  past_behind torns.Other slash n past = past

  past_first : (rest : List Word) (n : ℕ) → IsPastFirst config last rest n → IsPastFirst config (front ++ last) rest n
  past_first [] n past = past
  past_first (w ∷ ws) n past = past_behind (torn_of w) (begins (symbol symbols.Slash) ws) n past

-- ---- places

refuses_words : (known alone : Type 0) (ws us : List Word) (place at start : ℕ) → known ↔ alone → ((n : ℕ) → IsPastAt config us at n → IsPastAt config ws place n) → (e : SyntaxFault) → Refuses alone us at start e → Refuses known ws place start e
refuses_words known alone ws us place at start same past (faults.Bad token) h = (λ k. h.0 (same.0 k), h.1, past h.1 h.2, h.3)
refuses_words known alone ws us place at start same past (faults.Unsupported token) h = (h.0, same.1 h.1)
refuses_words known alone ws us place at start same past (faults.TooDeep token) h = h
refuses_words known alone ws us place at start same past faults.Memory h = tt

module _ (ws : List Word) (from place : ℕ) (s : StopsIn ws from place) where
  count : from + length s.last ≡ length ws
  count = omega (arith, s.before, ap (λ (u : List Word). length u) s.cut, length-append s.front s.last)

  -- the words from the last statement on
  pub last_is : drop from ws ≡ s.last
  last_is = rest_at ws s.front s.last from count s.cut

  pub from_within : from ≤ length ws
  from_within = omega (arith, count)

  whole_cut : ws ≡ (s.front ++ s.stops.before) ++ s.rest
  whole_cut = s.cut ∙ ap (λ (u : List Word). s.front ++ u) s.stops.front ∙ sym (append_assoc s.front s.stops.before s.rest)

  pub from_before : from ≤ place
  from_before = omega (arith, count, s.at, ap (λ (u : List Word). length u) s.stops.front, length-append s.stops.before s.rest)

  rest_count : (place - from) + length s.rest ≡ length s.last
  rest_count = omega (arith, count, s.at, from_before)

  last_cut : drop from ws ≡ s.stops.before ++ s.rest
  last_cut = last_is ∙ s.stops.front

  last_count : (place - from) + length s.rest ≡ length (drop from ws)
  last_count = rest_count ∙ ap (λ (u : List Word). length u) (sym last_is)

  -- the words of it before the refused one begin a configuration
  pub begun_last : IsBegunWithin rule 64 config (take (place - from) (drop from ws))
  begun_last = subst (λ (u : List Word). IsBegunWithin rule 64 config u) (sym (front_at (drop from ws) s.stops.before s.rest (place - from) last_count last_cut)) s.stops.begun

  pub place_last : place - from ≤ length (drop from ws)
  place_last = omega (arith, last_count)

  is_behind : IsBehind s.front s.stops.before
  is_behind =
      let same : s.stop.before ≡ s.front ++ s.stops.before = sym (front_at ws s.stop.before s.rest place s.at s.stop.front) ∙ front_at ws (s.front ++ s.stops.before) s.rest place s.at whole_cut in
      record {
        tree = s.tree;
        complete = s.complete;
        all = subst (λ (u : List Word). IsBegunWithin rule 64 config u) same s.stop.begun;
        alone = s.stops.begun;
      }

  pub refuses_last : (text : List ℕ) (tokens : List Token) (e : SyntaxFault)
      → Refuses (IsSomeAnd (word_bytes (drop (place - from) (drop from ws)) text tokens) (IsUnsupported (take (place - from) (drop from ws)))) (drop from ws) (place - from) 0 e
      → Refuses (IsSomeAnd (word_bytes (drop place ws) text tokens) (IsUnsupported (take place ws))) ws place 0 e
  refuses_last text tokens e h =
      let a : drop place ws ≡ s.rest = rest_at ws (s.front ++ s.stops.before) s.rest place s.at whole_cut in
      let b : take place ws ≡ s.front ++ s.stops.before = front_at ws (s.front ++ s.stops.before) s.rest place s.at whole_cut in
      let c : drop (place - from) (drop from ws) ≡ s.rest = rest_at (drop from ws) s.stops.before s.rest (place - from) last_count last_cut in
      let d : take (place - from) (drop from ws) ≡ s.stops.before = front_at (drop from ws) s.stops.before s.rest (place - from) last_count last_cut in
      refuses_words _ _ ws (drop from ws) place (place - from) 0
      (rw (a, b, c, d) (some_known s.front s.stops.before is_behind (word_bytes s.rest text tokens)))
      (λ n. at_first a b c d n) e h
    where
      at_first : drop place ws ≡ s.rest → take place ws ≡ s.front ++ s.stops.before → drop (place - from) (drop from ws) ≡ s.rest → take (place - from) (drop from ws) ≡ s.stops.before → (n : ℕ) → IsPastAt config (drop from ws) (place - from) n → IsPastAt config ws place n
      at_first a b c d n = rw (a, b, c, d) (past_first s.front s.stops.before is_behind s.rest n)
