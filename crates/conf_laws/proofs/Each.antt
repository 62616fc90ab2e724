-- Each text is a configuration or is refused, and each place has a line and a column.
use Rattle.std.proofs.Common.{◌≡◌, ℕ, ◌+◌, Bool, true, false, IsTrue, not, ◌==◌, nat_eq, List, [], ◌∷◌, ◌++◌, length, take, drop, codes, Option, Some, None, IsSomeAnd, refl, sym, ap, subst, ◌∙◌, arith, inl, inr, ◌⊎◌}
use Rattle.std.specs.Prelude.{filter}
use Rattle.std.specs.List.{list_all}
use Rattle.std.specs.Cmp.Lexicographic.{pointwise, same_text, other_text}
use Rattle.std.proofs.lemmas.Bool.{eqb-true, and_from, not_from_false, false≢true}
use Rattle.std.proofs.lemmas.List.{length-append}
use Rattle.conf_scan.specs.Lex.{Lexes, Stops}
use Rattle.conf_lex.specs.declared.symbol.Symbol.{Symbol}
use Rattle.conf_lex.specs.declared.symbol.Symbol.TheVariants as symbols
use Rattle.conf_scan.specs.declared.token.Token.{Token}
use Rattle.conf_lex.specs.declared.word.Word.{Word}
use Rattle.conf_lex.specs.declared.word.Word.TheVariants as words
use Rattle.conf_lex.specs.Grammar.{ParseTree, Bad, TooDeep}
use Rattle.conf_lex.specs.Reading.{Read, Parsed, Failed}
use Rattle.conf_lex.specs.Sentences.{IsBegunWithin, IsTooDeep}
use Rattle.conf_lex.specs.Symbols.{is_placed}
use Rattle.conf_lex.specs.Kind.{kind_of, symbol}
use Rattle.conf_lex.proofs.Symbols.{is_symbol_word, symbol_same}
use Rattle.expr_syntax.specs.Syntax.{rule}
use Rattle.filt_syntax.specs.declared.parse.SyntaxFault.TheVariants as faults
use Rattle.filt_syntax.specs.RefusedToken.{CanFollow}
use Rattle.conf_syntax.specs.Syntax.{config}
use Rattle.conf_tree.specs.Readers.{whole_at}
use Rattle.conf_words.specs.Bytes.{byte_of}
use Rattle.conf_words.specs.Significant.{significant_words, significant_starts, token_of}
use Rattle.conf_tree.specs.Sentence.{CanStand, EndsIn, is_one_of, statement_words, bgp_words, channel_words, import_words, IsUnsupported, a_kind, a_statement, a_bgp_option, a_channel_option, an_import, an_export, an_action, a_route, word_bytes, IsStop}
use Rattle.conf_tree.specs.Position.{IsPlace}
use Rattle.conf_tree.specs.Read.{IsConfigText, IsRefusedText}
use Rattle.conf_ast.specs.declared.kind.ConfKind.{ConfKind}
use Rattle.conf_ast.specs.declared.kind.ConfKind.TheVariants as kinds
use Rattle.conf_tree.proofs.Known.{one_front}
use Rattle.conf_tree.proofs.LastWord.{last_one}
use Rattle.conf_tree.proofs.Refusals.{begun_before, stop_refused, deep_refused}
use Rattle.conf_tree.proofs.Whole.{got_sentence, bad_is_stop, deep_is_deep, got_stands, bad_stands, bad_stands_not, deep_stands}
use Rattle.syntax_laws.proofs.Pasts.{last_of, front_begun, some_past_first}
use Rattle.syntax_laws.proofs.Told.{Told, told_both}

-- ---- whether something holds

or_else : {P Q : Type 0} → (P → Q) → Told P → ((P → ⊥) → Told Q) → Told Q
or_else to (inl p) other = inl (to p)
or_else to (inr none) other = other none

told_true : (b : Bool) → Told (IsTrue b)
told_true true = inl refl
told_true false = inr (λ is. false≢true is)

text_by : (xs ys : List ℕ) (b : Bool) → pointwise nat_eq xs ys ≡ b → Told (xs ≡ ys)
text_by xs ys true is = inl (same_text xs ys (sym is))
text_by xs ys false is = inr (other_text xs ys (sym is))

told_text : (xs ys : List ℕ) → Told (xs ≡ ys)
told_text xs ys = text_by xs ys (pointwise nat_eq xs ys) refl

told_some : (x : Option (List ℕ)) (P : List ℕ → Type 0) → ((bytes : List ℕ) → Told (P bytes)) → Told (IsSomeAnd x P)
told_some None P each = inr (λ is. is)
told_some (Some bytes) P each = each bytes

-- ---- words that are known and not supported

can_by : (before : List Word) (w : Word) → IsBegunWithin rule 64 config before → (r : Read) → whole_at 64 (before ++ w ∷ []) ≡ r → Told (CanFollow config before w)
can_by before w begun (Parsed t rest) is = inl (got_stands (before ++ w ∷ []) t rest is)
can_by before w begun (Failed Bad []) is = inl (bad_stands (before ++ w ∷ []) [] is refl)
can_by before w begun (Failed Bad (v ∷ rest)) is = inr (bad_stands_not (before ++ w ∷ []) (v ∷ rest) is (λ none. cc))
can_by before w begun (Failed TooDeep rest) is = inl (deep_stands before w rest begun is)

told_follow : (before : List Word) (w : Word) → IsBegunWithin rule 64 config before → Told (CanFollow config before w)
told_follow before w begun = can_by before w begun (whole_at 64 (before ++ w ∷ [])) refl

told_can : (before : List Word) (s : Symbol) → IsBegunWithin rule 64 config before → Told (CanStand s before)
told_can before s begun = told_follow before (words.Symbol s) begun

ends_by : (s : Symbol) (ws : List Word) (P : List Word → Type 0) (front : List Word) (w : Word) → is_placed s ≡ false → ws ≡ front ++ w ∷ [] → (ws ≡ front ++ words.Symbol s ∷ [] → Told (P front)) → (b : Bool) → symbol s (kind_of w) ≡ b → Told (EndsIn s ws P)
ends_by s ws P front w plain cut told false is = inr (λ ends.
    let same : w ≡ words.Symbol s = last_one front ends.0 w (words.Symbol s) (sym cut ∙ ends.1) in
    false≢true (sym is ∙ ap (λ (x : Word). symbol s (kind_of x)) same ∙ symbol_same s plain))
ends_by s ws P front w plain cut told true is =
    let whole : ws ≡ front ++ words.Symbol s ∷ [] = cut ∙ ap (λ (x : Word). front ++ x ∷ []) (is_symbol_word w s plain is) in
    elim (told whole) [
      | inl holds ↦ inl (front, whole, holds)
      | inr none ↦ inr (λ ends. none (subst P (one_front ends.0 front (words.Symbol s) (sym ends.1 ∙ whole)) ends.2))
    ]

none_ends : (s : Symbol) (P : List Word → Type 0) → EndsIn s [] P → ⊥
none_ends s P ends = omega (arith, ap (λ (l : List Word). length l) ends.1, length-append ends.0 (words.Symbol s ∷ []))

told_ends : (s : Symbol) (ws : List Word) (P : List Word → Type 0) → is_placed s ≡ false → ((front : List Word) → ws ≡ front ++ words.Symbol s ∷ [] → Told (P front)) → Told (EndsIn s ws P)
told_ends s ws P plain told = elim (last_of ws) [
  | inl none ↦ inr (λ ends. none_ends s P (subst (λ (l : List Word). EndsIn s l P) none ends))
  | inr last ↦ ends_by s ws P last.front last.word plain last.cut (told last.front) (symbol s (kind_of last.word)) refl
]

told_export : (before : List Word) → IsBegunWithin rule 64 config before → Told (EndsIn symbols.Export before (CanStand symbols.Next))
told_export before begun = told_ends symbols.Export before (CanStand symbols.Next) refl (λ front cut. told_can front symbols.Next (front_begun config before front (words.Symbol symbols.Export) cut begun))

known_none : (before : List Word) (word : List ℕ)
    → (EndsIn symbols.Protocol before (λ front. Unit {0}) → ⊥)
    → (IsTrue (is_one_of statement_words word) × CanStand symbols.Define before → ⊥)
    → (IsTrue (is_one_of bgp_words word) × CanStand symbols.Neighbor before → ⊥)
    → (IsTrue (is_one_of channel_words word) × CanStand symbols.Next before → ⊥)
    → (IsTrue (is_one_of import_words word) × CanStand symbols.Limit before → ⊥)
    → ((word ≡ codes "limit") × EndsIn symbols.Export before (CanStand symbols.Next) → ⊥)
    → ((word ≡ codes "restart") × CanStand symbols.Warn before → ⊥)
    → ((word ≡ codes "recursive") × CanStand symbols.Blackhole before → ⊥)
    → IsUnsupported before word → ⊥
known_none before word k a b c d e f g (a_kind h) = k h
known_none before word k a b c d e f g (a_statement is h) = a (is, h)
known_none before word k a b c d e f g (a_bgp_option is h) = b (is, h)
known_none before word k a b c d e f g (a_channel_option is h) = c (is, h)
known_none before word k a b c d e f g (an_import is h) = d (is, h)
known_none before word k a b c d e f g (an_export is h) = e (is, h)
known_none before word k a b c d e f g (an_action is h) = f (is, h)
known_none before word k a b c d e f g (a_route is h) = g (is, h)

told_unsupported : (before : List Word) (word : List ℕ) → IsBegunWithin rule 64 config before → Told (IsUnsupported before word)
told_unsupported before word begun =
    or_else (λ h. a_kind h) (told_ends symbols.Protocol before (λ front. Unit {0}) refl (λ front cut. inl tt)) (λ k.
    or_else (λ h. a_statement h.0 h.1) (told_both (told_true (is_one_of statement_words word)) (told_can before symbols.Define begun)) (λ a.
    or_else (λ h. a_bgp_option h.0 h.1) (told_both (told_true (is_one_of bgp_words word)) (told_can before symbols.Neighbor begun)) (λ b.
    or_else (λ h. a_channel_option h.0 h.1) (told_both (told_true (is_one_of channel_words word)) (told_can before symbols.Next begun)) (λ c.
    or_else (λ h. an_import h.0 h.1) (told_both (told_true (is_one_of import_words word)) (told_can before symbols.Limit begun)) (λ d.
    or_else (λ h. an_export h.0 h.1) (told_both (told_text word (codes "limit")) (told_export before begun)) (λ e.
    or_else (λ h. an_action h.0 h.1) (told_both (told_text word (codes "restart")) (told_can before symbols.Warn begun)) (λ f.
    or_else (λ h. a_route h.0 h.1) (told_both (told_text word (codes "recursive")) (told_can before symbols.Blackhole begun)) (λ g.
    inr (known_none before word k a b c d e f g)))))))))

-- ---- a text

abbrev Refused : List ℕ → Type 0
Refused text = (at : ℕ) × (kind : ConfKind) × IsRefusedText text at kind

stop_text : (text : List ℕ) (tokens : List Token) (rest : List Word) → Lexes 0 text tokens → IsStop (significant_words text tokens) rest → Refused text
stop_text text tokens rest lexes s =
    let place = length s.before in
    let at = token_of text tokens (length s.before) in
    let len : length s.before + length rest ≡ length (significant_words text tokens) = omega (arith, ap (λ (u : List Word). length u) s.front, length-append s.before rest) in
    let begun = begun_before (significant_words text tokens) rest (length s.before) len s in
    let bytes = word_bytes (drop place (significant_words text tokens)) text (drop at tokens) in
    elim (told_some bytes (IsUnsupported (take place (significant_words text tokens))) (λ word. told_unsupported (take place (significant_words text tokens)) word begun)) [
      | inl known ↦
          let h = stop_refused text tokens (significant_words text tokens) (significant_starts text tokens) refl refl rest place at len refl s (faults.Unsupported at) (refl, known) in
          (byte_of text tokens at, kinds.Unsupported, (tokens, at, lexes, h, refl))
      | inr other ↦
          let past = some_past_first config told_follow (take place (significant_words text tokens)) (drop place (significant_words text tokens)) begun in
          let h = stop_refused text tokens (significant_words text tokens) (significant_starts text tokens) refl refl rest place at len refl s (faults.Bad (at + past.0)) (other, past.0, past.1, refl) in
          (byte_of text tokens (at + past.0), kinds.Syntax, (tokens, at + past.0, lexes, h, refl))
    ]

deep_text : (text : List ℕ) (tokens : List Token) (rest : List Word) → Lexes 0 text tokens → IsTooDeep rule 64 config (significant_words text tokens) rest → Refused text
deep_text text tokens rest lexes h =
    let place = length h.before in
    let at = token_of text tokens (length h.before) in
    let len : length h.before + length rest ≡ length (significant_words text tokens) = omega (arith, ap (λ (u : List Word). length u) h.front, length-append h.before rest) in
    let deep = deep_refused text tokens (significant_words text tokens) (significant_starts text tokens) refl refl rest place at len refl h in
    (byte_of text tokens at, kinds.TooDeep, (tokens, at, lexes, deep, refl))

abbrev Either : List ℕ → Type 0
Either text = ((t : ParseTree) × IsConfigText text t) ⊎ Refused text

text_by_tokens : (text : List ℕ) (tokens : List Token) → Lexes 0 text tokens → (r : Read) → whole_at 64 (significant_words text tokens) ≡ r → Either text
text_by_tokens text tokens lexes (Parsed t rest) is = inl (t, (tokens, lexes, got_sentence (significant_words text tokens) t rest is))
text_by_tokens text tokens lexes (Failed Bad rest) is = inr (stop_text text tokens rest lexes (bad_is_stop (significant_words text tokens) rest is))
text_by_tokens text tokens lexes (Failed TooDeep rest) is = inr (deep_text text tokens rest lexes (deep_is_deep (significant_words text tokens) rest is))

pub one_or_other : ((text : List ℕ) → ((tokens : List Token) × Lexes 0 text tokens) ⊎ ((tokens : List Token) × (place : ℕ) × Stops 0 text tokens place))
    → (text : List ℕ) → ((t : ParseTree) × IsConfigText text t) ⊎ ((at : ℕ) × (kind : ConfKind) × IsRefusedText text at kind)
one_or_other tokens_or_stop text = elim (tokens_or_stop text) [
  | inl is ↦ text_by_tokens text is.0 is.1 (whole_at 64 (significant_words text is.0)) refl
  | inr stops ↦ inr (stops.1, kinds.Lex, (stops.0, stops.2))
]

-- ---- a place

-- bytes are lines and the front of one more
record Lines (bytes : List ℕ) : Type 0 where
  lines : List ℕ
  front : List ℕ
  before : bytes ≡ lines ++ front
  ended : (lines ≡ []) ⊎ ((inside : List ℕ) × (lines ≡ inside ++ 10 ∷ []))
  in_line : list_all (λ b. not (b == 10)) front ≡ true

lines_ended : (b : ℕ) (bytes : List ℕ) (more : Lines bytes) (inside : List ℕ) → more.lines ≡ inside ++ 10 ∷ [] → Lines (b ∷ bytes)
lines_ended b bytes more inside is = record {
  lines = b ∷ more.lines;
  front = more.front;
  before = ap (λ (l : List ℕ). b ∷ l) more.before;
  ended = inr (b ∷ inside, ap (λ (l : List ℕ). b ∷ l) is);
  in_line = more.in_line;
}

lines_none : (b : ℕ) (bytes : List ℕ) (more : Lines bytes) → more.lines ≡ [] → (t : Bool) → (b == 10) ≡ t → Lines (b ∷ bytes)
lines_none b bytes more none true is = record {
  lines = b ∷ [];
  front = more.front;
  before = ap (λ (l : List ℕ). b ∷ l) (more.before ∙ ap (λ (l : List ℕ). l ++ more.front) none);
  ended = inr ([], ap (λ (n : ℕ). n ∷ []) (eqb-true b 10 is));
  in_line = more.in_line;
}
lines_none b bytes more none false is = record {
  lines = [];
  front = b ∷ more.front;
  before = ap (λ (l : List ℕ). b ∷ l) (more.before ∙ ap (λ (l : List ℕ). l ++ more.front) none);
  ended = inl refl;
  in_line = and_from (not (b == 10)) (list_all (λ c. not (c == 10)) more.front) (not_from_false (b == 10) is) more.in_line;
}

lines_of : (bytes : List ℕ) → Lines bytes
lines_of [] = record { lines = []; front = []; before = refl; ended = inl refl; in_line = refl }
lines_of (b ∷ bytes) =
    let more = lines_of bytes in
    elim more.ended [
      | inl none ↦ lines_none b bytes more none (b == 10) refl
      | inr ended ↦ lines_ended b bytes more ended.0 ended.1
    ]

pub some_place : (text : List ℕ) (at : ℕ) → (line : ℕ) × (column : ℕ) × IsPlace text at line column
some_place text at =
    let is = lines_of (take at text) in (
      length (filter (λ b. b == 10) is.lines) + 1,
      length is.front + 1,
      record { lines = is.lines; front = is.front; before = is.before; ended = is.ended; in_line = is.in_line; line_is = refl; column_is = refl },
    )
