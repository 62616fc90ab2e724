-- A walk over a table of spellings finds what its list says.
use Rattle.std.proofs.Common.{◌≡◌, ℕ, suc, ◌+◌, ◌<◌, ◌≤◌, Bool, true, false, cond, List, [], ◌∷◌, length, drop, map, get_or, Option, Some, None, refl, sym, ◌∙◌, ap, arith, drop-cons, Bor, inl, inr}
use Rattle.std.specs.Bool.{nat_eq}
use Rattle.std.specs.Cmp.Lexicographic.{pointwise, same_text}
use Rattle.conf_lex.specs.declared.symbol.Symbol.{Symbol}
use Rattle.std.proofs.lemmas.List.{drop_all}
use Rattle.std.specs.Prelude.{filter, ◌==◌, ◌&&◌, not, nat_le}
use Rattle.std.proofs.lemmas.Bool.{cases_Bool, eq-eqb, false≢true}
use Rattle.conf_lex.specs.Symbols.{lookup, spellings, symbol_of, spellings_of, long_spellings}

abbrev pub listed : {X : Type 0} → List (Bor (List ℕ) × X) → List (List ℕ × X)
listed table = map (λ entry. (entry.0.now, entry.1)) table

row_cut : {X : Type 0} → (table : List (Bor (List ℕ) × X)) (i : ℕ) (e : Bor (List ℕ) × X) → e ≡ get_or table i e → i < length table → listed (drop i table) ≡ (e.0.now, e.1) ∷ listed (drop (i + 1) table)
row_cut {X = X} table i e is within =
    let next : suc i ≡ i + 1 = omega arith in
    ap listed (drop-cons table i e within ∙ ap (λ (n : ℕ). get_or table i e ∷ drop n table) next)
    ∙ ap (λ (r : Bor (List ℕ) × X). (r.0.now, r.1) ∷ listed (drop (i + 1) table)) (sym is)

pub find_here : {X : Type 0} → (table : List (Bor (List ℕ) × X)) (i : ℕ) (e : Bor (List ℕ) × X) (bytes : List ℕ) → e ≡ get_or table i e → i < length table → true ≡ pointwise nat_eq e.0.now bytes
    → lookup bytes (listed table) ≡ lookup bytes (listed (drop i table)) → Some e.1 ≡ lookup bytes (listed table)
find_here table i e bytes is within same before =
    sym (before ∙ ap (lookup bytes) (row_cut table i e is within) ∙ ap (λ (t : Bool). cond t (Some e.1) (lookup bytes (listed (drop (i + 1) table)))) (sym same))

pub find_next : {X : Type 0} → (table : List (Bor (List ℕ) × X)) (i : ℕ) (e : Bor (List ℕ) × X) (bytes : List ℕ) → e ≡ get_or table i e → i < length table → false ≡ pointwise nat_eq e.0.now bytes
    → lookup bytes (listed table) ≡ lookup bytes (listed (drop i table)) → lookup bytes (listed table) ≡ lookup bytes (listed (drop (i + 1) table))
find_next table i e bytes is within other before =
    before ∙ ap (lookup bytes) (row_cut table i e is within) ∙ ap (λ (t : Bool). cond t (Some e.1) (lookup bytes (listed (drop (i + 1) table)))) (sym other)

nothing_left : {X : Type 0} → (table : List (Bor (List ℕ) × X)) (i : ℕ) → length table ≤ i → drop i table ≡ []
nothing_left table i done = drop_all i table done

pub find_none : {X : Type 0} → (table : List (Bor (List ℕ) × X)) (i : ℕ) (bytes : List ℕ) → length table ≤ i → lookup bytes (listed table) ≡ lookup bytes (listed (drop i table)) → None ≡ lookup bytes (listed table)
find_none {X = X} table i bytes done before = sym (before ∙ ap (λ (rows : List (Bor (List ℕ) × X)). lookup bytes (listed rows)) (nothing_left table i done))

filter_yes : (p : List ℕ × Symbol → Bool) (e : List ℕ × Symbol) (es : List (List ℕ × Symbol)) → p e ≡ true → filter p (e ∷ es) ≡ e ∷ filter p es
filter_yes p e es is = ap (λ (t : Bool). cond t (e ∷ filter p es) (filter p es)) is

filter_no : (p : List ℕ × Symbol → Bool) (e : List ℕ × Symbol) (es : List (List ℕ × Symbol)) → p e ≡ false → filter p (e ∷ es) ≡ filter p es
filter_no p e es is = ap (λ (t : Bool). cond t (e ∷ filter p es) (filter p es)) is

other_length : (p : ℕ → Bool) (spelling text : List ℕ) → p (length spelling) ≡ false → p (length text) ≡ true → pointwise nat_eq spelling text ≡ false
other_length p spelling text fails passes = elim (cases_Bool (pointwise nat_eq spelling text)) [
  | inl same ↦ absurd (false≢true (sym fails ∙ ap (λ (l : List ℕ). p (length l)) (same_text spelling text (sym same)) ∙ passes))
  | inr other ↦ other
]

-- Where a test of lengths passes the text's, no other spelling is missed.
keep : (p : ℕ → Bool) (table : List (List ℕ × Symbol)) (text : List ℕ) → p (length text) ≡ true → lookup text (filter (λ entry. p (length entry.0)) table) ≡ lookup text table
keep p [] text passes = refl
keep p (entry ∷ table) text passes = elim (cases_Bool (p (length entry.0))) [
  | inl is ↦
      ap (lookup text) (filter_yes (λ e. p (length e.0)) entry table is)
      ∙ ap (λ (o : Option Symbol). cond (pointwise nat_eq entry.0 text) (Some entry.1) o) (keep p table text passes)
  | inr fails ↦
      ap (lookup text) (filter_no (λ e. p (length e.0)) entry table fails) ∙ keep p table text passes
      ∙ sym (ap (λ (t : Bool). cond t (Some entry.1) (lookup text table)) (other_length p entry.0 text fails passes))
]

pub lookup_kept : (p : ℕ → Bool) (text : List ℕ) → p (length text) ≡ true → lookup text (filter (λ entry. p (length entry.0)) spellings) ≡ symbol_of text
unfolding symbol_of
lookup_kept p text passes = keep p spellings text passes

pub of_length : (text : List ℕ) (n : ℕ) → length text ≡ n → lookup text (spellings_of n) ≡ symbol_of text
of_length text n len = lookup_kept (λ k. k == n) text (eq-eqb (length text) n len)

pub of_more_is : (text : List ℕ) → not (nat_le 1 (length text) && nat_le (length text) 8) ≡ true → lookup text long_spellings ≡ symbol_of text
of_more_is text other = lookup_kept (λ k. not (nat_le 1 k && nat_le k 8)) text other

-- a text of one byte
pub one_byte : (bytes : List ℕ) (d : ℕ) → length bytes ≡ 1 → get_or bytes 0 d ∷ [] ≡ bytes
one_byte [] d len = absurd (omega arith)
one_byte (b ∷ []) d len = refl
one_byte (b ∷ c ∷ bytes) d len = absurd (omega arith)
