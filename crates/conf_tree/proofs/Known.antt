-- Words that are known where they stand and not supported.
use Rattle.std.proofs.Common.{◌≡◌, ◌↔◌, ℕ, Bool, true, false, IsTrue, ◌||◌, ◌&&◌, nat_eq, List, [], ◌∷◌, ◌++◌, length, codes, Option, Some, None, IsSomeAnd, refl, sym, ap, subst, ◌∙◌, arith, inl, inr}
use Rattle.std.proofs.lemmas.List.{length-append}
use Rattle.std.specs.Cmp.Lexicographic.{pointwise, same_text, other_text}
use Rattle.conf_lex.specs.declared.symbol.Symbol.{Symbol}
use Rattle.conf_lex.specs.declared.symbol.Symbol.TheVariants as symbols
use Rattle.conf_lex.specs.Kind.{kind_of, symbol}
use Rattle.conf_lex.specs.declared.word.Word.{Word}
use Rattle.conf_lex.specs.declared.word.Word.TheVariants as words
use Rattle.conf_lex.proofs.Checks.{or_cases, or_left, or_right}
use Rattle.conf_lex.proofs.Symbols.{is_symbol_word}
use Rattle.conf_lex.proofs.Unique.{fronts}
use Rattle.conf_tree.proofs.LastWord.{last_ends}
use Rattle.conf_tree.specs.Sentence.{CanStand, EndsIn, is_one_of, statement_words, bgp_words, channel_words, import_words, IsUnsupported, a_kind, a_statement, a_bgp_option, a_channel_option, an_import, an_export, an_action, a_route}

pub not_both : (b : Bool) → b ≡ true → b ≡ false → ⊥
not_both b is other = let both : true ≡ false = sym is ∙ other in cc

-- ---- texts

same_is : (xs ys : List ℕ) → xs ≡ ys → (b : Bool) → pointwise nat_eq xs ys ≡ b → b ≡ true
same_is xs ys e true is = refl
same_is xs ys e false is = absurd (other_text xs ys (sym is) e)

-- what a comparison of texts has told
pub text_is : (found : Bool) (xs ys zs : List ℕ) → found ≡ pointwise nat_eq xs ys → ys ≡ zs → IsTrue found ↔ (xs ≡ zs)
text_is found xs ys zs is e = (λ yes. same_text xs ys (sym yes ∙ is) ∙ e, λ same. is ∙ same_is xs ys (same ∙ sym e) (pointwise nat_eq xs ys) refl)

pub known_some : (x : Option (List ℕ)) (word : List ℕ) (P : List ℕ → Type 0) → x ≡ Some word → (found : Bool) → IsTrue found ↔ P word → IsTrue found ↔ IsSomeAnd x P
known_some x word P e found h = subst (λ (y : Option (List ℕ)). IsTrue found ↔ IsSomeAnd y P) (sym e) h

pub known_none : (x : Option (List ℕ)) (P : List ℕ → Type 0) → x ≡ None → IsTrue false ↔ IsSomeAnd x P
known_none x P e = (λ yes. absurd cc, λ some. absurd (subst (λ (y : Option (List ℕ)). IsSomeAnd y P) e some))

-- a word that is one of several, and what else is said of it
pub one_of : (found known listed : Bool) (P : Type 0) → known ≡ listed → IsTrue found ↔ (IsTrue known × P) → IsTrue found ↔ (IsTrue listed × P)
one_of found known listed P is h = subst (λ (b : Bool). IsTrue found ↔ (IsTrue b × P)) is h

-- a word that is this text
pub text_and : (found known : Bool) (word bytes text : List ℕ) (P : Type 0) → known ≡ pointwise nat_eq word bytes → bytes ≡ text → IsTrue found ↔ (IsTrue known × P) → IsTrue found ↔ ((word ≡ text) × P)
text_and found known word bytes text P test same h =
    let told = text_is known word bytes text test same in
    (λ yes. let p = h.0 yes in (told.0 p.0, p.1), λ g. h.1 (told.1 g.0, g.1))

-- ---- the last word

pub one_front : (a b : List Word) (w : Word) → a ++ w ∷ [] ≡ b ++ w ∷ [] → a ≡ b
one_front a b w e = elim (fronts a (w ∷ []) b (w ∷ []) e) [
  | inl h ↦ h.0
  | inr h ↦ elim h [
    | inl l ↦ absurd (omega (arith, ap (λ (u : List Word). length u) l.rest, length-append l.more (w ∷ [])))
    | inr l ↦ absurd (omega (arith, ap (λ (u : List Word). length u) l.rest, length-append l.more (w ∷ [])))
  ]
]

-- what is asked behind the same words
pub stands_again : (before again : List Word) (s : Symbol) (P : Type 0) (found : Bool) → again ≡ before → IsTrue found ↔ (P × CanStand s again) → IsTrue found ↔ (P × CanStand s before)
stands_again before again s P found same h = subst (λ (u : List Word). IsTrue found ↔ (P × CanStand s u)) same h

pub export_again : (before again : List Word) (P : Type 0) (found : Bool) → again ≡ before → IsTrue found ↔ (P × EndsIn symbols.Export again (CanStand symbols.Next)) → IsTrue found ↔ (P × EndsIn symbols.Export before (CanStand symbols.Next))
export_again before again P found same h = subst (λ (u : List Word). IsTrue found ↔ (P × EndsIn symbols.Export u (CanStand symbols.Next))) same h

both_true : (a b : Bool) → (a && b) ≡ true → (a ≡ true) × (b ≡ true)
both_true true true h = (refl, refl)
both_true true false h = absurd cc
both_true false b h = absurd cc

and_both : (a b : Bool) → a ≡ true → b ≡ true → (a && b) ≡ true
and_both a b is also = rw (is, also) refl

pub export_is : (before front : List Word) (last : Word) (word bytes limit : List ℕ) (a b found : Bool) → before ≡ front ++ last ∷ [] → a ≡ symbol symbols.Export (kind_of last) → b ≡ pointwise nat_eq word bytes → bytes ≡ limit → IsTrue found ↔ (IsTrue (a && b) × CanStand symbols.Next front) → IsTrue found ↔ ((word ≡ limit) × EndsIn symbols.Export before (CanStand symbols.Next))
export_is before front last word bytes limit a b found cut is test same h =
    let text = text_is b word bytes limit test same in
    let ends = last_ends before front last symbols.Export a refl cut is in (
      λ yes.
          let p = h.0 yes in
          let ab = both_true a b p.0 in
          (text.0 ab.1, (front, cut ∙ ap (λ (x : Word). front ++ x ∷ []) (is_symbol_word last symbols.Export refl (sym is ∙ ab.0)), p.1)),
      λ g.
          let front-is : g.1.0 ≡ front = one_front g.1.0 front (words.Symbol symbols.Export) (sym g.1.1 ∙ cut ∙ ap (λ (x : Word). front ++ x ∷ []) (is_symbol_word last symbols.Export refl (sym is ∙ ends.1 (g.1.0, g.1.1, tt)))) in
          h.1 (and_both a b (ends.1 (g.1.0, g.1.1, tt)) (text.1 g.0), subst (λ (u : List Word). CanStand symbols.Next u) front-is g.1.2),
    )

-- ---- all of them

pub option_is : (before : List Word) (word : List ℕ) → (EndsIn symbols.Protocol before (λ front. Unit {0}) → ⊥)
    → (a b c d e f g : Bool)
    → IsTrue a ↔ (IsTrue (is_one_of statement_words word) × CanStand symbols.Define before)
    → IsTrue b ↔ (IsTrue (is_one_of bgp_words word) × CanStand symbols.Neighbor before)
    → IsTrue c ↔ (IsTrue (is_one_of channel_words word) × CanStand symbols.Next before)
    → IsTrue d ↔ (IsTrue (is_one_of import_words word) × CanStand symbols.Limit before)
    → IsTrue e ↔ ((word ≡ codes "limit") × EndsIn symbols.Export before (CanStand symbols.Next))
    → IsTrue f ↔ ((word ≡ codes "restart") × CanStand symbols.Warn before)
    → IsTrue g ↔ ((word ≡ codes "recursive") × CanStand symbols.Blackhole before)
    → IsTrue ((((((a || b) || c) || d) || e) || f) || g) ↔ IsUnsupported before word
option_is before word no_kind a b c d e f g is_a is_b is_c is_d is_e is_f is_g = (one, told)
  where
    one : IsTrue ((((((a || b) || c) || d) || e) || f) || g) → IsUnsupported before word
    one found = elim (or_cases (((((a || b) || c) || d) || e) || f) g found) [
      | inr h ↦ let p = is_g.0 h in a_route p.0 p.1
      | inl r ↦ elim (or_cases ((((a || b) || c) || d) || e) f r) [
        | inr h ↦ let p = is_f.0 h in an_action p.0 p.1
        | inl r ↦ elim (or_cases (((a || b) || c) || d) e r) [
          | inr h ↦ let p = is_e.0 h in an_export p.0 p.1
          | inl r ↦ elim (or_cases ((a || b) || c) d r) [
            | inr h ↦ let p = is_d.0 h in an_import p.0 p.1
            | inl r ↦ elim (or_cases (a || b) c r) [
              | inr h ↦ let p = is_c.0 h in a_channel_option p.0 p.1
              | inl r ↦ elim (or_cases a b r) [
                | inl h ↦ let p = is_a.0 h in a_statement p.0 p.1
                | inr h ↦ let p = is_b.0 h in a_bgp_option p.0 p.1
              ]
            ]
          ]
        ]
      ]
    ]

    told : IsUnsupported before word → IsTrue ((((((a || b) || c) || d) || e) || f) || g)
    told (a_kind h) = absurd (no_kind h)
    told (a_statement k h) = or_left _ g (or_left _ f (or_left _ e (or_left _ d (or_left _ c (or_left a b (is_a.1 (k, h)))))))
    told (a_bgp_option k h) = or_left _ g (or_left _ f (or_left _ e (or_left _ d (or_left _ c (or_right a b (is_b.1 (k, h)))))))
    told (a_channel_option k h) = or_left _ g (or_left _ f (or_left _ e (or_left _ d (or_right _ c (is_c.1 (k, h))))))
    told (an_import k h) = or_left _ g (or_left _ f (or_left _ e (or_right _ d (is_d.1 (k, h)))))
    told (an_export k h) = or_left _ g (or_left _ f (or_right _ e (is_e.1 (k, h))))
    told (an_action k h) = or_left _ g (or_right _ f (is_f.1 (k, h)))
    told (a_route k h) = or_right _ g (is_g.1 (k, h))
