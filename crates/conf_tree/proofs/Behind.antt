-- Words behind complete statements are read as they are alone, and the same words can follow them.
use Rattle.std.proofs.Common.{◌≡◌, ◌↔◌, ℕ, zero, suc, Bool, true, false, cond, ◌||◌, not, List, [], ◌∷◌, ◌++◌, length, Option, Some, None, refl, sym, ap, subst, ◌∙◌, append_assoc, inl, inr}
use Rattle.conf_lex.specs.declared.symbol.Symbol.TheVariants as symbols
use Rattle.conf_lex.specs.declared.word.Word.{Word}
use Rattle.conf_lex.specs.Kind.{Kind, kind_of, symbol}
use Rattle.conf_lex.specs.Grammar.{Why, Bad, TooDeep, Epsilon, ParseTree, NoWords, Single, Snoc, yield, begins, first_set, is_blank, or_later, can_continue, can_continue_in, DerivesLongest, too_deep}
use Rattle.conf_lex.specs.Reading.{Read, Parsed, Failed, Reader, and_then, turns}
use Rattle.conf_lex.specs.Sentences.{IsBegunWithin}
use Rattle.conf_lex.proofs.Good.{Front, fits_front, front_begins, begins-append, taken_again}
use Rattle.conf_lex.proofs.Chains.{full_blank}
use Rattle.conf_lex.proofs.Checks.{more, all_in, kinds, is_kind, goes_inner}
use Rattle.expr_syntax.specs.Syntax.{rule}
use Rattle.expr_syntax.proofs.Tested.{model, after, checked, good_at, solid_at}
use Rattle.filt_syntax.specs.RefusedToken.{CanFollow}
use Rattle.filt_syntax.proofs.Follows.{begun_before}
use Rattle.conf_syntax.proofs.Ends.{implied, not_is, stops_low, ends, InSecond, in_second, ends_so}
use Rattle.conf_syntax.specs.Syntax.{statement, config}
use Rattle.conf_tree.specs.Readers.{statement_at, statement_row_at, config_at, to_the_end, whole_at}
use Rattle.conf_tree.specs.Sentence.{IsSentence}
use Rattle.conf_tree.proofs.Tested.{config_checked}
use Rattle.conf_tree.proofs.ConfigSteps.{statement_checked, row_turn, config_is, ended_at}
use Rattle.conf_tree.proofs.Whole.{got_stands, bad_stands, bad_stands_not, deep_stands}

-- ---- trees of statements behind others

abbrev pub behind : ParseTree → ParseTree → ParseTree
behind a (Snoc t b) = Snoc (behind a t) b
behind a _ = a

unfoldable pub read_behind : ParseTree → Read → Read
read_behind a (Parsed t rest) = Parsed (behind a t) rest
read_behind a (Failed why rest) = Failed why rest

turn_behind : (a t : ParseTree) (ws : List Word) (b : Bool) (x : Read) (f g : ParseTree → List Word → Read) → ((c : ParseTree) (rest : List Word) → f c rest ≡ read_behind a (g c rest)) → cond b (and_then x f) (Parsed (behind a t) ws) ≡ read_behind a (cond b (and_then x g) (Parsed t ws))
unfolding read_behind
turn_behind a t ws false x f g same = refl
turn_behind a t ws true (Parsed c rest) f g same = same c rest
turn_behind a t ws true (Failed why rest) f g same = refl

turns_behind : (p : Kind → Bool) (s : Reader) (n : ℕ) (a t : ParseTree) (ws : List Word) → turns p s n (behind a t) ws ≡ read_behind a (turns p s n t ws)
unfolding read_behind
turns_behind p s zero a t ws = refl
turns_behind p s (suc n) a t ws =
    turn_behind a t ws (begins p ws) (s ws) (λ c rest. turns p s n (Snoc (behind a t) c) rest) (λ c rest. turns p s n (Snoc t c) rest) (λ c rest. turns_behind p s n a (Snoc t c) rest)

row_behind : (k : ℕ) (a : ParseTree) (ws : List Word) → statement_row_at k a ws ≡ read_behind a (statement_row_at k (Single NoWords) ws)
unfolding statement_row_at
row_behind k a ws = turns_behind (first_set statement) (statement_at k) (length ws) a (Single NoWords) ws

end_behind : (a : ParseTree) (x : Read) → and_then (read_behind a x) to_the_end ≡ read_behind a (and_then x to_the_end)
unfolding read_behind
end_behind a (Parsed t []) = refl
end_behind a (Parsed t (w ∷ ws)) = refl
end_behind a (Failed why rest) = refl

pub ended_behind : (k : ℕ) (a : ParseTree) (ws : List Word) → ended_at k a ws ≡ read_behind a (whole_at k ws)
unfolding ended_at whole_at
ended_behind k a ws =
    ap (λ (x : Read). and_then x to_the_end) (row_behind k a ws ∙ ap (read_behind a) (sym (config_is k ws))) ∙ end_behind a (config_at k ws)

pub fails_behind : (a : ParseTree) (x : Read) (why : Why) (rest : List Word) → read_behind a x ≡ Failed why rest → x ≡ Failed why rest
unfolding read_behind
fails_behind a (Parsed t u) why rest e = absurd cc
fails_behind a (Failed w u) why rest e = e

-- ---- statements are read again before words that don't go on with them

none_later : (d e : Option (List Word)) (more : List Word) → or_later d more e ≡ None → (d ≡ None) × (e ≡ None)
none_later None e more h = (refl, h)
none_later (Some u) e more h = absurd cc

statement_again : (k : ℕ) (s : ParseTree) (rest : List Word) → DerivesLongest rule s statement → too_deep s k ≡ None → begins (can_continue rule s statement) rest ≡ false → statement_at k (yield s ++ rest) ≡ Parsed s rest
unfolding statement_at
statement_again k s rest fits levels stops = taken_again rule k statement _ (good_at k statement statement_checked) s rest fits levels stops

statement_words : (s : ParseTree) → DerivesLongest rule s statement → Front statement (yield s)
statement_words s fits = fits_front rule s statement (solid_at statement statement_checked) fits

next_begins : (s : ParseTree) (rest : List Word) → DerivesLongest rule s statement → begins (first_set statement) (yield s ++ rest) ≡ true
next_begins s rest fits = front_begins statement (yield s) rest refl (statement_words s fits)

row_again : (k : ℕ) (t : ParseTree) (rest : List Word) → DerivesLongest rule t config → too_deep t k ≡ None → begins (can_continue_in rule t config) rest ≡ false → config_at k (yield t ++ rest) ≡ statement_row_at k t rest
row_again k (Single NoWords) rest fits levels stops = config_is k rest
row_again k (Snoc t s) rest fits levels stops =
    let parts = none_later (too_deep t k) (too_deep s k) (yield s) levels in
    let full : is_blank (yield s) ≡ false = full_blank statement (yield s) refl (statement_words s fits.1) in
    let munch : begins (can_continue_in rule t config) (yield s ++ rest) ≡ false = begins-append (can_continue_in rule t config) (yield s) rest fits.2 (λ blank. absurd cc) in
    let got = statement_again k s rest fits.1 parts.1 stops in
    ap (config_at k) (append_assoc (yield t) (yield s) rest) ∙ row_again k t (yield s ++ rest) fits.0 parts.0 munch ∙ row_turn k t (yield s ++ rest) ∙ rw (next_begins s rest fits.1, got) refl
row_again k _ rest fits levels stops = absurd fits

pub whole_behind : (k : ℕ) (t : ParseTree) (rest : List Word) → DerivesLongest rule t config → too_deep t k ≡ None → begins (can_continue_in rule t config) rest ≡ false → whole_at k (yield t ++ rest) ≡ read_behind t (whole_at k rest)
unfolding whole_at
whole_behind k t rest fits levels stops =
    ap (λ (x : Read). and_then x to_the_end) (row_again k t rest fits levels stops ∙ row_behind k t rest ∙ ap (read_behind t) (sym (config_is k rest))) ∙ end_behind t (config_at k rest)

-- ---- nothing but a semicolon goes on with a statement, and none begins with one

goes_on : (k : Kind) → (more after Epsilon k || more after statement k) ≡ true → symbol symbols.Semicolon k ≡ true
goes_on k = implied _ _ (all_in (λ j. not (more after Epsilon j || more after statement j) || symbol symbols.Semicolon j) k kinds (is_kind k) refl)

no_semicolon : (k : Kind) → first_set config k ≡ true → not (symbol symbols.Semicolon k) ≡ true
no_semicolon k = implied _ _ (all_in (λ j. not (first_set config j) || not (symbol symbols.Semicolon j)) k kinds (is_kind k) refl)

stops_before : (t : ParseTree) (ws : List Word) → DerivesLongest rule t config → begins (symbol symbols.Semicolon) ws ≡ false → begins (can_continue_in rule t config) ws ≡ false
stops_before t [] fits e = refl
stops_before t (w ∷ ws) fits e =
    stops_low _ _ (λ on. goes_on (kind_of w) (goes_inner rule model after checked t Epsilon statement (kind_of w) (solid_at config config_checked) fits on)) e

-- words that begin a configuration, and a word behind them
begun_stops : (b : List Word) (w : Word) → IsBegunWithin rule 64 config b → symbol symbols.Semicolon (kind_of w) ≡ false → begins (symbol symbols.Semicolon) (b ++ w ∷ []) ≡ false
begun_stops [] w begun none = none
begun_stops (x ∷ b) w begun none =
    let first : Front config (x ∷ (b ++ begun.1)) = subst (λ (u : List Word). Front config u) begun.3 (fits_front rule begun.0 config (solid_at config config_checked) begun.2) in
    not_is _ (no_semicolon (kind_of x) first)

-- ---- what can follow

-- a word can stand at the end of words that are read so
abbrev Stands : Read → Type 0
Stands (Parsed t rest) = Unit {0}
Stands (Failed Bad []) = Unit {0}
Stands (Failed Bad (w ∷ rest)) = ⊥
Stands (Failed TooDeep rest) = Unit {0}

stands_by : (before : List Word) (w : Word) → IsBegunWithin rule 64 config before → (x : Read) → whole_at 64 (before ++ w ∷ []) ≡ x → CanFollow config before w ↔ Stands x
stands_by before w begun (Parsed t rest) e = (λ can. tt, λ stands. got_stands (before ++ w ∷ []) t rest e)
stands_by before w begun (Failed Bad []) e = (λ can. tt, λ stands. bad_stands (before ++ w ∷ []) [] e refl)
stands_by before w begun (Failed Bad (v ∷ rest)) e = (λ can. bad_stands_not (before ++ w ∷ []) (v ∷ rest) e (λ none. cc) can, λ stands. absurd stands)
stands_by before w begun (Failed TooDeep rest) e = (λ can. tt, λ stands. deep_stands before w rest begun e)

stands_behind : (a : ParseTree) (x : Read) → Stands (read_behind a x) ↔ Stands x
unfolding read_behind
stands_behind a (Parsed t rest) = (λ h. h, λ h. h)
stands_behind a (Failed Bad []) = (λ h. h, λ h. h)
stands_behind a (Failed Bad (w ∷ rest)) = (λ h. h, λ h. h)
stands_behind a (Failed TooDeep rest) = (λ h. h, λ h. h)

-- behind these statements the same words can follow as behind none
pub record IsBehind (front last : List Word) : Type 0 where
  pub tree : ParseTree
  pub complete : IsSentence front tree
  pub all : IsBegunWithin rule 64 config (front ++ last)
  pub alone : IsBegunWithin rule 64 config last

pub follows_behind : (front last : List Word) → IsBehind front last → (w : Word) → symbol symbols.Semicolon (kind_of w) ≡ false → CanFollow config (front ++ last) w ↔ CanFollow config last w
follows_behind front last h w plain =
    let t = h.tree in
    let next : List Word = last ++ w ∷ [] in
    let stops = stops_before t next h.complete.fits (begun_stops last w h.alone plain) in
    let cut : (front ++ last) ++ w ∷ [] ≡ yield t ++ next = append_assoc front last (w ∷ []) ∙ ap (λ (u : List Word). u ++ next) (sym h.complete.whole) in
    let read : whole_at 64 ((front ++ last) ++ w ∷ []) ≡ read_behind t (whole_at 64 next) = ap (whole_at 64) cut ∙ whole_behind 64 t next h.complete.fits h.complete.levels stops in
    let one = stands_by (front ++ last) w h.all (read_behind t (whole_at 64 next)) read in
    let same = stands_behind t (whole_at 64 next) in
    let other = stands_by last w h.alone (whole_at 64 next) refl in
    (λ can. other.1 (same.0 (one.0 can)), λ can. one.1 (same.1 (other.0 can)))

-- and the words before the last one stand behind them, too
pub behind_before : (front last g : List Word) (w : Word) → last ≡ g ++ w ∷ [] → IsBehind front last → IsBehind front g
behind_before front last g w cut h =
    let whole : front ++ last ≡ (front ++ g) ++ w ∷ [] = ap (λ (u : List Word). front ++ u) cut ∙ sym (append_assoc front g (w ∷ [])) in
    record {
      tree = h.tree;
      complete = h.complete;
      all = begun_before config (front ++ last) (front ++ g) w whole h.all;
      alone = begun_before config last g w cut h.alone;
    }

-- ---- the last word

-- statements don't end in a word of another kind
pub no_end : (front g : List Word) (w : Word) → ((t : ParseTree) × IsSentence front t) → front ≡ g ++ w ∷ [] → ends config (kind_of w) ≡ false → ⊥
no_end front g w h e none =
    let yes : ends config (kind_of w) ≡ true = ends_so h.0 config (solid_at config config_checked) h.1.fits g w (h.1.whole ∙ e) in
    cc

-- so they are words behind others that end in it
pub last_behind : (front last g : List Word) (w : Word) → IsBehind front last → ends config (kind_of w) ≡ false → front ++ last ≡ g ++ w ∷ [] → InSecond front last g w
last_behind front last g w h none e = elim (in_second front last g w e) [
  | inl second ↦ second
  | inr first ↦ absurd (no_end front g w (h.tree, h.complete) first.1 none)
]
