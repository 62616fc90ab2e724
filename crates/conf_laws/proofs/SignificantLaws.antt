-- What device blocks and logs hold.
use Rattle.std.proofs.Common.{◌≡◌, ◌≢◌, ℕ, suc, zero, ◌+◌, ◌≤◌, Bool, true, false, not, ◌||◌, ◌&&◌, List, [], ◌∷◌, ◌++◌, length, map, drop, refl, sym, ◌∙◌, ap, subst, arith, inl, inr, append_assoc}
use Rattle.std.specs.List.{list_all}
use Rattle.std.proofs.Math.Seq.{drop-append_seam}
use Rattle.std.proofs.lemmas.Bool.{cases_Bool, and_parts, not-true}
use Rattle.std.proofs.lemmas.List.{drop-drop, drop-map, length-append, length-map}
use Rattle.conf_lex.specs.declared.symbol.Symbol.TheVariants as sy
use Rattle.conf_lex.specs.declared.word.Word.{Word}
use Rattle.conf_lex.specs.Kind.{kind_of, name}
use Rattle.conf_lex.proofs.Symbols.{is_symbol_word}
use Rattle.conf_words.specs.Significant.{is, behind, significant}
use Rattle.conf_laws.specs.Balanced.{Braces, Nothing, Plain, Braced, words_in, AreBraces, IsBalanced}
use Rattle.conf_words.specs.declared.significant.Region.{Region}
use Rattle.conf_words.specs.declared.significant.Region.TheVariants as regions

abbrev words_of_pairs : List (ℕ × Word) → List Word
words_of_pairs ps = map (λ p. p.1) ps

-- ---- one step within the braces of a device

open_no_close : (w : Word) → is sy.OpenBrace w ≡ true → is sy.CloseBrace w ≡ false
open_no_close w here = ap (λ (x : Word). is sy.CloseBrace x) (is_symbol_word w sy.OpenBrace refl here)

plain_step : (n : ℕ) (p : ℕ × Word) (ps : List (ℕ × Word)) → is sy.OpenBrace p.1 ≡ false → is sy.CloseBrace p.1 ≡ false → significant (regions.Inside n) (p ∷ ps) ≡ significant (regions.Inside n) ps
plain_step zero p ps no_open no_close = rw (no_close, no_open) refl
plain_step (suc n) p ps no_open no_close = rw (no_close, no_open) refl

open_step : (n : ℕ) (p : ℕ × Word) (ps : List (ℕ × Word)) → is sy.OpenBrace p.1 ≡ true → significant (regions.Inside n) (p ∷ ps) ≡ significant (regions.Inside (suc n)) ps
open_step zero p ps here = rw (open_no_close p.1 here, here) refl
open_step (suc n) p ps here = rw (open_no_close p.1 here, here) refl

close_step : (n : ℕ) (p : ℕ × Word) (ps : List (ℕ × Word)) → is sy.CloseBrace p.1 ≡ true → significant (regions.Inside (suc n)) (p ∷ ps) ≡ significant (regions.Inside n) ps
close_step n p ps here = rw here refl

end_step : (p : ℕ × Word) (ps : List (ℕ × Word)) → is sy.CloseBrace p.1 ≡ true → significant (regions.Inside 0) (p ∷ ps) ≡ p ∷ significant regions.Statements ps
end_step p ps here = rw here refl

-- ---- balanced words are passed over

head_of : Word → List Word → Word
head_of d [] = d
head_of d (w ∷ ws) = w

tail_of : List Word → List Word
tail_of [] = []
tail_of (w ∷ ws) = ws

-- pairs whose words begin with this one
record Begins (ps : List (ℕ × Word)) (w : Word) (ws : List Word) : Type 0 where
  pub first : ℕ × Word
  pub rest : List (ℕ × Word)
  pub cut : ps ≡ first ∷ rest
  pub word : first.1 ≡ w
  pub words : words_of_pairs rest ≡ ws

begins : (ps : List (ℕ × Word)) (w : Word) (ws : List Word) → words_of_pairs ps ≡ w ∷ ws → Begins ps w ws
unfolding head_of tail_of
begins [] w ws e = absurd (omega (arith, ap (λ (l : List Word). length l) e))
begins (p ∷ ps) w ws e = record { first = p; rest = ps; cut = refl; word = ap (head_of w) e; words = ap tail_of e }

-- what is behind a front of the words
rest_words : (ps : List (ℕ × Word)) (ws more : List Word) → words_of_pairs ps ≡ ws ++ more → words_of_pairs (drop (length ws) ps) ≡ more
rest_words ps ws more e = sym (drop-map (λ (p : ℕ × Word). p.1) (length ws) ps) ∙ ap (λ (l : List Word). drop (length ws) l) e ∙ drop-append_seam ws more

-- a block within the braces, where its words and those behind it are passed over
over_block : (n inside behind : ℕ) (ps : List (ℕ × Word)) (first last : Word) (ws vs : List Word) (at : Begins ps first ws) → (closing : Begins (drop inside at.rest) last vs)
    → is sy.OpenBrace first ≡ true → is sy.CloseBrace last ≡ true
    → significant (regions.Inside (suc n)) at.rest ≡ significant (regions.Inside (suc n)) (drop inside at.rest)
    → significant (regions.Inside n) closing.rest ≡ significant (regions.Inside n) (drop behind closing.rest)
    → significant (regions.Inside n) ps ≡ significant (regions.Inside n) (drop (suc (inside + suc behind)) ps)
over_block n inside behind ps first last ws vs at closing opens closes within after =
    let P : Word → Type 0 = λ x. is sy.OpenBrace x ≡ true in
    let Q : Word → Type 0 = λ x. is sy.CloseBrace x ≡ true in
    let over : drop (suc (inside + suc behind)) ps ≡ drop behind closing.rest =
    ap (λ (l : List (ℕ × Word)). drop (suc (inside + suc behind)) l) at.cut
    ∙ sym (drop-drop (suc behind) inside at.rest)
    ∙ ap (λ (l : List (ℕ × Word)). drop (suc behind) l) closing.cut in
    ap (significant (regions.Inside n)) at.cut
    ∙ open_step n at.first at.rest (subst P (sym at.word) opens)
    ∙ within
    ∙ ap (significant (regions.Inside (suc n))) closing.cut
    ∙ close_step n closing.first closing.rest (subst Q (sym closing.word) closes)
    ∙ after
    ∙ ap (significant (regions.Inside n)) (sym over)

over_plain : (n behind : ℕ) (ps : List (ℕ × Word)) (w : Word) (ws : List Word) (at : Begins ps w ws) → is sy.OpenBrace w ≡ false → is sy.CloseBrace w ≡ false
    → significant (regions.Inside n) at.rest ≡ significant (regions.Inside n) (drop behind at.rest) → significant (regions.Inside n) ps ≡ significant (regions.Inside n) (drop (suc behind) ps)
over_plain n behind ps w ws at no_open no_close after =
    let P : Word → Type 0 = λ x. is sy.OpenBrace x ≡ false in
    let Q : Word → Type 0 = λ x. is sy.CloseBrace x ≡ false in
    ap (significant (regions.Inside n)) at.cut
    ∙ plain_step n at.first at.rest (subst P (sym at.word) no_open) (subst Q (sym at.word) no_close)
    ∙ after
    ∙ ap (λ (l : List (ℕ × Word)). significant (regions.Inside n) (drop (suc behind) l)) (sym at.cut)

pass : (b : Braces) (n : ℕ) (ps : List (ℕ × Word)) (more : List Word) → AreBraces b → words_of_pairs ps ≡ words_in b ++ more → significant (regions.Inside n) ps ≡ significant (regions.Inside n) (drop (length (words_in b)) ps)
pass Nothing n ps more are e = refl
pass (Plain w bs) n ps more are e =
    let at = begins ps w (words_in bs ++ more) e in
    over_plain n (length (words_in bs)) ps w (words_in bs ++ more) at are.0 are.1 (pass bs n at.rest more are.2 at.words)
pass (Braced first inside last bs) n ps more are e =
    let at = begins ps first (words_in inside ++ (last ∷ (words_in bs ++ more))) (e ∙ ap (λ (l : List Word). first ∷ l) (append_assoc (words_in inside) (last ∷ words_in bs) more)) in
    let closing = begins (drop (length (words_in inside)) at.rest) last (words_in bs ++ more) (rest_words at.rest (words_in inside) (last ∷ (words_in bs ++ more)) at.words) in
    let count : length (words_in inside) + suc (length (words_in bs)) ≡ length (words_in inside ++ (last ∷ words_in bs)) = sym (length-append (words_in inside) (last ∷ words_in bs)) in
    over_block n (length (words_in inside)) (length (words_in bs)) ps first last (words_in inside ++ (last ∷ (words_in bs ++ more))) (words_in bs ++ more) at closing are.0 are.2
    (pass inside (suc n) at.rest (last ∷ (words_in bs ++ more)) are.1 at.words) (pass bs n closing.rest more are.3 closing.words)
    ∙ ap (λ (k : ℕ). significant (regions.Inside n) (drop (suc k) ps)) count

map_front : (inside : List (ℕ × Word)) (more : List (ℕ × Word)) → words_of_pairs (inside ++ more) ≡ words_of_pairs inside ++ words_of_pairs more
map_front [] more = refl
map_front (p ∷ inside) more = ap (λ (l : List Word). p.1 ∷ l) (map_front inside more)

block_taken_out : (inside rest : List (ℕ × Word)) (brace : ℕ × Word) → IsBalanced (map (λ p. p.1) inside) → is sy.CloseBrace brace.1 ≡ true → significant (regions.Inside 0) (inside ++ brace ∷ rest) ≡ brace ∷ significant regions.Statements rest
block_taken_out inside rest brace balanced closing =
    let split : words_of_pairs (inside ++ brace ∷ rest) ≡ words_in balanced.0 ++ words_of_pairs (brace ∷ rest) = map_front inside (brace ∷ rest) ∙ ap (λ (l : List Word). l ++ words_of_pairs (brace ∷ rest)) (sym balanced.2) in
    let len : length (words_in balanced.0) ≡ length inside = ap (λ (l : List Word). length l) balanced.2 ∙ length-map inside (λ (p : ℕ × Word). p.1) in
    pass balanced.0 0 (inside ++ brace ∷ rest) (words_of_pairs (brace ∷ rest)) balanced.1 split
    ∙ ap (λ (k : ℕ). significant (regions.Inside 0) (drop k (inside ++ brace ∷ rest))) len
    ∙ ap (significant (regions.Inside 0)) (drop-append_seam inside (brace ∷ rest))
    ∙ end_step brace rest closing

-- ---- where something is said, the block is closed

record Closes (n : ℕ) (ps : List (ℕ × Word)) : Type 0 where
  pub inside : List (ℕ × Word)
  pub rest : List (ℕ × Word)
  pub brace : ℕ × Word
  pub cut : ps ≡ inside ++ brace ∷ rest
  pub balanced : IsBalanced (map (λ p. p.1) inside)
  pub closing : is sy.CloseBrace brace.1 ≡ true
  pub later : (m : ℕ) → n ≡ suc m → significant (regions.Inside m) rest ≢ []

closes_here : (n : ℕ) (p : ℕ × Word) (ps : List (ℕ × Word)) → is sy.CloseBrace p.1 ≡ true → significant (regions.Inside n) (p ∷ ps) ≢ [] → Closes n (p ∷ ps)
closes_here n p ps here says_some = record {
  inside = [];
  rest = ps;
  brace = p;
  cut = refl;
  balanced = (Nothing, tt, refl);
  closing = here;
  later = λ m is_next none. says_some (ap (λ (k : ℕ). significant (regions.Inside k) (p ∷ ps)) is_next ∙ close_step m p ps here ∙ none);
}

closes_plain : (n : ℕ) (p : ℕ × Word) (ps : List (ℕ × Word)) → is sy.OpenBrace p.1 ≡ false → is sy.CloseBrace p.1 ≡ false → Closes n ps → Closes n (p ∷ ps)
closes_plain n p ps no_open no_close found = record {
  inside = p ∷ found.inside;
  rest = found.rest;
  brace = found.brace;
  cut = ap (λ (l : List (ℕ × Word)). p ∷ l) found.cut;
  balanced = (Plain p.1 found.balanced.0, (no_open, no_close, found.balanced.1), ap (λ (l : List Word). p.1 ∷ l) found.balanced.2);
  closing = found.closing;
  later = found.later;
}

closes_braced : (n : ℕ) (p : ℕ × Word) (ps : List (ℕ × Word)) → is sy.OpenBrace p.1 ≡ true → (one : Closes (suc n) ps) → Closes n one.rest → Closes n (p ∷ ps)
closes_braced n p ps here one two = record {
  inside = p ∷ (one.inside ++ (one.brace ∷ two.inside));
  rest = two.rest;
  brace = two.brace;
  cut = ap (λ (l : List (ℕ × Word)). p ∷ l) (one.cut ∙ ap (λ (l : List (ℕ × Word)). one.inside ++ (one.brace ∷ l)) two.cut ∙ sym (append_assoc one.inside (one.brace ∷ two.inside) (two.brace ∷ two.rest)));
  balanced = (
    Braced p.1 one.balanced.0 one.brace.1 two.balanced.0,
    (here, one.balanced.1, one.closing, two.balanced.1),
    ap (λ (l : List Word). p.1 ∷ (l ++ (one.brace.1 ∷ words_in two.balanced.0))) one.balanced.2
        ∙ ap (λ (l : List Word). p.1 ∷ (words_of_pairs one.inside ++ (one.brace.1 ∷ l))) two.balanced.2
        ∙ ap (λ (l : List Word). p.1 ∷ l) (sym (map_front one.inside (one.brace ∷ two.inside))),
  );
  closing = two.closing;
  later = two.later;
}

-- by the number of words at most
closes : (k n : ℕ) (ps : List (ℕ × Word)) → length ps ≤ k → significant (regions.Inside n) ps ≢ [] → Closes n ps
closes k n [] few says_some = absurd (says_some refl)
closes zero n (p ∷ ps) few says_some = absurd (omega (arith, few))
closes (suc k) n (p ∷ ps) few says_some = elim (cases_Bool (is sy.CloseBrace p.1)) [
  | inl here ↦ closes_here n p ps here says_some
  | inr no_close ↦ elim (cases_Bool (is sy.OpenBrace p.1)) [
    | inl opens ↦
        let one = closes k (suc n) ps (omega (arith, few)) (λ none. says_some (open_step n p ps opens ∙ none)) in
        let shorter : length one.rest ≤ k = omega (arith, few, ap (λ (l : List (ℕ × Word)). length l) one.cut, length-append one.inside (one.brace ∷ one.rest)) in
        closes_braced n p ps opens one (closes k n one.rest shorter (one.later n refl))
    | inr no_open ↦ closes_plain n p ps no_open no_close (closes k n ps (omega (arith, few)) (λ none. says_some (plain_step n p ps no_open no_close ∙ none)))
  ]
]

pub block_closes : (ps : List (ℕ × Word)) → significant (regions.Inside 0) ps ≢ [] → (inside rest : List (ℕ × Word)) × (brace : ℕ × Word) × (ps ≡ inside ++ brace ∷ rest) × IsBalanced (map (λ p. p.1) inside) × (is sy.CloseBrace brace.1 ≡ true)
block_closes ps says_some = let found = closes (length ps) 0 ps (omega arith) says_some in (found.inside, found.rest, found.brace, found.cut, found.balanced, found.closing)

-- ---- logs

held_step : (p : ℕ × Word) (ps : List (ℕ × Word)) → is sy.Semicolon p.1 ≡ false → significant regions.Log (p ∷ ps) ≡ significant regions.Log ps
held_step p ps other = rw other refl

end_of_log : (p : ℕ × Word) (ps : List (ℕ × Word)) → is sy.Semicolon p.1 ≡ true → significant regions.Log (p ∷ ps) ≡ p ∷ significant regions.Statements ps
end_of_log p ps here = rw here refl

log_taken_out : (held rest : List (ℕ × Word)) (semicolon : ℕ × Word) → list_all (λ p. not (is sy.Semicolon p.1)) held ≡ true → is sy.Semicolon semicolon.1 ≡ true → significant regions.Log (held ++ semicolon ∷ rest) ≡ semicolon ∷ significant regions.Statements rest
log_taken_out [] rest semicolon none here = end_of_log semicolon rest here
log_taken_out (p ∷ held) rest semicolon none here =
    let parts = and_parts (not (is sy.Semicolon p.1)) (list_all (λ q. not (is sy.Semicolon q.1)) held) none in
    held_step p (held ++ semicolon ∷ rest) (not-true (is sy.Semicolon p.1) parts.0) ∙ log_taken_out held rest semicolon parts.1 here

-- ---- a block or a log from its first word on

no_log_word : (w : Word) → is sy.Protocol w ≡ true → is sy.Log w ≡ false
no_log_word w here = ap (λ (x : Word). is sy.Log x) (is_symbol_word w sy.Protocol refl here)

no_name : (w : Word) → is sy.OpenBrace w ≡ true → name (kind_of w) ≡ false
no_name w here = ap (λ (x : Word). name (kind_of x)) (is_symbol_word w sy.OpenBrace refl here)

protocol_step : (p : ℕ × Word) (ps : List (ℕ × Word)) → is sy.Protocol p.1 ≡ true → significant regions.Statements (p ∷ ps) ≡ p ∷ significant regions.Protocol ps
protocol_step p ps here = rw (no_log_word p.1 here, here) refl

device_step : (p : ℕ × Word) (ps : List (ℕ × Word)) → is sy.Device p.1 ≡ true → significant regions.Protocol (p ∷ ps) ≡ p ∷ significant regions.Device ps
device_step p ps here = rw here refl

brace_step : (p : ℕ × Word) (ps : List (ℕ × Word)) → is sy.OpenBrace p.1 ≡ true → significant regions.Device (p ∷ ps) ≡ p ∷ significant (regions.Inside 0) ps
brace_step p ps here = rw (no_name p.1 here, here) refl

name_step : (p : ℕ × Word) (ps : List (ℕ × Word)) → name (kind_of p.1) ≡ true → significant regions.Device (p ∷ ps) ≡ p ∷ significant regions.Named ps
name_step p ps here = rw here refl

named_brace_step : (p : ℕ × Word) (ps : List (ℕ × Word)) → is sy.OpenBrace p.1 ≡ true → significant regions.Named (p ∷ ps) ≡ p ∷ significant (regions.Inside 0) ps
named_brace_step p ps here = rw here refl

log_step : (p : ℕ × Word) (ps : List (ℕ × Word)) → is sy.Log p.1 ≡ true → significant regions.Statements (p ∷ ps) ≡ p ∷ significant regions.Log ps
log_step p ps here = rw here refl

pub device_taken_out : (protocol device opening close : ℕ × Word) (inside rest : List (ℕ × Word)) → is sy.Protocol protocol.1 ≡ true → is sy.Device device.1 ≡ true → is sy.OpenBrace opening.1 ≡ true → IsBalanced (map (λ p. p.1) inside) → is sy.CloseBrace close.1 ≡ true
    → significant regions.Statements (protocol ∷ device ∷ opening ∷ (inside ++ close ∷ rest)) ≡ protocol ∷ device ∷ opening ∷ close ∷ significant regions.Statements rest
device_taken_out protocol device opening close inside rest is_protocol is_device opens balanced closing =
    protocol_step protocol (device ∷ opening ∷ (inside ++ close ∷ rest)) is_protocol
    ∙ ap (λ (l : List (ℕ × Word)). protocol ∷ l) (device_step device (opening ∷ (inside ++ close ∷ rest)) is_device
    ∙ ap (λ (l : List (ℕ × Word)). device ∷ l) (brace_step opening (inside ++ close ∷ rest) opens
    ∙ ap (λ (l : List (ℕ × Word)). opening ∷ l) (block_taken_out inside rest close balanced closing)))

pub named_device_taken_out : (protocol device called opening close : ℕ × Word) (inside rest : List (ℕ × Word)) → is sy.Protocol protocol.1 ≡ true → is sy.Device device.1 ≡ true → name (kind_of called.1) ≡ true → is sy.OpenBrace opening.1 ≡ true → IsBalanced (map (λ p. p.1) inside) → is sy.CloseBrace close.1 ≡ true
    → significant regions.Statements (protocol ∷ device ∷ called ∷ opening ∷ (inside ++ close ∷ rest)) ≡ protocol ∷ device ∷ called ∷ opening ∷ close ∷ significant regions.Statements rest
named_device_taken_out protocol device called opening close inside rest is_protocol is_device is_called opens balanced closing =
    protocol_step protocol (device ∷ called ∷ opening ∷ (inside ++ close ∷ rest)) is_protocol
    ∙ ap (λ (l : List (ℕ × Word)). protocol ∷ l) (device_step device (called ∷ opening ∷ (inside ++ close ∷ rest)) is_device
    ∙ ap (λ (l : List (ℕ × Word)). device ∷ l) (name_step called (opening ∷ (inside ++ close ∷ rest)) is_called
    ∙ ap (λ (l : List (ℕ × Word)). called ∷ l) (named_brace_step opening (inside ++ close ∷ rest) opens
    ∙ ap (λ (l : List (ℕ × Word)). opening ∷ l) (block_taken_out inside rest close balanced closing))))

pub whole_log_taken_out : (log semicolon : ℕ × Word) (held rest : List (ℕ × Word)) → is sy.Log log.1 ≡ true → list_all (λ p. not (is sy.Semicolon p.1)) held ≡ true → is sy.Semicolon semicolon.1 ≡ true
    → significant regions.Statements (log ∷ (held ++ semicolon ∷ rest)) ≡ log ∷ semicolon ∷ significant regions.Statements rest
whole_log_taken_out log semicolon held rest is_log none ends =
    log_step log (held ++ semicolon ∷ rest) is_log ∙ ap (λ (l : List (ℕ × Word)). log ∷ l) (log_taken_out held rest semicolon none ends)

-- ---- words of neither

-- the regions between which they go
behind_protocol : Bool → Region
behind_protocol true = regions.Protocol
behind_protocol false = regions.Statements

neither : (a b : Bool) → not (a || b) ≡ true → (a ≡ false) × (b ≡ false)
neither true b none = absurd cc
neither false true none = absurd cc
neither false false none = (refl, refl)

kept_step : (b : Bool) (p : ℕ × Word) (ps : List (ℕ × Word)) → is sy.Log p.1 ≡ false → is sy.Device p.1 ≡ false → significant (behind_protocol b) (p ∷ ps) ≡ p ∷ significant (behind_protocol (not b && is sy.Protocol p.1)) ps
unfolding behind_protocol
kept_step true p ps no_log no_device = rw no_device refl
kept_step false p ps no_log no_device = elim (cases_Bool (is sy.Protocol p.1)) [
  | inl here ↦ rw (no_log, here) refl
  | inr none ↦ rw (no_log, none) refl
]

kept : (b : Bool) (ps : List (ℕ × Word)) → list_all (λ p. not (is sy.Log p.1 || is sy.Device p.1)) ps ≡ true → significant (behind_protocol b) ps ≡ ps
kept b [] none = refl
kept b (p ∷ ps) none =
    let parts = and_parts (not (is sy.Log p.1 || is sy.Device p.1)) (list_all (λ q. not (is sy.Log q.1 || is sy.Device q.1)) ps) none in
    let no = neither (is sy.Log p.1) (is sy.Device p.1) parts.0 in
    kept_step b p ps no.0 no.1 ∙ ap (λ (l : List (ℕ × Word)). p ∷ l) (kept (not b && is sy.Protocol p.1) ps parts.1)

pub others_kept : (ps : List (ℕ × Word)) → list_all (λ p. not (is sy.Log p.1 || is sy.Device p.1)) ps ≡ true → significant regions.Statements ps ≡ ps
unfolding behind_protocol
others_kept ps none = kept false ps none

-- ---- each first word, and those behind `protocol`

pub other_first : (word : ℕ × Word) (rest : List (ℕ × Word)) → is sy.Log word.1 ≡ false → is sy.Protocol word.1 ≡ false → significant regions.Statements (word ∷ rest) ≡ word ∷ significant regions.Statements rest
other_first word rest no_log no_protocol = rw (no_log, no_protocol) refl

no_device_step : (p : ℕ × Word) (ps : List (ℕ × Word)) → is sy.Device p.1 ≡ false → significant regions.Protocol (p ∷ ps) ≡ p ∷ significant regions.Statements ps
no_device_step p ps other = rw other refl

no_block_step : (p : ℕ × Word) (ps : List (ℕ × Word)) → name (kind_of p.1) ≡ false → is sy.OpenBrace p.1 ≡ false → significant regions.Device (p ∷ ps) ≡ p ∷ significant regions.Statements ps
no_block_step p ps no_called no_open = rw (no_called, no_open) refl

no_brace_step : (p : ℕ × Word) (ps : List (ℕ × Word)) → is sy.OpenBrace p.1 ≡ false → significant regions.Named (p ∷ ps) ≡ p ∷ significant regions.Statements ps
no_brace_step p ps no_open = rw no_open refl

-- `protocol device`, and what the words behind it say
device_from : (protocol device : ℕ × Word) (ps : List (ℕ × Word)) → is sy.Protocol protocol.1 ≡ true → is sy.Device device.1 ≡ true → significant regions.Statements (protocol ∷ device ∷ ps) ≡ protocol ∷ device ∷ significant regions.Device ps
device_from protocol device ps is_protocol is_device = protocol_step protocol (device ∷ ps) is_protocol ∙ ap (λ (l : List (ℕ × Word)). protocol ∷ l) (device_step device ps is_device)

named_from : (protocol device called : ℕ × Word) (ps : List (ℕ × Word)) → is sy.Protocol protocol.1 ≡ true → is sy.Device device.1 ≡ true → name (kind_of called.1) ≡ true → significant regions.Statements (protocol ∷ device ∷ called ∷ ps) ≡ protocol ∷ device ∷ called ∷ significant regions.Named ps
named_from protocol device called ps is_protocol is_device is_called =
    device_from protocol device (called ∷ ps) is_protocol is_device ∙ ap (λ (l : List (ℕ × Word)). protocol ∷ device ∷ l) (name_step called ps is_called)

pub other_kind : (protocol word : ℕ × Word) (rest : List (ℕ × Word)) → is sy.Protocol protocol.1 ≡ true → is sy.Device word.1 ≡ false → significant regions.Statements (protocol ∷ word ∷ rest) ≡ protocol ∷ word ∷ significant regions.Statements rest
other_kind protocol word rest is_protocol other = protocol_step protocol (word ∷ rest) is_protocol ∙ ap (λ (l : List (ℕ × Word)). protocol ∷ l) (no_device_step word rest other)

pub device_without_block : (protocol device word : ℕ × Word) (rest : List (ℕ × Word)) → is sy.Protocol protocol.1 ≡ true → is sy.Device device.1 ≡ true → name (kind_of word.1) ≡ false → is sy.OpenBrace word.1 ≡ false
    → significant regions.Statements (protocol ∷ device ∷ word ∷ rest) ≡ protocol ∷ device ∷ word ∷ significant regions.Statements rest
device_without_block protocol device word rest is_protocol is_device no_called no_open =
    device_from protocol device (word ∷ rest) is_protocol is_device ∙ ap (λ (l : List (ℕ × Word)). protocol ∷ device ∷ l) (no_block_step word rest no_called no_open)

pub named_without_block : (protocol device called word : ℕ × Word) (rest : List (ℕ × Word)) → is sy.Protocol protocol.1 ≡ true → is sy.Device device.1 ≡ true → name (kind_of called.1) ≡ true → is sy.OpenBrace word.1 ≡ false
    → significant regions.Statements (protocol ∷ device ∷ called ∷ word ∷ rest) ≡ protocol ∷ device ∷ called ∷ word ∷ significant regions.Statements rest
named_without_block protocol device called word rest is_protocol is_device is_called no_open =
    named_from protocol device called (word ∷ rest) is_protocol is_device is_called ∙ ap (λ (l : List (ℕ × Word)). protocol ∷ device ∷ called ∷ l) (no_brace_step word rest no_open)

pub protocol_alone : (protocol : ℕ × Word) → is sy.Protocol protocol.1 ≡ true → significant regions.Statements (protocol ∷ []) ≡ protocol ∷ []
protocol_alone protocol is_protocol = protocol_step protocol [] is_protocol

pub device_alone : (protocol device : ℕ × Word) → is sy.Protocol protocol.1 ≡ true → is sy.Device device.1 ≡ true → significant regions.Statements (protocol ∷ device ∷ []) ≡ protocol ∷ device ∷ []
device_alone protocol device is_protocol is_device = device_from protocol device [] is_protocol is_device

pub named_alone : (protocol device called : ℕ × Word) → is sy.Protocol protocol.1 ≡ true → is sy.Device device.1 ≡ true → name (kind_of called.1) ≡ true → significant regions.Statements (protocol ∷ device ∷ called ∷ []) ≡ protocol ∷ device ∷ called ∷ []
named_alone protocol device called is_protocol is_device is_called = named_from protocol device called [] is_protocol is_device is_called

pub device_begins : (protocol device opening : ℕ × Word) (rest : List (ℕ × Word)) → is sy.Protocol protocol.1 ≡ true → is sy.Device device.1 ≡ true → is sy.OpenBrace opening.1 ≡ true
    → significant regions.Statements (protocol ∷ device ∷ opening ∷ rest) ≡ protocol ∷ device ∷ opening ∷ significant (regions.Inside 0) rest
device_begins protocol device opening rest is_protocol is_device opens =
    device_from protocol device (opening ∷ rest) is_protocol is_device ∙ ap (λ (l : List (ℕ × Word)). protocol ∷ device ∷ l) (brace_step opening rest opens)

pub named_device_begins : (protocol device called opening : ℕ × Word) (rest : List (ℕ × Word)) → is sy.Protocol protocol.1 ≡ true → is sy.Device device.1 ≡ true → name (kind_of called.1) ≡ true → is sy.OpenBrace opening.1 ≡ true
    → significant regions.Statements (protocol ∷ device ∷ called ∷ opening ∷ rest) ≡ protocol ∷ device ∷ called ∷ opening ∷ significant (regions.Inside 0) rest
named_device_begins protocol device called opening rest is_protocol is_device is_called opens =
    named_from protocol device called (opening ∷ rest) is_protocol is_device is_called ∙ ap (λ (l : List (ℕ × Word)). protocol ∷ device ∷ called ∷ l) (named_brace_step opening rest opens)

-- ---- a log without its end

all_held : (held : List (ℕ × Word)) → list_all (λ p. not (is sy.Semicolon p.1)) held ≡ true → significant regions.Log held ≡ []
all_held [] none = refl
all_held (p ∷ held) none =
    let parts = and_parts (not (is sy.Semicolon p.1)) (list_all (λ q. not (is sy.Semicolon q.1)) held) none in
    held_step p held (not-true (is sy.Semicolon p.1) parts.0) ∙ all_held held parts.1

pub open_log : (log : ℕ × Word) (held : List (ℕ × Word)) → is sy.Log log.1 ≡ true → list_all (λ p. not (is sy.Semicolon p.1)) held ≡ true → significant regions.Statements (log ∷ held) ≡ log ∷ []
open_log log held is_log none = log_step log held is_log ∙ ap (λ (l : List (ℕ × Word)). log ∷ l) (all_held held none)
