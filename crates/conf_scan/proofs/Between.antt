-- The gap at the front of a text.
use Rattle.std.proofs.Common.{◌≡◌, ℕ, suc, ◌+◌, ◌<◌, ◌≤◌, Bool, true, false, cond, not, ◌&&◌, ◌||◌, ◌==◌, List, [], ◌∷◌, ◌++◌, length, take, drop, Option, Some, None, refl, sym, ◌∙◌, ap, subst, arith, inl, inr, ◌⊎◌, append_assoc, append-nil, get_or, drop-cons}
use Rattle.std.specs.List.{prefix_len, take_while, concat}
use Rattle.std.specs.Option.{option_map}
use Rattle.std.proofs.lemmas.Bool.{cases_Bool, and_parts, eqb-true, ne_eqb, false≢true}
use Rattle.std.proofs.lemmas.List.{take-append-drop, length-append, drop-drop, drop-take, take-take}
use Rattle.std.proofs.lemmas.List.Folds.{length-prefix_len, concat-append}
use Rattle.conf_scan.specs.Shapes.{first_passes, is_blank, is_newline, ends_line, has_close, IsSeparator, Blank, Line, Block, AreSeparators, IsGap}
use Rattle.conf_scan.specs.Fronts.{close_len, separator_len}
use Rattle.conf_scan.specs.Lex.{HasNoSeparator}
use Rattle.conf_scan.proofs.Runs.{run_whole, run_passes, run_stops, run_is, first_is, map_some}
use Rattle.conf_scan.proofs.Reached.{take_length, drop_length}

-- the end of a comment

no_either : (a b : Bool) → (a || b) ≡ false → (a ≡ false) × (b ≡ false)
no_either true b e = absurd (cc)
no_either false b e = (refl, e)

neither : (a b : Bool) → a ≡ false → b ≡ false → (a || b) ≡ false
neither true b e f = absurd (cc)
neither false b e f = f

record Closed (text : List ℕ) (n : ℕ) : Type 0 where
  bytes : List ℕ
  rest : List ℕ
  whole : text ≡ bytes ++ 42 ∷ 47 ∷ rest
  len : n ≡ length bytes + 2
  first : has_close (bytes ++ 42 ∷ []) ≡ false

-- whether a byte before these closes a comment doesn't change where they are cut behind the star
close_before : (bytes : List ℕ) (rest : List ℕ) → first_passes (λ c. c == 47) (bytes ++ 42 ∷ 47 ∷ rest) ≡ first_passes (λ c. c == 47) (bytes ++ 42 ∷ [])
close_before [] rest = refl
close_before (b ∷ bytes) rest = refl

pub some_none : {A B : Type 0} {x : A} → ◌≡◌ {A = Option A} None (Some x) → B
some_none e = absurd (cc)

map_none : {A B : Type 0} (f : A → B) (o : Option A) → option_map f o ≡ None → o ≡ None
map_none f None e = refl
map_none f (Some x) e = absurd (cc)

close_step : (b : ℕ) (bytes : List ℕ) (n : ℕ) → (((b == 42) && first_passes (λ c. c == 47) bytes) ≡ true) ⊎ (((b == 42) && first_passes (λ c. c == 47) bytes) ≡ false)
    → ((m : ℕ) → close_len bytes ≡ Some m → Closed bytes m) → close_len (b ∷ bytes) ≡ Some n → Closed (b ∷ bytes) n
close_step b bytes n (inl is) found e =
    let parts = and_parts (b == 42) (first_passes (λ c. c == 47) bytes) is in
    let rest = first_is 47 bytes parts.1 in
    let two : Some 2 ≡ Some n = sym (ap (λ (t : Bool). cond t (Some 2) (option_map (λ m. m + 1) (close_len bytes))) is) ∙ e in
    record {
      bytes = [];
      rest = rest.0;
      whole = ap (λ (m : ℕ). m ∷ bytes) (eqb-true b 42 parts.0) ∙ ap (λ (l : List ℕ). 42 ∷ l) rest.1;
      len = let same : 2 ≡ n = cc in sym same;
      first = refl;
    }
close_step b bytes n (inr fails) found e =
    let after = map_some (λ m. m + 1) (close_len bytes) n (sym (ap (λ (t : Bool). cond t (Some 2) (option_map (λ m. m + 1) (close_len bytes))) fails) ∙ e) in
    let more = found after.0 after.1 in
    let here : ((b == 42) && first_passes (λ c. c == 47) (more.bytes ++ 42 ∷ [])) ≡ false =
    ap (λ (t : Bool). (b == 42) && t) (sym (close_before more.bytes more.rest) ∙ ap (first_passes (λ c. c == 47)) (sym more.whole)) ∙ fails in
    record {
      bytes = b ∷ more.bytes;
      rest = more.rest;
      whole = ap (λ (l : List ℕ). b ∷ l) more.whole;
      len = omega (arith, more.len, after.2);
      first = neither _ (has_close (more.bytes ++ 42 ∷ [])) here more.first;
    }

early : (c d : ℕ) (bytes : List ℕ) → c ≡ 42 → d ≡ 47 → has_close (c ∷ d ∷ bytes) ≡ false → ⊥
early c d bytes star slash none =
    let P : ℕ → Type 0 = λ n. has_close (n ∷ d ∷ bytes) ≡ false in
    let Q : ℕ → Type 0 = λ n. has_close (42 ∷ n ∷ bytes) ≡ false in
    false≢true (sym (subst Q slash (subst P star none)))

close_found : (text : List ℕ) (n : ℕ) → close_len text ≡ Some n → Closed text n
close_found [] n is = absurd (cc)
close_found (b ∷ bytes) n is = close_step b bytes n (cases_Bool ((b == 42) && first_passes (λ c. c == 47) bytes)) (λ m e. close_found bytes m e) is

close_is : (bytes rest : List ℕ) → has_close (bytes ++ 42 ∷ []) ≡ false → close_len (bytes ++ 42 ∷ 47 ∷ rest) ≡ Some (length bytes + 2)
close_is [] rest first = refl
close_is (b ∷ bytes) rest first =
    let parts = no_either _ (has_close (bytes ++ 42 ∷ [])) first in
    let here : ((b == 42) && first_passes (λ c. c == 47) (bytes ++ 42 ∷ 47 ∷ rest)) ≡ false = ap (λ (t : Bool). (b == 42) && t) (close_before bytes rest) ∙ parts.0 in
    let len : length bytes + 2 + 1 ≡ length (b ∷ bytes) + 2 = omega arith in
    ap (λ (t : Bool). cond t (Some 2) (option_map (λ n. n + 1) (close_len (bytes ++ 42 ∷ 47 ∷ rest)))) here
    ∙ ap (option_map (λ n. n + 1)) (close_is bytes rest parts.1) ∙ ap (λ (n : ℕ). Some n) len

not_not : (t : Bool) → not t ≡ false → t ≡ true
not_not true e = refl
not_not false e = absurd (cc)

take_more : (text : List ℕ) (k n : ℕ) → k ≤ length text → take (k + n) text ≡ take k text ++ take n (drop k text)
take_more text k n within =
    sym (take-append-drop k (take (k + n) text)) ∙ ap (λ (l : List ℕ). l ++ drop k (take (k + n) text)) (take-take k (k + n) text (omega arith))
    ∙ ap (λ (l : List ℕ). take k text ++ l) (drop-take k n text)

-- one separator

-- what is found at the front
pub record Separates (text : List ℕ) (n : ℕ) : Type 0 where
  pub some : 0 < n
  pub within : n ≤ length text
  pub separator : IsSeparator (take n text) (drop n text)

cut : (text piece rest : List ℕ) (n : ℕ) → text ≡ piece ++ rest → n ≡ length piece → 0 < length piece → IsSeparator piece rest → Separates text n
cut text piece rest n whole len some is =
    let taken : take n text ≡ piece = ap (λ (m : ℕ). take m text) len ∙ ap (λ (l : List ℕ). take (length piece) l) whole ∙ take_length piece rest in
    let behind : drop n text ≡ rest = ap (λ (m : ℕ). drop m text) len ∙ ap (λ (l : List ℕ). drop (length piece) l) whole ∙ drop_length piece rest in
    let P : List ℕ → Type 0 = λ l. IsSeparator l (drop n text) in
    let Q : List ℕ → Type 0 = λ l. IsSeparator piece l in
    record {
      some = omega (arith, some, len);
      within = omega (arith, len, ap (λ (l : List ℕ). length l) whole, length-append piece rest);
      separator = subst P (sym taken) (subst Q (sym behind) is);
    }

line_end : (rest : List ℕ) → first_passes (λ b. not (is_newline b)) rest ≡ false → ends_line rest ≡ true
line_end [] is = refl
line_end (b ∷ rest) is = not_not (is_newline b) is

line_goes : (rest : List ℕ) → ends_line rest ≡ true → first_passes (λ b. not (is_newline b)) rest ≡ false
line_goes [] is = refl
line_goes (b ∷ rest) is = ap not is

line_found : (bytes : List ℕ) → Separates (35 ∷ bytes) (prefix_len (λ c. not (is_newline c)) bytes + 1)
line_found bytes =
    let p : ℕ → Bool = λ c. not (is_newline c) in
    cut (35 ∷ bytes) (35 ∷ take_while (λ c. not (is_newline c)) bytes) (drop (prefix_len (λ c. not (is_newline c)) bytes) bytes) (prefix_len (λ c. not (is_newline c)) bytes + 1)
    (ap (λ (l : List ℕ). 35 ∷ l) (run_whole (λ c. not (is_newline c)) bytes)) (omega (arith, length-prefix_len (λ c. not (is_newline c)) bytes)) (omega arith)
    (Line (take_while (λ c. not (is_newline c)) bytes) refl (run_passes (λ c. not (is_newline c)) bytes) (line_end (drop (prefix_len (λ c. not (is_newline c)) bytes) bytes) (run_stops (λ c. not (is_newline c)) bytes)))

block_found : (bytes : List ℕ) (n : ℕ) → close_len bytes ≡ Some n → Separates (47 ∷ 42 ∷ bytes) (n + 2)
block_found bytes n is =
    let closed = close_found bytes n is in
    cut (47 ∷ 42 ∷ bytes) (47 ∷ 42 ∷ closed.bytes ++ 42 ∷ 47 ∷ []) closed.rest (n + 2)
    (ap (λ (l : List ℕ). 47 ∷ 42 ∷ l) (closed.whole ∙ sym (append_assoc closed.bytes (42 ∷ 47 ∷ []) closed.rest)))
    (omega (arith, closed.len, length-append closed.bytes (42 ∷ 47 ∷ []))) (omega arith)
    (Block closed.bytes refl closed.first)

blank_found : (b : ℕ) (bytes : List ℕ) → is_blank b ≡ true → Separates (b ∷ bytes) 1
blank_found b bytes is = cut (b ∷ bytes) (b ∷ []) bytes 1 refl refl (omega arith) (Blank b refl is)

abbrev AllSeparate : List ℕ → Option ℕ → Type 0
AllSeparate text None = Unit {0}
AllSeparate text (Some n) = Separates text n

separates_if : (text : List ℕ) (t : Bool) (o p : Option ℕ) → (t ≡ true → AllSeparate text o) → (t ≡ false → AllSeparate text p) → AllSeparate text (cond t o p)
separates_if text true o p one other = one refl
separates_if text false o p one other = other refl

separates_map : (text : List ℕ) (k : ℕ) (o : Option ℕ) → ((n : ℕ) → o ≡ Some n → Separates text (n + k)) → AllSeparate text (option_map (λ n. n + k) o)
separates_map text k None found = tt
separates_map text k (Some n) found = found n refl

hash_found : (b : ℕ) (bytes : List ℕ) → (b == 35) ≡ true → Separates (b ∷ bytes) (prefix_len (λ c. not (is_newline c)) bytes + 1)
hash_found b bytes is = let P : ℕ → Type 0 = λ c. Separates (c ∷ bytes) (prefix_len (λ d. not (is_newline d)) bytes + 1) in subst P (sym (eqb-true b 35 is)) (line_found bytes)

slash_found : (b : ℕ) (bytes : List ℕ) (n : ℕ) → ((b == 47) && first_passes (λ c. c == 42) bytes) ≡ true → close_len (drop 1 bytes) ≡ Some n → Separates (b ∷ bytes) (n + 2)
slash_found b bytes n is closes =
    let parts = and_parts (b == 47) (first_passes (λ c. c == 42) bytes) is in
    let rest = first_is 42 bytes parts.1 in
    let whole : b ∷ bytes ≡ 47 ∷ 42 ∷ rest.0 = ap (λ (m : ℕ). m ∷ bytes) (eqb-true b 47 parts.0) ∙ ap (λ (l : List ℕ). 47 ∷ l) rest.1 in
    let P : List ℕ → Type 0 = λ l. Separates l (n + 2) in
    subst P (sym whole) (block_found rest.0 n (sym (ap (λ (l : List ℕ). close_len (drop 1 l)) rest.1) ∙ closes))

all_separate : (text : List ℕ) → AllSeparate text (separator_len text)
all_separate [] = tt
all_separate (b ∷ bytes) =
    separates_if (b ∷ bytes) (is_blank b) _ _ (λ is. blank_found b bytes is)
    (λ other. separates_if (b ∷ bytes) (b == 35) _ _ (λ is. hash_found b bytes is)
    (λ third. separates_if (b ∷ bytes) ((b == 47) && first_passes (λ c. c == 42) bytes) _ _
    (λ is. separates_map (b ∷ bytes) 2 (close_len (drop 1 bytes)) (λ n closes. slash_found b bytes n is closes)) (λ last. tt)))

pub separator_found : (text : List ℕ) (n : ℕ) → separator_len text ≡ Some n → Separates text n
separator_found text n is = let P : Option ℕ → Type 0 = λ o. AllSeparate text o in subst P is (all_separate text)

blank_is : (b : ℕ) (rest : List ℕ) → is_blank b ≡ true → separator_len (b ∷ rest) ≡ Some 1
blank_is b rest is = rw is refl

pub separator_is : (piece rest : List ℕ) → IsSeparator piece rest → separator_len (piece ++ rest) ≡ Some (length piece)
separator_is piece rest (Blank b whole is) =
    ap (λ (l : List ℕ). separator_len (l ++ rest)) whole ∙ blank_is b rest is ∙ ap (λ (l : List ℕ). Some (length l)) (sym whole)
separator_is piece rest (Line bytes whole all ends) =
    let run = run_is (λ c. not (is_newline c)) bytes rest all (line_goes rest ends) in
    let len : length bytes + 1 ≡ length (35 ∷ bytes) = omega arith in
    ap (λ (l : List ℕ). separator_len (l ++ rest)) whole ∙ ap (λ (n : ℕ). Some (n + 1)) run ∙ ap (λ (n : ℕ). Some n) len ∙ ap (λ (l : List ℕ). Some (length l)) (sym whole)
separator_is piece rest (Block bytes whole first) =
    let len : length bytes + 2 + 2 ≡ length (47 ∷ 42 ∷ bytes ++ 42 ∷ 47 ∷ []) = omega (arith, length-append bytes (42 ∷ 47 ∷ [])) in
    ap (λ (l : List ℕ). separator_len (l ++ rest)) whole
    ∙ ap (λ (l : List ℕ). option_map (λ n. n + 2) (close_len l)) (append_assoc bytes (42 ∷ 47 ∷ []) rest)
    ∙ ap (option_map (λ n. n + 2)) (close_is bytes rest first)
    ∙ ap (λ (n : ℕ). Some n) len ∙ ap (λ (l : List ℕ). Some (length l)) (sym whole)

pub separator_none : (text : List ℕ) → separator_len text ≡ None → HasNoSeparator text
separator_none text none piece rest whole is = some_none (sym none ∙ ap separator_len whole ∙ separator_is piece rest is)

-- gaps

pub some_piece : (piece rest : List ℕ) → IsSeparator piece rest → 0 < length piece
some_piece piece rest (Blank b whole is) = omega (arith, ap (λ (l : List ℕ). length l) whole)
some_piece piece rest (Line bytes whole all ends) = omega (arith, ap (λ (l : List ℕ). length l) whole)
some_piece piece rest (Block bytes whole first) = omega (arith, ap (λ (l : List ℕ). length l) whole)

-- a text is cut at one place in one way
pub cut_same : (a b c d : List ℕ) → a ++ b ≡ c ++ d → length a ≡ length c → (a ≡ c) × (b ≡ d)
cut_same [] b [] d same len = (refl, same)
cut_same [] b (x ∷ c) d same len = absurd (omega arith)
cut_same (y ∷ a) b [] d same len = absurd (omega arith)
cut_same (y ∷ a) b (x ∷ c) d same len =
    let head : y ≡ x = cc in
    let more = cut_same a b c d (cc) (omega (arith, len)) in
    (ap (λ (n : ℕ). n ∷ a) head ∙ ap (λ (l : List ℕ). x ∷ l) more.0, more.1)

separator_once : (p q rest back : List ℕ) → IsSeparator p rest → IsSeparator q back → p ++ rest ≡ q ++ back → (p ≡ q) × (rest ≡ back)
separator_once p q rest back one other same =
    let len : Some (length p) ≡ Some (length q) = sym (separator_is p rest one) ∙ ap separator_len same ∙ separator_is q back other in
    cut_same p rest q back same cc

gap_pieces : (ps qs : List (List ℕ)) (rest back : List ℕ) → AreSeparators ps rest → AreSeparators qs back → HasNoSeparator rest → HasNoSeparator back → concat ps ++ rest ≡ concat qs ++ back → (concat ps ≡ concat qs) × (rest ≡ back)
gap_pieces [] [] rest back one other none bare same = (refl, same)
gap_pieces [] (q ∷ qs) rest back one other none bare same = absurd (none q (concat qs ++ back) (same ∙ append_assoc q (concat qs) back) other.0)
gap_pieces (p ∷ ps) [] rest back one other none bare same = absurd (bare p (concat ps ++ rest) (sym same ∙ append_assoc p (concat ps) rest) one.0)
gap_pieces (p ∷ ps) (q ∷ qs) rest back one other none bare same =
    let first = separator_once p q (concat ps ++ rest) (concat qs ++ back) one.0 other.0 (sym (append_assoc p (concat ps) rest) ∙ same ∙ append_assoc q (concat qs) back) in
    let more = gap_pieces ps qs rest back one.1 other.1 none bare first.1 in
    (ap (λ (l : List ℕ). l ++ concat ps) first.0 ∙ ap (λ (l : List ℕ). q ++ l) more.0, more.1)

-- a text has one gap at its front
pub gap_once : (gap rest other back : List ℕ) → IsGap gap rest → IsGap other back → HasNoSeparator rest → HasNoSeparator back → gap ++ rest ≡ other ++ back → (gap ≡ other) × (rest ≡ back)
gap_once gap rest other back one two none bare same =
    let found = gap_pieces one.pieces two.pieces rest back one.separators two.separators none bare (ap (λ (l : List ℕ). l ++ rest) (sym one.whole) ∙ same ∙ ap (λ (l : List ℕ). l ++ back) two.whole) in
    (one.whole ∙ found.0 ∙ sym two.whole, found.1)

-- a gap and a separator behind it are a gap
are_more : (pieces : List (List ℕ)) (piece rest : List ℕ) → AreSeparators pieces (piece ++ rest) → IsSeparator piece rest → AreSeparators (pieces ++ piece ∷ []) rest
are_more [] piece rest are is = (is, tt)
are_more (p ∷ pieces) piece rest are is =
    let P : List ℕ → Type 0 = λ l. IsSeparator p l in
    let same : concat pieces ++ (piece ++ rest) ≡ concat (pieces ++ piece ∷ []) ++ rest =
    sym (append_assoc (concat pieces) piece rest) ∙ ap (λ (l : List ℕ). l ++ rest) (ap (λ (l : List ℕ). concat pieces ++ l) (sym (append-nil piece)) ∙ sym (concat-append pieces (piece ∷ []))) in
    (subst P same are.0, are_more pieces piece rest are.1 is)

pub gap_more : (text : List ℕ) (k n : ℕ) → k ≤ length text → IsGap (take k text) (drop k text) → Separates (drop k text) n → IsGap (take (k + n) text) (drop (k + n) text)
gap_more text k n within gap more =
    let piece = take n (drop k text) in
    let rest : drop n (drop k text) ≡ drop (k + n) text = drop-drop n k text in
    let P : List ℕ → Type 0 = λ l. AreSeparators gap.pieces l in
    let Q : List ℕ → Type 0 = λ l. AreSeparators (gap.pieces ++ take n (drop k text) ∷ []) l in
    record {
      pieces = gap.pieces ++ take n (drop k text) ∷ [];
      whole = take_more text k n within ∙ ap (λ (l : List ℕ). l ++ take n (drop k text)) gap.whole ∙ ap (λ (l : List ℕ). concat gap.pieces ++ l) (sym (append-nil (take n (drop k text)))) ∙ sym (concat-append gap.pieces (take n (drop k text) ∷ []));
      separators = subst Q rest (are_more gap.pieces (take n (drop k text)) (drop n (drop k text)) (subst P (sym (take-append-drop n (drop k text))) gap.separators) more.separator);
    }

pub gap_none : (text : List ℕ) → IsGap (take 0 text) (drop 0 text)
gap_none text = record { pieces = []; whole = refl; separators = tt }

-- The lexer looks for the end of a comment byte by byte.

drop-next : (text : List ℕ) (i : ℕ) → i < length text → drop i text ≡ get_or text i 0 ∷ drop (i + 1) text
drop-next text i within = let next : suc i ≡ i + 1 = omega arith in drop-cons text i 0 within ∙ ap (λ (n : ℕ). get_or text i 0 ∷ drop n text) next

close_at : (text : List ℕ) (i : ℕ) → i < length text → ((get_or text i 0 == 42) && first_passes (λ c. c == 47) (drop (i + 1) text)) ≡ false → close_len (drop i text) ≡ option_map (λ n. n + 1) (close_len (drop (i + 1) text))
close_at text i within open' =
    let cut : drop i text ≡ get_or text i 0 ∷ drop (i + 1) text = drop-next text i within in
    ap close_len cut ∙ ap (λ (t : Bool). cond t (Some 2) (option_map (λ n. n + 1) (close_len (drop (i + 1) text)))) open'

map_twice : (i : ℕ) (o : Option ℕ) → option_map (λ n. n + i) (option_map (λ n. n + 1) o) ≡ option_map (λ n. n + (i + 1)) o
map_twice i None = refl
map_twice i (Some n) = let same : n + 1 + i ≡ n + (i + 1) = omega arith in ap (λ (m : ℕ). Some m) same

pub close_more : (text : List ℕ) (i : ℕ) → i < length text → ((get_or text i 0 == 42) && first_passes (λ c. c == 47) (drop (i + 1) text)) ≡ false
    → close_len text ≡ option_map (λ n. n + i) (close_len (drop i text)) → close_len text ≡ option_map (λ n. n + (i + 1)) (close_len (drop (i + 1) text))
close_more text i within open' is = is ∙ ap (option_map (λ n. n + i)) (close_at text i within open') ∙ map_twice i (close_len (drop (i + 1) text))

pub close_here : (text : List ℕ) (i : ℕ) → i < length text → ((get_or text i 0 == 42) && first_passes (λ c. c == 47) (drop (i + 1) text)) ≡ true
    → close_len text ≡ option_map (λ n. n + i) (close_len (drop i text)) → Some (i + 2) ≡ close_len text
close_here text i within closes is =
    let cut : drop i text ≡ get_or text i 0 ∷ drop (i + 1) text = drop-next text i within in
    let two : close_len (drop i text) ≡ Some 2 = ap close_len cut ∙ ap (λ (t : Bool). cond t (Some 2) (option_map (λ n. n + 1) (close_len (drop (i + 1) text)))) closes in
    let same : 2 + i ≡ i + 2 = omega arith in
    sym (is ∙ ap (option_map (λ n. n + i)) two ∙ ap (λ (n : ℕ). Some n) same)

and_last : (a : Bool) {b : Bool} → b ≡ false → (a && b) ≡ false
and_last true e = e
and_last false e = refl

pub close_no_slash : (text : List ℕ) (i : ℕ) → i < length text → first_passes (λ c. c == 47) (drop (i + 1) text) ≡ false
    → close_len text ≡ option_map (λ n. n + i) (close_len (drop i text)) → close_len text ≡ option_map (λ n. n + (i + 1)) (close_len (drop (i + 1) text))
close_no_slash text i within other is = close_more text i within (and_last (get_or text i 0 == 42) other) is

pub close_no_star : (text : List ℕ) (i : ℕ) → i < length text → (get_or text i 0 ≡ 42 → ⊥)
    → close_len text ≡ option_map (λ n. n + i) (close_len (drop i text)) → close_len text ≡ option_map (λ n. n + (i + 1)) (close_len (drop (i + 1) text))
close_no_star text i within other is = close_more text i within (ap (λ (t : Bool). t && first_passes (λ c. c == 47) (drop (i + 1) text)) (ne_eqb (get_or text i 0) 42 other)) is
