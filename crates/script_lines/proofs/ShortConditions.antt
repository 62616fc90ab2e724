-- No condition is longer than the text.
use Rattle.std.proofs.Common.{◌≡◌, sym, ap, subst, ℕ, zero, suc, ◌+◌, ◌≤◌, Bool, true, false, cond, List, [], ◌∷◌, ◌++◌, length, arith, Option, Some, None}
use Rattle.std.specs.Prelude.{not, ◌&&◌, ◌||◌, ◌==◌, IfSome}
use Rattle.std.specs.List.{All}
use Rattle.std.proofs.lemmas.List.Elements.{All-nil, All-cons, All-head, All-tail}
use Rattle.text.specs.Lines.{lines_of, words_of, behind_word, behind_words, is_blank, begins_word, begins_with, onto}
use Rattle.show_route.specs.declared.query.Query.{Query}
use Rattle.script_lines.specs.declared.faults.ScriptKind.{ScriptKind}
use Rattle.script_lines.specs.declared.named.Named.{Named}
use Rattle.script_lines.specs.declared.script.Condition.{Condition}
use Rattle.script_lines.specs.declared.script.Line.{Line}
use Rattle.script_lines.specs.Grammar.{ShowRoute, Form, Says, HasForm}
use Rattle.script_lines.specs.Script.{AreForms, IsScript, IsRefused, numbered, is_passed, without_comments, with_actor, condition_in, condition_at, conditions_of}
use Rattle.script_lines.proofs.LineParts.{said_question}

abbrev Within : ℕ → List ℕ → Type 0
Within most line = length line ≤ most

within_more : (most : ℕ) (lines : List (List ℕ)) → All (Within most) lines → All (Within (suc most)) lines
within_more most [] all = All-nil (Within (suc most))
within_more most (line ∷ lines) all =
    All-cons (Within (suc most)) line lines (omega (arith, All-head (Within most) line lines all)) (within_more most lines (All-tail (Within most) line lines all))

-- lines
onto_within : (b most : ℕ) (pieces : List (List ℕ)) → All (Within most) pieces → All (Within (suc most)) (onto b pieces)
onto_within b most [] all = All-cons (Within (suc most)) (b ∷ []) [] (omega arith) (All-nil (Within (suc most)))
onto_within b most (piece ∷ pieces) all =
    All-cons (Within (suc most)) (b ∷ piece) pieces (omega (arith, All-head (Within most) piece pieces all)) (within_more most pieces (All-tail (Within most) piece pieces all))

lines_by : (b most : ℕ) (newline return : Bool) (pieces : List (List ℕ)) → All (Within most) pieces
    → All (Within (suc most)) (cond newline ([] ∷ pieces) (cond return pieces (onto b pieces)))
lines_by b most true return pieces all = All-cons (Within (suc most)) [] pieces (omega arith) (within_more most pieces all)
lines_by b most false true pieces all = within_more most pieces all
lines_by b most false false pieces all = onto_within b most pieces all

lines_within : (text : List ℕ) → All (Within (length text)) (lines_of text)
lines_within [] = All-nil (Within 0)
lines_within (b ∷ bytes) = lines_by b (length bytes) (b == 10) ((b == 13) && begins_with 10 bytes) (lines_of bytes) (lines_within bytes)

-- what stands behind words
word_by : (more : Bool) (bytes : List ℕ) → length (behind_word bytes) ≤ length bytes → length (cond more (behind_word bytes) bytes) ≤ suc (length bytes)
word_by true bytes is = omega (arith, is)
word_by false bytes is = omega arith

word_within : (bytes : List ℕ) → length (behind_word bytes) ≤ length bytes
word_within [] = omega arith
word_within (b ∷ bytes) = word_by (is_blank b || begins_word bytes) bytes (word_within bytes)

words_within : (n : ℕ) (bytes : List ℕ) → length (behind_words n bytes) ≤ length bytes
words_within zero bytes = omega arith
words_within (suc n) bytes = omega (arith, words_within n (behind_word bytes), word_within bytes)

-- conditions
abbrev Short : ℕ → Condition → Type 0
Short most condition = length condition.text ≤ most

at_within : (number most : ℕ) (condition : Option (List ℕ)) → IfSome condition (Within most) → All (Short most) (condition_at number condition)
at_within number most None is = All-nil (Short most)
at_within number most (Some text) is = All-cons (Short most) (record { line = number; text = text }) [] is (All-nil (Short most))

if_cut : (condition : Option (List ℕ)) (n most : ℕ) (rest : List ℕ) → length rest ≤ most → IfSome condition (λ text. text ≡ behind_words n rest) → IfSome condition (Within most)
if_cut None n most rest fine is = tt
if_cut (Some text) n most rest fine is = omega (arith, ap length is, words_within n rest, fine)

all_joined : {X : Type 0} (P : X → Type 0) (xs ys : List X) → All P xs → All P ys → All P (xs ++ ys)
all_joined P [] ys one other = other
all_joined P (x ∷ xs) ys one other = All-cons P x (xs ++ ys) (All-head P x xs one) (all_joined P xs ys (All-tail P x xs one) other)

all_front : {X : Type 0} (P : X → Type 0) (xs ys : List X) → All P (xs ++ ys) → All P xs
all_front P [] ys all = All-nil P
all_front P (x ∷ xs) ys all = All-cons P x xs (All-head P x (xs ++ ys) all) (all_front P xs ys (All-tail P x (xs ++ ys) all))

abbrev LineWithin : ℕ → ℕ × List ℕ → Type 0
LineWithin most line = Within most line.1

passed_by : (most : ℕ) (counts : Bool) (line : ℕ × List ℕ) (lines : List (ℕ × List ℕ)) → LineWithin most line → All (LineWithin most) lines → All (LineWithin most) (cond counts (line ∷ lines) lines)
passed_by most true line lines is all = All-cons (LineWithin most) line lines is all
passed_by most false line lines is all = all

counted_within : (most number : ℕ) (lines : List (List ℕ)) → All (Within most) lines → All (LineWithin most) (without_comments (numbered number lines))
counted_within most number [] all = All-nil (LineWithin most)
counted_within most number (line ∷ lines) all =
    passed_by most (not (is_passed line)) (number, line) (without_comments (numbered (number + 1) lines)) (All-head (Within most) line lines all)
    (counted_within most (number + 1) lines (All-tail (Within most) line lines all))

line_short : (number most : ℕ) (line : List ℕ) (form : Form) → HasForm line form → length line ≤ most → All (Short most) (condition_at number (condition_in form))
line_short number most line (Says actor (ShowRoute asked)) is fine =
    let question = said_question (behind_words 3 line) (words_of line) actor asked is in
    at_within number most asked.condition
    (if_cut asked.condition (length question.front + 1) most (behind_words 3 line) (omega (arith, words_within 3 line, fine)) question.condition_is)
line_short number most line (Says actor _) is fine = All-nil (Short most)
line_short number most line _ is fine = All-nil (Short most)

all_short : (named : Named) (actors : List (List ℕ)) (most : ℕ) (lines : List (ℕ × List ℕ)) (forms : List (ℕ × Form)) → AreForms named actors lines forms → All (LineWithin most) lines
    → All (Short most) (conditions_of forms)
all_short named actors most [] [] are all = All-nil (Short most)
all_short named actors most [] (said ∷ forms) are all = absurd are
all_short named actors most (line ∷ lines) [] are all = absurd are
all_short named actors most (line ∷ lines) (said ∷ forms) are all =
    all_joined (Short most) (condition_at said.0 (condition_in said.1)) (conditions_of forms)
    (line_short said.0 most line.1 said.1 are.1 (All-head (LineWithin most) line lines all))
    (all_short named (with_actor actors said.1) most lines forms are.3 (All-tail (LineWithin most) line lines all))

pub accepted_short : (named : Named) (text : List ℕ) (phases : List (List Line)) (actors : List (List ℕ)) (queries : List Query) (conditions : List Condition)
    → IsScript named text phases actors queries conditions → All (Short (length text)) conditions
accepted_short named text phases actors queries conditions is =
    subst (λ (c : List Condition). All (Short (length text)) c) (sym is.conditions_are)
    (all_short named [] (length text) _ is.forms is.forms_are (counted_within (length text) 1 (lines_of text) (lines_within text)))

pub refused_short : (named : Named) (text : List ℕ) (number : ℕ) (kind : ScriptKind) (conditions : List Condition) → IsRefused named text number kind conditions → All (Short (length text)) conditions
refused_short named text number kind conditions is =
    let lines = subst (λ (l : List (List ℕ)). All (Within (length text)) l) is.whole (lines_within text) in
    subst (λ (c : List Condition). All (Short (length text)) c) (sym is.conditions_are)
    (all_short named [] (length text) _ is.forms is.front_is (counted_within (length text) 1 is.front (all_front (Within (length text)) is.front (is.bad ∷ is.rest) lines)))
