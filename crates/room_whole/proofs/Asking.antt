-- Lines that name only what there is ask for nothing else, and turns that are all starts are as many as
-- they are.
use Rattle.std.proofs.Common.{◌≡◌, ℕ, zero, suc, ◌<◌, ◌≤◌, Bool, true, false, List, [], ◌∷◌, length, map, reverse, Some, refl, sym, ap, ◌∙◌, arith}
use Rattle.std.specs.Prelude.{◌==◌, ◌&&◌, if◌then◌else◌, slice_get, ⊤}
use Rattle.std.specs.List.{All, AllByRecursion}
use Rattle.std.proofs.lemmas.List.{length-map, length-reverse}
use Rattle.core_machine.specs.Legal.{started}
use Rattle.core_machine.specs.Lines.{Act, Apply, Line, Push, Show, Take, Turn, turn_of}
use Rattle.core_machine.specs.Replies.{questions}
use Rattle.core_machine.proofs.Contents.{eqb_no, if_false}
use Rattle.core_setup.proofs.Admitted.{all_reverse}
use Rattle.jour_rule.specs.declared.views.Entry.{Entry}
use Rattle.phase_legal.specs.Turns.{AreStarts, line_at, named, start_turn, told, turn_in, turns_told}
use Rattle.room_ends.specs.Played.{AreOfFew, AreStartActs}
use Rattle.room_whole.specs.Starts.{AreOfProtocols}

pub all_by_place : {X : Type 0} (P : X → Type 0) (xs : List X) → ((n : ℕ) (x : X) → slice_get xs n ≡ Some x → P x) → AllByRecursion P xs
all_by_place P [] f = tt
all_by_place P (x ∷ xs) f = (f zero x refl, all_by_place P xs (λ n. f (suc n)))

all_by_each : {X : Type 0} (P : X → Type 0) (xs : List X) → All P xs → AllByRecursion P xs
all_by_each P [] all = tt
all_by_each P (x ∷ xs) all = (all 0 x (omega arith), all_by_each P xs (λ k d less. all (suc k) d (omega (arith, less))))

and_no : (a b : Bool) → b ≡ false → (a && b) ≡ false
and_no true b e = e
and_no false b e = refl

-- ---- protocols

-- lines name protocols that there are
abbrev pub NameProtocols : ℕ → List Line → Type 0
NameProtocols protocols lines = (n : ℕ) (a : Act) → slice_get lines n ≡ Some (Apply a) → a.protocol < protocols

abbrev IsNamed : ℕ → Line → Type 0
IsNamed protocols (Apply a) = a.protocol < protocols
IsNamed protocols (Take n) = ⊤
IsNamed protocols (Push n) = ⊤
IsNamed protocols (Show q) = ⊤

named_far : (protocols actor i : ℕ) → protocols ≤ i → (lines : List Line) → AllByRecursion (IsNamed protocols) lines → named actor i lines ≡ []
named_far protocols actor i far [] all = refl
named_far protocols actor i far (Apply a ∷ lines) all =
    let near = all.0 in
    if_false ((a.actor == actor) && (a.protocol == i)) (suc (length lines) ∷ named actor i lines) (named actor i lines)
    (and_no (a.actor == actor) (a.protocol == i) (eqb_no a.protocol i (λ e. omega (arith, near, far, e))))
    ∙ named_far protocols actor i far lines all.1
named_far protocols actor i far (Take n ∷ lines) all = named_far protocols actor i far lines all.1
named_far protocols actor i far (Push n ∷ lines) all = named_far protocols actor i far lines all.1
named_far protocols actor i far (Show q ∷ lines) all = named_far protocols actor i far lines all.1

are_named : (protocols : ℕ) (lines : List Line) → NameProtocols protocols lines → AllByRecursion (IsNamed protocols) lines
are_named protocols lines names = all_by_place (IsNamed protocols) lines (λ n line. by n line)
  where
    by : (n : ℕ) (line : Line) → slice_get lines n ≡ Some line → IsNamed protocols line
    by n (Apply a) at = names n a at
    by n (Take k) at = tt
    by n (Push k) at = tt
    by n (Show q) at = tt

-- no line asks for what isn't there
pub named_none : (protocols actor i : ℕ) (lines : List Line) → NameProtocols protocols lines → protocols ≤ i → named actor i (reverse lines) ≡ []
named_none protocols actor i lines names far = named_far protocols actor i far (reverse lines) (all_reverse (IsNamed protocols) lines (are_named protocols lines names))

-- ---- actors

abbrev IsOfFew : ℕ → Line → Type 0
IsOfFew actors (Apply a) = ⊤
IsOfFew actors (Take n) = ⊤
IsOfFew actors (Push n) = ⊤
IsOfFew actors (Show q) = q.actor < actors

asked_far : (actors actor : ℕ) → actors ≤ actor → (lines : List Line) → AllByRecursion (IsOfFew actors) lines → questions actor lines ≡ []
asked_far actors actor far [] all = refl
asked_far actors actor far (Apply a ∷ lines) all = asked_far actors actor far lines all.1
asked_far actors actor far (Take n ∷ lines) all = asked_far actors actor far lines all.1
asked_far actors actor far (Push n ∷ lines) all = asked_far actors actor far lines all.1
asked_far actors actor far (Show q ∷ lines) all =
    let near = all.0 in
    if_false (q.actor == actor) (record { ask = q; lines = lines } ∷ questions actor lines) (questions actor lines) (eqb_no q.actor actor (λ e. omega (arith, near, far, e)))
    ∙ asked_far actors actor far lines all.1

are_of_few : (actors protocols : ℕ) (lines : List Line) → AreOfFew actors protocols lines → AllByRecursion (IsOfFew actors) lines
are_of_few actors protocols lines few = all_by_place (IsOfFew actors) lines (λ n line. by n line)
  where
    by : (n : ℕ) (line : Line) → slice_get lines n ≡ Some line → IsOfFew actors line
    by n (Apply a) at = tt
    by n (Take k) at = tt
    by n (Push k) at = tt
    by n (Show q) at = few.asks n q at

-- nobody else asks anything
pub questions_none : (actors protocols actor : ℕ) (lines : List Line) → AreOfFew actors protocols lines → actors ≤ actor → questions actor (reverse lines) ≡ []
questions_none actors protocols actor lines few far = asked_far actors actor far (reverse lines) (all_reverse (IsOfFew actors) lines (are_of_few actors protocols lines few))

-- ---- starts

abbrev IsThis : Turn → Turn → Type 0
IsThis one t = t ≡ one

one_list : (one : Turn) (xs ys : List Turn) → AllByRecursion (IsThis one) xs → AllByRecursion (IsThis one) ys → length xs ≡ length ys → xs ≡ ys
one_list one [] [] a b many = refl
one_list one [] (y ∷ ys) a b many = absurd (omega (arith, many))
one_list one (x ∷ xs) [] a b many = absurd (omega (arith, many))
one_list one (x ∷ xs) (y ∷ ys) a b many =
    let rest : xs ≡ ys = one_list one xs ys a.1 b.1 (omega (arith, many)) in
    (λ i. (a.0 ∙ sym b.0) i ∷ rest i)

told_starts : (lines : List Line) (es : List Entry) → AreStarts es → AllByRecursion (IsThis start_turn) (map (told lines) es)
told_starts lines [] are = tt
told_starts lines (e ∷ es) are = (ap (λ n. turn_in (line_at lines n)) are.0, told_starts lines es are.1)

started_here : (starts : List Act) (i : ℕ) → AllByRecursion (λ (a : Act). turn_of a ≡ start_turn) starts → AllByRecursion (IsThis start_turn) (started starts i)
started_here [] i all = tt
started_here (a ∷ earlier) i all = elim (a.protocol == i) as (λ b. AllByRecursion (IsThis start_turn) (if b then turn_of a ∷ started earlier i else started earlier i)) [
  | true ↦ (all.0, started_here earlier i all.1)
  | false ↦ started_here earlier i all.1
]

pub starts_are : (lines : List Line) (es : List Entry) (starts : List Act) (i : ℕ) → AreStarts es → AreStartActs starts → length es ≡ length (started starts i) → turns_told lines es ≡ started starts i
starts_are lines es starts i are acts many =
    one_list start_turn (turns_told lines es) (started starts i) (all_reverse (IsThis start_turn) (map (told lines) es) (told_starts lines es are)) (started_here starts i (all_by_each (λ (a : Act). turn_of a ≡ start_turn) starts acts))
    (length-reverse (map (told lines) es) ∙ length-map es (told lines) ∙ many)

started_far : (protocols i : ℕ) → protocols ≤ i → (starts : List Act) → AllByRecursion (λ (a : Act). a.protocol < protocols) starts → started starts i ≡ []
started_far protocols i far [] all = refl
started_far protocols i far (a ∷ earlier) all =
    let near = all.0 in
    if_false (a.protocol == i) (turn_of a ∷ started earlier i) (started earlier i) (eqb_no a.protocol i (λ e. omega (arith, near, far, e))) ∙ started_far protocols i far earlier all.1

-- what isn't there doesn't start
pub started_none : (protocols i : ℕ) (starts : List Act) → AreOfProtocols protocols starts → protocols ≤ i → started starts i ≡ []
started_none protocols i starts begins far = started_far protocols i far starts (all_by_place (λ (a : Act). a.protocol < protocols) starts begins)
