-- The operations of a protocol as the journal of its lock has them, its turns: each entry tells the
-- place of a line in the phase (`turn_words`, `place_of`), and so the operation and who asked for
-- it (`told`). Which lines an actor has for a protocol (`named`).
-- Lists of entries are in their order; those of lines and turns are read backwards, but for
-- `lines`, which are the phase's lines in their order.
-- Not modelled: where journals keep their words.
-- From: own.
-- Example: of the lines `@p1 open 10.0.0.1` and `@p2 disable` the second has the words 2 and 2.
use Rattle.std.specs.Prelude.{◌≡◌, ◌==◌, ◌&&◌, ℕ, zero, suc, ◌<◌, List, [], ◌∷◌, length, map, reverse, Option, Some, None, slice_get, slice_index, if◌then◌else◌, ⊤}
use Rattle.import_core.specs.declared.operation.Op.TheVariants.{Start}
use Rattle.jour_rule.specs.declared.views.Entry.{Entry}
use Rattle.core_machine.specs.Lines.{Act, Line, Apply, Take, Push, Show, Turn, turn_of}

-- The words of a turn: how many they are, and the place of the line in the phase, from 1 on. The
-- place of the start of a protocol, for which no line asks, is 0.
abbrev pub turn_words : ℕ → List ℕ
turn_words place = 2 ∷ place ∷ []

abbrev pub place_of : Entry → ℕ
place_of e = slice_index e.words 1

abbrev pub line_at : List Line → ℕ → Option Line
line_at lines zero = None
line_at lines (suc n) = slice_get lines n

-- what no line asks for
abbrev pub start_turn : Turn
start_turn = record { actor = 0; line = 0; op = Start }

abbrev pub turn_in : Option Line → Turn
turn_in None = start_turn
turn_in (Some (Apply a)) = turn_of a
turn_in (Some (Take n)) = start_turn
turn_in (Some (Push n)) = start_turn
turn_in (Some (Show q)) = start_turn

-- the turn that an entry tells
abbrev pub told : List Line → Entry → Turn
told lines e = turn_in (line_at lines (place_of e))

abbrev pub turns_told : List Line → List Entry → List Turn
turns_told lines es = reverse (map (told lines) es)

-- Whose hand records a line: that of the actor who asks for it. Starts have one of their own.
abbrev pub hand_in : (starter : ℕ) → Option Line → ℕ
hand_in starter None = starter
hand_in starter (Some (Apply a)) = a.actor
hand_in starter (Some (Take n)) = starter
hand_in starter (Some (Push n)) = starter
hand_in starter (Some (Show q)) = starter

-- each entry is by the hand of its line
abbrev pub AreByHands : List Line → (starter : ℕ) → List Entry → Type 0
AreByHands lines starter [] = ⊤
AreByHands lines starter (e ∷ es) =
    (e.maker ≡ hand_in starter (line_at lines (place_of e))) × AreByHands lines starter es

-- each entry is a start
abbrev pub AreStarts : List Entry → Type 0
AreStarts [] = ⊤
AreStarts (e ∷ es) = (place_of e ≡ 0) × AreStarts es

-- the actors of these lines have numbers below this one
abbrev pub AreOfActors : ℕ → List Line → Type 0
AreOfActors actors lines =
    (n : ℕ) (a : Act) → slice_get lines n ≡ Some (Apply a) → a.actor < actors

-- the places of the lines by which an actor asks for operations of a protocol
abbrev pub named : (actor : ℕ) → (protocol : ℕ) → List Line → List ℕ
named actor i [] = []
named actor i (Apply a ∷ earlier) =
    if (a.actor == actor) && (a.protocol == i)
    then suc (length earlier) ∷ named actor i earlier
    else named actor i earlier
named actor i (Take n ∷ earlier) = named actor i earlier
named actor i (Push n ∷ earlier) = named actor i earlier
named actor i (Show q ∷ earlier) = named actor i earlier

-- the words of receipts, without the positions
abbrev pub words_in : List (ℕ × List ℕ) → List (List ℕ)
words_in receipts = map (λ r. r.1) receipts

-- a hand's receipts are the lines by which its actor asked for operations of a protocol
abbrev pub AreTurnsOf : (actor : ℕ) → (protocol : ℕ) → List Line → List (ℕ × List ℕ) → Type 0
AreTurnsOf actor i done receipts =
    words_in receipts ≡ map turn_words (reverse (named actor i done))
