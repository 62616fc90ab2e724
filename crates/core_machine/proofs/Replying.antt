-- What an actor was shown stays right as more lines are done.
use Rattle.std.proofs.Common.{◌≡◌, ℕ, ◌≤◌, inl, inr, Bool, true, false, List, [], ◌∷◌, ◌++◌, refl, sym, ◌∙◌, ap, subst, arith, length}
use Rattle.std.specs.Prelude.{◌==◌, ◌&&◌, not, nat_lt, if◌then◌else◌}
use Rattle.std.proofs.Math.Nat.{le_refl}
use Rattle.std.proofs.lemmas.List.{length-append}
use Rattle.std.proofs.lemmas.Bool.Decides.{nat_tests, eqb_tells}
use Rattle.attrs.specs.declared.route.Change.{Change}
use Rattle.import_core.specs.declared.operation.Op.{Op}
use Rattle.core_machine.specs.Histories.{front, own}
use Rattle.core_machine.specs.Lines.{Act, Line, Apply, Take, Push, Show, Reply, Turn, ops_of, turn_of}
use Rattle.core_machine.specs.Merges.{asked, picked}
use Rattle.core_machine.specs.Replies.{Answers, Question, is_nil, latest, needed, questions}
use Rattle.core_machine.specs.Rules.{Rules, changes}
use Rattle.core_machine.proofs.Contents.{if_true, if_false, front_more}

-- the turns that lines give a protocol
abbrev pub turns_of : ℕ → List Line → List Turn
turns_of i [] = []
turns_of i (Apply x ∷ earlier) = if x.protocol == i then turn_of x ∷ turns_of i earlier else turns_of i earlier
turns_of i (Take n ∷ earlier) = turns_of i earlier
turns_of i (Push n ∷ earlier) = turns_of i earlier
turns_of i (Show b ∷ earlier) = turns_of i earlier

and_no : (b : Bool) → (b && false) ≡ false
and_no true = refl
and_no false = refl

-- an actor's turns are its lines
pub picked_asked : (a i : ℕ) (lines : List Line) → picked a (turns_of i lines) ≡ asked a i lines
picked_asked a i [] = refl
picked_asked a i (Apply x ∷ earlier) = elim (x.protocol == i) as (λ b. picked a (if b then turn_of x ∷ turns_of i earlier else turns_of i earlier) ≡ (if (x.actor == a) && b then turn_of x ∷ asked a i earlier else asked a i earlier)) [
  | true ↦ elim (x.actor == a) as (λ d. (if d then turn_of x ∷ picked a (turns_of i earlier) else picked a (turns_of i earlier)) ≡ (if d && true then turn_of x ∷ asked a i earlier else asked a i earlier)) [ true ↦ ap (λ l. turn_of x ∷ l) (picked_asked a i earlier) | false ↦ picked_asked a i earlier ]
  | false ↦ picked_asked a i earlier ∙ sym (if_false ((x.actor == a) && false) (turn_of x ∷ asked a i earlier) (asked a i earlier) (and_no (x.actor == a)))
]
picked_asked a i (Take n ∷ earlier) = picked_asked a i earlier
picked_asked a i (Push n ∷ earlier) = picked_asked a i earlier
picked_asked a i (Show b ∷ earlier) = picked_asked a i earlier

-- the lines before each question ask no more than n
abbrev pub AllWithin : ℕ → ℕ → ℕ → List Question → Type 0
AllWithin a i n [] = Unit {0}
AllWithin a i n (q ∷ more) = (length (asked a i q.lines) ≤ n) × AllWithin a i n more

within_more : (a i n m : ℕ) (all : List Question) → n ≤ m → AllWithin a i n all → AllWithin a i m all
within_more a i n m [] le w = tt
within_more a i n m (q ∷ more) le w = (omega (arith, w.0), within_more a i n m more le w.1)

asked_more : (a i : ℕ) (x : Act) (earlier : List Line) → length (asked a i earlier) ≤ length (asked a i (Apply x ∷ earlier))
asked_more a i x earlier = elim ((x.actor == a) && (x.protocol == i)) as (λ b. length (asked a i earlier) ≤ length (if b then turn_of x ∷ asked a i earlier else asked a i earlier)) [ true ↦ omega arith | false ↦ le_refl _ ]

pub all_within : (a i : ℕ) (lines : List Line) → AllWithin a i (length (asked a i lines)) (questions a lines)
all_within a i [] = tt
all_within a i (Apply x ∷ earlier) = within_more a i (length (asked a i earlier)) (length (asked a i (Apply x ∷ earlier))) (questions a earlier) (asked_more a i x earlier) (all_within a i earlier)
all_within a i (Take n ∷ earlier) = all_within a i earlier
all_within a i (Push n ∷ earlier) = all_within a i earlier
all_within a i (Show q ∷ earlier) = elim (q.actor == a) as (λ d. AllWithin a i (length (asked a i earlier)) (if d then record { ask = q; lines = earlier } ∷ questions a earlier else questions a earlier)) [ true ↦ (le_refl _, all_within a i earlier) | false ↦ all_within a i earlier ]

lt_no : (a b : ℕ) → b ≤ a → nat_lt a b ≡ false
lt_no a b w = grind (arith, nat_tests)

-- a further turn needs no more for the first n
pub needed_more : (g : Rules) (i : ℕ) (past : List Op) (a n : ℕ) (t : Turn) (earlier : List Turn) → n ≤ length (picked a earlier) → needed g i past a n (t ∷ earlier) ≡ needed g i past a n earlier
needed_more g i past a n t earlier w =
    let some = not (is_nil (g.gives i (ops_of earlier ++ past) t.op).changes) in
    let x = length (changes g i (t.op ∷ (ops_of earlier ++ past))) in
    let y = needed g i past a n earlier in
    ap (λ b. if ((t.actor == a) && b) && some then x else y) (lt_no (length (picked a earlier)) n w) ∙ ap (λ b. if b && some then x else y) (and_no (t.actor == a))

-- no more is needed than all that the turns give
pub needed_le : (g : Rules) (i : ℕ) (past : List Op) (a n : ℕ) (turns : List Turn) → needed g i past a n turns ≤ length (changes g i (ops_of turns ++ past))
needed_le g i past a n [] = omega arith
needed_le g i past a n (t ∷ earlier) =
    let cs = (g.gives i (ops_of earlier ++ past) t.op).changes in
    elim (((t.actor == a) && nat_lt (length (picked a earlier)) n) && not (is_nil cs)) as (λ b. (if b then length (changes g i (t.op ∷ (ops_of earlier ++ past))) else needed g i past a n earlier) ≤ length (cs ++ changes g i (ops_of earlier ++ past))) [
      | true ↦ le_refl _
      | false ↦ omega (arith, length-append cs (changes g i (ops_of earlier ++ past)), needed_le g i past a n earlier)
    ]

pub front_on : (p : ℕ) (cs h : List Change) → p ≤ length h → front p (cs ++ h) ≡ front p h
front_on p [] h w = refl
front_on p (c ∷ cs) h w = front_more p c (cs ++ h) (omega (arith, length-append cs h)) ∙ front_on p cs h w

module _ (g : Rules) (heads : ℕ → ℕ) (base : ℕ → List Op) (h new_h : ℕ → List Change) (old new : ℕ → List Turn) (a : ℕ) where
  -- replies stay right over longer histories and more turns
  pub answers_on : (all : List Question) (rs : List Reply) → ((t : ℕ) → (cs : List Change) × (new_h t ≡ cs ++ h t)) → ((i n : ℕ) → n ≤ length (picked a (old i)) → needed g i (base i) a n (new i) ≡ needed g i (base i) a n (old i))
      → ((i : ℕ) → AllWithin a i (length (picked a (old i))) all) → Answers g heads base h old a all rs → Answers g heads base new_h new a all rs
  answers_on [] [] grown same w s = tt
  answers_on [] (r ∷ rs) grown same w s = absurd s
  answers_on (q ∷ more) [] grown same w s = absurd s
  answers_on (q ∷ more) (r ∷ rs) grown same w s =
      let more_of = grown q.ask.table in
      let e : front r.at (new_h q.ask.table) ≡ front r.at (h q.ask.table) = ap (front r.at) more_of.1 ∙ front_on r.at more_of.0 (h q.ask.table) s.0.within in (
        record {
          table = s.0.table;
          query = s.0.query;
          within = omega (arith, ap length more_of.1, length-append more_of.0 (h q.ask.table), s.0.within);
          later = s.0.later;
          seen = λ i on. subst (λ f. needed g i (base i) a (length (asked a i q.lines)) (new i) ≤ length (own i f)) (sym e)
              (subst (λ n. n ≤ length (own i (front r.at (h q.ask.table)))) (sym (same i (length (asked a i q.lines)) (w i).0)) (s.0.seen i on));
        },
        answers_on more rs grown same (λ i. (w i).1) s.1,
      )

pub latest_le : (g : Rules) (heads : ℕ → ℕ) (base : ℕ → List Op) (h : ℕ → List Change) (turns : ℕ → List Turn) (a t : ℕ) (all : List Question) (rs : List Reply) → heads t ≤ length (h t) → Answers g heads base h turns a all rs → latest t (heads t) rs ≤ length (h t)
latest_le g heads base h turns a t [] [] low s = low
latest_le g heads base h turns a t [] (r ∷ rs) low s = absurd s
latest_le g heads base h turns a t (q ∷ more) [] low s = absurd s
latest_le g heads base h turns a t (q ∷ more) (r ∷ rs) low s = elim (eqb_tells r.table t) [
  | inl w ↦ subst (λ n. n ≤ length (h t)) (sym (if_true (r.table == t) r.at (latest t (heads t) rs) w.0)) (subst (λ n. r.at ≤ length (h n)) (sym s.0.table ∙ w.1) s.0.within)
  | inr w ↦ subst (λ n. n ≤ length (h t)) (sym (if_false (r.table == t) r.at (latest t (heads t) rs) w.0)) (latest_le g heads base h turns a t more rs low s.1)
]
