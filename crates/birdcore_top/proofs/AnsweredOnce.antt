-- A text is a script over a system or is refused, and not two of these.
use Rattle.std.proofs.Common.{◌≡◌, ◌⊎◌, ◌∙◌, sym, ap, subst, refl, ℕ, Bool, ◌<◌, ◌≤◌, ◌-◌, ◌^◌, List, [], ◌∷◌, ◌++◌, length, arith, inl, inr}
use Rattle.std.specs.List.{All}
use Rattle.std.proofs.lemmas.List.Elements.{All-head, All-tail}
use Rattle.show_route.specs.declared.query.Query.{Query}
use Rattle.script_lines.specs.Script as lines
use Rattle.script_lines.specs.declared.faults.ScriptKind.{ScriptKind}
use Rattle.script_lines.specs.declared.faults.ScriptKind.TheVariants.{Expression}
use Rattle.script_lines.specs.declared.named.Named.{Named}
use Rattle.script_lines.specs.declared.script.Condition.{Condition}
use Rattle.script_lines.specs.declared.script.Line.{Line}
use Rattle.sys_build.specs.Names.{named_of}
use Rattle.sys_build.specs.Scripts.{Accepted, Answer, Answers, AreAsked, IsFirstRefused, IsRefusedByCondition, IsRefusedByWords, IsRefusedOf, IsScriptOf, Refused, conditions_in}
use Rattle.conf_system.specs.Conditions.{IsCondition, RefusesCondition}
use Rattle.conf_system.specs.Policies.{Filter}
use Rattle.conf_system.specs.System.{System}

-- the answer of a text, by that of its lines and by what its conditions ask for
abbrev with_filters : lines.Answer → List Filter → Answer
with_filters (lines.Accepted phases actors queries conditions) filters = Accepted phases actors queries filters
with_filters (lines.Refused number kind conditions) filters = Refused number kind

accepted_or_not : (phases : List (List Line)) (actors : List (List ℕ)) (queries : List Query) (conditions others : List Condition) (number : ℕ) (kind : ScriptKind)
    → lines.Accepted phases actors queries conditions ≡ lines.Refused number kind others → ⊥
accepted_or_not phases actors queries conditions others number kind same = cc

-- It follows from the laws of lines and of conditions.
module _ (one_answer : (named : Named) (text : List ℕ) (a b : lines.Answer) → lines.Answers named text a → lines.Answers named text b → a ≡ b)
    (one_filter : (system : System) (text : List ℕ) (f g : Filter) → IsCondition system text f → IsCondition system text g → f ≡ g)
    (not_both : (system : System) (text : List ℕ) (f : Filter) → IsCondition system text f → RefusesCondition system text → ⊥) where
  -- ---- conditions

  filters_agree : (system : System) (conditions : List Condition) (fs gs : List Filter) → AreAsked system conditions fs → AreAsked system conditions gs → fs ≡ gs
  filters_agree system [] [] [] one two = refl
  filters_agree system [] (f ∷ fs) gs one two = absurd one
  filters_agree system [] [] (g ∷ gs) one two = absurd two
  filters_agree system (c ∷ more) [] gs one two = absurd one
  filters_agree system (c ∷ more) (f ∷ fs) [] one two = absurd two
  filters_agree system (c ∷ more) (f ∷ fs) (g ∷ gs) one two =
      ap (λ (h : Filter). h ∷ fs) (one_filter system c.text f g one.0 two.0) ∙ ap (λ (l : List Filter). g ∷ l) (filters_agree system more fs gs one.1 two.1)

  -- a condition behind a front of others isn't refused where all ask for something
  behind_front : (system : System) (front : List Condition) (bad : Condition) (rest : List Condition) (filters : List Filter) → AreAsked system (front ++ bad ∷ rest) filters → RefusesCondition system bad.text → ⊥
  behind_front system [] bad rest [] are refused = absurd are
  behind_front system [] bad rest (f ∷ fs) are refused = not_both system bad.text f are.0 refused
  behind_front system (c ∷ front) bad rest [] are refused = absurd are
  behind_front system (c ∷ front) bad rest (f ∷ fs) are refused = behind_front system front bad rest fs are.1 refused

  asked_or_refused : (system : System) (conditions : List Condition) (filters : List Filter) (line : ℕ) → AreAsked system conditions filters → IsFirstRefused system conditions line → ⊥
  asked_or_refused system conditions filters line are first =
      behind_front system first.front first.bad first.rest filters (subst (λ (l : List Condition). AreAsked system l filters) first.whole are) first.bad_is

  -- one of those before the first refused condition isn't refused
  first_or_before : (system : System) (c bad : Condition) (front : List Condition) (filters : List Filter) → c ≡ bad → AreAsked system (c ∷ front) filters → RefusesCondition system bad.text → ⊥
  first_or_before system c bad front [] same are refused = absurd are
  first_or_before system c bad front (f ∷ fs) same are refused = not_both system bad.text f (subst (λ (d : Condition). IsCondition system d.text f) same are.0) refused

  fronts_agree : (system : System) (front other : List Condition) (bad worse : Condition) (rest more : List Condition) (fs gs : List Filter) → front ++ bad ∷ rest ≡ other ++ worse ∷ more
      → AreAsked system front fs → AreAsked system other gs → RefusesCondition system bad.text → RefusesCondition system worse.text → bad ≡ worse
  fronts_agree system [] [] bad worse rest more fs gs same one two refused again = let head : bad ≡ worse = cc in head
  fronts_agree system [] (d ∷ other) bad worse rest more fs gs same one two refused again =
      let head : d ≡ bad = cc in absurd (first_or_before system d bad other gs head two refused)
  fronts_agree system (c ∷ front) [] bad worse rest more fs gs same one two refused again =
      let head : c ≡ worse = cc in absurd (first_or_before system c worse front fs head one again)
  fronts_agree system (c ∷ front) (d ∷ other) bad worse rest more [] gs same one two refused again = absurd one
  fronts_agree system (c ∷ front) (d ∷ other) bad worse rest more (f ∷ fs) [] same one two refused again = absurd two
  fronts_agree system (c ∷ front) (d ∷ other) bad worse rest more (f ∷ fs) (g ∷ gs) same one two refused again =
      let tail : front ++ bad ∷ rest ≡ other ++ worse ∷ more = cc in fronts_agree system front other bad worse rest more fs gs tail one.1 two.1 refused again

  firsts_agree : (system : System) (conditions : List Condition) (line other : ℕ) → IsFirstRefused system conditions line → IsFirstRefused system conditions other → line ≡ other
  firsts_agree system conditions line other one two =
      one.line_is
      ∙ ap (λ (c : Condition). c.line) (fronts_agree system one.front two.front one.bad two.bad one.rest two.rest one.filters two.filters (sym one.whole ∙ two.whole) one.front_are two.front_are one.bad_is two.bad_is)
      ∙ sym two.line_is

  -- ---- answers

  scripts_agree : (system : System) (schedule : Bool) (text : List ℕ) (p r : List (List Line)) (a b : List (List ℕ)) (q s : List Query) (fs gs : List Filter) → IsScriptOf system schedule text p a q fs → IsScriptOf system schedule text r b s gs
      → Accepted p a q fs ≡ Accepted r b s gs
  scripts_agree system schedule text p r a b q s fs gs one two =
      let same = one_answer (named_of system schedule) text (lines.Accepted p a q one.conditions) (lines.Accepted r b s two.conditions) one.lines_are two.lines_are in
      let conditions : one.conditions ≡ two.conditions = ap conditions_in same in
      let filters = filters_agree system two.conditions fs gs (subst (λ (l : List Condition). AreAsked system l fs) conditions one.asked) two.asked in
      ap (λ (answer : lines.Answer). with_filters answer fs) same ∙ ap (λ (l : List Filter). Accepted r b s l) filters

  script_or_words : (system : System) (schedule : Bool) (text : List ℕ) (p : List (List Line)) (a : List (List ℕ)) (q : List Query) (fs : List Filter) (line : ℕ) (kind : ScriptKind) → IsScriptOf system schedule text p a q fs → IsRefusedByWords system schedule text line kind → ⊥
  script_or_words system schedule text p a q fs line kind is refused =
      accepted_or_not p a q is.conditions refused.conditions line kind
      (one_answer (named_of system schedule) text (lines.Accepted p a q is.conditions) (lines.Refused line kind refused.conditions) is.lines_are refused.lines_are)

  -- conditions that ask for something aren't refused, whatever the lines come to
  none_refused : (system : System) (schedule : Bool) (text : List ℕ) (answer : lines.Answer) (filters : List Filter) (line : ℕ) → lines.Answers (named_of system schedule) text answer → AreAsked system (conditions_in answer) filters
      → IsRefusedByCondition system schedule text line → ⊥
  none_refused system schedule text answer filters line is asked refused =
      let same : answer ≡ refused.answer = one_answer (named_of system schedule) text answer refused.answer is refused.lines_are in
      asked_or_refused system (conditions_in refused.answer) filters line (subst (λ (x : lines.Answer). AreAsked system (conditions_in x) filters) same asked) refused.first

  script_or_refused : (system : System) (schedule : Bool) (text : List ℕ) (p : List (List Line)) (a : List (List ℕ)) (q : List Query) (fs : List Filter) (line : ℕ) (kind : ScriptKind) → IsScriptOf system schedule text p a q fs → IsRefusedOf system schedule text line kind → ⊥
  script_or_refused system schedule text p a q fs line kind is (inl words) = script_or_words system schedule text p a q fs line kind is words
  script_or_refused system schedule text p a q fs line kind is (inr condition) = none_refused system schedule text (lines.Accepted p a q is.conditions) fs line is.lines_are is.asked condition.1

  words_agree : (system : System) (schedule : Bool) (text : List ℕ) (line other : ℕ) (kind why : ScriptKind) → IsRefusedByWords system schedule text line kind → IsRefusedByWords system schedule text other why → Refused line kind ≡ Refused other why
  words_agree system schedule text line other kind why one two =
      ap (λ (answer : lines.Answer). with_filters answer [])
      (one_answer (named_of system schedule) text (lines.Refused line kind one.conditions) (lines.Refused other why two.conditions) one.lines_are two.lines_are)

  words_or_condition : (system : System) (schedule : Bool) (text : List ℕ) (line other : ℕ) (kind : ScriptKind) → IsRefusedByWords system schedule text line kind → IsRefusedByCondition system schedule text other → ⊥
  words_or_condition system schedule text line other kind words condition =
      none_refused system schedule text (lines.Refused line kind words.conditions) words.filters other words.lines_are words.asked condition

  lines_agree : (system : System) (schedule : Bool) (text : List ℕ) (line other : ℕ) → IsRefusedByCondition system schedule text line → IsRefusedByCondition system schedule text other → line ≡ other
  lines_agree system schedule text line other one two =
      let same : one.answer ≡ two.answer = one_answer (named_of system schedule) text one.answer two.answer one.lines_are two.lines_are in
      firsts_agree system (conditions_in two.answer) line other (subst (λ (x : lines.Answer). IsFirstRefused system (conditions_in x) line) same one.first) two.first

  refusals_agree : (system : System) (schedule : Bool) (text : List ℕ) (line other : ℕ) (kind why : ScriptKind) → IsRefusedOf system schedule text line kind → IsRefusedOf system schedule text other why → Refused line kind ≡ Refused other why
  refusals_agree system schedule text line other kind why (inl one) (inl two) = words_agree system schedule text line other kind why one two
  refusals_agree system schedule text line other kind why (inl one) (inr two) = absurd (words_or_condition system schedule text line other kind one two.1)
  refusals_agree system schedule text line other kind why (inr one) (inl two) = absurd (words_or_condition system schedule text other line why two one.1)
  refusals_agree system schedule text line other kind why (inr one) (inr two) =
      ap (λ (n : ℕ). Refused n kind) (lines_agree system schedule text line other one.1 two.1) ∙ ap (λ (k : ScriptKind). Refused other k) (one.0 ∙ sym two.0)

  pub answers_agree : (system : System) (schedule : Bool) (text : List ℕ) (a b : Answer) → Answers system schedule text a → Answers system schedule text b → a ≡ b
  answers_agree system schedule text (Accepted p a q fs) (Accepted r b s gs) one two = scripts_agree system schedule text p r a b q s fs gs one two
  answers_agree system schedule text (Accepted p a q fs) (Refused line kind) one two = absurd (script_or_refused system schedule text p a q fs line kind one two)
  answers_agree system schedule text (Refused line kind) (Accepted p a q fs) one two = absurd (script_or_refused system schedule text p a q fs line kind two one)
  answers_agree system schedule text (Refused line kind) (Refused other why) one two = refusals_agree system schedule text line other kind why one two

-- ---- each text has an answer

-- these conditions ask for something, or one is the first that is refused
abbrev AreTold : System → List Condition → Type 0
AreTold system conditions = ((filters : List Filter) × AreAsked system conditions filters) ⊎ ((line : ℕ) × IsFirstRefused system conditions line)

one_before : (system : System) (c : Condition) (f : Filter) (more : List Condition) (line : ℕ) → IsCondition system c.text f → IsFirstRefused system more line → IsFirstRefused system (c ∷ more) line
one_before system c f more line is first = record {
  front = c ∷ first.front;
  filters = f ∷ first.filters;
  bad = first.bad;
  rest = first.rest;
  whole = ap (λ (l : List Condition). c ∷ l) first.whole;
  front_are = (is, first.front_are);
  bad_is = first.bad_is;
  line_is = first.line_is;
}

at_once : (system : System) (c : Condition) (more : List Condition) → RefusesCondition system c.text → IsFirstRefused system (c ∷ more) c.line
at_once system c more refused = record {
  front = [];
  filters = [];
  bad = c;
  rest = more;
  whole = refl;
  front_are = tt;
  bad_is = refused;
  line_is = refl;
}

abbrev IsShort : Condition → Type 0
IsShort c = length c.text < 2 ^ 32 - 1

module _ (each_condition : (system : System) (text : List ℕ) → length text < 2 ^ 32 - 1 → ((f : Filter) × IsCondition system text f) ⊎ RefusesCondition system text) where
  one_more : (system : System) (c : Condition) (more : List Condition) (f : Filter) → IsCondition system c.text f → AreTold system more → AreTold system (c ∷ more)
  one_more system c more f is (inl asked) = inl (f ∷ asked.0, (is, asked.1))
  one_more system c more f is (inr first) = inr (first.0, one_before system c f more first.0 is first.1)

  conditions_told : (system : System) (conditions : List Condition) → All IsShort conditions → AreTold system conditions
  conditions_told system [] all = inl ([], tt)
  conditions_told system (c ∷ more) all = elim (each_condition system c.text (All-head IsShort c more all)) [
    | inl f ↦ one_more system c more f.0 f.1 (conditions_told system more (All-tail IsShort c more all))
    | inr refused ↦ inr (c.line, at_once system c more refused)
  ]

  accepted_told : (system : System) (schedule : Bool) (text : List ℕ) (p : List (List Line)) (a : List (List ℕ)) (q : List Query) (conditions : List Condition) → lines.Answers (named_of system schedule) text (lines.Accepted p a q conditions)
      → AreTold system conditions → (answer : Answer) × Answers system schedule text answer
  accepted_told system schedule text p a q conditions is (inl asked) = (Accepted p a q asked.0, record { conditions = conditions; lines_are = is; asked = asked.1 })
  accepted_told system schedule text p a q conditions is (inr first) =
      (Refused first.0 Expression, inr (refl, record { answer = lines.Accepted p a q conditions; lines_are = is; first = first.1 }))

  refused_told : (system : System) (schedule : Bool) (text : List ℕ) (number : ℕ) (kind : ScriptKind) (conditions : List Condition) → lines.Answers (named_of system schedule) text (lines.Refused number kind conditions)
      → AreTold system conditions → (answer : Answer) × Answers system schedule text answer
  refused_told system schedule text number kind conditions is (inl asked) =
      (Refused number kind, inl (record { conditions = conditions; filters = asked.0; lines_are = is; asked = asked.1 }))
  refused_told system schedule text number kind conditions is (inr first) =
      (Refused first.0 Expression, inr (refl, record { answer = lines.Refused number kind conditions; lines_are = is; first = first.1 }))

-- no condition is longer than the text
short_parts : (text : List ℕ) (conditions : List Condition) → length text < 2 ^ 32 - 1 → All (λ (c : Condition). length c.text ≤ length text) conditions → All IsShort conditions
short_parts text conditions short all = λ k d below. omega (arith, short, all k d below)

module _ (each_answer : (named : Named) (text : List ℕ) → (answer : lines.Answer) × lines.Answers named text answer)
    (parts : (named : Named) (text : List ℕ) (p : List (List Line)) (a : List (List ℕ)) (q : List Query) (conditions : List Condition) → lines.IsScript named text p a q conditions → All (λ (c : Condition). length c.text ≤ length text) conditions)
    (parts_before : (named : Named) (text : List ℕ) (number : ℕ) (kind : ScriptKind) (conditions : List Condition) → lines.IsRefused named text number kind conditions → All (λ (c : Condition). length c.text ≤ length text) conditions)
    (each_condition : (system : System) (text : List ℕ) → length text < 2 ^ 32 - 1 → ((f : Filter) × IsCondition system text f) ⊎ RefusesCondition system text) where
  by_lines : (system : System) (schedule : Bool) (text : List ℕ) → length text < 2 ^ 32 - 1 → (answer : lines.Answer) → lines.Answers (named_of system schedule) text answer → (found : Answer) × Answers system schedule text found
  by_lines system schedule text short (lines.Accepted p a q conditions) is =
      accepted_told each_condition system schedule text p a q conditions is
      (conditions_told each_condition system conditions (short_parts text conditions short (parts (named_of system schedule) text p a q conditions is)))
  by_lines system schedule text short (lines.Refused number kind conditions) is =
      refused_told each_condition system schedule text number kind conditions is
      (conditions_told each_condition system conditions (short_parts text conditions short (parts_before (named_of system schedule) text number kind conditions is)))

  pub answer_told : (system : System) (schedule : Bool) (text : List ℕ) → length text < 2 ^ 32 - 1 → (answer : Answer) × Answers system schedule text answer
  answer_told system schedule text short = let found = each_answer (named_of system schedule) text in by_lines system schedule text short found.0 found.1
