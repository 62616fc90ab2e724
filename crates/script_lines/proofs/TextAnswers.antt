-- Each text has an answer, and one alone.
use Rattle.std.proofs.Common.{◌≡◌, ◌∙◌, sym, ap, refl, subst, ℕ, ◌+◌, Bool, true, false, cond, List, [], ◌∷◌, ◌++◌, length, arith, inl, inr, ◌⊎◌, Option, Some, None}
use Rattle.std.proofs.lemmas.Bool.{cases_Bool}
use Rattle.script_lines.specs.declared.named.Named.{Named}
use Rattle.text.specs.Lines.{lines_of}
use Rattle.show_route.specs.declared.query.Query.{Query}
use Rattle.script_lines.specs.declared.script.Condition.{Condition}
use Rattle.script_lines.specs.declared.script.Line.{Line}
use Rattle.script_lines.specs.declared.faults.ScriptKind.{ScriptKind}
use Rattle.script_lines.specs.declared.faults.ScriptKind.TheVariants as why
use Rattle.script_lines.specs.Grammar.{Form, HasForm}
use Rattle.script_lines.specs.Kinds.{has_wrong_actor, has_unknown_name, has_other_family, is_over_limit, is_barred_step, is_actor_too_many, least_kind}
use Rattle.script_lines.specs.Script.{AreForms, IsRefusedAs, IsRefused, IsScript, Answer, Accepted, Refused, Answers, numbered, is_passed, without_comments, with_actor, actors_of, phases_of, queries_of, conditions_of}
use Rattle.script_lines.proofs.Agreement.{OneQuestion, forms_agree}
use Rattle.script_lines.proofs.ScriptLines.{line_passed, line_counted, lines_joined}
use Rattle.script_lines.proofs.ToldLines.{ToldQuestions, form_of}

-- why a line is refused
abbrev IsKindOf : Named → List (List ℕ) → List ℕ → ScriptKind → Type 0
IsKindOf named actors bytes kind = (form : Form) × HasForm bytes form × (least_kind named actors form ≡ Some kind)

abbrev NoForm : List ℕ → Type 0
NoForm bytes = (form : Form) → HasForm bytes form → ⊥

module _ (one_question : OneQuestion) where
  -- lines have one list of forms
  pair_same : (said other : ℕ × Form) → said.0 ≡ other.0 → said.1 ≡ other.1 → said ≡ other
  pair_same said other number form = ap (λ (n : ℕ). (n, said.1)) number ∙ ap (λ (f : Form). (other.0, f)) form

  forms_same : (named : Named) (actors : List (List ℕ)) (lines : List (ℕ × List ℕ)) (a b : List (ℕ × Form)) → AreForms named actors lines a → AreForms named actors lines b → a ≡ b
  forms_same named actors [] [] [] one other = refl
  forms_same named actors [] [] (y ∷ b) one other = absurd other
  forms_same named actors [] (x ∷ a) b one other = absurd one
  forms_same named actors (l ∷ lines) [] b one other = absurd one
  forms_same named actors (l ∷ lines) (x ∷ a) [] one other = absurd other
  forms_same named actors (l ∷ lines) (x ∷ a) (y ∷ b) one other =
      let form = forms_agree one_question l.1 x.1 y.1 one.1 other.1 in
      let first = pair_same x y (one.0 ∙ sym other.0) form in
      let P : Form → Type 0 = λ f. AreForms named (with_actor actors f) lines a in
      ap (λ (s : ℕ × Form). s ∷ a) first ∙ ap (λ (s : List (ℕ × Form)). y ∷ s) (forms_same named (with_actor actors y.1) lines a b (subst P form one.3) other.3)

  -- a line among others that have forms has one, to which no kind applies
  record HasInside (named : Named) (actors : List (List ℕ)) (front : List (ℕ × List ℕ)) (bytes : List ℕ) : Type 0 where
    forms : List (ℕ × Form)
    form : Form
    front_is : AreForms named actors front forms
    form_is : HasForm bytes form
    fine : least_kind named (actors_of actors forms) form ≡ None

  inside_more : (named : Named) (actors : List (List ℕ)) (one : ℕ × List ℕ) (front : List (ℕ × List ℕ)) (bytes : List ℕ) (said : ℕ × Form) → said.0 ≡ one.0 → HasForm one.1 said.1
      → least_kind named actors said.1 ≡ None → HasInside named (with_actor actors said.1) front bytes → HasInside named actors (one ∷ front) bytes
  inside_more named actors one front bytes said number is fine inside =
      record { forms = said ∷ inside.forms; form = inside.form; front_is = (number, is, fine, inside.front_is); form_is = inside.form_is; fine = inside.fine }

  inside : (named : Named) (actors : List (List ℕ)) (front : List (ℕ × List ℕ)) (line : ℕ × List ℕ) (rest : List (ℕ × List ℕ)) (forms : List (ℕ × Form))
      → AreForms named actors (front ++ line ∷ rest) forms → HasInside named actors front line.1
  inside named actors [] line rest [] are = absurd are
  inside named actors [] line rest (said ∷ forms) are = record { forms = []; form = said.1; front_is = tt; form_is = are.1; fine = are.2 }
  inside named actors (one ∷ front) line rest [] are = absurd are
  inside named actors (one ∷ front) line rest (said ∷ forms) are =
      inside_more named actors one front line.1 said are.0 are.1 are.2 (inside named (with_actor actors said.1) front line rest forms are.3)

  inside_lines : (named : Named) (front : List (List ℕ)) (bad : List ℕ) (rest : List (List ℕ)) (forms : List (ℕ × Form))
      → AreForms named [] (without_comments (numbered 1 (front ++ bad ∷ rest))) forms → is_passed bad ≡ false → HasInside named [] (without_comments (numbered 1 front)) bad
  inside_lines named front bad rest forms are counts =
      let number = 1 + length front in
      let whole = lines_joined 1 front (bad ∷ rest)
      ∙ ap (λ (l : List (ℕ × List ℕ)). without_comments (numbered 1 front) ++ l) (line_counted number bad (numbered (number + 1) rest) counts) in
      inside named [] (without_comments (numbered 1 front)) (number, bad) (without_comments (numbered (number + 1) rest)) forms
      (subst (λ (l : List (ℕ × List ℕ)). AreForms named [] l forms) whole are)

  either_way : (named : Named) (actors : List (List ℕ)) (bytes : List ℕ) (kind : ScriptKind) → IsRefusedAs named actors (HasForm bytes) kind → ((kind ≡ why.Syntax) × NoForm bytes) ⊎ IsKindOf named actors bytes kind
  either_way named actors bytes why.Syntax is = inl (refl, is)
  either_way named actors bytes why.UnknownActor is = inr is
  either_way named actors bytes why.UnknownName is = inr is
  either_way named actors bytes why.Nettype is = inr is
  either_way named actors bytes why.AttrLimit is = inr is
  either_way named actors bytes why.ScheduleInRun is = inr is
  either_way named actors bytes why.Actors is = inr is
  either_way named actors bytes why.Expression is = inr is

  none_some : {X : Type 0} (x : X) → None ≡ Some x → ⊥
  none_some x same = cc

  some_same : {X : Type 0} (x y : X) → Some x ≡ Some y → x ≡ y
  some_same x y same = cc

  not_refused : (named : Named) (actors : List (List ℕ)) (bytes : List ℕ) (kind : ScriptKind) (form : Form) → HasForm bytes form → least_kind named actors form ≡ None → IsRefusedAs named actors (HasForm bytes) kind → ⊥
  not_refused named actors bytes kind form is fine refused = elim (either_way named actors bytes kind refused) [
    | inl none ↦ none.1 form is
    | inr other ↦ none_some kind (sym fine ∙ ap (least_kind named actors) (forms_agree one_question bytes form other.0 is other.1) ∙ other.2)
  ]

  kinds_same : (named : Named) (actors : List (List ℕ)) (bytes : List ℕ) (k l : ScriptKind) → IsRefusedAs named actors (HasForm bytes) k → IsRefusedAs named actors (HasForm bytes) l → k ≡ l
  kinds_same named actors bytes k l one other = elim (either_way named actors bytes k one) [
    | inl none ↦
        elim (either_way named actors bytes l other) [
          | inl neither ↦ none.0 ∙ sym neither.0
          | inr is ↦ absurd (none.1 is.0 is.1)
        ]
    | inr is ↦
        elim (either_way named actors bytes l other) [
          | inl none ↦ absurd (none.1 is.0 is.1)
          | inr too ↦ some_same k l (sym is.2 ∙ ap (least_kind named actors) (forms_agree one_question bytes is.0 too.0 is.1 too.1) ∙ too.2)
        ]
  ]

  -- a refused line is none to which no kind applies
  refused_inside : (named : Named) (front : List (List ℕ)) (bad : List ℕ) (kind : ScriptKind) (forms others : List (ℕ × Form)) (form : Form)
      → AreForms named [] (without_comments (numbered 1 front)) forms → IsRefusedAs named (actors_of [] forms) (HasForm bad) kind → AreForms named [] (without_comments (numbered 1 front)) others → HasForm bad form
      → least_kind named (actors_of [] others) form ≡ None → ⊥
  refused_inside named front bad kind forms others form are refused others_are is fine =
      let same = forms_same named [] (without_comments (numbered 1 front)) forms others are others_are in
      let P : List (ℕ × Form) → Type 0 = λ f. IsRefusedAs named (actors_of [] f) (HasForm bad) kind in
      not_refused named (actors_of [] others) bad kind form is fine (subst P same refused)

  -- a text of which a line is refused has no list of forms
  not_both : (named : Named) (text : List ℕ) (number : ℕ) (kind : ScriptKind) (conditions : List Condition) (forms : List (ℕ × Form)) → IsRefused named text number kind conditions
      → AreForms named [] (without_comments (numbered 1 (lines_of text))) forms → ⊥
  not_both named text number kind conditions forms refused are =
      let P : List (List ℕ) → Type 0 = λ l. AreForms named [] (without_comments (numbered 1 l)) forms in
      let found = inside_lines named refused.front refused.bad refused.rest forms (subst P refused.whole are) refused.bad_counts in
      refused_inside named refused.front refused.bad kind refused.forms found.forms found.form refused.front_is refused.bad_is found.front_is found.form_is found.fine

  -- of two fronts of a list one goes on over the other's end, or they are the same
  abbrev Fronts : {X : Type 0} → List X → List X → X → X → Type 0
  Fronts xs ys a b = ((more : List _) × (ys ≡ xs ++ a ∷ more)) ⊎ (((more : List _) × (xs ≡ ys ++ b ∷ more)) ⊎ ((xs ≡ ys) × (a ≡ b)))

  longer : {X : Type 0} (x y : X) (xs ys : List X) (a b : X) → x ≡ y → Fronts xs ys a b → Fronts (x ∷ xs) (y ∷ ys) a b
  longer x y xs ys a b first (inl (more, is)) = inl (more, cc)
  longer x y xs ys a b first (inr (inl (more, is))) = inr (inl (more, cc))
  longer x y xs ys a b first (inr (inr (is, same))) = inr (inr (ap (λ (z : _). z ∷ xs) first ∙ ap (λ (l : List _). y ∷ l) is, same))

  fronts : {X : Type 0} (xs ys : List X) (a b : X) (rest bs : List X) → xs ++ a ∷ rest ≡ ys ++ b ∷ bs → Fronts xs ys a b
  fronts [] [] a b rest bs same =
      let first : a ≡ b = cc in
      inr (inr (refl, first))
  fronts [] (y ∷ ys) a b rest bs same =
      let first : y ≡ a = cc in
      inl (ys, ap (λ (x : _). x ∷ ys) first)
  fronts (x ∷ xs) [] a b rest bs same =
      let first : x ≡ b = cc in
      inr (inl (xs, ap (λ (y : _). y ∷ xs) first))
  fronts (x ∷ xs) (y ∷ ys) a b rest bs same =
      let first : x ≡ y = cc in
      let behind : xs ++ a ∷ rest ≡ ys ++ b ∷ bs = cc in
      longer x y xs ys a b first (fronts xs ys a b rest bs behind)

  -- no refused line stands in the front of another
  none_before : (named : Named) (text : List ℕ) (m n : ℕ) (k l : ScriptKind) (c d : List Condition) (one : IsRefused named text m k c) (other : IsRefused named text n l d) (more : List (List ℕ))
      → other.front ≡ one.front ++ one.bad ∷ more → ⊥
  none_before named text m n k l c d one other more longer =
      let P : List (List ℕ) → Type 0 = λ f. AreForms named [] (without_comments (numbered 1 f)) other.forms in
      let found = inside_lines named one.front one.bad more other.forms (subst P longer other.front_is) one.bad_counts in
      refused_inside named one.front one.bad k one.forms found.forms found.form one.front_is one.bad_is found.front_is found.form_is found.fine

  same_kind : (named : Named) (text : List ℕ) (m n : ℕ) (k l : ScriptKind) (c d : List Condition) (one : IsRefused named text m k c) (other : IsRefused named text n l d) → one.front ≡ other.front → one.bad ≡ other.bad → k ≡ l
  same_kind named text m n k l c d one other front bad =
      let P : List (List ℕ) → Type 0 = λ f. AreForms named [] (without_comments (numbered 1 f)) one.forms in
      let forms = forms_same named [] (without_comments (numbered 1 other.front)) one.forms other.forms (subst P front one.front_is) other.front_is in
      let Q : List (ℕ × Form) → Type 0 = λ f. IsRefusedAs named (actors_of [] f) (HasForm one.bad) k in
      let R : List ℕ → Type 0 = λ w. IsRefusedAs named (actors_of [] other.forms) (HasForm w) k in
      kinds_same named (actors_of [] other.forms) other.bad k l (subst R bad (subst Q forms one.bad_is)) other.bad_is

  same_conditions : (named : Named) (text : List ℕ) (m n : ℕ) (k l : ScriptKind) (c d : List Condition) (one : IsRefused named text m k c) (other : IsRefused named text n l d) → one.front ≡ other.front → c ≡ d
  same_conditions named text m n k l c d one other front =
      let P : List (List ℕ) → Type 0 = λ f. AreForms named [] (without_comments (numbered 1 f)) one.forms in
      let forms = forms_same named [] (without_comments (numbered 1 other.front)) one.forms other.forms (subst P front one.front_is) other.front_is in
      one.conditions_are ∙ ap conditions_of forms ∙ sym other.conditions_are

  refusals_same : (named : Named) (text : List ℕ) (m n : ℕ) (k l : ScriptKind) (c d : List Condition) → IsRefused named text m k c → IsRefused named text n l d → Refused m k c ≡ Refused n l d
  refusals_same named text m n k l c d one other =
      elim (fronts one.front other.front one.bad other.bad one.rest other.rest (sym one.whole ∙ other.whole)) [
        | inl longer ↦ absurd (none_before named text m n k l c d one other longer.0 longer.1)
        | inr (inl longer) ↦ absurd (none_before named text n m l k d c other one longer.0 longer.1)
        | inr (inr same) ↦
            let number : m ≡ n = omega (arith, ap length same.0, one.number_is, other.number_is) in
            let kind = same_kind named text m n k l c d one other same.0 same.1 in
            let conditions = same_conditions named text m n k l c d one other same.0 in
            ap (λ (x : ℕ). Refused x k c) number ∙ ap (λ (x : ScriptKind). Refused n x c) kind ∙ ap (λ (x : List Condition). Refused n l x) conditions
      ]

  scripts_same : (named : Named) (text : List ℕ) (p q : List (List Line)) (a b : List (List ℕ)) (f g : List Query) (c d : List Condition) → IsScript named text p a f c → IsScript named text q b g d
      → Accepted p a f c ≡ Accepted q b g d
  scripts_same named text p q a b f g c d one other =
      let forms = forms_same named [] (without_comments (numbered 1 (lines_of text))) one.forms other.forms one.forms_are other.forms_are in
      let phases : p ≡ q = one.phases_are ∙ ap (phases_of named [] 0) forms ∙ sym other.phases_are in
      let actors : a ≡ b = one.actors_are ∙ ap (actors_of []) forms ∙ sym other.actors_are in
      let queries : f ≡ g = one.queries_are ∙ ap (queries_of named 0) forms ∙ sym other.queries_are in
      let conditions : c ≡ d = one.conditions_are ∙ ap conditions_of forms ∙ sym other.conditions_are in
      ap (λ (x : List (List Line)). Accepted x a f c) phases ∙ ap (λ (x : List (List ℕ)). Accepted q x f c) actors ∙ ap (λ (x : List Query). Accepted q b x c) queries
      ∙ ap (λ (x : List Condition). Accepted q b g x) conditions

  pub one_answer : (named : Named) (text : List ℕ) (a b : Answer) → Answers named text a → Answers named text b → a ≡ b
  one_answer named text (Accepted p a f c) (Accepted q b g d) one other = scripts_same named text p q a b f g c d one other
  one_answer named text (Accepted p a f c) (Refused n l d) one other = absurd (not_both named text n l d one.forms other one.forms_are)
  one_answer named text (Refused m k c) (Accepted q b g d) one other = absurd (not_both named text m k c other.forms one other.forms_are)
  one_answer named text (Refused m k c) (Refused n l d) one other = refusals_same named text m n k l c d one other

-- The first of these lines, numbered from this number on, that is refused.
record IsFirstBad (named : Named) (actors : List (List ℕ)) (number : ℕ) (all : List (List ℕ)) : Type 0 where
  front : List (List ℕ)
  bad : List ℕ
  rest : List (List ℕ)
  forms : List (ℕ × Form)
  kind : ScriptKind
  whole : all ≡ front ++ bad ∷ rest
  front_is : AreForms named actors (without_comments (numbered number front)) forms
  bad_is : IsRefusedAs named (actors_of actors forms) (HasForm bad) kind
  bad_counts : is_passed bad ≡ false

abbrev IsAnyForms : Named → List (List ℕ) → ℕ → List (List ℕ) → Type 0
IsAnyForms named actors number all = (forms : List (ℕ × Form)) × AreForms named actors (without_comments (numbered number all)) forms

bad_here : (named : Named) (actors : List (List ℕ)) (number : ℕ) (bytes : List ℕ) (more : List (List ℕ)) (kind : ScriptKind) → is_passed bytes ≡ false
    → IsRefusedAs named actors (HasForm bytes) kind → IsFirstBad named actors number (bytes ∷ more)
bad_here named actors number bytes more kind counts is =
    record { front = []; bad = bytes; rest = more; forms = []; kind = kind; whole = refl; front_is = tt; bad_is = is; bad_counts = counts }

bad_passed : (named : Named) (actors : List (List ℕ)) (number : ℕ) (bytes : List ℕ) (more : List (List ℕ)) → is_passed bytes ≡ true → IsFirstBad named actors (number + 1) more
    → IsFirstBad named actors number (bytes ∷ more)
bad_passed named actors number bytes more passed bad = record {
  front = bytes ∷ bad.front;
  bad = bad.bad;
  rest = bad.rest;
  forms = bad.forms;
  kind = bad.kind;
  whole = ap (λ (l : List (List ℕ)). bytes ∷ l) bad.whole;
  front_is = subst (λ (l : List (ℕ × List ℕ)). AreForms named actors l bad.forms) (sym (line_passed number bytes (numbered (number + 1) bad.front) passed)) bad.front_is;
  bad_is = bad.bad_is;
  bad_counts = bad.bad_counts;
}

bad_further : (named : Named) (actors : List (List ℕ)) (number : ℕ) (bytes : List ℕ) (more : List (List ℕ)) (form : Form) → is_passed bytes ≡ false → HasForm bytes form
    → least_kind named actors form ≡ None → IsFirstBad named (with_actor actors form) (number + 1) more → IsFirstBad named actors number (bytes ∷ more)
bad_further named actors number bytes more form counts is fine bad = record {
  front = bytes ∷ bad.front;
  bad = bad.bad;
  rest = bad.rest;
  forms = (number, form) ∷ bad.forms;
  kind = bad.kind;
  whole = ap (λ (l : List (List ℕ)). bytes ∷ l) bad.whole;
  front_is = subst (λ (l : List (ℕ × List ℕ)). AreForms named actors l ((number, form) ∷ bad.forms)) (sym (line_counted number bytes (numbered (number + 1) bad.front) counts))
      (refl, is, fine, bad.front_is);
  bad_is = bad.bad_is;
  bad_counts = bad.bad_counts;
}

-- no form is refused as none
chain : Bool → Bool → Bool → Bool → Bool → Bool → Option ScriptKind
chain a b c d e f =
    cond a (Some why.UnknownActor) (cond b (Some why.UnknownName) (cond c (Some why.Nettype) (cond d (Some why.AttrLimit) (cond e (Some why.ScheduleInRun) (cond f (Some why.Actors) None)))))

chain_not : (a b c d e f : Bool) → chain a b c d e f ≡ Some why.Syntax → ⊥
unfolding chain
chain_not true b c d e f is = cc
chain_not false true c d e f is = cc
chain_not false false true d e f is = cc
chain_not false false false true e f is = cc
chain_not false false false false true f is = cc
chain_not false false false false false true is = cc
chain_not false false false false false false is = cc

chain_no_expression : (a b c d e f : Bool) → chain a b c d e f ≡ Some why.Expression → ⊥
unfolding chain
chain_no_expression true b c d e f is = cc
chain_no_expression false true c d e f is = cc
chain_no_expression false false true d e f is = cc
chain_no_expression false false false true e f is = cc
chain_no_expression false false false false true f is = cc
chain_no_expression false false false false false true is = cc
chain_no_expression false false false false false false is = cc

never_syntax : (named : Named) (actors : List (List ℕ)) (form : Form) → least_kind named actors form ≡ Some why.Syntax → ⊥
unfolding chain
never_syntax named actors form is =
    chain_not (has_wrong_actor named form) (has_unknown_name named form) (has_other_family named form) (is_over_limit form) (is_barred_step named form) (is_actor_too_many actors form) is

refused_form : (named : Named) (actors : List (List ℕ)) (bytes : List ℕ) (kind : ScriptKind) → IsKindOf named actors bytes kind → IsRefusedAs named actors (HasForm bytes) kind
refused_form named actors bytes why.Syntax is = absurd (never_syntax named actors is.0 is.2)
refused_form named actors bytes why.UnknownActor is = is
refused_form named actors bytes why.UnknownName is = is
refused_form named actors bytes why.Nettype is = is
refused_form named actors bytes why.AttrLimit is = is
refused_form named actors bytes why.ScheduleInRun is = is
refused_form named actors bytes why.Actors is = is
refused_form named actors bytes why.Expression is = is

-- no line is refused for its condition
never_expression : (named : Named) (actors : List (List ℕ)) (form : Form) → least_kind named actors form ≡ Some why.Expression → ⊥
unfolding chain
never_expression named actors form is =
    chain_no_expression (has_wrong_actor named form) (has_unknown_name named form) (has_other_family named form) (is_over_limit form) (is_barred_step named form) (is_actor_too_many actors form) is

pub no_expression : (named : Named) (text : List ℕ) (number : ℕ) (conditions : List Condition) → IsRefused named text number why.Expression conditions → ⊥
no_expression named text number conditions is = never_expression named (actors_of [] is.forms) is.bad_is.0 is.bad_is.2

module _ (told : ToldQuestions) where
  -- what is told of a line, and of those behind it
  abbrev Line_of : Named → List (List ℕ) → List ℕ → Type 0
  Line_of named actors bytes = ((form : Form) × HasForm bytes form × (least_kind named actors form ≡ None)) ⊎ ((kind : ScriptKind) × IsRefusedAs named actors (HasForm bytes) kind)

  judged : (named : Named) (actors : List (List ℕ)) (bytes : List ℕ) (form : Form) → HasForm bytes form → (kind : Option ScriptKind) → least_kind named actors form ≡ kind → Line_of named actors bytes
  judged named actors bytes form is None kind = inl (form, is, kind)
  judged named actors bytes form is (Some k) kind = inr (k, refused_form named actors bytes k (form, is, kind))

  line_of : (named : Named) (actors : List (List ℕ)) (bytes : List ℕ) → Line_of named actors bytes
  line_of named actors bytes = elim (form_of told bytes) [
    | inl is ↦ judged named actors bytes is.0 is.1 (least_kind named actors is.0) refl
    | inr none ↦ inr (why.Syntax, none)
  ]

  forms_or_bad : (named : Named) (actors : List (List ℕ)) (number : ℕ) (all : List (List ℕ)) → IsAnyForms named actors number all ⊎ IsFirstBad named actors number all
  forms_or_bad named actors number [] = inl ([], tt)
  forms_or_bad named actors number (bytes ∷ more) = elim (cases_Bool (is_passed bytes)) [
    | inl passed ↦
        elim (forms_or_bad named actors (number + 1) more) [
          | inl are ↦ inl (are.0, subst (λ (l : List (ℕ × List ℕ)). AreForms named actors l are.0) (sym (line_passed number bytes (numbered (number + 1) more) passed)) are.1)
          | inr bad ↦ inr (bad_passed named actors number bytes more passed bad)
        ]
    | inr counts ↦
        elim (line_of named actors bytes) [
          | inl line ↦
              elim (forms_or_bad named (with_actor actors line.0) (number + 1) more) [
                | inl are ↦
                    inl (
                      (number, line.0) ∷ are.0,
                      subst (λ (l : List (ℕ × List ℕ)). AreForms named actors l ((number, line.0) ∷ are.0)) (sym (line_counted number bytes (numbered (number + 1) more) counts))
                          (refl, line.1, line.2, are.1),
                    )
                | inr bad ↦ inr (bad_further named actors number bytes more line.0 counts line.1 line.2 bad)
              ]
          | inr refused ↦ inr (bad_here named actors number bytes more refused.0 counts refused.1)
        ]
  ]

  refused_of : (named : Named) (text : List ℕ) (bad : IsFirstBad named [] 1 (lines_of text)) → IsRefused named text (length bad.front + 1) bad.kind (conditions_of bad.forms)
  refused_of named text bad = record {
    front = bad.front;
    bad = bad.bad;
    rest = bad.rest;
    forms = bad.forms;
    whole = bad.whole;
    front_is = bad.front_is;
    bad_counts = bad.bad_counts;
    bad_is = bad.bad_is;
    number_is = refl;
    conditions_are = refl;
  }

  pub some_answer : (named : Named) (text : List ℕ) → (answer : Answer) × Answers named text answer
  some_answer named text = elim (forms_or_bad named [] 1 (lines_of text)) [
    | inl are ↦ (
      Accepted (phases_of named [] 0 are.0) (actors_of [] are.0) (queries_of named 0 are.0) (conditions_of are.0),
      record { forms = are.0; forms_are = are.1; phases_are = refl; actors_are = refl; queries_are = refl; conditions_are = refl },
    )
    | inr bad ↦ (Refused (length bad.front + 1) bad.kind (conditions_of bad.forms), refused_of named text bad)
  ]
