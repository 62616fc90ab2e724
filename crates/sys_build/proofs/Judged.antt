-- What is judged of conditions, one after another, and of a text by its lines and its conditions.
use Rattle.std.proofs.Common.{◌≡◌, ◌∙◌, sym, ap, subst, ℕ, Bool, zero, suc, ◌+◌, ◌^◌, ◌<◌, ◌≤◌, All, List, [], ◌∷◌, ◌++◌, length, map, take, drop, get_or, Result, Ok, Err, arith, inl, inr}
use Rattle.std.specs.Prelude.{IfOk, IsErrAnd, MatchResult}
use Rattle.std.proofs.lemmas.List.{map-append, take_all, take_more}
use Rattle.std.proofs.lemmas.List.Elements.{All-push}
use Rattle.script_lines.specs.Script as lines
use Rattle.script_lines.specs.declared.faults.ScriptKind.{ScriptKind}
use Rattle.script_lines.specs.declared.script.Condition.{Condition}
use Rattle.sys_build.specs.Names.{named_of}
use Rattle.sys_build.specs.Scripts.{AreAsked, IsRefusedOf, Tells, TellsFirst, TellsOne, conditions_in}
use Rattle.sys_build.specs.declared.scripts.ReadFault.{ReadFault}
use Rattle.sys_build.specs.declared.scripts.ReadFault.TheVariants as faults
use Rattle.conf_system.specs.Conditions.{IsCondition}
use Rattle.conf_system.specs.Policies.{Filter}
use Rattle.conf_system.specs.System.{System}

asked_push : (system : System) (cs : List Condition) (fs : List Filter) (c : Condition) (f : Filter) → AreAsked system cs fs → IsCondition system c.text f → AreAsked system (cs ++ c ∷ []) (fs ++ f ∷ [])
asked_push system [] [] c f are is = (is, tt)
asked_push system [] (g ∷ fs) c f are is = absurd are
asked_push system (d ∷ cs) [] c f are is = absurd are
asked_push system (d ∷ cs) (g ∷ fs) c f are is = (are.0, asked_push system cs fs c f are.1 is)

-- one condition more
pub judged_turn : {T : Type 0} (system : System) (says : T → Filter) (cs : List Condition) (i : ℕ) (c : Condition) (old new : List T) (f : T) → i < length cs → c ≡ get_or cs i c → AreAsked system (take i cs) (map says old)
    → new ≡ old ++ f ∷ [] → IsCondition system c.text (says f) → AreAsked system (take (i + 1) cs) (map says new)
judged_turn system says cs i c old new f below is so_far pushed asked =
    let cs_are : take i cs ++ c ∷ [] ≡ take (i + 1) cs = sym (take_more cs i c below ∙ ap (λ (y : Condition). take i cs ++ y ∷ []) (sym is)) in
    let fs_are : map says old ++ says f ∷ [] ≡ map says new = sym (ap (λ (l : List _). map says l) pushed ∙ map-append says old (f ∷ [])) in
    subst (λ (l : List Filter). AreAsked system (take (i + 1) cs) l) fs_are
    (subst (λ (l : List Condition). AreAsked system l (map says old ++ says f ∷ [])) cs_are
    (asked_push system (take i cs) (map says old) c (says f) so_far asked))

pub judged_all : {T : Type 0} (system : System) (says : T → Filter) (cs : List Condition) (i : ℕ) (fs : List T) → length cs ≤ i → AreAsked system (take i cs) (map says fs) → AreAsked system cs (map says fs)
judged_all system says cs i fs past are = subst (λ (l : List Condition). AreAsked system l (map says fs)) (take_all i cs past) are

-- a list around one of its items
around : (cs : List Condition) (i : ℕ) (c : Condition) → i < length cs → c ≡ get_or cs i c → cs ≡ take i cs ++ c ∷ drop (i + 1) cs
around [] i c below is = absurd (omega (arith, below))
around (d ∷ cs) zero c below is = ap (λ (x : Condition). x ∷ cs) (sym is)
around (d ∷ cs) (suc i) c below is =
    let same : suc (i + 1) ≡ suc i + 1 = omega arith in
    ap (λ (l : List Condition). d ∷ l) (around cs i c (omega (arith, below)) is)
    ∙ ap (λ (n : ℕ). d ∷ (take i cs ++ c ∷ drop n (d ∷ cs))) same

pub first_refused : (system : System) (cs : List Condition) (i : ℕ) (c : Condition) (filters : List Filter) (fault : ReadFault) → i < length cs → c ≡ get_or cs i c → AreAsked system (take i cs) filters
    → TellsOne system c fault → TellsFirst system cs fault
first_refused system cs i c filters (faults.Refused line kind) below is asked told = (
  told.0,
  record {
    front = take i cs;
    filters = filters;
    bad = c;
    rest = drop (i + 1) cs;
    whole = around cs i c below is;
    front_are = asked;
    bad_is = told.1;
    line_is = told.2;
  },
)
first_refused system cs i c filters faults.Memory below is asked told = tt

-- a fault that is handed on is the same
pub handed_on : {T : Type 0} (r : Result T ReadFault) (fault : ReadFault) (P : T → Type 0) (Q : ReadFault → Type 0) → IsErrAnd r (λ e. e ≡ fault) → Q fault → MatchResult r P Q
handed_on (Ok x) fault P Q same is = absurd same
handed_on (Err e) fault P Q same is = subst Q (sym same) is

-- so nothing is there
pub none_handed : {T : Type 0} (r : Result T ReadFault) (P : T → Type 0) (Q : ReadFault → Type 0) → IsErrAnd r Q → IfOk r P
none_handed (Ok x) P Q is = absurd is
none_handed (Err e) P Q is = tt

-- ---- what holds of each

pub none_before : {T : Type 0} (P : T → Type 0) (xs : List T) → xs ≡ [] → All P xs
none_before P xs none = λ k d below. absurd (omega (arith, below, ap (λ (l : List _). length l) none))

pub none_asked : {T : Type 0} (system : System) (says : T → Filter) (xs : List T) → xs ≡ [] → AreAsked system [] (map says xs)
none_asked system says xs none = subst (λ (l : List _). AreAsked system [] (map says l)) (sym none) tt

pub one_before : {T : Type 0} (P : T → Type 0) (old new : List T) (x : T) → new ≡ old ++ x ∷ [] → All P old → P x → All P new
one_before P old new x pushed all is = subst (λ (l : List _). All P l) (sym pushed) (All-push P old x all is)

-- ---- texts

-- conditions no longer than a text that can be read can be read
pub are_short : (text : List ℕ) (found conditions : List Condition) → length text < 2 ^ 32 → found ≡ conditions → All (λ (c : Condition). length c.text ≤ length text) conditions → All (λ (c : Condition). length c.text < 2 ^ 32) found
are_short text found conditions short same all =
    let within = subst (λ (l : List Condition). All (λ (c : Condition). length c.text ≤ length text) l) (sym same) all in
    λ k d below. omega (arith, short, within k d below)

pub is_short : (conditions : List Condition) (i : ℕ) (c : Condition) → i < length conditions → c ≡ get_or conditions i c → All (λ (d : Condition). length d.text < 2 ^ 32) conditions → length c.text < 2 ^ 32
is_short conditions i c below is all = subst (λ (d : Condition). length d.text < 2 ^ 32) (sym is) (all i c below)

pub told_first : (system : System) (schedule : Bool) (text : List ℕ) (answer : lines.Answer) (fault : ReadFault) → lines.Answers (named_of system schedule) text answer → TellsFirst system (conditions_in answer) fault → Tells system schedule text fault
told_first system schedule text answer (faults.Refused line kind) is told = inr (told.0, record { answer = answer; lines_are = is; first = told.1 })
told_first system schedule text answer faults.Memory is told = tt

pub told_words : (system : System) (schedule : Bool) (text : List ℕ) (line : ℕ) (kind : ScriptKind) (conditions : List Condition) (filters : List Filter) → lines.Answers (named_of system schedule) text (lines.Refused line kind conditions)
    → AreAsked system conditions filters → IsRefusedOf system schedule text line kind
told_words system schedule text line kind conditions filters is asked = inl (record { conditions = conditions; filters = filters; lines_are = is; asked = asked })
