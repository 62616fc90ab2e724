-- Options are counted by their labels: how often one comes, and that two questions with the same
-- options are the same.
use Rattle.std.proofs.Common.{◌≡◌, ◌∙◌, sym, ap, refl, ℕ, ◌+◌, ◌≤◌, Bool, true, false, cond, ◌&&◌, ◌||◌, not, List, [], ◌∷◌, ◌++◌, Option, Some, None, arith, inl, inr}
use Rattle.std.specs.Prelude.{is_none, sum_by}
use Rattle.std.specs.List.Sorted.{IsPermutation}
use Rattle.std.proofs.lemmas.Bool.{false≢true}
use Rattle.std.proofs.lemmas.List.Sums.{sum_by-append, sum_by-cons}
use Rattle.std.proofs.lemmas.List.Sorted.{sum_by-IsPermutation}
use Rattle.attrs.specs.declared.route.Select.{Select}
use Rattle.queries.specs.declared.parts.Label.{Label}
use Rattle.queries.specs.declared.parts.Label.TheVariants as labels
use Rattle.queries.specs.Question.{Asked, Part, Table, Protocol, Export, Filter, Primary, All, Count, named, flag, parts_of}
use Rattle.queries.specs.Inside.{put, with_table, with_protocol, with_export, with_filter, with_flags}
use Rattle.queries.proofs.Labels.{label_for}
use Rattle.queries.proofs.Growing.{only_none}
use Rattle.queries.proofs.ToldAddresses.{Told, told_word}

-- an option weighs something by its name, if it is of this label
weigh : Label → (List ℕ → ℕ) → Part → ℕ
weigh labels.Table g (Table name) = g name
weigh labels.Protocol g (Protocol name) = g name
weigh labels.Export g (Export name) = g name
weigh labels.Filter g (Filter name) = g name
weigh labels.Primary g Primary = g []
weigh labels.All g All = g []
weigh labels.Count g Count = g []
weigh _ g _ = 0

abbrev of_name : (List ℕ → ℕ) → Option (List ℕ) → ℕ
of_name g None = 0
of_name g (Some name) = g name

abbrev of_flag : (List ℕ → ℕ) → Bool → ℕ
of_flag g set = cond set (g []) 0

-- what the option of this label weighs in a question
abbrev slot : Label → (List ℕ → ℕ) → Asked → ℕ
slot labels.Table g q = of_name g q.table
slot labels.Protocol g q = of_name g q.protocol
slot labels.Export g q = of_name g q.export
slot labels.Filter g q = of_name g q.filter
slot labels.Primary g q = of_flag g q.primary
slot labels.All g q = of_flag g q.all
slot labels.Count g q = of_flag g q.count

one_item : (f : Part → ℕ) (p : Part) → sum_by f (p ∷ []) ≡ f p
one_item f p = omega (arith, sum_by-cons f p [])

named_sum : (f : Part → ℕ) (make : List ℕ → Part) (g : List ℕ → ℕ) (o : Option (List ℕ)) → ((name : List ℕ) → f (make name) ≡ g name) → sum_by f (named make o) ≡ of_name g o
named_sum f make g None same = refl
named_sum f make g (Some name) same = one_item f (make name) ∙ same name

flag_sum : (f : Part → ℕ) (p : Part) (g : List ℕ → ℕ) (set : Bool) → f p ≡ g [] → sum_by f (flag p set) ≡ of_flag g set
flag_sum f p g true same = one_item f p ∙ same
flag_sum f p g false same = refl

no_named : (f : Part → ℕ) (make : List ℕ → Part) (o : Option (List ℕ)) → ((name : List ℕ) → f (make name) ≡ 0) → sum_by f (named make o) ≡ 0
no_named f make None zero = refl
no_named f make (Some name) zero = one_item f (make name) ∙ zero name

no_flag : (f : Part → ℕ) (p : Part) (set : Bool) → f p ≡ 0 → sum_by f (flag p set) ≡ 0
no_flag f p true zero = one_item f p ∙ zero
no_flag f p false zero = refl

seven : (h : Part → ℕ) (a b c d e f g : List Part) → sum_by h (a ++ b ++ c ++ d ++ e ++ f ++ g)
    ≡ sum_by h a + sum_by h b + sum_by h c + sum_by h d + sum_by h e + sum_by h f + sum_by h g
seven h a b c d e f g =
    omega (
      arith,
      sum_by-append h (a ++ b ++ c ++ d ++ e ++ f) g,
      sum_by-append h (a ++ b ++ c ++ d ++ e) f,
      sum_by-append h (a ++ b ++ c ++ d) e,
      sum_by-append h (a ++ b ++ c) d,
      sum_by-append h (a ++ b) c,
      sum_by-append h a b,
    )

all_parts : (h : Part → ℕ) (q : Asked) → sum_by h (parts_of q)
    ≡ sum_by h (named Table q.table) + sum_by h (named Protocol q.protocol) + sum_by h (named Export q.export) + sum_by h (named Filter q.filter)
    + sum_by h (flag Primary q.primary) + sum_by h (flag All q.all) + sum_by h (flag Count q.count)
all_parts h q = seven h (named Table q.table) (named Protocol q.protocol) (named Export q.export) (named Filter q.filter) (flag Primary q.primary) (flag All q.all) (flag Count q.count)

weight : (l : Label) (g : List ℕ → ℕ) (q : Asked) → sum_by (weigh l g) (parts_of q) ≡ slot l g q
unfolding weigh
weight labels.Table g q =
    let h = weigh labels.Table g in
    omega (
      arith,
      all_parts h q,
      named_sum h Table g q.table (λ n. refl),
      no_named h Protocol q.protocol (λ n. refl),
      no_named h Export q.export (λ n. refl),
      no_named h Filter q.filter (λ n. refl),
      no_flag h Primary q.primary refl,
      no_flag h All q.all refl,
      no_flag h Count q.count refl,
    )
weight labels.Protocol g q =
    let h = weigh labels.Protocol g in
    omega (
      arith,
      all_parts h q,
      no_named h Table q.table (λ n. refl),
      named_sum h Protocol g q.protocol (λ n. refl),
      no_named h Export q.export (λ n. refl),
      no_named h Filter q.filter (λ n. refl),
      no_flag h Primary q.primary refl,
      no_flag h All q.all refl,
      no_flag h Count q.count refl,
    )
weight labels.Export g q =
    let h = weigh labels.Export g in
    omega (
      arith,
      all_parts h q,
      no_named h Table q.table (λ n. refl),
      no_named h Protocol q.protocol (λ n. refl),
      named_sum h Export g q.export (λ n. refl),
      no_named h Filter q.filter (λ n. refl),
      no_flag h Primary q.primary refl,
      no_flag h All q.all refl,
      no_flag h Count q.count refl,
    )
weight labels.Filter g q =
    let h = weigh labels.Filter g in
    omega (
      arith,
      all_parts h q,
      no_named h Table q.table (λ n. refl),
      no_named h Protocol q.protocol (λ n. refl),
      no_named h Export q.export (λ n. refl),
      named_sum h Filter g q.filter (λ n. refl),
      no_flag h Primary q.primary refl,
      no_flag h All q.all refl,
      no_flag h Count q.count refl,
    )
weight labels.Primary g q =
    let h = weigh labels.Primary g in
    omega (
      arith,
      all_parts h q,
      no_named h Table q.table (λ n. refl),
      no_named h Protocol q.protocol (λ n. refl),
      no_named h Export q.export (λ n. refl),
      no_named h Filter q.filter (λ n. refl),
      flag_sum h Primary g q.primary refl,
      no_flag h All q.all refl,
      no_flag h Count q.count refl,
    )
weight labels.All g q =
    let h = weigh labels.All g in
    omega (
      arith,
      all_parts h q,
      no_named h Table q.table (λ n. refl),
      no_named h Protocol q.protocol (λ n. refl),
      no_named h Export q.export (λ n. refl),
      no_named h Filter q.filter (λ n. refl),
      no_flag h Primary q.primary refl,
      flag_sum h All g q.all refl,
      no_flag h Count q.count refl,
    )
weight labels.Count g q =
    let h = weigh labels.Count g in
    omega (
      arith,
      all_parts h q,
      no_named h Table q.table (λ n. refl),
      no_named h Protocol q.protocol (λ n. refl),
      no_named h Export q.export (λ n. refl),
      no_named h Filter q.filter (λ n. refl),
      no_flag h Primary q.primary refl,
      no_flag h All q.all refl,
      flag_sum h Count g q.count refl,
    )

-- ---- the same options

same_slots : (a b : Asked) → IsPermutation (parts_of a) (parts_of b) → (l : Label) (g : List ℕ → ℕ) → slot l g a ≡ slot l g b
same_slots a b same l g = sym (weight l g a) ∙ sym (sum_by-IsPermutation (weigh l g) (parts_of a) (parts_of b) same) ∙ weight l g b

hit : {P : Type 0} → Told P → ℕ
hit (inl p) = 1
hit (inr none) = 0

hit_holds : {P : Type 0} (t : Told P) → P → hit t ≡ 1
unfolding hit
hit_holds (inl p) is = refl
hit_holds (inr none) is = absurd (none is)

holds_hit : {P : Type 0} (t : Told P) → 1 ≡ hit t → P
unfolding hit
holds_hit (inl p) is = p
holds_hit (inr none) is = absurd (omega (arith, is))

names_agree : (a b : Option (List ℕ)) → ((g : List ℕ → ℕ) → of_name g a ≡ of_name g b) → a ≡ b
names_agree None None same = refl
names_agree None (Some m) same = absurd (omega (arith, same (λ name. 1)))
names_agree (Some n) None same = absurd (omega (arith, same (λ name. 1)))
names_agree (Some n) (Some m) same = ap Some (holds_hit (told_word n m) (sym (hit_holds (told_word n n) refl) ∙ same (λ name. hit (told_word n name))))

flags_agree : (a b : Bool) → ((g : List ℕ → ℕ) → of_flag g a ≡ of_flag g b) → a ≡ b
flags_agree true true same = refl
flags_agree true false same = absurd (omega (arith, same (λ name. 1)))
flags_agree false true same = absurd (omega (arith, same (λ name. 1)))
flags_agree false false same = refl

made : Select → Option (List ℕ) → Option (List ℕ) → Option (List ℕ) → Option (List ℕ) → Bool → Bool → Bool → Option (List ℕ) → Asked
made pick table protocol export filter primary all count condition = record {
  pick = pick;
  table = table;
  protocol = protocol;
  export = export;
  filter = filter;
  primary = primary;
  all = all;
  count = count;
  condition = condition;
}

made_same : (k k' : Select) (t t' p p' e e' f f' : Option (List ℕ)) (b b' a a' c c' : Bool) (w w' : Option (List ℕ))
    → k ≡ k' → t ≡ t' → p ≡ p' → e ≡ e' → f ≡ f' → b ≡ b' → a ≡ a' → c ≡ c' → w ≡ w' → made k t p e f b a c w ≡ made k' t' p' e' f' b' a' c' w'
made_same k k' t t' p p' e e' f f' b b' a a' c c' w w' ks ts ps es fs bs a_s cs ws = cc

made_again : (q : Asked) → made q.pick q.table q.protocol q.export q.filter q.primary q.all q.count q.condition ≡ q
unfolding made
made_again q = refl

-- questions with the same options, for the same nets and with the same expression, are the same
pub asked_same : (a b : Asked) → IsPermutation (parts_of a) (parts_of b) → a.pick ≡ b.pick → a.condition ≡ b.condition → a ≡ b
asked_same a b same pick condition =
    let slots = same_slots a b same in
    sym (made_again a)
    ∙ made_same a.pick b.pick a.table b.table a.protocol b.protocol a.export b.export a.filter b.filter a.primary b.primary a.all b.all a.count b.count a.condition b.condition
    pick (names_agree _ _ (slots labels.Table)) (names_agree _ _ (slots labels.Protocol)) (names_agree _ _ (slots labels.Export)) (names_agree _ _ (slots labels.Filter))
    (flags_agree _ _ (slots labels.Primary)) (flags_agree _ _ (slots labels.All)) (flags_agree _ _ (slots labels.Count)) condition
    ∙ made_again b

pub same_filter : (a b : Asked) → IsPermutation (parts_of a) (parts_of b) → a.filter ≡ b.filter
same_filter a b same = names_agree _ _ (same_slots a b same labels.Filter)

-- ---- one option too many

abbrev one : List ℕ → ℕ
one name = 1

own_weight : (p : Part) → weigh (label_for p) one p ≡ 1
unfolding weigh
own_weight (Table name) = refl
own_weight (Protocol name) = refl
own_weight (Export name) = refl
own_weight (Filter name) = refl
own_weight Primary = refl
own_weight All = refl
own_weight Count = refl

name_once : (o : Option (List ℕ)) → of_name one o ≤ 1
name_once None = omega arith
name_once (Some name) = omega arith

flag_once : (set : Bool) → of_flag one set ≤ 1
flag_once true = omega arith
flag_once false = omega arith

slot_once : (l : Label) (q : Asked) → slot l one q ≤ 1
slot_once labels.Table q = name_once q.table
slot_once labels.Protocol q = name_once q.protocol
slot_once labels.Export q = name_once q.export
slot_once labels.Filter q = name_once q.filter
slot_once labels.Primary q = flag_once q.primary
slot_once labels.All q = flag_once q.all
slot_once labels.Count q = flag_once q.count

more_slots : (old new : Asked) (p : Part) (more : List Part) (l : Label) → IsPermutation (parts_of old ++ p ∷ more) (parts_of new)
    → slot l one old + (weigh l one p + sum_by (weigh l one) more) ≡ slot l one new
more_slots old new p more l same =
    let h = weigh l one in
    omega (arith, weight l one old, weight l one new, sum_by-IsPermutation h (parts_of old ++ p ∷ more) (parts_of new) same, sum_by-append h (parts_of old) (p ∷ more), sum_by-cons h p more)

pub kept_slot : (old new : Asked) (p : Part) (more : List Part) (l : Label) → IsPermutation (parts_of old ++ p ∷ more) (parts_of new) → slot l one old ≤ slot l one new
kept_slot old new p more l same = omega (arith, more_slots old new p more l same)

fresh_slot : (old new : Asked) (p : Part) (more : List Part) → IsPermutation (parts_of old ++ p ∷ more) (parts_of new)
    → (slot (label_for p) one old ≡ 0) × (slot (label_for p) one new ≡ 1)
fresh_slot old new p more same =
    let whole = more_slots old new p more (label_for p) same in
    let most = slot_once (label_for p) new in
    (omega (arith, whole, most, own_weight p), omega (arith, whole, most, own_weight p))

no_table : (t e t' e' : Option (List ℕ)) → of_name one t ≡ 0 → of_name one t' ≡ 1 → of_name one e ≤ of_name one e'
    → (is_none t && is_none e) ≡ false → is_none t' || is_none e' ≡ true → ⊥
no_table (Some n) e t' e' free there kept test fits = omega (arith, free)
no_table None None t' e' free there kept test fits = false≢true (sym test)
no_table None (Some m) None e' free there kept test fits = omega (arith, there)
no_table None (Some m) (Some n) None free there kept test fits = omega (arith, kept)
no_table None (Some m) (Some n) (Some k) free there kept test fits = false≢true fits

no_export : (t e t' e' : Option (List ℕ)) → of_name one e ≡ 0 → of_name one e' ≡ 1 → of_name one t ≤ of_name one t'
    → (is_none t && is_none e) ≡ false → is_none t' || is_none e' ≡ true → ⊥
no_export t (Some n) t' e' free there kept test fits = omega (arith, free)
no_export None None t' e' free there kept test fits = false≢true (sym test)
no_export (Some m) None t' None free there kept test fits = omega (arith, there)
no_export (Some m) None None (Some n) free there kept test fits = omega (arith, kept)
no_export (Some m) None (Some k) (Some n) free there kept test fits = false≢true fits

no_name : (o : Option (List ℕ)) → of_name one o ≡ 0 → is_none o ≡ false → ⊥
no_name None free test = false≢true (sym test)
no_name (Some n) free test = omega (arith, free)

no_set : (set : Bool) → of_flag one set ≡ 0 → not set ≡ false → ⊥
no_set false free test = false≢true (sym test)
no_set true free test = omega (arith, free)

-- where an option isn't put no question has it
pub no_put : (old new : Asked) (p : Part) (more : List Part) → IsPermutation (parts_of old ++ p ∷ more) (parts_of new)
    → is_none new.table || is_none new.export ≡ true → put old p ≡ None → ⊥
no_put old new (Table name) more same fits none =
    let fresh = fresh_slot old new (Table name) more same in
    no_table old.table old.export new.table new.export fresh.0 fresh.1 (kept_slot old new (Table name) more labels.Export same) (only_none _ (with_table name old) none) fits
no_put old new (Protocol name) more same fits none = no_name old.protocol (fresh_slot old new (Protocol name) more same).0 (only_none _ (with_protocol name old) none)
no_put old new (Export name) more same fits none =
    let fresh = fresh_slot old new (Export name) more same in
    no_export old.table old.export new.table new.export fresh.0 fresh.1 (kept_slot old new (Export name) more labels.Table same) (only_none _ (with_export name old) none) fits
no_put old new (Filter name) more same fits none = no_name old.filter (fresh_slot old new (Filter name) more same).0 (only_none _ (with_filter name old) none)
no_put old new Primary more same fits none = no_set old.primary (fresh_slot old new Primary more same).0 (only_none _ (with_flags true old.all old.count old) none)
no_put old new All more same fits none = no_set old.all (fresh_slot old new All more same).0 (only_none _ (with_flags old.primary true old.count old) none)
no_put old new Count more same fits none = no_set old.count (fresh_slot old new Count more same).0 (only_none _ (with_flags old.primary old.all true old) none)
