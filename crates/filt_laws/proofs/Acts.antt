-- Statements in which nothing is refused aren't stuck, keep the frame fitting, and give what their
-- function says.
use Rattle.std.proofs.Common.{◌≡◌, ℕ, Bool, true, false, not, ◌&&◌, ◌||◌, nat_lt, if◌then◌else◌, List, [], ◌∷◌, ◌++◌, length, map, take, Option, Some, None, Result, refl, sym, ap, ◌∙◌, subst, lt-ltb}
use Rattle.std.proofs.lemmas.Option.{slice_get_within}
use Rattle.std.proofs.lemmas.List.{map-append}
use Rattle.std.specs.Bool.{⊤}
use Rattle.attrs.specs.declared.attributes.Attrs.{Attrs}
use Rattle.attrs.specs.declared.attributes.Dest.{Dest}
use Rattle.attrs.specs.declared.attributes.Origin.{Origin}
use Rattle.bits_ip.specs.declared.address.Addr.{Addr}
use Rattle.conf_ast.specs.declared.named.Name.{Name}
use Rattle.conf_ast.specs.Names.{name_bytes}
use Rattle.conf_ast.specs.declared.attribute.Attribute.{Attribute}
use Rattle.conf_ast.specs.declared.attribute.Attribute.TheVariants as attributes
use Rattle.conf_ast.specs.declared.attribute.Constant.{Constant}
use Rattle.conf_ast.specs.declared.attribute.Constant.TheVariants as constants
use Rattle.conf_ast.specs.declared.filters.Item.{Item}
use Rattle.conf_ast.specs.declared.filters.Method.{Method}
use Rattle.conf_ast.specs.declared.filters.Atom.{Atom}
use Rattle.conf_ast.specs.declared.filters.Atom.TheVariants as atoms
use Rattle.conf_ast.specs.declared.filters.Target.{Target}
use Rattle.conf_ast.specs.declared.filters.Target.TheVariants as targets
use Rattle.conf_ast.specs.declared.filters.VariableType.{VariableType}
use Rattle.conf_ast.specs.declared.filters.VariableType.TheVariants as types
use Rattle.conf_ast.specs.Filters.{Expression, Plain, Grouped, Expressions, Statement, Braced, Nothing, Declare, Assign, ChangeBy, Clear, Unset, If, IfElse, Case, CaseElse, For, Accept, Reject, Return, Print, Printn, Call, Statements, NoStatements, AndStatements, Arms, NoArms, AndArms}
use Rattle.filt_meaning.specs.declared.value.Failure.{Failure}
use Rattle.filt_meaning.specs.declared.value.Sort.{Sort}
use Rattle.filt_meaning.specs.declared.value.Sort.TheVariants as sorts
use Rattle.filt_meaning.specs.Operators.{int_in, ip_in, path_in, clist_in, dest_in, origin_in, bool_in, emptied_of}
use Rattle.filt_meaning.specs.Sorts.{one_bool, one_list, the_same}
use Rattle.filt_meaning.specs.Values.{Val, VInt, VIp, VPair, VPath, VClist, VDest, VOrigin, sort_of, default_of}
use Rattle.filt_meaning.specs.Attributes.{attribute_of, with_attribute, without_attribute}
use Rattle.filt_meaning.specs.Flow.{Frame, Run, plainly}
use Rattle.filt_meaning.specs.Meaning.{Act, act, acts, arms_act, all_declared, arms_declare, names_of, defaults, nothing, block, set_variable, set_attributes, set_target, read, choose, choice, arm, elements, turns, loop, give, evaluate, on_value, on_two, method_of, value, values, within}
use Rattle.filt_meaning.specs.Meaning as run
use Rattle.filt_meaning.specs.Names.{Doing, place_in, named_in, sort_of_type}
use Rattle.filt_meaning.specs.Names as names
use Rattle.filt_types.specs.declared.refusal.Cause.TheVariants as causes
use Rattle.filt_types.specs.declared.refusal.Refusal.{Refusal}
use Rattle.filt_types.specs.Expressions.{Judgement, judge, judge_all, all_refusals, is_other, wants, wanted, gives_where, constant_word}
use Rattle.filt_types.specs.Expressions as seen
use Rattle.filt_types.specs.Items.{Common, NoneYet, One, common, differ, is_empty, all_items, sorts_of_items}
use Rattle.filt_types.specs.Refusals.{refused_if}
use Rattle.filt_meaning.specs.Rules.{method, same_sort, one_of_cases, sort_of_attribute, sort_of_constant, is_assignable, can_be_unset, is_assigned_dest}
use Rattle.filt_types.specs.Scenes.{Scene, Signature, Variable, Variables, variable_in, declaring, declared}
use Rattle.filt_types.specs.Statements.{Around, Aim, Holds, IsFixed, Unknown, aim, aim_of_name, operand, assigned, assigned_dest, is_dest_word, no_sort, place_of, changed, cleared, labels, lacks_labels, of_value, lists_of, is_other_list, over_list, returned, check, check_all, check_arms}
use Rattle.filt_types.specs.Statements as rules
use Rattle.filt_laws.specs.Sound.{EndsFilter, IsResult, AreOfSignatures}
use Rattle.filt_laws.proofs.Declared.{adds, all_add, arms_add, fresh, all_fresh, not_seen}
use Rattle.filt_laws.proofs.Flows.{Meets, goes_on, IsGood, OfSort, Anything, plainly_meets, good_then, Allows, allowed, same_why}
use Rattle.filt_laws.proofs.Names.{Sees, Hosts, Fresh, sees_within, hosts_own, hosts_loop, seen_here, sees_push, sees_more, hosts_front, hosts_back}
use Rattle.filt_laws.specs.Operators.{AreTyped}
use Rattle.filt_laws.proofs.Operators.{list_takes}
use Rattle.filt_laws.proofs.Refused.{left_nil, right_nil, not_refused, not_false, same_is}
use Rattle.filt_laws.proofs.Sets.{ctx, AreOf, are_front, are_back, all_are, label_good}
use Rattle.filt_laws.proofs.Slots.{Slot, slot_in, Fits, Place, place_found, fits_append, fits_length, fits_take, fits_defaults, default_sort}
use Rattle.filt_laws.proofs.Typed.{SoundAt, of_one_sound, of_two_sound, bool_good, attribute_good, variable_sound, Arguments, Of, CallKnown, call_known, value_sound, values_sound}

abbrev pub ActSound : Option Sort → List Slot → Act → Type 0
ActSound gives slots a =
    (vals : Frame) (attrs : Attrs) → Fits slots vals
    → Meets (Allows gives) (Fits slots) (a vals attrs)

-- ---- what a place wants

-- there is a sort that the place takes, and the value is of it
pub record Wanted (F : Frame → Type 0) (takes : Sort → Bool) (o : Option Sort) (r : Run Val)
    : Type 0 where
  pub k : Sort
  pub is : o ≡ Some k
  pub takes_it : takes k ≡ true
  pub sound : SoundAt F (Some k) r

wanted_at : (F : Frame → Type 0) (takes : Sort → Bool) (o : Option Sort) (r : Run Val)
    → is_other takes o ≡ false → SoundAt F o r → Wanted F takes o r
wanted_at F takes None r e s = absurd s
wanted_at F takes (Some k) r e s =
    record { k = k; is = refl; takes_it = not_false (takes k) e; sound = s }

pub wanted_is : (F : Frame → Type 0) (takes : Sort → Bool) (j : Judgement) (r : Run Val)
    → wanted takes j ≡ [] → (j.refusals ≡ [] → SoundAt F j.sort r) → Wanted F takes j.sort r
wanted_is F takes j r e s =
    wanted_at F takes j.sort r
    (not_refused (is_other takes j.sort) j.at causes.Mismatch
    (right_nil j.refusals (wants takes j) e))
    (s (left_nil j.refusals (wants takes j) e))

same_wanted : (F : Frame → Type 0) (k : Sort) (o : Option Sort) (r : Run Val)
    → Wanted F (same_sort k) o r → SoundAt F (Some k) r
same_wanted F k o r w =
    subst (λ (l : Sort). SoundAt F (Some l) r) (sym (same_is k (w).k (w).takes_it)) (w).sound

-- ---- assigning

int_good : (v : Val) → sort_of v ≡ sorts.Int → IsGood {A = ℕ} Anything (int_in v)
int_good (VInt n) e = tt
int_good _ e = absurd (cc)

ip_good : (v : Val) → sort_of v ≡ sorts.Ip → IsGood {A = Addr} Anything (ip_in v)
ip_good (VIp n) e = tt
ip_good _ e = absurd (cc)

path_good : (v : Val) → sort_of v ≡ sorts.Path → IsGood {A = List ℕ} Anything (path_in v)
path_good (VPath n) e = tt
path_good _ e = absurd (cc)

clist_good : (v : Val) → sort_of v ≡ sorts.Clist
    → IsGood {A = List (ℕ × ℕ)} Anything (clist_in v)
clist_good (VClist n) e = tt
clist_good _ e = absurd (cc)

dest_good : (v : Val) → sort_of v ≡ sorts.Dest → IsGood {A = Dest} Anything (dest_in v)
dest_good (VDest n) e = tt
dest_good _ e = absurd (cc)

origin_good : (v : Val) → sort_of v ≡ sorts.Origin → IsGood {A = Origin} Anything (origin_in v)
origin_good (VOrigin n) e = tt
origin_good _ e = absurd (cc)

with_good : (a : Attribute) (v : Val) (attrs : Attrs) → is_assignable a ≡ true
    → sort_of v ≡ sort_of_attribute a → IsGood {A = Attrs} Anything (with_attribute a v attrs)
with_good attributes.Net v attrs i e = absurd (cc)
with_good attributes.Preference v attrs i e =
    good_then Anything Anything (int_in v) _ (int_good v e) (λ n _. tt)
with_good attributes.Gw v attrs i e =
    good_then Anything Anything (ip_in v) _ (ip_good v e) (λ n _. tt)
with_good attributes.From v attrs i e =
    good_then Anything Anything (ip_in v) _ (ip_good v e) (λ n _. tt)
with_good attributes.BgpNextHop v attrs i e =
    good_then Anything Anything (ip_in v) _ (ip_good v e) (λ n _. tt)
with_good attributes.Proto v attrs i e = absurd (cc)
with_good attributes.Source v attrs i e = absurd (cc)
with_good attributes.Dest v attrs i e =
    good_then Anything Anything (dest_in v) _ (dest_good v e) (λ n _. tt)
with_good attributes.BgpPath v attrs i e =
    good_then Anything Anything (path_in v) _ (path_good v e) (λ n _. tt)
with_good attributes.BgpOrigin v attrs i e =
    good_then Anything Anything (origin_in v) _ (origin_good v e) (λ n _. tt)
with_good attributes.BgpMed v attrs i e =
    good_then Anything Anything (int_in v) _ (int_good v e) (λ n _. tt)
with_good attributes.BgpLocalPref v attrs i e =
    good_then Anything Anything (int_in v) _ (int_good v e) (λ n _. tt)
with_good attributes.IgpMetric v attrs i e =
    good_then Anything Anything (int_in v) _ (int_good v e) (λ n _. tt)
with_good attributes.BgpCommunity v attrs i e =
    good_then Anything Anything (clist_in v) _ (clist_good v e) (λ n _. tt)

without_good : (a : Attribute) (attrs : Attrs) → can_be_unset a ≡ true
    → IsGood {A = Attrs} Anything (without_attribute a attrs)
without_good attributes.Net attrs e = absurd (cc)
without_good attributes.Preference attrs e = absurd (cc)
without_good attributes.Gw attrs e = tt
without_good attributes.From attrs e = absurd (cc)
without_good attributes.BgpNextHop attrs e = tt
without_good attributes.Proto attrs e = absurd (cc)
without_good attributes.Source attrs e = absurd (cc)
without_good attributes.Dest attrs e = absurd (cc)
without_good attributes.BgpPath attrs e = tt
without_good attributes.BgpOrigin attrs e = tt
without_good attributes.BgpMed attrs e = tt
without_good attributes.BgpLocalPref attrs e = tt
without_good attributes.IgpMetric attrs e = tt
without_good attributes.BgpCommunity attrs e = tt

attributes_sound : (gives : Option Sort) (slots : List Slot) (vals : Frame)
    (after : Result Attrs Failure) (attrs : Attrs) → Fits slots vals
    → IsGood {A = Attrs} Anything after
    → Meets (Allows gives) (Fits slots) (set_attributes vals after attrs)
attributes_sound gives slots vals after attrs f g =
    goes_on EndsFilter (Allows gives) Anything (Fits slots) (allowed gives)
    (plainly after attrs) _ (plainly_meets Anything after attrs g) (λ changed at _. f)

variable_set : (gives : Option Sort) (slots : List Slot) (name : List ℕ) (k : Sort) (v : Val)
    (vals : Frame) (attrs : Attrs) → slot_in slots name ≡ Some k → sort_of v ≡ k
    → Fits slots vals
    → Meets (Allows gives) (Fits slots)
    (set_variable (place_in (names_of slots) name) v vals attrs)
variable_set gives slots name k v vals attrs e s f =
    let p : Place slots vals name k = place_found slots vals name k e f in
    let below : nat_lt (p).place (length vals) ≡ true =
    lt-ltb (p).place (length vals)
    (slice_get_within vals (p).place (p).held (p).is_held) in
    rw (p).is_place (rw below ((p).set_fits v s))

-- ---- targets

sort_in : Sort → Aim → Sort
sort_in k (Holds l) = l
sort_in k IsFixed = k
sort_in k Unknown = k

holds_is : (k l : Sort) → Holds k ≡ Holds l → k ≡ l
unfolding sort_in
holds_is k l e = ap (λ (a : Aim). sort_in k a) e

aim_slot : (scene : Scene) (vs : Variables) (slots : List Slot) (name : List ℕ) (k : Sort)
    → Sees scene vs slots → (v : Option Variable) → variable_in vs name ≡ v
    → (constant : Option Val) → aim_of_name v constant ≡ Holds k → slot_in slots name ≡ Some k
aim_slot scene vs slots name k sees (Some v) ev constant e =
    go v.of_loop e
  where
    go : (b : Bool) → (if b then IsFixed else Holds v.sort) ≡ Holds k
        → slot_in slots name ≡ Some k
    go true e = absurd (cc)
    go false e =
        (sees).variables name v ev ∙ ap (λ (l : Sort). Some l) (holds_is v.sort k e)
aim_slot scene vs slots name k sees None ev (Some v) e = absurd (cc)
aim_slot scene vs slots name k sees None ev None e = absurd (cc)

record AttributeAim (a : Attribute) (k : Sort) : Type 0 where
  pub can : is_assignable a ≡ true
  pub is : sort_of_attribute a ≡ k

attribute_aim : (a : Attribute) (k : Sort)
    → (if is_assignable a then Holds (sort_of_attribute a) else IsFixed) ≡ Holds k
    → AttributeAim a k
attribute_aim a k e = go (is_assignable a) refl e
  where
    go : (b : Bool) → is_assignable a ≡ b
        → (if b then Holds (sort_of_attribute a) else IsFixed) ≡ Holds k → AttributeAim a k
    go true eb e = record { can = eb; is = holds_is (sort_of_attribute a) k e }
    go false eb e = absurd (cc)

module _ (scene : Scene) (around : names.Around) (functions : List (List ℕ × Doing)) where
  abbrev c : List Slot → names.Context
  c slots = ctx scene around functions (names_of slots)

  target_set : (gives : Option Sort) (vs : Variables) (slots : List Slot) (target : Target)
      (k : Sort) → Sees scene vs slots → aim scene vs target ≡ Holds k
      → (v : Val) (vals : Frame) (attrs : Attrs) → sort_of v ≡ k → Fits slots vals
      → Meets (Allows gives) (Fits slots) (set_target (c slots) target v vals attrs)
  target_set gives vs slots (targets.Name n) k sees e v vals attrs s f =
      variable_set gives slots (name_bytes scene.text n) k v vals attrs
      (aim_slot scene vs slots (name_bytes scene.text n) k sees _ refl _ e) s f
  target_set gives vs slots (targets.Attribute at a) k sees e v vals attrs s f =
      let t : AttributeAim a k = attribute_aim a k e in
      attributes_sound gives slots vals (with_attribute a v attrs) attrs f
      (with_good a v attrs (t).can (s ∙ sym (t).is))

  target_read : (vs : Variables) (slots : List Slot) (target : Target) (k : Sort)
      → Sees scene vs slots → aim scene vs target ≡ Holds k
      → SoundAt (Fits slots) (Some k) (value (read target) (c slots))
  target_read vs slots (targets.Name n) k sees e =
      λ vals attrs f. variable_sound slots (name_bytes scene.text n) k
      (named_in scene.constants (name_bytes scene.text n)) vals attrs
      (place_found slots vals (name_bytes scene.text n) k
      (aim_slot scene vs slots (name_bytes scene.text n) k sees _ refl _ e) f)
  target_read vs slots (targets.Attribute at a) k sees e =
      let t : AttributeAim a k = attribute_aim a k e in
      subst
      (λ (l : Sort).
      SoundAt (Fits slots) (Some l) (value (read (targets.Attribute at a)) (c slots)))
      (t).is
      (λ vals attrs f. plainly_meets (OfSort (sort_of_attribute a)) (attribute_of around a attrs)
      attrs (attribute_good around a attrs))

  assign_run : (gives : Option Sort) (vs : Variables) (slots : List Slot) (target : Target)
      (k : Sort) (r : Run Val) → Sees scene vs slots → aim scene vs target ≡ Holds k
      → SoundAt (Fits slots) (Some k) r → ActSound gives slots (run.assign (c slots) target r)
  assign_run gives vs slots target k r sees e s vals attrs f =
      goes_on EndsFilter (Allows gives) (OfSort k) (Fits slots) (allowed gives) (r vals attrs) _
      (s vals attrs f)
      (λ v after is. target_set gives vs slots target k sees e v vals after is f)

  assigned_sound : (gives : Option Sort) (vs : Variables) (slots : List Slot) (target : Target)
      (at : ℕ) (j : Judgement) (r : Run Val) → Sees scene vs slots
      → (j.refusals ≡ [] → SoundAt (Fits slots) j.sort r)
      → (a : Aim) → aim scene vs target ≡ a → assigned at a j ≡ []
      → ActSound gives slots (run.assign (c slots) target r)
  assigned_sound gives vs slots target at j r sees s (Holds k) ea e =
      assign_run gives vs slots target k r sees ea
      (same_wanted (Fits slots) k j.sort r (wanted_is (Fits slots) (same_sort k) j r e s))
  assigned_sound gives vs slots target at j r sees s IsFixed ea e = absurd (cc)
  assigned_sound gives vs slots target at j r sees s Unknown ea e = absurd (cc)

-- ---- the destination

dest_constant : (a : Constant) → is_assigned_dest a ≡ true → sort_of_constant a ≡ sorts.Dest
dest_constant constants.RtdBlackhole e = refl
dest_constant constants.RtdUnreachable e = refl
dest_constant constants.RtdProhibit e = refl
dest_constant _ e = absurd (cc)

dest_plain : (scene : Scene) (vs : Variables) (s : Atom)
    → is_dest_word (constant_word (Plain s)) ≡ true
    → (judge scene vs (Plain s)).sort ≡ Some sorts.Dest
dest_plain scene vs (atoms.Constant at a) e =
    ap (λ (k : Sort). Some k) (dest_constant a e)
dest_plain scene vs _ e = absurd (cc)

dest_sort : (scene : Scene) (vs : Variables) (e : Expression)
    → is_dest_word (constant_word e) ≡ true → (judge scene vs e).sort ≡ Some sorts.Dest
dest_sort scene vs (Plain s) h = dest_plain scene vs s h
dest_sort scene vs (Grouped at e) h = dest_sort scene vs e h
dest_sort scene vs _ h = absurd (cc)

dest_refused : (F : Frame → Type 0) (scene : Scene) (vs : Variables) (e : Expression)
    (r : Run Val) → assigned_dest e (judge scene vs e) ≡ []
    → ((judge scene vs e).refusals ≡ [] → SoundAt F (judge scene vs e).sort r)
    → SoundAt F (Some sorts.Dest) r
dest_refused F scene vs e r h s = go (is_dest_word (constant_word e)) refl h
  where
    go : (b : Bool) → is_dest_word (constant_word e) ≡ b
        → (if b then (judge scene vs e).refusals else wanted no_sort (judge scene vs e)) ≡ []
        → SoundAt F (Some sorts.Dest) r
    go true eb h =
        subst (λ (o : Option Sort). SoundAt F o r) (dest_sort scene vs e eb) (s h)
    go false eb h =
        let w : Wanted F no_sort (judge scene vs e).sort r =
        wanted_is F no_sort (judge scene vs e) r h s in
        absurd (never (w).takes_it)
      where
        never : false ≡ true → ⊥
        never e = cc

-- ---- changing what a target holds

-- what an operator gives that keeps the sort
kept_sort : (F : Frame → Type 0) (b : Bool) (k : Sort) (r : Run Val)
    → SoundAt F (gives_where b the_same (Some k)) r → SoundAt F (Some k) r
kept_sort F true k r s = s
kept_sort F false k r s = absurd s

-- ---- conditions

choose_sound : (gives : Option Sort) (slots : List Slot) (b : Bool) (a o : Act)
    → ActSound gives slots a → ActSound gives slots o → ActSound gives slots (choose b a o)
choose_sound gives slots true a o h l = h
choose_sound gives slots false a o h l = l

choice_sound : (gives : Option Sort) (slots : List Slot) (j : Judgement) (r : Run Val)
    (a o : Act) → wanted one_bool j ≡ []
    → (j.refusals ≡ [] → SoundAt (Fits slots) j.sort r)
    → ActSound gives slots a → ActSound gives slots o → ActSound gives slots (choice r a o)
choice_sound gives slots j r a o e s h l vals attrs f =
    let w : Wanted (Fits slots) one_bool j.sort r = wanted_is (Fits slots) one_bool j r e s in
    goes_on EndsFilter (Allows gives) (OfSort (w).k) (Fits slots) (allowed gives) (r vals attrs) _
    ((w).sound vals attrs f)
    (λ v between is. goes_on EndsFilter (Allows gives) Anything (Fits slots) (allowed gives)
    (plainly (bool_in v) between) _
    (plainly_meets Anything (bool_in v) between (bool_good (w).k v is (w).takes_it))
    (λ holds after _. choose_sound gives slots holds a o h l vals after f))

nothing_sound : (gives : Option Sort) (slots : List Slot) → ActSound gives slots nothing
nothing_sound gives slots vals attrs f = f

in_turn_sound : (gives : Option Sort) (slots : List Slot) (a b : Act) → ActSound gives slots a
    → ActSound gives slots b → ActSound gives slots (run.in_turn a b)
in_turn_sound gives slots a b h l vals attrs f =
    goes_on (Allows gives) (Allows gives) (Fits slots) (Fits slots) (same_why gives)
    (a vals attrs) _ (h vals attrs f) (λ after at g. l after at g)

-- ---- `case`

arm_sound : (gives : Option Sort) (slots : List Slot) (has : Result Bool Failure) (a o : Act)
    → IsGood {A = Bool} Anything has → ActSound gives slots a → ActSound gives slots o
    → ActSound gives slots (arm has a o)
arm_sound gives slots has a o g h l vals attrs f =
    goes_on EndsFilter (Allows gives) Anything (Fits slots) (allowed gives) (plainly has attrs) _
    (plainly_meets Anything has attrs g)
    (λ b after _. choose_sound gives slots b a o h l vals after f)

-- the labels of all arms are of the value's sort, of which nothing is refused
record CaseKnown (scene : Scene) (slots : List Slot) (o : Option Sort) (r : Run Val)
    (as_arms : Arms) : Type 0 where
  pub k : Sort
  pub sound : SoundAt (Fits slots) (Some k) r
  pub are : AreOf scene k (labels as_arms)
  pub have : lacks_labels as_arms ≡ false

or_false : (a b : Bool) → (a || b) ≡ false → (a ≡ false) × (b ≡ false)
or_false true b e = absurd (cc)
or_false false b e = (refl, e)

case_known : (scene : Scene) (slots : List Slot) (at : ℕ) (j : Judgement) (r : Run Val)
    (as_arms : Arms) → rules.cases scene at j as_arms ≡ []
    → (j.refusals ≡ [] → SoundAt (Fits slots) j.sort r)
    → CaseKnown scene slots j.sort r as_arms
case_known scene slots at j r as_arms e s =
    let items : List Item = labels as_arms in
    let two : Bool = differ (common (of_value j.sort) (sorts_of_items scene items)) in
    let wrong : List Refusal = refused_if (lacks_labels as_arms || two) at causes.Mismatch in
    let front : wanted one_of_cases j ++ all_items scene items ≡ [] =
    left_nil (wanted one_of_cases j ++ all_items scene items) wrong e in
    let w : Wanted (Fits slots) one_of_cases j.sort r =
    wanted_is (Fits slots) one_of_cases j r
    (left_nil (wanted one_of_cases j) (all_items scene items) front) s in
    let both : (lacks_labels as_arms ≡ false) × (two ≡ false) =
    or_false (lacks_labels as_arms) two
    (not_refused (lacks_labels as_arms || two) at causes.Mismatch
    (right_nil (wanted one_of_cases j ++ all_items scene items) wrong e)) in
    let one : of_value j.sort ≡ One (w).k =
    ap (λ (o : Option Sort). of_value o) (w).is
    ∙ ap (λ (b : Bool). if b then One (w).k else NoneYet)
    (w).takes_it in
    record {
      k = (w).k;
      sound = (w).sound;
      are =
          all_are scene (w).k items
          (right_nil (wanted one_of_cases j) (all_items scene items) front)
          (subst (λ (k : Common). differ (common k (sorts_of_items scene items)) ≡ false) one
          both.1);
      have = both.0;
    }

cases_sound : (gives : Option Sort) (slots : List Slot) (k : Sort) (r : Run Val)
    (arms_of : Val → Act) → SoundAt (Fits slots) (Some k) r
    → ((v : Val) → sort_of v ≡ k → ActSound gives slots (arms_of v))
    → ActSound gives slots (run.cases r arms_of)
cases_sound gives slots k r arms_of s h vals attrs f =
    goes_on EndsFilter (Allows gives) (OfSort k) (Fits slots) (allowed gives) (r vals attrs) _
    (s vals attrs f) (λ v after is. h v is vals after f)

-- ---- blocks and loops

block_sound : (gives : Option Sort) (slots own : List Slot) (a : Act)
    → ActSound gives (slots ++ own) a → ActSound gives slots (block (defaults own) a)
block_sound gives slots own a h vals attrs f =
    goes_on (Allows gives) (Allows gives) (Fits (slots ++ own)) (Fits slots) (same_why gives)
    (a (vals ++ defaults own) attrs) _
    (h (vals ++ defaults own) attrs
    (fits_append slots own vals (defaults own) f (fits_defaults own)))
    (λ after at g. subst (λ (n : ℕ). Fits slots (take n after)) (sym (fits_length slots vals f))
    (fits_take slots own after g))

abbrev AllOf : Sort → List Val → Type 0
AllOf k [] = ⊤
AllOf k (v ∷ vs) = (sort_of v ≡ k) × AllOf k vs

all_ints : (path : List ℕ) → AllOf sorts.Int (map VInt path)
all_ints [] = tt
all_ints (n ∷ path) = (refl, all_ints path)

all_pairs : (pairs : List (ℕ × ℕ)) → AllOf sorts.Pair (map VPair pairs)
all_pairs [] = tt
all_pairs (p ∷ pairs) = (refl, all_pairs pairs)

path_elements : (v : Val) → sort_of v ≡ sorts.Path → IsGood (AllOf sorts.Int) (elements v)
path_elements (VPath path) e = all_ints path
path_elements _ e = absurd (cc)

clist_elements : (v : Val) → sort_of v ≡ sorts.Clist → IsGood (AllOf sorts.Pair) (elements v)
clist_elements (VClist pairs) e = all_pairs pairs
clist_elements _ e = absurd (cc)

list_is : (k l : Sort) → one_list k ≡ true → is_other_list (Some l) (Some k) ≡ false → l ≡ k
list_is k l o e =
    same_is l k
    (not_false (same_sort l k)
    (subst (λ (b : Bool). (b && not (same_sort l k)) ≡ false) o e))

elements_good : (t : VariableType) (k : Sort) (v : Val) → one_list k ≡ true
    → is_other_list (lists_of t) (Some k) ≡ false → sort_of v ≡ k
    → IsGood (AllOf (sort_of_type t)) (elements v)
elements_good types.Int k v o e s = path_elements v (s ∙ sym (list_is k sorts.Path o e))
elements_good types.Pair k v o e s = clist_elements v (s ∙ sym (list_is k sorts.Clist o e))
elements_good _ k v o e s = absurd (cc)

turns_sound : (gives : Option Sort) (slots : List Slot) (i : Slot) (a : Act)
    → ActSound gives (slots ++ i ∷ []) a → (n : ℕ) → n ≡ length slots → (vs : List Val)
    → AllOf i.1 vs → (vals : Frame) (attrs : Attrs) → Fits slots vals
    → Meets (Allows gives) (Fits slots) (turns n vs a vals attrs)
turns_sound gives slots i a h n e [] all vals attrs f = f
turns_sound gives slots i a h n e (v ∷ vs) all vals attrs f =
    goes_on (Allows gives) (Allows gives) (Fits (slots ++ i ∷ [])) (Fits slots) (same_why gives)
    (a (vals ++ v ∷ []) attrs) _
    (h (vals ++ v ∷ []) attrs (fits_append slots (i ∷ []) vals (v ∷ []) f (all.0, tt)))
    (λ after at g. turns_sound gives slots i a h n e vs all.1 (take n after) at
    (subst (λ (m : ℕ). Fits slots (take m after)) (sym e) (fits_take slots (i ∷ []) after g)))

loop_sound : (gives : Option Sort) (slots : List Slot) (at : ℕ) (t : VariableType)
    (name : List ℕ) (j : Judgement) (r : Run Val) (a : Act) → over_list at t j ≡ []
    → (j.refusals ≡ [] → SoundAt (Fits slots) j.sort r)
    → ActSound gives (slots ++ (name, sort_of_type t) ∷ []) a
    → ActSound gives slots (loop r a)
loop_sound gives slots at t name j r a e s h vals attrs f =
    let other : List Refusal = refused_if (is_other_list (lists_of t) j.sort) at causes.Mismatch in
    let w : Wanted (Fits slots) one_list j.sort r =
    wanted_is (Fits slots) one_list j r (left_nil (wanted one_list j) other e) s in
    let fits_list : is_other_list (lists_of t) (Some (w).k) ≡ false =
    subst (λ (o : Option Sort). is_other_list (lists_of t) o ≡ false) (w).is
    (not_refused (is_other_list (lists_of t) j.sort) at causes.Mismatch
    (right_nil (wanted one_list j) other e)) in
    goes_on EndsFilter (Allows gives) (OfSort (w).k) (Fits slots) (allowed gives) (r vals attrs) _
    ((w).sound vals attrs f)
    (λ v between is. goes_on EndsFilter (Allows gives) (AllOf (sort_of_type t)) (Fits slots)
    (allowed gives) (plainly (elements v) between) _
    (plainly_meets (AllOf (sort_of_type t)) (elements v) between
    (elements_good t (w).k v (w).takes_it fits_list is))
    (λ vs after all. turns_sound gives slots (name, sort_of_type t) a h (length vals)
    (fits_length slots vals f) vs all vals after f))

-- ---- `return` and calls

give_sound : (gives : Option Sort) (slots : List Slot) (at : ℕ) (j : Judgement) (r : Run Val)
    → returned at gives j ≡ [] → (j.refusals ≡ [] → SoundAt (Fits slots) j.sort r)
    → ActSound gives slots (give r)
give_sound None slots at j r e s = absurd (cc)
give_sound (Some k) slots at j r e s =
    let wrong : List Refusal = refused_if (is_other (same_sort k) j.sort) at causes.Mismatch in
    let sound : SoundAt (Fits slots) (Some k) r =
    same_wanted (Fits slots) k j.sort r
    (wanted_at (Fits slots) (same_sort k) j.sort r
    (not_refused (is_other (same_sort k) j.sort) at causes.Mismatch
    (right_nil j.refusals wrong e)) (s (left_nil j.refusals wrong e))) in
    λ vals attrs f. goes_on EndsFilter (Allows (Some k)) (OfSort k) (Fits slots)
    (allowed (Some k)) (r vals attrs) _ (sound vals attrs f) (λ v after is. is)

print_sound : (gives : Option Sort) (slots : List Slot) (js : List Judgement) (r : Run Frame)
    → Arguments (Fits slots) js r → ActSound gives slots (evaluate r)
print_sound gives slots js r a vals attrs f =
    goes_on EndsFilter (Allows gives) (Of (a).kinds) (Fits slots) (allowed gives) (r vals attrs) _
    ((a).give vals attrs f) (λ vs after _. f)

call_act : (scene : Scene) (functions : List (List ℕ × Doing)) (gives : Option Sort)
    (slots : List Slot) (n : Name) (o : Option Signature) (js : List Judgement) (r : Run Frame)
    → AreOfSignatures scene.functions functions
    → named_in scene.functions (name_bytes scene.text n) ≡ o
    → (all_refusals js ≡ [] → Arguments (Fits slots) js r) → seen.call n o js ≡ []
    → ActSound gives slots
    (evaluate (run.call (named_in functions (name_bytes scene.text n)) r))
call_act scene functions gives slots n None js r agree eo args e = absurd (cc)
call_act scene functions gives slots n (Some s) js r agree eo args e =
    let k : CallKnown functions (Fits slots) (name_bytes scene.text n) s js r =
    call_known scene functions (Fits slots) n s js r agree eo args e in
    subst (λ (f : Option Doing). ActSound gives slots (evaluate (run.call f r)))
    (sym (k).found.is_does)
    (λ vals attrs f. goes_on EndsFilter (Allows gives) (IsResult s.gives) (Fits slots)
    (allowed gives) (run.call (Some (k).found.does) r vals attrs) _ ((k).meets vals attrs f)
    (λ v after _. f))

-- ---- statements

module _ (ops : AreTyped) (scene : Scene) (around : names.Around)
    (functions : List (List ℕ × Doing)) (agree : AreOfSignatures scene.functions functions)
    (gives : Option Sort) where
  abbrev at_slots : List Slot → names.Context
  at_slots slots = ctx scene around functions (names_of slots)

  abbrev ar : Around
  ar = record { scene = scene; gives = gives }

  value_at : (vs : Variables) (slots : List Slot) → Sees scene vs slots → (e : Expression)
      → (judge scene vs e).refusals ≡ []
      → SoundAt (Fits slots) (judge scene vs e).sort (value e (at_slots slots))
  value_at vs slots sees e = value_sound ops scene around functions agree e vs slots sees

  assign_sound : (vs : Variables) (slots : List Slot) → Sees scene vs slots → (target : Target)
      (e : Expression) → rules.assign scene vs target e ≡ []
      → ActSound gives slots (run.assign (at_slots slots) target (value e (at_slots slots)))
  assign_sound vs slots sees (targets.Name n) e r =
      assigned_sound scene around functions gives vs slots (targets.Name n)
      (place_of (targets.Name n)) (judge scene vs e) (value e (at_slots slots)) sees
      (value_at vs slots sees e) (aim scene vs (targets.Name n)) refl r
  assign_sound vs slots sees (targets.Attribute at attributes.Dest) e r =
      assign_run scene around functions gives vs slots (targets.Attribute at attributes.Dest)
      sorts.Dest (value e (at_slots slots)) sees refl
      (dest_refused (Fits slots) scene vs e (value e (at_slots slots)) r
      (value_at vs slots sees e))
  assign_sound vs slots sees (targets.Attribute at a) e r =
      assigned_sound scene around functions gives vs slots (targets.Attribute at a)
      (place_of (targets.Attribute at a)) (judge scene vs e) (value e (at_slots slots)) sees
      (value_at vs slots sees e) (aim scene vs (targets.Attribute at a)) refl r

  changed_sound : (vs : Variables) (slots : List Slot) → Sees scene vs slots
      → (target : Target) (m : Method) (e : Expression) (a : Aim) → aim scene vs target ≡ a
      → changed (place_of target) a m (judge scene vs e) ≡ []
      → ActSound gives slots
      (run.assign (at_slots slots) target
      (on_two (value (read target) (at_slots slots)) (value e (at_slots slots))
      (method_of m.kind)))
  changed_sound vs slots sees target m e (Holds k) ea r =
      assign_run scene around functions gives vs slots target k _ sees ea
      (kept_sort (Fits slots) _ k _
      (of_two_sound (Fits slots) (method m.kind) (method_of m.kind) (list_takes ops m.kind)
      (place_of target) (operand (place_of target) k) (judge scene vs e) _ _ r
      (λ _. target_read scene around functions vs slots target k sees ea)
      (value_at vs slots sees e)))
  changed_sound vs slots sees target m e IsFixed ea r = absurd (cc)
  changed_sound vs slots sees target m e Unknown ea r = absurd (cc)

  cleared_sound : (vs : Variables) (slots : List Slot) → Sees scene vs slots
      → (target : Target) (a : Aim) → aim scene vs target ≡ a
      → cleared (place_of target) a ≡ []
      → ActSound gives slots
      (run.assign (at_slots slots) target
      (on_value (value (read target) (at_slots slots)) emptied_of))
  cleared_sound vs slots sees target (Holds k) ea r =
      assign_run scene around functions gives vs slots target k _ sees ea
      (kept_sort (Fits slots) _ k _
      (of_one_sound (Fits slots) one_list the_same emptied_of (ops).empty
      (operand (place_of target) k) _ r
      (λ _. target_read scene around functions vs slots target k sees ea)))
  cleared_sound vs slots sees target IsFixed ea r = absurd (cc)
  cleared_sound vs slots sees target Unknown ea r = absurd (cc)

  declare_sound : (vs : Variables) (slots : List Slot) → Sees scene vs slots
      → (t : VariableType) (n : Name) (e : Option Expression)
      → slot_in slots (name_bytes scene.text n) ≡ Some (sort_of_type t)
      → rules.initial scene vs t e ≡ []
      → ActSound gives slots
      (run.assign (at_slots slots) (targets.Name n) (run.initial t e (at_slots slots)))
  declare_sound vs slots sees t n None h r vals attrs f =
      variable_set gives slots (name_bytes scene.text n) (sort_of_type t)
      (default_of (sort_of_type t)) vals attrs h (default_sort (sort_of_type t)) f
  declare_sound vs slots sees t n (Some e) h r vals attrs f =
      let s : SoundAt (Fits slots) (Some (sort_of_type t)) (value e (at_slots slots)) =
      same_wanted (Fits slots) (sort_of_type t) (judge scene vs e).sort
      (value e (at_slots slots))
      (wanted_is (Fits slots) (same_sort (sort_of_type t)) (judge scene vs e)
      (value e (at_slots slots)) r (value_at vs slots sees e)) in
      goes_on EndsFilter (Allows gives) (OfSort (sort_of_type t)) (Fits slots) (allowed gives)
      (value e (at_slots slots) vals attrs) _ (s vals attrs f)
      (λ v after is. variable_set gives slots (name_bytes scene.text n) (sort_of_type t) v vals
      after h is f)

  return_sound : (vs : Variables) (slots : List Slot) → Sees scene vs slots → (at : ℕ)
      (e : Option Expression) → rules.return ar vs at e ≡ []
      → ActSound gives slots (run.result e (at_slots slots))
  return_sound vs slots sees at None r = λ vals attrs f. tt
  return_sound vs slots sees at (Some e) r =
      give_sound gives slots at (judge scene vs e) (value e (at_slots slots)) r
      (value_at vs slots sees e)

  arguments_at : (vs : Variables) (slots : List Slot) → Sees scene vs slots
      → (es : Expressions) → all_refusals (judge_all scene vs es) ≡ []
      → Arguments (Fits slots) (judge_all scene vs es) (values es (at_slots slots))
  arguments_at vs slots sees es r =
      values_sound ops scene around functions agree es vs slots sees r

  -- what runs within variables more
  within_is : (slots own : List Slot) (a : names.Context → Act)
      → ActSound gives (slots ++ own) (a (at_slots (slots ++ own)))
      → ActSound gives (slots ++ own) (a (within (at_slots slots) own))
  within_is slots own a h =
      subst
      (λ (ns : List (List ℕ)). ActSound gives (slots ++ own) (a (ctx scene around functions ns)))
      (map-append (λ (v : Slot). v.0) slots own) h

  -- what is seen in a loop's body, whose variable is one more
  record InLoop (vs : Variables) (slots : List Slot) (n : Name) (k : Sort) (ds : List Slot)
      : Type 0 where
    pub sees : Sees scene (vs ++ declared scene n k true ∷ [])
        (slots ++ (name_bytes scene.text n, k) ∷ [])
    pub hosts : Hosts (slots ++ (name_bytes scene.text n, k) ∷ []) ds

  in_loop : (vs : Variables) (slots : List Slot) (n : Name) (k : Sort) (ds : List Slot)
      → Sees scene vs slots → Hosts slots ds → declaring scene vs n ≡ []
      → Fresh scene (vs ++ declared scene n k true ∷ []) ds → InLoop vs slots n k ds
  in_loop vs slots n k ds sees hosts e f =
      let i : Slot = (name_bytes scene.text n, k) in
      let x : Variable = declared scene n k true in
      let one : Fresh scene vs (i ∷ []) = (not_seen scene vs n e, tt) in
      let own : Hosts (slots ++ i ∷ []) (i ∷ []) = hosts_own scene vs slots (i ∷ []) one in
      record {
        sees =
            sees_push scene vs (slots ++ i ∷ []) x (sees_within scene vs slots (i ∷ []) sees one)
            own.0;
        hosts =
            hosts_loop scene (vs ++ x ∷ []) slots i ds (seen_here scene vs x) f hosts;
      }

  mutual
    pub act_sound : (s : Statement) (vs : Variables) (slots : List Slot) → Sees scene vs slots
        → Hosts slots (run.declared scene.text s) → (check ar vs s).refusals ≡ []
        → ActSound gives slots (act s (at_slots slots))
    act_sound (Braced ss) vs slots sees h e =
        let own : List Slot = all_declared scene.text ss in
        let f : Fresh scene vs own = all_fresh ss ar vs e in
        block_sound gives slots own _
        (within_is slots own (acts ss)
        (acts_sound ss vs (slots ++ own) (sees_within scene vs slots own sees f)
        (hosts_own scene vs slots own f) e))
    act_sound Nothing vs slots sees h e = nothing_sound gives slots
    act_sound (Declare t n a) vs slots sees h e =
        declare_sound vs slots sees t n a h.0
        (right_nil (declaring scene vs n) (rules.initial scene vs t a) e)
    act_sound (Assign target a) vs slots sees h e = assign_sound vs slots sees target a e
    act_sound (ChangeBy target m place a) vs slots sees h e =
        changed_sound vs slots sees target m a (aim scene vs target) refl e
    act_sound (Clear target) vs slots sees h e =
        cleared_sound vs slots sees target (aim scene vs target) refl e
    act_sound (Unset place at a) vs slots sees h e =
        λ vals attrs f. attributes_sound gives slots vals (without_attribute a attrs) attrs f
        (without_good a attrs
        (not_false (can_be_unset a)
        (not_refused (not (can_be_unset a)) at causes.NotAssignable e)))
    act_sound (If a s) vs slots sees h e =
        let w : List Refusal = wanted one_bool (judge scene vs a) in
        choice_sound gives slots (judge scene vs a) (value a (at_slots slots)) _ nothing
        (left_nil w (check ar vs s).refusals e) (value_at vs slots sees a)
        (act_sound s vs slots sees h (right_nil w (check ar vs s).refusals e))
        (nothing_sound gives slots)
    act_sound (IfElse a s t) vs slots sees h e =
        let w : List Refusal = wanted one_bool (judge scene vs a) in
        let after : Variables = (check ar vs s).variables in
        let rs : List Refusal = (check ar vs s).refusals in
        let rt : List Refusal = (check ar after t).refusals in
        let ds : List Slot = run.declared scene.text s in
        let es : List Slot = run.declared scene.text t in
        let both : rs ++ rt ≡ [] = right_nil w (rs ++ rt) e in
        choice_sound gives slots (judge scene vs a) (value a (at_slots slots)) _ _
        (left_nil w (rs ++ rt) e) (value_at vs slots sees a)
        (act_sound s vs slots sees (hosts_front slots ds es h) (left_nil rs rt both))
        (act_sound t after slots
        (subst (λ (us : Variables). Sees scene us slots) (sym (adds s ar vs))
        (sees_more scene vs slots ds sees (hosts_front slots ds es h)))
        (hosts_back slots ds es h) (right_nil rs rt both))
    act_sound (Case at a as_arms) vs slots sees h e =
        let cs : List Refusal = rules.cases scene at (judge scene vs a) as_arms in
        let rs : List Refusal = (check_arms ar vs as_arms).refusals in
        let k : CaseKnown scene slots (judge scene vs a).sort (value a (at_slots slots)) as_arms =
        case_known scene slots at (judge scene vs a) (value a (at_slots slots)) as_arms
        (left_nil cs rs e) (value_at vs slots sees a) in
        cases_sound gives slots (k).k (value a (at_slots slots)) _ (k).sound
        (λ v is. arms_sound as_arms vs slots sees h (right_nil cs rs e) (k).k (k).are (k).have
        nothing (nothing_sound gives slots) v is)
    act_sound (CaseElse at a as_arms ss) vs slots sees h e =
        let cs : List Refusal = rules.cases scene at (judge scene vs a) as_arms in
        let after : Variables = (check_arms ar vs as_arms).variables in
        let rs : List Refusal = (check_arms ar vs as_arms).refusals in
        let rt : List Refusal = (check_all ar after ss).refusals in
        let ds : List Slot = arms_declare scene.text as_arms in
        let es : List Slot = all_declared scene.text ss in
        let both : rs ++ rt ≡ [] = right_nil cs (rs ++ rt) e in
        let k : CaseKnown scene slots (judge scene vs a).sort (value a (at_slots slots)) as_arms =
        case_known scene slots at (judge scene vs a) (value a (at_slots slots)) as_arms
        (left_nil cs (rs ++ rt) e) (value_at vs slots sees a) in
        cases_sound gives slots (k).k (value a (at_slots slots)) _ (k).sound
        (λ v is. arms_sound as_arms vs slots sees (hosts_front slots ds es h)
        (left_nil rs rt both) (k).k (k).are (k).have (acts ss (at_slots slots))
        (acts_sound ss after slots
        (subst (λ (us : Variables). Sees scene us slots) (sym (arms_add as_arms ar vs))
        (sees_more scene vs slots ds sees (hosts_front slots ds es h)))
        (hosts_back slots ds es h) (right_nil rs rt both)) v is)
    act_sound (For at t n a body) vs slots sees h e =
        let k : Sort = sort_of_type t in
        let i : Slot = (name_bytes scene.text n, k) in
        let x : Variable = declared scene n k true in
        let ol : List Refusal = over_list at t (judge scene vs a) in
        let dc : List Refusal = declaring scene vs n in
        let rs : List Refusal = (check ar (vs ++ x ∷ []) body).refusals in
        let front : ol ++ dc ≡ [] = left_nil (ol ++ dc) rs e in
        let back : rs ≡ [] = right_nil (ol ++ dc) rs e in
        let ds : List Slot = run.declared scene.text body in
        let l : InLoop vs slots n k ds =
        in_loop vs slots n k ds sees h (right_nil ol dc front)
        (fresh body ar (vs ++ x ∷ []) back) in
        loop_sound gives slots at t (name_bytes scene.text n) (judge scene vs a)
        (value a (at_slots slots)) _ (left_nil ol dc front) (value_at vs slots sees a)
        (within_is slots (i ∷ []) (act body)
        (act_sound body (vs ++ x ∷ []) (slots ++ i ∷ []) (l).sees (l).hosts back))
    act_sound Accept vs slots sees h e = λ vals attrs f. tt
    act_sound Reject vs slots sees h e = λ vals attrs f. tt
    act_sound (Return at a) vs slots sees h e = return_sound vs slots sees at a e
    act_sound (Print es) vs slots sees h e =
        print_sound gives slots (judge_all scene vs es) _ (arguments_at vs slots sees es e)
    act_sound (Printn es) vs slots sees h e =
        print_sound gives slots (judge_all scene vs es) _ (arguments_at vs slots sees es e)
    act_sound (Call n place es) vs slots sees h e =
        call_act scene functions gives slots n _ (judge_all scene vs es) _ agree refl
        (arguments_at vs slots sees es) e

    pub acts_sound : (ss : Statements) (vs : Variables) (slots : List Slot)
        → Sees scene vs slots → Hosts slots (all_declared scene.text ss)
        → (check_all ar vs ss).refusals ≡ [] → ActSound gives slots (acts ss (at_slots slots))
    acts_sound NoStatements vs slots sees h e = nothing_sound gives slots
    acts_sound (AndStatements s ss) vs slots sees h e =
        let after : Variables = (check ar vs s).variables in
        let rs : List Refusal = (check ar vs s).refusals in
        let rt : List Refusal = (check_all ar after ss).refusals in
        let ds : List Slot = run.declared scene.text s in
        let es : List Slot = all_declared scene.text ss in
        in_turn_sound gives slots _ _
        (act_sound s vs slots sees (hosts_front slots ds es h) (left_nil rs rt e))
        (acts_sound ss after slots
        (subst (λ (us : Variables). Sees scene us slots) (sym (adds s ar vs))
        (sees_more scene vs slots ds sees (hosts_front slots ds es h)))
        (hosts_back slots ds es h) (right_nil rs rt e))

    pub arms_sound : (as_arms : Arms) (vs : Variables) (slots : List Slot)
        → Sees scene vs slots → Hosts slots (arms_declare scene.text as_arms)
        → (check_arms ar vs as_arms).refusals ≡ [] → (k : Sort)
        → AreOf scene k (labels as_arms) → lacks_labels as_arms ≡ false → (o : Act)
        → ActSound gives slots o → (v : Val) → sort_of v ≡ k
        → ActSound gives slots (arms_act as_arms (at_slots slots) o v)
    arms_sound NoArms vs slots sees h e k are have o so v is = so
    arms_sound (AndArms items ss more) vs slots sees h e k are have o so v is =
        let after : Variables = (check_all ar vs ss).variables in
        let rs : List Refusal = (check_all ar vs ss).refusals in
        let rt : List Refusal = (check_arms ar after more).refusals in
        let ds : List Slot = all_declared scene.text ss in
        let es : List Slot = arms_declare scene.text more in
        let has : (is_empty items ≡ false) × (lacks_labels more ≡ false) =
        or_false (is_empty items) (lacks_labels more) have in
        arm_sound gives slots _ _ _
        (label_good scene around functions (names_of slots) k items v has.0
        (are_front scene k items (labels more) are) is)
        (acts_sound ss vs slots sees (hosts_front slots ds es h) (left_nil rs rt e))
        (arms_sound more after slots
        (subst (λ (us : Variables). Sees scene us slots) (sym (all_add ss ar vs))
        (sees_more scene vs slots ds sees (hosts_front slots ds es h)))
        (hosts_back slots ds es h) (right_nil rs rt e) k
        (are_back scene k items (labels more) are) has.1 o so v is)
