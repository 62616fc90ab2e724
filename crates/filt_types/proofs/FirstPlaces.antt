-- The first place of the name of a variable, in a list that grows and shrinks at its end.
use Rattle.std.proofs.Common.{◌≡◌, ◌∙◌, sym, ap, refl, ℕ, zero, suc, ◌+◌, ◌<◌, Bool, true, false, cond, if◌then◌else◌, true≢false, List, [], ◌∷◌, ◌++◌, length, arith, Option, Some, None, is_some, option_map, option_copied, nat_lt, Bor, slice_get, ◌-◌, ◌≤◌, ◌||◌, take, drop, get_or, subst, length-append}
use Rattle.std.specs.List.{list_any, remove}
use Rattle.std.specs.Map.{lookup}
use Rattle.std.specs.Prelude.{IfSome}
use Rattle.std.proofs.lemmas.Bool.{eqb-true, eq-eqb}
use Rattle.std.proofs.Math.Seq.{take-append_seam}
use Rattle.std.proofs.lemmas.List.{length-take-le, take_all}
use Rattle.std.proofs.lemmas.Option.{slice_get_past, slice_get_read}
use Rattle.std.proofs.lemmas.Bool.Decides.{nat_tests}
use Rattle.std.proofs.lemmas.Slice.Eq.{bytes_eq-Decides}
use Rattle.filt_meaning.specs.Names.{same_name}
use Rattle.filt_types.specs.Places.{ArePlaces, Forgets, Key, Notes, has_place, is_key, is_place, place_in}
use Rattle.filt_types.specs.Listed.{variable_seen, variables_of}
use Rattle.filt_types.specs.declared.variable_list.Variable.{Variable as SeenVariable}
use Rattle.filt_types.specs.Scenes.{Variable, Variables, variable_in}
use Rattle.filt_types.proofs.Lookups.{next_got, nothing_left}

abbrev or_else : Option ℕ → Option ℕ → Option ℕ
or_else (Some i) other = Some i
or_else None other = other

abbrev one_place : Bool → ℕ → Option ℕ
one_place b i = cond b (Some i) None

abbrev next : Option ℕ → Option ℕ
next o = option_map (λ n. suc n) o

same_is : (a b : List ℕ) → same_name a b ≡ true → a ≡ b
same_is a b same = (bytes_eq-Decides a b).0 same

-- ---- one variable more

pushed : (b last : Bool) (n : ℕ) (o p : Option ℕ) → p ≡ or_else o (one_place last n) → (if b then Some 0 else next p) ≡ or_else (if b then Some 0 else next o) (one_place last (suc n))
pushed true last n o p is = refl
pushed false last n (Some i) p is = ap next is
pushed false true n None p is = ap next is
pushed false false n None p is = ap next is

place_push : (vs : Variables) (v : Variable) (name : List ℕ) → place_in (vs ++ v ∷ []) name ≡ or_else (place_in vs name) (one_place (same_name v.name name) (length vs))
place_push [] v name = first (same_name v.name name)
  where
    first : (b : Bool) → (if b then Some 0 else None) ≡ one_place b 0
    first true = refl
    first false = refl
place_push (w ∷ vs) v name = pushed (same_name w.name name) (same_name v.name name) (length vs) (place_in vs name) (place_in (vs ++ v ∷ []) name) (place_push vs v name)

-- the look-up by a name, in a table in which one name's place is written
abbrev Written : List ℕ → Option ℕ → List (Key × ℕ) → List (Key × ℕ) → Type 0
Written name at old new = (asked : Key) → lookup (is_key asked.now) new ≡ cond (same_name name asked.now) at (lookup (is_key asked.now) old)

noted_one : (t : Bool) (i : ℕ) (o : Option ℕ) → (t ≡ true → o ≡ None) → cond t (Some i) o ≡ or_else o (one_place t i)
noted_one true i o none = ap (λ (p : Option ℕ). or_else p (Some i)) (sym (none refl))
noted_one false i None none = refl
noted_one false i (Some j) none = refl

-- a name that had no place has the next one
pub noted_new : (name : List ℕ) (place : ℕ) (old new : List (Key × ℕ)) → is_some (lookup (is_key name) old) ≡ false → Written name (Some place) old new → Notes name place old new
noted_new name place old new none written vs v named number are asked =
    written (record { ref_ptr = (0, 0); now = asked }) ∙ ap (λ (o : Option ℕ). cond (same_name name asked) (Some place) o) (are asked)
    ∙ noted_one (same_name name asked) place (place_in vs asked) (λ same. no_place (place_in vs asked) (ap is_some (sym (are asked)) ∙ ap (λ (n : List ℕ). is_some (lookup (is_key n) old)) (sym (same_is name asked same)) ∙ none))
    ∙ ap (λ (n : ℕ). or_else (place_in vs asked) (one_place (same_name name asked) n)) number
    ∙ ap (λ (n : List ℕ). or_else (place_in vs asked) (one_place (same_name n asked) (length vs))) (sym named)
    ∙ sym (place_push vs v asked)
  where
    no_place : (o : Option ℕ) → is_some o ≡ false → o ≡ None
    no_place (Some i) none = absurd (true≢false none)
    no_place None none = refl

known_stays : (o : Option ℕ) (t : Bool) (i : ℕ) → (t ≡ true → is_some o ≡ true) → o ≡ or_else o (one_place t i)
known_stays (Some j) t i known = refl
known_stays None true i known = absurd (true≢false (sym (known refl)))
known_stays None false i known = refl

-- one that has a place keeps it
pub noted_again : (name : List ℕ) (place : ℕ) (old : List (Key × ℕ)) → is_some (lookup (is_key name) old) ≡ true → Notes name place old old
noted_again name place old there vs v named number are asked =
    are asked
    ∙ known_stays (place_in vs asked) (same_name v.name asked) (length vs) (λ same. ap is_some (sym (are asked)) ∙ ap (λ (n : List ℕ). is_some (lookup (is_key n) old)) (sym (same_is v.name asked same) ∙ named) ∙ there)
    ∙ sym (place_push vs v asked)

-- ---- the last variable is gone

abbrev IsBelow : ℕ → Option ℕ → Type 0
IsBelow n None = 0 ≤ n
IsBelow n (Some i) = i < n

below_next : (b : Bool) (n : ℕ) (o : Option ℕ) → IsBelow n o → IsBelow (suc n) (if b then Some 0 else next o)
below_next true n o below = omega arith
below_next false n None below = omega arith
below_next false n (Some i) below = omega (arith, below)

place_below : (vs : Variables) (name : List ℕ) → IsBelow (length vs) (place_in vs name)
place_below [] name = omega arith
place_below (v ∷ vs) name = below_next (same_name v.name name) (length vs) (place_in vs name) (place_below vs name)

forgot_one : (t : Bool) (n : ℕ) (o : Option ℕ) → (t ≡ true → o ≡ None) → cond t None (or_else o (one_place t n)) ≡ o
forgot_one true n o none = sym (none refl)
forgot_one false n None none = refl
forgot_one false n (Some i) none = refl

none_before : (n : ℕ) (o : Option ℕ) (t : Bool) → IsBelow n o → is_place n (or_else o (one_place t n)) ≡ true → o ≡ None
none_before n None t below is = refl
none_before n (Some i) t below is = absurd (omega (arith, below, eqb-true i n is))

-- a name that was the last one's alone has no place
pub forgot_last : (name : List ℕ) (place : ℕ) (old new : List (Key × ℕ)) → has_place name place old ≡ true → Written name None old new → Forgets name place old new
forgot_last name place old new there written vs v named number are asked =
    let pushes : lookup (is_key asked) old ≡ or_else (place_in vs asked) (one_place (same_name name asked) (length vs)) = are asked ∙ place_push vs v asked ∙ ap (λ (n : List ℕ). or_else (place_in vs asked) (one_place (same_name n asked) (length vs))) named in
    let alone : same_name name asked ≡ true → place_in vs asked ≡ None =
    λ same. none_before (length vs) (place_in vs asked) (same_name name asked) (place_below vs asked)
    (ap (λ (o : Option ℕ). is_place (length vs) o) (sym pushes) ∙ ap (λ (n : List ℕ). is_place (length vs) (lookup (is_key n) old)) (sym (same_is name asked same)) ∙ ap (λ (k : ℕ). is_place k (lookup (is_key name) old)) (sym number) ∙ there) in
    written (record { ref_ptr = (0, 0); now = asked }) ∙ ap (λ (o : Option ℕ). cond (same_name name asked) None o) pushes
    ∙ forgot_one (same_name name asked) (length vs) (place_in vs asked) alone

stays_known : (n : ℕ) (o : Option ℕ) (t : Bool) → (t ≡ true → is_place n (or_else o (one_place t n)) ≡ false) → or_else o (one_place t n) ≡ o
stays_known n (Some i) t other = refl
stays_known n None true other = absurd (true≢false (sym (eq-eqb n n refl) ∙ other refl))
stays_known n None false other = refl

-- another variable's place stays
pub forgot_other : (name : List ℕ) (place : ℕ) (old : List (Key × ℕ)) → has_place name place old ≡ false → Forgets name place old old
forgot_other name place old elsewhere vs v named number are asked =
    let pushes : lookup (is_key asked) old ≡ or_else (place_in vs asked) (one_place (same_name name asked) (length vs)) = are asked ∙ place_push vs v asked ∙ ap (λ (n : List ℕ). or_else (place_in vs asked) (one_place (same_name n asked) (length vs))) named in
    pushes
    ∙ stays_known (length vs) (place_in vs asked) (same_name name asked)
    (λ same. ap (λ (o : Option ℕ). is_place (length vs) o) (sym pushes) ∙ ap (λ (n : List ℕ). is_place (length vs) (lookup (is_key n) old)) (sym (same_is name asked same)) ∙ ap (λ (k : ℕ). is_place k (lookup (is_key name) old)) (sym number) ∙ elsewhere)

-- ---- what stands at a place

abbrev at_place : Variables → Option ℕ → Option Variable
at_place vs None = None
at_place vs (Some i) = slice_get vs i

at_next : (b : Bool) (v : Variable) (vs : Variables) (o : Option ℕ) (p : Option Variable) → p ≡ at_place vs o → (if b then Some v else p) ≡ at_place (v ∷ vs) (if b then Some 0 else next o)
at_next true v vs o p is = refl
at_next false v vs None p is = is
at_next false v vs (Some i) p is = is

variable_there : (vs : Variables) (name : List ℕ) → variable_in vs name ≡ at_place vs (place_in vs name)
variable_there [] name = refl
variable_there (v ∷ vs) name = at_next (same_name v.name name) v vs (place_in vs name) (variable_in vs name) (variable_there vs name)

pub none_named : (vs : Variables) (name : List ℕ) → None ≡ place_in vs name → None ≡ variable_in vs name
none_named vs name is = ap (λ (o : Option ℕ). at_place vs o) is ∙ sym (variable_there vs name)

seen_there : (vs : List SeenVariable) (i : ℕ) → option_map variable_seen (slice_get vs i) ≡ slice_get (variables_of vs) i
seen_there [] i = refl
seen_there (v ∷ vs) zero = refl
seen_there (v ∷ vs) (suc i) = seen_there vs i

pub one_named : (vs : List SeenVariable) (name : List ℕ) (i : ℕ) → Some i ≡ place_in (variables_of vs) name → option_map variable_seen (slice_get vs i) ≡ variable_in (variables_of vs) name
one_named vs name i is = seen_there vs i ∙ ap (λ (o : Option ℕ). at_place (variables_of vs) o) is ∙ sym (variable_there (variables_of vs) name)

some_next : (b c : Bool) (o : Option ℕ) → is_some o ≡ c → is_some (if b then Some 0 else next o) ≡ (b || c)
some_next true c o is = refl
some_next false c None is = is
some_next false c (Some i) is = is

pub name_there : (vs : Variables) (name : List ℕ) → is_some (place_in vs name) ≡ list_any (λ v. same_name v.name name) vs
name_there [] name = refl
name_there (v ∷ vs) name = some_next (same_name v.name name) (list_any (λ v. same_name v.name name) vs) (place_in vs name) (name_there vs name)

-- ---- the list in memory

less_no : (a b : ℕ) → nat_lt a b ≡ false → b ≤ a
less_no a b is = grind (arith, nat_tests)

less_so : (a b : ℕ) → nat_lt a b ≡ true → a < b
less_so a b is = grind (arith, nat_tests)

pub got : (vs : List SeenVariable) (i : ℕ) (r : Option (Bor SeenVariable)) → is_some r ≡ nat_lt i (length vs) → IfSome r (λ v. v.now ≡ get_or vs i v.now) → option_copied r ≡ slice_get vs i
got vs i None none at = sym (slice_get_past vs i (less_no i (length vs) (sym none)))
got vs i (Some b) some at = sym (slice_get_read vs (length vs) i b.now refl (less_so i (length vs) (sym some)) at)

pub seen_push : (vs : List SeenVariable) (v : SeenVariable) → variables_of (vs ++ v ∷ []) ≡ variables_of vs ++ variable_seen v ∷ []
seen_push [] v = refl
seen_push (w ∷ vs) v = ap (λ (ws : Variables). variable_seen w ∷ ws) (seen_push vs v)

seen_length : (vs : List SeenVariable) → length (variables_of vs) ≡ length vs
seen_length [] = refl
seen_length (v ∷ vs) = ap (λ (n : ℕ). suc n) (seen_length vs)

pub noted_in : (vs now : List SeenVariable) (v : SeenVariable) (place : ℕ) (old new : List (Key × ℕ)) → now ≡ vs ++ v ∷ [] → place ≡ length vs → ArePlaces (variables_of vs) old → Notes v.name.now place old new → ArePlaces (variables_of now) new
noted_in vs now v place old new is number are noted =
    subst (λ (ws : Variables). ArePlaces ws new) (sym (ap variables_of is ∙ seen_push vs v))
    (noted (variables_of vs) (variable_seen v) refl (number ∙ sym (seen_length vs)) are)

pub forgotten_in : (vs now : List SeenVariable) (v : SeenVariable) (place : ℕ) (old new : List (Key × ℕ)) → vs ≡ now ++ v ∷ [] → place ≡ length now → ArePlaces (variables_of vs) old → Forgets v.name.now place old new → ArePlaces (variables_of now) new
forgotten_in vs now v place old new is number are forgets =
    forgets (variables_of now) (variable_seen v) refl (number ∙ sym (seen_length now))
    (subst (λ (ws : Variables). ArePlaces ws old) (ap variables_of is ∙ seen_push now v) are)

front_of : (ws : Variables) (v : Variable) → ws ≡ take (length (ws ++ v ∷ []) - 1) (ws ++ v ∷ [])
front_of ws v = let e : length (ws ++ v ∷ []) - 1 ≡ length ws = omega (arith, length-append ws (v ∷ [])) in sym (ap (λ (n : ℕ). take n (ws ++ v ∷ [])) e ∙ take-append_seam ws (v ∷ []))

pub seen_front : (vs now : List SeenVariable) (v : SeenVariable) → vs ≡ now ++ v ∷ [] → variables_of now ≡ take (length (variables_of vs) - 1) (variables_of vs)
seen_front vs now v is = front_of (variables_of now) (variable_seen v) ∙ ap (λ (ws : Variables). take (length ws - 1) ws) (sym (seen_push now v) ∙ ap variables_of (sym is))

seen_removed : (vs : List SeenVariable) (i : ℕ) → i < length vs → take i (variables_of vs) ++ variables_of (drop (i + 1) vs) ≡ remove (variables_of vs) i
seen_removed [] i below = absurd (omega arith)
seen_removed (v ∷ vs) zero below = refl
seen_removed (v ∷ vs) (suc i) below =
    let e : suc i + 1 ≡ suc (i + 1) = omega arith in
    rw e (ap (λ (ws : Variables). variable_seen v ∷ ws) (seen_removed vs i (omega (arith, below))))

drop_short : (vs : List SeenVariable) (i : ℕ) → length (drop i vs) ≤ length vs - i
drop_short [] zero = omega arith
drop_short [] (suc i) = omega arith
drop_short (v ∷ vs) zero = omega arith
drop_short (v ∷ vs) (suc i) = omega (arith, drop_short vs i)

-- what is left where those behind a place are taken back, and added again
pub removed_so : (vs at behind again : List SeenVariable) (i : ℕ) (old cut now : Variables) → i < length vs → at ≡ vs → behind ≡ take (length at - (i + 1)) (drop (i + 1) at) → again ≡ behind → variables_of vs ≡ old → cut ≡ take i old → now ≡ cut ++ variables_of again → now ≡ remove old i
removed_so vs at behind again i old cut now below is_at is_behind is_again is_old is_cut is_now =
    let rest : again ≡ drop (i + 1) vs = is_again ∙ is_behind ∙ take_all (length at - (i + 1)) (drop (i + 1) at) (drop_short at (i + 1)) ∙ ap (λ (us : List SeenVariable). drop (i + 1) us) is_at in
    is_now ∙ ap (λ (us : List SeenVariable). cut ++ variables_of us) rest ∙ ap (λ (us : Variables). us ++ variables_of (drop (i + 1) vs)) (is_cut ∙ ap (λ (us : Variables). take i us) (sym is_old))
    ∙ seen_removed vs i below ∙ ap (λ (us : Variables). remove us i) is_old

joined : (ws us : Variables) (v : Variable) → ws ++ v ∷ us ≡ (ws ++ v ∷ []) ++ us
joined [] us v = refl
joined (w ∷ ws) us v = ap (λ (xs : Variables). w ∷ xs) (joined ws us v)

pub one_more : (ws now : Variables) (more : List SeenVariable) (i : ℕ) (d : SeenVariable) → i < length more → now ≡ ws ++ variable_seen (get_or more i d) ∷ [] → ws ++ variables_of (drop i more) ≡ now ++ variables_of (drop (i + 1) more)
one_more ws now more i d below pushed =
    ap (λ (vs : List SeenVariable). ws ++ variables_of vs) (next_got more i d below) ∙ joined ws (variables_of (drop (i + 1) more)) (variable_seen (get_or more i d))
    ∙ ap (λ (us : Variables). us ++ variables_of (drop (i + 1) more)) (sym pushed)

no_end : (ws : Variables) → ws ++ [] ≡ ws
no_end [] = refl
no_end (w ∷ ws) = ap (λ (us : Variables). w ∷ us) (no_end ws)

pub no_more : (ws : Variables) (more : List SeenVariable) (i : ℕ) → length more ≤ i → ws ++ variables_of (drop i more) ≡ ws
no_more ws more i past = ap (λ (vs : List SeenVariable). ws ++ variables_of vs) (nothing_left more i past) ∙ no_end ws

pub cut_twice : (ws now : Variables) (n : ℕ) → n < length ws → now ≡ take (length ws - 1) ws → take n now ≡ take n ws
cut_twice ws now n below is = ap (λ (us : Variables). take n us) is ∙ shorter ws n (length ws - 1) (omega (arith, below))
  where
    shorter : (ws : Variables) (n k : ℕ) → n ≤ k → take n (take k ws) ≡ take n ws
    shorter [] zero zero le = refl
    shorter [] zero (suc k) le = refl
    shorter [] (suc n) zero le = refl
    shorter [] (suc n) (suc k) le = refl
    shorter (w ∷ ws) zero zero le = refl
    shorter (w ∷ ws) zero (suc k) le = refl
    shorter (w ∷ ws) (suc n) zero le = absurd (omega (arith, le))
    shorter (w ∷ ws) (suc n) (suc k) le = ap (λ (us : Variables). w ∷ us) (shorter ws n k (omega (arith, le)))

pub all_kept : (ws : Variables) (n : ℕ) → length ws ≤ n → ws ≡ take n ws
all_kept [] zero le = refl
all_kept [] (suc n) le = refl
all_kept (w ∷ ws) zero le = absurd (omega (arith, le))
all_kept (w ∷ ws) (suc n) le = ap (λ (us : Variables). w ∷ us) (all_kept ws n (omega (arith, le)))

pub shorter_by_one : (ws now : Variables) (n : ℕ) → n < length ws → now ≡ take (length ws - 1) ws → length now < length ws
shorter_by_one ws now n below is = let e : length now ≡ length ws - 1 = ap (λ (us : Variables). length us) is ∙ length-take-le (length ws - 1) ws (omega arith) in omega (arith, below, e)
