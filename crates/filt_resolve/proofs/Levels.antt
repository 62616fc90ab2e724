-- The last places of a block's names, and of names block by block.
use Rattle.std.proofs.Common.{◌≡◌, ◌<◌, ◌≤◌, ℕ, suc, ◌+◌, ◌-◌, Bool, true, false, cond, if◌then◌else◌, true≢false, nat_eq, List, [], ◌∷◌, ◌++◌, length, take, get_or, Option, Some, None, IfSome, refl, sym, ap, subst, ◌∙◌, arith, length-append, length-take, append_assoc, append-nil, Bor}
use Rattle.std.specs.Map.{lookup}
use Rattle.std.specs.Cmp.Lexicographic.{pointwise}
use Rattle.std.proofs.lemmas.Cmp.{nat_list_eq_equiv}
use Rattle.std.proofs.lemmas.List.{length-take-le, map-append, take_all, take_more}
use Rattle.indexmap.specs.IndexMap.{insert_entry}
use Rattle.filt_meaning.specs.Names.{same_name, further, or_here, place_in}
use Rattle.filt_resolve.specs.Levels.{AreLast, is_key, joined}
use Rattle.filt_resolve.specs.Seen.{names_of}
use Rattle.filt_resolve.proofs.Lookups.{mapped_length}

choice_of : (b c : Bool) (n : ℕ) (o : Option ℕ) → or_here c (further (if b then Some n else o)) ≡ if b then Some (suc n) else or_here c (further o)
choice_of true c n o = refl
choice_of false c n o = refl

-- the last one first
pub last_place : (ns : List (List ℕ)) (n name : List ℕ) → place_in (ns ++ n ∷ []) name ≡ if same_name n name then Some (length ns) else place_in ns name
last_place [] n name = refl
last_place (m ∷ ns) n name = ap (λ (o : Option ℕ). or_here (same_name m name) (further o)) (last_place ns n name) ∙ choice_of (same_name n name) (same_name m name) (length ns) (place_in ns name)

-- ---- a block's own names

abbrev Key : Type 0
Key = Bor (List ℕ)

abbrev same_key : Key → Key → Bool
same_key a b = pointwise nat_eq a.now b.now

known_key : (b c : Bool) → b ≡ c → (v w : ℕ) (o : Option ℕ) → cond c (Some v) o ≡ cond b (Some v) (cond c (Some w) o)
known_key true true same v w o = refl
known_key true false same v w o = absurd (true≢false same)
known_key false true same v w o = absurd (true≢false (sym same))
known_key false false same v w o = refl

other_key : (b c : Bool) → (b ≡ true → c ≡ false) → (v w : ℕ) (o p : Option ℕ) → p ≡ cond b (Some v) o → cond c (Some w) p ≡ cond b (Some v) (cond c (Some w) o)
other_key true true apart v w o p is = absurd (true≢false (apart refl))
other_key true false apart v w o p is = is
other_key false true apart v w o p is = refl
other_key false false apart v w o p is = is

one_key : (t : Key → Bool) (e : Key × ℕ) (es rest : List (Key × ℕ)) (v : ℕ) (b d : Bool) → (d ≡ true → b ≡ t e.0) → (b ≡ true → t e.0 ≡ d) → lookup t rest ≡ cond b (Some v) (lookup t es) → lookup t (if d then (e.0, v) ∷ es else e ∷ rest) ≡ cond b (Some v) (lookup t (e ∷ es))
one_key t e es rest v b true known other is = known_key b (t e.0) (known refl) v e.1 (lookup t es)
one_key t e es rest v b false known other is = other_key b (t e.0) other v e.1 (lookup t es) (lookup t rest) is

lookup_noted : (name : List ℕ) (k : Key) (v : ℕ) (es : List (Key × ℕ)) → lookup (is_key name) (insert_entry same_key es k v) ≡ cond (is_key name k) (Some v) (lookup (is_key name) es)
lookup_noted name k v [] = refl
lookup_noted name k v (e ∷ es) =
    one_key (is_key name) e es (insert_entry same_key es k v) v (is_key name k) (same_key k e.0)
    (λ same. nat_list_eq_equiv.symm name k.now ∙ nat_list_eq_equiv.congr k.now e.0.now name same ∙ nat_list_eq_equiv.symm e.0.now name)
    (λ same. nat_list_eq_equiv.congr name k.now e.0.now same)
    (lookup_noted name k v es)

-- one name more
noted : (names : List (List ℕ)) (k : Key) (n : ℕ) (old new : List (Key × ℕ)) → n ≡ length names → new ≡ insert_entry same_key old k n → AreLast names old → AreLast (names ++ k.now ∷ []) new
noted names k n old new number is are asked =
    ap (λ (l : List (Key × ℕ)). lookup (is_key asked) l) is ∙ lookup_noted asked k n old
    ∙ ap (λ (o : Option ℕ). cond (is_key asked k) (Some n) o) (are asked)
    ∙ ap (λ (b : Bool). cond b (Some n) (place_in names asked)) (nat_list_eq_equiv.symm asked k.now)
    ∙ ap (λ (m : ℕ). cond (same_name k.now asked) (Some m) (place_in names asked)) number
    ∙ sym (last_place names k.now asked)

pub noted_next : (names : List Key) (i : ℕ) (k : Key) (n : ℕ) (d : Key) (old new : List (Key × ℕ)) → n ≡ i → i < length names → k ≡ get_or names i d → new ≡ insert_entry same_key old k n → AreLast (names_of (take i names)) old → AreLast (names_of (take (i + 1) names)) new
noted_next names i k n d old new same less at is are =
    subst (λ (ns : List (List ℕ)). AreLast ns new)
    (sym (ap names_of (take_more names i d less ∙ ap (λ (x : Key). take i names ++ x ∷ []) (sym at)) ∙ map-append (λ (n : Key). n.now) (take i names) (k ∷ [])))
    (noted (names_of (take i names)) k n old new (same ∙ sym (mapped_length (λ (n : Key). n.now) (take i names) ∙ length-take-le i names (omega (arith, less)))) is are)

pub noted_all : (names : List Key) (i : ℕ) (last : List (Key × ℕ)) → length names ≤ i → AreLast (names_of (take i names)) last → AreLast (names_of names) last
noted_all names i last all are = subst (λ (ns : List Key). AreLast (names_of ns) last) (take_all i names all) are

-- ---- block by block

joined_push : (front : List (List (List ℕ))) (own : List (List ℕ)) → joined (front ++ own ∷ []) ≡ joined front ++ own
joined_push [] own = append-nil own
joined_push (level ∷ front) own = ap (λ (ns : List (List ℕ)). level ++ ns) (joined_push front own) ∙ sym (append_assoc level (joined front) own)

-- a block's names come behind those round it
pub joined_with : (outer before after : List (List (List ℕ))) (names own : List (List ℕ)) → joined outer ≡ names → before ≡ outer → after ≡ before ++ own ∷ [] → joined after ≡ names ++ own
joined_with outer before after names own seen same pushed =
    ap joined pushed ∙ joined_push before own ∙ ap (λ (ns : List (List ℕ)). ns ++ own) (ap joined same ∙ seen)

-- and so many more are there
pub counted_with : (outer before after : List (List (List ℕ))) (own : List Key) (more : ℕ) → before ≡ outer → after ≡ before ++ names_of own ∷ [] → more ≡ length own → length (joined after) ≡ length (joined outer) + more
counted_with outer before after own more same pushed is =
    ap (λ (ns : List (List ℕ)). length ns) (joined_with outer before after (joined outer) (names_of own) refl same pushed)
    ∙ length-append (joined outer) (names_of own) ∙ ap (λ (n : ℕ). length (joined outer) + n) (mapped_length (λ (n : Key). n.now) own ∙ sym is)

abbrev behind : ℕ → Option ℕ → Option ℕ → Option ℕ
behind n (Some p) other = Some (n + p)
behind n None other = other

no_more : (o : Option ℕ) → o ≡ behind 0 o None
no_more None = refl
no_more (Some p) = ap Some (omega arith)

one_more : (s : Bool) (n : ℕ) (o other : Option ℕ) → or_here s (further (behind n o other)) ≡ behind (suc n) o (or_here s (further other))
one_more s n None other = refl
one_more s n (Some p) other = ap Some (omega arith)

place_behind : (front own : List (List ℕ)) (name : List ℕ) → place_in (front ++ own) name ≡ behind (length front) (place_in own name) (place_in front name)
place_behind [] own name = no_more (place_in own name)
place_behind (n ∷ front) own name = ap (λ (o : Option ℕ). or_here (same_name n name) (further o)) (place_behind front own name) ∙ one_more (same_name n name) (length front) (place_in own name) (place_in front name)

-- the names of all levels but the last, and its own
pub last_level : (left : List (List (List ℕ))) (d own : List (List ℕ)) → 1 ≤ length left → own ≡ get_or left (length left - 1) d → joined left ≡ joined (take (length left - 1) left) ++ own
last_level left d own some at =
    let i = length left - 1 in
    ap joined (sym (take_all (i + 1) left (omega arith)) ∙ take_more left i d (omega arith) ∙ ap (λ (level : List (List ℕ)). take i left ++ level ∷ []) (sym at))
    ∙ joined_push (take i left) own

-- how many names there are before the last level's
pub before_level : (left : List (List (List ℕ))) (d own : List (List ℕ)) (before : ℕ) → 1 ≤ length left → own ≡ get_or left (length left - 1) d → before ≡ length (joined left) → before ≡ length (joined (take (length left - 1) left)) + length own
before_level left d own before some at is =
    is ∙ ap (λ (ns : List (List ℕ)). length ns) (last_level left d own some at) ∙ length-append (joined (take (length left - 1) left)) own

-- where the last level has the name, it is that one
pub place_here : (names : List (List ℕ)) (left : List (List (List ℕ))) (d own : List (List ℕ)) (name : List ℕ) (before slot : ℕ) → 1 ≤ length left → own ≡ get_or left (length left - 1) d → place_in names name ≡ place_in (joined left) name → before ≡ length (joined (take (length left - 1) left)) → Some slot ≡ place_in own name → Some (before + slot) ≡ place_in names name
place_here names left d own name before slot some at seen is found =
    sym (seen ∙ ap (λ (ns : List (List ℕ)). place_in ns name) (last_level left d own some at) ∙ place_behind (joined (take (length left - 1) left)) own name
    ∙ ap (λ (o : Option ℕ). behind (length (joined (take (length left - 1) left))) o (place_in (joined (take (length left - 1) left)) name)) (sym found)
    ∙ ap (λ (n : ℕ). Some (n + slot)) (sym is))

-- where it has not, it is as in the others
pub place_before : (names : List (List ℕ)) (left : List (List (List ℕ))) (d own : List (List ℕ)) (name : List ℕ) → 1 ≤ length left → own ≡ get_or left (length left - 1) d → place_in names name ≡ place_in (joined left) name → None ≡ place_in own name → place_in names name ≡ place_in (joined (take (length left - 1) left)) name
place_before names left d own name some at seen none =
    seen ∙ ap (λ (ns : List (List ℕ)). place_in ns name) (last_level left d own some at) ∙ place_behind (joined (take (length left - 1) left)) own name
    ∙ ap (λ (o : Option ℕ). behind (length (joined (take (length left - 1) left))) o (place_in (joined (take (length left - 1) left)) name)) (sym none)

below_next : (s : Bool) (o : Option ℕ) (n : ℕ) → IfSome o (λ p. p < n) → IfSome (or_here s (further o)) (λ p. p < suc n)
below_next s (Some p) n h = omega (arith, h)
below_next true None n h = omega arith
below_next false None n h = tt

all_within : (names : List (List ℕ)) (name : List ℕ) → IfSome (place_in names name) (λ p. p < length names)
all_within [] name = tt
all_within (n ∷ ns) name = below_next (same_name n name) (place_in ns name) (length ns) (all_within ns name)

-- a place is one of the names'
pub place_within : (names : List (List ℕ)) (name : List ℕ) (slot : ℕ) → Some slot ≡ place_in names name → slot < length names
place_within names name slot is = subst (λ (o : Option ℕ). IfSome o (λ p. p < length names)) (sym is) (all_within names name)

pub fewer : (left : List (List (List ℕ))) (n : ℕ) → length left ≤ n → length (take (length left - 1) left) ≤ n
fewer left n less = omega (arith, length-take (length left - 1) left)
