-- Whole codes, and lists of them.
use Rattle.std.proofs.Common.{◌≡◌, ℕ, suc, zero, ◌+◌, ◌*◌, ◌<◌, ◌≤◌, List, [], ◌∷◌, ◌++◌, reverse, length, map, length-append, append_assoc, take, Option, refl, subst, sym, ap, ◌∙◌, arith}
use Rattle.std.proofs.lemmas.List.{append-nil, take-map}
use Rattle.std.proofs.Math.Path.{fun_ext}
use Rattle.std.specs.Prelude.{All}
use Rattle.std.proofs.Math.ListN.{get_or}
use Rattle.attrs.specs.declared.attributes.Attrs.{Attrs}
use Rattle.filt_meaning.specs.declared.fixed.Fixed.{Fixed}
use Rattle.filt_meaning.specs.declared.value.Sort.{Sort}
use Rattle.filt_meaning.specs.Seen.{val_of_fixed}
use Rattle.filt_meaning.specs.Values.{Val}
use Rattle.filt_meaning.specs.Configuration.{given_by}
use Rattle.filt_meaning.specs.Flow.{Flow, Done, Stopped, Frame, and_then}
use Rattle.filt_meaning.specs.Names.{Around, Doing}
use Rattle.filt_meaning.specs.declared.scope.TFunction.{TFunction}
use Rattle.filt_meaning.specs.declared.tree.TFilter.{TFilter}
use Rattle.filt_meaning.specs.declared.tree.TStmt.{TStmt}
use Rattle.filt_meaning.specs.Trees as trees
use Rattle.filt_meaning.specs.Trees.{AreBefore, Tables}
use Rattle.filt_code.specs.declared.code.Draft.{Draft}
use Rattle.filt_code.specs.declared.code.Routine.{Routine}
use Rattle.filt_code.specs.declared.instr.Instr.{Instr}
use Rattle.filt_meaning.specs.Steps.{called_by, filter_steps}
use Rattle.filt_code.specs.Costs.{cost, costs, with_costs}
use Rattle.filt_code.specs.Codes.{Setting, code_flow, doing, mean, setting, with_routine, with_routines}
use Rattle.filt_compile.specs.declared.seen.Seen.{Seen}
use Rattle.filt_compile.specs.Compiles.{beside, AreCompiled, AreLight, CostAtMost, CostTheirSteps, CostsItsSteps, IsCompiled, draft_cost}
use Rattle.filt_compile.specs.Emits.{Runs, Sees, tables_of}
use Rattle.filt_compile.proofs.Cases as cs
use Rattle.filt_compile.proofs.Seeing as seeing

-- code with nothing behind it
pub whole_code : (seen : Seen) (sorts : List Sort) (ss : List TStmt) (empty backwards code : List Instr) → empty ≡ [] → code ≡ reverse backwards → Runs seen sorts (λ t. trees.body t ss) (reverse empty) (reverse backwards) → (s : Setting) → Sees seen s → (vals : Frame) (attrs : Attrs) → mean s code 0 vals [] attrs ≡ trees.run (tables_of seen s) sorts ss vals attrs
whole_code seen sorts ss empty backwards code none is p s few vals attrs =
    ap (λ (code : List Instr). mean s code 0 vals [] attrs) is
    ∙ p.means s few vals attrs
    ∙ nothing_behind s (trees.run (tables_of seen s) sorts ss vals attrs) empty none
  where
    nothing_behind : (s : Setting) (flow : Flow Frame) (empty : List Instr) → empty ≡ [] → and_then flow (λ after attrs. mean s (reverse empty) 0 after [] attrs) ≡ flow
    nothing_behind s (Done after attrs) empty none = ap (λ (code : List Instr). mean s (reverse code) 0 after [] attrs) none
    nothing_behind s (Stopped why attrs) empty none = refl

-- a function's code
pub function_code : (seen : Seen) (constants : List Fixed) (before : List Routine) (f : TFunction) (made : Routine) (sorts : List Sort) (ss : List TStmt) → seen.constants.now ≡ take f.constants constants → seen.routines.now ≡ before → sorts ≡ f.sorts.items → ss ≡ f.body.items → made.gives ≡ f.gives → ((s : Setting) → Sees seen s → (vals : Frame) (attrs : Attrs) → mean s made.code.items 0 vals [] attrs ≡ trees.run (tables_of seen s) sorts ss vals attrs) → IsCompiled constants before f made
function_code seen constants before f made sorts ss p u q r g means around arguments attrs =
    let s : Setting = setting around before in
    ap (λ (flow : Flow Frame). given_by made.gives flow) (means s (seeing.sees_setting seen around before u) arguments attrs)
    ∙ ap (λ (o : Option Sort). given_by o (trees.run (tables_of seen s) sorts ss arguments attrs)) g
    ∙ same s seen.constants.now sorts ss p q r
  where
    same : (s : Setting) (cs : List Fixed) (sorts : List Sort) (ss : List TStmt) → cs ≡ take f.constants constants → sorts ≡ f.sorts.items → ss ≡ f.body.items → given_by f.gives (trees.run (beside cs s) sorts ss arguments attrs) ≡ trees.function (beside constants s) f arguments attrs
    same s cs sorts ss p q r = rw (p, q, r, take-map val_of_fixed f.constants constants) refl

-- ---- lists of functions

compiled_push : (constants : List Fixed) (before : List Routine) (fs : List TFunction) (rs : List Routine) (f : TFunction) (made : Routine) → AreCompiled constants before fs rs → IsCompiled constants (before ++ rs) f made → AreCompiled constants before (fs ++ f ∷ []) (rs ++ made ∷ [])
compiled_push constants before [] [] f made p q = (subst (λ (rs : List Routine). IsCompiled constants rs f made) (append-nil before) q, tt)
compiled_push constants before [] (r ∷ rs) f made p q = absurd p
compiled_push constants before (g ∷ fs) [] f made p q = absurd p
compiled_push constants before (g ∷ fs) (r ∷ rs) f made p q = (p.0, compiled_push constants (before ++ r ∷ []) fs rs f made p.1 (subst (λ (rs : List Routine). IsCompiled constants rs f made) (sym (append_assoc before (r ∷ []) rs)) q))

pub compiled_more : (constants : List Fixed) (i : ℕ) (all : List TFunction) (rs ends : List Routine) (f : TFunction) (made : Routine) → i < length all → f ≡ get_or all i f → ends ≡ rs ++ made ∷ [] → AreCompiled constants [] (take i all) rs → IsCompiled constants rs f made → AreCompiled constants [] (take (i + 1) all) ends
compiled_more constants i all rs ends f made lt at is p q =
    rw (is, cs.taken_next all i f lt at) (compiled_push constants [] (take i all) rs f made p q)

pub compiled_end : (constants : List Fixed) (i : ℕ) (all : List TFunction) (rs : List Routine) → length all ≤ i → AreCompiled constants [] (take i all) rs → AreCompiled constants [] all rs
compiled_end constants i all rs le p = rw (← cs.taken_whole all i le) p

-- ---- the same functions

taken_again : {A : Type 0} (n : ℕ) (xs : List A) → take (length (take n xs)) xs ≡ take n xs
taken_again zero xs = refl
taken_again (suc n) [] = refl
taken_again (suc n) (x ∷ xs) = ap (λ (ys : List _). x ∷ ys) (taken_again n xs)

taken_in_front : {A : Type 0} (n m : ℕ) (xs : List A) → n ≤ m → take n (take m xs) ≡ take n xs
taken_in_front zero m xs le = refl
taken_in_front (suc n) zero xs le = absurd (omega arith)
taken_in_front (suc n) (suc m) [] le = refl
taken_in_front (suc n) (suc m) (x ∷ xs) le = ap (λ (ys : List _). x ∷ ys) (taken_in_front n m xs (omega arith))

compiled_front : (constants : List Fixed) (before : List Routine) (n : ℕ) (fs : List TFunction) (rs : List Routine) → AreCompiled constants before fs rs → AreCompiled constants before (take n fs) (take n rs)
compiled_front constants before zero fs rs p = tt
compiled_front constants before (suc n) [] [] p = tt
compiled_front constants before (suc n) [] (r ∷ rs) p = absurd p
compiled_front constants before (suc n) (g ∷ fs) [] p = absurd p
compiled_front constants before (suc n) (g ∷ fs) (r ∷ rs) p = (p.0, compiled_front constants (before ++ r ∷ []) n fs rs p.1)

-- a function over more constants than it sees
same_function : (constants : List Fixed) (m : ℕ) (s : Setting) (t : Tables) (g : TFunction) (arguments : Frame) (attrs : Attrs) → s.around ≡ t.around → t.constants ≡ map val_of_fixed (take m constants) → s.functions ≡ t.functions → g.constants ≤ m → trees.function (beside constants s) g arguments attrs ≡ trees.function t g arguments attrs
same_function constants m s t g arguments attrs a k d le =
    by_parts s.around t.around (take g.constants (map val_of_fixed constants)) (take g.constants t.constants) s.functions t.functions a
    (sym (taken_in_front g.constants m (map val_of_fixed constants) le) ∙ ap (λ (vs : List Val). take g.constants vs) (take-map val_of_fixed m constants ∙ sym k)) d
  where
    by_parts : (a b : Around) (ks ls : List Val) (ds es : List Doing) → a ≡ b → ks ≡ ls → ds ≡ es → given_by g.gives (trees.run (record { around = a; constants = ks; functions = ds }) g.sorts.items g.body.items arguments attrs) ≡ given_by g.gives (trees.run (record { around = b; constants = ls; functions = es }) g.sorts.items g.body.items arguments attrs)
    by_parts a b ks ls ds es p q r = rw (p, q, r) refl

-- one function more is behind the others
one_behind : (s : Setting) (rs : List Routine) (r : Routine) → with_routines s (rs ++ r ∷ []) ≡ with_routine (with_routines s rs) (doing (with_routines s rs) r)
one_behind s [] r = refl
one_behind s (x ∷ rs) r = one_behind (with_routine s (doing s x)) rs r

-- code and trees of the same functions come to the same list of what they do
same_functions : (constants : List Fixed) (m : ℕ) (around : Around) (before : List Routine) (fs : List TFunction) (rs : List Routine) (t : Tables) → AreCompiled constants before fs rs → All (λ (g : TFunction). g.constants ≤ m) fs → (setting around before).around ≡ t.around → t.constants ≡ map val_of_fixed (take m constants) → (setting around before).functions ≡ t.functions → (with_routines (setting around before) rs).functions ≡ (trees.with_functions t fs).functions
same_functions constants m around before [] [] t p h a k d = d
same_functions constants m around before [] (r ∷ rs) t p h a k d = absurd p
same_functions constants m around before (g ∷ fs) [] t p h a k d = absurd p
same_functions constants m around before (g ∷ fs) (r ∷ rs) t p h a k d =
    let s : Setting = setting around before in
    let e : doing s r ≡ trees.function t g = fun_ext (λ arguments. fun_ext (λ attrs. p.0 around arguments attrs ∙ same_function constants m s t g arguments attrs a k d (h zero g (omega arith)))) in
    let next : setting around (before ++ r ∷ []) ≡ with_routine s (doing s r) = one_behind (record { around = around; functions = [] }) before r in
    ap (λ (s : Setting). (with_routines s rs).functions) (sym next)
    ∙ same_functions constants m around (before ++ r ∷ []) fs rs (trees.with_function t (trees.function t g)) p.1 (λ i x below. h (suc i) x (omega (arith, below))) (ap (λ (s : Setting). s.around) next ∙ a) k (ap (λ (s : Setting). s.functions) next ∙ ap (λ (ds : List Doing). ds ++ doing s r ∷ []) d ∙ ap (λ (f : Doing). t.functions ++ f ∷ []) e)

constants_kept : (t : Tables) (fs : List TFunction) → (trees.with_functions t fs).constants ≡ t.constants
constants_kept t [] = refl
constants_kept t (g ∷ fs) = constants_kept (trees.with_function t (trees.function t g)) fs

around_kept : (t : Tables) (fs : List TFunction) → (trees.with_functions t fs).around ≡ t.around
around_kept t [] = refl
around_kept t (g ∷ fs) = around_kept (trees.with_function t (trees.function t g)) fs

-- ---- filters

tables_by : (t u : Tables) → t.around ≡ u.around → t.constants ≡ u.constants → t.functions ≡ u.functions → t ≡ u
tables_by t u p q r =
    ap (λ (a : Around). record { around = a; constants = t.constants; functions = t.functions }) p
    ∙ ap (λ (k : List Val). record { around = u.around; constants = k; functions = t.functions }) q
    ∙ ap (λ (d : List Doing). record { around = u.around; constants = u.constants; functions = d }) r

-- what code sees is what the filter sees
seen_same : (seen : Seen) (constants : List Fixed) (fs : List TFunction) (routines : List Routine) (f : TFilter) (around : Around) → seen.constants.now ≡ take f.constants constants → AreCompiled constants [] fs routines → AreBefore fs f → tables_of seen (setting around (take f.functions routines)) ≡ trees.tables around (take f.constants constants) (take f.functions fs)
seen_same seen constants fs routines f around same p h =
    let t : Tables = record { around = around; constants = map val_of_fixed (take f.constants constants); functions = [] } in
    tables_by (tables_of seen (setting around (take f.functions routines))) (trees.tables around (take f.constants constants) (take f.functions fs))
    (seeing.around_of (record { around = around; functions = [] }) (take f.functions routines) ∙ sym (around_kept t (take f.functions fs)))
    (ap (λ (cs : List Fixed). map val_of_fixed cs) same ∙ sym (constants_kept t (take f.functions fs)))
    (same_functions constants f.constants around [] (take f.functions fs) (take f.functions routines) t (compiled_front constants [] f.functions fs routines p) h refl refl refl)

-- over the same functions code comes to what its filter comes to
pub code_flows : (seen : Seen) (constants : List Fixed) (routines : List Routine) (f : TFilter) (draft : Draft) (sorts : List Sort) (ss : List TStmt) → seen.constants.now ≡ take f.constants constants → seen.routines.now ≡ take f.functions routines → draft.functions ≡ length (take f.functions routines) → sorts ≡ f.sorts.items → ss ≡ f.body.items → ((s : Setting) → Sees seen s → (vals : Frame) (attrs : Attrs) → mean s draft.code.items 0 vals [] attrs ≡ trees.run (tables_of seen s) sorts ss vals attrs) → (fs : List TFunction) → AreCompiled constants [] fs routines → AreBefore fs f → (around : Around) (attrs : Attrs) → code_flow around routines draft attrs ≡ trees.tree_flow around constants fs f attrs
code_flows seen constants routines f draft sorts ss same few count q r means fs p h around attrs =
    let front : take draft.functions routines ≡ take f.functions routines = ap (λ (n : ℕ). take n routines) count ∙ taken_again f.functions routines in
    ap (λ (rs : List Routine). mean (setting around rs) draft.code.items 0 [] [] attrs) front
    ∙ means (setting around (take f.functions routines)) (seeing.sees_setting seen around (take f.functions routines) few) [] attrs
    ∙ by_parts (tables_of seen (setting around (take f.functions routines))) (trees.tables around (take f.constants constants) (take f.functions fs)) sorts f.sorts.items ss f.body.items (seen_same seen constants fs routines f around same p h) q r
  where
    by_parts : (t u : Tables) (xs ys : List Sort) (as_one bs : List TStmt) → t ≡ u → xs ≡ ys → as_one ≡ bs → trees.run t xs as_one [] attrs ≡ trees.run u ys bs [] attrs
    by_parts t u xs ys as_one bs p q r = rw (p, q, r) refl

-- ---- costs

pub costs_of : (ds sorts : List Sort) (xs ss : List TStmt) (code : List Instr) → ds ≡ sorts → xs ≡ ss → CostsItsSteps ds xs code → CostsItsSteps sorts ss code
costs_of ds sorts xs ss code p q c = rw (← p, ← q) c

costs_push : (fs : List TFunction) (rs : List Routine) (f : TFunction) (made : Routine) → CostTheirSteps fs rs → CostsItsSteps f.sorts.items f.body.items made.code.items → CostTheirSteps (fs ++ f ∷ []) (rs ++ made ∷ [])
costs_push [] [] f made p q = (q, tt)
costs_push [] (r ∷ rs) f made p q = absurd p
costs_push (g ∷ fs) [] f made p q = absurd p
costs_push (g ∷ fs) (r ∷ rs) f made p q = (p.0, costs_push fs rs f made p.1 q)

pub costs_more : (i : ℕ) (all : List TFunction) (rs ends : List Routine) (f : TFunction) (made : Routine) → i < length all → f ≡ get_or all i f → ends ≡ rs ++ made ∷ [] → CostTheirSteps (take i all) rs → CostsItsSteps f.sorts.items f.body.items made.code.items → CostTheirSteps (take (i + 1) all) ends
costs_more i all rs ends f made lt at is p q = rw (is, cs.taken_next all i f lt at) (costs_push (take i all) rs f made p q)

pub costs_end : (i : ℕ) (all : List TFunction) (rs : List Routine) → length all ≤ i → CostTheirSteps (take i all) rs → CostTheirSteps all rs
costs_end i all rs le p = rw (← cs.taken_whole all i le) p

-- one function more
at_most_more : (costs : List ℕ) (fs : List TFunction) (c : ℕ) (f : TFunction) → length costs ≡ length fs → c ≤ 5 * f.weight → CostAtMost costs (called_by fs) → CostAtMost (costs ++ c ∷ []) (called_by (fs ++ f ∷ []))
at_most_more [] [] c f long le p zero = le
at_most_more [] [] c f long le p (suc n) = omega arith
at_most_more [] (g ∷ fs) c f long le p n = absurd (omega (arith, long))
at_most_more (x ∷ costs) [] c f long le p n = absurd (omega (arith, long))
at_most_more (x ∷ costs) (g ∷ fs) c f long le p zero = p zero
at_most_more (x ∷ costs) (g ∷ fs) c f long le p (suc n) = at_most_more costs fs c f (omega (arith, long)) le (λ m. p (suc m)) n

light_behind : (costs : List ℕ) (before fs : List TFunction) (rs : List Routine) → length costs ≡ length before → CostAtMost costs (called_by before) → CostTheirSteps fs rs → AreLight before fs → CostAtMost (with_costs costs rs) (called_by (before ++ fs))
light_behind costs before [] [] long p q light = rw (append-nil before) p
light_behind costs before [] (r ∷ rs) long p q light = absurd q
light_behind costs before (f ∷ fs) [] long p q light = absurd q
light_behind costs before (f ∷ fs) (r ∷ rs) long p q light =
    let c : ℕ = cost costs r.code.items 0 in
    let le : cost costs r.code.items 0 ≤ 5 * f.weight = omega (arith, q.0 costs (called_by before) p, light.0) in
    rw (← append_assoc before (f ∷ []) fs) (light_behind (costs ++ cost costs r.code.items 0 ∷ []) (before ++ f ∷ []) fs rs (omega (arith, length-append costs (cost costs r.code.items 0 ∷ []), length-append before (f ∷ []), long)) (at_most_more costs before (cost costs r.code.items 0) f long le p) q.1 light.1)

none_cost : CostAtMost [] (called_by [])
none_cost n = omega arith

-- light functions cost five for each that they weigh at most
pub light_costs : (fs : List TFunction) (rs : List Routine) → CostTheirSteps fs rs → AreLight [] fs → CostAtMost (costs rs) (called_by fs)
light_costs fs rs q light = light_behind [] [] fs rs refl none_cost q light

-- the first functions cost no more than all
front_stays : (cs : List ℕ) (rs : List Routine) (called : ℕ → ℕ) → CostAtMost (with_costs cs rs) called → CostAtMost cs called
front_stays cs [] called p = p
front_stays cs (r ∷ rs) called p = λ n. omega (arith, shorter cs (cost cs r.code.items 0) n, front_stays (cs ++ cost cs r.code.items 0 ∷ []) rs called p n)
  where
    shorter : (cs : List ℕ) (c n : ℕ) → get_or cs n 0 ≤ get_or (cs ++ c ∷ []) n 0
    shorter [] c n = omega arith
    shorter (x ∷ cs) c zero = omega arith
    shorter (x ∷ cs) c (suc n) = shorter cs c n

first_behind : (n : ℕ) (cs : List ℕ) (rs : List Routine) (called : ℕ → ℕ) → CostAtMost (with_costs cs rs) called → CostAtMost (with_costs cs (take n rs)) called
first_behind zero cs rs called p = front_stays cs rs called p
first_behind (suc n) cs [] called p = p
first_behind (suc n) cs (r ∷ rs) called p = first_behind n (cs ++ cost cs r.code.items 0 ∷ []) rs called p

pub first_costs : (n : ℕ) (rs : List Routine) (called : ℕ → ℕ) → CostAtMost (costs rs) called → CostAtMost (costs (take n rs)) called
first_costs n rs called p = first_behind n [] rs called p

-- so does the code of a filter, over the functions that it sees
pub filter_costs : (fs : List TFunction) (rs : List Routine) (f : TFilter) (draft : Draft) → CostTheirSteps fs rs → AreLight [] fs → CostsItsSteps f.sorts.items f.body.items draft.code.items → draft_cost rs draft ≤ filter_steps fs f
filter_costs fs rs f draft q light own =
    own (costs (take draft.functions rs)) (called_by fs) (first_costs draft.functions rs (called_by fs) (light_costs fs rs q light))
