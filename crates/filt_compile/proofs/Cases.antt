-- What the code of a `case` comes to: the jumps behind the switch, and what they lead to.
use Rattle.std.proofs.Common.{◌≡◌, ℕ, suc, zero, ◌+◌, ◌-◌, ◌<◌, ◌≤◌, Bool, true, false, List, [], ◌∷◌, ◌++◌, length, take, Result, Ok, Err, refl, ap, ◌∙◌, arith}
use Rattle.std.proofs.Math.ListN.{get_or}
use Rattle.std.specs.Borrow.{Bor}
use Rattle.attrs.specs.declared.attributes.Attrs.{Attrs}
use Rattle.filt_meaning.specs.declared.value.Failure.{Failure}
use Rattle.filt_meaning.specs.Operators as operators
use Rattle.filt_meaning.specs.Values.{Val}
use Rattle.filt_meaning.specs.Flow.{Flow, Done, Stopped, Frame, and_then, plainly}
use Rattle.filt_meaning.specs.Meaning as m
use Rattle.filt_meaning.specs.Meaning.{Act}
use Rattle.filt_meaning.specs.declared.tree.TArm.{TArm}
use Rattle.filt_meaning.specs.declared.tree.TExpr.{TExpr}
use Rattle.filt_meaning.specs.declared.tree.TStmt.{TStmt}
use Rattle.filt_meaning.specs.Trees as trees
use Rattle.filt_meaning.specs.Trees.{Tables}
use Rattle.filt_code.specs.declared.instr.Instr.{Instr}
use Rattle.filt_code.specs.declared.instr.Instr.TheVariants as instrs
use Rattle.filt_code.specs.Codes.{Setting, mean, labels_of, arms_before, before_in}
use Rattle.filt_compile.specs.declared.seen.Seen.{Seen}
use Rattle.filt_compile.specs.Emits.{Acts, Bodies, Grows, Leaves, Puts, Sees, Target, Targets, jumps_to, tables_of}
use Rattle.filt_compile.proofs.Emitting.{passed_by, further}
use Rattle.filt_compile.proofs.Acting.{given_leaves}

pub grows_same : (old : List Instr) → Grows old old
grows_same old = record { code = []; grows = refl }

pub grows_by : (old mid new : List Instr) → Grows old mid → Grows mid new → Grows old new
grows_by old mid new p q = record { code = q.code ++ p.code; grows = further new mid old q.code p.code q.grows p.grows }

target_grows : (seen : Seen) (run : Tables → Act) (start : ℕ) (old mid new : List Instr) → Grows mid new → Target seen run start old mid → Target seen run start old new
target_grows seen run start old mid new g p = record {
  front = g.code ++ p.front;
  back = p.back;
  is = further new mid p.back g.code p.front g.grows p.is;
  far = p.far;
  means = p.means;
  keeps = p.keeps;
}

pub targets_grow : (seen : Seen) (old mid new : List Instr) (rows : List (TArm TStmt)) (starts : List ℕ) → Grows mid new → Targets seen old mid rows starts → Targets seen old new rows starts
targets_grow seen old mid new [] [] g p = tt
targets_grow seen old mid new [] (start ∷ starts) g p = absurd p
targets_grow seen old mid new (a ∷ rows) [] g p = absurd p
targets_grow seen old mid new (a ∷ rows) (start ∷ starts) g p = (target_grows seen (λ t. trees.body t a.body.items) start old mid new g p.0, targets_grow seen old mid new rows starts g p.1)

targets_push : (seen : Seen) (old new : List Instr) (rows : List (TArm TStmt)) (starts : List ℕ) (a : TArm TStmt) (start : ℕ) → Targets seen old new rows starts → Target seen (λ t. trees.body t a.body.items) start old new → Targets seen old new (rows ++ a ∷ []) (starts ++ start ∷ [])
targets_push seen old new [] [] a start p q = (q, tt)
targets_push seen old new [] (x ∷ starts) a start p q = absurd p
targets_push seen old new (b ∷ rows) [] a start p q = absurd p
targets_push seen old new (b ∷ rows) (x ∷ starts) a start p q = (p.0, targets_push seen old new rows starts a start p.1 q)

-- a jump to a place
pub target_means : (seen : Seen) (run : Tables → Act) (start n : ℕ) (old new : List Instr) → Target seen run start old new → n ≡ length new - start → (s : Setting) → Sees seen s → (vals : Frame) (attrs : Attrs) → mean s new n vals [] attrs ≡ and_then (run (tables_of seen s) vals attrs) (λ after attrs. mean s old 0 after [] attrs)
target_means seen run start n old new p far s few vals attrs = passed_by s new p.front p.back n vals [] attrs p.is (omega (arith, far, p.far)) ∙ p.means s few vals attrs

jump_then : (s : Setting) (flow : Flow Frame) (n : ℕ) (old mid front : List Instr) → front ≡ instrs.Jump n ∷ mid → ((after : Frame) (attrs : Attrs) → mean s mid n after [] attrs ≡ mean s old 0 after [] attrs) → and_then flow (λ after attrs. mean s front 0 after [] attrs) ≡ and_then flow (λ after attrs. mean s old 0 after [] attrs)
jump_then s (Done after attrs) n old mid front is same = ap (λ (code : List Instr). mean s code 0 after [] attrs) is ∙ same after attrs
jump_then s (Stopped why attrs) n old mid front is same = refl

pub bodies_more : (seen : Seen) (k start : ℕ) (rows more : List (TArm TStmt)) (starts ends : List ℕ) (a : TArm TStmt) (ss : List TStmt) (old mid out b new : List Instr) → more ≡ rows ++ a ∷ [] → ends ≡ starts ++ start ∷ [] → ss ≡ a.body.items → Grows old mid → Bodies seen rows starts old mid out → k ≡ length out - length old → b ≡ instrs.Jump k ∷ out → Acts seen (λ t. trees.body t ss) b new → start ≡ length new → Bodies seen more ends old mid new
bodies_more seen k start rows more starts ends a ss old mid out b new two three same g p far is q long =
    rw (two, three) (record {
      front = grows_by mid out new p.front (grows_by out b new (record { code = instrs.Jump k ∷ []; grows = is }) (record { code = q.code; grows = q.grows }));
      targets = targets_push seen old new rows starts a start
          (targets_grow seen old out new rows starts (grows_by out b new (record { code = instrs.Jump k ∷ []; grows = is }) (record { code = q.code; grows = q.grows })) p.targets)
          (record {
            front = [];
            back = new;
            is = refl;
            far = long;
            means = λ s few vals attrs. q.means s few vals attrs ∙ jump_then s (trees.body (tables_of seen s) ss vals attrs) k old out b is (λ after attrs. passed_by s out (grows_by old mid out g p.front).code old k after [] attrs (grows_by old mid out g p.front).grows far) ∙ ap (λ (xs : List TStmt). and_then (trees.body (tables_of seen s) xs vals attrs) (λ after attrs. mean s old 0 after [] attrs)) same;
            keeps = λ t vals attrs. leaves_same t vals attrs (q.keeps t vals attrs);
          });
    })
  where
    leaves_same : (t : Tables) (vals : Frame) (attrs : Attrs) → Leaves (length vals) (trees.body t ss vals attrs) → Leaves (length vals) (trees.body t a.body.items vals attrs)
    leaves_same t vals attrs h = rw (← same) h

pub bodies_start : (seen : Seen) (old mid : List Instr) → Bodies seen [] [] old mid mid
bodies_start seen old mid = record { front = grows_same mid; targets = tt }

jumps_grow : (starts : List ℕ) (old : List Instr) → Grows old (jumps_to starts old)
jumps_grow [] old = grows_same old
jumps_grow (start ∷ starts) old = grows_by old (jumps_to starts old) (jumps_to (start ∷ starts) old) (jumps_grow starts old) (record { code = instrs.Jump (length (jumps_to starts old) - start) ∷ []; grows = refl })

-- the jump behind the one of an arm that isn't taken
next_jump : (s : Setting) (d : ℕ) (rest : List Instr) (more : Result ℕ Failure) (vals : Frame) (attrs : Attrs) → and_then (plainly (operators.and_then more (λ n. Ok (suc n))) attrs) (λ i attrs. mean s (instrs.Jump d ∷ rest) i vals [] attrs) ≡ and_then (plainly more attrs) (λ i attrs. mean s rest i vals [] attrs)
next_jump s d rest (Ok n) vals attrs = refl
next_jump s d rest (Err failure) vals attrs = refl

arm_means : (s : Setting) (d : ℕ) (rest old : List Instr) (r : Result Bool Failure) (more : Result ℕ Failure) (first second : Act) (vals : Frame) (attrs : Attrs) → mean s rest d vals [] attrs ≡ and_then (first vals attrs) (λ after attrs. mean s old 0 after [] attrs) → and_then (plainly more attrs) (λ i attrs. mean s rest i vals [] attrs) ≡ and_then (second vals attrs) (λ after attrs. mean s old 0 after [] attrs) → and_then (plainly (operators.and_then r (λ is. before_in is more)) attrs) (λ i attrs. mean s (instrs.Jump d ∷ rest) i vals [] attrs) ≡ and_then (m.arm r first second vals attrs) (λ after attrs. mean s old 0 after [] attrs)
arm_means s d rest old (Ok true) more first second vals attrs one two = one
arm_means s d rest old (Ok false) more first second vals attrs one two = next_jump s d rest more vals attrs ∙ two
arm_means s d rest old (Err failure) more first second vals attrs one two = refl

-- the jumps behind the switch
table_means : (seen : Seen) (s : Setting) → Sees seen s → (rows : List (TArm TStmt)) (starts : List ℕ) (old base : List Instr) (otherwise : Act) (v : Val) (vals : Frame) (attrs : Attrs) → Targets seen old base rows starts → mean s base 0 vals [] attrs ≡ and_then (otherwise vals attrs) (λ after attrs. mean s old 0 after [] attrs) → and_then (plainly (arms_before (labels_of rows) v) attrs) (λ i attrs. mean s (jumps_to starts base) i vals [] attrs) ≡ and_then (trees.arms (trees.arms_of (tables_of seen s) rows) otherwise v vals attrs) (λ after attrs. mean s old 0 after [] attrs)
table_means seen s few [] [] old base otherwise v vals attrs p none = none
table_means seen s few [] (start ∷ starts) old base otherwise v vals attrs p none = absurd p
table_means seen s few (a ∷ rows) [] old base otherwise v vals attrs p none = absurd p
table_means seen s few (a ∷ rows) (start ∷ starts) old base otherwise v vals attrs p none =
    arm_means s (length (jumps_to starts base) - start) (jumps_to starts base) old (trees.has a.labels v) (arms_before (labels_of rows) v) (trees.body (tables_of seen s) a.body.items) (trees.arms (trees.arms_of (tables_of seen s) rows) otherwise v) vals attrs
    (target_means seen (λ t. trees.body t a.body.items) start (length (jumps_to starts base) - start) old (jumps_to starts base) (target_grows seen (λ t. trees.body t a.body.items) start old base (jumps_to starts base) (jumps_grow starts base) p.0) refl s few vals attrs)
    (table_means seen s few rows starts old base otherwise v vals attrs p.1 none)

arm_leaves : (n : ℕ) (r : Result Bool Failure) (first second : Act) (vals : Frame) (attrs : Attrs) → Leaves n (first vals attrs) → Leaves n (second vals attrs) → Leaves n (m.arm r first second vals attrs)
arm_leaves n (Ok true) first second vals attrs one two = one
arm_leaves n (Ok false) first second vals attrs one two = two
arm_leaves n (Err failure) first second vals attrs one two = tt

arms_leave : (seen : Seen) (rows : List (TArm TStmt)) (starts : List ℕ) (old new : List Instr) (t : Tables) (otherwise : Act) (v : Val) (vals : Frame) (attrs : Attrs) → Targets seen old new rows starts → Leaves (length vals) (otherwise vals attrs) → Leaves (length vals) (trees.arms (trees.arms_of t rows) otherwise v vals attrs)
arms_leave seen [] [] old new t otherwise v vals attrs p none = none
arms_leave seen [] (start ∷ starts) old new t otherwise v vals attrs p none = absurd p
arms_leave seen (a ∷ rows) [] old new t otherwise v vals attrs p none = absurd p
arms_leave seen (a ∷ rows) (start ∷ starts) old new t otherwise v vals attrs p none =
    arm_leaves (length vals) (trees.has a.labels v) (trees.body t a.body.items) (trees.arms (trees.arms_of t rows) otherwise v) vals attrs (p.0.keeps t vals attrs) (arms_leave seen rows starts old new t otherwise v vals attrs p.1 none)

case_then : (flow : Flow Val) (first second : Val → Attrs → Flow Frame) (next : Frame → Attrs → Flow Frame) → ((v : Val) (attrs : Attrs) → first v attrs ≡ and_then (second v attrs) next) → and_then flow first ≡ and_then (and_then flow second) next
case_then (Done v attrs) first second next same = same v attrs
case_then (Stopped why attrs) first second next same = refl

pub acts_case : (seen : Seen) (k : ℕ) (x : TExpr) (rows : Bor (List (TArm TStmt))) (otherwise : List TStmt) (starts : List ℕ) (old o b j jj sw new : List Instr) → Acts seen (λ t. trees.body t otherwise) old o → Bodies seen rows.now starts old o b → k ≡ length b - length o → j ≡ instrs.Jump k ∷ b → jj ≡ jumps_to starts j → sw ≡ instrs.Switch rows ∷ jj → Puts seen (λ t. trees.expr x t) sw new → Acts seen (λ t. m.cases (trees.expr x t) (trees.arms (trees.arms_of t rows.now) (trees.body t otherwise))) old new
acts_case seen k x rows otherwise starts old o b j jj sw new p bs far is table front q =
    let to_j : Grows b j = record { code = instrs.Jump k ∷ []; grows = is } in
    let to_jj : Grows j jj = record { code = (jumps_grow starts j).code; grows = table ∙ (jumps_grow starts j).grows } in
    let to_sw : Grows jj sw = record { code = instrs.Switch rows ∷ []; grows = front } in
    let to_new : Grows sw new = record { code = q.code; grows = q.grows } in
    let to_o : Grows old o = record { code = p.code; grows = p.grows } in
    let whole : Grows old new = grows_by old o new to_o (grows_by o b new bs.front (grows_by b j new to_j (grows_by j jj new to_jj (grows_by jj sw new to_sw to_new)))) in
    record {
      code = whole.code;
      grows = whole.grows;
      means = λ s few vals attrs. q.means s few vals [] attrs
          ∙ case_then (trees.expr x (tables_of seen s) vals attrs) (λ v attrs. mean s sw 0 vals (v ∷ []) attrs) (λ v attrs. trees.arms (trees.arms_of (tables_of seen s) rows.now) (trees.body (tables_of seen s) otherwise) v vals attrs) (λ after attrs. mean s old 0 after [] attrs) (λ v attrs.
          ap (λ (code : List Instr). mean s code 0 vals (v ∷ []) attrs) front
          ∙ ap (λ (code : List Instr). and_then (plainly (arms_before (labels_of rows.now) v) attrs) (λ i attrs. mean s code i vals [] attrs)) table
          ∙ table_means seen s few rows.now starts old j (trees.body (tables_of seen s) otherwise) v vals attrs (targets_grow seen old b j rows.now starts to_j bs.targets)
          (ap (λ (code : List Instr). mean s code 0 vals [] attrs) is ∙ passed_by s b bs.front.code o k vals [] attrs bs.front.grows far ∙ p.means s few vals attrs));
      keeps = λ t vals attrs. given_leaves (length vals) (trees.expr x t vals attrs) (λ v attrs. trees.arms (trees.arms_of t rows.now) (trees.body t otherwise) v vals attrs) (λ v attrs. arms_leave seen rows.now starts old b t (trees.body t otherwise) v vals attrs bs.targets (p.keeps t vals attrs));
    }

pub taken_next : {A : Type 0} (xs : List A) (i : ℕ) (x : A) → i < length xs → x ≡ get_or xs i x → take (i + 1) xs ≡ take i xs ++ x ∷ []
taken_next [] i x lt is = absurd (omega arith)
taken_next (y ∷ ys) zero x lt is = rw is refl
taken_next (y ∷ ys) (suc i) x lt is = let e : suc i + 1 ≡ suc (i + 1) = omega arith in rw e (ap (λ (zs : List _). y ∷ zs) (taken_next ys i x (omega arith) is))

pub taken_whole : {A : Type 0} (xs : List A) (i : ℕ) → length xs ≤ i → take i xs ≡ xs
taken_whole [] zero le = refl
taken_whole [] (suc i) le = refl
taken_whole (x ∷ xs) zero le = absurd (omega arith)
taken_whole (x ∷ xs) (suc i) le = ap (λ (zs : List _). x ∷ zs) (taken_whole xs i (omega arith))

pub bodies_end : (seen : Seen) (i : ℕ) (rows : List (TArm TStmt)) (starts : List ℕ) (old mid new : List Instr) → length rows ≤ i → Bodies seen (take i rows) starts old mid new → Bodies seen rows starts old mid new
bodies_end seen i rows starts old mid new le p = rw (← taken_whole rows i le) p

pub grows_acts : (seen : Seen) (run : Tables → Act) (old new : List Instr) → Acts seen run old new → Grows old new
grows_acts seen run old new p = record { code = p.code; grows = p.grows }
