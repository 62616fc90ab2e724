-- What code comes to that is emitted from its end, a piece in front of another.
use Rattle.std.proofs.Common.{◌≡◌, ℕ, suc, zero, ◌+◌, ◌-◌, ◌<◌, ◌≤◌, Bool, true, false, not, List, [], ◌∷◌, ◌++◌, map, reverse, length, take, drop, Option, Some, None, Result, Ok, Err, refl, sym, ap, ◌∙◌, arith, length-append, append_assoc}
use Rattle.std.proofs.lemmas.List.{reverse-append, reverse-reverse, length-reverse}
use Rattle.std.proofs.lemmas.List.{length-map}
use Rattle.std.proofs.lemmas.Option.{slice_get_past, slice_get-get_or}
use Rattle.std.proofs.Math.ListN.{get_or}
use Rattle.std.specs.Prelude.{slice_get, ◌==◌, ⊤}
use Rattle.std.specs.Borrow.{Bor}
use Rattle.std.specs.Global.{Global}
use Rattle.std.proofs.Common.{Vec}
use Rattle.std.specs.List.{list_any}
use Rattle.std.specs.Cmp.Lexicographic.{pointwise}
use Rattle.std.specs.Ordering.{is_lt, is_le, is_gt, is_ge}
use Rattle.bits_ip.specs.Prefix.{Net, same_addr, same_net}
use Rattle.attrs.specs.Clist.{same_pair}
use Rattle.attrs.specs.declared.attributes.Attrs.{Attrs}
use Rattle.conf_ast.specs.declared.filters.CompareOp.{CompareOp}
use Rattle.conf_ast.specs.declared.filters.CompareOp.TheVariants as compare_ops
use Rattle.conf_ast.specs.declared.filters.LogicalOp.{LogicalOp}
use Rattle.conf_ast.specs.declared.filters.LogicalOp.TheVariants as logical_ops
use Rattle.conf_ast.specs.declared.attribute.Attribute.{Attribute}
use Rattle.filt_meaning.specs.declared.fixed.Fixed.{Fixed}
use Rattle.filt_meaning.specs.declared.value.Sort.{Sort}
use Rattle.filt_meaning.specs.declared.value.Failure.{Failure}
use Rattle.filt_meaning.specs.declared.value.Sort.TheVariants as sorts
use Rattle.filt_meaning.specs.Members as members
use Rattle.filt_meaning.specs.Operators.{bool_in, truth_of}
use Rattle.filt_meaning.specs.Operators as operators
use Rattle.filt_meaning.specs.Seen.{val_of_fixed}
use Rattle.filt_meaning.specs.Values.{Val, default_of, VInt, VBool, VIp, VPrefix, VPair, VString, VPath, VMask, VClist, VIntSet, VPairSet, VPrefixSet, VSource, VDest, VOrigin}
use Rattle.filt_meaning.specs.Flow.{Stuck, Flow, Done, Stopped, Frame, Run, and_then, plainly}
use Rattle.filt_meaning.specs.Meaning as m
use Rattle.filt_meaning.specs.Names.{Around, Doing, there}
use Rattle.filt_meaning.specs.declared.tree.TExpr.{TExpr}
use Rattle.filt_meaning.specs.declared.tree.TTest.{TTest}
use Rattle.filt_meaning.specs.declared.tree.TTest.TheVariants as tests
use Rattle.filt_meaning.specs.Trees as trees
use Rattle.filt_meaning.specs.Trees.{Tables}
use Rattle.filt_code.specs.declared.instr.Effect.{Effect}
use Rattle.filt_code.specs.declared.instr.Effect.TheVariants as effects
use Rattle.filt_code.specs.declared.instr.Instr.{Instr}
use Rattle.filt_code.specs.declared.instr.Instr.TheVariants as instrs
use Rattle.filt_code.specs.declared.instr.OfOne.{OfOne}
use Rattle.filt_code.specs.declared.instr.OfOne.TheVariants as of_one
use Rattle.filt_code.specs.declared.instr.OfTwo.{OfTwo}
use Rattle.filt_code.specs.declared.instr.Question.TheVariants as questions
use Rattle.filt_code.specs.Codes.{Setting, At, decides, behind_left, mean, put, effect, jump_where, one_of, two_of}
use Rattle.filt_compile.specs.declared.seen.Seen.{Seen}
use Rattle.filt_compile.specs.Emits.{Makes, Puts, PutsAll, Sees, tables_of}
use Rattle.filt_compile.specs.Parts.{Part, One, Two, Joined, made_by, made_by_all}
use Rattle.filt_compile.proofs.Walk.{and_then_assoc, next_got, next_item}
use Rattle.filt_compile.proofs.Seeing.{seen_count}
use Rattle.filt_compile.proofs.Walk as w
use Rattle.filt_meaning.specs.declared.tree.TExpr.TheVariants as e

-- ---- lists

-- behind the front of a code its rest is run
pub passed : (s : Setting) (code old : List Instr) (vals : Frame) (os : List Val) (attrs : Attrs) → mean s (code ++ old) (length code) vals os attrs ≡ mean s old 0 vals os attrs
passed s [] old vals os attrs = refl
passed s (i ∷ code) old vals os attrs = passed s code old vals os attrs

pub passed_by : (s : Setting) (new code old : List Instr) (n : ℕ) (vals : Frame) (os : List Val) (attrs : Attrs) → new ≡ code ++ old → n ≡ length new - length old → mean s new n vals os attrs ≡ mean s old 0 vals os attrs
passed_by s new code old n vals os attrs is e =
    let k : n ≡ length code = omega (arith, ap (λ (xs : List Instr). length xs) is, length-append code old, e) in
    rw (is, k) (passed s code old vals os attrs)

pub further : (new mid old : List Instr) (a b : List Instr) → new ≡ a ++ mid → mid ≡ b ++ old → new ≡ (a ++ b) ++ old
further new mid old a b p q = rw (p, q) (sym (append_assoc a b old))

-- ---- flows

pub put_then : (flow : Flow Val) (vals : Frame) (os : List Val) (next : At) → and_then (put vals os flow) (λ held attrs. next held.0 held.1 attrs) ≡ and_then flow (λ v attrs. next vals (v ∷ os) attrs)
put_then (Done v attrs) vals os next = refl
put_then (Stopped why attrs) vals os next = refl

pub two_then : (flow : Flow Val) (f : Val → Result Val Failure) (vals : Frame) (os : List Val) (next : At) → and_then flow (λ w attrs. and_then (put vals os (plainly (f w) attrs)) (λ held attrs. next held.0 held.1 attrs)) ≡ and_then (and_then flow (λ w attrs. plainly (f w) attrs)) (λ u attrs. next vals (u ∷ os) attrs)
two_then (Done w attrs) f vals os next = put_then (plainly (f w) attrs) vals os next
two_then (Stopped why attrs) f vals os next = refl

-- ---- expressions of one instruction

pub puts_effect : (seen : Seen) (run : Tables → Run Val) (e : Effect) (old new : List Instr) → new ≡ instrs.Do e ∷ old → ((s : Setting) (vals : Frame) (os : List Val) (attrs : Attrs) → effect s.around e vals os attrs ≡ put vals os (run (tables_of seen s) vals attrs)) → Puts seen run old new
puts_effect seen run e old new is same = record {
  code = instrs.Do e ∷ [];
  grows = is;
  means = λ s few vals os attrs. ap (λ (code : List Instr). mean s code 0 vals os attrs) is ∙ ap (λ (f : Flow (Frame × List Val)). and_then f (λ held attrs. mean s old 0 held.0 held.1 attrs)) (same s vals os attrs) ∙ put_then (run (tables_of seen s) vals attrs) vals os (mean s old 0);
}

pub puts_stuck : (seen : Seen) (run : Tables → Run Val) (old new : List Instr) → new ≡ instrs.Stuck ∷ old → ((s : Setting) → Sees seen s → (vals : Frame) (attrs : Attrs) → run (tables_of seen s) vals attrs ≡ Stopped Stuck attrs) → Puts seen run old new
puts_stuck seen run old new is same = record {
  code = instrs.Stuck ∷ [];
  grows = is;
  means = λ s few vals os attrs. ap (λ (code : List Instr). mean s code 0 vals os attrs) is ∙ sym (ap (λ (f : Flow Val). and_then f (λ v attrs. mean s old 0 vals (v ∷ os) attrs)) (same s few vals attrs));
}

pub puts_as : (seen : Seen) (run other : Tables → Run Val) (old new : List Instr) → ((t : Tables) (vals : Frame) (attrs : Attrs) → other t vals attrs ≡ run t vals attrs) → Puts seen run old new → Puts seen other old new
puts_as seen run other old new same p = record {
  code = p.code;
  grows = p.grows;
  means = λ s few vals os attrs. p.means s few vals os attrs ∙ sym (ap (λ (f : Flow Val). and_then f (λ v attrs. mean s old 0 vals (v ∷ os) attrs)) (same (tables_of seen s) vals attrs));
}

-- ---- chains

pub one_makes : (seen : Seen) (op : OfOne) (old new : List Instr) → new ≡ instrs.Do (effects.One op) ∷ old → Makes seen (λ t. made_by t (One op)) old new
one_makes seen op old new is = record {
  code = instrs.Do (effects.One op) ∷ [];
  grows = is;
  means = λ s few v vals os attrs. ap (λ (code : List Instr). mean s code 0 vals (v ∷ os) attrs) is ∙ put_then (plainly (one_of op v) attrs) vals os (mean s old 0);
}

pub two_makes : (seen : Seen) (op : OfTwo) (x : TExpr) (old mid new : List Instr) → mid ≡ instrs.Do (effects.Two op) ∷ old → Puts seen (λ t. trees.expr x t) mid new → Makes seen (λ t. made_by t (Two op x)) old new
two_makes seen op x old mid new is p = record {
  code = p.code ++ instrs.Do (effects.Two op) ∷ [];
  grows = further new mid old p.code (instrs.Do (effects.Two op) ∷ []) p.grows is;
  means = λ s few v vals os attrs. p.means s few vals (v ∷ os) attrs ∙ ap (λ (code : List Instr). and_then (trees.expr x (tables_of seen s) vals attrs) (λ w attrs. mean s code 0 vals (w ∷ v ∷ os) attrs)) is ∙ two_then (trees.expr x (tables_of seen s) vals attrs) (two_of op v) vals os (mean s old 0);
}

-- what is done behind the left side, where the code of the right side stands in front of the other
right_means : (seen : Seen) (x : TExpr) (old right mid : List Instr) → right ≡ instrs.Do (effects.One of_one.Truth) ∷ old → Puts seen (λ t. trees.expr x t) right mid → (s : Setting) → Sees seen s → (vals : Frame) (os : List Val) (attrs : Attrs) → mean s mid 0 vals os attrs ≡ and_then (m.on_value (trees.expr x (tables_of seen s)) truth_of vals attrs) (λ w attrs. mean s old 0 vals (w ∷ os) attrs)
right_means seen x old right mid is p s few vals os attrs =
    p.means s few vals os attrs ∙ ap (λ (code : List Instr). and_then (trees.expr x (tables_of seen s) vals attrs) (λ w attrs. mean s code 0 vals (w ∷ os) attrs)) is ∙ two_then (trees.expr x (tables_of seen s) vals attrs) truth_of vals os (mean s old 0)

left_means : (joint : LogicalOp) (n : ℕ) (b : Run Val) (old mid : List Instr) (s : Setting) → ((vals : Frame) (os : List Val) (attrs : Attrs) → mean s mid 0 vals os attrs ≡ and_then (m.on_value b truth_of vals attrs) (λ w attrs. mean s old 0 vals (w ∷ os) attrs)) → ((vals : Frame) (os : List Val) (attrs : Attrs) → mean s mid n vals os attrs ≡ mean s old 0 vals os attrs) → (left : Bool) (vals : Frame) (os : List Val) (attrs : Attrs) → behind_left (decides joint left) left n (mean s mid) vals os attrs ≡ and_then (m.right_side joint left b vals attrs) (λ w attrs. mean s old 0 vals (w ∷ os) attrs)
left_means logical_ops.And n b old mid s on over true vals os attrs = on vals os attrs
left_means logical_ops.And n b old mid s on over false vals os attrs = over vals (VBool false ∷ os) attrs
left_means logical_ops.Or n b old mid s on over true vals os attrs = over vals (VBool true ∷ os) attrs
left_means logical_ops.Or n b old mid s on over false vals os attrs = on vals os attrs

joint_means : (joint : LogicalOp) (n : ℕ) (b : Run Val) (old mid : List Instr) (s : Setting) → ((vals : Frame) (os : List Val) (attrs : Attrs) → mean s mid 0 vals os attrs ≡ and_then (m.on_value b truth_of vals attrs) (λ w attrs. mean s old 0 vals (w ∷ os) attrs)) → ((vals : Frame) (os : List Val) (attrs : Attrs) → mean s mid n vals os attrs ≡ mean s old 0 vals os attrs) → (flow : Flow Bool) (vals : Frame) (os : List Val) → and_then flow (λ left attrs. behind_left (decides joint left) left n (mean s mid) vals os attrs) ≡ and_then (and_then flow (λ left attrs. m.right_side joint left b vals attrs)) (λ w attrs. mean s old 0 vals (w ∷ os) attrs)
joint_means joint n b old mid s on over (Done left attrs) vals os = left_means joint n b old mid s on over left vals os attrs
joint_means joint n b old mid s on over (Stopped why attrs) vals os = refl

pub joint_makes : (seen : Seen) (joint : LogicalOp) (n : ℕ) (x : TExpr) (old right mid new : List Instr) → right ≡ instrs.Do (effects.One of_one.Truth) ∷ old → Puts seen (λ t. trees.expr x t) right mid → n ≡ length mid - length old → new ≡ instrs.JumpIfDecided joint n ∷ mid → Makes seen (λ t. made_by t (Joined joint x)) old new
joint_makes seen joint n x old right mid new is p e front =
    let grows : mid ≡ (p.code ++ instrs.Do (effects.One of_one.Truth) ∷ []) ++ old = further mid right old p.code (instrs.Do (effects.One of_one.Truth) ∷ []) p.grows is in
    record {
      code = instrs.JumpIfDecided joint n ∷ (p.code ++ instrs.Do (effects.One of_one.Truth) ∷ []);
      grows = front ∙ ap (λ (code : List Instr). instrs.JumpIfDecided joint n ∷ code) grows;
      means = λ s few v vals os attrs. ap (λ (code : List Instr). mean s code 0 vals (v ∷ os) attrs) front ∙ joint_means joint n (trees.expr x (tables_of seen s)) old mid s (right_means seen x old right mid is p s few) (λ vals os attrs. passed_by s mid (p.code ++ instrs.Do (effects.One of_one.Truth) ∷ []) old n vals os attrs grows e) (plainly (bool_in v) attrs) vals os;
    }

-- nothing follows any more
pub makes_nothing : (seen : Seen) (old : List Instr) → Makes seen (λ t. made_by_all t []) old old
makes_nothing seen old = record { code = []; grows = refl; means = λ s few v vals os attrs. refl }

pub makes_more : (seen : Seen) (part : Part) (parts : List Part) (old mid new : List Instr) → Makes seen (λ t. made_by_all t parts) old mid → Makes seen (λ t. made_by t part) mid new → Makes seen (λ t. made_by_all t (part ∷ parts)) old new
makes_more seen part parts old mid new p q = record {
  code = q.code ++ p.code;
  grows = further new mid old q.code p.code q.grows p.grows;
  means = λ s few v vals os attrs. q.means s few v vals os attrs ∙ then s few vals os (made_by (tables_of seen s) part v vals attrs);
}
  where
    then : (s : Setting) → Sees seen s → (vals : Frame) (os : List Val) (flow : Flow Val) → and_then flow (λ w attrs. mean s mid 0 vals (w ∷ os) attrs) ≡ and_then (and_then flow (λ w attrs. made_by_all (tables_of seen s) parts w vals attrs)) (λ w attrs. mean s old 0 vals (w ∷ os) attrs)
    then s few vals os (Done w attrs) = p.means s few w vals os attrs
    then s few vals os (Stopped why attrs) = refl

pub makes_parts : (seen : Seen) (ps qs : List Part) (old new : List Instr) → ps ≡ qs → Makes seen (λ t. made_by_all t qs) old new → Makes seen (λ t. made_by_all t ps) old new
makes_parts seen ps qs old new is p = rw is p

pub chain_puts : (seen : Seen) (first : TExpr) (parts : List Part) (old mid new : List Instr) → Makes seen (λ t. made_by_all t parts) old mid → Puts seen (λ t. trees.expr first t) mid new → Puts seen (λ t vals attrs. and_then (trees.expr first t vals attrs) (λ v attrs. made_by_all t parts v vals attrs)) old new
chain_puts seen first parts old mid new p q = record {
  code = q.code ++ p.code;
  grows = further new mid old q.code p.code q.grows p.grows;
  means = λ s few vals os attrs. q.means s few vals os attrs ∙ then s few vals os (trees.expr first (tables_of seen s) vals attrs);
}
  where
    then : (s : Setting) → Sees seen s → (vals : Frame) (os : List Val) (flow : Flow Val) → and_then flow (λ w attrs. mean s mid 0 vals (w ∷ os) attrs) ≡ and_then (and_then flow (λ w attrs. made_by_all (tables_of seen s) parts w vals attrs)) (λ w attrs. mean s old 0 vals (w ∷ os) attrs)
    then s few vals os (Done w attrs) = p.means s few w vals os attrs
    then s few vals os (Stopped why attrs) = refl

-- ---- arguments

pub puts_none : (seen : Seen) (old : List Instr) → PutsAll seen (λ t. trees.all_values (trees.exprs t [])) old old
puts_none seen old = record { code = []; grows = refl; means = λ s few vals os attrs. refl }

pub puts_more : (seen : Seen) (x : TExpr) (es : List TExpr) (old mid new : List Instr) → PutsAll seen (λ t. trees.all_values (trees.exprs t es)) old mid → Puts seen (λ t. trees.expr x t) mid new → PutsAll seen (λ t. trees.all_values (trees.exprs t (x ∷ es))) old new
puts_more seen x es old mid new p q = record {
  code = q.code ++ p.code;
  grows = further new mid old q.code p.code q.grows p.grows;
  means = λ s few vals os attrs. q.means s few vals os attrs ∙ then s few vals os (trees.expr x (tables_of seen s) vals attrs);
}
  where
    back : (s : Setting) (vals : Frame) (os : List Val) (v : Val) (flow : Flow Frame) → and_then flow (λ vs attrs. mean s old 0 vals (reverse vs ++ v ∷ os) attrs) ≡ and_then (and_then flow (λ vs attrs. Done (v ∷ vs) attrs)) (λ vs attrs. mean s old 0 vals (reverse vs ++ os) attrs)
    back s vals os v (Done vs attrs) = ap (λ (ws : List Val). mean s old 0 vals ws attrs) (turned v vs os)
      where
        turned : (v : Val) (vs os : List Val) → reverse vs ++ v ∷ os ≡ reverse (v ∷ vs) ++ os
        turned v vs os = sym (ap (λ (ws : List Val). ws ++ os) (reverse-append (v ∷ []) vs) ∙ append_assoc (reverse vs) (v ∷ []) os)
    back s vals os v (Stopped why attrs) = refl

    then : (s : Setting) → Sees seen s → (vals : Frame) (os : List Val) (flow : Flow Val) → and_then flow (λ w attrs. mean s mid 0 vals (w ∷ os) attrs) ≡ and_then (and_then flow (λ v attrs. and_then (trees.all_values (trees.exprs (tables_of seen s) es) vals attrs) (λ vs attrs. Done (v ∷ vs) attrs))) (λ vs attrs. mean s old 0 vals (reverse vs ++ os) attrs)
    then s few vals os (Done v attrs) = p.means s few vals (v ∷ os) attrs ∙ back s vals os v (trees.all_values (trees.exprs (tables_of seen s) es) vals attrs)
    then s few vals os (Stopped why attrs) = refl

-- ---- constants

slice_get-map : {A B : Type 0} (f : A → B) (xs : List A) (n : ℕ) (x : A) → slice_get xs n ≡ Some x → slice_get (map f xs) n ≡ Some (f x)
slice_get-map f [] n x is = absurd (cc)
slice_get-map f (y ∷ ys) zero x is = let p : y ≡ x = cc in rw p refl
slice_get-map f (y ∷ ys) (suc n) x is = slice_get-map f ys n x is

pub constant_puts : (seen : Seen) (n : ℕ) (v : Bor Fixed) (old new : List Instr) → new ≡ instrs.Do (effects.Push v) ∷ old → slice_get seen.constants.now n ≡ Some v.now → Puts seen (λ t. m.given (there (slice_get t.constants n))) old new
constant_puts seen n v old new is at =
    puts_effect seen (λ t. m.given (there (slice_get t.constants n))) (effects.Push v) old new is (λ s vals os attrs. ap (λ (held : Option Val). put vals os (m.given (there held) vals attrs)) (sym (slice_get-map val_of_fixed seen.constants.now n v.now at)))

pub no_constant_puts : (seen : Seen) (n : ℕ) (old new : List Instr) → new ≡ instrs.Stuck ∷ old → length seen.constants.now ≤ n → Puts seen (λ t. m.given (there (slice_get t.constants n))) old new
no_constant_puts seen n old new is past =
    puts_stuck seen (λ t. m.given (there (slice_get t.constants n))) old new is (λ s few vals attrs. ap (λ (held : Option Val). m.given (there held) vals attrs) (slice_get_past (map val_of_fixed seen.constants.now) n (omega (arith, length-map seen.constants.now val_of_fixed, past))))

-- ---- tests

pub truth_said : {A : Type 0} (r : Result A Failure) (f : A → Bool) → operators.and_then (operators.and_then r (λ a. operators.says (f a))) truth_of ≡ operators.and_then r (λ a. operators.says (f a))
truth_said (Ok a) f = refl
truth_said (Err failure) f = refl

truth_turned : (r : Result Val Failure) → operators.and_then (operators.and_then r operators.not_of) truth_of ≡ operators.and_then r operators.not_of
truth_turned (Ok v) = truth_said (bool_in v) (λ b. not b)
truth_turned (Err failure) = refl

truth_equal : (v w : Val) → operators.and_then (operators.equal_of v w) truth_of ≡ operators.equal_of v w
truth_equal (VInt a) w = truth_said (operators.int_in w) (λ b. a == b)
truth_equal (VBool a) w = truth_said (operators.bool_in w) (λ b. members.same_bool a b)
truth_equal (VIp a) w = truth_said (operators.ip_in w) (λ b. same_addr a b)
truth_equal (VPrefix a) w = truth_said (operators.prefix_in w) (λ b. same_net a b)
truth_equal (VPair a) w = truth_said (operators.pair_in w) (λ b. same_pair a b)
truth_equal (VString a) w = truth_said (operators.string_in w) (λ b. pointwise ◌==◌ a b)
truth_equal (VPath a) w = truth_said (operators.path_in w) (λ b. pointwise ◌==◌ a b)
truth_equal (VClist a) w = truth_said (operators.clist_in w) (λ b. pointwise same_pair a b)
truth_equal (VSource a) w = truth_said (operators.source_in w) (λ b. members.source_rank a == members.source_rank b)
truth_equal (VDest a) w = truth_said (operators.dest_in w) (λ b. members.dest_rank a == members.dest_rank b)
truth_equal (VOrigin a) w = truth_said (operators.origin_in w) (λ b. members.origin_rank a == members.origin_rank b)
truth_equal (VMask a) w = refl
truth_equal (VIntSet a) w = refl
truth_equal (VPairSet a) w = refl
truth_equal (VPrefixSet a) w = refl

truth_int : (w : Val) (n : ℕ) → operators.and_then (operators.has_int w n) truth_of ≡ operators.has_int w n
truth_int (VIntSet s) n = refl
truth_int (VPath s) n = refl
truth_int _ n = refl

truth_pair : (w : Val) (p : ℕ × ℕ) → operators.and_then (operators.has_one_pair w p) truth_of ≡ operators.has_one_pair w p
truth_pair (VPairSet s) n = refl
truth_pair (VClist s) n = refl
truth_pair _ n = refl

truth_net : (w : Val) (p : Net) → operators.and_then (operators.has_net w p) truth_of ≡ operators.has_net w p
truth_net (VPrefixSet s) n = refl
truth_net (VPrefix s) n = refl
truth_net _ n = refl

truth_path : (w : Val) (p : List ℕ) → operators.and_then (operators.takes_path w p) truth_of ≡ operators.takes_path w p
truth_path (VIntSet s) n = refl
truth_path (VMask s) n = refl
truth_path _ n = refl

pub truth_matches : (v w : Val) → operators.and_then (operators.matches_of v w) truth_of ≡ operators.matches_of v w
truth_matches (VInt a) w = truth_int w a
truth_matches (VPair a) w = truth_pair w a
truth_matches (VPrefix a) w = truth_net w a
truth_matches (VIp a) w = truth_said (operators.prefix_in w) (λ net. members.covers net (members.host_of a))
truth_matches (VPath a) w = truth_path w a
truth_matches (VClist a) w = truth_said (operators.pair_set_in w) (λ s. list_any (λ p. members.in_pairs s p) a)
truth_matches _ w = refl

-- a comparison gives a truth value
pub truth_compare : (op : CompareOp) (v w : Val) → operators.and_then (m.compare_of op v w) truth_of ≡ m.compare_of op v w
truth_compare compare_ops.Equal v w = truth_equal v w
truth_compare compare_ops.NotEqual v w = truth_turned (operators.equal_of v w)
truth_compare compare_ops.Less v w = truth_said (operators.order_of v w) (λ order. is_lt order)
truth_compare compare_ops.LessOrEqual v w = truth_said (operators.order_of v w) (λ order. is_le order)
truth_compare compare_ops.Greater v w = truth_said (operators.order_of v w) (λ order. is_gt order)
truth_compare compare_ops.GreaterOrEqual v w = truth_said (operators.order_of v w) (λ order. is_ge order)
truth_compare compare_ops.Matches v w = truth_matches v w
truth_compare compare_ops.MatchesNot v w = truth_turned (operators.matches_of v w)

pub truth_plainly : (r : Result Val Failure) (attrs : Attrs) → operators.and_then r truth_of ≡ r → and_then (plainly r attrs) (λ v attrs. plainly (truth_of v) attrs) ≡ plainly r attrs
truth_plainly (Ok v) attrs is = ap (λ (r : Result Val Failure). plainly r attrs) is
truth_plainly (Err failure) attrs is = refl

pub truth_then : {A : Type 0} (flow : Flow A) (f : A → Result Val Failure) → ((a : A) → operators.and_then (f a) truth_of ≡ f a) → and_then (and_then flow (λ a attrs. plainly (f a) attrs)) (λ v attrs. plainly (truth_of v) attrs) ≡ and_then flow (λ a attrs. plainly (f a) attrs)
truth_then (Done a attrs) f is = truth_plainly (f a) attrs (is a)
truth_then (Stopped why attrs) f is = refl

-- a test gives a truth value
pub truth_test : (around : Around) (what : TTest) (vals : Frame) (attrs : Attrs) → and_then (trees.test around what vals attrs) (λ v attrs. plainly (truth_of v) attrs) ≡ trees.test around what vals attrs
truth_test around (tests.Attribute a op n) vals attrs = truth_then (m.attribute around a vals attrs) (λ v. m.compare_of op v (VInt n)) (λ v. truth_compare op v (VInt n))
truth_test around (tests.Property a p op n) vals attrs = truth_then (m.on_value (m.attribute around a) (m.property_of p) vals attrs) (λ v. m.compare_of op v (VInt n)) (λ v. truth_compare op v (VInt n))
truth_test around (tests.Pair x y op a) vals attrs = truth_then (m.attribute around a vals attrs) (λ w. m.compare_of op (VPair (x, y)) w) (λ w. truth_compare op (VPair (x, y)) w)

-- the two ways behind the question
abbrev pub answers : List Instr → List Instr
answers old = instrs.Do (effects.Default sorts.Bool) ∷ instrs.Jump 2 ∷ instrs.Do (effects.Default sorts.Bool) ∷ instrs.Do (effects.One of_one.Not) ∷ old

answered_by : (s : Setting) (old : List Instr) (b : Bool) (vals : Frame) (os : List Val) (attrs : Attrs) → mean s (answers old) (jump_where true 2 b) vals os attrs ≡ mean s old 0 vals (VBool b ∷ os) attrs
answered_by s old true vals os attrs = refl
answered_by s old false vals os attrs = refl

answered_in : (s : Setting) (old : List Instr) (r : Result Bool Failure) (vals : Frame) (os : List Val) (attrs : Attrs) → and_then (plainly r attrs) (λ b attrs. mean s (answers old) (jump_where true 2 b) vals os attrs) ≡ and_then (plainly (operators.and_then r (λ b. operators.says b)) attrs) (λ v attrs. mean s old 0 vals (v ∷ os) attrs)
answered_in s old (Ok b) vals os attrs = answered_by s old b vals os attrs
answered_in s old (Err failure) vals os attrs = refl

pub answered : (s : Setting) (old : List Instr) (flow : Flow Val) (vals : Frame) (os : List Val) → and_then flow (λ v attrs. and_then (plainly (bool_in v) attrs) (λ b attrs. mean s (answers old) (jump_where true 2 b) vals os attrs)) ≡ and_then (and_then flow (λ v attrs. plainly (truth_of v) attrs)) (λ v attrs. mean s old 0 vals (v ∷ os) attrs)
answered s old (Done v attrs) vals os = answered_in s old (bool_in v) vals os attrs
answered s old (Stopped why attrs) vals os = refl

pub test_puts : (seen : Seen) (what : TTest) (old a b c d new : List Instr) → a ≡ instrs.Do (effects.One of_one.Not) ∷ old → b ≡ instrs.Do (effects.Default sorts.Bool) ∷ a → c ≡ instrs.Jump 2 ∷ b → d ≡ instrs.Do (effects.Default sorts.Bool) ∷ c → new ≡ instrs.JumpIfAsked true (questions.Test what) 2 ∷ d → Puts seen (λ t. trees.test t.around what) old new
test_puts seen what old a b c d new p q r u w =
    let is : new ≡ instrs.JumpIfAsked true (questions.Test what) 2 ∷ answers old = rw (w, u, r, q, p) refl in
    record {
      code = instrs.JumpIfAsked true (questions.Test what) 2 ∷ answers [];
      grows = is;
      means = λ s few vals os attrs. ap (λ (code : List Instr). mean s code 0 vals os attrs) is ∙ answered s old (trees.test s.around what vals attrs) vals os ∙ ap (λ (f : Flow Val). and_then f (λ v attrs. mean s old 0 vals (v ∷ os) attrs)) (truth_test s.around what vals attrs);
    }

-- ---- calls

-- as many values, where there are any
abbrev pub Counted : ℕ → Flow Frame → Type 0
Counted n (Done vs attrs) = length vs ≡ n
Counted n (Stopped why attrs) = ⊤

counted_front : (n : ℕ) (v : Val) (rest : Flow Frame) → Counted n rest → Counted (suc n) (and_then rest (λ vs attrs. Done (v ∷ vs) attrs))
counted_front n v (Done vs attrs) is = ap suc is
counted_front n v (Stopped why attrs) is = tt

counted_more : (n : ℕ) (flow : Flow Val) (rest : Attrs → Flow Frame) → ((attrs : Attrs) → Counted n (rest attrs)) → Counted (suc n) (and_then flow (λ v attrs. and_then (rest attrs) (λ vs attrs. Done (v ∷ vs) attrs)))
counted_more n (Done v attrs) rest is = counted_front n v (rest attrs) (is attrs)
counted_more n (Stopped why attrs) rest is = tt

pub values_counted : (t : Tables) (es : List TExpr) (vals : Frame) (attrs : Attrs) → Counted (length es) (trees.all_values (trees.exprs t es) vals attrs)
values_counted t [] vals attrs = refl
values_counted t (x ∷ es) vals attrs = counted_more (length es) (trees.expr x t vals attrs) (λ attrs. trees.all_values (trees.exprs t es) vals attrs) (λ attrs. values_counted t es vals attrs)

take_front : {A : Type 0} (xs ys : List A) (n : ℕ) → length xs ≡ n → take n (xs ++ ys) ≡ xs
take_front [] ys zero is = refl
take_front [] ys (suc n) is = absurd (omega (arith, is))
take_front (x ∷ xs) ys zero is = absurd (omega (arith, is))
take_front (x ∷ xs) ys (suc n) is = ap (λ (zs : List _). x ∷ zs) (take_front xs ys n (omega (arith, is)))

drop_front : {A : Type 0} (xs ys : List A) (n : ℕ) → length xs ≡ n → drop n (xs ++ ys) ≡ ys
drop_front [] ys zero is = refl
drop_front [] ys (suc n) is = absurd (omega (arith, is))
drop_front (x ∷ xs) ys zero is = absurd (omega (arith, is))
drop_front (x ∷ xs) ys (suc n) is = drop_front xs ys n (omega (arith, is))

pub taken_back : (vs os : List Val) (n : ℕ) → length vs ≡ n → reverse (take n (reverse vs ++ os)) ≡ vs
taken_back vs os n is = ap reverse (take_front (reverse vs) os n (length-reverse vs ∙ is)) ∙ reverse-reverse vs

pub left_under : (vs os : List Val) (n : ℕ) → length vs ≡ n → drop n (reverse vs ++ os) ≡ os
left_under vs os n is = drop_front (reverse vs) os n (length-reverse vs ∙ is)

call_then : (s : Setting) (f : Doing) (n : ℕ) (old : List Instr) (vals : Frame) (os : List Val) (arguments : Flow Frame) → Counted n arguments → and_then arguments (λ vs attrs. and_then (f (reverse (take n (reverse vs ++ os))) attrs) (λ result attrs. and_then (plainly (there result) attrs) (λ v attrs. mean s old 0 vals (v ∷ drop n (reverse vs ++ os)) attrs))) ≡ and_then (and_then (and_then arguments f) (λ result attrs. plainly (there result) attrs)) (λ v attrs. mean s old 0 vals (v ∷ os) attrs)
call_then s f n old vals os (Done vs attrs) is =
    ap (λ (ws : List Val). and_then (f ws attrs) (λ result attrs. and_then (plainly (there result) attrs) (λ v attrs. mean s old 0 vals (v ∷ drop n (reverse vs ++ os)) attrs))) (taken_back vs os n is)
    ∙ ap (λ (ws : List Val). and_then (f vs attrs) (λ result attrs. and_then (plainly (there result) attrs) (λ v attrs. mean s old 0 vals (v ∷ ws) attrs))) (left_under vs os n is)
    ∙ sym (and_then_assoc (f vs attrs) (λ result attrs. plainly (there result) attrs) (λ v attrs. mean s old 0 vals (v ∷ os) attrs))
call_then s f n old vals os (Stopped why attrs) is = refl

pub called_by : (s : Setting) (number : ℕ) → number < length s.functions → (f : Doing) × slice_get s.functions number ≡ Some f
called_by s number lt = (get_or s.functions number (λ vs attrs. Stopped Stuck attrs), slice_get-get_or s.functions number (λ vs attrs. Stopped Stuck attrs) lt)

call_means : (seen : Seen) (s : Setting) (number n : ℕ) (es : List TExpr) (old : List Instr) (f : Doing) (vals : Frame) (os : List Val) (attrs : Attrs) → n ≡ length es → slice_get s.functions number ≡ Some f → and_then (trees.all_values (trees.exprs (tables_of seen s) es) vals attrs) (λ vs attrs. mean s (instrs.Call number n ∷ old) 0 vals (reverse vs ++ os) attrs) ≡ and_then (m.called_value (slice_get s.functions number) (trees.all_values (trees.exprs (tables_of seen s) es)) vals attrs) (λ v attrs. mean s old 0 vals (v ∷ os) attrs)
call_means seen s number n es old f vals os attrs is at =
    rw (at, is) (call_then s f (length es) old vals os (trees.all_values (trees.exprs (tables_of seen s) es) vals attrs) (values_counted (tables_of seen s) es vals attrs))

pub call_puts : (seen : Seen) (number n : ℕ) (es : List TExpr) (old mid new : List Instr) → number < length seen.routines.now → n ≡ length es → mid ≡ instrs.Call number n ∷ old → PutsAll seen (λ t. trees.all_values (trees.exprs t es)) mid new → Puts seen (λ t. m.called_value (slice_get t.functions number) (trees.all_values (trees.exprs t es))) old new
call_puts seen number n es old mid new lt count is p = record {
  code = p.code ++ instrs.Call number n ∷ [];
  grows = further new mid old p.code (instrs.Call number n ∷ []) p.grows is;
  means = λ s few vals os attrs. p.means s few vals os attrs
      ∙ ap (λ (code : List Instr). and_then (trees.all_values (trees.exprs (tables_of seen s) es) vals attrs) (λ vs attrs. mean s code 0 vals (reverse vs ++ os) attrs)) is
      ∙ call_means seen s number n es old (called_by s number (omega (arith, lt, seen_count seen s few))).0 vals os attrs count (called_by s number (omega (arith, lt, seen_count seen s few))).1;
}

pub no_call_puts : (seen : Seen) (number : ℕ) (es : List TExpr) (old new : List Instr) → length seen.routines.now ≤ number → new ≡ instrs.Stuck ∷ old → Puts seen (λ t. m.called_value (slice_get t.functions number) (trees.all_values (trees.exprs t es))) old new
no_call_puts seen number es old new le is =
    puts_stuck seen (λ t. m.called_value (slice_get t.functions number) (trees.all_values (trees.exprs t es))) old new is (λ s few vals attrs. ap (λ (d : Option Doing). m.called_value d (trees.all_values (trees.exprs (tables_of seen s) es)) vals attrs) (slice_get_past s.functions number (omega (arith, le, seen_count seen s few))))

-- ---- forms

pub leaf_puts : (seen : Seen) (x : TExpr) (run : Tables → Run Val) (e : Effect) (old new : List Instr) → new ≡ instrs.Do e ∷ old → ((t : Tables) → trees.expr x t ≡ run t) → ((s : Setting) (vals : Frame) (os : List Val) (attrs : Attrs) → effect s.around e vals os attrs ≡ put vals os (run (tables_of seen s) vals attrs)) → Puts seen (λ t. trees.expr x t) old new
leaf_puts seen x run e old new is same means = puts_as seen run (λ t. trees.expr x t) old new (λ t vals attrs. ap (λ (f : Run Val). f vals attrs) (same t)) (puts_effect seen run e old new is means)

pub value_puts : (seen : Seen) (x : TExpr) (v : Bor Fixed) (known : Fixed) (old new : List Instr) → new ≡ instrs.Do (effects.Push v) ∷ old → v.now ≡ known → x ≡ e.Value known → Puts seen (λ t. trees.expr x t) old new
value_puts seen x v known old new is held same = leaf_puts seen x (λ t. m.given (Ok (val_of_fixed known))) (effects.Push v) old new is (λ t. w.value_is known x t same) (λ s vals os attrs. ap (λ (f : Fixed). put vals os (m.given (Ok (val_of_fixed f)) vals attrs)) held)

pub local_puts : (seen : Seen) (x : TExpr) (n : ℕ) (old new : List Instr) → new ≡ instrs.Do (effects.Local n) ∷ old → x ≡ e.Local n → Puts seen (λ t. trees.expr x t) old new
local_puts seen x n old new is same = leaf_puts seen x (λ t. m.variable_or (Some n) None) (effects.Local n) old new is (λ t. w.local_is n x t same) (λ s vals os attrs. refl)

pub attribute_puts : (seen : Seen) (x : TExpr) (a : Attribute) (old new : List Instr) → new ≡ instrs.Do (effects.Attribute a) ∷ old → x ≡ e.Attribute a → Puts seen (λ t. trees.expr x t) old new
attribute_puts seen x a old new is same = leaf_puts seen x (λ t. m.attribute t.around a) (effects.Attribute a) old new is (λ t. w.attribute_is a x t same) (λ s vals os attrs. refl)

pub defined_puts : (seen : Seen) (x : TExpr) (a : Attribute) (old new : List Instr) → new ≡ instrs.Do (effects.Defined a) ∷ old → x ≡ e.Defined a → Puts seen (λ t. trees.expr x t) old new
defined_puts seen x a old new is same = leaf_puts seen x (λ t. m.defined a) (effects.Defined a) old new is (λ t. w.defined_is a x t same) (λ s vals os attrs. refl)

pub default_puts : (seen : Seen) (x : TExpr) (sort : Sort) (old new : List Instr) → new ≡ instrs.Do (effects.Default sort) ∷ old → x ≡ e.Default sort → Puts seen (λ t. trees.expr x t) old new
default_puts seen x sort old new is same = leaf_puts seen x (λ t. m.given (Ok (default_of sort))) (effects.Default sort) old new is (λ t. w.default_is sort x t same) (λ s vals os attrs. refl)

pub stuck_puts : (seen : Seen) (x : TExpr) (old new : List Instr) → new ≡ instrs.Stuck ∷ old → x ≡ e.Stuck → Puts seen (λ t. trees.expr x t) old new
stuck_puts seen x old new is same = puts_stuck seen (λ t. trees.expr x t) old new is (λ s few vals attrs. ap (λ (f : Run Val). f vals attrs) (w.stuck_is x (tables_of seen s) same))

pub makes_part : (seen : Seen) (p q : Part) (old new : List Instr) → p ≡ q → Makes seen (λ t. made_by t q) old new → Makes seen (λ t. made_by t p) old new
makes_part seen p q old new is makes = rw is makes

pub makes_at : (seen : Seen) (parts : List Part) (n : ℕ) (part : Part) (old mid new : List Instr) → 0 < n → slice_get parts (n - 1) ≡ Some part → Makes seen (λ t. made_by_all t (drop n parts)) old mid → Makes seen (λ t. made_by t part) mid new → Makes seen (λ t. made_by_all t (drop (n - 1) parts)) old new
makes_at seen parts n part old mid new some at p q =
    let k : n - 1 + 1 ≡ n = omega (arith, some) in
    makes_parts seen (drop (n - 1) parts) (part ∷ drop n parts) old new (next_got parts (n - 1) part at ∙ ap (λ (i : ℕ). part ∷ drop i parts) k) (makes_more seen part (drop n parts) old mid new p q)

pub chain_puts_at : (seen : Seen) (first : TExpr) (parts : List Part) (n : ℕ) (old mid new : List Instr) → n ≤ 0 → Makes seen (λ t. made_by_all t (drop n parts)) old mid → Puts seen (λ t. trees.expr first t) mid new → Puts seen (λ t vals attrs. and_then (trees.expr first t vals attrs) (λ v attrs. made_by_all t parts v vals attrs)) old new
chain_puts_at seen first parts zero old mid new le p q = chain_puts seen first parts old mid new p q
chain_puts_at seen first parts (suc n) old mid new le p q = absurd (omega (arith, le))

all_parts : (seen : Seen) (es fs : List TExpr) (old new : List Instr) → es ≡ fs → PutsAll seen (λ t. trees.all_values (trees.exprs t fs)) old new → PutsAll seen (λ t. trees.all_values (trees.exprs t es)) old new
all_parts seen es fs old new is p = rw is p

pub puts_at : (seen : Seen) (es : List TExpr) (n : ℕ) (x : TExpr) (old mid new : List Instr) → 0 < n → n ≤ length es → x ≡ get_or es (n - 1) x → PutsAll seen (λ t. trees.all_values (trees.exprs t (drop n es))) old mid → Puts seen (λ t. trees.expr x t) mid new → PutsAll seen (λ t. trees.all_values (trees.exprs t (drop (n - 1) es))) old new
puts_at seen es n x old mid new some low at p q =
    let k : n - 1 + 1 ≡ n = omega (arith, some) in
    all_parts seen (drop (n - 1) es) (x ∷ drop n es) old new (next_item es (n - 1) x (omega (arith, some, low)) at ∙ ap (λ (i : ℕ). x ∷ drop i es) k) (puts_more seen x (drop n es) old mid new p q)

pub puts_end : (seen : Seen) (es : List TExpr) (n : ℕ) (old new : List Instr) → n ≤ 0 → PutsAll seen (λ t. trees.all_values (trees.exprs t (drop n es))) old new → PutsAll seen (λ t. trees.all_values (trees.exprs t es)) old new
puts_end seen es zero old new le p = p
puts_end seen es (suc n) old new le p = absurd (omega (arith, le))

drop_whole : {A : Type 0} (xs : List A) (n : ℕ) → length xs ≤ n → drop n xs ≡ []
drop_whole xs n le = w.nothing_left xs n le

pub makes_start : (seen : Seen) (parts : List Part) (n : ℕ) (old : List Instr) → length parts ≤ n → Makes seen (λ t. made_by_all t (drop n parts)) old old
makes_start seen parts n old le = makes_parts seen (drop n parts) [] old old (drop_whole parts n le) (makes_nothing seen old)

pub puts_start : (seen : Seen) (es : List TExpr) (n : ℕ) (old : List Instr) → length es ≤ n → PutsAll seen (λ t. trees.all_values (trees.exprs t (drop n es))) old old
puts_start seen es n old le = all_parts seen (drop n es) [] old old (drop_whole es n le) (puts_none seen old)

-- how far a jump leads over what was emitted since
pub distance : (n len before : ℕ) (mid old : Vec Instr Global) → n ≡ len - before → len ≡ length mid.items → before ≡ length old.items → n ≡ length (reverse mid.items) - length (reverse old.items)
distance n len before mid old is a b = rw (is, a, b, length-reverse mid.items, length-reverse old.items) refl
