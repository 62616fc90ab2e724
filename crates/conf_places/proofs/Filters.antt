-- What is refused in a filter stands where it is written: what holds of each place of a filter
-- holds of the places of its refusals.
use Rattle.std.proofs.Common.{ℕ, Bool, true, false, not, ◌||◌, ◌==◌, if◌then◌else◌, List, [], ◌∷◌, ◌++◌, length, Option, Some, None, nat_lt}
use Rattle.conf_ast.specs.declared.named.Name.{Name}
use Rattle.conf_ast.specs.Names.{name_bytes}
use Rattle.conf_ast.specs.declared.attribute.Attribute.TheVariants as attributes
use Rattle.conf_ast.specs.declared.filters.Item.{Item}
use Rattle.conf_ast.specs.declared.filters.Item.TheVariants as items
use Rattle.conf_ast.specs.declared.filters.Lengths.{Lengths}
use Rattle.conf_ast.specs.declared.filters.Lengths.TheVariants as lengths
use Rattle.conf_ast.specs.declared.filters.MaskAtom.{MaskAtom}
use Rattle.conf_ast.specs.declared.filters.MaskAtom.TheVariants as mask_atoms
use Rattle.conf_ast.specs.declared.filters.MaskItem.{MaskItem}
use Rattle.conf_ast.specs.declared.filters.Method.{Method}
use Rattle.conf_ast.specs.declared.filters.Num.{Num}
use Rattle.conf_ast.specs.declared.filters.Num.TheVariants as nums
use Rattle.conf_ast.specs.declared.filters.PairPart.{PairPart}
use Rattle.conf_ast.specs.declared.filters.PairPart.TheVariants as parts
use Rattle.conf_ast.specs.declared.filters.Parameter.{Parameter}
use Rattle.conf_ast.specs.declared.filters.NumRange.{NumRange}
use Rattle.conf_ast.specs.declared.filters.Atom.{Atom}
use Rattle.conf_ast.specs.declared.filters.Atom.TheVariants as atoms
use Rattle.conf_ast.specs.declared.filters.Target.{Target}
use Rattle.conf_ast.specs.declared.filters.Target.TheVariants as targets
use Rattle.conf_ast.specs.declared.filters.VariableType.{VariableType}
use Rattle.bits_ip.specs.Prefix.{Net}
use Rattle.conf_ast.specs.Configurations.{Routine}
use Rattle.conf_ast.specs.Filters.{Expression, Plain, Named, Called, Grouped, Paired, SetOf, MaskOf, IsDefined, MethodOf, PropertyOf, Changed, Negated, Multiplied, Added, Compared, Joined, Expressions, NoExpressions, AndExpressions, Statement, Braced, Nothing, Declare, Assign, ChangeBy, Clear, Unset, If, IfElse, Case, CaseElse, For, Accept, Reject, Return, Print, Printn, Call, Statements, NoStatements, AndStatements, Arms, NoArms, AndArms}
use Rattle.filt_meaning.specs.declared.value.Sort.{Sort}
use Rattle.filt_meaning.specs.Sorts.{one_bool, one_list}
use Rattle.filt_meaning.specs.Names.{sort_of_type}
use Rattle.filt_types.specs.declared.refusal.Cause.{Cause}
use Rattle.filt_types.specs.declared.refusal.Cause.TheVariants as causes
use Rattle.filt_types.specs.declared.refusal.Refusal.{Refusal}
use Rattle.filt_types.specs.Expressions.{Judgement, judge, judge_all, is_other, wants, wanted, of_one, of_two, between, disagree, plain, known_as, sort_of_named, set, mask, pair, over_16_bits, written, all_refusals, arguments_wanted, call, called, gives_nothing}
use Rattle.filt_types.specs.Items as rules
use Rattle.filt_types.specs.Items.{place_of, number, value_of, is_none, numbers, last_number, last_of, backwards, is_backwards, range, is_over, names_in_part, limits_of_part, names_in_lengths, limits_of_lengths, are_lengths_wrong, item, all_items, sorts_of_items, is_empty, differ, common, NoneYet, atom, all_atoms, last_over_16_bits}
use Rattle.filt_types.specs.Refusals.{refused_if}
use Rattle.filt_meaning.specs.Rules.{RuleOfOne, RuleOfTwo, left_of, right_of, arithmetic, pairing, joining, comparing, method, negating, property, same_sort, one_of_cases, can_be_unset}
use Rattle.filt_types.specs.Scenes.{Scene, Signature, Variables, variable_of, constant_of, function_of, is_seen, declaring, declared}
use Rattle.filt_types.specs.Statements as acts
use Rattle.filt_types.specs.Statements.{Around, Aim, Holds, IsFixed, Unknown, aim, assigned, is_dest_word, no_sort, assign, changed, operand, cleared, initial, labels, lacks_labels, of_value, cases, lists_of, is_other_list, over_list, returned, return, check, check_all, check_arms, in_filter, parameters, sort_given, in_function}
use Rattle.filt_types.specs.Expressions.{constant_word}
use Rattle.filt_types.specs.Weight.{block_weight, too_heavy}
use Rattle.filt_types.specs.Refused.{of_filter, of_function}
use Rattle.conf_places.specs.Filters.{of_num, of_optional_num, of_part, of_pair_part, of_lengths, of_item, of_items, of_atom, of_mask, of_simple, of_expression, of_expressions, of_optional, of_target, of_statement, of_statements, of_arms, of_parameters}
use Rattle.conf_places.proofs.Every.{Every, join, left, right}

module _ (P : ℕ → Type 0) where
  -- it holds of the place of each refusal
  abbrev pub Stand : List Refusal → Type 0
  Stand rs = Every (λ (r : Refusal). P r.at) rs

  both : (xs ys : List Refusal) → Stand xs → Stand ys → Stand (xs ++ ys)
  both xs ys p q = join (λ (r : Refusal). P r.at) xs ys p q

  front : (xs ys : List ℕ) → Every P (xs ++ ys) → Every P xs
  front xs ys p = left P xs ys p

  back : (xs ys : List ℕ) → Every P (xs ++ ys) → Every P ys
  back xs ys p = right P xs ys p

  if_refused : (b : Bool) (at : ℕ) (cause : Cause) → P at → Stand (refused_if b at cause)
  if_refused true at cause p = (p, tt)
  if_refused false at cause p = tt

  -- ---- items

  at_num : (n : Num) → P (of_num n) → P (place_of n)
  at_num (nums.Number at n) p = p
  at_num (nums.Name name) p = p

  pub number_stands : (scene : Scene) (n : Num) → P (of_num n) → Stand (number scene n)
  number_stands scene n p = if_refused (is_none (value_of scene n)) (place_of n) causes.UnknownName (at_num n p)

  last_stands : (scene : Scene) (n : Option Num) → Every P (of_optional_num n) → Stand (last_number scene n)
  last_stands scene None p = tt
  last_stands scene (Some n) p = number_stands scene n p.0

  numbers_stand : (scene : Scene) (p : NumRange) → Every P (of_part p) → Stand (numbers scene p)
  numbers_stand scene p h = both (number scene p.low) (last_number scene p.high) (number_stands scene p.low h.0) (last_stands scene p.high h.1)

  backwards_stands : (scene : Scene) (p : NumRange) (at : ℕ) → P at → Stand (backwards scene p at)
  backwards_stands scene p at h = if_refused (is_backwards (value_of scene p.low) (last_of scene p.high)) at causes.Limit h

  range_stands : (scene : Scene) (p : NumRange) → Every P (of_part p) → Stand (range scene p)
  range_stands scene p h = both (numbers scene p) (backwards scene p (place_of p.low)) (numbers_stand scene p h) (backwards_stands scene p (place_of p.low) (at_num p.low h.0))

  pub over_stands : (scene : Scene) (n : Num) → P (of_num n) → Stand (rules.over_16_bits scene n)
  over_stands scene n p = if_refused (is_over 65535 (value_of scene n)) (place_of n) causes.Limit (at_num n p)

  last_over_stands : (scene : Scene) (n : Option Num) → Every P (of_optional_num n) → Stand (last_over_16_bits scene n)
  last_over_stands scene None p = tt
  last_over_stands scene (Some n) p = over_stands scene n p.0

  part_names_stand : (scene : Scene) (p : PairPart) → Every P (of_pair_part p) → Stand (names_in_part scene p)
  part_names_stand scene parts.Any h = tt
  part_names_stand scene (parts.Range p) h = numbers_stand scene p h

  part_limits_stand : (scene : Scene) (at : ℕ) (p : PairPart) → P at → Every P (of_pair_part p) → Stand (limits_of_part scene at p)
  part_limits_stand scene at parts.Any here h = tt
  part_limits_stand scene at (parts.Range p) here h =
      both (rules.over_16_bits scene p.low ++ last_over_16_bits scene p.high) (backwards scene p at)
      (both (rules.over_16_bits scene p.low) (last_over_16_bits scene p.high) (over_stands scene p.low h.0) (last_over_stands scene p.high h.1))
      (backwards_stands scene p at here)

  lengths_names_stand : (scene : Scene) (l : Option Lengths) → Every P (of_lengths l) → Stand (names_in_lengths scene l)
  lengths_names_stand scene None h = tt
  lengths_names_stand scene (Some lengths.AndLonger) h = tt
  lengths_names_stand scene (Some lengths.AndShorter) h = tt
  lengths_names_stand scene (Some (lengths.Between lo hi)) h = both (number scene lo) (number scene hi) (number_stands scene lo h.0) (number_stands scene hi h.1.0)

  lengths_limits_stand : (scene : Scene) (at : ℕ) (net : Net) (l : Option Lengths) → P at → Stand (limits_of_lengths scene at net l)
  lengths_limits_stand scene at net None p = tt
  lengths_limits_stand scene at net (Some lengths.AndLonger) p = tt
  lengths_limits_stand scene at net (Some lengths.AndShorter) p = tt
  lengths_limits_stand scene at net (Some (lengths.Between lo hi)) p = if_refused (are_lengths_wrong net (value_of scene lo) (value_of scene hi)) at causes.Limit p

  item_stands : (scene : Scene) (i : Item) → Every P (of_item i) → Stand (item scene i)
  item_stands scene (items.Range p) h = range_stands scene p h
  item_stands scene (items.Pair at a b) h =
      let first = front (of_pair_part a) (of_pair_part b) h.1 in
      let second = back (of_pair_part a) (of_pair_part b) h.1 in
      both (names_in_part scene a ++ names_in_part scene b) (limits_of_part scene at a ++ limits_of_part scene at b)
      (both (names_in_part scene a) (names_in_part scene b) (part_names_stand scene a first) (part_names_stand scene b second))
      (both (limits_of_part scene at a) (limits_of_part scene at b) (part_limits_stand scene at a h.0 first) (part_limits_stand scene at b h.0 second))
  item_stands scene (items.Prefix at net l) h =
      both (names_in_lengths scene l) (limits_of_lengths scene at net l) (lengths_names_stand scene l h.1) (lengths_limits_stand scene at net l h.0)

  pub items_stand : (scene : Scene) (is : List Item) → Every P (of_items is) → Stand (all_items scene is)
  items_stand scene [] h = tt
  items_stand scene (i ∷ more) h =
      both (item scene i) (all_items scene more) (item_stands scene i (front (of_item i) (of_items more) h)) (items_stand scene more (back (of_item i) (of_items more) h))

  atom_stands : (scene : Scene) (a : MaskAtom) → Every P (of_atom a) → Stand (atom scene a)
  atom_stands scene mask_atoms.One h = tt
  atom_stands scene mask_atoms.Any h = tt
  atom_stands scene (mask_atoms.Range p) h = range_stands scene p h

  atoms_stand : (scene : Scene) (is : List MaskItem) → Every P (of_mask is) → Stand (all_atoms scene is)
  atoms_stand scene [] h = tt
  atoms_stand scene (i ∷ more) h =
      both (atom scene i.atom) (all_atoms scene more) (atom_stands scene i.atom (front (of_atom i.atom) (of_mask more) h)) (atoms_stand scene more (back (of_atom i.atom) (of_mask more) h))

  -- ---- judgements

  -- it holds of the place of an expression, and of those of what is refused in it
  abbrev Good : Judgement → Type 0
  Good j = P j.at × Stand j.refusals

  wants_stands : (takes : Sort → Bool) (j : Judgement) → P j.at → Stand (wants takes j)
  wants_stands takes j p = if_refused (is_other takes j.sort) j.at causes.Mismatch p

  wanted_stands : (takes : Sort → Bool) (j : Judgement) → Good j → Stand (wanted takes j)
  wanted_stands takes j g = both j.refusals (wants takes j) g.1 (wants_stands takes j g.0)

  one_good : (at : ℕ) (rule : RuleOfOne) (j : Judgement) → P at → Good j → Good (of_one at rule j)
  one_good at rule j p g = (p, wanted_stands rule.takes j g)

  two_good : (at : ℕ) (rule : RuleOfTwo) (a b : Judgement) → P at → Good a → Good b → Good (of_two at rule a b)
  two_good at rule a b p g h = (
    p,
    both (wanted (left_of rule.takes) a ++ wanted (right_of rule.takes) b) (refused_if (disagree rule.takes a.sort b.sort) at causes.Mismatch)
        (both (wanted (left_of rule.takes) a) (wanted (right_of rule.takes) b) (wanted_stands (left_of rule.takes) a g) (wanted_stands (right_of rule.takes) b h))
        (if_refused (disagree rule.takes a.sort b.sort) at causes.Mismatch p),
  )

  between_good : (rule : RuleOfTwo) (a b : Judgement) → Good a → Good b → Good (between rule a b)
  between_good rule a b g h = two_good a.at rule a b g.0 g h

  plain_good : (s : Atom) → P (of_simple s) → Good (plain s)
  plain_good (atoms.Number at n) p = (p, tt)
  plain_good (atoms.Text at start len) p = (p, tt)
  plain_good (atoms.Ip at addr) p = (p, tt)
  plain_good (atoms.Prefix at net) p = (p, tt)
  plain_good (atoms.True at) p = (p, tt)
  plain_good (atoms.False at) p = (p, tt)
  plain_good (atoms.EmptyPath at) p = (p, tt)
  plain_good (atoms.EmptyClist at) p = (p, tt)
  plain_good (atoms.Attribute at a) p = (p, tt)
  plain_good (atoms.Constant at c) p = (p, tt)

  known_good : (at : ℕ) (sort : Option Sort) → P at → Good (known_as at sort)
  known_good at (Some sort) p = (p, tt)
  known_good at None p = (p, (p, tt))

  set_good : (scene : Scene) (at : ℕ) (elements : List Item) → P at → Every P (of_items elements) → Good (set scene at elements)
  set_good scene at elements p h =
      let wrong : Bool = is_empty elements || differ (common NoneYet (sorts_of_items scene elements)) in
      (p, both (all_items scene elements) (refused_if wrong at causes.Mismatch) (items_stand scene elements h) (if_refused wrong at causes.Mismatch p))

  mask_good : (scene : Scene) (at : ℕ) (elements : List MaskItem) → P at → Every P (of_mask elements) → Good (mask scene at elements)
  mask_good scene at elements p h = (p, atoms_stand scene elements h)

  pair_good : (at : ℕ) (first second : Option ℕ) (a b : Judgement) → P at → Good a → Good b → Good (pair at first second a b)
  pair_good at first second a b p g h =
      let whole : Judgement = of_two at pairing a b in (
        p,
        both (whole.refusals ++ over_16_bits first a.at) (over_16_bits second b.at)
            (both whole.refusals (over_16_bits first a.at) (two_good at pairing a b p g h).1 (if_refused (is_over 65535 first) a.at causes.Limit g.0))
            (if_refused (is_over 65535 second) b.at causes.Limit h.0),
      )

  -- ---- calls

  abbrev Goods : List Judgement → Type 0
  Goods js = Every Good js

  all_stand : (js : List Judgement) → Goods js → Stand (all_refusals js)
  all_stand [] g = tt
  all_stand (j ∷ js) g = both j.refusals (all_refusals js) g.0.1 (all_stand js g.1)

  arguments_stand : (sorts : List Sort) (js : List Judgement) → Goods js → Stand (arguments_wanted sorts js)
  arguments_stand [] js g = tt
  arguments_stand (sort ∷ more) [] g = tt
  arguments_stand (sort ∷ more) (j ∷ js) g = both (wants (same_sort sort) j) (arguments_wanted more js) (wants_stands (same_sort sort) j g.0.0) (arguments_stand more js g.1)

  where_stands : (b : Bool) (rs : List Refusal) → Stand rs → Stand (if b then rs else [])
  where_stands true rs s = s
  where_stands false rs s = tt

  call_stands : (n : Name) (f : Option Signature) (js : List Judgement) → P n.at → Goods js → Stand (call n f js)
  call_stands n None js p g = (p, all_stand js g)
  call_stands n (Some f) js p g =
      let same : Bool = length f.parameters == length js in
      both (refused_if (not same) n.at causes.Mismatch ++ all_refusals js) (if same then arguments_wanted f.parameters js else [])
      (both (refused_if (not same) n.at causes.Mismatch) (all_refusals js) (if_refused (not same) n.at causes.Mismatch p) (all_stand js g))
      (where_stands same (arguments_wanted f.parameters js) (arguments_stand f.parameters js g))

  called_good : (n : Name) (f : Option Signature) (js : List Judgement) → P n.at → Goods js → Good (called n f js)
  called_good n f js p g = (p, both (refused_if (gives_nothing f) n.at causes.Mismatch) (call n f js) (if_refused (gives_nothing f) n.at causes.Mismatch p) (call_stands n f js p g))

  -- ---- expressions

  mutual
    pub expression_good : (scene : Scene) (vs : Variables) (e : Expression) → Every P (of_expression e) → Good (judge scene vs e)
    expression_good scene vs (Plain s) h = plain_good s h.0
    expression_good scene vs (Named n) h = known_good n.at (sort_of_named (variable_of scene vs n) (constant_of scene n)) h.0
    expression_good scene vs (Called n place es) h = called_good n (function_of scene n) (judge_all scene vs es) h.0 (expressions_good scene vs es h.1.1)
    expression_good scene vs (Grouped at e) h = (h.0, (expression_good scene vs e h.1).1)
    expression_good scene vs (Paired at a b) h =
        pair_good at (written scene vs a) (written scene vs b) (judge scene vs a) (judge scene vs b) h.0
        (expression_good scene vs a (front (of_expression a) (of_expression b) h.1)) (expression_good scene vs b (back (of_expression a) (of_expression b) h.1))
    expression_good scene vs (SetOf at elements) h = set_good scene at elements h.0 h.1
    expression_good scene vs (MaskOf at elements) h = mask_good scene at elements h.0 h.1
    expression_good scene vs (IsDefined at place attribute_at a) h = (h.0, tt)
    expression_good scene vs (MethodOf m place a b) h =
        two_good m.at (method m.kind) (judge scene vs a) (judge scene vs b) h.0
        (expression_good scene vs a (front (of_expression a) (of_expression b) h.1.1)) (expression_good scene vs b (back (of_expression a) (of_expression b) h.1.1))
    expression_good scene vs (PropertyOf a p) h =
        let good = expression_good scene vs a h in
        one_good (judge scene vs a).at (property p) (judge scene vs a) good.0 good
    expression_good scene vs (Changed a m place b) h =
        between_good (method m.kind) (judge scene vs a) (judge scene vs b)
        (expression_good scene vs a (front (of_expression a) (m.at ∷ place ∷ of_expression b) h)) (expression_good scene vs b (back (of_expression a) (m.at ∷ place ∷ of_expression b) h).1.1)
    expression_good scene vs (Negated at a) h = one_good at negating (judge scene vs a) h.0 (expression_good scene vs a h.1)
    expression_good scene vs (Multiplied a op b) h =
        between_good arithmetic (judge scene vs a) (judge scene vs b)
        (expression_good scene vs a (front (of_expression a) (of_expression b) h)) (expression_good scene vs b (back (of_expression a) (of_expression b) h))
    expression_good scene vs (Added a op b) h =
        between_good arithmetic (judge scene vs a) (judge scene vs b)
        (expression_good scene vs a (front (of_expression a) (of_expression b) h)) (expression_good scene vs b (back (of_expression a) (of_expression b) h))
    expression_good scene vs (Compared a op b) h =
        between_good (comparing op) (judge scene vs a) (judge scene vs b)
        (expression_good scene vs a (front (of_expression a) (of_expression b) h)) (expression_good scene vs b (back (of_expression a) (of_expression b) h))
    expression_good scene vs (Joined a logical_op b) h =
        between_good joining (judge scene vs a) (judge scene vs b)
        (expression_good scene vs a (front (of_expression a) (of_expression b) h)) (expression_good scene vs b (back (of_expression a) (of_expression b) h))

    expressions_good : (scene : Scene) (vs : Variables) (es : Expressions) → Every P (of_expressions es) → Goods (judge_all scene vs es)
    expressions_good scene vs NoExpressions h = tt
    expressions_good scene vs (AndExpressions e es) h =
        (expression_good scene vs e (front (of_expression e) (of_expressions es) h), expressions_good scene vs es (back (of_expression e) (of_expressions es) h))

  -- ---- parts of statements

  at_target : (t : Target) → P (of_target t) → P (acts.place_of t)
  at_target (targets.Name n) p = p
  at_target (targets.Attribute at a) p = p

  assigned_stands : (at : ℕ) (a : Aim) (j : Judgement) → P at → Good j → Stand (assigned at a j)
  assigned_stands at (Holds sort) j p g = wanted_stands (same_sort sort) j g
  assigned_stands at IsFixed j p g = (p, g.1)
  assigned_stands at Unknown j p g = (p, g.1)

  dest_stands : (b : Bool) (j : Judgement) → Good j → Stand (if b then j.refusals else wanted no_sort j)
  dest_stands true j g = g.1
  dest_stands false j g = wanted_stands no_sort j g

  assign_stands : (scene : Scene) (vs : Variables) (t : Target) (e : Expression) → P (of_target t) → Every P (of_expression e) → Stand (assign scene vs t e)
  assign_stands scene vs (targets.Name n) e p h = assigned_stands n.at (aim scene vs (targets.Name n)) (judge scene vs e) p (expression_good scene vs e h)
  assign_stands scene vs (targets.Attribute at attributes.Dest) e p h = dest_stands (is_dest_word (constant_word e)) (judge scene vs e) (expression_good scene vs e h)
  assign_stands scene vs (targets.Attribute at a) e p h = assigned_stands at (aim scene vs (targets.Attribute at a)) (judge scene vs e) p (expression_good scene vs e h)

  changed_stands : (at : ℕ) (a : Aim) (m : Method) (j : Judgement) → P at → Good j → Stand (changed at a m j)
  changed_stands at (Holds sort) m j p g = (two_good at (method m.kind) (operand at sort) j p (p, tt) g).1
  changed_stands at IsFixed m j p g = (p, g.1)
  changed_stands at Unknown m j p g = (p, g.1)

  cleared_stands : (at : ℕ) (a : Aim) → P at → Stand (cleared at a)
  cleared_stands at (Holds sort) p = wants_stands one_list (operand at sort) p
  cleared_stands at IsFixed p = (p, tt)
  cleared_stands at Unknown p = (p, tt)

  declaring_stands : (scene : Scene) (vs : Variables) (n : Name) → P n.at → Stand (declaring scene vs n)
  declaring_stands scene vs n p =
      let name : List ℕ = name_bytes scene.text n in
      both (refused_if (is_seen scene vs name) n.at causes.DuplicateName) (refused_if (nat_lt 64 (length name)) n.at causes.Limit)
      (if_refused (is_seen scene vs name) n.at causes.DuplicateName p) (if_refused (nat_lt 64 (length name)) n.at causes.Limit p)

  initial_stands : (scene : Scene) (vs : Variables) (t : VariableType) (e : Option Expression) → Every P (of_optional e) → Stand (initial scene vs t e)
  initial_stands scene vs t None h = tt
  initial_stands scene vs t (Some e) h = wanted_stands (same_sort (sort_of_type t)) (judge scene vs e) (expression_good scene vs e h)

  labels_placed : (as_arms : Arms) → Every P (of_arms as_arms) → Every P (of_items (labels as_arms))
  labels_placed NoArms h = tt
  labels_placed (AndArms marks ss more) h =
      let behind : Every P (of_statements ss ++ of_arms more) = back (of_items marks) (of_statements ss ++ of_arms more) h in
      items_joined marks (labels more) (front (of_items marks) (of_statements ss ++ of_arms more) h) (labels_placed more (back (of_statements ss) (of_arms more) behind))
    where
      items_joined : (is more : List Item) → Every P (of_items is) → Every P (of_items more) → Every P (of_items (is ++ more))
      items_joined [] more p q = q
      items_joined (i ∷ is) more p q = join P (of_item i) (of_items (is ++ more)) (front (of_item i) (of_items is) p) (items_joined is more (back (of_item i) (of_items is) p) q)

  cases_stand : (scene : Scene) (at : ℕ) (j : Judgement) (as_arms : Arms) → P at → Good j → Every P (of_arms as_arms) → Stand (cases scene at j as_arms)
  cases_stand scene at j as_arms p g h =
      let wrong : Bool = lacks_labels as_arms || differ (common (of_value j.sort) (sorts_of_items scene (labels as_arms))) in
      both (wanted one_of_cases j ++ all_items scene (labels as_arms)) (refused_if wrong at causes.Mismatch)
      (both (wanted one_of_cases j) (all_items scene (labels as_arms)) (wanted_stands one_of_cases j g) (items_stand scene (labels as_arms) (labels_placed as_arms h)))
      (if_refused wrong at causes.Mismatch p)

  list_stands : (at : ℕ) (t : VariableType) (j : Judgement) → P at → Good j → Stand (over_list at t j)
  list_stands at t j p g =
      both (wanted one_list j) (refused_if (is_other_list (lists_of t) j.sort) at causes.Mismatch)
      (wanted_stands one_list j g) (if_refused (is_other_list (lists_of t) j.sort) at causes.Mismatch p)

  returned_stands : (at : ℕ) (gives : Option Sort) (j : Judgement) → P at → Good j → Stand (returned at gives j)
  returned_stands at None j p g = (p, g.1)
  returned_stands at (Some sort) j p g =
      both j.refusals (refused_if (is_other (same_sort sort) j.sort) at causes.Mismatch) g.1 (if_refused (is_other (same_sort sort) j.sort) at causes.Mismatch p)

  return_stands : (around : Around) (vs : Variables) (at : ℕ) (e : Option Expression) → P at → Every P (of_optional e) → Stand (return around vs at e)
  return_stands around vs at None p h = tt
  return_stands around vs at (Some e) p h = returned_stands at around.gives (judge around.scene vs e) p (expression_good around.scene vs e h)

  -- ---- statements

  mutual
    pub statement_stands : (around : Around) (vs : Variables) (s : Statement) → Every P (of_statement s) → Stand (check around vs s).refusals
    statement_stands around vs (Braced ss) h = statements_stand around vs ss h
    statement_stands around vs Nothing h = tt
    statement_stands around vs (Declare t n e) h = both (declaring around.scene vs n) (initial around.scene vs t e) (declaring_stands around.scene vs n h.0) (initial_stands around.scene vs t e h.1)
    statement_stands around vs (Assign target e) h = assign_stands around.scene vs target e h.0 h.1
    statement_stands around vs (ChangeBy target m place e) h =
        changed_stands (acts.place_of target) (aim around.scene vs target) m (judge around.scene vs e) (at_target target h.0) (expression_good around.scene vs e h.1.1.1)
    statement_stands around vs (Clear target) h = cleared_stands (acts.place_of target) (aim around.scene vs target) (at_target target h.0)
    statement_stands around vs (Unset place at a) h = if_refused (not (can_be_unset a)) at causes.NotAssignable h.1.0
    statement_stands around vs (If e s) h =
        both (wanted one_bool (judge around.scene vs e)) (check around vs s).refusals
        (wanted_stands one_bool (judge around.scene vs e) (expression_good around.scene vs e (front (of_expression e) (of_statement s) h)))
        (statement_stands around vs s (back (of_expression e) (of_statement s) h))
    statement_stands around vs (IfElse e s t) h =
        let branches = back (of_expression e) (of_statement s ++ of_statement t) h in
        let seen : Variables = (check around vs s).variables in
        both (wanted one_bool (judge around.scene vs e)) ((check around vs s).refusals ++ (check around seen t).refusals)
        (wanted_stands one_bool (judge around.scene vs e) (expression_good around.scene vs e (front (of_expression e) (of_statement s ++ of_statement t) h)))
        (both (check around vs s).refusals (check around seen t).refusals
        (statement_stands around vs s (front (of_statement s) (of_statement t) branches)) (statement_stands around seen t (back (of_statement s) (of_statement t) branches)))
    statement_stands around vs (Case at e as_arms) h =
        let arms_placed = back (of_expression e) (of_arms as_arms) h.1 in
        both (cases around.scene at (judge around.scene vs e) as_arms) (check_arms around vs as_arms).refusals
        (cases_stand around.scene at (judge around.scene vs e) as_arms h.0 (expression_good around.scene vs e (front (of_expression e) (of_arms as_arms) h.1)) arms_placed)
        (arms_stand around vs as_arms arms_placed)
    statement_stands around vs (CaseElse at e as_arms ss) h =
        let behind = back (of_expression e) (of_arms as_arms ++ of_statements ss) h.1 in
        let arms_placed = front (of_arms as_arms) (of_statements ss) behind in
        let seen : Variables = (check_arms around vs as_arms).variables in
        both (cases around.scene at (judge around.scene vs e) as_arms) ((check_arms around vs as_arms).refusals ++ (check_all around seen ss).refusals)
        (cases_stand around.scene at (judge around.scene vs e) as_arms h.0 (expression_good around.scene vs e (front (of_expression e) (of_arms as_arms ++ of_statements ss) h.1)) arms_placed)
        (both (check_arms around vs as_arms).refusals (check_all around seen ss).refusals
        (arms_stand around vs as_arms arms_placed) (statements_stand around seen ss (back (of_arms as_arms) (of_statements ss) behind)))
    statement_stands around vs (For at t n e body) h =
        let inside : Variables = vs ++ declared around.scene n (sort_of_type t) true ∷ [] in
        both (over_list at t (judge around.scene vs e) ++ declaring around.scene vs n) (check around inside body).refusals
        (both (over_list at t (judge around.scene vs e)) (declaring around.scene vs n)
        (list_stands at t (judge around.scene vs e) h.0 (expression_good around.scene vs e (front (of_expression e) (of_statement body) h.1.1)))
        (declaring_stands around.scene vs n h.1.0))
        (statement_stands around inside body (back (of_expression e) (of_statement body) h.1.1))
    statement_stands around vs Accept h = tt
    statement_stands around vs Reject h = tt
    statement_stands around vs (Return at e) h = return_stands around vs at e h.0 h.1
    statement_stands around vs (Print es) h = all_stand (judge_all around.scene vs es) (expressions_good around.scene vs es h)
    statement_stands around vs (Printn es) h = all_stand (judge_all around.scene vs es) (expressions_good around.scene vs es h)
    statement_stands around vs (Call n place es) h = call_stands n (function_of around.scene n) (judge_all around.scene vs es) h.0 (expressions_good around.scene vs es h.1.1)

    pub statements_stand : (around : Around) (vs : Variables) (ss : Statements) → Every P (of_statements ss) → Stand (check_all around vs ss).refusals
    statements_stand around vs NoStatements h = tt
    statements_stand around vs (AndStatements s ss) h =
        let seen : Variables = (check around vs s).variables in
        both (check around vs s).refusals (check_all around seen ss).refusals
        (statement_stands around vs s (front (of_statement s) (of_statements ss) h)) (statements_stand around seen ss (back (of_statement s) (of_statements ss) h))

    arms_stand : (around : Around) (vs : Variables) (as_arms : Arms) → Every P (of_arms as_arms) → Stand (check_arms around vs as_arms).refusals
    arms_stand around vs NoArms h = tt
    arms_stand around vs (AndArms marks ss more) h =
        let behind = back (of_items marks) (of_statements ss ++ of_arms more) h in
        let seen : Variables = (check_all around vs ss).variables in
        both (check_all around vs ss).refusals (check_arms around seen more).refusals
        (statements_stand around vs ss (front (of_statements ss) (of_arms more) behind)) (arms_stand around seen more (back (of_statements ss) (of_arms more) behind))

  -- ---- filters and functions

  parameters_stand : (scene : Scene) (vs : Variables) (ps : List Parameter) → Every P (of_parameters ps) → Stand (parameters scene vs ps).refusals
  parameters_stand scene vs [] h = tt
  parameters_stand scene vs (p ∷ ps) h =
      let seen : Variables = vs ++ declared scene p.name (sort_of_type p.variable_type) false ∷ [] in
      both (declaring scene vs p.name) (parameters scene seen ps).refusals (declaring_stands scene vs p.name h.0) (parameters_stand scene seen ps h.1)

  abbrev around_filter : Scene → Around
  around_filter scene = record { scene = scene; gives = None }

  abbrev around_function : Scene → Routine → Around
  around_function scene f = record { scene = scene; gives = sort_given f.gives }

  heavy_stands : (at n : ℕ) → P at → Stand (too_heavy at n)
  heavy_stands at n p = if_refused (nat_lt 10000000 n) at causes.TooHeavy p

  pub filter_stands : (scene : Scene) (at : ℕ) (ss : Statements) → P at → Every P (of_statements ss) → Stand (of_filter scene at ss)
  filter_stands scene at ss p h =
      both (too_heavy at (block_weight scene ss)) (in_filter scene ss) (heavy_stands at (block_weight scene ss) p) (statements_stand (around_filter scene) [] ss h)

  pub function_stands : (scene : Scene) (f : Routine) → P f.name.at → Every P (of_parameters f.parameters) → Every P (of_statements f.body) → Stand (of_function scene f)
  function_stands scene f p h k =
      let seen : Variables = (parameters scene [] f.parameters).variables in
      both (too_heavy f.name.at (block_weight scene f.body)) (in_function scene f) (heavy_stands f.name.at (block_weight scene f.body) p)
      (both (parameters scene [] f.parameters).refusals (check_all (around_function scene f) seen f.body).refusals
      (parameters_stand scene [] f.parameters h) (statements_stand (around_function scene f) seen f.body k))
