-- An option more, and what two questions with the same options have in common.
use Rattle.std.proofs.Common.{◌≡◌, ◌∙◌, sym, ap, refl, subst, ℕ, Bool, true, false, ◌&&◌, ◌||◌, not, List, [], ◌∷◌, ◌++◌, Option, Some, None}
use Rattle.std.specs.Prelude.{is_none}
use Rattle.std.specs.List.Sorted.{IsPermutation}
use Rattle.std.proofs.lemmas.Bool.{and_parts, false≢true}
use Rattle.std.proofs.lemmas.List.Sorted.{IsPermutation-refl, IsPermutation-sym, IsPermutation-trans, IsPermutation-append_left, IsPermutation-append_right, IsPermutation-middle}
use Rattle.queries.specs.Question.{Asked, Part, Table, Protocol, Export, Filter, Primary, All, Count, named, flag, parts_of}
use Rattle.queries.specs.Inside.{only, put, IsOpen, with_table, with_protocol, with_export, with_filter, with_flags}

pub only_some : {X : Type 0} (test : Bool) (x y : X) → only test x ≡ Some y → (test ≡ true) × (x ≡ y)
only_some true x y is = (refl, cc)
only_some false x y is = absurd (cc)

pub only_none : {X : Type 0} (test : Bool) (x : X) → only test x ≡ None → test ≡ false
only_none true x is = absurd (cc)
only_none false x is = refl

-- ---- one more

-- the second list has one more than the first
abbrev Grows : Part → List Part → List Part → Type 0
Grows p xs ys = IsPermutation (p ∷ xs) ys

grows_before : (p : Part) (xs ys zs : List Part) → Grows p xs ys → Grows p (xs ++ zs) (ys ++ zs)
grows_before p xs ys zs grows = IsPermutation-append_left zs (p ∷ xs) ys grows

grows_behind : (p : Part) (xs ys zs : List Part) → Grows p xs ys → Grows p (zs ++ xs) (zs ++ ys)
grows_behind p xs ys zs grows =
    IsPermutation-trans _ (zs ++ p ∷ xs) _ (IsPermutation-sym _ _ (IsPermutation-middle zs p xs)) (IsPermutation-append_right zs (p ∷ xs) ys grows)

named_grows : (make : List ℕ → Part) (o : Option (List ℕ)) (name : List ℕ) → is_none o ≡ true → Grows (make name) (named make o) (named make (Some name))
named_grows make None name none = IsPermutation-refl (make name ∷ [])
named_grows make (Some other) name none = absurd (false≢true none)

flag_grows : (p : Part) (set : Bool) → not set ≡ true → Grows p (flag p set) (flag p true)
flag_grows p false none = IsPermutation-refl (p ∷ [])
flag_grows p true none = absurd (false≢true none)

before_one : (p : Part) (x y g : List Part) → Grows p x y → Grows p (x ++ g) (y ++ g)
before_one p x y g grows = grows_before p x y g grows

before_two : (p : Part) (x y f g : List Part) → Grows p x y → Grows p (x ++ f ++ g) (y ++ f ++ g)
before_two p x y f g grows = before_one p (x ++ f) (y ++ f) g (grows_before p x y f grows)

before_three : (p : Part) (x y e f g : List Part) → Grows p x y → Grows p (x ++ e ++ f ++ g) (y ++ e ++ f ++ g)
before_three p x y e f g grows = before_two p (x ++ e) (y ++ e) f g (grows_before p x y e grows)

before_four : (p : Part) (x y d e f g : List Part) → Grows p x y → Grows p (x ++ d ++ e ++ f ++ g) (y ++ d ++ e ++ f ++ g)
before_four p x y d e f g grows = before_three p (x ++ d) (y ++ d) e f g (grows_before p x y d grows)

before_five : (p : Part) (x y c d e f g : List Part) → Grows p x y → Grows p (x ++ c ++ d ++ e ++ f ++ g) (y ++ c ++ d ++ e ++ f ++ g)
before_five p x y c d e f g grows = before_four p (x ++ c) (y ++ c) d e f g (grows_before p x y c grows)

before_six : (p : Part) (x y b c d e f g : List Part) → Grows p x y → Grows p (x ++ b ++ c ++ d ++ e ++ f ++ g) (y ++ b ++ c ++ d ++ e ++ f ++ g)
before_six p x y b c d e f g grows = before_five p (x ++ b) (y ++ b) c d e f g (grows_before p x y b grows)

-- the options of a question that one more is put to
pub put_grows : (old new : Asked) (p : Part) → put old p ≡ Some new → IsPermutation (p ∷ parts_of old) (parts_of new)
put_grows old new (Table name) is =
    let set = only_some (is_none old.table && is_none old.export) (with_table name old) new is in
    let none = and_parts (is_none old.table) (is_none old.export) set.0 in
    let P : Asked → Type 0 = λ q. IsPermutation (Table name ∷ parts_of old) (parts_of q) in
    subst P set.1 (before_six (Table name) (named Table old.table) (named Table (Some name)) (named Protocol old.protocol) (named Export old.export) (named Filter old.filter)
    (flag Primary old.primary) (flag All old.all) (flag Count old.count) (named_grows Table old.table name none.0))
put_grows old new (Protocol name) is =
    let set = only_some (is_none old.protocol) (with_protocol name old) new is in
    let P : Asked → Type 0 = λ q. IsPermutation (Protocol name ∷ parts_of old) (parts_of q) in
    let front = named Table old.table in
    subst P set.1 (before_five (Protocol name) (front ++ named Protocol old.protocol) (front ++ named Protocol (Some name)) (named Export old.export) (named Filter old.filter)
    (flag Primary old.primary) (flag All old.all) (flag Count old.count) (grows_behind (Protocol name) _ _ front (named_grows Protocol old.protocol name set.0)))
put_grows old new (Export name) is =
    let set = only_some (is_none old.table && is_none old.export) (with_export name old) new is in
    let none = and_parts (is_none old.table) (is_none old.export) set.0 in
    let P : Asked → Type 0 = λ q. IsPermutation (Export name ∷ parts_of old) (parts_of q) in
    let front = named Table old.table ++ named Protocol old.protocol in
    subst P set.1 (before_four (Export name) (front ++ named Export old.export) (front ++ named Export (Some name)) (named Filter old.filter)
    (flag Primary old.primary) (flag All old.all) (flag Count old.count) (grows_behind (Export name) _ _ front (named_grows Export old.export name none.1)))
put_grows old new (Filter name) is =
    let set = only_some (is_none old.filter) (with_filter name old) new is in
    let P : Asked → Type 0 = λ q. IsPermutation (Filter name ∷ parts_of old) (parts_of q) in
    let front = named Table old.table ++ named Protocol old.protocol ++ named Export old.export in
    subst P set.1 (before_three (Filter name) (front ++ named Filter old.filter) (front ++ named Filter (Some name))
    (flag Primary old.primary) (flag All old.all) (flag Count old.count) (grows_behind (Filter name) _ _ front (named_grows Filter old.filter name set.0)))
put_grows old new Primary is =
    let set = only_some (not old.primary) (with_flags true old.all old.count old) new is in
    let P : Asked → Type 0 = λ q. IsPermutation (Primary ∷ parts_of old) (parts_of q) in
    let front = named Table old.table ++ named Protocol old.protocol ++ named Export old.export ++ named Filter old.filter in
    subst P set.1 (before_two Primary (front ++ flag Primary old.primary) (front ++ flag Primary true)
    (flag All old.all) (flag Count old.count) (grows_behind Primary _ _ front (flag_grows Primary old.primary set.0)))
put_grows old new All is =
    let set = only_some (not old.all) (with_flags old.primary true old.count old) new is in
    let P : Asked → Type 0 = λ q. IsPermutation (All ∷ parts_of old) (parts_of q) in
    let front = named Table old.table ++ named Protocol old.protocol ++ named Export old.export ++ named Filter old.filter ++ flag Primary old.primary in
    subst P set.1 (before_one All (front ++ flag All old.all) (front ++ flag All true) (flag Count old.count) (grows_behind All _ _ front (flag_grows All old.all set.0)))
put_grows old new Count is =
    let set = only_some (not old.count) (with_flags old.primary old.all true old) new is in
    let P : Asked → Type 0 = λ q. IsPermutation (Count ∷ parts_of old) (parts_of q) in
    let front = named Table old.table ++ named Protocol old.protocol ++ named Export old.export ++ named Filter old.filter ++ flag Primary old.primary ++ flag All old.all in
    subst P set.1 (grows_behind Count _ _ front (flag_grows Count old.count set.0))

-- what an option leaves as it is
pub put_keeps : (old new : Asked) (p : Part) → put old p ≡ Some new → (new.pick ≡ old.pick) × (new.condition ≡ old.condition)
put_keeps old new (Table name) is = let same = (only_some (is_none old.table && is_none old.export) (with_table name old) new is).1 in (sym (ap (λ (q : Asked). q.pick) same), sym (ap (λ (q : Asked). q.condition) same))
put_keeps old new (Protocol name) is = let same = (only_some (is_none old.protocol) (with_protocol name old) new is).1 in (sym (ap (λ (q : Asked). q.pick) same), sym (ap (λ (q : Asked). q.condition) same))
put_keeps old new (Export name) is = let same = (only_some (is_none old.table && is_none old.export) (with_export name old) new is).1 in (sym (ap (λ (q : Asked). q.pick) same), sym (ap (λ (q : Asked). q.condition) same))
put_keeps old new (Filter name) is = let same = (only_some (is_none old.filter) (with_filter name old) new is).1 in (sym (ap (λ (q : Asked). q.pick) same), sym (ap (λ (q : Asked). q.condition) same))
put_keeps old new Primary is = let same = (only_some (not old.primary) (with_flags true old.all old.count old) new is).1 in (sym (ap (λ (q : Asked). q.pick) same), sym (ap (λ (q : Asked). q.condition) same))
put_keeps old new All is = let same = (only_some (not old.all) (with_flags old.primary true old.count old) new is).1 in (sym (ap (λ (q : Asked). q.pick) same), sym (ap (λ (q : Asked). q.condition) same))
put_keeps old new Count is = let same = (only_some (not old.count) (with_flags old.primary old.all true old) new is).1 in (sym (ap (λ (q : Asked). q.pick) same), sym (ap (λ (q : Asked). q.condition) same))

abbrev one_table : Asked → Bool
one_table q = is_none q.table || is_none q.export

table_left : (a b : Bool) → a ≡ true → a || b ≡ true
table_left true b is = refl
table_left false b is = absurd (false≢true is)

table_right : (a b : Bool) → b ≡ true → a || b ≡ true
table_right true b is = refl
table_right false b is = is

put_one_table : (old new : Asked) (p : Part) → put old p ≡ Some new → one_table old ≡ true → one_table new ≡ true
put_one_table old new (Table name) is one =
    let set = only_some (is_none old.table && is_none old.export) (with_table name old) new is in
    ap one_table (sym set.1) ∙ (and_parts (is_none old.table) (is_none old.export) set.0).1
put_one_table old new (Protocol name) is one = ap one_table (sym (only_some (is_none old.protocol) (with_protocol name old) new is).1) ∙ one
put_one_table old new (Export name) is one =
    let set = only_some (is_none old.table && is_none old.export) (with_export name old) new is in
    ap one_table (sym set.1) ∙ table_left (is_none old.table) false (and_parts (is_none old.table) (is_none old.export) set.0).0
put_one_table old new (Filter name) is one = ap one_table (sym (only_some (is_none old.filter) (with_filter name old) new is).1) ∙ one
put_one_table old new Primary is one = ap one_table (sym (only_some (not old.primary) (with_flags true old.all old.count old) new is).1) ∙ one
put_one_table old new All is one = ap one_table (sym (only_some (not old.all) (with_flags old.primary true old.count old) new is).1) ∙ one
put_one_table old new Count is one = ap one_table (sym (only_some (not old.count) (with_flags old.primary old.all true old) new is).1) ∙ one

pub put_open : (old new : Asked) (p : Part) → put old p ≡ Some new → IsOpen old → IsOpen new
put_open old new p is now_open = record {
  condition = (put_keeps old new p is).1 ∙ now_open.condition;
  one_table = put_one_table old new p is now_open.one_table;
}
