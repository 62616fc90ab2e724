-- For private contracts alone: a question as it grows, one option after the other.
-- From: own.
use Rattle.std.specs.Prelude.{◌≡◌, ℕ, ◌+◌, Bool, true, ◌||◌, ◌&&◌, is_none, not, IsTrue, ◌⊎◌, ◌↔◌}
use Rattle.std.specs.Prelude.{if◌then◌else◌, List, [], ◌∷◌, ◌++◌, length, codes}
use Rattle.std.specs.Prelude.{Option, None, Some, IfSome}
use Rattle.std.specs.List.{list_all, flat_map}
use Rattle.std.specs.List.Sorted.{IsPermutation}
use Rattle.bits_ip.specs.Prefix.{Net}
use Rattle.attrs.specs.declared.route.Select.{Select}
use Rattle.text.specs.Lines.{words_of, behind_word, behind_words}
use Rattle.queries.specs.declared.parts.Label.{Label}
use Rattle.queries.specs.declared.parts.Label.TheVariants as labels
use Rattle.queries.specs.Name.{is_name}
use Rattle.queries.specs.Question.{Asked, Part, Table, Protocol, Export, Filter}
use Rattle.queries.specs.Question.{Primary, All, Count, part_words, is_well_named, parts_of}
use Rattle.queries.specs.Question.{condition_words, plain, IsQuestion}

-- the question with a part set anew
abbrev pub with_table : List ℕ → Asked → Asked
with_table name asked = record {
  pick = asked.pick;
  table = Some name;
  protocol = asked.protocol;
  export = asked.export;
  filter = asked.filter;
  primary = asked.primary;
  all = asked.all;
  count = asked.count;
  condition = asked.condition;
}

abbrev pub with_protocol : List ℕ → Asked → Asked
with_protocol name asked = record {
  pick = asked.pick;
  table = asked.table;
  protocol = Some name;
  export = asked.export;
  filter = asked.filter;
  primary = asked.primary;
  all = asked.all;
  count = asked.count;
  condition = asked.condition;
}

abbrev pub with_export : List ℕ → Asked → Asked
with_export name asked = record {
  pick = asked.pick;
  table = asked.table;
  protocol = asked.protocol;
  export = Some name;
  filter = asked.filter;
  primary = asked.primary;
  all = asked.all;
  count = asked.count;
  condition = asked.condition;
}

abbrev pub with_filter : List ℕ → Asked → Asked
with_filter name asked = record {
  pick = asked.pick;
  table = asked.table;
  protocol = asked.protocol;
  export = asked.export;
  filter = Some name;
  primary = asked.primary;
  all = asked.all;
  count = asked.count;
  condition = asked.condition;
}

abbrev pub with_flags : Bool → Bool → Bool → Asked → Asked
with_flags primary all count asked = record {
  pick = asked.pick;
  table = asked.table;
  protocol = asked.protocol;
  export = asked.export;
  filter = asked.filter;
  primary = primary;
  all = all;
  count = count;
  condition = asked.condition;
}

abbrev pub with_condition : List ℕ → Asked → Asked
with_condition text asked = record {
  pick = asked.pick;
  table = asked.table;
  protocol = asked.protocol;
  export = asked.export;
  filter = asked.filter;
  primary = asked.primary;
  all = asked.all;
  count = asked.count;
  condition = Some text;
}

-- the value, where it passes
abbrev pub only : {X : Type 0} → Bool → X → Option X
only test x = if test then Some x else None

-- the question with an option more, where it isn't there yet and none is that excludes it
abbrev pub put : Asked → Part → Option Asked
put asked (Table name) =
    only (is_none asked.table && is_none asked.export) (with_table name asked)
put asked (Protocol name) = only (is_none asked.protocol) (with_protocol name asked)
put asked (Export name) =
    only (is_none asked.table && is_none asked.export) (with_export name asked)
put asked (Filter name) = only (is_none asked.filter) (with_filter name asked)
put asked Primary = only (not asked.primary) (with_flags true asked.all asked.count asked)
put asked All = only (not asked.all) (with_flags asked.primary true asked.count asked)
put asked Count = only (not asked.count) (with_flags asked.primary asked.all true asked)

-- and with an expression, where no filter is named
abbrev pub put_condition : Asked → List ℕ → Option Asked
put_condition asked text = only (is_none asked.filter) (with_condition text asked)

-- the first word of an option
abbrev pub label_text : Label → List ℕ
label_text labels.Table = codes "table"
label_text labels.Protocol = codes "protocol"
label_text labels.Export = codes "export"
label_text labels.Filter = codes "filter"
label_text labels.Primary = codes "primary"
label_text labels.All = codes "all"
label_text labels.Count = codes "count"

-- The text begins with this option, and the rest stands behind it.
pub record BeginsWith (left : List ℕ) (part : Part) (rest : List ℕ) : Type 0 where
  pub whole : words_of left ≡ part_words part ++ words_of rest
  pub rest_is : rest ≡ behind_words (length (part_words part)) left
  pub named : is_well_named part ≡ true

-- it begins with none
abbrev pub BeginsWithNone : List ℕ → Type 0
BeginsWithNone left =
    (part : Part) (more : List (List ℕ)) → words_of left ≡ part_words part ++ more
    → is_well_named part ≡ true → ⊥

-- the text begins with a name, and the rest stands behind it
pub record BeginsWithName (text name rest : List ℕ) : Type 0 where
  pub whole : words_of text ≡ name ∷ words_of rest
  pub rest_is : rest ≡ behind_word text
  pub named : is_name name ≡ true

-- the first of these words is no name
abbrev pub HasNoName : List (List ℕ) → Type 0
HasNoName words =
    (name : List ℕ) (more : List (List ℕ)) → words ≡ name ∷ more → is_name name ≡ true → ⊥

-- What is left makes this question of that one.
pub record GoesOn (old : Asked) (left : List ℕ) (new : Asked) : Type 0 where
  pub parts : List Part
  pub whole : words_of left ≡ flat_map part_words parts ++ condition_words new.condition
  pub parts_are : IsPermutation (parts_of old ++ parts) (parts_of new)
  pub names_are : list_all is_well_named parts ≡ true
  pub pick_is : new.pick ≡ old.pick
  pub condition_is : IfSome new.condition
      (λ text. text ≡ behind_words (length (flat_map part_words parts) + 1) left)
  pub one_table : IsTrue (is_none new.table || is_none new.export)
  pub one_choice : IsTrue (is_none new.filter || is_none new.condition)

-- What is left ends the question: with nothing, or with an expression.
abbrev pub Ends : Asked → List ℕ → Asked → Type 0
Ends old left new =
    ((words_of left ≡ []) × (new ≡ old))
    ⊎ ((text : List ℕ) × (words_of left ≡ codes "where" ∷ words_of text)
    × (text ≡ behind_words 1 left) × (put_condition old text ≡ Some new))

-- what the text asks is what the rest makes of the question for these nets
abbrev pub Selects : List ℕ → Select → List ℕ → Type 0
Selects text pick rest =
    (asked : Asked) → IsQuestion text asked ↔ GoesOn (plain pick) rest asked

-- an expression is free to come, and no table is named twice
pub record IsOpen (asked : Asked) : Type 0 where
  pub condition : asked.condition ≡ None
  pub one_table : IsTrue (is_none asked.table || is_none asked.export)

-- the text begins with a net, and the rest stands behind it
pub record BeginsWithNet (P : List ℕ → Net → Type 0) (text : List ℕ) (net : Net) (rest : List ℕ)
    : Type 0 where
  pub word : List ℕ
  pub whole : words_of text ≡ word ∷ words_of rest
  pub rest_is : rest ≡ behind_word text
  pub net_is : P word net

-- the first of these words is no such net
abbrev pub HasNoNet : (List ℕ → Net → Type 0) → List (List ℕ) → Type 0
HasNoNet P words =
    (word : List ℕ) (more : List (List ℕ)) (net : Net) → words ≡ word ∷ more → P word net → ⊥
