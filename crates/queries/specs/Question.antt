-- What `show route` is asked (`Asked`), and which texts behind that word ask it (`IsQuestion`):
-- first perhaps what nets are meant (a net, `for` and a net or an address, `in` and a net), then
-- options in any order, each at most once, and last perhaps `where` and an expression, which is all
-- that stands behind that word.
-- Not modelled: which tables, protocols and filters there are, of which family a table is, whether
-- the expression is one. So `where` with nothing behind it asks with an empty expression.
-- From: BIRD User's Guide, "Remote control", `show route`; that `table` and `export` don't come
-- together, nor `filter` and `where`, is own: each pair would say one thing twice.
-- Example: ` for 10.0.0.1 primary table t` and ` for 10.0.0.1/32 table t primary` ask the same; in
-- ` table all` the table is called all; ` where net.len > 8 count` asks with the expression
-- ` net.len > 8 count`. ` all all`, ` all 10.0.0.0/8`, ` 10.0.0.1` and ` where(true)` ask nothing.
use Rattle.std.specs.Prelude.{◌≡◌, ℕ, ◌+◌, Bool, true, false, ◌||◌, is_none, IsTrue, ◌⊎◌}
use Rattle.std.specs.Prelude.{if◌then◌else◌}
use Rattle.std.specs.Prelude.{List, [], ◌∷◌, ◌++◌, length, codes, Option, None, Some, IfSome}
use Rattle.std.specs.List.{list_all, flat_map}
use Rattle.std.specs.List.Sorted.{IsPermutation}
use Rattle.bits_ip.specs.Address.{width_of}
use Rattle.bits_ip.specs.Prefix.{Net}
use Rattle.bits_ip.specs.Text.{IsAddrText, IsNetText}
use Rattle.attrs.specs.declared.route.Select.{Select}
use Rattle.attrs.specs.declared.route.Select.TheVariants as picks
use Rattle.text.specs.Lines.{words_of, behind_words}
use Rattle.queries.specs.Name.{is_name}

-- What is asked, by the words alone.
pub record Asked : Type 0 where
  -- which nets
  pub pick : Select
  -- the names of a table, of a protocol whose routes alone are shown, of one whose exports are, and
  -- of a filter
  pub table : Option (List ℕ)
  pub protocol : Option (List ℕ)
  pub export : Option (List ℕ)
  pub filter : Option (List ℕ)
  -- the best routes alone; with their attributes; or how many there are
  pub primary : Bool
  pub all : Bool
  pub count : Bool
  -- the expression behind `where`
  pub condition : Option (List ℕ)

-- the question for these nets without options
abbrev pub plain : Select → Asked
plain pick = record {
  pick = pick;
  table = None;
  protocol = None;
  export = None;
  filter = None;
  primary = false;
  all = false;
  count = false;
  condition = None;
}

-- the prefix, or the address as the prefix of full length
abbrev pub IsPlace : List ℕ → Net → Type 0
IsPlace word net =
    IsNetText word net ⊎ (IsAddrText word net.addr × (net.len ≡ width_of net.addr))

-- These words say which nets are meant: no words mean all.
abbrev pub IsSelector : List (List ℕ) → Select → Type 0
IsSelector words picks.All = words ≡ []
IsSelector words (picks.Exact net) = (word : List ℕ) × (words ≡ word ∷ []) × IsNetText word net
IsSelector words (picks.For net) =
    (word : List ℕ) × (words ≡ codes "for" ∷ word ∷ []) × IsPlace word net
IsSelector words (picks.Within net) =
    (word : List ℕ) × (words ≡ codes "in" ∷ word ∷ []) × IsNetText word net

-- One option.
pub data Part : Type 0 where
  Table : (name : List ℕ) → Part
  Protocol : (name : List ℕ) → Part
  Export : (name : List ℕ) → Part
  Filter : (name : List ℕ) → Part
  Primary : Part
  All : Part
  Count : Part

-- The words of an option. The word behind one of the first four is the name, whatever it is.
abbrev pub part_words : Part → List (List ℕ)
part_words (Table name) = codes "table" ∷ name ∷ []
part_words (Protocol name) = codes "protocol" ∷ name ∷ []
part_words (Export name) = codes "export" ∷ name ∷ []
part_words (Filter name) = codes "filter" ∷ name ∷ []
part_words Primary = codes "primary" ∷ []
part_words All = codes "all" ∷ []
part_words Count = codes "count" ∷ []

-- the name of an option, if it has one, can be a name
abbrev pub is_well_named : Part → Bool
is_well_named (Table name) = is_name name
is_well_named (Protocol name) = is_name name
is_well_named (Export name) = is_name name
is_well_named (Filter name) = is_name name
is_well_named _ = true

-- the option with this name, where there is a name
abbrev pub named : (List ℕ → Part) → Option (List ℕ) → List Part
named option None = []
named option (Some name) = option name ∷ []

-- the option, where it is set
abbrev pub flag : Part → Bool → List Part
flag option set = if set then option ∷ [] else []

-- all options of a question, each once
abbrev pub parts_of : Asked → List Part
parts_of asked =
    named Table asked.table ++ named Protocol asked.protocol ++ named Export asked.export
    ++ named Filter asked.filter ++ flag Primary asked.primary ++ flag All asked.all
    ++ flag Count asked.count

-- `where` and the words behind it, if there is an expression
abbrev pub condition_words : Option (List ℕ) → List (List ℕ)
condition_words None = []
condition_words (Some text) = codes "where" ∷ words_of text

-- What stands behind the word `route` asks this.
pub record IsQuestion (rest : List ℕ) (asked : Asked) : Type 0 where
  pub selector : List (List ℕ)
  -- its options, in any order
  pub parts : List Part
  -- the words before `where`
  pub front : List (List ℕ)
  pub front_is : front ≡ selector ++ flat_map part_words parts
  pub whole : words_of rest ≡ front ++ condition_words asked.condition
  pub selector_is : IsSelector selector asked.pick
  pub parts_are : IsPermutation (parts_of asked) parts
  pub names_are : IsTrue (list_all is_well_named parts)
  -- the expression is all that stands behind the word `where`, byte for byte
  pub condition_is : IfSome asked.condition (λ text. text ≡ behind_words (length front + 1) rest)
  pub one_table : IsTrue (is_none asked.table || is_none asked.export)
  pub one_choice : IsTrue (is_none asked.filter || is_none asked.condition)
