-- For private contracts alone: what is made of a statement, and what has been made of the
-- statements so far.
use Rattle.std.specs.Prelude.{◌≡◌, ℕ, ◌+◌, ◌*◌, ◌≤◌, Bool, true, false, List, [], ◌∷◌, ◌++◌, length, map, Option, None, Vec}
use Rattle.std.specs.Global.{Global}
use Rattle.std.specs.List.{All, list_any}
use Rattle.attrs.specs.declared.attributes.Attrs.{Attrs}
use Rattle.conf_ast.specs.declared.named.Name.{Name}
use Rattle.conf_ast.specs.Configurations as conf
use Rattle.conf_ast.specs.Configurations.{FamilyChannel}
use Rattle.conf_ast.specs.Filters.{Statements}
use Rattle.filt_meaning.specs.Configuration as meaning
use Rattle.filt_meaning.specs.Names.{Around, named_in, same_name}
use Rattle.filt_types.specs.Items.{is_none}
use Rattle.filt_meaning.specs.declared.scope.Scope.{Scope}
use Rattle.filt_meaning.specs.declared.scope.TFunction.{TFunction}
use Rattle.filt_meaning.specs.declared.tree.TFilter.{TFilter}
use Rattle.filt_meaning.specs.Scopes.{constant_values, context_of, function_trees}
use Rattle.filt_meaning.specs.Steps.{filter_steps}
use Rattle.filt_meaning.specs.Trees.{tree_flow}
use Rattle.filt_types.specs.Seen.{scene_of}
use Rattle.filt_types.specs.Weight.{block_weight}
use Rattle.filt_meaning.specs.declared.fixed.Fixed.{Fixed}
use Rattle.conf_names.specs.declared.declared.Declared.{Declared}
use Rattle.conf_names.specs.Known.{Known}
use Rattle.conf_names.specs.Seen.{known_of}
use Rattle.conf_rules.specs.Statements.{refusals}
use Rattle.conf_check.specs.declared.checked.Checked.{Checked}
use Rattle.conf_check.specs.declared.checked.ProtocolDef.{ProtocolDef}
use Rattle.conf_check.specs.Behind.{at_start, behind, behind_one}
use Rattle.conf_check.specs.Checked.{AreLight, AreProtocols, DoEach, Does, SeesAs, IsProtocol, filter_sources, is_protocol, table_place, table_places}

-- ---- filters

-- The tree does what the statements do where the scope declares what there is, and sees all of the
-- scope's constants and functions.
pub record Means (text : List ℕ) (scope : Scope) (ss : Statements) (f : TFilter) : Type 0 where
  pub does : (around : Around) (attrs : Attrs)
      → tree_flow around (constant_values scope) (function_trees scope) f attrs
      ≡ meaning.body (context_of text around scope []) [] ss [] attrs
  pub constants : f.constants ≡ length (constant_values scope)
  pub functions : f.functions ≡ length (function_trees scope)
  pub steps : (more : List TFunction) → filter_steps (function_trees scope ++ more) f
      ≤ 5 * block_weight (scene_of text scope) ss

-- as `Does`, and it goes on doing so where the scope declares more
pub record Lasts (text : List ℕ) (scope : Scope) (before : List conf.Declaration)
    (ss : Statements) (f : TFilter) : Type 0 where
  pub does : Does text scope before ss f
  pub constants : f.constants ≤ length (constant_values scope)
  pub functions : f.functions ≤ length (function_trees scope)

-- ---- scopes

-- no function sees more constants than there are
abbrev pub AreWithin : Scope → Type 0
AreWithin scope =
    All (λ (f : TFunction). f.constants ≤ length (constant_values scope)) (function_trees scope)

-- the names of filters, tables and protocols
abbrev pub other_names : Scope → List (List ℕ)
other_names scope = map (λ name. name.items) scope.others.keys

-- constants and functions stay
pub record Stays (scope after : Scope) : Type 0 where
  pub constants : after.constants.entries ≡ scope.constants.entries
  pub functions : after.functions.entries ≡ scope.functions.entries

-- constants and functions come behind the others
pub record Grows (scope after : Scope) : Type 0 where
  pub constants : (more : List Fixed) × (constant_values after ≡ constant_values scope ++ more)
  pub functions : (more : List TFunction) × (function_trees after ≡ function_trees scope ++ more)

-- what stands for a name comes behind the others
abbrev pub Joins : {A : Type 0} → List ℕ → A → List (Vec ℕ Global × A)
    → List (Vec ℕ Global × A) → Type 0
Joins name a old new =
    (key : Vec ℕ Global) × (key.items ≡ name) × (new ≡ old ++ (key, a) ∷ [])

-- ---- statements

-- The names of tables and filters are among the other names.
abbrev pub AreNamed : Known → Type 0
AreNamed known = (name : List ℕ)
    → list_any (λ n. same_name n name) known.scene.others ≡ false
    → (named_in known.tables name ≡ None)
    × (list_any (λ n. same_name n name) known.filters ≡ false)

-- Nothing is refused of the statement.
abbrev pub IsAllowed : List ℕ → conf.Declaration → Declared → Type 0
IsAllowed text d declared =
    (refusals (known_of text declared) d ≡ []) × AreNamed (known_of text declared)

-- with one protocol more
abbrev pub counted : Known → Known
counted known = record {
  scene = known.scene;
  tables = known.tables;
  filters = known.filters;
  protocols = known.protocols + 1;
  pipes = known.pipes;
}

-- what a statement declares
pub record Declares (text : List ℕ) (d : conf.Declaration) (old new : Declared) : Type 0 where
  pub known : known_of text new ≡ behind_one (known_of text old) d
  pub grows : Grows old.scope new.scope
  pub sees : AreWithin old.scope → (around : Around) → context_of text around new.scope []
      ≡ meaning.behind_one (context_of text around old.scope []) d
  pub within : AreWithin old.scope → AreWithin new.scope
  pub light : AreLight (function_trees old.scope) → AreLight (function_trees new.scope)

-- one comes behind the others, where there is one
abbrev pub AddsOne : {A : Type 0} → (is_there : Bool) → (A → Type 0) → List A → List A → Type 0
AddsOne false is old new = new ≡ old
AddsOne {A = A} true is old new = (a : A) × (new ≡ old ++ a ∷ []) × is a

-- the filter of a statement
abbrev pub AddsFilter : (Statements → TFilter → Type 0) → conf.Declaration → List TFilter
    → List TFilter → Type 0
AddsFilter means (conf.DefineFilter at name ss) old new = AddsOne true (means ss) old new
AddsFilter means _ old new = new ≡ old

-- its protocol
abbrev pub AddsProtocol : Known → (Statements → TFilter → Type 0) → conf.Declaration
    → List ProtocolDef → List ProtocolDef → Type 0
AddsProtocol known means d = AddsOne (is_protocol d) (IsProtocol known means d)

-- the place of its table
abbrev pub AddsPlace : (text : List ℕ) → conf.Declaration → (old new : List ℕ) → Type 0
AddsPlace text (conf.Table at family name) old new =
    new ≡ old ++ table_place text (conf.Table at family name)
AddsPlace text _ old new = new ≡ old

-- what is made of a statement
pub record Adds (text : List ℕ) (d : conf.Declaration) (old new : Checked) : Type 0 where
  pub declares : Declares text d old.declared new.declared
  pub filters : AddsFilter (Means text old.declared.scope) d old.filters.items new.filters.items
  pub protocols : AddsProtocol (known_of text old.declared) (Means text old.declared.scope) d
      old.protocols.items new.protocols.items
  pub places : AddsPlace text d old.table_places.items new.table_places.items
  pub end : new.end ≡ old.end

-- ---- configurations

-- what has been made of these statements
pub record Stands (text : List ℕ) (before : List conf.Declaration) (checked : Checked)
    : Type 0 where
  pub declared : known_of text checked.declared ≡ behind (at_start text) before
  pub filters : DoEach (Lasts text checked.declared.scope) (filter_sources [] before)
      checked.filters.items
  pub protocols : AreProtocols text (Lasts text checked.declared.scope) [] before
      checked.protocols.items
  pub places : checked.table_places.items ≡ table_places text before
  pub end : checked.end ≡ length text
  pub sees : SeesAs text before checked.declared.scope
  pub within : AreWithin checked.declared.scope
  pub light : AreLight (function_trees checked.declared.scope)

-- ---- channels

-- a protocol has one channel
abbrev pub HasOne : List FamilyChannel → Type 0
HasOne cs = (c : FamilyChannel) × (cs ≡ c ∷ [])

-- and a pipe a peer table
abbrev pub HasPeer : Option Name → Type 0
HasPeer peer = is_none peer ≡ false
