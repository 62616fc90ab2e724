-- Each table has a place.
use Rattle.std.proofs.Common.{◌≡◌, ℕ, suc, ◌+◌, Bool, if◌then◌else◌, List, [], ◌∷◌, length, Result, Ok, Err, refl, ap, ◌∙◌, arith, length-append}
use Rattle.std.proofs.lemmas.List.{length-map}
use Rattle.bits_ip.specs.declared.address.Family.{Family}
use Rattle.conf_ast.specs.Names.{name_bytes}
use Rattle.conf_ast.specs.Configurations as conf
use Rattle.filt_meaning.specs.declared.value.Failure.{Failure}
use Rattle.filt_meaning.specs.Values.{Val}
use Rattle.filt_meaning.specs.Configuration.{constant}
use Rattle.conf_names.specs.Known.{Known}
use Rattle.conf_names.specs.Seen.{known_of}
use Rattle.conf_rules.specs.Statements.{is_master}
use Rattle.conf_check.specs.Behind.{at_start, behind, behind_one, context_in, with_table, with_value}
use Rattle.conf_check.specs.Checked.{IsChecked, declared_places, table_place}
use Rattle.conf_check.specs.declared.checked.Checked.{Checked}

-- ---- the text stays

value_text : (known : Known) (name : List ℕ) (r : Result Val Failure) → (with_value known.scene name r).text ≡ known.scene.text
value_text known name (Ok v) = refl
value_text known name (Err failure) = refl

table_text : (known : Known) (b : Bool) (name : List ℕ) (f : Family) → (if b then known else with_table known name f).scene.text ≡ known.scene.text
table_text known Bool.true name f = refl
table_text known Bool.false name f = refl

pub text_stays : (known : Known) (d : conf.Declaration) → (behind_one known d).scene.text ≡ known.scene.text
text_stays known (conf.RouterId a) = refl
text_stays known conf.Log = refl
text_stays known (conf.Define name v) = value_text known (name_bytes known.scene.text name) (constant (context_in known.scene) v)
text_stays known (conf.Table at family name) = table_text known (is_master known family name) (name_bytes known.scene.text name) family
text_stays known (conf.DefineFunction f) = refl
text_stays known (conf.DefineFilter at name ss) = refl
text_stays known (conf.Device name semicolon) = refl
text_stays known (conf.Static p) = refl
text_stays known (conf.Bgp p) = refl
text_stays known (conf.Pipe p) = refl

-- ---- as many places as tables

none_more : (n : ℕ) → n ≡ n + 0
none_more n = omega (arith)

table_counts : (known : Known) (b : Bool) (name : List ℕ) (f : Family) (at : ℕ) → length (if b then known else with_table known name f).tables ≡ length known.tables + length (if b then [] else at ∷ [])
table_counts known Bool.true name f at = none_more (length known.tables)
table_counts known Bool.false name f at = length-append known.tables ((name, f) ∷ [])

one_counts : (text : List ℕ) (known : Known) (d : conf.Declaration) → known.scene.text ≡ text → length (behind_one known d).tables ≡ length known.tables + length (table_place text d)
one_counts text known (conf.Table at family name) is =
    table_counts known (is_master known family name) (name_bytes known.scene.text name) family name.at
    ∙ ap (λ (t : List ℕ). length known.tables + length (if is_master (at_start t) family name then [] else name.at ∷ [])) is
one_counts text known (conf.RouterId a) is = none_more (length known.tables)
one_counts text known conf.Log is = none_more (length known.tables)
one_counts text known (conf.Define name v) is = none_more (length known.tables)
one_counts text known (conf.DefineFunction f) is = none_more (length known.tables)
one_counts text known (conf.DefineFilter at name ss) is = none_more (length known.tables)
one_counts text known (conf.Device name semicolon) is = none_more (length known.tables)
one_counts text known (conf.Static p) is = none_more (length known.tables)
one_counts text known (conf.Bgp p) is = none_more (length known.tables)
one_counts text known (conf.Pipe p) is = none_more (length known.tables)

all_counts : (text : List ℕ) (known : Known) (ds : List conf.Declaration) → known.scene.text ≡ text → length (behind known ds).tables ≡ length known.tables + length (declared_places text ds)
all_counts text known [] is = none_more (length known.tables)
all_counts text known (d ∷ ds) is =
    omega (arith, all_counts text (behind_one known d) ds (text_stays known d ∙ is), one_counts text known d is, length-append (table_place text d) (declared_places text ds))

pub each_has_one : (text : List ℕ) (ds : List conf.Declaration) (checked : Checked) → IsChecked text ds checked → length checked.table_places.items ≡ length checked.declared.tables.entries
each_has_one text ds checked is =
    let places : length checked.table_places.items ≡ suc (suc (length (declared_places text ds))) = ap (λ (l : List ℕ). length l) is.places in
    let tables : length (behind (at_start text) ds).tables ≡ 2 + length (declared_places text ds) = all_counts text (at_start text) ds refl in
    let known : length (known_of text checked.declared).tables ≡ length (behind (at_start text) ds).tables = ap (λ (k : Known). length k.tables) is.declared in
    let entries : length (known_of text checked.declared).tables ≡ length checked.declared.tables.entries = length-map checked.declared.tables.entries _ in
    omega (arith, places, tables, known, entries)
