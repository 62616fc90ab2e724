-- An accepted configuration has few tables, and no more filters than bytes.
use Rattle.std.proofs.Common.{◌≡◌, ◌∙◌, ◌+◌, ◌<◌, ◌≤◌, ℕ, List, [], ◌∷◌, ◌++◌, length, map, None, sym, ap, subst, arith, inl, inr}
use Rattle.std.proofs.lemmas.Bool.{cases_Bool, ltb-true, not-false}
use Rattle.std.proofs.lemmas.List.{length-append, length-map}
use Rattle.std.specs.Prelude.{nat_lt}
use Rattle.conf_lex.specs.Grammar.{ParseTree, Single, Snoc, NoWords, yield}
use Rattle.conf_scan.specs.Lex.{Lexes}
use Rattle.conf_ast.specs.Names.{name_bytes}
use Rattle.conf_ast.specs.declared.named.Name.{Name}
use Rattle.conf_scan.specs.declared.token.Token.{Token}
use Rattle.conf_lex.specs.declared.word.Word.{Word}
use Rattle.conf_words.specs.Significant.{significant_words}
use Rattle.conf_tree.specs.View.{statement_tree, statements_tree}
use Rattle.conf_ast.specs.Configurations as conf
use Rattle.conf_ast.specs.Configurations.{declaration_of}
use Rattle.conf_ast.specs.declared.configurations.Statement.{Statement}
use Rattle.conf_ast.specs.declared.configurations.Statement.TheVariants as statements
use Rattle.conf_check.proofs.Allowed.{nil_right, none_refused}
use Rattle.conf_check.specs.Behind.{at_start, behind, behind_one}
use Rattle.conf_check.specs.Refused.{refusal_of}
use Rattle.conf_names.specs.Known.{Known, declaring}
use Rattle.conf_names.specs.Refusals.{first_in}
use Rattle.conf_rules.specs.Statements.{is_master, most_tables, one_more_table, refusals}
use Rattle.expr_syntax.specs.Rows.{row_after}
use Rattle.conf_system.specs.Policies.{Filter}
use Rattle.conf_system.specs.System.{System, filter_in, filters_behind, names_in, system_in}
use Rattle.conf_system.specs.Texts.{IsSystem, refused_in}
use Rattle.conf_system.proofs.Accepted.{neither}
use Rattle.conf_system.proofs.TablesThere.{not_refused}

-- ---- tables

-- there is room for one table more
table_room : (known : Known) (name : Name) → one_more_table known name ≡ [] → length known.tables < most_tables
table_room known name is = ltb-true (length known.tables) most_tables (not-false (nat_lt (length known.tables) most_tables) (not_refused _ name.at _ (nil_right (declaring known name) _ is)))

bounded : (known : Known) (d : conf.Declaration) → refusals known d ≡ [] → length known.tables ≤ most_tables → length (behind_one known d).tables ≤ most_tables
bounded known (conf.RouterId a) is few = few
bounded known conf.Log is few = few
bounded known (conf.Define name v) is few = few
bounded known (conf.Table at family name) is few = elim (cases_Bool (is_master known family name)) [
  | inl master ↦ rw master few
  | inr other ↦ rw other (omega (arith, table_room known name (rw other at is), length-append known.tables ((name_bytes known.scene.text name, family) ∷ [])))
]
bounded known (conf.DefineFunction f) is few = few
bounded known (conf.DefineFilter at name ss) is few = few
bounded known (conf.Device name semicolon) is few = few
bounded known (conf.Static p) is few = few
bounded known (conf.Bgp p) is few = few
bounded known (conf.Pipe p) is few = few

tables_few : (known : Known) (ds : List conf.Declaration) → refusal_of known ds ≡ None → length known.tables ≤ most_tables → length (behind known ds).tables ≤ most_tables
tables_few known [] is few = few
tables_few known (d ∷ ds) is few =
    let none = neither (first_in None (refusals known d)) (refusal_of (behind_one known d) ds) is in
    tables_few (behind_one known d) ds none.1 (bounded known d (none_refused (refusals known d) none.0) few)

few_tables : (text : List ℕ) (ds : List conf.Declaration) → refused_in text ds ≡ None → length (system_in text ds).tables ≤ most_tables
unfolding refused_in system_in
few_tables text ds is = tables_few (at_start text) ds is (omega arith)

pub have_few_tables : (text : List ℕ) (system : System) → IsSystem text system → length system.tables ≤ 64
have_few_tables text system is = subst (λ (s : System). length s.tables ≤ 64) (sym is.2) (few_tables text is.0 is.1.accepted)

-- ---- filters

-- each statement has a word
some_word : (s : Statement) → 1 ≤ length (yield (statement_tree s))
some_word (statements.RouterId a) = omega arith
some_word statements.Log = omega arith
some_word (statements.Define name value) = omega arith
some_word (statements.Table at family name) = omega arith
some_word (statements.Function f) = omega arith
some_word (statements.Filter at f) = omega arith
some_word (statements.Device name semicolon) = omega arith
some_word (statements.Static p) = omega arith
some_word (statements.Bgp p) = omega arith
some_word (statements.Pipe p) = omega arith

rows_long : (t : ParseTree) (ss : List Statement) → length (yield t) + length ss ≤ length (yield (row_after t (map statement_tree ss)))
rows_long t [] = omega arith
rows_long t (s ∷ ss) =
    omega (arith, rows_long (Snoc t (statement_tree s)) ss, length-append (yield t) (yield (statement_tree s)), some_word s)

filter_one : (text : List ℕ) (names : List (List ℕ)) (before : List conf.Declaration) (d : conf.Declaration) → length (filter_in text names before d) ≤ 1
filter_one text names before (conf.RouterId a) = omega arith
filter_one text names before conf.Log = omega arith
filter_one text names before (conf.Define name v) = omega arith
filter_one text names before (conf.Table at family name) = omega arith
filter_one text names before (conf.DefineFunction f) = omega arith
filter_one text names before (conf.DefineFilter at name ss) = omega arith
filter_one text names before (conf.Device name semicolon) = omega arith
filter_one text names before (conf.Static p) = omega arith
filter_one text names before (conf.Bgp p) = omega arith
filter_one text names before (conf.Pipe p) = omega arith

filters_few : (text : List ℕ) (names : List (List ℕ)) (before ds : List conf.Declaration) → length (filters_behind text names before ds) ≤ length ds
filters_few text names before [] = omega arith
filters_few text names before (d ∷ ds) =
    omega (
      arith,
      filters_few text names (before ++ d ∷ []) ds,
      length-append (filter_in text names before d) (filters_behind text names (before ++ d ∷ []) ds),
      filter_one text names before d,
    )

in_system : (text : List ℕ) (ds : List conf.Declaration) → length (system_in text ds).filters ≤ length ds
unfolding system_in
in_system text ds = filters_few text (names_in text ds) [] ds

module _ (few_words : (text : List ℕ) (tokens : List Token) → Lexes 0 text tokens → length (significant_words text tokens) ≤ length text) where
  pub have_few_filters : (text : List ℕ) (system : System) → IsSystem text system → length system.filters ≤ length text
  have_few_filters text system is =
      let accepted = is.1 in
      let whole : length (yield (statements_tree accepted.statements)) ≡ length (significant_words text accepted.tree.0) = ap (λ (ws : List Word). length ws) accepted.tree.2.whole in
      let all : length is.0 ≡ length accepted.statements = sym (ap (λ (ds : List conf.Declaration). length ds) accepted.are) ∙ length-map accepted.statements declaration_of in
      let filters : length system.filters ≤ length is.0 = subst (λ (s : System). length s.filters ≤ length is.0) (sym is.2) (in_system text is.0) in
      omega (arith, whole, all, filters, rows_long (Single NoWords) accepted.statements, few_words text accepted.tree.0 accepted.tree.1)
