use Rattle.conf_rules.specs.Statements.{refusals}
use Rattle.conf_names.specs.declared.refusal.Refusal.{Refusal}
use Rattle.std.proofs.Common.{Contains}
use Rattle.conf_places.specs.Configurations.{places}
use Rattle.conf_lex.specs.Grammar.{yield}
use Rattle.conf_tree.specs.View.{statement_tree}
use Rattle.conf_ast.specs.Configurations.{declaration_of}
use Rattle.conf_places.specs.Words.{of_words}
use Rattle.conf_places.proofs.Configurations.{declaration_stands, in_its_statement}
use Rattle.conf_places.proofs.Every.{all_of, members, of_one_among}
use Rattle.conf_places.proofs.Statements.{declaration_on}
use Rattle.conf_places.proofs.Trees.{on_tree}
use Rattle.conf_places.proofs.laws.refusals_stand_in_their_statement.Goals as goal

pub returns-clause-gathered : goal.returns-clause-gathered
returns-clause-gathered c = in_its_statement

pub returns-clause-counted : goal.returns-clause-counted
returns-clause-counted c known d r found =
    of_one_among (λ (s : Refusal). Contains (places d) s.at) (refusals known d) r
    (in_its_statement known d) (c.first_refusals_are_the_first.ensures.among (refusals known d) r found)

pub returns-clause-words : goal.returns-clause-words
returns-clause-words c known s fits =
    let words = of_words (yield (statement_tree s)) in
    all_of (λ (r : Refusal). Contains words r.at) (refusals known (declaration_of s))
    (declaration_stands (Contains words) known (declaration_of s)
    (declaration_on (Contains words) s fits (on_tree (Contains words) (statement_tree s) (members words))))
