use Rattle.std.proofs.Common.{◌≡◌, List, ℕ, [], ap, subst, sym, ◌∙◌, refl}
use Rattle.bits_ip.specs.declared.address.Family.TheVariants as families
use Rattle.conf_names.specs.declared.declared.Declared.{Declared}
use Rattle.conf_names.specs.Known.{Known, is_declared}
use Rattle.conf_names.specs.Seen.{known_of}
use Rattle.conf_rules.specs.Statements.{master}
use Rattle.conf_check.specs.Behind.{with_table}
use Rattle.conf_check.specs.Seen.{AreNamed}
use Rattle.conf_check.proofs.Growing.{empty_known}
use Rattle.conf_check.proofs.Names.{named_nothing, named_table, nothing}
use Rattle.conf_check.proofs.declare.declared_at_start.Goals as goal

first : (text : List ℕ) (empty one : Declared) → known_of text empty ≡ nothing text → known_of text one ≡ with_table (known_of text empty) (master families.V4) families.V4 → known_of text one ≡ with_table (nothing text) (master families.V4) families.V4
first text empty one none is = is ∙ ap (λ (k : Known). with_table k (master families.V4) families.V4) none

pub declare_table-requires-2-clause-free : goal.declare_table-requires-2-clause-free
declare_table-requires-2-clause-free c =
    let n = c.nothing-declared in
    let none = empty_known [] n.result n.ensures.constants n.ensures.functions n.ensures.others n.ensures.tables n.ensures.filters n.ensures.protocols n.ensures.pipes in
    ap (λ (k : Known). is_declared k (master families.V6)) (first [] n.result c.declare_table.new.declared none (c.in_ok-declare_table.ensures.known []))

pub declare_table-requires-2-clause-named : goal.declare_table-requires-2-clause-named
declare_table-requires-2-clause-named c =
    let n = c.nothing-declared in
    let none = empty_known [] n.result n.ensures.constants n.ensures.functions n.ensures.others n.ensures.tables n.ensures.filters n.ensures.protocols n.ensures.pipes in
    subst (λ (k : Known). AreNamed k) (sym (first [] n.result c.declare_table.new.declared none (c.in_ok-declare_table.ensures.known [])))
    (named_table (nothing []) (master families.V4) families.V4 (named_nothing (nothing []) refl refl))

pub returns-clause-known : goal.returns-clause-known
returns-clause-known c = λ text.
    let n = c.nothing-declared in
    let none = empty_known text n.result n.ensures.constants n.ensures.functions n.ensures.others n.ensures.tables n.ensures.filters n.ensures.protocols n.ensures.pipes in
    c.in_ok-declare_table-2.ensures.known text
    ∙ ap (λ (k : Known). with_table k (master families.V6) families.V6) (first text n.result c.declare_table.new.declared none (c.in_ok-declare_table.ensures.known text))
