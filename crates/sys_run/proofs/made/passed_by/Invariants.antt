use Rattle.std.proofs.Common.{◌≡◌, ℕ, List, length}
use Rattle.core_setup.specs.Protocols.{passed_below, rules_of}
use Rattle.show_route.specs.declared.query.Query.{Query}
use Rattle.sys_run.specs.Made.{AreLists}
use Rattle.sys_run.specs.Parts.{setup_seen}
use Rattle.sys_run.specs.declared.parts.TableParts.{TableParts}
use Rattle.sys_run.proofs.made.passed_by.Given as goal

abbrev pub invariant-loop-protocol : goal.invariant-loop-protocol
invariant-loop-protocol g l =
    (length l.passed.items ≡ length l.initial.passed.items) × (l.number ≡ l.protocol-index)
    × ((parts : List TableParts) (cells : ℕ) (choices : List g.row.J.Denot) (queries : List Query) → length parts ≡ l.tables
    → AreLists l.passed.items (λ c. passed_below (rules_of (setup_seen g.J.Judge.verdict parts l.protocols cells choices queries)) c l.protocol-index))
