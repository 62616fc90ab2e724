use Rattle.std.proofs.Common.{◌≡◌, ◌∙◌, sym, arith, true, false, Some, None}
use Rattle.std.proofs.lemmas.Grind.{common_steps}
use Rattle.script_lines.proofs.CommandParts.{add_acts, add_no_session, add_other_family, add_over_limit}
use Rattle.script_lines.proofs.commands.judge_add.Goals as goal

pub returns-in_default : goal.returns-in_default
returns-in_default c = λ bytes words is. add_no_session bytes c.args.named.now c.args.actor.now words c.args.said is c.in_default.ensures

pub returns-then-not-are_of_family : goal.returns-then-not-are_of_family
returns-then-not-are_of_family c = λ bytes words is. (
    let other : c.are_of_family.result ≡ false = grind (arith, common_steps) in
    add_other_family bytes c.args.named.now c.args.actor.now words c.args.said c.in-Some.protocol is c.in-Some.ensures (sym other ∙ c.are_of_family.ensures))

pub returns-in_default-given : goal.returns-in_default-given
returns-in_default-given c = λ bytes words is. (
    let same : c.are_of_family.result ≡ true = grind (arith, common_steps) in
    let none : None ≡ c.args.said.given = grind (arith, common_steps) in
    add_over_limit bytes c.args.named.now c.args.actor.now words c.args.said c.in-Some.protocol is c.in-Some.ensures (sym same ∙ c.are_of_family.ensures) none)

pub returns : goal.returns
returns c = λ bytes words is. (
    let same : c.are_of_family.result ≡ true = grind (arith, common_steps) in
    let there : Some c.in-Some-given.given ≡ c.args.said.given = grind (arith, common_steps) in
    add_acts bytes c.args.named.now c.args.actor.now words c.args.said c.in-Some.protocol c.in-Some-given.given is c.in-Some.ensures (sym same ∙ c.are_of_family.ensures) there)
