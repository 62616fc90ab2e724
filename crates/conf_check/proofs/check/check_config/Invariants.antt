use Rattle.std.proofs.Common.{◌≡◌, take, drop}
use Rattle.conf_ast.specs.Configurations.{configuration_of}
use Rattle.conf_names.specs.Seen.{known_of}
use Rattle.conf_check.specs.Behind.{at_start}
use Rattle.conf_check.specs.Refused.{refusal_of}
use Rattle.conf_check.specs.Seen.{Stands}
use Rattle.conf_check.proofs.check.check_config.Given as goal

abbrev pub invariant-loop-statement : goal.invariant-loop-statement
invariant-loop-statement l = record {
  stands : Stands l.config.text.now (configuration_of (take l.statement-index l.statement-items)) l.checked;
  refusal : refusal_of (known_of l.config.text.now l.checked.declared) (configuration_of (drop l.statement-index l.statement-items)) ≡ refusal_of (at_start l.config.text.now) (configuration_of l.statement-items);
}
