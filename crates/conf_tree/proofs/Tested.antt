-- The grammar passes the test.
use Rattle.std.proofs.Common.{◌≡◌, true, refl}
use Rattle.conf_lex.proofs.Checks.{check}
use Rattle.expr_syntax.proofs.Tested.{model, after}
use Rattle.conf_syntax.specs.Syntax.{config}

pub config_checked : check model after config ≡ true
config_checked = refl
