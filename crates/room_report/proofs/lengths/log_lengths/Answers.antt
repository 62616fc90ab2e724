use Rattle.std.proofs.Common.{List, ap, subst, sym, ◌∙◌, ℕ}
use Rattle.core_machine.specs.Legal.{join}
use Rattle.room_report.specs.Described.{AreLogged}
use Rattle.room_report.specs.Inside.{all_lengths}
use Rattle.room_report.proofs.Written.{lengths_written}
use Rattle.room_report.proofs.lengths.log_lengths.Goals as goal

pub returns : goal.returns
returns g c = λ setup tables names actors logged past lines p described prints.
    subst (λ (l : List ℕ). AreLogged setup (join past p) l) (sym (c.in_ok-lengths.ensures ∙ ap all_lengths c.as_slice-members.ensures.value))
    (lengths_written setup tables names actors logged past lines p c.args.made.now described prints)
