use Rattle.room_whole.proofs.Ended.{log_printed}
use Rattle.room_whole.proofs.Left.{is_legal}
use Rattle.room_whole.proofs.Whole.{whole}
use Rattle.room_whole.proofs.laws.played_phases_are_legal.Goals as goal

pub returns : goal.returns
returns g c = λ played next past standing after opening starts made stands was same few begin begins opens is behind setup passes.
    whole g.J.Judge.verdict g.P.Phase.terms g.P.Sends.exports g.P.Sends.rules played past standing opening starts made stands was same few begin begins opens is next after behind setup passes c.words_spell_one_entry.ensures
    (λ given. is_legal given c.what_threads_leave_is_legal.ensures)
