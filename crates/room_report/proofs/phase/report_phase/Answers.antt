use Rattle.std.proofs.Common.{List, ap, subst, ◌∙◌, refl}
use Rattle.std.specs.declared.alloc.Global.{Global}
use Rattle.std.specs.declared.vec.Vec.{Vec}
use Rattle.table_shared.specs.declared.close.Phase.{Phase}
use Rattle.phase_actors.specs.declared.actor.Told.{Told}
use Rattle.room_ends.specs.declared.ended.MemberEnded.{MemberEnded}
use Rattle.room_report.specs.Inside.{IsExportOf, IsLogOf, Reports, Serves, journal_of, mode_of, operations_of, replies_told, rows_of}
use Rattle.room_report.proofs.Written.{is_report}
use Rattle.room_report.proofs.phase.report_phase.Goals as goal

pub returns : goal.returns
returns g c = λ setup past p described prints.
    let names = c.args.names.now in
    let tables = c.args.tables.now in
    is_report setup tables names c.args.actors.now c.args.lines.now c.args.logged.now past p c.args.made.now described prints
    (record {
      number = c.args.number;
      protocols = c.in_ok-protocols.protocols;
      journals = c.in_ok-journals.journals;
      channels = c.in_ok-channels.channels;
      replies = c.in_ok-replies.replies;
      tables = c.in_ok-rows.rows;
      modes = c.in_ok-modes.modes;
      exports = c.in_ok-exports.exports;
    })
    c.args.number refl
    (subst (λ (l : List (MemberEnded g.row.J.Denot)). Reports (operations_of names c.args.lines.now) l c.in_ok-protocols.protocols) c.as_slice-members.ensures.value c.in_ok-protocols.ensures)
    (subst (λ (l : List Phase). Reports (journal_of tables) l c.in_ok-journals.journals) c.as_slice-phases.ensures.value c.in_ok-journals.ensures)
    (subst (λ (l : List (MemberEnded g.row.J.Denot)). Serves (IsLogOf names c.args.logged.now) l c.in_ok-channels.channels) c.as_slice-members.ensures.value c.in_ok-channels.ensures)
    (c.in_ok-replies.ensures ∙ ap (λ (l : List (Vec Told Global)). replies_told tables c.args.actors.now 0 l) c.as_slice.ensures.value)
    (subst (λ (l : List Phase). Reports (rows_of tables) l c.in_ok-rows.rows) c.as_slice-phases.ensures.value c.in_ok-rows.ensures)
    (subst (λ (l : List (MemberEnded g.row.J.Denot)). Reports (mode_of names) l c.in_ok-modes.modes) c.as_slice-members.ensures.value c.in_ok-modes.ensures)
    (subst (λ (l : List (MemberEnded g.row.J.Denot)). Serves (IsExportOf names) l c.in_ok-exports.exports) c.as_slice-members.ensures.value c.in_ok-exports.ensures)
